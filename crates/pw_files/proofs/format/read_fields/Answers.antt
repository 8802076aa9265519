use Rattle.std.proofs.Common.{◌≡◌, []}
use Rattle.std.proofs.lemmas.Result.{err_from_is_err_and}
use Rattle.pw_files.proofs.ContentsLaws.{late_fault, nothing_left}
use Rattle.pw_files.proofs.format.read_fields.Goals as goal

pub returns-in_err-check_late : goal.returns-in_err-check_late
returns-in_err-check_late g c =
    let p = err_from_is_err_and c.from_residual-in_err-check_late.result c.from_residual-in_err-check_late.ensures.1 in
    let none : c.in_ok-value.rest.now ≡ [] = nothing_left c.in_ok-value.rest.now c.is_empty.result c.is_empty.ensures c.if-not-is_empty.false in
    rw (p.1, p.2, c.in_ok-value.ensures.found _, none) (late_fault _ _ _ c.in_err-check_late.ensures)
