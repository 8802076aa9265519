use Rattle.std.proofs.Common.{map, sym, ◌∙◌, arith}
use Rattle.std.specs.Prelude.{string_bytes}
use Rattle.pw_store_modules.proofs.ModuleLemmas.{mapped_rest, place_here, place_passed}
use Rattle.pw_store_modules.specs.Reading.{is_file_before}
use Rattle.pw_store_modules.proofs.modules.first_behind.Goals as goal

pub returns-then-is_file_before-clause-place : goal.returns-then-is_file_before-clause-place
returns-then-is_file_before-clause-place c =
    place_here (is_file_before c.args.file.now) c.loop-i.i (map string_bytes c.args.files.now) _ (string_bytes c.index-files-i.result) c.loop-i.invariant
    (mapped_rest string_bytes c.args.files.now c.loop-i.i c.index-files-i.result (omega arith) c.index-files-i.is) (rw (← c.as_str.ensures.value) (sym c.is_file_before.ensures ∙ c.if-is_file_before.true))

pub loop-i-preserved : goal.loop-i-preserved
loop-i-preserved c =
    place_passed (is_file_before c.args.file.now) c.loop-i.i (map string_bytes c.args.files.now) _ (string_bytes c.index-files-i.result) c.loop-i.invariant
    (mapped_rest string_bytes c.args.files.now c.loop-i.i c.index-files-i.result (omega arith) c.index-files-i.is) (rw (← c.as_str.ensures.value) (sym c.is_file_before.ensures ∙ c.if-is_file_before.false))
