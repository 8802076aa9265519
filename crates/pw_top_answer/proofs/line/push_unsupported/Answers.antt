use Rattle.std.proofs.Common.{append_assoc}
use Rattle.pw_top_answer.proofs.line.push_unsupported.Goals as goal

pub returns : goal.returns
returns c =
    rw (c.in_ok-push_decimal.ensures, c.in_ok-extend_from_slice-3.ensures.items, c.in_ok-extend_from_slice-2.ensures.items, c.in_ok-extend_from_slice.ensures.items, c.feature_name.ensures)
    (simp append_assoc)
