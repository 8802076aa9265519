use Rattle.std.proofs.Common.{ap, ◌∙◌}
use Rattle.pw_token.proofs.WordLaws.{found_starting}
use Rattle.pw_token.specs.Words.{all_marks, mark_text, starting_with, with_text}
use Rattle.pw_token.proofs.symbol.Mark.with_text.Goals as goal

pub loop-rest-init : goal.loop-rest-init
loop-rest-init c =
    ap (λ xs. with_text mark_text xs c.args.text.now) (c.marks_from-rest.ensures ∙ ap (λ b. starting_with mark_text b all_marks) c.byte_at.ensures.value)
    ∙ found_starting mark_text all_marks c.args.text.now
