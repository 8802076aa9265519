use Rattle.std.proofs.Common.{ap, ◌∙◌, arith, map}
use Rattle.pw_token.proofs.WordLaws.{longest_starting}
use Rattle.pw_token.specs.Scanning.{longest_in}
use Rattle.pw_token.specs.Words.{all_marks, mark_text, starting_with}
use Rattle.pw_token.proofs.marks.longest_mark.Goals as goal

pub loop-rest-init : goal.loop-rest-init
loop-rest-init c = (
  ap (λ xs. longest_in 0 (map mark_text xs) c.args.text.now) (c.marks_from-rest.ensures ∙ ap (λ b. starting_with mark_text b all_marks) c.byte_at.ensures.value)
      ∙ longest_starting mark_text all_marks 0 c.args.text.now,
  omega arith,
)
