use Rattle.std.proofs.Common.{arith}
use Rattle.std.proofs.lemmas.Grind.{common_steps}
use Rattle.pw_value.proofs.ShapeLemmas.{GivesDigits-by_front, no_GivesDigits}
use Rattle.pw_value.proofs.shape.gives_digits.Goals as goal

pub returns-then-digits-gt0 : goal.returns-then-digits-gt0
returns-then-digits-gt0 c =
    GivesDigits-by_front
    c.args.closing.now c.args.text.now c.split_at.result.1.now c.digits_at_front-digits.result c.eq.result
    c.requires c.digits_at_front-digits.ensures.count c.if-digits-gt0.true c.split_at.ensures.back c.eq.ensures

pub returns-else-digits-gt0 : goal.returns-else-digits-gt0
returns-else-digits-gt0 c = (
  (λ h. absurd (grind (arith, common_steps))),
  (λ gives. absurd (no_GivesDigits c.args.closing.now c.args.text.now c.requires (omega arith) gives)),
)
