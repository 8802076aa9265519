-- Where nothing is known, operands stay.
use Rattle.std.proofs.Common.{◌≡◌, ◌∙◌, ℕ, List, [], ◌∷◌, map, refl, ap}
use Rattle.pw_flow.specs.declared.flow.Op.{Op}
use Rattle.pw_flow.specs.declared.flow.Op.TheVariants as op
use Rattle.pw_opt_rules.specs.declared.flat.Flat.{Flat}
use Rattle.pw_opt_rules.specs.Copies.{original, with_operands}

originals_stay : (args : List ℕ) → map (original []) args ≡ args
originals_stay [] = refl
originals_stay (a ∷ args) = ap (λ (rest : List ℕ). a ∷ rest) (originals_stay args)

operands_stay : (o : Op) → with_operands (original []) o ≡ o
operands_stay (op.Call t f args) = ap (op.Call t f) (originals_stay args)
operands_stay (op.CallInd t a shape args) = ap (op.CallInd t a shape) (originals_stay args)
operands_stay _ = refl

pub nothing_known : (row : List Flat) (o : Op) → row ≡ [] → with_operands (original row) o ≡ o
nothing_known row o is = ap (λ (r : List Flat). with_operands (original r) o) is ∙ operands_stay o
