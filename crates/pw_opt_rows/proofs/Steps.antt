-- What is known behind operations, operation by operation.
use Rattle.std.proofs.Common.{◌≡◌, ℕ, ◌+◌, ◌<◌, List, [], ◌∷◌, ◌++◌, length, get_or, take, refl, ap, ◌∙◌}
use Rattle.std.proofs.lemmas.List.{take_more}
use Rattle.pw_flow.specs.declared.flow.Op.{Op}
use Rattle.pw_opt_rules.specs.declared.flat.Flat.{Flat}
use Rattle.pw_opt_rules.specs.Rows.{behind}

behind_join : (transfer : List Flat → Op → List Flat) (row : List Flat) (xs ys : List Op) → behind transfer row (xs ++ ys) ≡ behind transfer (behind transfer row xs) ys
behind_join transfer row [] ys = refl
behind_join transfer row (x ∷ xs) ys = behind_join transfer (transfer row x) xs ys

-- one operation more
pub behind_more : (transfer : List Flat → Op → List Flat) (row : List Flat) (ops : List Op) (k : ℕ) (o : Op) → k < length ops → get_or ops k o ≡ o
    → behind transfer row (take (k + 1) ops) ≡ transfer (behind transfer row (take k ops)) o
behind_more transfer row ops k o lt is =
    ap (behind transfer row) (take_more ops k o lt) ∙ behind_join transfer row (take k ops) (get_or ops k o ∷ []) ∙ ap (transfer (behind transfer row (take k ops))) is
