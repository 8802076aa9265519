-- The names of members.
use Rattle.std.proofs.Common.{◌≡◌, ℕ, ◌||◌, List, [], ◌∷◌, bytes_eq, refl, ap, ◌∙◌}
use Rattle.std.specs.Cmp.Lexicographic.{nat_list_eq_equiv}
use Rattle.std.specs.List.{list_any}
use Rattle.pw_types.specs.Views.{view_members}
use Rattle.pw_types.specs.declared.record.Member.{Member}
use Rattle.pw_check_records.specs.Parts.{names_of_members}

-- a name is among the names of members where a member has it
pub any_named : (name : List ℕ) (xs : List Member) → list_any (bytes_eq name) (names_of_members xs) ≡ list_any (λ m. bytes_eq m.name name) (view_members xs)
any_named name [] = refl
any_named name (x ∷ xs) =
    ap (λ b. b || list_any (bytes_eq name) (names_of_members xs)) (nat_list_eq_equiv.symm name x.name)
    ∙ ap (λ b. bytes_eq x.name name || b) (any_named name xs)
