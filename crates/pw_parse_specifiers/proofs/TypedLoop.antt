-- The loop that reads specifiers beside the recursion that reads them from the beginning.
use Rattle.std.proofs.Common.{◌≡◌, ℕ, ◌+◌, ◌-◌, ◌<◌, ◌≤◌, Bool, false, ◌||◌, List, [], ◌∷◌, ◌++◌, Some, Ok, Err, sym, ap, ◌∙◌, arith}
use Rattle.pw_tree.specs.Scopes.{has_type}
use Rattle.pw_tree.specs.Trees.{Specifiers, NoSpecifier}
use Rattle.pw_tree.specs.Views.{view_specifier}
use Rattle.pw_tree.specs.declared.expr.Specifier.{Specifier}
use Rattle.pw_parse_grammar.specs.Input.{Input, Outcome, and_then}
use Rattle.pw_parse_grammar.specs.Parts.{Parts}
use Rattle.pw_parse_grammar.specs.Specifiers.{specifier, specifiers_from, specifiers_behind}
use Rattle.pw_parse_cursor.proofs.Loops.{prepend, prepend-snoc, behind, behind_same, behind_behind, behind_none, later}

-- the whole outcome, and what was read so far before the outcome from here
pub record Typed (p : Parts) (storage : Bool) (whole : Outcome Specifiers) (found : List Specifier) (left : ℕ) (typed : Bool) (i : Input) : Type 0 where
  pub is : whole ≡ behind (prepend view_specifier found) (specifiers_from p storage left typed i)

pub typed_begins : (p : Parts) (storage : Bool) (found : List Specifier) (n m : ℕ) (i : Input) → found ≡ [] → m ≡ n
    → Typed p storage (specifiers_from p storage n false i) found m false i
typed_begins p storage found n m i none same =
    record {
      is = ap (λ k. specifiers_from p storage k false i) (sym same) ∙ behind_none (specifiers_from p storage m false i)
          ∙ ap (λ xs. behind (prepend view_specifier xs) (specifiers_from p storage m false i)) (sym none);
    }

module _ {p : Parts} {storage : Bool} {whole : Outcome Specifiers} {found : List Specifier} {typed : Bool} {i : Input} (end at : ℕ) where
  pub typed_unrolled : at < end → Typed p storage whole found (end - at) typed i
      → whole ≡ behind (prepend view_specifier found) (and_then (specifier p storage typed i) (specifiers_behind (specifiers_from p storage (end - (at + 1))) typed))
  unfolding specifiers_from
  typed_unrolled below so_far = so_far.is ∙ later (λ n. behind (prepend view_specifier found) (specifiers_from p storage n typed i)) end at below

  pub typed_keeps : at < end → Typed p storage whole found (end - at) typed i
      → (x : Specifier) (j : Input) (after : List Specifier) (typed_after : Bool)
      → specifier p storage typed i ≡ Ok (Some (view_specifier x), j) → after ≡ found ++ x ∷ []
      → typed_after ≡ (typed || has_type (view_specifier x NoSpecifier))
      → Typed p storage whole after (end - (at + 1)) typed_after j
  typed_keeps below so_far x j after typed_after read kept now =
      let m = end - (at + 1) in
      let t = typed || has_type (view_specifier x NoSpecifier) in
      record {
        is = typed_unrolled below so_far
            ∙ ap (λ o. behind (prepend view_specifier found) (and_then o (specifiers_behind (specifiers_from p storage m) typed))) read
            ∙ behind_behind (prepend view_specifier found) (view_specifier x) (specifiers_from p storage m t j)
            ∙ behind_same (λ more. prepend-snoc view_specifier found x more ∙ ap (λ xs. prepend view_specifier xs more) (sym kept)) (specifiers_from p storage m t j)
            ∙ ap (λ b. behind (prepend view_specifier after) (specifiers_from p storage m b j)) (sym now);
      }

  pub typed_runs_out : end ≤ at → Typed p storage whole found (end - at) typed i → whole ≡ Err i
  unfolding specifiers_from
  typed_runs_out above so_far =
      let none : end - at ≡ 0 = omega arith in so_far.is ∙ ap (λ n. behind (prepend view_specifier found) (specifiers_from p storage n typed i)) none
