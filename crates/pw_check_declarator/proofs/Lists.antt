-- Steps, bindings and parameters as they show.
use Rattle.std.proofs.Common.{◌≡◌, eqb, Option, None, Some, List, [], ◌∷◌, ◌++◌, length, map, reverse, refl, ap, sym, arith}
use Rattle.std.proofs.Math.Dec.{eqb-suc-zero}
use Rattle.std.proofs.lemmas.List.{reverse-append, length-reverse}
use Rattle.std.specs.Option.{option_or}
use Rattle.pw_types.specs.TypeTrees as tree
use Rattle.pw_types.specs.Views.{view_qtype, view_types}
use Rattle.pw_types.specs.declared.ctype.QType.{QType}
use Rattle.pw_check_rules.specs.Kinds.{types_in}
use Rattle.pw_check_rules.specs.Leaves.{is_nil}
use Rattle.pw_check_state.specs.PhraseViews.{view_bound, view_derivation, view_derivations, view_parameters}
use Rattle.pw_check_state.specs.declared.phrase.Bindings.{Bindings}
use Rattle.pw_check_state.specs.declared.phrase.Derivation as code
use Rattle.pw_check_state.specs.declared.phrase.Parameter.{Parameter}

empty_of_length : {X : Type 0} (xs : List X) → length xs ≡ 0 → xs ≡ []
empty_of_length [] none = refl
empty_of_length (x ∷ xs) none = absurd (omega arith)

-- no steps
pub turned_none : [] ≡ view_derivations (reverse [])
turned_none = ap view_derivations (sym (empty_of_length {X = code.Derivation} (reverse []) (length-reverse {A = code.Derivation} [])))

-- a step more, in the order of the text
pub turned_push : (xs : List code.Derivation) (x : code.Derivation) → view_derivations (reverse (xs ++ x ∷ [])) ≡ view_derivation x ∷ view_derivations (reverse xs)
turned_push xs x = ap view_derivations (reverse-append xs (x ∷ []))

pub shown_append : (xs ys : List code.Derivation) → view_derivations (xs ++ ys) ≡ view_derivations xs ++ view_derivations ys
shown_append [] ys = refl
shown_append (x ∷ xs) ys = ap (λ zs. view_derivation x ∷ zs) (shown_append xs ys)

-- the first of two lists of parameters counts
pub bound_or : (a b : Option Bindings) → view_bound (option_or a b) ≡ option_or (view_bound a) (view_bound b)
bound_or None b = refl
bound_or (Some x) b = refl

pub nil_shown : (xs : List Parameter) → is_nil (view_parameters xs) ≡ eqb (length xs) 0
nil_shown [] = refl
nil_shown (x ∷ xs) = sym (eqb-suc-zero (length xs))

-- types in order
pub types_shown : (qs : List QType) → view_types qs ≡ types_in (map view_qtype qs)
types_shown [] = refl
types_shown (q ∷ qs) = ap (tree.OneType (view_qtype q)) (types_shown qs)
