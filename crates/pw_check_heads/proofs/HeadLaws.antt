-- What stands before a function's body: the step nearest to the name, and what its parts make.
use Rattle.std.proofs.Common.{◌≡◌, ℕ, suc, ◌-◌, Bool, true, false, Option, None, Some, Result, List, [], ◌∷◌, length, slice_get, refl, ap, sym, subst, ◌∙◌, arith}
use Rattle.pw_check_state.specs.PhraseViews.{view_derivation, view_derivations}
use Rattle.pw_check_state.specs.declared.phrase.Derivation.{Derivation}
use Rattle.pw_tree.specs.Trees.{Word}
use Rattle.pw_tree.specs.declared.expr.StorageClass.{StorageClass}
use Rattle.pw_tree.specs.Views.{view_decls}
use Rattle.pw_tree.specs.declared.decl.Decl.{Decl}
use Rattle.pw_check_rules.specs.Leaves.{is_nil}
use Rattle.pw_types.specs.TypeTrees.{QType}
use Rattle.pw_check_walk.specs.declared.constraints.CheckFault.{CheckFault}
use Rattle.pw_check_walk.specs.Calls.{Obeys}
use Rattle.pw_check_rules.specs.Functions.{ends_in_function}
use Rattle.pw_check_rules.specs.Derivations as spec
use Rattle.pw_check_rules.specs.Derivations.{Bindings, built}
use Rattle.pw_check_rules.specs.Limits.{Spot}
use Rattle.pw_check_rules.specs.States.{State}
use Rattle.pw_check_heads.specs.Parts.{is_function_step, one_head}

-- ---- the step nearest to the name

last_same : (x y : Derivation) (rest : List Derivation)
    → slice_get (x ∷ y ∷ rest) (length (x ∷ y ∷ rest) - 1) ≡ slice_get (y ∷ rest) (length (y ∷ rest) - 1)
last_same x y rest =
    let e : length (x ∷ y ∷ rest) - 1 ≡ suc (length (y ∷ rest) - 1) = omega arith in
    ap (slice_get (x ∷ y ∷ rest)) e

ends_alone : (x : spec.Derivation) → is_function_step x ≡ ends_in_function (x ∷ [])
unfolding ends_in_function
ends_alone (spec.ToPointer t qs) = refl
ends_alone (spec.ToArray n) = refl
ends_alone (spec.ToFunction ps) = refl

ends_later : (x y : spec.Derivation) (rest : List spec.Derivation) → ends_in_function (x ∷ y ∷ rest) ≡ ends_in_function (y ∷ rest)
unfolding ends_in_function
ends_later (spec.ToPointer t qs) y rest = refl
ends_later (spec.ToArray n) y rest = refl
ends_later (spec.ToFunction ps) y rest = refl

nothing_ends : false ≡ ends_in_function []
unfolding ends_in_function
nothing_ends = refl

same_some : {X : Type 0} (x y : X) → Some x ≡ Some y → x ≡ y
same_some x y e = cc

pub ends_step : (xs : List Derivation) (x : Derivation) → Some x ≡ slice_get xs (length xs - 1)
    → is_function_step (view_derivation x) ≡ ends_in_function (view_derivations xs)
ends_step [] x e = absurd (cc)
ends_step (y ∷ []) x e = ap (λ d. is_function_step (view_derivation d)) (same_some x y e) ∙ ends_alone (view_derivation y)
ends_step (y ∷ z ∷ rest) x e =
    ends_step (z ∷ rest) x (e ∙ last_same y z rest) ∙ sym (ends_later (view_derivation y) (view_derivation z) (view_derivations rest))

pub ends_none : (xs : List Derivation) → None ≡ slice_get xs (length xs - 1) → false ≡ ends_in_function (view_derivations xs)
ends_none [] e = nothing_ends
ends_none (y ∷ []) e = absurd (cc)
ends_none (y ∷ z ∷ rest) e =
    ends_none (z ∷ rest) (e ∙ last_same y z rest) ∙ sym (ends_later (view_derivation y) (view_derivation z) (view_derivations rest))

pub nil_some : (ds : List Decl) (d : Decl) → Some d ≡ slice_get ds 0 → false ≡ is_nil (view_decls ds)
nil_some [] d e = absurd (cc)
nil_some (x ∷ xs) d e = refl

pub nil_none : (ds : List Decl) → None ≡ slice_get ds 0 → true ≡ is_nil (view_decls ds)
nil_none [] e = refl
nil_none (x ∷ xs) e = absurd (cc)

-- ---- parts of the rule

-- a type is built the same at an equal spot
pub built_of : {R : Type 0} {view : R → QType} {r : Result R CheckFault} {left : State} {a b : Spot} (steps : List spec.Derivation) (q : QType) (s : State)
    → a ≡ b → Obeys view (built a steps q s) r left → Obeys view (built b steps q s) r left
built_of {R} {view} {r} {left} {a} {b} steps q s e o = subst (λ w. Obeys view w r left) (λ j. built (e j) steps q s) o

pub head_shown : {word w : Word} {x y : Bindings} {e f : Bool} (storage : Option StorageClass) (tag : Option ℕ) (q : QType) → word ≡ w → x ≡ y → e ≡ f
    → one_head word storage tag x e q ≡ one_head w storage tag y f q
head_shown storage tag q h k l = λ j. one_head (h j) storage tag (k j) (l j) q
