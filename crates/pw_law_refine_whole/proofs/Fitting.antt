-- Arguments fit the parameters: each is a value of the parameter's type, and the parameters are the first locals.
use Rattle.std.proofs.Common.{◌≡◌, ℕ, zero, suc, ◌+◌, ◌≤◌, Bool, true, false, nat_lt, if◌then◌else◌, Some, List, [], ◌∷◌, length, take, refl, ap, sym, subst, arith, ltb-false}
use Rattle.std.proofs.lemmas.List.Elements.{All-contains}
use Rattle.pw_value.specs.declared.value.Value.{Value}
use Rattle.pw_types.specs.TypeTrees.{CType, QTypes, NoType, OneType, type_of, is_volatile}
use Rattle.pw_types.specs.TypedTrees.{LocalValue}
use Rattle.pw_types.specs.TypedModules.{AreParameters, IsFunction, WellTyped}
use Rattle.pw_types.specs.Shapes.{letter_of, letters_of, shape_of}
use Rattle.pw_types.specs.WellTyped.{IsScalar}
use Rattle.pw_lower.specs.declared.place.LocalPlace.{LocalPlace}
use Rattle.pw_lower.specs.declared.place.LocalPlace.TheVariants.{Temp, Slot}
use Rattle.pw_lower.specs.Places.{is_kept, places_from, temps_from}
use Rattle.pw_lower.specs.Modules.{lowered_function}
use Rattle.pw_cmean.specs.Worlds.{ProgramModule}
use Rattle.pw_cmean.specs.Typed.{IsValueOf}
use Rattle.pw_cmean.proofs.SoundTrees.{letter-result}
use Rattle.pw_law_refine.specs.Activations.{Activation, IsActivation, graph_of}
use Rattle.pw_law_refine.specs.Calls.{FitLetters, FitShape}

-- ---- values

-- each value is of the type of its local, a scalar
abbrev pub Fit : List Value → List LocalValue → Type 0
Fit [] ls = Unit {0}
Fit (v ∷ vs) [] = ⊥
Fit (v ∷ vs) (l ∷ ls) = (IsScalar (type_of l.ty) × IsValueOf (type_of l.ty) v) × Fit vs ls

fit-parameters : (q : QTypes) (ls : List LocalValue) (vs : List Value) → AreParameters q ls → FitLetters (letters_of q) vs → Fit vs ls
fit-parameters NoType [] [] h f = tt
fit-parameters NoType [] (v ∷ vs) h f = absurd f
fit-parameters NoType (l ∷ ls) vs h f = absurd h
fit-parameters (OneType q rest) [] vs h f = absurd h
fit-parameters (OneType q rest) (l ∷ ls) [] h f = absurd f
fit-parameters (OneType q rest) (l ∷ ls) (v ∷ vs) h f = (
  (subst IsScalar (sym h.1) h.0, letter-result (letter_of (type_of q)) (type_of l.ty) (Some v) (ap letter_of h.1) f.0),
  fit-parameters rest ls vs h.2 f.1,
)

fit-front : (n : ℕ) (ls : List LocalValue) (vs : List Value) → Fit vs (take n ls) → Fit vs ls
fit-front zero ls [] h = tt
fit-front zero ls (v ∷ vs) h = absurd h
fit-front (suc n) [] [] h = tt
fit-front (suc n) [] (v ∷ vs) h = absurd h
fit-front (suc n) (l ∷ ls) [] h = tt
fit-front (suc n) (l ∷ ls) (v ∷ vs) h = (h.0, fit-front n ls vs h.1)

letters-count : (q : QTypes) (ls : List LocalValue) (vs : List Value) → AreParameters q ls → FitLetters (letters_of q) vs → length vs ≡ length ls
letters-count NoType [] [] h f = refl
letters-count NoType [] (v ∷ vs) h f = absurd f
letters-count NoType (l ∷ ls) vs h f = absurd h
letters-count (OneType q rest) [] vs h f = absurd h
letters-count (OneType q rest) (l ∷ ls) [] h f = absurd f
letters-count (OneType q rest) (l ∷ ls) (v ∷ vs) h f = ap (λ (n : ℕ). suc n) (letters-count rest ls vs h.2 f.1)

-- ---- of an active function

pub is-function : (x : Activation) → IsActivation x → IsFunction x.home.tree x.function
is-function x active =
    let m : WellTyped x.home.tree = All-contains (λ (m : ProgramModule). WellTyped m.tree) x.world.program.modules x.home active.world.program.accepted.typed.modules active.home in
    All-contains (IsFunction x.home.tree) x.home.tree.functions x.function m.functions active.function

letters : (x : Activation) (vs : List Value) (active : IsActivation x) → FitShape (graph_of x).shape vs → FitLetters (letters_of (is-function x active).typed.params) vs
unfolding lowered_function
letters x vs active fit =
    let t = (is-function x active).typed in
    subst (λ (shape : List ℕ). FitShape shape vs) (ap (λ (ty : CType). shape_of x.home.tree.records ty (is_volatile x.function.ty)) t.type_is) fit

pub arguments-fit : (x : Activation) (vs : List Value) → IsActivation x → FitShape (graph_of x).shape vs → Fit vs x.function.locals
arguments-fit x vs active fit =
    let t = (is-function x active).typed in
    fit-front x.function.params x.function.locals vs (fit-parameters t.params (take x.function.params x.function.locals) vs t.takes (letters x vs active fit))

pub arguments-count : (x : Activation) (vs : List Value) → IsActivation x → FitShape (graph_of x).shape vs → length vs ≡ length (take x.function.params x.function.locals)
arguments-count x vs active fit =
    let t = (is-function x active).typed in letters-count t.params (take x.function.params x.function.locals) vs t.takes (letters x vs active fit)

-- ---- places

pub places-count : (addressed : List ℕ) (params k temp slot : ℕ) (ls : List LocalValue) → length (places_from addressed params k temp slot ls) ≡ length ls
places-count addressed params k temp slot [] = refl
places-count addressed params k temp slot (l ∷ ls) =
    by_test (is_kept addressed k l) (nat_lt k params) (places-count addressed params (k + 1) temp slot ls) (places-count addressed params (k + 1) (temp + 1) slot ls) (places-count addressed params (k + 1) temp (slot + 1) ls)
  where
    by_test :
        (a b : Bool) → length (places_from addressed params (k + 1) temp slot ls) ≡ length ls → length (places_from addressed params (k + 1) (temp + 1) slot ls) ≡ length ls
        → length (places_from addressed params (k + 1) temp (slot + 1) ls) ≡ length ls
        → length (if a then (if b then Temp k ∷ places_from addressed params (k + 1) temp slot ls else Temp temp ∷ places_from addressed params (k + 1) (temp + 1) slot ls) else Slot slot ∷ places_from addressed params (k + 1) temp (slot + 1) ls) ≡ suc (length ls)
    by_test true true e f g = ap (λ (n : ℕ). suc n) e
    by_test true false e f g = ap (λ (n : ℕ). suc n) f
    by_test false b e f g = ap (λ (n : ℕ). suc n) g

-- the parameters' temporaries come before all others
pub temps-least : (n : ℕ) (places : List LocalPlace) → n ≤ temps_from n places
temps-least n [] = omega arith
temps-least n (Slot s ∷ rest) = temps-least n rest
temps-least n (Temp t ∷ rest) = by_test (nat_lt t n) refl (temps-least n rest) (temps-least (t + 1) rest)
  where
    by_test : (b : Bool) → nat_lt t n ≡ b → n ≤ temps_from n rest → t + 1 ≤ temps_from (t + 1) rest → n ≤ temps_from (if b then n else t + 1) rest
    by_test true e h g = h
    by_test false e h g = omega (arith, ltb-false t n e, g)
