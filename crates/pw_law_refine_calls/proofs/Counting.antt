-- The count of parameters: values that fit a function's shape are as many as its flow graph takes.
use Rattle.std.proofs.Common.{◌≡◌, ℕ, suc, false, List, [], ◌∷◌, length, take, ap, ◌∙◌, subst, refl, Contains, length-take-le}
use Rattle.std.proofs.lemmas.List.Elements.{All-contains}
use Rattle.pw_value.specs.declared.value.Value.{Value}
use Rattle.pw_types.specs.TypeTrees.{CType, QTypes, NoType, OneType}
use Rattle.pw_types.specs.TypedTrees.{LocalValue, FunctionValue}
use Rattle.pw_types.specs.TypedModules.{AreParameters, IsFunction, WellTyped}
use Rattle.pw_types.specs.Shapes.{letters_of, signature_shape, shape_of}
use Rattle.pw_cmean.specs.Worlds.{ProgramModule, World, Callable}
use Rattle.pw_law_refine.specs.Lowerable.{IsLowerableWorld}
use Rattle.pw_law_refine.specs.Calls.{FitLetters, FitShape}
use Rattle.pw_law_refine_start.specs.Named.{IsDefinedAs}

letters-count : (q : QTypes) (ls : List LocalValue) → AreParameters q ls → length (letters_of q) ≡ length ls
letters-count NoType [] h = refl
letters-count NoType (l ∷ ls) h = absurd h
letters-count (OneType q rest) [] h = absurd h
letters-count (OneType q rest) (l ∷ ls) h = ap (λ (n : ℕ). suc n) (letters-count rest ls h.2)

values-count : (letters : List ℕ) (vs : List Value) → FitLetters letters vs → length vs ≡ length letters
values-count [] [] h = refl
values-count [] (v ∷ vs) h = absurd h
values-count (l ∷ ls) [] h = absurd h
values-count (l ∷ ls) (v ∷ vs) h = ap (λ (n : ℕ). suc n) (values-count ls vs h.1)

-- the functions of a lowerable world are well typed
pub is-function : (world : World) (home : ProgramModule) (f : FunctionValue) → IsLowerableWorld world → Contains world.program.modules home → Contains home.tree.functions f → IsFunction home.tree f
is-function world home f l stands there =
    let m : WellTyped home.tree = All-contains (λ (m : ProgramModule). WellTyped m.tree) world.program.modules home l.program.accepted.typed.modules stands in
    All-contains (IsFunction home.tree) home.tree.functions f m.functions there

pub parameters-counted :
    (world : World) (name : List ℕ) (f : Callable) (vs : List Value) → IsLowerableWorld world → (d : IsDefinedAs world name f) → FitShape f.shape vs
    → length vs ≡ d.function.params
parameters-counted world name f vs l d fit =
    let t = (is-function world d.home d.function l d.stands d.there).typed in
    let shape : f.shape ≡ signature_shape t.result t.params =
    ap (λ (c : Callable). c.shape) d.is ∙ ap (λ (ty : CType). shape_of d.home.tree.records ty false) t.type_is in
    let letters : FitLetters (letters_of t.params) vs = subst (λ (shape : List ℕ). FitShape shape vs) shape fit in
    values-count (letters_of t.params) vs letters
    ∙ letters-count t.params (take d.function.params d.function.locals) t.takes
    ∙ length-take-le d.function.params d.function.locals t.count
