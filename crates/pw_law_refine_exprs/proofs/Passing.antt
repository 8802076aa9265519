-- Arguments as a call takes them: their values are of the types of the parameters, and stand for those in temporaries.
use Rattle.std.proofs.Common.{ℕ, Option, Some, None, List, [], ◌∷◌, map, refl, subst}
use Rattle.pw_value.specs.declared.value.Value.{Value}
use Rattle.pw_types.specs.TypeTrees.{CType, QTypes, NoType, OneType, type_of}
use Rattle.pw_types.specs.Shapes.{letter_of, letters_of}
use Rattle.pw_types.specs.TypedTrees.{Expressions, NoExpression, OneExpression}
use Rattle.pw_types.specs.WellTyped.{AreArguments}
use Rattle.pw_cmean.specs.Acts.{State, Site, Act, Outcome, Gives, Ends, give, stop, undefined, ◌>>=◌, go_on}
use Rattle.pw_cmean.specs.Evaluation.{site, used, answer_of, values_of}
use Rattle.pw_cmean.specs.SourceRun.{calls}
use Rattle.pw_cmean.specs.Typed.{IsValueOf, IsResultOf, HoldsBytes, IfGives}
use Rattle.pw_run_languages.specs.FlowRun.{Machine, value_in}
use Rattle.pw_law_refine.specs.Standing.{Spot}
use Rattle.pw_law_refine.specs.Activations.{Activation, IsActivation, Numbers, env_of}
use Rattle.pw_law_refine.specs.Expressions.{AllStand, AreTyped}
use Rattle.pw_law_refine.specs.Calls.{FitLetters, EachStands}
use Rattle.pw_law_refine_forms.proofs.Laws.{Laws}

-- ---- types

pub are-typed : (x : Activation) (args : Expressions) (params : QTypes) → AreArguments x.home.tree x.function.locals args params → AreTyped x args
unfolding AreArguments
are-typed x NoExpression params h = tt
are-typed x (OneExpression a rest) (OneType q qs) h = (h.0, are-typed x rest qs h.3)
are-typed x (OneExpression a rest) NoType h = absurd h

-- what is given behind what is given
gives-then : {A B : Type 0} (P : A → Type 0) (Q : B → Type 0) (o : Outcome A) (next : A → Act B) → IfGives P o → ((a : A) (s : State) → P a → HoldsBytes s → IfGives Q (next a s)) → IfGives Q (go_on o next)
unfolding go_on
gives-then P Q (Gives a s) next h f = f a s h.0 h.1
gives-then P Q (Ends ending s) next h f = tt

used-gives : (at : Site) (ty : CType) (r : Option Value) (s : State) → IsResultOf ty r → HoldsBytes s → IfGives (IsValueOf ty) (used at r s)
unfolding used give undefined stop
used-gives at ty None s h bytes = tt
used-gives at ty (Some v) s h bytes = (h, bytes)

pub arguments-fit :
    Laws → (bound : ℕ) (x : Activation) (numbers : Numbers) (args : Expressions) (params : QTypes) (token : ℕ) (s : State)
    → IsActivation x → AreArguments x.home.tree x.function.locals args params → HoldsBytes s
    → IfGives (FitLetters (letters_of params)) (values_of args token (calls x.world bound) (env_of x numbers) s)
unfolding AreArguments values_of ◌>>=◌ give
arguments-fit laws bound x numbers NoExpression NoType token s active typed bytes = (tt, bytes)
arguments-fit laws bound x numbers NoExpression (OneType q qs) token s active typed bytes = absurd typed
arguments-fit laws bound x numbers (OneExpression a rest) NoType token s active typed bytes = absurd typed
arguments-fit laws bound x numbers (OneExpression a rest) (OneType q qs) token s active typed bytes =
    let e = env_of x numbers in
    let at = site e token in
    let T = type_of q in
    gives-then (IsValueOf T) (FitLetters (letter_of T ∷ letters_of qs)) ((answer_of a (calls x.world bound) e >>= used at) s) _
    (gives-then (IsResultOf T) (IsValueOf T) (answer_of a (calls x.world bound) e s) (used at)
    (subst (λ (ty : CType). IfGives (IsResultOf ty) (answer_of a (calls x.world bound) e s)) typed.2 (laws.types bound a e s active.world.program.accepted.typed active.home typed.0 bytes))
    (λ r u h k. used-gives at T r u h k))
    (λ v u h k.
    gives-then (FitLetters (letters_of qs)) (FitLetters (letter_of T ∷ letters_of qs)) (values_of rest token (calls x.world bound) e u) (λ vs. give (v ∷ vs))
    (arguments-fit laws bound x numbers rest qs token u active typed.3 k)
    (λ vs w f g. (((T, refl, h), f), g)))

-- ---- temporaries

pub each-stands : (spots : List Spot) (vs : List Value) (ts : List ℕ) (m : Machine) → AllStand spots vs ts m → EachStands spots vs (map (value_in m.frame) ts)
each-stands spots [] [] m h = tt
each-stands spots (v ∷ vs) (t ∷ ts) m h = (h.0, each-stands spots vs ts m h.1)
each-stands spots [] (t ∷ ts) m h = absurd h
each-stands spots (v ∷ vs) [] m h = absurd h
