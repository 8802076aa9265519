-- Arguments, one after the other: each value stays in its temporary while the next are made.
use Rattle.std.proofs.Common.{◌≡◌, ◌≢◌, ℕ, ◌≤◌, inl, inr, Option, Some, unwrap_or, List, [], ◌∷◌, ◌++◌, Contains, slice_get, ap, sym, subst, arith}
use Rattle.std.proofs.lemmas.List.Elements.{Contains-append_left, Contains-append_right, Contains-append_cases}
use Rattle.pw_value.specs.declared.value.Value.{Value}
use Rattle.pw_types.specs.TypeTrees.{CType, Void}
use Rattle.pw_types.specs.TypedTrees.{Expression, Expressions, NoExpression, OneExpression, LocalValue}
use Rattle.pw_types.specs.WellTyped.{type_in}
use Rattle.pw_flow.specs.declared.flow.FlowFn.{FlowFn}
use Rattle.pw_lower.specs.declared.code.Code.{Code}
use Rattle.pw_lower.specs.Codes.{temp_of}
use Rattle.pw_lower.specs.Places.{addressed_in, addressed_in_all}
use Rattle.pw_lower.specs.Expressions.{Home, lower, arguments}
use Rattle.pw_cmean.specs.Acts.{State, give, ◌>>=◌}
use Rattle.pw_cmean.specs.Evaluation.{site, used, answer_of, values_of}
use Rattle.pw_cmean.specs.SourceRun.{calls}
use Rattle.pw_cmean.specs.Typed.{IsValueOf}
use Rattle.pw_run_languages.specs.FlowRun.{Machine, value_in}
use Rattle.pw_law_refine.specs.Standing.{Spot, Stands}
use Rattle.pw_law_refine.specs.Activations.{Activation, IsActivation, Numbers, graph_of, home_of, env_of, HaveSlots}
use Rattle.pw_law_refine.specs.Containing.{ContainsCode}
use Rattle.pw_law_refine.specs.Meeting.{Meets}
use Rattle.pw_law_refine.specs.Expressions.{assigned_in, assigned_in_all, IsReady, HasArguments, AreTyped, ExpressionKeeps}
use Rattle.pw_law_refine_forms.specs.Calling.{EachKeeps, ArgumentListKeeps}
use Rattle.pw_law_refine_forms.proofs.Laws.{Laws}
use Rattle.pw_law_refine_forms.proofs.Simulation.{meets-then, meets-here}
use Rattle.pw_law_refine_forms.proofs.Kit.{nothing-done, done-then, ready-then, HasOperand, operand, operand-stands}

-- ---- code

pub arguments-contain : Laws → (g : FlowFn) (h : Home) (args : Expressions) (c : Code) → ContainsCode g (arguments h args c).code → ContainsCode g c
unfolding arguments
arguments-contain laws g h NoExpression c w = w
arguments-contain laws g h (OneExpression a rest) c w = laws.contain g h a c (arguments-contain laws g h rest (lower h a c).code w)

pub arguments-later : Laws → (h : Home) (args : Expressions) (c : Code) → c.temps ≤ (arguments h args c).code.temps
unfolding arguments
arguments-later laws h NoExpression c = omega arith
arguments-later laws h (OneExpression a rest) c = omega (arith, (laws.later h a c).temps, arguments-later laws h rest (lower h a c).code)

pub assigned-all : Laws → (x : Activation) (args : Expressions) → AreTyped x args → (k : ℕ) → Contains (assigned_in_all args) k → (l : LocalValue) × (slice_get x.function.locals k ≡ Some l)
assigned-all laws x NoExpression typed k there = absurd (omega (arith, there.1))
assigned-all laws x (OneExpression a rest) typed k there = elim (Contains-append_cases (assigned_in a) (assigned_in_all rest) k there) [
  | inl h ↦ laws.assigned x a typed.0 k h
  | inr h ↦ assigned-all laws x rest typed.1 k h
]

-- a value is of no void type
not-void-value : (ty : CType) (v : Value) → IsValueOf ty v → ty ≢ Void
not-void-value ty v h e = subst (λ (t : CType). IsValueOf t v) e h

-- ---- the promise

first-then :
    Laws → (bound : ℕ) (x : Activation) (numbers : Numbers) (spots : List Spot) (a : Expression) (rest : Expressions) (token : ℕ) (c : Code) (s : State) (m : Machine)
    → ExpressionKeeps bound a → IsActivation x → AreTyped x (OneExpression a rest) → HaveSlots x (addressed_in_all (OneExpression a rest))
    → ContainsCode (graph_of x) (arguments (home_of x) (OneExpression a rest) c).code → IsReady x numbers spots c s m
    → ((spots' : List Spot) (d : Code) (u : State) (n : Machine) → ContainsCode (graph_of x) (arguments (home_of x) rest d).code → IsReady x numbers spots' d u n
    → Meets x.world bound n (values_of rest token (calls x.world bound) (env_of x numbers) u) (HasArguments x numbers spots' rest d u n))
    → Meets x.world bound m (values_of (OneExpression a rest) token (calls x.world bound) (env_of x numbers) s) (HasArguments x numbers spots (OneExpression a rest) c s m)
unfolding arguments values_of ◌>>=◌ give done-then
first-then laws bound x numbers spots a rest token c s m keeps active typed slots holds ready others =
    let h = home_of x in
    let y = lower h a c in
    let xs = arguments h rest y.code in
    let at = site (env_of x numbers) token in
    let slots-a : HaveSlots x (addressed_in a) = λ i e. slots i (Contains-append_left (addressed_in a) (addressed_in_all rest) i e) in
    let in-a = arguments-contain laws (graph_of x) h rest y.code holds in
    let R = HasArguments x numbers spots (OneExpression a rest) c s m in
    meets-then laws x.world bound m ((answer_of a (calls x.world bound) (env_of x numbers) >>= used at) s) _ (HasOperand x numbers spots a c s m) R
    (operand laws bound x numbers spots a c s m at active typed.0 ready.related.matches.bytes (keeps x numbers spots c s m active typed.0 slots-a in-a ready))
    (λ v u n q.
    let spots' = q.0.done.later.spots in
    let new = laws.results x a c typed.0 slots-a (not-void-value (type_in a) v q.1) in
    let temp : temp_of y ≡ new.result = ap (λ (r : Option ℕ). unwrap_or r 0) new.is in
    meets-then laws x.world bound n (values_of rest token (calls x.world bound) (env_of x numbers) u) (λ vs. give (v ∷ vs)) (HasArguments x numbers spots' rest y.code u n) R
    (others spots' y.code u n holds (ready-then laws x numbers spots a c s u m n (Some v) ready q.0))
    (λ vs w r g.
    let later = g.done.later.spots in
    let kept : value_in r.frame (temp_of y) ≡ value_in n.frame (temp_of y) =
    g.done.temps (temp_of y) (omega (arith, temp, new.given)) (λ k there e. let l = assigned-all laws x rest typed.1 k there in omega (arith, temp, new.since, ready.temps, laws.below x k (temp_of y) l.0 l.1 e)) in
    meets-here x.world bound r (v ∷ vs) w R (record {
      done = done-then laws x numbers spots (assigned_in a) (assigned_in_all rest) (assigned_in a ++ assigned_in_all rest) c y.code s u w m n r ready.related (laws.later h a c).temps
          (λ i e. Contains-append_left (assigned_in a) (assigned_in_all rest) i e) (λ i e. Contains-append_right (assigned_in a) (assigned_in_all rest) i e) q.0.done g.done;
      behind = g.behind;
      stand = (subst (λ (z : Value). Stands later v z) (sym kept) (laws.stands spots' later v (value_in n.frame (temp_of y)) g.done.later.lasts.more (operand-stands spots' v y.temp n q.0.stands)), g.stand);
    })))

pub arguments-keep : Laws → (bound : ℕ) (args : Expressions) → EachKeeps bound args → ArgumentListKeeps bound args
unfolding arguments values_of give nothing-done
arguments-keep laws bound NoExpression keeps x numbers spots token c s m active typed slots holds ready =
    meets-here x.world bound m [] s (HasArguments x numbers spots NoExpression c s m)
    (record { done = nothing-done x numbers spots [] c s m ready.related; behind = ready.behind; stand = tt })
arguments-keep laws bound (OneExpression a rest) keeps x numbers spots token c s m active typed slots holds ready =
    first-then laws bound x numbers spots a rest token c s m keeps.0 active typed slots holds ready
    (λ spots' d u n there again. arguments-keep laws bound rest keeps.1 x numbers spots' token d u n active typed.1 (λ i e. slots i (Contains-append_right (addressed_in a) (addressed_in_all rest) i e)) there again)
