-- Calls of functions by their names (C90 6.3.2.2).
use Rattle.std.proofs.Common.{◌≡◌, ℕ, inl, inr, true, false, Option, Some, None, List, [], ◌∷◌, Contains, map, refl, ap, subst, arith}
use Rattle.pw_value.specs.declared.value.Value.{Value}
use Rattle.pw_value.specs.Shapes.{Agree}
use Rattle.pw_types.specs.TypeTrees.{CType, Function, QType, QTypes, Qualified, type_of}
use Rattle.pw_types.specs.Shapes.{letter_of, letters_of}
use Rattle.pw_types.specs.FullNames.{full_name}
use Rattle.pw_types.specs.TypedTrees.{Symbol, Node, Call, Expressions}
use Rattle.pw_types.specs.WellTyped.{IsTyped, HasForm}
use Rattle.pw_flow.specs.declared.flow.Op.{Op}
use Rattle.pw_flow.specs.declared.flow.Op.TheVariants as op
use Rattle.pw_lower.specs.declared.code.Code.{Code}
use Rattle.pw_lower.specs.Expressions.{lower, arguments, is_void, called}
use Rattle.pw_cmean.specs.Worlds.{Callable, function_named}
use Rattle.pw_cmean.specs.Acts.{State, give, stop, wrong, need, ◌>>=◌, go_on}
use Rattle.pw_cmean.specs.Evaluation as meaning
use Rattle.pw_cmean.specs.Evaluation.{answer_of, values_of}
use Rattle.pw_cmean.specs.SourceRun.{calls}
use Rattle.pw_cmean.specs.Typed.{IsResultOf}
use Rattle.pw_run_languages.specs.Commands.{command}
use Rattle.pw_run_languages.specs.FlowRun.{Machine, value_in}
use Rattle.pw_law_refine.specs.Standing.{Spot}
use Rattle.pw_law_refine.specs.Activations.{Activation, IsActivation, Numbers, graph_of, home_of, env_of}
use Rattle.pw_law_refine.specs.Containing.{ContainsCode}
use Rattle.pw_law_refine.specs.Meeting.{Meets}
use Rattle.pw_law_refine.specs.Expressions.{assigned_in_all, IsReady, HasArguments, HasValue, HasResult, ExpressionKeeps}
use Rattle.pw_law_refine.specs.Calls.{FitLetters, FitShape, CallsKeep}
use Rattle.pw_law_refine_forms.specs.Calling.{EachKeeps}
use Rattle.pw_law_refine_forms.proofs.Laws.{Laws}
use Rattle.pw_law_refine_forms.proofs.Simulation.{meets-then, meets-less, meets-typed}
use Rattle.pw_law_refine_forms.proofs.Kit.{value-after, none-in}
use Rattle.pw_law_refine_forms.proofs.Arguments.{arguments-keep, arguments-later}
use Rattle.pw_law_refine_exprs.proofs.Passing.{are-typed, arguments-fit, each-stands}
use Rattle.pw_law_refine_exprs.proofs.Called.{void-result, before-called, call-behind}

-- ---- shapes

head : List ℕ → ℕ
head [] = 0
head (b ∷ rest) = b

-- a shape that begins as those of functions do agrees with itself alone
shape-agrees : (rest b : List ℕ) → Agree (102 ∷ rest) b → (102 ∷ rest) ≡ b
unfolding head
shape-agrees rest b (inl e) = e
shape-agrees rest b (inr (inl g)) = absurd (omega (arith, ap head g.2.0))
shape-agrees rest b (inr (inr g)) = absurd (omega (arith, ap head g.2.1))

-- ---- behind the arguments

named-call :
    Laws → (bound : ℕ) → CallsKeep bound → (x : Activation) (numbers : Numbers) (spots : List Spot) (ty : CType) (name : List ℕ) (args : Expressions) (result : QType) (params : QTypes) (vs : List Value) (c : Code) (s u : State) (m n : Machine)
    → IsActivation x → IsReady x numbers spots c s m
    → ((f : Callable) → function_named x.world.program name ≡ Some f → Agree (102 ∷ letter_of (type_of result) ∷ letters_of params) f.shape)
    → FitLetters (letters_of params) vs → HasArguments x numbers spots args c s m vs u n
    → ContainsCode (graph_of x) (called ty (λ r. op.Call r name (arguments (home_of x) args c).temps) (arguments (home_of x) args c).code).code
    → Meets x.world bound n ((need (function_named x.world.program name) >>= λ f. meaning.call x.world (calls x.world bound) f vs) u)
    (λ result t o. (is_void ty ≡ true → result ≡ None) → HasValue x numbers spots (assigned_in_all args) (called ty (λ r. op.Call r name (arguments (home_of x) args c).temps) (arguments (home_of x) args c).code) c s m result t o)
unfolding need give stop wrong ◌>>=◌ go_on command
named-call laws bound keeps x numbers spots ty name args result params vs c s u m n active ready agrees fits q holds = by_function (function_named x.world.program name) refl
  where
    by_function : (r : Option Callable) → function_named x.world.program name ≡ r
        → Meets x.world bound n ((need r >>= λ f. meaning.call x.world (calls x.world bound) f vs) u)
        (λ result t o. (is_void ty ≡ true → result ≡ None) → HasValue x numbers spots (assigned_in_all args) (called ty (λ r. op.Call r name (arguments (home_of x) args c).temps) (arguments (home_of x) args c).code) c s m result t o)
    by_function None e = tt
    by_function (Some f) e =
        let xs = arguments (home_of x) args c in
        let o : Option ℕ → Op = λ r. op.Call r name xs.temps in
        let later = q.done.later.spots in
        let more = arguments-later laws (home_of x) args c in
        meets-less x.world bound n (meaning.call x.world (calls x.world bound) f vs u) (λ result t z. (is_void ty ≡ true → result ≡ None) → HasValue x numbers later [] (called ty o xs.code) xs.code u n result t z) _
        (call-behind laws bound keeps x numbers later ty o name f vs (map (value_in n.frame) xs.temps) xs.code u n active (record { related = q.done.later.related; behind = q.behind; temps = omega (arith, ready.temps, more) }) e
        (subst (λ (shape : List ℕ). FitShape shape vs) (shape-agrees (letter_of (type_of result) ∷ letters_of params) f.shape (agrees f e)) fits)
        (each-stands later vs xs.temps n q.stand) (λ r rest. refl) holds)
        (λ result t z h none.
        value-after laws x numbers spots (assigned_in_all args) [] (assigned_in_all args) (called ty o xs.code) c xs.code s u t m n z result ready.related more
        (λ i there. there) (λ i there. none-in i (Contains (assigned_in_all args) i) there) q.done (h none))

pub call-keeps : Laws → (bound : ℕ) → CallsKeep bound → (t : ℕ) (ty : QType) (symbol : Symbol) (args : Expressions) → EachKeeps bound args → ExpressionKeeps bound (Node t ty (Call symbol args))
unfolding lower answer_of ◌>>=◌ IsTyped HasForm
call-keeps laws bound keeps t ty symbol args each = λ x numbers spots c s m active typed slots holds ready.
    let e = env_of x numbers in
    let xs = arguments (home_of x) args c in
    let name = full_name x.home.name symbol in
    let o : Option ℕ → Op = λ r. op.Call r name xs.temps in
    let result = typed.1.0 in
    let params = typed.1.1 in
    let own = typed.1.5 in
    let R = HasResult x numbers spots (Node t ty (Call symbol args)) c s m in
    let Q : Option Value → State → Machine → Type 0 = λ r u n. (is_void (type_of ty) ≡ true → r ≡ None) → R r u n in
    let whole = answer_of (Node t ty (Call symbol args)) (calls x.world bound) e s in
    let bytes = ready.related.matches.bytes in
    meets-less x.world bound m whole (λ r u n. Q r u n × IsResultOf (type_of ty) r) R
    (meets-typed x.world bound m (IsResultOf (type_of ty)) whole Q
    (meets-then laws x.world bound m (values_of args t (calls x.world bound) e s) _ (λ vs u n. HasArguments x numbers spots args c s m vs u n × FitLetters (letters_of params) vs) Q
    (meets-typed x.world bound m (FitLetters (letters_of params)) (values_of args t (calls x.world bound) e s) (HasArguments x numbers spots args c s m)
    (arguments-keep laws bound args each x numbers spots t c s m active (are-typed x args params own) slots (before-called (graph_of x) (type_of ty) o xs.code holds) ready)
    (arguments-fit laws bound x numbers args params t s active own bytes))
    (λ vs u n q.
    named-call laws bound keeps x numbers spots (type_of ty) name args result params vs c s u m n active ready
    (λ f there. active.world.program.accepted.typed.functions x.home active.home symbol (Qualified (Function result params) false false) f typed.1.2 there)
    q.1 q.0 holds))
    (laws.types bound (Node t ty (Call symbol args)) e s active.world.program.accepted.typed active.home typed bytes))
    (λ r u n q. q.0 (void-result (type_of ty) r q.1))
