-- Calls of functions through pointers (C90 6.3.2.2).
use Rattle.std.proofs.Common.{◌≡◌, ℕ, inl, inr, Bool, true, false, not, if◌then◌else◌, Option, Some, None, is_none, option_map, unwrap_or, List, [], ◌∷◌, ◌++◌, Contains, map, refl, ap, sym, ◌∙◌, subst, arith}
use Rattle.std.specs.Option.{option_map_or}
use Rattle.std.specs.Str.{bytes_eq}
use Rattle.std.proofs.lemmas.Bool.{not-false}
use Rattle.std.proofs.lemmas.List.Elements.{Contains-append_left, Contains-append_right}
use Rattle.std.proofs.lemmas.Slice.Eq.{bytes_eq-Decides}
use Rattle.pw_value.specs.declared.value.Value.{Value}
use Rattle.pw_value.specs.declared.value.Value.TheVariants as V
use Rattle.pw_value.specs.declared.value.Pointer.TheVariants as P
use Rattle.pw_types.specs.TypeTrees.{CType, Pointer, Function, QType, QTypes, Qualified, type_of, RecordValue}
use Rattle.pw_types.specs.Shapes.{letter_of, letters_of, shape_of}
use Rattle.pw_types.specs.TypedTrees.{Expression, Node, CallValue, Expressions, type_at}
use Rattle.pw_types.specs.WellTyped.{IsTyped, HasForm, IsScalar, type_in}
use Rattle.pw_flow.specs.declared.flow.FlowFn.{FlowFn}
use Rattle.pw_flow.specs.declared.flow.Op.{Op}
use Rattle.pw_flow.specs.declared.flow.Op.TheVariants as op
use Rattle.pw_lower.specs.declared.code.Code.{Code}
use Rattle.pw_lower.specs.Codes.{temp_of}
use Rattle.pw_lower.specs.Places.{addressed_in, addressed_in_all}
use Rattle.pw_lower.specs.Expressions.{lower, arguments, is_void, called, shape_at}
use Rattle.pw_cmean.specs.declared.undefined.Undef.TheVariants as U
use Rattle.pw_cmean.specs.Undefined.{◌when◌}
use Rattle.pw_cmean.specs.Worlds as source
use Rattle.pw_cmean.specs.Worlds.{World, Callable, LibraryFunction, ExitRun, GetChar, PutChar, library_callable}
use Rattle.pw_cmean.specs.Acts.{State, give, stop, wrong, need, ◌>>=◌, go_on}
use Rattle.pw_cmean.specs.Evaluation as meaning
use Rattle.pw_cmean.specs.Evaluation.{site, used, callee_of, pointed, call_value, answer_of, values_of}
use Rattle.pw_cmean.specs.SourceRun.{calls}
use Rattle.pw_cmean.specs.Typed.{IsResultOf}
use Rattle.pw_run_languages.specs.Programs as flows
use Rattle.pw_run_languages.specs.Programs.{Program, Library, library_at, library_shape}
use Rattle.pw_run_languages.specs.Commands.{Command, Enter, Fail, command, enter_as, enter_at, enter_value}
use Rattle.pw_run_languages.specs.FlowRun.{Machine, value_in, obeys}
use Rattle.pw_law_refine.specs.Lowerable.{IsLowerableWorld}
use Rattle.pw_law_refine.specs.Standing.{Spot, Stands}
use Rattle.pw_law_refine.specs.Activations.{Activation, IsActivation, Numbers, graphs, graph_of, home_of, env_of, HaveSlots}
use Rattle.pw_law_refine.specs.Containing.{ContainsCode}
use Rattle.pw_law_refine.specs.Meeting.{Meets}
use Rattle.pw_law_refine.specs.Expressions.{assigned_in, assigned_in_all, AreTyped, IsReady, HasArguments, HasValue, HasResult, ExpressionKeeps}
use Rattle.pw_law_refine.specs.Calls.{EachStands, FitLetters, FitShape, CallsKeep}
use Rattle.pw_law_refine_start.specs.Named.{flow_library, IsFoundAs}
use Rattle.pw_law_refine_forms.specs.Calling.{EachKeeps}
use Rattle.pw_law_refine_forms.proofs.Laws.{Laws}
use Rattle.pw_law_refine_forms.proofs.Simulation.{meets-then, meets-less, meets-typed, judged}
use Rattle.pw_law_refine_forms.proofs.Kit.{value-after, none-in, ready-then, HasOperand, operand, operand-stands}
use Rattle.pw_law_refine_forms.proofs.Access.{first-false}
use Rattle.pw_law_refine_forms.proofs.Truths.{scalar-not-void}
use Rattle.pw_law_refine_forms.proofs.Arguments.{arguments-keep, arguments-contain, arguments-later, assigned-all}
use Rattle.pw_law_refine_exprs.proofs.Laws.{NameLaws}
use Rattle.pw_law_refine_exprs.proofs.Passing.{are-typed, arguments-fit, each-stands}
use Rattle.pw_law_refine_exprs.proofs.Called.{void-result, before-called, call-behind}

-- ---- the shape of a call

-- a function's shape tells its result and parameters, whatever its qualifiers
abbrev signature : QType → QTypes → List ℕ
signature result params = 102 ∷ letter_of (type_of result) ∷ letters_of params

lowered-shape : (records : List RecordValue) (q : QType) (result : QType) (params : QTypes) (c v : Bool) → type_of q ≡ Pointer (Qualified (Function result params) c v) → shape_at records q ≡ signature result params
lowered-shape records (Qualified ty constant volatile) result params c v e = ap (λ (T : CType). shape_at records (Qualified T constant volatile)) e

meant-shape : (records : List RecordValue) (ty : CType) (result : QType) (params : QTypes) (c v : Bool) → ty ≡ Pointer (Qualified (Function result params) c v) → shape_of records (pointed ty) false ≡ signature result params
meant-shape records ty result params c v e = ap (λ (T : CType). shape_of records (pointed T) false) e

-- ---- the function of a number, in the flow graphs' run

library-shape : (f : LibraryFunction) → library_shape (flow_library f) ≡ (library_callable f).shape
library-shape ExitRun = refl
library-shape GetChar = refl
library-shape PutChar = refl

abbrev shape-or : Option Library → Option FlowFn → Option (List ℕ)
shape-or (Some g) f = Some (library_shape g)
shape-or None f = option_map (λ f. f.shape) f

-- both runs give it one shape
shape-found : (world : World) (name : List ℕ) (f : Callable) → IsFoundAs world name f → flows.shape_of (graphs world) name ≡ Some f.shape
shape-found world name f (inl own) =
    ap (λ (g : Option Library). shape-or g (flows.function_named (graphs world) name)) own.there
    ∙ ap Some (library-shape own.function ∙ sym (ap (λ (c : Callable). c.shape) own.is))
shape-found world name f (inr own) =
    ap (λ (g : Option Library). shape-or g (flows.function_named (graphs world) name)) own.no_library
    ∙ ap (λ (g : Option FlowFn). option_map (λ f. f.shape) g) own.graph
    ∙ ap Some own.shape

enters : NameLaws → (world : World) (k : ℕ) (f : Callable) (shape : List ℕ) (r : Option ℕ) (args : List Value) → IsLowerableWorld world → source.function_at world.program k ≡ Some f → f.shape ≡ shape
    → enter_value (graphs world) r (V.At (P.Function k)) shape args ≡ Enter r f.name args
enters names world k f shape r args lowerable at is =
    ap (λ (g : Option (List ℕ)). enter_at (graphs world) r shape args g) (names.numbered world k f lowerable at)
    ∙ ap (λ (own : Option (List ℕ)). enter_as r shape args (Some f.name) own) (shape-found world f.name f (names.found world f.name f lowerable (names.own world k f lowerable at)))
    ∙ ap (λ (b : Bool). if b then Enter r f.name args else Fail) ((bytes_eq-Decides f.shape shape).1 is)

-- ---- behind the arguments

pointer-call :
    Laws → NameLaws → (bound : ℕ) → CallsKeep bound → (x : Activation) (numbers : Numbers) (spots : List Spot) (token : ℕ) (ty of : CType) (shape : List ℕ) (result : QType) (params : QTypes) (a : ℕ) (ts : List ℕ) (p : Value) (vs : List Value) (c : Code) (u : State) (n : Machine)
    → IsActivation x → IsReady x numbers spots c u n → shape ≡ signature result params → shape_of x.home.tree.records (pointed of) false ≡ signature result params
    → FitLetters (letters_of params) vs → EachStands spots vs (map (value_in n.frame) ts) → Stands spots p (value_in n.frame a)
    → ContainsCode (graph_of x) (called ty (λ r. op.CallInd r a shape ts) c).code
    → Meets x.world bound n (call_value (env_of x numbers) (calls x.world bound) token of p vs u) (λ result t o. (is_void ty ≡ true → result ≡ None) → HasValue x numbers spots [] (called ty (λ r. op.CallInd r a shape ts) c) c u n result t o)
unfolding call_value need give stop wrong ◌>>=◌ go_on command
pointer-call laws names bound keeps x numbers spots token ty of shape result params a ts p vs c u n active ready lowered meant fits stand st holds =
    judged x.world bound n (site (env_of x numbers) token) (U.NotAFunction when is_none (callee_of x.world.program p) ∷ U.FunctionShape when option_map_or (λ f. not (bytes_eq f.shape (shape_of x.home.tree.records (pointed of) false))) (callee_of x.world.program p) false ∷ []) _ u _ ready.related.matches.shows (λ none.
    let second = first-false U.NotAFunction (is_none (callee_of x.world.program p)) (U.FunctionShape when option_map_or (λ f. not (bytes_eq f.shape (shape_of x.home.tree.records (pointed of) false))) (callee_of x.world.program p) false ∷ []) none in
    by_value p st (first-false U.FunctionShape (option_map_or (λ f. not (bytes_eq f.shape (shape_of x.home.tree.records (pointed of) false))) (callee_of x.world.program p) false) [] second.1).0)
  where
    by_number : (k : ℕ) → value_in n.frame a ≡ V.At (P.Function k) → (r : Option Callable) → source.function_at x.world.program k ≡ r → option_map_or (λ f. not (bytes_eq f.shape (shape_of x.home.tree.records (pointed of) false))) r false ≡ false
        → Meets x.world bound n ((need r >>= λ f. meaning.call x.world (calls x.world bound) f vs) u) (λ result t o. (is_void ty ≡ true → result ≡ None) → HasValue x numbers spots [] (called ty (λ r. op.CallInd r a shape ts) c) c u n result t o)
    by_number k is None at fine = tt
    by_number k is (Some f) at fine =
        let own : f.shape ≡ signature result params = (bytes_eq-Decides f.shape (shape_of x.home.tree.records (pointed of) false)).0 (not-false (bytes_eq f.shape (shape_of x.home.tree.records (pointed of) false)) fine) ∙ meant in
        call-behind laws bound keeps x numbers spots ty (λ r. op.CallInd r a shape ts) f.name f vs (map (value_in n.frame) ts) c u n active ready (names.own x.world k f active.world at)
        (subst (λ (shape : List ℕ). FitShape shape vs) (sym own) fits) stand
        (λ r rest. ap (λ (c : Command). obeys (graphs x.world) c (record n { frame = record n.frame { ops = rest } }))
        (ap (λ (w : Value). enter_value (graphs x.world) r w shape (map (value_in n.frame) ts)) is ∙ enters names x.world k f shape r (map (value_in n.frame) ts) active.world at (own ∙ sym lowered))) holds

    by_value : (p : Value) → Stands spots p (value_in n.frame a) → option_map_or (λ f. not (bytes_eq f.shape (shape_of x.home.tree.records (pointed of) false))) (callee_of x.world.program p) false ≡ false
        → Meets x.world bound n ((need (callee_of x.world.program p) >>= λ f. meaning.call x.world (calls x.world bound) f vs) u) (λ result t o. (is_void ty ≡ true → result ≡ None) → HasValue x numbers spots [] (called ty (λ r. op.CallInd r a shape ts) c) c u n result t o)
    by_value (V.At (P.Function k)) st fine = by_number k (st.2 ∙ ap V.At st.1) (source.function_at x.world.program k) refl fine
    by_value (V.At (P.Object o i)) st fine = tt
    by_value (V.Num i) st fine = tt
    by_value V.Null st fine = tt
    by_value V.Undefined st fine = tt
    by_value (V.Piece q i) st fine = tt

-- ---- the form

pub call-value-keeps : Laws → NameLaws → (bound : ℕ) → CallsKeep bound → (t : ℕ) (ty : QType) (a : Expression) (args : Expressions) → ExpressionKeeps bound a → EachKeeps bound args → ExpressionKeeps bound (Node t ty (CallValue a args))
unfolding lower answer_of ◌>>=◌ IsTyped HasForm
call-value-keeps laws names bound keeps t ty a args first each = λ x numbers spots c s m active typed slots holds ready.
    let h = home_of x in
    let e = env_of x numbers in
    let at = site e t in
    let y = lower h a c in
    let xs = arguments h args y.code in
    let shape = shape_at h.records (type_at a) in
    let o : Option ℕ → Op = λ r. op.CallInd r (temp_of y) shape xs.temps in
    let own = typed.1.1 in
    let result = own.0 in
    let params = own.1 in
    let z = called (type_of ty) o xs.code in
    let aa = assigned_in a in
    let ab = assigned_in_all args in
    let all = aa ++ ab in
    let slots-a : HaveSlots x (addressed_in a) = λ i there. slots i (Contains-append_left (addressed_in a) (addressed_in_all args) i there) in
    let slots-b : HaveSlots x (addressed_in_all args) = λ i there. slots i (Contains-append_right (addressed_in a) (addressed_in_all args) i there) in
    let are : AreTyped x args = are-typed x args params own.7 in
    let in-xs = before-called (graph_of x) (type_of ty) o xs.code holds in
    let in-y = arguments-contain laws (graph_of x) h args y.code in-xs in
    let new = laws.results x a c typed.1.0 slots-a (scalar-not-void (type_in a) (subst IsScalar (sym own.4) tt)) in
    let temp : temp_of y ≡ new.result = ap (λ (r : Option ℕ). unwrap_or r 0) new.is in
    let later = (laws.later h a c).temps in
    let more = arguments-later laws h args y.code in
    let R = HasResult x numbers spots (Node t ty (CallValue a args)) c s m in
    let Q : Option Value → State → Machine → Type 0 = λ r u n. (is_void (type_of ty) ≡ true → r ≡ None) → R r u n in
    let whole = answer_of (Node t ty (CallValue a args)) (calls x.world bound) e s in
    meets-less x.world bound m whole (λ r u n. Q r u n × IsResultOf (type_of ty) r) R
    (meets-typed x.world bound m (IsResultOf (type_of ty)) whole Q
    (meets-then laws x.world bound m ((answer_of a (calls x.world bound) e >>= used at) s) _ (HasOperand x numbers spots a c s m) Q
    (operand laws bound x numbers spots a c s m at active typed.1.0 ready.related.matches.bytes (first x numbers spots c s m active typed.1.0 slots-a in-y ready))
    (λ p u n q.
    let spots1 = q.0.done.later.spots in
    let again = ready-then laws x numbers spots a c s u m n (Some p) ready q.0 in
    meets-then laws x.world bound n (values_of args t (calls x.world bound) e u) _ (λ vs w k. HasArguments x numbers spots1 args y.code u n vs w k × FitLetters (letters_of params) vs) Q
    (meets-typed x.world bound n (FitLetters (letters_of params)) (values_of args t (calls x.world bound) e u) (HasArguments x numbers spots1 args y.code u n)
    (arguments-keep laws bound args each x numbers spots1 t y.code u n active are slots-b in-xs again)
    (arguments-fit laws bound x numbers args params t u active own.7 again.related.matches.bytes))
    (λ vs w k g.
    let spots2 = g.0.done.later.spots in
    let kept : value_in k.frame (temp_of y) ≡ value_in n.frame (temp_of y) =
    g.0.done.temps (temp_of y) (omega (arith, temp, new.given)) (λ i there f. let l = assigned-all laws x args are i there in omega (arith, temp, new.since, ready.temps, laws.below x i (temp_of y) l.0 l.1 f)) in
    let st : Stands spots2 p (value_in k.frame (temp_of y)) =
    subst (λ (r : Value). Stands spots2 p r) (sym kept) (laws.stands spots1 spots2 p (value_in n.frame (temp_of y)) g.0.done.later.lasts.more (operand-stands spots1 p y.temp n q.0.stands)) in
    meets-less x.world bound k (call_value e (calls x.world bound) t (type_in a) p vs w) (λ r v j. (is_void (type_of ty) ≡ true → r ≡ None) → HasValue x numbers spots2 [] z xs.code w k r v j) Q
    (pointer-call laws names bound keeps x numbers spots2 t (type_of ty) (type_in a) shape result params (temp_of y) xs.temps p vs xs.code w k active
    (record { related = g.0.done.later.related; behind = g.0.behind; temps = omega (arith, again.temps, more) })
    (lowered-shape h.records (type_at a) result params own.2 own.3 own.4) (meant-shape x.home.tree.records (type_in a) result params own.2 own.3 own.4)
    g.1 (each-stands spots2 vs xs.temps k g.0.stand) st holds)
    (λ r v j f none.
    value-after laws x numbers spots aa all all z c y.code s u v m n j r ready.related later
    (λ i there. Contains-append_left aa ab i there) (λ i there. there) q.0.done
    (value-after laws x numbers spots1 ab [] all z y.code xs.code u w v n k j r q.0.done.later.related more
    (λ i there. Contains-append_right aa ab i there) (λ i there. none-in i (Contains all i) there) g.0.done (f none))))))
    (laws.types bound (Node t ty (CallValue a args)) e s active.world.program.accepted.typed active.home typed ready.related.matches.bytes))
    (λ r u n q. q.0 (void-result (type_of ty) r q.1))
