-- A call that comes next: by what it promises, its result stands in a new temporary, unless its type is void.
use Rattle.std.proofs.Common.{◌≡◌, ℕ, Bool, true, false, true≢false, if◌then◌else◌, Option, Some, None, List, [], refl, ap, sym, ◌∙◌, subst, arith}
use Rattle.std.proofs.lemmas.List.{get_or-set_same}
use Rattle.std.proofs.lemmas.Option.{same_Some}
use Rattle.pw_value.specs.declared.value.Value.{Value}
use Rattle.pw_value.specs.declared.value.Value.TheVariants as V
use Rattle.pw_types.specs.TypeTrees.{CType, Void, Int, Pointer, Array, Function, Record}
use Rattle.pw_flow.specs.declared.flow.Op.{Op}
use Rattle.pw_flow.specs.declared.flow.FlowFn.{FlowFn}
use Rattle.pw_lower.specs.declared.code.Code.{Code}
use Rattle.pw_lower.specs.Codes.{lowered_as, emit, fresh, reserve_temps}
use Rattle.pw_lower.specs.Expressions.{is_void, called}
use Rattle.pw_cmean.specs.Worlds.{Callable, function_named}
use Rattle.pw_cmean.specs.Acts.{State}
use Rattle.pw_cmean.specs.Evaluation.{call}
use Rattle.pw_cmean.specs.SourceRun.{calls}
use Rattle.pw_cmean.specs.Typed.{IsResultOf}
use Rattle.pw_run_languages.specs.Commands.{command}
use Rattle.pw_run_languages.specs.FlowRun as flow
use Rattle.pw_run_languages.specs.FlowRun.{Frame, Machine, value_in, obeys}
use Rattle.pw_law_refine.specs.Standing.{Spot, Stands}
use Rattle.pw_law_refine.specs.Activations.{Activation, IsActivation, Numbers, graphs, graph_of}
use Rattle.pw_law_refine.specs.Containing.{ContainsCode}
use Rattle.pw_law_refine.specs.Meeting.{Meets}
use Rattle.pw_law_refine.specs.Expressions.{IsReady, HasValue, ResultStands}
use Rattle.pw_law_refine.specs.Calls.{FitShape, EachStands, IfReturned, with_result, HasReturned, CallsKeep}
use Rattle.pw_law_refine_forms.proofs.Laws.{Laws}
use Rattle.pw_law_refine_forms.proofs.Simulation.{meets-less}
use Rattle.pw_law_refine_forms.proofs.Kit.{before-emit, before-fresh}
use Rattle.pw_law_refine_forms.proofs.Symbols.{none-some}
use Rattle.pw_law_refine_exprs.proofs.Returned.{returned-later, returned-done, returned-behind}

-- a type that is void has no result
pub void-result : (ty : CType) (result : Option Value) → IsResultOf ty result → is_void ty ≡ true → result ≡ None
void-result Void None h e = refl
void-result Void (Some v) h e = absurd h
void-result (Int k) result h e = absurd (true≢false (sym e))
void-result (Pointer q) result h e = absurd (true≢false (sym e))
void-result (Array q n) result h e = absurd (true≢false (sym e))
void-result (Function r ps) result h e = absurd (true≢false (sym e))
void-result (Record n) result h e = absurd (true≢false (sym e))

-- what contains the code of a call contains that of its arguments
pub before-called : (g : FlowFn) (ty : CType) (o : Option ℕ → Op) (c : Code) → ContainsCode g (called ty o c).code → ContainsCode g c
before-called g ty o c w = by_void (is_void ty) w
  where
    by_void : (b : Bool) → ContainsCode g (if b then lowered_as None (emit (o None) c) else fresh (λ t. o (Some t)) c).code → ContainsCode g c
    by_void true w = before-emit g (o None) c w
    by_void false w = before-fresh g (λ t. o (Some t)) c w

-- the value that was returned stands in the result's temporary
returned-stands : (spots : List Spot) (t : ℕ) (f : Frame) (w : Value) (n : Machine) (result : Option Value)
    → n.frame ≡ f → value_in f t ≡ w → IfReturned spots result w → ResultStands spots result (Some t) n
returned-stands spots t f w n None e is h = tt
returned-stands spots t f w n (Some v) e is h = subst (λ (u : Value). Stands spots v u) (sym (ap (λ (g : Frame). value_in g t) e ∙ is)) h

-- An operation that calls a function by its name, whichever temporary gets the result.
abbrev pub Asks : Activation → (Option ℕ → Op) → List ℕ → List Value → Machine → Type 0
Asks x o name ws m =
    (r : Option ℕ) (rest : List Op) →
    obeys (graphs x.world) (command (graphs x.world) m.frame.base (o r) (value_in m.frame)) (record m { frame = record m.frame { ops = rest } })
    ≡ flow.calls (graphs x.world) r name ws (record m { frame = record m.frame { ops = rest } })

pub call-behind :
    Laws → (bound : ℕ) → CallsKeep bound → (x : Activation) (numbers : Numbers) (spots : List Spot) (ty : CType) (o : Option ℕ → Op) (name : List ℕ) (f : Callable) (vs ws : List Value) (c : Code) (s : State) (m : Machine)
    → IsActivation x → IsReady x numbers spots c s m → function_named x.world.program name ≡ Some f → FitShape f.shape vs → EachStands spots vs ws → Asks x o name ws m
    → ContainsCode (graph_of x) (called ty o c).code
    → Meets x.world bound m (call x.world (calls x.world bound) f vs s) (λ result t n. (is_void ty ≡ true → result ≡ None) → HasValue x numbers spots [] (called ty o c) c s m result t n)
unfolding returned-done returned-later
call-behind laws bound keeps x numbers spots ty o name f vs ws c s m active ready is fits stand asks holds = by_void (is_void ty) refl holds
  where
    by_void : (b : Bool) → is_void ty ≡ b → ContainsCode (graph_of x) (if b then lowered_as None (emit (o None) c) else fresh (λ t. o (Some t)) c).code
        → Meets x.world bound m (call x.world (calls x.world bound) f vs s) (λ result t n. (is_void ty ≡ true → result ≡ None) → HasValue x numbers spots [] (if b then lowered_as None (emit (o None) c) else fresh (λ t. o (Some t)) c) c s m result t n)
    by_void true e within =
        let nx = laws.next (graph_of x) c (o None) m within.filled ready.behind in
        meets-less x.world bound m (call x.world (calls x.world bound) f vs s) (HasReturned x.world spots None nx.rest s m) (λ result t n. (is_void ty ≡ true → result ≡ None) → HasValue x numbers spots [] (lowered_as None (emit (o None) c)) c s m result t n)
        (keeps x.world spots name f vs ws None nx.rest s m active.world is fits stand ready.related.matches (laws.obey x m (o None) nx.rest nx.ops ∙ asks None nx.rest))
        (λ result t n h none. record {
          done = returned-done laws x numbers spots None nx.rest c s m result t n ready.related ready.temps (λ i e. absurd (none-some i e)) h;
          behind = returned-behind x spots None c (o None) s m result t n nx h;
          stands = subst (λ (r : Option Value). ResultStands h.later r None n) (sym (none e)) tt;
        })
    by_void false e within =
        let d = reserve_temps 1 c in
        let r = Some c.temps in
        let nx = laws.next (graph_of x) d (o r) m within.filled ready.behind in
        meets-less x.world bound m (call x.world (calls x.world bound) f vs s) (HasReturned x.world spots r nx.rest s m) (λ result t n. (is_void ty ≡ true → result ≡ None) → HasValue x numbers spots [] (fresh (λ t. o (Some t)) c) c s m result t n)
        (keeps x.world spots name f vs ws r nx.rest s m active.world is fits stand ready.related.matches (laws.obey x m (o r) nx.rest nx.ops ∙ asks r nx.rest))
        (λ result t n h none. record {
          done = returned-done laws x numbers spots r nx.rest c s m result t n ready.related ready.temps (λ i e. omega (arith, same_Some c.temps i e)) h;
          behind = returned-behind x spots r d (o r) s m result t n nx h;
          stands = returned-stands h.later c.temps (record m.frame { ops = nx.rest; temps = with_result r h.value m.frame.temps }) h.value n result h.frame
              (get_or-set_same m.frame.temps c.temps h.value V.Undefined (omega (arith, within.temps, ready.related.frame.temps))) h.stands;
        })
