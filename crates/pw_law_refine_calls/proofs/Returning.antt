-- A function that returns: the objects that were made since its call end, and those that live stand below them.
use Rattle.std.proofs.Common.{◌≡◌, ℕ, zero, suc, ◌-◌, ◌<◌, ◌≤◌, true, false, true≢false, Option, Some, None, List, [], ◌∷◌, length, inl, inr, refl, ap, sym, ◌∙◌, subst, arith, length-set}
use Rattle.std.proofs.lemmas.Bool.{cases_lt}
use Rattle.std.proofs.lemmas.List.{get_or_append_left, get_or-set_other}
use Rattle.pw_value.specs.declared.value.Value.{Value}
use Rattle.pw_value.specs.declared.value.Value.TheVariants as V
use Rattle.pw_value.specs.Objects.{Object, no_object, object_at, ended}
use Rattle.pw_types.specs.TypedTrees.{FunctionValue}
use Rattle.pw_flow.specs.declared.flow.Op.{Op}
use Rattle.pw_flow.specs.declared.flow.End.{End}
use Rattle.pw_flow.specs.declared.flow.End.TheVariants.{Return}
use Rattle.pw_flow.specs.declared.flow.Block.{Block}
use Rattle.pw_flow.specs.declared.flow.FlowFn.{FlowFn}
use Rattle.pw_cmean.specs.Worlds.{ProgramModule, World, full_name}
use Rattle.pw_cmean.specs.Acts as source
use Rattle.pw_cmean.specs.Acts.{State, called}
use Rattle.pw_run.specs.Runs.{also}
use Rattle.pw_run_languages.specs.FlowRun as flow
use Rattle.pw_run_languages.specs.FlowRun.{Frame, Machine, Step, On, value_in, takes_result, end_from, returns, ends, step}
use Rattle.pw_law_refine.specs.Standing.{Spot, Nowhere, In, spot_of, Holds, MemoryStands}
use Rattle.pw_law_refine.specs.Activations.{Activation, graphs, graph_of}
use Rattle.pw_law_refine.specs.Matching.{Matches}
use Rattle.pw_law_refine.specs.Expressions.{ResultStands}
use Rattle.pw_law_refine.specs.Calls.{IfReturned, with_result, HasReturned, HasRun}
use Rattle.pw_law_refine_calls.proofs.Moments.{moment-kept}
use Rattle.pw_law_refine_calls.proofs.Entering.{is-there, slots-count, slots-leave, none-scoped, activated, entering, graph-named}

-- ---- objects that end

pub ends-count : (more o : ℕ) (objects : List Object) → length (end_from more o objects) ≡ length objects
ends-count zero o objects = refl
ends-count (suc more) o objects = ends-count more (suc o) (ended o objects) ∙ length-set objects o (record (object_at objects o) { live = false })

pub ends-leave : (more o : ℕ) (objects : List Object) (f : ℕ) → f < o → object_at (end_from more o objects) f ≡ object_at objects f
ends-leave zero o objects f h = refl
ends-leave (suc more) o objects f h =
    ends-leave more (suc o) (ended o objects) f (omega (arith, h))
    ∙ get_or-set_other objects o f (record (object_at objects o) { live = false }) no_object (λ e. omega (arith, h, e))

-- what lives stands below those that end
memory-left :
    (spots : List Spot) (objects kept : List Object) (more base : ℕ) → MemoryStands spots objects kept
    → ((o f size : ℕ) → (object_at objects o).live ≡ true → spot_of spots o ≡ In f size → f < base)
    → MemoryStands spots objects (end_from more base kept)
memory-left spots objects kept more base m below = record {
  count = m.count;
  holds = λ o f size live there.
      subst (λ (y : Object). Holds spots size (object_at objects o) y) (sym (ends-leave more base kept f (below o f size live there))) (m.holds o f size live there);
  apart = m.apart;
}

-- ---- the step

abbrev pub returned_value : Option ℕ → Machine → Value
returned_value None n = V.Undefined
returned_value (Some t) n = value_in n.frame t

abbrev left_from : ℕ → Machine → List Object
left_from base n = end_from (length n.objects - base) base n.objects

-- the machine back in the caller
abbrev pub back_in : Frame → List Frame → Option ℕ → ℕ → List ℕ → Value → Machine → Machine
back_in caller callers r base name w n = record n {
  frame = record caller { temps = with_result r w caller.temps };
  callers = callers;
  objects = left_from base n;
  moments = flow.Returned name (left_from base n) ∷ n.moments;
}

pub takes-is : (r : Option ℕ) (w : Value) (m : Machine) → takes_result r w m ≡ record m { frame = record m.frame { temps = with_result r w m.frame.temps } }
takes-is None w m = refl
takes-is (Some t) w m = refl

-- before it takes the result
abbrev left_for : Frame → List Frame → Machine → Machine
left_for caller callers n = record n {
  frame = caller;
  callers = callers;
  objects = left_from n.frame.base n;
  moments = flow.Returned n.frame.function.name (left_from n.frame.base n) ∷ n.moments;
}

to_caller : (temp : Option ℕ) (n : Machine) (caller : Frame) (callers : List Frame)
    → returns temp (record n { callers = caller ∷ callers }) ≡ On (takes_result n.frame.result (returned_value temp n) (left_for caller callers n))
to_caller None n caller callers = refl
to_caller (Some t) n caller callers = refl

at_end : (world : World) (n : Machine) (e : End) → n.frame.ops ≡ [] → n.frame.end ≡ e → step (graphs world) n ≡ ends e n
unfolding step
at_end world n e ops end =
    ap (λ (ops : List Op). step (graphs world) (record n { frame = record n.frame { ops = ops } })) ops
    ∙ ap (λ (end : End). ends end (record n { frame = record n.frame { ops = [] } })) end
    ∙ ap (λ (ops : List Op). ends e (record n { frame = record n.frame { ops = ops } })) (sym ops)

pub steps-back :
    (world : World) (n : Machine) (temp r : Option ℕ) (base : ℕ) (g : FlowFn) (caller : Frame) (callers : List Frame)
    → n.frame.ops ≡ [] → n.frame.end ≡ Return temp → n.callers ≡ caller ∷ callers → n.frame.result ≡ r → n.frame.base ≡ base → n.frame.function ≡ g
    → step (graphs world) n ≡ On (back_in caller callers r base g.name (returned_value temp n) n)
steps-back world n temp r base g caller callers ops end active result first function =
    at_end world n (Return temp) ops end
    ∙ ap (λ (fs : List Frame). returns temp (record n { callers = fs })) active
    ∙ to_caller temp n caller callers
    ∙ ap (λ (m : Machine). On m) (takes-is n.frame.result (returned_value temp n) (left_for caller callers n))
    ∙ ap (λ (o : Option ℕ). On (back_in caller callers o n.frame.base n.frame.function.name (returned_value temp n) n)) result
    ∙ ap (λ (k : ℕ). On (back_in caller callers r k n.frame.function.name (returned_value temp n) n)) first
    ∙ ap (λ (h : FlowFn). On (back_in caller callers r base h.name (returned_value temp n) n)) function

-- ---- behind it

result-stands : (spots : List Spot) (result : Option Value) (temp : Option ℕ) (n : Machine) → ResultStands spots result temp n → IfReturned spots result (returned_value temp n)
result-stands spots None temp n h = tt
result-stands spots (Some v) None n h = absurd h
result-stands spots (Some v) (Some t) n h = h

-- where the run goes on, the function has returned
abbrev pub behind_call : List ℕ → State → State → State
behind_call name s t = record t { active = s.active; moments = source.Returned name t.objects ∷ t.moments }

module _
    (world : World) (home : ProgramModule) (f : FunctionValue) (spots : List Spot) (b : Block) (r : Option ℕ) (rest : List Op) (ws : List Value) (s : State) (m : Machine)
    (h : Matches world spots s m) (result : Option Value) (t : State) (n : Machine)
    (run : HasRun (activated world home f r rest m) spots (called (full_name home.name f.name) s) (entering (activated world home f r rest m) b r rest ws m) result t n)
  where
    abbrev x : Activation
    x = activated world home f r rest m

    abbrev caller : Frame
    caller = record m.frame { ops = rest }

    abbrev w : Value
    w = returned_value run.returning.temp n

    abbrev back : Machine
    back = back_in caller m.callers r (length m.objects) (graph_of x).name w n

    abbrev later : List Spot
    later = run.later.spots

    pub comes-back : step (graphs world) n ≡ On back
    comes-back =
        let own = run.later.related.frame in
        steps-back world n run.returning.temp r (length m.objects) (graph_of x) caller m.callers run.returning.ops run.returning.end own.callers own.result own.base own.function

    -- an object that lives was there before the call, so what it stands in was, too
    lived : (o : ℕ) → (object_at t.objects o).live ≡ true → o < length s.objects
    unfolding called
    lived o live = elim (cases_lt o (length s.objects)) [
      | inl less ↦ less
      | inr more ↦ absurd (true≢false (sym live ∙ run.later.lasts.ended o more))
    ]

    spot-before : (o : ℕ) → o < length s.objects → spot_of later o ≡ spot_of spots o
    spot-before o less =
        ap (λ (l : List Spot). spot_of l o) run.later.lasts.more.1
        ∙ get_or_append_left spots run.later.lasts.more.0 Nowhere o (omega (arith, less, h.memory.count))

    below : (o k size : ℕ) → (object_at t.objects o).live ≡ true → spot_of later o ≡ In k size → k < length m.objects
    unfolding called
    below o k size live there =
        let less = lived o live in
        let held = h.memory.holds o k size (sym (run.later.lasts.lives o less) ∙ live) (sym (spot-before o less) ∙ there) in
        is-there m.objects k held.live

    memory : MemoryStands later t.objects back.objects
    memory = memory-left later t.objects n.objects (length n.objects - length m.objects) (length m.objects) run.later.related.matches.memory below

    -- the objects of before the call are there behind it
    count : length m.objects ≤ length n.objects
    count =
        let more = run.later.lasts.count in
        let slots = slots-count (graph_of x).slots m.objects in
        omega (arith, more, slots)

    among : (k : ℕ) → k < length m.objects → k < length (entering x b r rest ws m).objects
    among k less = let slots = slots-count (graph_of x).slots m.objects in omega (arith, less, slots)

    pub has-returned : HasReturned world spots r rest s m result (behind_call (full_name home.name f.name) s t) back
    unfolding called
    has-returned =
        let own = run.later.related.matches in
        let last = run.later.lasts in
        record {
          later = later;
          matches = record {
            memory = memory;
            globals = own.globals;
            input = own.input;
            shows = record {
              output = own.shows.output;
              read = own.shows.read;
              log = also _ _ _ _ (graph-named home f, moment-kept world later t.objects back.objects memory own.globals) own.shows.log;
            };
            active = h.active;
            bytes = record { objects = own.bytes.objects; input = own.bytes.input };
            small = own.small;
          };
          lasts = record {
            more = last.more;
            unnamed = λ o less there not. last.unnamed o less there (λ k e. none-scoped x k o e);
            lives = last.lives;
            ended = last.ended;
            count = let same = ends-count (length n.objects - length m.objects) (length m.objects) n.objects in omega (arith, count, same);
            living = λ k less.
                ap (λ (y : Object). y.live) (ends-leave (length n.objects - length m.objects) (length m.objects) n.objects k less)
                ∙ last.living k (among k less) ∙ ap (λ (y : Object). y.live) (slots-leave (graph_of x).slots m.objects k less);
            sizes = λ k less.
                ap (λ (y : Object). length y.bytes) (ends-leave (length n.objects - length m.objects) (length m.objects) n.objects k less)
                ∙ last.sizes k (among k less) ∙ ap (λ (y : Object). length y.bytes) (slots-leave (graph_of x).slots m.objects k less);
          };
          value = w;
          stands = result-stands later result run.returning.temp n run.returning.stands;
          frame = refl;
          callers = refl;
        }
