-- The calls of a trace, counted.
use Rattle.std.proofs.Common.{◌≡◌, ℕ, zero, suc, ◌+◌, ◌==◌, not, Bool, true, false, cond, List, [], ◌∷◌, ◌++◌, Option, Some, None, refl, sym, ap, subst, ◌∙◌, arith}
use Rattle.std.specs.Prelude.{◌&&◌}
use Rattle.std.specs.List.{list_any, flat_map}
use Rattle.std.proofs.lemmas.List.Concat.{flat_map-cons}
use Rattle.pw_inst.specs.declared.Inst.{Inst}
use Rattle.pw_inst.specs.InstructionTable.{decoded}
use Rattle.pw_flow.specs.declared.flow.FlowGlobal.{FlowGlobal}
use Rattle.pw_machine.specs.Core.{Core, word_at}
use Rattle.pw_machine.specs.Run.{State, Progress, Running, Stopped, goes_on, run_of}
use Rattle.pw_run_languages.specs.Acts as lines
use Rattle.pw_run_languages.specs.Programs.{globals_of}
use Rattle.pw_run_languages.specs.Traces.{Event, Returned, Loaded, Stored, is_of_source}
use Rattle.pw_run_languages.specs.MachineRun.{Map, Call, Noted, accesses_in, accesses_of, accesses_to, arrived, began, called, core_of, function_at, globals_in, has_returned, kept, left, noted, stepped, with_returns}
use Rattle.pw_where.specs.Calls.{IsCall, call_at, calls_in, is_at, one_if}
use Rattle.pw_law_where.specs.Counting.{AreEntriesOf, NotesCall, is_source, source_calls}

abbrev pub Events : Type 0
Events = List (Event ℕ ℕ)

append_counts : (xs ys : Events) → source_calls (xs ++ ys) ≡ source_calls xs + source_calls ys
append_counts [] ys = omega arith
append_counts (e ∷ xs) ys = let rest = append_counts xs ys in omega (arith, rest)

-- ---- what is noted besides

loads_or_stores : (v : List ℕ) (a b : Bool) → source_calls (cond a (Loaded v ∷ []) [] ++ cond b (Stored v ∷ []) []) ≡ 0
loads_or_stores v true true = refl
loads_or_stores v true false = refl
loads_or_stores v false true = refl
loads_or_stores v false false = refl

accesses_count : (m : Map) (i : Inst) (c : lines.Core) (gs : List FlowGlobal) → source_calls (flat_map (accesses_to m i c) gs) ≡ 0
accesses_count m i c [] = refl
accesses_count m i c (g ∷ gs) =
    let rest = accesses_count m i c gs in
    let own : source_calls (accesses_to m i c g) ≡ 0 = loads_or_stores g.name _ _ in
    ap source_calls (flat_map-cons (accesses_to m i c) g gs) ∙ append_counts (accesses_to m i c g) (flat_map (accesses_to m i c) gs) ∙ omega (arith, own, rest)

of_inst : (m : Map) (i : Option Inst) (c : lines.Core) → source_calls (accesses_of m i c) ≡ 0
of_inst m None c = refl
of_inst m (Some i) c = accesses_count m i c (globals_of m.flow)

unless_nullified : (b : Bool) (log : Events) → source_calls log ≡ 0 → source_calls (cond b [] log) ≡ 0
unless_nullified true log h = refl
unless_nullified false log h = h

steps_count : (m : Map) (c : Core) → source_calls (accesses_in m c) ≡ 0
steps_count m c = unless_nullified c.nullify (accesses_of m (decoded (word_at c.memory c.front)) (core_of c)) (of_inst m (decoded (word_at c.memory c.front)) (core_of c))

returns_by : (b : Bool) (one other : Events) (n : ℕ) → source_calls one ≡ n → source_calls other ≡ n → source_calls (cond b one other) ≡ n
returns_by true one other n h k = h
returns_by false one other n h k = k

returns_count : (m : Map) (c : Core) (inner : ℕ) (calls : List Call) (log : Events) → source_calls (with_returns m c inner calls log) ≡ source_calls log
returns_count m c inner [] log = refl
returns_count m c inner (call ∷ callers) log =
    returns_by (has_returned c call) _ _ (source_calls log)
    (returns_count m c inner callers (Returned call.function inner (globals_in m c callers) call.before (kept c) ∷ log) ∙ omega arith)
    (returns_count m c (inner + 1) callers log)

-- ---- where the machine arrives

abbrev pub back_at : Map → Core → Noted → Noted
back_at m c n = record { calls = left c n.calls; log = with_returns m c 0 n.calls n.log }

called_counts : (m : Map) (c : Core) (f : Option (List ℕ)) (n : Noted) → source_calls (called m c f n).log ≡ source_calls n.log + one_if (is_source f)
called_counts m c None n = omega arith
called_counts m c (Some f) n = omega arith

arrived_by : (m : Map) (c : Core) (n : Noted) (b at : Bool) → at ≡ is_source (function_at m c.front)
    → source_calls (cond b (back_at m c n) (called m c (function_at m c.front) (back_at m c n))).log ≡ source_calls n.log + one_if (not b && at)
arrived_by m c n true at e = let back = returns_count m c 0 n.calls n.log in omega (arith, back)
arrived_by m c n false at e =
    let back = returns_count m c 0 n.calls n.log in
    let one = called_counts m c (function_at m c.front) (back_at m c n) in
    let same : one_if at ≡ one_if (is_source (function_at m c.front)) = ap one_if e in
    omega (arith, back, one, same)

arrived_counts : (entries : List ℕ) (m : Map) (c : Core) (n : Noted) → AreEntriesOf entries m → source_calls (arrived m c n).log ≡ source_calls n.log + one_if (is_at entries c)
arrived_counts entries m c n are = arrived_by m c n c.nullify (list_any (λ a. a == c.front) entries) (are c.front)

-- ---- runs

went_on : (p : Progress) (s : State) → goes_on p ≡ Running s → (u : State) × (p ≡ Running u)
went_on (Running u) s e = (u, refl)
went_on (Stopped end u) s e = absurd cc

run_before : (n : ℕ) (start s : State) → run_of (suc n) start ≡ Running s → (u : State) × (run_of n start ≡ Running u)
unfolding run_of
run_before n start s e = went_on (run_of n start) s e

noted_first : (m : Map) (start s : State) → run_of zero start ≡ Running s → noted m start zero ≡ arrived m s.core (record { calls = []; log = [] })
unfolding noted
noted_first m start s e = ap (began m) e

noted_next : (m : Map) (n : ℕ) (start s u : State) → run_of n start ≡ Running u → run_of (suc n) start ≡ Running s
    → noted m start (suc n) ≡ arrived m s.core (record { calls = (noted m start n).calls; log = accesses_in m u.core ++ (noted m start n).log })
unfolding noted
noted_next m n start s u before now = ap (λ (p : Progress). stepped m p (run_of (suc n) start) (noted m start n)) before ∙ ap (λ (p : Progress). stepped m (Running u) p (noted m start n)) now

next_counts : (entries : List ℕ) (start s : State) (n : ℕ) → run_of n start ≡ Running s → calls_in entries start (suc n) ≡ calls_in entries start n + one_if (is_at entries s.core)
next_counts entries start s n e = ap (λ (p : Progress). calls_in entries start n + one_if (call_at entries p)) e

pub trace_counts : (entries : List ℕ) (m : Map) (start s : State) (n : ℕ) → AreEntriesOf entries m → run_of n start ≡ Running s → source_calls (noted m start n).log ≡ calls_in entries start (suc n)
trace_counts entries m start s zero are e =
    let first = arrived_counts entries m s.core (record { calls = []; log = [] }) are in
    ap (λ (n : Noted). source_calls n.log) (noted_first m start s e) ∙ first ∙ sym (next_counts entries start s zero e)
trace_counts entries m start s (suc n) are e =
    let before = run_before n start s e in
    let u = before.0 in
    let log = accesses_in m u.core ++ (noted m start n).log in
    let so_far = trace_counts entries m start u n are before.1 in
    let own = steps_count m u.core in
    let both = append_counts (accesses_in m u.core) (noted m start n).log in
    let here = arrived_counts entries m s.core (record { calls = (noted m start n).calls; log = log }) are in
    let next = next_counts entries start s (suc n) e in
    let is = ap (λ (n : Noted). source_calls n.log) (noted_next m n start s u before.1 e) in
    is ∙ omega (arith, so_far, own, both, here, next)

-- ---- the latest event

call_by : (m : Map) (c : Core) (n : Noted) (k : ℕ) (b at : Bool) → (not b && at) ≡ true → at ≡ is_source (function_at m c.front)
    → source_calls (cond b (back_at m c n) (called m c (function_at m c.front) (back_at m c n))).log ≡ k
    → NotesCall m k c (cond b (back_at m c n) (called m c (function_at m c.front) (back_at m c n)))
call_by m c n k true at is e count = absurd cc
call_by m c n k false at is e count = of_function (function_at m c.front) refl
  where
    of_function : (f : Option (List ℕ)) → function_at m c.front ≡ f → NotesCall m k c (called m c (function_at m c.front) (back_at m c n))
    of_function None at_it = let none : true ≡ false = sym is ∙ e ∙ ap is_source at_it in absurd cc
    of_function (Some f) at_it =
        let of_source : is_of_source f ≡ true = sym (ap is_source at_it) ∙ sym e ∙ is in
        let log = ap (λ (o : Option (List ℕ)). (called m c o (back_at m c n)).log) at_it in
        let counted : source_calls (called m c (Some f) (back_at m c n)).log ≡ k = ap source_calls (sym log) ∙ count in
        let one : one_if (is_of_source f) ≡ 1 = ap one_if of_source in
        record {
          function = f;
          callers = left c n.calls;
          before = (back_at m c n).log;
          called = log;
          active = ap (λ (o : Option (List ℕ)). (called m c o (back_at m c n)).calls) at_it;
          of_source = of_source;
          at_address = at_it;
          count = omega (arith, counted, one);
        }

arrived_at : (m : Map) (n : ℕ) (start s : State) → run_of n start ≡ Running s → (before : Noted) × (noted m start n ≡ arrived m s.core before)
arrived_at m zero start s e = (record { calls = []; log = [] }, noted_first m start s e)
arrived_at m (suc n) start s e =
    let before = run_before n start s e in
    (record { calls = (noted m start n).calls; log = accesses_in m before.0.core ++ (noted m start n).log }, noted_next m n start s before.0 before.1 e)

pub call_noted : (entries : List ℕ) (m : Map) (start s : State) (k n : ℕ) → AreEntriesOf entries m → IsCall entries start k n s → NotesCall m k s.core (noted m start n)
call_noted entries m start s k n are call =
    let p = arrived_at m n start s call.goes in
    let count = trace_counts entries m start s n are call.goes in
    let next = next_counts entries start s n call.goes in
    let one : one_if (is_at entries s.core) ≡ 1 = ap one_if call.at in
    let whole : source_calls (noted m start n).log ≡ k = omega (arith, count, next, one, call.before) in
    let there : source_calls (arrived m s.core p.0).log ≡ k = ap (λ (x : Noted). source_calls x.log) (sym p.1) ∙ whole in
    subst (NotesCall m k s.core) (sym p.1)
    (call_by m s.core p.0 k s.core.nullify (list_any (λ a. a == s.core.front) entries) call.at (are s.core.front) there)
