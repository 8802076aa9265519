-- What a placed run has noted stays: each step only notes more.
use Rattle.std.proofs.Common.{◌≡◌, ℕ, zero, suc, ◌+◌, ◌-◌, ◌%◌, ◌^◌, ◌==◌, ◌||◌, Bool, true, false, Option, Some, None, List, [], ◌∷◌, ◌++◌, length, refl, sym, ap, subst, ◌∙◌, append_assoc, arith, inl, inr}
use Rattle.std.specs.Prelude.{slice_get}
use Rattle.pw_value.specs.declared.value.Kind.{Kind}
use Rattle.pw_value.specs.declared.value.Value.{Value}
use Rattle.pw_value.specs.declared.value.Value.TheVariants.{Undefined, Num, Null, At, Piece}
use Rattle.pw_value.specs.declared.value.Byte.{Byte}
use Rattle.pw_value.specs.Objects.{Object}
use Rattle.pw_value.specs.ProgramNames.{exit_name, getchar_name, putchar_name}
use Rattle.pw_db.specs.declared.database.Web.{Web}
use Rattle.pw_flow.specs.declared.flow.End.{End}
use Rattle.pw_flow.specs.declared.flow.End.TheVariants.{Jump, Branch, Return}
use Rattle.pw_webflow.specs.declared.web.WebOp.{WebOp}
use Rattle.pw_webflow.specs.declared.web.WebOp.TheVariants.{Flow, Read, Write}
use Rattle.pw_webflow.specs.declared.web.WebBlock.{WebBlock}
use Rattle.pw_alloc.specs.declared.located.Located.{Located}
use Rattle.pw_run.specs.Runs as run
use Rattle.pw_run_languages.specs.Traces.{Event, Called, Loaded, Refused, Returned, Stored}
use Rattle.pw_run_languages.specs.Values.{binary, is_somewhere}
use Rattle.pw_run_languages.specs.Memory.{look, poke, copy}
use Rattle.pw_run_languages.specs.Programs.{Program, Library, GetChar, PutChar, Exit, library_at}
use Rattle.pw_run_languages.specs.Commands as command
use Rattle.pw_run_languages.specs.FlowRun.{get_global, put_global, end_from}
use Rattle.pw_run_languages.specs.Direction.{with_functions}
use Rattle.pw_run_languages.specs.PlacedRun.{PlacedProgram, Frame, Machine, Step, On, Stopped, Astray, name_of, function_named, with_registers, kept, register_at, value_in, with_temp, gives, takes_result, counted, noted, globals_now, is_eligible, noted_if, loads_global, stores_global, is_reserved, changes, exceeds, library_call, without_scratch, gives_back, calls_library, entered_webs, and_then, enters, enters_webs, leaves, leaves_webs, with_parameters, entered, first_block, begins, calls_defined, jumps, branches, given_back, ends, obeys, does, step, steps}
use Rattle.pw_law_select_known.specs.Laws.{KeepsShape, WebsKeepShape, WebsNeverStop}
use Rattle.pw_law_select_known.proofs.Lists.{choose}
use Rattle.pw_law_select_known.proofs.Parts.{calls_by, goes_to, next_by, put_by, reads_by, result_by, returns_by, stored_by, to_block_by}
use Rattle.pw_law_refused.proofs.Stages.{steps_last}

abbrev pub Events : Type 0
Events = List (Event Byte Value)

-- this log, with some more that was noted since
abbrev pub IsLater : Events → Events → Type 0
IsLater old log = (new : Events) × (log ≡ new ++ old)

same_log : (log : Events) → IsLater log log
same_log log = ([], refl)

one_more : (e : Event Byte Value) (log : Events) → IsLater log (e ∷ log)
one_more e log = (e ∷ [], refl)

pub later_then : (a b c : Events) → IsLater a b → IsLater b c → IsLater a c
later_then a b c p q = (q.0 ++ p.0, q.1 ∙ ap (λ (l : Events). q.0 ++ l) p.1 ∙ sym (append_assoc q.0 p.0 a))

abbrev pub StepIsLater : Events → Step → Type 0
StepIsLater old (On m) = IsLater old m.trace
StepIsLater old (Stopped end m) = IsLater old m.trace
StepIsLater old Astray = Unit {0}

step_then : (a b : Events) (s : Step) → IsLater a b → StepIsLater b s → StepIsLater a s
step_then a b (On m) p q = later_then a b m.trace p q
step_then a b (Stopped end m) p q = later_then a b m.trace p q
step_then a b Astray p q = tt

and_later : (a : Events) (s : Step) (next : Machine → Step) → StepIsLater a s → ((m : Machine) → StepIsLater m.trace (next m)) → StepIsLater a (and_then s next)
and_later a (On m) next p q = step_then a m.trace (next m) p (q m)
and_later a (Stopped end m) next p q = p
and_later a Astray next p q = tt

shape_later : (m : Machine) (s : Step) → ((n : Machine) → s ≡ On n → KeepsShape m n) → ((end : run.End) (n : Machine) → s ≡ Stopped end n → ⊥) → StepIsLater m.trace s
shape_later m (On n) keeps never = let k = keeps n refl in (k.log, k.noted)
shape_later m (Stopped end n) keeps never = absurd (never end n refl)
shape_later m Astray keeps never = tt

-- ---- what a step has noted

abbrev pub TraceOf : Step → Events → Type 0
TraceOf (On m) log = m.trace ≡ log
TraceOf (Stopped end m) log = m.trace ≡ log
TraceOf Astray log = ⊥

pub one_trace : (s : Step) (a b : Events) → TraceOf s a → TraceOf s b → a ≡ b
one_trace (On m) a b p q = sym p ∙ q
one_trace (Stopped end m) a b p q = sym p ∙ q
one_trace Astray a b p q = absurd p

pub trace_later : (old : Events) (s : Step) (log : Events) → StepIsLater old s → TraceOf s log → IsLater old log
trace_later old (On m) log p q = subst (IsLater old) q p
trace_later old (Stopped end m) log p q = subst (IsLater old) q p
trace_later old Astray log p q = absurd q

-- ---- temporaries

put_keeps : (t : ℕ) (v : Value) (m : Machine) (r : Option ℕ) → (put_by t v m r).trace ≡ m.trace
put_keeps t v m (Some r) = refl
put_keeps t v m None = refl

temp_keeps : (t : ℕ) (v : Value) (m : Machine) → (with_temp t v m).trace ≡ m.trace
temp_keeps t v m = put_keeps t v m (register_at m.frame.function.places t)

result_keeps : (t : Option ℕ) (v : Value) (m : Machine) → (takes_result t v m).trace ≡ m.trace
result_keeps None v m = refl
result_keeps (Some t) v m = temp_keeps t v m

parameters_keep : (t : ℕ) (vs : List Value) (m : Machine) → (with_parameters t vs m).trace ≡ m.trace
parameters_keep t [] m = refl
parameters_keep t (v ∷ vs) m = parameters_keep (suc t) vs (with_temp t v m) ∙ temp_keeps t v m

temp_later : (t : ℕ) (v : Value) (m : Machine) → IsLater m.trace (with_temp t v m).trace
temp_later t v m = ([], temp_keeps t v m)

gives_later : (t : ℕ) (v : Option Value) (m : Machine) → StepIsLater m.trace (gives t v m)
gives_later t (Some v) m = temp_later t v m
gives_later t None m = tt

changes_later : (objects : Option (List Object)) (m : Machine) → StepIsLater m.trace (changes objects m)
changes_later (Some objects) m = same_log m.trace
changes_later None m = tt

noted_later : (b : Bool) (e : Event Byte Value) (m : Machine) → IsLater m.trace (noted_if b e m).trace
noted_later true e m = one_more e m.trace
noted_later false e m = same_log m.trace

module _ (webs : WebsKeepShape) (never : WebsNeverStop) (p : Program) (fs : List Located) where
  abbrev full : PlacedProgram
  full = with_functions p fs

  -- ---- loads and stores of globals

  loads_later : (t : ℕ) (g : List ℕ) (k : Kind) (m : Machine) → StepIsLater m.trace (loads_global full t g k m)
  loads_later t g k m =
      let n : Machine = noted_if (is_eligible full g) (Loaded g) m in
      step_then m.trace n.trace (gives t (get_global p g k m.objects) n) (noted_later (is_eligible full g) (Loaded g) m) (gives_later t (get_global p g k m.objects) n)

  stored_later : (g : List ℕ) (m : Machine) (objects : Option (List Object)) → StepIsLater m.trace (stored_by full g m objects)
  stored_later g m (Some objects) = noted_later (is_eligible full g) (Stored g) (record m { objects = objects })
  stored_later g m None = tt

  stores_later : (g : List ℕ) (k : Kind) (v : Value) (m : Machine) → StepIsLater m.trace (stores_global full g k v m)
  stores_later g k v m = stored_later g m (put_global p g k v m.objects)

  enters_later : (ws : List Web) (m : Machine) → StepIsLater m.trace (enters_webs full ws m)
  enters_later [] m = same_log m.trace
  enters_later (w ∷ ws) m = and_later m.trace (enters full w m) (enters_webs full ws) (shape_later m (enters full w m) (λ n is. webs p fs w m n (inl is)) (λ end n is. never p fs w m n end (inl is))) (enters_later ws)

  leaves_later : (ws : List Web) (m : Machine) → StepIsLater m.trace (leaves_webs full ws m)
  leaves_later [] m = same_log m.trace
  leaves_later (w ∷ ws) m = and_later m.trace (leaves full w m) (leaves_webs full ws) (shape_later m (leaves full w m) (λ n is. webs p fs w m n (inr is)) (λ end n is. never p fs w m n end (inr is))) (leaves_later ws)

  -- ---- calls of the library

  call_later : (f : List ℕ) (m : Machine) → IsLater m.trace (library_call full f m).trace
  call_later f m = one_more (Called f (globals_now full m.registers (m.frame ∷ m.callers) m.objects) (kept m.registers)) m.trace

  back_later : (old : Events) (f : List ℕ) (t : Option ℕ) (v : Value) (m : Machine) → IsLater old m.trace → StepIsLater old (gives_back full f t v m)
  back_later old f t v m h =
      let registers = without_scratch m.registers in
      let event : Event Byte Value = Returned f 0 (globals_now full registers (m.frame ∷ m.callers) m.objects) (kept registers) (kept registers) in
      let back : Machine = noted event (record (counted m) { registers = registers }) in
      subst (IsLater old) (sym (result_keeps t v back)) (later_then old m.trace (event ∷ m.trace) h (one_more event m.trace))

  reads_later : (t : Option ℕ) (m : Machine) (rest : List ℕ) → StepIsLater m.trace (reads_by full t m rest)
  reads_later t m [] = back_later m.trace getchar_name t (Num (2 ^ 32 - 1)) (library_call full getchar_name m) (call_later getchar_name m)
  reads_later t m (byte ∷ rest) = back_later m.trace getchar_name t (Num byte) (record (library_call full getchar_name m) { rest = rest; read = m.read + 1 }) (call_later getchar_name m)

  library_later : (g : Library) (t : Option ℕ) (args : List Value) (m : Machine) → StepIsLater m.trace (calls_library full g t args m)
  library_later GetChar t [] m = reads_later t m m.rest
  library_later PutChar t (Num n ∷ []) m = back_later m.trace putchar_name t (Num (n % 256)) (record (library_call full putchar_name m) { out = m.out ++ n % 256 ∷ [] }) (call_later putchar_name m)
  library_later Exit t (Num n ∷ []) m = call_later exit_name m
  library_later _ t _ m = tt

  -- ---- calls of functions

  pub begins_later : (l : Located) (b : Option WebBlock) (t : Option ℕ) (args : List Value) (m : Machine) → StepIsLater m.trace (begins full l b t args m)
  begins_later l None t args m = tt
  begins_later l (Some b) t args m =
      choose (StepIsLater m.trace) (length args == l.body.params) (and_then (enters_webs full (entered_webs l) (entered l b t m)) (λ n. On (with_parameters 0 args n))) Astray
      (and_later m.trace (enters_webs full (entered_webs l) (entered l b t m)) (λ n. On (with_parameters 0 args n)) (enters_later (entered_webs l) (entered l b t m)) (λ n. ([], parameters_keep 0 args n))) tt

  defined_later : (l : Located) (t : Option ℕ) (args : List Value) (m : Machine) → StepIsLater m.trace (calls_defined full l t args m)
  defined_later l t args m =
      let event : Event Byte Value = Called l.body.name (globals_now full m.registers (m.frame ∷ m.callers) m.objects) (kept m.registers) in
      let called : Machine = counted (noted event m) in
      choose (StepIsLater m.trace) (exceeds full l.body.name (m.frame ∷ m.callers)) (Stopped run.StackFull (noted (Refused l.body.name) m)) (begins full l (first_block l) t args called) (one_more (Refused l.body.name) m.trace)
      (step_then m.trace called.trace (begins full l (first_block l) t args called) (one_more event m.trace) (begins_later l (first_block l) t args called))

  calls_later : (f : List ℕ) (t : Option ℕ) (args : List Value) (m : Machine) (g : Option Library) (l : Option Located) → StepIsLater m.trace (calls_by full t f args m g l)
  calls_later f t args m (Some g) l =
      choose (StepIsLater m.trace) (exceeds full f (m.frame ∷ m.callers)) (Stopped run.StackFull (noted (Refused f) m)) (calls_library full g t args m) (one_more (Refused f) m.trace) (library_later g t args m)
  calls_later f t args m None (Some l) = defined_later l t args m
  calls_later f t args m None None = tt

  -- ---- ends of blocks

  to_block_later : (b : ℕ) (m : Machine) (next : Option WebBlock) → StepIsLater m.trace (to_block_by b m next)
  to_block_later b m (Some next) = choose (λ (n : Machine). IsLater m.trace n.trace) (b == m.frame.block + 1) (goes_to b m next) (counted (goes_to b m next)) (same_log m.trace) (same_log m.trace)
  to_block_later b m None = tt

  jumps_later : (b : ℕ) (m : Machine) → StepIsLater m.trace (jumps b m)
  jumps_later b m = to_block_later b m (slice_get m.frame.function.body.blocks b)

  branches_later : (v : Value) (b c : ℕ) (m : Machine) → StepIsLater m.trace (branches v b c m)
  branches_later (Num zero) b c m = jumps_later c m
  branches_later (Num (suc n)) b c m = jumps_later b m
  branches_later (At x) b c m = choose (StepIsLater m.trace) (is_somewhere m.objects x) (jumps b m) Astray (jumps_later b m) tt
  branches_later Undefined b c m = tt
  branches_later Null b c m = tt
  branches_later (Piece x i) b c m = tt

  given_back_later : (v : Value) (caller : Frame) (callers : List Frame) (left : Machine) → StepIsLater left.trace (given_back full v caller callers left)
  given_back_later v caller callers left =
      let registers = without_scratch (with_registers left.frame.saved left.registers) in
      let objects = end_from (length left.objects - left.frame.base) left.frame.base left.objects in
      let event : Event Byte Value = Returned (name_of left.frame) 0 (globals_now full registers (caller ∷ callers) objects) left.frame.before (kept registers) in
      let back : Machine = noted event (record left { frame = caller; callers = callers; registers = registers; objects = objects }) in
      subst (IsLater left.trace) (sym (result_keeps left.frame.result v back)) (one_more event left.trace)

  left_later : (v : Value) (frames : List Frame) (left : Machine) → StepIsLater left.trace (returns_by full v frames left)
  left_later v [] left = tt
  left_later v (caller ∷ callers) left = given_back_later v caller callers left

  ends_later : (end : End) (m : Machine) → StepIsLater m.trace (ends full end m)
  ends_later (Jump b) m = jumps_later b m
  ends_later (Branch a b c) m = branches_later (value_in m.frame m.registers a) b c m
  ends_later (Return t) m =
      and_later m.trace (leaves_webs full (entered_webs m.frame.function) m) (returns_by full (result_by m t) m.callers) (leaves_later (entered_webs m.frame.function) m) (left_later (result_by m t) m.callers)

  -- ---- steps

  obeys_later : (c : command.Command) (m : Machine) → StepIsLater m.trace (obeys full c m)
  obeys_later (command.Give t v) m = temp_later t v m
  obeys_later (command.Combine k t v w) m = gives_later t (binary m.objects k v w) m
  obeys_later (command.Look k t a) m = choose (StepIsLater m.trace) (is_reserved full a) Astray (gives t (look k a m.objects) m) tt (gives_later t (look k a m.objects) m)
  obeys_later (command.Poke k a v) m = choose (StepIsLater m.trace) (is_reserved full a) Astray (changes (poke k a v m.objects) m) tt (changes_later (poke k a v m.objects) m)
  obeys_later (command.Copied to from size unit) m =
      choose (StepIsLater m.trace) (is_reserved full to || is_reserved full from) Astray (changes (copy to from size unit m.objects) m) tt (changes_later (copy to from size unit m.objects) m)
  obeys_later (command.GetGlobal t v k) m = loads_later t v k m
  obeys_later (command.PutGlobal v k w) m = stores_later v k w m
  obeys_later (command.Enter t f args) m = calls_later f t args m (library_at f) (function_named full f)
  obeys_later command.Fail m = tt

  does_later : (o : WebOp) (m : Machine) → StepIsLater m.trace (does full o m)
  does_later (Flow o) m = obeys_later (command.command p m.frame.base o (value_in m.frame m.registers)) m
  does_later (Read t r) m = temp_later t (m.registers r) m
  does_later (Write r a) m = same_log m.trace

  next_later : (m : Machine) (ops : List WebOp) → StepIsLater m.trace (next_by full m ops)
  next_later m [] = ends_later m.frame.end m
  next_later m (o ∷ ops) = does_later o (record m { frame = record m.frame { ops = ops } })

  step_later : (m : Machine) → StepIsLater m.trace (step full m)
  unfolding step
  step_later m = next_later m m.frame.ops

  -- ---- runs

  -- what the run had noted so many steps before
  pub record Earlier (s : Step) (log : Events) : Type 0 where
    pub noted : Events
    pub is : TraceOf s noted
    pub later : IsLater noted log

  earlier_by : (old : Step) (s : Step) (log : Events) → TraceOf (and_then s (step full)) log → ((more : Events) → TraceOf s more → Earlier old more) → Earlier old log
  earlier_by old (On m) log at before =
      let e = before m.trace refl in
      record { noted = e.noted; is = e.is; later = later_then e.noted m.trace log e.later (trace_later m.trace (step full m) log (step_later m) at) }
  earlier_by old (Stopped end m) log at before = before log at
  earlier_by old Astray log at before = absurd at

  pub earlier : (s : Step) (n k : ℕ) (log : Events) → TraceOf (steps full (n + k) s) log → Earlier (steps full n s) log
  earlier s n zero log at =
      let none : n + 0 ≡ n = omega arith in
      record { noted = log; is = subst (λ (i : ℕ). TraceOf (steps full i s) log) none at; later = same_log log }
  earlier s n (suc k) log at =
      let one : n + suc k ≡ suc (n + k) = omega arith in
      let last : TraceOf (and_then (steps full (n + k) s) (step full)) log = subst (λ (t : Step). TraceOf t log) (steps_last full (n + k) s) (subst (λ (i : ℕ). TraceOf (steps full i s) log) one at) in
      earlier_by (steps full n s) (steps full (n + k) s) log last (earlier s n k)
