-- The placed run, step by step: the functions that are active have room on the stack.
use Rattle.std.proofs.Common.{◌≡◌, ℕ, zero, suc, ◌+◌, ◌-◌, ◌%◌, ◌^◌, ◌≤◌, ◌==◌, ◌||◌, Bool, true, false, if◌then◌else◌, List, [], ◌∷◌, ◌++◌, length, map, refl, sym, ap, subst, arith}
use Rattle.std.specs.Prelude.{Option, Some, None, Contains, slice_get}
use Rattle.std.specs.List.{sum_by}
use Rattle.std.proofs.lemmas.Bool.{ltb-false}
use Rattle.std.proofs.lemmas.List.Sums.{sum_by-cons}
use Rattle.pw_value.specs.declared.value.Kind.{Kind}
use Rattle.pw_value.specs.declared.value.Value.{Value}
use Rattle.pw_value.specs.declared.value.Value.TheVariants.{Undefined, Num, Null, At, Piece}
use Rattle.pw_value.specs.ProgramNames.{start_name, getchar_name, putchar_name, library_functions}
use Rattle.pw_value.specs.Objects.{Object}
use Rattle.pw_db.specs.declared.database.Web.{Web}
use Rattle.pw_flow.specs.declared.flow.End.{End}
use Rattle.pw_flow.specs.declared.flow.End.TheVariants.{Jump, Branch, Return}
use Rattle.pw_webflow.specs.declared.web.WebOp.{WebOp}
use Rattle.pw_webflow.specs.declared.web.WebOp.TheVariants.{Flow, Read, Write}
use Rattle.pw_webflow.specs.declared.web.WebBlock.{WebBlock}
use Rattle.pw_alloc.specs.declared.located.Located.{Located}
use Rattle.pw_run.specs.Runs as run
use Rattle.pw_run_languages.specs.Traces.{Called, Loaded, Notes, Refused, Returned, Stored}
use Rattle.pw_run_languages.specs.Traffic.{active}
use Rattle.pw_run_languages.specs.Values.{binary, is_somewhere}
use Rattle.pw_run_languages.specs.Memory.{look, poke, copy}
use Rattle.pw_run_languages.specs.Programs.{Program, Library, GetChar, PutChar, Exit, NoneForLibrary, library_at}
use Rattle.pw_run_languages.specs.LawfulPrograms.{StartFits}
use Rattle.pw_run_languages.specs.Commands as command
use Rattle.pw_run_languages.specs.FlowRun.{get_global, put_global, end_from}
use Rattle.pw_run_languages.specs.Direction.{with_functions}
use Rattle.pw_run_languages.specs.PlacedRun.{PlacedProgram, Frame, Machine, Step, On, Stopped, Astray, name_of, function_named, with_register, with_registers, kept, register_at, value_in, with_temp, gives, takes_result, counted, noted, depth, globals_now, is_eligible, noted_if, loads_global, stores_global, is_reserved, changes, exceeds, library_call, library_return, without_scratch, gives_back, calls_library, entered_webs, and_then, enters_webs, leaves, leaves_webs, with_parameters, entered, first_block, begins, calls_defined, jumps, branches, given_back, ends, obeys, does, step, steps, start, staged, placed_run}
use Rattle.pw_law_select_known.specs.Laws.{ActiveCallsAreNoted}
use Rattle.pw_law_room.specs.Room.{HadRoom, names_active}
use Rattle.pw_law_room.proofs.Names.{Roomy, names_event, room_called, room_event, room_returned}
use Rattle.pw_law_select_known.proofs.Lists.{choose}
use Rattle.pw_law_select_known.proofs.Parts.{put_by, stored_by, reads_by, loaded_by, calls_by, goes_to, to_block_by, result_by, returns_by, next_by, begun_at, starts_at_by, starts_by}

module _ (p : Program) (fs : List Located) (none : NoneForLibrary p.frame_of) where
  abbrev full : PlacedProgram
  full = with_functions p fs

  abbrev Fits : Machine → Type 0
  Fits m = Roomy p m.trace

  abbrev StepFits : Step → Type 0
  StepFits (On m) = Roomy p m.trace
  StepFits (Stopped end m) = HadRoom p m.trace
  StepFits Astray = Unit {0}

  and_fits : (s : Step) (next : Machine → Step) → StepFits s → ((m : Machine) → Fits m → StepFits (next m)) → StepFits (and_then s next)
  and_fits (On m) next h f = f m h
  and_fits (Stopped end m) next h f = h
  and_fits Astray next h f = tt

  put_fits : (t : ℕ) (v : Value) (m : Machine) (r : Option ℕ) → Fits m → Fits (put_by t v m r)
  put_fits t v m (Some r) h = h
  put_fits t v m None h = h

  temp_fits : (t : ℕ) (v : Value) (m : Machine) → Fits m → Fits (with_temp t v m)
  temp_fits t v m h = put_fits t v m (register_at m.frame.function.places t) h

  gives_fits : (t : ℕ) (v : Option Value) (m : Machine) → Fits m → StepFits (gives t v m)
  gives_fits t (Some v) m h = temp_fits t v m h
  gives_fits t None m h = tt

  takes_fits : (t : Option ℕ) (v : Value) (m : Machine) → Fits m → Fits (takes_result t v m)
  takes_fits None v m h = h
  takes_fits (Some t) v m h = temp_fits t v m h

  changes_fits : (objects : Option (List Object)) (m : Machine) → Fits m → StepFits (changes objects m)
  changes_fits (Some objects) m h = h
  changes_fits None m h = tt

  parameters_fit : (t : ℕ) (vs : List Value) (m : Machine) → Fits m → Fits (with_parameters t vs m)
  parameters_fit t [] m h = h
  parameters_fit t (v ∷ vs) m h = parameters_fit (suc t) vs (with_temp t v m) (temp_fits t v m h)

  -- ---- loads and stores of globals

  load_fits : (b : Bool) (g : List ℕ) (m : Machine) → Fits m → Fits (noted_if b (Loaded g) m)
  load_fits true g m h = room_event p (Loaded g) m.trace (names_event (Loaded g) (active m.trace)) h
  load_fits false g m h = h

  store_fits : (b : Bool) (g : List ℕ) (m : Machine) → Fits m → Fits (noted_if b (Stored g) m)
  store_fits true g m h = room_event p (Stored g) m.trace (names_event (Stored g) (active m.trace)) h
  store_fits false g m h = h

  loads_fit : (t : ℕ) (g : List ℕ) (k : Kind) (m : Machine) → Fits m → StepFits (loads_global full t g k m)
  loads_fit t g k m h = gives_fits t (get_global p g k m.objects) (noted_if (is_eligible full g) (Loaded g) m) (load_fits (is_eligible full g) g m h)

  stored_fits : (g : List ℕ) (m : Machine) (objects : Option (List Object)) → Fits m → StepFits (stored_by full g m objects)
  stored_fits g m (Some objects) h = store_fits (is_eligible full g) g (record m { objects = objects }) h
  stored_fits g m None h = tt

  stores_fit : (g : List ℕ) (k : Kind) (v : Value) (m : Machine) → Fits m → StepFits (stores_global full g k v m)
  stores_fit g k v m h = stored_fits g m (put_global p g k v m.objects) h

  loaded_fits : (w : Web) (m : Machine) (v : Option Value) → Fits m → StepFits (loaded_by full w m v)
  loaded_fits w m (Some v) h = load_fits (is_eligible full w.global) w.global (record m { registers = with_register w.reg v m.registers }) h
  loaded_fits w m None h = tt

  enters_fit : (ws : List Web) (m : Machine) → Fits m → StepFits (enters_webs full ws m)
  enters_fit [] m h = h
  enters_fit (w ∷ ws) m h =
      and_fits (loaded_by full w m (get_global p w.global w.kind m.objects)) (enters_webs full ws) (loaded_fits w m (get_global p w.global w.kind m.objects) h) (λ n k. enters_fit ws n k)

  leave_fits : (w : Web) (m : Machine) (b : Bool) → Fits m → StepFits (if b then stores_global full w.global w.kind (m.registers w.reg) m else On m)
  leave_fits w m true h = stores_fit w.global w.kind (m.registers w.reg) m h
  leave_fits w m false h = h

  leaves_fit : (ws : List Web) (m : Machine) → Fits m → StepFits (leaves_webs full ws m)
  leaves_fit [] m h = h
  leaves_fit (w ∷ ws) m h = and_fits (leaves full w m) (leaves_webs full ws) (leave_fits w m w.writes h) (λ n k. leaves_fit ws n k)

  -- ---- calls of the library

  call_fits : (f : List ℕ) → Contains library_functions f → (m : Machine) → Fits m → Fits (library_call full f m)
  call_fits f there m h =
      let no_frame = none f there in
      let room = h.0 in
      room_called p f (globals_now full m.registers (m.frame ∷ m.callers) m.objects) (kept m.registers) m.trace (omega (arith, no_frame, room)) h

  back_fits : (f : List ℕ) (t : Option ℕ) (v : Value) (m : Machine) → Fits m → StepFits (gives_back full f t v m)
  back_fits f t v m h =
      let registers = without_scratch m.registers in
      takes_fits t v (library_return full f (record (counted m) { registers = registers }))
      (room_returned p f 0 (globals_now full registers (m.frame ∷ m.callers) m.objects) (kept registers) (kept registers) m.trace h)

  reads_fit : (t : Option ℕ) (m : Machine) (rest : List ℕ) → Fits m → StepFits (reads_by full t m rest)
  reads_fit t m [] h = back_fits getchar_name t (Num (2 ^ 32 - 1)) (library_call full getchar_name m) (call_fits getchar_name (1, omega arith, refl) m h)
  reads_fit t m (byte ∷ rest) h =
      back_fits getchar_name t (Num byte) (record (library_call full getchar_name m) { rest = rest; read = m.read + 1 }) (call_fits getchar_name (1, omega arith, refl) m h)

  library_fits : (g : Library) (t : Option ℕ) (args : List Value) (m : Machine) → Fits m → StepFits (calls_library full g t args m)
  library_fits GetChar t [] m h = reads_fit t m m.rest h
  library_fits PutChar t (Num n ∷ []) m h =
      back_fits putchar_name t (Num (n % 256)) (record (library_call full putchar_name m) { out = m.out ++ n % 256 ∷ [] }) (call_fits putchar_name (2, omega arith, refl) m h)
  library_fits Exit t (Num n ∷ []) m h = h
  library_fits _ t _ m h = tt

  -- ---- calls of functions

  begins_fit : (l : Located) (b : Option WebBlock) (t : Option ℕ) (args : List Value) (m : Machine) → Fits m → StepFits (begins full l b t args m)
  begins_fit l None t args m h = tt
  begins_fit l (Some b) t args m h =
      choose StepFits (length args == l.body.params) (and_then (enters_webs full (entered_webs l) (entered l b t m)) (λ n. On (with_parameters 0 args n))) Astray
      (and_fits (enters_webs full (entered_webs l) (entered l b t m)) (λ n. On (with_parameters 0 args n)) (enters_fit (entered_webs l) (entered l b t m) h) (λ n k. parameters_fit 0 args n k)) tt

  pub depth_is : (frames : List Frame) → depth full frames ≡ sum_by p.frame_of (map name_of frames)
  depth_is [] = refl
  depth_is (f ∷ frames) =
      let deep : depth full (f ∷ frames) ≡ p.frame_of (name_of f) + depth full frames = sum_by-cons (λ (g : Frame). p.frame_of (name_of g)) f frames in
      let named = sum_by-cons p.frame_of (name_of f) (map name_of frames) in
      let rest = depth_is frames in
      let same : depth full (f ∷ frames) ≡ sum_by p.frame_of (name_of f ∷ map name_of frames) = omega (arith, deep, named, rest) in
      same

  refused_or : (b : Bool) (m : Machine) (name : List ℕ) (rest : Step) → Fits m → (b ≡ false → StepFits rest) → StepFits (if b then Stopped run.StackFull (noted (Refused name) m) else rest)
  refused_or true m name rest h more = h
  refused_or false m name rest h more = more refl

  defined_fits : (l : Located) (t : Option ℕ) (args : List Value) (m : Machine) → names_active m.trace ≡ map name_of (m.frame ∷ m.callers) → Fits m → StepFits (calls_defined full l t args m)
  defined_fits l t args m named h =
      let gs = globals_now full m.registers (m.frame ∷ m.callers) m.objects in
      let called : Machine = counted (noted (Called l.body.name gs (kept m.registers)) m) in
      refused_or (exceeds full l.body.name (m.frame ∷ m.callers)) m l.body.name (begins full l (first_block l) t args called) h
      (λ e.
      let fits = ltb-false p.stack (p.frame_of l.body.name + depth full (m.frame ∷ m.callers)) e in
      let deep = depth_is (m.frame ∷ m.callers) in
      let same : sum_by p.frame_of (names_active m.trace) ≡ sum_by p.frame_of (map name_of (m.frame ∷ m.callers)) = ap (sum_by p.frame_of) named in
      begins_fit l (first_block l) t args called (room_called p l.body.name gs (kept m.registers) m.trace (omega (arith, fits, deep, same)) h))

  calls_fit : (f : List ℕ) (t : Option ℕ) (args : List Value) (m : Machine) (g : Option Library) (l : Option Located) → names_active m.trace ≡ map name_of (m.frame ∷ m.callers) → Fits m
      → StepFits (calls_by full t f args m g l)
  calls_fit f t args m (Some g) l named h =
      choose StepFits (exceeds full f (m.frame ∷ m.callers)) (Stopped run.StackFull (noted (Refused f) m)) (calls_library full g t args m) h (library_fits g t args m h)
  calls_fit f t args m None (Some l) named h = defined_fits l t args m named h
  calls_fit f t args m None None named h = tt

  -- ---- ends of blocks

  to_block_fits : (b : ℕ) (m : Machine) (next : Option WebBlock) → Fits m → StepFits (to_block_by b m next)
  to_block_fits b m (Some next) h = choose Fits (b == m.frame.block + 1) (goes_to b m next) (counted (goes_to b m next)) h h
  to_block_fits b m None h = tt

  jumps_fit : (b : ℕ) (m : Machine) → Fits m → StepFits (jumps b m)
  jumps_fit b m h = to_block_fits b m (slice_get m.frame.function.body.blocks b) h

  branches_fit : (v : Value) (b c : ℕ) (m : Machine) → Fits m → StepFits (branches v b c m)
  branches_fit (Num zero) b c m h = jumps_fit c m h
  branches_fit (Num (suc n)) b c m h = jumps_fit b m h
  branches_fit (At x) b c m h = choose StepFits (is_somewhere m.objects x) (jumps b m) Astray (jumps_fit b m h) tt
  branches_fit Undefined b c m h = tt
  branches_fit Null b c m h = tt
  branches_fit (Piece x i) b c m h = tt

  given_back_fits : (v : Value) (caller : Frame) (callers : List Frame) (left : Machine) → Fits left → StepFits (given_back full v caller callers left)
  given_back_fits v caller callers left h =
      let registers = without_scratch (with_registers left.frame.saved left.registers) in
      let objects = end_from (length left.objects - left.frame.base) left.frame.base left.objects in
      let gs = globals_now full registers (caller ∷ callers) objects in
      let back : Machine = noted (Returned (name_of left.frame) 0 gs left.frame.before (kept registers)) (record left { frame = caller; callers = callers; registers = registers; objects = objects }) in
      takes_fits left.frame.result v back (room_returned p (name_of left.frame) 0 gs left.frame.before (kept registers) left.trace h)

  returns_fit : (v : Value) (m : Machine) (frames : List Frame) → Fits m → StepFits (and_then (leaves_webs full (entered_webs m.frame.function) m) (returns_by full v frames))
  returns_fit v m [] h = and_fits (leaves_webs full (entered_webs m.frame.function) m) (returns_by full v []) (leaves_fit (entered_webs m.frame.function) m h) (λ n k. tt)
  returns_fit v m (caller ∷ callers) h =
      and_fits (leaves_webs full (entered_webs m.frame.function) m) (returns_by full v (caller ∷ callers)) (leaves_fit (entered_webs m.frame.function) m h)
      (λ n k. given_back_fits v caller callers n k)

  ends_fit : (end : End) (m : Machine) → Fits m → StepFits (ends full end m)
  ends_fit (Jump b) m h = jumps_fit b m h
  ends_fit (Branch a b c) m h = branches_fit (value_in m.frame m.registers a) b c m h
  ends_fit (Return t) m h = returns_fit (result_by m t) m m.callers h

  -- ---- steps

  obeys_fit : (c : command.Command) (m : Machine) → names_active m.trace ≡ map name_of (m.frame ∷ m.callers) → Fits m → StepFits (obeys full c m)
  obeys_fit (command.Give t v) m named h = temp_fits t v m h
  obeys_fit (command.Combine k t v w) m named h = gives_fits t (binary m.objects k v w) m h
  obeys_fit (command.Look k t a) m named h = choose StepFits (is_reserved full a) Astray (gives t (look k a m.objects) m) tt (gives_fits t (look k a m.objects) m h)
  obeys_fit (command.Poke k a v) m named h = choose StepFits (is_reserved full a) Astray (changes (poke k a v m.objects) m) tt (changes_fits (poke k a v m.objects) m h)
  obeys_fit (command.Copied to from size unit) m named h =
      choose StepFits (is_reserved full to || is_reserved full from) Astray (changes (copy to from size unit m.objects) m) tt (changes_fits (copy to from size unit m.objects) m h)
  obeys_fit (command.GetGlobal t v k) m named h = loads_fit t v k m h
  obeys_fit (command.PutGlobal v k w) m named h = stores_fit v k w m h
  obeys_fit (command.Enter t f args) m named h = calls_fit f t args m (library_at f) (function_named full f) named h
  obeys_fit command.Fail m named h = tt

  does_fit : (o : WebOp) (m : Machine) → names_active m.trace ≡ map name_of (m.frame ∷ m.callers) → Fits m → StepFits (does full o m)
  does_fit (Flow o) m named h = obeys_fit (command.command p m.frame.base o (value_in m.frame m.registers)) m named h
  does_fit (Read t r) m named h = temp_fits t (m.registers r) m h
  does_fit (Write r a) m named h = h

  next_fits : (m : Machine) (ops : List WebOp) → names_active m.trace ≡ map name_of (m.frame ∷ m.callers) → Fits m → StepFits (next_by full m ops)
  next_fits m [] named h = ends_fit m.frame.end m h
  next_fits m (o ∷ ops) named h = does_fit o (record m { frame = record m.frame { ops = ops } }) named h

  step_fits : (m : Machine) → names_active m.trace ≡ map name_of (m.frame ∷ m.callers) → Fits m → StepFits (step full m)
  unfolding step
  step_fits m named h = next_fits m m.frame.ops named h

  -- ---- the start

  starts_at_fits : (input : List ℕ) (l : Located) (b : Option WebBlock) → p.frame_of start_name ≤ p.stack → StepFits (starts_at_by full input l b)
  starts_at_fits input l None fits = tt
  starts_at_fits input l (Some b) fits =
      let one = sum_by-cons p.frame_of start_name [] in
      let room : sum_by p.frame_of (start_name ∷ []) ≤ p.stack = omega (arith, fits, one) in
      let nothing : sum_by p.frame_of [] ≤ p.stack = omega arith in
      enters_fit (entered_webs l) (begun_at full input l b) (room, (nothing, tt))

  starts_fit : (input : List ℕ) (l : Option Located) → p.frame_of start_name ≤ p.stack → StepFits (starts_by full input l)
  starts_fit input (Some l) fits = starts_at_fits input l (first_block l) fits
  starts_fit input None fits = tt

  start_fits : (input : List ℕ) → p.frame_of start_name ≤ p.stack → StepFits (start full input)
  start_fits input fits = starts_fit input (function_named full start_name) fits

  -- ---- runs

  steps_last : (n : ℕ) (s : Step) → steps full (suc n) s ≡ and_then (steps full n s) (step full)
  unfolding steps
  steps_last zero s = refl
  steps_last (suc n) s = steps_last n (and_then s (step full))

  next_step_fits : (s : Step) → ((m : Machine) → s ≡ On m → names_active m.trace ≡ map name_of (m.frame ∷ m.callers)) → StepFits s → StepFits (and_then s (step full))
  next_step_fits (On m) named h = step_fits m (named m refl) h
  next_step_fits (Stopped end m) named h = h
  next_step_fits Astray named h = tt

  steps_fit : ActiveCallsAreNoted → StartFits p → (input : List ℕ) (n : ℕ) → StepFits (steps full n (start full input))
  unfolding steps
  steps_fit law fits input zero = start_fits input fits
  steps_fit law fits input (suc n) =
      subst StepFits (sym (steps_last n (start full input))) (next_step_fits (steps full n (start full input)) (λ m e. law p fs input n m e) (steps_fit law fits input n))

  staged_notes : (s : Step) → StepFits s → Notes (HadRoom p) (staged s)
  staged_notes (On m) h = h.1
  staged_notes (Stopped end m) h = h
  staged_notes Astray h = tt

pub runs_have_room : ActiveCallsAreNoted → (p : Program) (functions : List Located) (input : List ℕ) → StartFits p → NoneForLibrary p.frame_of → (n : ℕ) → Notes (HadRoom p) (placed_run (with_functions p functions) input n)
unfolding placed_run
runs_have_room law p functions input fits none n =
    staged_notes p functions none (steps (with_functions p functions) n (start (with_functions p functions) input)) (steps_fit p functions none law fits input n)
