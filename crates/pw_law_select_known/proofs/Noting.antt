-- The calls that are active after what a run noted are those of the functions that are active.
use Rattle.std.proofs.Common.{◌≡◌, ℕ, zero, suc, ◌+◌, ◌-◌, ◌%◌, ◌^◌, ◌==◌, ◌&&◌, ◌||◌, Bool, true, false, if◌then◌else◌, List, [], ◌∷◌, ◌++◌, length, map, replicate, refl, sym, ap, subst, ◌∙◌}
use Rattle.std.specs.Prelude.{Option, Some, None, slice_get, slice_set, slice_index_or}
use Rattle.std.specs.Str.{bytes_eq}
use Rattle.std.proofs.lemmas.Slice.Eq.{bytes_eq-Decides}
use Rattle.pw_value.specs.declared.value.Kind.{Kind}
use Rattle.pw_value.specs.declared.value.Byte.{Byte}
use Rattle.pw_value.specs.declared.value.Value.{Value}
use Rattle.pw_value.specs.declared.value.Value.TheVariants.{Undefined, Num, Null, At, Piece}
use Rattle.pw_value.specs.ProgramNames.{start_name, exit_name, getchar_name, putchar_name}
use Rattle.pw_value.specs.Objects.{Object}
use Rattle.pw_db.specs.declared.database.Web.{Web}
use Rattle.pw_flow.specs.declared.flow.End.{End}
use Rattle.pw_flow.specs.declared.flow.End.TheVariants.{Jump, Branch, Return}
use Rattle.pw_webflow.specs.declared.web.WebOp.{WebOp}
use Rattle.pw_webflow.specs.declared.web.WebOp.TheVariants.{Flow, Read, Write}
use Rattle.pw_webflow.specs.declared.web.WebBlock.{WebBlock}
use Rattle.pw_alloc.specs.declared.located.Located.{Located}
use Rattle.pw_run.specs.Runs as run
use Rattle.pw_run_languages.specs.Traces.{Standing, Event, Called, Refused, Returned, Loaded, Stored}
use Rattle.pw_run_languages.specs.Traffic.{Open, with_event, without, active}
use Rattle.pw_run_languages.specs.Values.{binary, is_somewhere}
use Rattle.pw_run_languages.specs.Memory.{look, look_in, poke, poke_in, copy}
use Rattle.pw_run_languages.specs.Programs.{Program, Library, GetChar, PutChar, Exit, library_at, start_objects}
use Rattle.pw_run_languages.specs.Commands as command
use Rattle.pw_run_languages.specs.FlowRun.{get_global, put_global, with_slots, end_from}
use Rattle.pw_run_languages.specs.Direction.{with_functions}
use Rattle.pw_run_languages.specs.PlacedRun.{PlacedProgram, Frame, Machine, Step, On, Stopped, Astray, name_of, function_named, with_register, with_registers, kept, register_at, value_in, with_temp, gives, takes_result, counted, noted, globals_now, is_eligible, noted_if, loads_global, stores_global, is_reserved, changes, exceeds, library_call, library_return, without_scratch, gives_back, calls_library, entered_webs, and_then, enters_webs, leaves, leaves_webs, with_parameters, entered, first_block, begins, calls_defined, calls, jumps, branches, given_back, ends, obeys, does, step, steps, start}
use Rattle.pw_law_select_known.proofs.Lists.{choose, found}
use Rattle.pw_law_select_known.specs.Laws.{ActiveCallsAreNoted}
use Rattle.pw_law_select_known.proofs.Parts.{put_by, stored_by, reads_by, loaded_by, calls_by, goes_to, to_block_by, result_by, returns_by, next_by, begun_at, starts_at_by, starts_by}

abbrev Log : Type 0
Log = List (Event Byte Value)

abbrev names : List (Open Byte Value) → List (List ℕ)
names cs = map (λ (c : Open Byte Value). c.function) cs

abbrev rest_of : List (List ℕ) → List (List ℕ)
rest_of [] = []
rest_of (n ∷ ns) = ns

names_event : (e : Event Byte Value) (cs : List (Open Byte Value)) → names (map (with_event e) cs) ≡ names cs
names_event e [] = refl
names_event e (c ∷ cs) = ap (λ (ns : List (List ℕ)). c.function ∷ ns) (names_event e cs)

names_without : (cs : List (Open Byte Value)) → names (without 0 cs) ≡ rest_of (names cs)
names_without [] = refl
names_without (c ∷ cs) = refl

-- behind a return the function that was called last is active no more
names_returned : (f : List ℕ) (gs : List (Standing Byte Value)) (rs ss : List Value) (l : Log) → names (active (Returned f 0 gs rs ss ∷ l)) ≡ rest_of (names (active l))
names_returned f gs rs ss l = names_event (Returned f 0 gs rs ss) (without 0 (active l)) ∙ names_without (active l)

names_called : (f : List ℕ) (gs : List (Standing Byte Value)) (rs : List Value) (l : Log) → names (active (Called f gs rs ∷ l)) ≡ f ∷ names (active l)
names_called f gs rs l = ap (λ (ns : List (List ℕ)). f ∷ ns) (names_event (Called f gs rs) (active l))

-- something that holds of the functions that are active, and of the names of the calls that are
abbrev Claim : Type 1
Claim = Frame → List Frame → List (List ℕ) → Type 0

abbrev Holds : Claim → Machine → Type 0
Holds P m = P m.frame m.callers (names (active m.trace))

abbrev HoldsStep : Claim → Step → Type 0
HoldsStep P (On m) = Holds P m
HoldsStep P (Stopped end m) = Unit {0}
HoldsStep P Astray = Unit {0}

-- the names are those of the functions that are active; and others, while a call or a return is under way
abbrev Noted : Claim
Noted f fs ns = ns ≡ map name_of (f ∷ fs)

abbrev Behind : List ℕ → Claim
Behind h f fs ns = ns ≡ h ∷ map name_of (f ∷ fs)

abbrev Are : List (List ℕ) → Claim
Are all f fs ns = ns ≡ all

module _ (p : Program) (fs : List Located) where
  abbrev full : PlacedProgram
  full = with_functions p fs

  and_holds : (P Q : Claim) (s : Step) (next : Machine → Step) → HoldsStep P s → ((m : Machine) → Holds P m → HoldsStep Q (next m)) → HoldsStep Q (and_then s next)
  and_holds P Q (On m) next g f = f m g
  and_holds P Q (Stopped end m) next g f = tt
  and_holds P Q Astray next g f = tt

  put_noted : (t : ℕ) (v : Value) (m : Machine) (r : Option ℕ) → Holds Noted m → Holds Noted (put_by t v m r)
  put_noted t v m (Some r) h = h
  put_noted t v m None h = h

  with_temp_noted : (t : ℕ) (v : Value) (m : Machine) → Holds Noted m → Holds Noted (with_temp t v m)
  with_temp_noted t v m h = put_noted t v m (register_at m.frame.function.places t) h

  gives_noted : (t : ℕ) (v : Option Value) (m : Machine) → Holds Noted m → HoldsStep Noted (gives t v m)
  gives_noted t (Some v) m h = with_temp_noted t v m h
  gives_noted t None m h = tt

  takes_noted : (t : Option ℕ) (v : Value) (m : Machine) → Holds Noted m → Holds Noted (takes_result t v m)
  takes_noted None v m h = h
  takes_noted (Some t) v m h = with_temp_noted t v m h

  changes_noted : (objects : Option (List Object)) (m : Machine) → Holds Noted m → HoldsStep Noted (changes objects m)
  changes_noted (Some objects) m h = h
  changes_noted None m h = tt

  parameters_noted : (t : ℕ) (vs : List Value) (m : Machine) → Holds Noted m → Holds Noted (with_parameters t vs m)
  parameters_noted t [] m h = h
  parameters_noted t (v ∷ vs) m h = parameters_noted (suc t) vs (with_temp t v m) (with_temp_noted t v m h)

  -- ---- loads and stores of globals

  load_holds : (P : Claim) (b : Bool) (g : List ℕ) (m : Machine) → Holds P m → Holds P (noted_if b (Loaded g) m)
  load_holds P true g m h = subst (P m.frame m.callers) (sym (names_event (Loaded g) (active m.trace))) h
  load_holds P false g m h = h

  store_holds : (P : Claim) (b : Bool) (g : List ℕ) (m : Machine) → Holds P m → Holds P (noted_if b (Stored g) m)
  store_holds P true g m h = subst (P m.frame m.callers) (sym (names_event (Stored g) (active m.trace))) h
  store_holds P false g m h = h

  loads_global_noted : (t : ℕ) (g : List ℕ) (k : Kind) (m : Machine) → Holds Noted m → HoldsStep Noted (loads_global full t g k m)
  loads_global_noted t g k m h = gives_noted t (get_global p g k m.objects) (noted_if (is_eligible full g) (Loaded g) m) (load_holds Noted (is_eligible full g) g m h)

  stored_by_holds : (P : Claim) (g : List ℕ) (m : Machine) (objects : Option (List Object)) → Holds P m → HoldsStep P (stored_by full g m objects)
  stored_by_holds P g m (Some objects) h = store_holds P (is_eligible full g) g (record m { objects = objects }) h
  stored_by_holds P g m None h = tt

  stores_global_holds : (P : Claim) (g : List ℕ) (k : Kind) (v : Value) (m : Machine) → Holds P m → HoldsStep P (stores_global full g k v m)
  stores_global_holds P g k v m h = stored_by_holds P g m (put_global p g k v m.objects) h

  loaded_noted : (w : Web) (m : Machine) (v : Option Value) → Holds Noted m → HoldsStep Noted (loaded_by full w m v)
  loaded_noted w m (Some v) h = load_holds Noted (is_eligible full w.global) w.global (record m { registers = with_register w.reg v m.registers }) h
  loaded_noted w m None h = tt

  enters_noted : (ws : List Web) (m : Machine) → Holds Noted m → HoldsStep Noted (enters_webs full ws m)
  enters_noted [] m h = h
  enters_noted (w ∷ ws) m h =
      and_holds Noted Noted (loaded_by full w m (get_global p w.global w.kind m.objects)) (enters_webs full ws)
      (loaded_noted w m (get_global p w.global w.kind m.objects) h) (λ n k. enters_noted ws n k)

  leave_holds : (P : Claim) (w : Web) (m : Machine) (b : Bool) → Holds P m → HoldsStep P (if b then stores_global full w.global w.kind (m.registers w.reg) m else On m)
  leave_holds P w m true h = stores_global_holds P w.global w.kind (m.registers w.reg) m h
  leave_holds P w m false h = h

  leaves_holds : (P : Claim) (ws : List Web) (m : Machine) → Holds P m → HoldsStep P (leaves_webs full ws m)
  leaves_holds P [] m h = h
  leaves_holds P (w ∷ ws) m h = and_holds P P (leaves full w m) (leaves_webs full ws) (leave_holds P w m w.writes h) (λ n k. leaves_holds P ws n k)

  -- ---- calls

  call_noted : (f : List ℕ) (gs : List (Standing Byte Value)) (rs : List Value) (m : Machine) → Holds Noted m → Holds (Behind f) (noted (Called f gs rs) m)
  call_noted f gs rs m h = names_called f gs rs m.trace ∙ ap (λ (ns : List (List ℕ)). f ∷ ns) h

  back_noted : (h : List ℕ) (t : Option ℕ) (v : Value) (m : Machine) → Holds (Behind h) m → HoldsStep Noted (gives_back full h t v m)
  back_noted h t v m k =
      let registers = without_scratch m.registers in
      takes_noted t v (library_return full h (record (counted m) { registers = registers }))
      (names_returned h (globals_now full registers (m.frame ∷ m.callers) m.objects) (kept registers) (kept registers) m.trace ∙ ap rest_of k)

  reads_noted : (t : Option ℕ) (m : Machine) (rest : List ℕ) → Holds Noted m → HoldsStep Noted (reads_by full t m rest)
  reads_noted t m [] h =
      back_noted getchar_name t (Num (2 ^ 32 - 1)) (library_call full getchar_name m) (call_noted getchar_name (globals_now full m.registers (m.frame ∷ m.callers) m.objects) (kept m.registers) m h)
  reads_noted t m (byte ∷ rest) h =
      back_noted getchar_name t (Num byte) (record (library_call full getchar_name m) { rest = rest; read = m.read + 1 })
      (call_noted getchar_name (globals_now full m.registers (m.frame ∷ m.callers) m.objects) (kept m.registers) m h)

  library_noted : (g : Library) (t : Option ℕ) (args : List Value) (m : Machine) → Holds Noted m → HoldsStep Noted (calls_library full g t args m)
  library_noted GetChar t [] m h = reads_noted t m m.rest h
  library_noted PutChar t (Num n ∷ []) m h =
      back_noted putchar_name t (Num (n % 256)) (record (library_call full putchar_name m) { out = m.out ++ n % 256 ∷ [] })
      (call_noted putchar_name (globals_now full m.registers (m.frame ∷ m.callers) m.objects) (kept m.registers) m h)
  library_noted Exit t (Num n ∷ []) m h = tt
  library_noted _ t _ m h = tt

  begins_noted : (l : Located) (b : Option WebBlock) (t : Option ℕ) (args : List Value) (m : Machine) → Holds (Behind l.body.name) m → HoldsStep Noted (begins full l b t args m)
  begins_noted l None t args m h = tt
  begins_noted l (Some b) t args m h =
      choose (HoldsStep Noted) (length args == l.body.params)
      (and_then (enters_webs full (entered_webs l) (entered l b t m)) (λ n. On (with_parameters 0 args n))) Astray
      (and_holds Noted Noted (enters_webs full (entered_webs l) (entered l b t m)) (λ n. On (with_parameters 0 args n))
      (enters_noted (entered_webs l) (entered l b t m) h) (λ n k. parameters_noted 0 args n k)) tt

  calls_defined_noted : (l : Located) (t : Option ℕ) (args : List Value) (m : Machine) → Holds Noted m → HoldsStep Noted (calls_defined full l t args m)
  calls_defined_noted l t args m h =
      let gs = globals_now full m.registers (m.frame ∷ m.callers) m.objects in
      let called : Machine = counted (noted (Called l.body.name gs (kept m.registers)) m) in
      choose (HoldsStep Noted) (exceeds full l.body.name (m.frame ∷ m.callers)) (Stopped run.StackFull (noted (Refused l.body.name) m))
      (begins full l (first_block l) t args called) tt
      (begins_noted l (first_block l) t args called (call_noted l.body.name gs (kept m.registers) m h))

  calls_by_noted : (f : List ℕ) (t : Option ℕ) (args : List Value) (m : Machine) (g : Option Library) (l : Option Located) → Holds Noted m → HoldsStep Noted (calls_by full t f args m g l)
  calls_by_noted f t args m (Some g) l h =
      choose (HoldsStep Noted) (exceeds full f (m.frame ∷ m.callers)) (Stopped run.StackFull (noted (Refused f) m)) (calls_library full g t args m) tt (library_noted g t args m h)
  calls_by_noted f t args m None (Some l) h = calls_defined_noted l t args m h
  calls_by_noted f t args m None None h = tt

  -- ---- ends of blocks

  to_block_noted : (b : ℕ) (m : Machine) (next : Option WebBlock) → Holds Noted m → HoldsStep Noted (to_block_by b m next)
  to_block_noted b m (Some next) h = choose (Holds Noted) (b == m.frame.block + 1) (goes_to b m next) (counted (goes_to b m next)) h h
  to_block_noted b m None h = tt

  jumps_noted : (b : ℕ) (m : Machine) → Holds Noted m → HoldsStep Noted (jumps b m)
  jumps_noted b m h = to_block_noted b m (slice_get m.frame.function.body.blocks b) h

  branches_noted : (v : Value) (b c : ℕ) (m : Machine) → Holds Noted m → HoldsStep Noted (branches v b c m)
  branches_noted (Num zero) b c m h = jumps_noted c m h
  branches_noted (Num (suc n)) b c m h = jumps_noted b m h
  branches_noted (At x) b c m h = choose (HoldsStep Noted) (is_somewhere m.objects x) (jumps b m) Astray (jumps_noted b m h) tt
  branches_noted Undefined b c m h = tt
  branches_noted Null b c m h = tt
  branches_noted (Piece x i) b c m h = tt

  given_back_noted : (v : Value) (n : List ℕ) (caller : Frame) (callers : List Frame) (left : Machine) → Holds (Are (n ∷ map name_of (caller ∷ callers))) left
      → HoldsStep Noted (given_back full v caller callers left)
  given_back_noted v n caller callers left h =
      let registers = without_scratch (with_registers left.frame.saved left.registers) in
      let objects = end_from (length left.objects - left.frame.base) left.frame.base left.objects in
      let gs = globals_now full registers (caller ∷ callers) objects in
      let back : Machine = noted (Returned (name_of left.frame) 0 gs left.frame.before (kept registers)) (record left { frame = caller; callers = callers; registers = registers; objects = objects }) in
      takes_noted left.frame.result v back (names_returned (name_of left.frame) gs left.frame.before (kept registers) left.trace ∙ ap rest_of h)

  returns_by_noted : (v : Value) (m : Machine) (frames : List Frame) → Holds (Are (name_of m.frame ∷ map name_of frames)) m
      → HoldsStep Noted (and_then (leaves_webs full (entered_webs m.frame.function) m) (returns_by full v frames))
  returns_by_noted v m [] h =
      let P = Are (name_of m.frame ∷ []) in
      and_holds P Noted (leaves_webs full (entered_webs m.frame.function) m) (returns_by full v []) (leaves_holds P (entered_webs m.frame.function) m h) (λ n k. tt)
  returns_by_noted v m (caller ∷ callers) h =
      let P = Are (name_of m.frame ∷ map name_of (caller ∷ callers)) in
      and_holds P Noted (leaves_webs full (entered_webs m.frame.function) m) (returns_by full v (caller ∷ callers))
      (leaves_holds P (entered_webs m.frame.function) m h) (λ n k. given_back_noted v (name_of m.frame) caller callers n k)

  ends_noted : (end : End) (m : Machine) → Holds Noted m → HoldsStep Noted (ends full end m)
  ends_noted (Jump b) m h = jumps_noted b m h
  ends_noted (Branch a b c) m h = branches_noted (value_in m.frame m.registers a) b c m h
  ends_noted (Return t) m h = returns_by_noted (result_by m t) m m.callers h

  -- ---- steps

  obeys_noted : (c : command.Command) (m : Machine) → Holds Noted m → HoldsStep Noted (obeys full c m)
  obeys_noted (command.Give t v) m h = with_temp_noted t v m h
  obeys_noted (command.Combine k t v w) m h = gives_noted t (binary m.objects k v w) m h
  obeys_noted (command.Look k t a) m h = choose (HoldsStep Noted) (is_reserved full a) Astray (gives t (look k a m.objects) m) tt (gives_noted t (look k a m.objects) m h)
  obeys_noted (command.Poke k a v) m h = choose (HoldsStep Noted) (is_reserved full a) Astray (changes (poke k a v m.objects) m) tt (changes_noted (poke k a v m.objects) m h)
  obeys_noted (command.Copied to from size unit) m h =
      choose (HoldsStep Noted) (is_reserved full to || is_reserved full from) Astray (changes (copy to from size unit m.objects) m) tt (changes_noted (copy to from size unit m.objects) m h)
  obeys_noted (command.GetGlobal t v k) m h = loads_global_noted t v k m h
  obeys_noted (command.PutGlobal v k w) m h = stores_global_holds Noted v k w m h
  obeys_noted (command.Enter t f args) m h = calls_by_noted f t args m (library_at f) (function_named full f) h
  obeys_noted command.Fail m h = tt

  does_noted : (o : WebOp) (m : Machine) → Holds Noted m → HoldsStep Noted (does full o m)
  does_noted (Flow o) m h = obeys_noted (command.command p m.frame.base o (value_in m.frame m.registers)) m h
  does_noted (Read t r) m h = with_temp_noted t (m.registers r) m h
  does_noted (Write r a) m h = h

  next_noted : (m : Machine) (ops : List WebOp) → Holds Noted m → HoldsStep Noted (next_by full m ops)
  next_noted m [] h = ends_noted m.frame.end m h
  next_noted m (o ∷ ops) h = does_noted o (record m { frame = record m.frame { ops = ops } }) h

  step_noted : (m : Machine) → Holds Noted m → HoldsStep Noted (step full m)
  unfolding step
  step_noted m h = next_noted m m.frame.ops h

  steps_noted : (n : ℕ) (s : Step) → HoldsStep Noted s → HoldsStep Noted (steps full n s)
  unfolding steps
  steps_noted zero s h = h
  steps_noted (suc n) s h = steps_noted n (and_then s (step full)) (and_holds Noted Noted s (step full) h step_noted)

  -- ---- the start

  starts_at_noted : (input : List ℕ) (l : Located) (b : Option WebBlock) → l.body.name ≡ start_name → HoldsStep Noted (starts_at_by full input l b)
  starts_at_noted input l None named = tt
  starts_at_noted input l (Some b) named = enters_noted (entered_webs l) (begun_at full input l b) (ap (λ (n : List ℕ). n ∷ []) (sym named))

  starts_noted : (input : List ℕ) (l : Option Located) → function_named full start_name ≡ l → HoldsStep Noted (starts_by full input l)
  starts_noted input (Some l) e =
      starts_at_noted input l (first_block l) ((bytes_eq-Decides l.body.name start_name).0 (found (λ (g : Located). bytes_eq g.body.name start_name) fs l e).1)
  starts_noted input None e = tt

  start_noted : (input : List ℕ) → HoldsStep Noted (start full input)
  start_noted input = starts_noted input (function_named full start_name) refl

pub active_calls_are_noted : ActiveCallsAreNoted
active_calls_are_noted p functions input n m e =
    subst (HoldsStep Noted) e (steps_noted p functions n (start (with_functions p functions) input) (start_noted p functions input))
