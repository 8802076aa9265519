-- Functions that are active are those of the program, each somewhere in one of its blocks.
use Rattle.std.proofs.Common.{◌≡◌, ℕ, zero, suc, ◌+◌, ◌-◌, ◌%◌, ◌^◌, ◌<◌, ◌==◌, ◌||◌, Bool, true, false, if◌then◌else◌, List, [], ◌∷◌, ◌++◌, length, refl, sym, subst, ◌∙◌, append_assoc, arith, inl}
use Rattle.std.specs.Prelude.{Contains, Option, Some, None, slice_get}
use Rattle.std.specs.List.{AllByRecursion}
use Rattle.std.specs.Str.{bytes_eq}
use Rattle.pw_value.specs.declared.value.Kind.{Kind}
use Rattle.pw_value.specs.declared.value.Byte.{Byte}
use Rattle.pw_value.specs.declared.value.Value.{Value}
use Rattle.pw_value.specs.declared.value.Value.TheVariants.{Undefined, Num, Null, At, Piece}
use Rattle.pw_value.specs.ProgramNames.{start_name, getchar_name, putchar_name}
use Rattle.pw_value.specs.Objects.{Object}
use Rattle.pw_db.specs.declared.database.Web.{Web}
use Rattle.pw_flow.specs.declared.flow.Op.{Op}
use Rattle.pw_flow.specs.declared.flow.Op.TheVariants as op
use Rattle.pw_flow.specs.ValidFlow.{IsResult, IsOp}
use Rattle.pw_flow.specs.declared.flow.End.{End}
use Rattle.pw_flow.specs.declared.flow.End.TheVariants.{Jump, Branch, Return}
use Rattle.pw_webflow.specs.declared.web.WebOp.{WebOp}
use Rattle.pw_webflow.specs.declared.web.WebOp.TheVariants.{Flow, Read, Write}
use Rattle.pw_webflow.specs.declared.web.WebBlock.{WebBlock}
use Rattle.pw_webflow.specs.ValidWebs.{IsWebOp, IsWebBlock, IsWebFn}
use Rattle.pw_alloc.specs.declared.located.Located.{Located}
use Rattle.pw_run.specs.Runs as run
use Rattle.pw_run_languages.specs.Traces.{Event, Called, Refused, Returned, Loaded, Stored}
use Rattle.pw_run_languages.specs.Values.{binary, is_somewhere}
use Rattle.pw_run_languages.specs.Memory.{look, poke, copy}
use Rattle.pw_run_languages.specs.Programs.{Program, Library, GetChar, PutChar, Exit, library_at}
use Rattle.pw_run_languages.specs.Commands as command
use Rattle.pw_run_languages.specs.FlowRun.{get_global, put_global, end_from}
use Rattle.pw_run_languages.specs.Direction.{with_functions}
use Rattle.pw_run_languages.specs.PlacedRun.{PlacedProgram, Frame, Machine, Step, On, Stopped, Astray, name_of, function_named, with_register, with_registers, kept, register_at, value_in, with_temp, gives, takes_result, counted, noted, globals_now, is_eligible, noted_if, loads_global, stores_global, is_reserved, changes, exceeds, library_call, library_return, without_scratch, gives_back, calls_library, entered_webs, and_then, enters_webs, leaves, leaves_webs, with_parameters, entered, first_block, begins, calls_defined, jumps, branches, given_back, ends, obeys, does, step, steps, start}
use Rattle.pw_files.proofs.Standing.{Has, has_each, has_right, contains_by}
use Rattle.pw_law_operations.specs.Laws.{StaysInside, HasResult}
use Rattle.pw_law_operations.proofs.Asking.{stays_inside, results_stand}
use Rattle.pw_law_select_known.proofs.Lists.{choose, found, get_has}
use Rattle.pw_law_select_known.specs.Laws.{StandsIn, IsOfProgram, ResultsFit, FunctionsStandInBlocks}
use Rattle.pw_law_select_known.proofs.Parts.{put_by, stored_by, reads_by, loaded_by, calls_by, goes_to, to_block_by, result_by, returns_by, next_by, begun_at, starts_at_by, starts_by}

-- ---- where results go

abbrev GoesInside : ℕ → Option ℕ → Type 0
GoesInside temps t = (k : ℕ) → t ≡ Some k → k < temps

abbrev CommandFits : ℕ → command.Command → Type 0
CommandFits temps (command.Enter t f args) = GoesInside temps t
CommandFits temps _ = Unit {0}

result_fits : (temps : ℕ) (t : Option ℕ) → IsResult temps t → GoesInside temps t
result_fits temps (Some n) h k e = let same : n ≡ k = cc in omega (arith, h, same)
result_fits temps None h k e = absurd cc

-- where a command goes by its result, or calls nothing
called_fits : (temps : ℕ) (c : command.Command) (t : Option ℕ) → HasResult t c → GoesInside temps t → CommandFits temps c
called_fits temps (command.Enter u f args) t is h = subst (GoesInside temps) is h
called_fits temps _ t is h = tt

quiet_fits : (temps : ℕ) (c : command.Command) → StaysInside c → CommandFits temps c
quiet_fits temps (command.Enter t f args) stays = absurd stays
quiet_fits temps _ stays = tt

command_fits : (p : Program) (base temps slots : ℕ) (o : Op) (value : ℕ → Value) → IsOp temps slots o → CommandFits temps (command.command p base o value)
command_fits p base temps slots (op.Call t f args) value h =
    called_fits temps (command.command p base (op.Call t f args) value) t (results_stand p base (op.Call t f args) value) (result_fits temps t h.0)
command_fits p base temps slots (op.CallInd t a shape args) value h =
    called_fits temps (command.command p base (op.CallInd t a shape args) value) t (results_stand p base (op.CallInd t a shape args) value) (result_fits temps t h.0)
command_fits p base temps slots o value h = quiet_fits temps (command.command p base o value) (stays_inside p base o value refl)

-- ---- the run

module _ (p : Program) (fs : List Located) (lawful : (l : Located) → Contains fs l → IsWebFn l.body) where
  abbrev full : PlacedProgram
  full = with_functions p fs

  abbrev Stand : Machine → Type 0
  Stand m = IsOfProgram fs m.frame × (AllByRecursion (IsOfProgram fs) m.callers × ResultsFit m.frame.result m.callers)

  abbrev StandStep : Step → Type 0
  StandStep (On m) = Stand m
  StandStep (Stopped end m) = Unit {0}
  StandStep Astray = Unit {0}

  and_stands : (s : Step) (next : Machine → Step) → StandStep s → ((m : Machine) → Stand m → StandStep (next m)) → StandStep (and_then s next)
  and_stands (On m) next h f = f m h
  and_stands (Stopped end m) next h f = tt
  and_stands Astray next h f = tt

  put_stands : (t : ℕ) (v : Value) (m : Machine) (r : Option ℕ) → Stand m → Stand (put_by t v m r)
  put_stands t v m (Some r) h = h
  put_stands t v m None h = h

  with_temp_stands : (t : ℕ) (v : Value) (m : Machine) → Stand m → Stand (with_temp t v m)
  with_temp_stands t v m h = put_stands t v m (register_at m.frame.function.places t) h

  gives_stands : (t : ℕ) (v : Option Value) (m : Machine) → Stand m → StandStep (gives t v m)
  gives_stands t (Some v) m h = with_temp_stands t v m h
  gives_stands t None m h = tt

  takes_stands : (t : Option ℕ) (v : Value) (m : Machine) → Stand m → Stand (takes_result t v m)
  takes_stands None v m h = h
  takes_stands (Some t) v m h = with_temp_stands t v m h

  changes_stands : (objects : Option (List Object)) (m : Machine) → Stand m → StandStep (changes objects m)
  changes_stands (Some objects) m h = h
  changes_stands None m h = tt

  parameters_stand : (t : ℕ) (vs : List Value) (m : Machine) → Stand m → Stand (with_parameters t vs m)
  parameters_stand t [] m h = h
  parameters_stand t (v ∷ vs) m h = parameters_stand (suc t) vs (with_temp t v m) (with_temp_stands t v m h)

  -- ---- loads and stores of globals

  note_stands : (b : Bool) (e : Event Byte Value) (m : Machine) → Stand m → Stand (noted_if b e m)
  note_stands true e m h = h
  note_stands false e m h = h

  loads_global_stands : (t : ℕ) (g : List ℕ) (k : Kind) (m : Machine) → Stand m → StandStep (loads_global full t g k m)
  loads_global_stands t g k m h = gives_stands t (get_global p g k m.objects) (noted_if (is_eligible full g) (Loaded g) m) (note_stands (is_eligible full g) (Loaded g) m h)

  stored_by_stands : (g : List ℕ) (m : Machine) (objects : Option (List Object)) → Stand m → StandStep (stored_by full g m objects)
  stored_by_stands g m (Some objects) h = note_stands (is_eligible full g) (Stored g) (record m { objects = objects }) h
  stored_by_stands g m None h = tt

  stores_global_stands : (g : List ℕ) (k : Kind) (v : Value) (m : Machine) → Stand m → StandStep (stores_global full g k v m)
  stores_global_stands g k v m h = stored_by_stands g m (put_global p g k v m.objects) h

  loaded_stands : (w : Web) (m : Machine) (v : Option Value) → Stand m → StandStep (loaded_by full w m v)
  loaded_stands w m (Some v) h = note_stands (is_eligible full w.global) (Loaded w.global) (record m { registers = with_register w.reg v m.registers }) h
  loaded_stands w m None h = tt

  enters_stand : (ws : List Web) (m : Machine) → Stand m → StandStep (enters_webs full ws m)
  enters_stand [] m h = h
  enters_stand (w ∷ ws) m h =
      and_stands (loaded_by full w m (get_global p w.global w.kind m.objects)) (enters_webs full ws)
      (loaded_stands w m (get_global p w.global w.kind m.objects) h) (λ n k. enters_stand ws n k)

  leave_stands : (w : Web) (m : Machine) (b : Bool) → Stand m → StandStep (if b then stores_global full w.global w.kind (m.registers w.reg) m else On m)
  leave_stands w m true h = stores_global_stands w.global w.kind (m.registers w.reg) m h
  leave_stands w m false h = h

  leaves_stand : (ws : List Web) (m : Machine) → Stand m → StandStep (leaves_webs full ws m)
  leaves_stand [] m h = h
  leaves_stand (w ∷ ws) m h = and_stands (leaves full w m) (leaves_webs full ws) (leave_stands w m w.writes h) (λ n k. leaves_stand ws n k)

  -- ---- calls

  back_stands : (h : List ℕ) (t : Option ℕ) (v : Value) (m : Machine) → Stand m → StandStep (gives_back full h t v m)
  back_stands h t v m k = takes_stands t v (library_return full h (record (counted m) { registers = without_scratch m.registers })) k

  reads_stand : (t : Option ℕ) (m : Machine) (rest : List ℕ) → Stand m → StandStep (reads_by full t m rest)
  reads_stand t m [] h = back_stands getchar_name t (Num (2 ^ 32 - 1)) (library_call full getchar_name m) h
  reads_stand t m (byte ∷ rest) h = back_stands getchar_name t (Num byte) (record (library_call full getchar_name m) { rest = rest; read = m.read + 1 }) h

  library_stands : (g : Library) (t : Option ℕ) (args : List Value) (m : Machine) → Stand m → StandStep (calls_library full g t args m)
  library_stands GetChar t [] m h = reads_stand t m m.rest h
  library_stands PutChar t (Num n ∷ []) m h = back_stands putchar_name t (Num (n % 256)) (record (library_call full putchar_name m) { out = m.out ++ n % 256 ∷ [] }) h
  library_stands Exit t (Num n ∷ []) m h = tt
  library_stands _ t _ m h = tt

  -- a block from its beginning
  at_first : (l : Located) (b : ℕ) (block : WebBlock) → Contains fs l → slice_get l.body.blocks b ≡ Some block → StandsIn fs l b block.ops block.end
  at_first l b block there at = record { there = there; block = block; at = at; before = []; ops = refl; end = refl }

  begins_stand : (l : Located) (b : Option WebBlock) (t : Option ℕ) (args : List Value) (m : Machine) → Contains fs l → first_block l ≡ b → GoesInside m.frame.function.body.temps t → Stand m
      → StandStep (begins full l b t args m)
  begins_stand l None t args m there at fits h = tt
  begins_stand l (Some b) t args m there at fits h =
      choose StandStep (length args == l.body.params)
      (and_then (enters_webs full (entered_webs l) (entered l b t m)) (λ n. On (with_parameters 0 args n))) Astray
      (and_stands (enters_webs full (entered_webs l) (entered l b t m)) (λ n. On (with_parameters 0 args n))
      (enters_stand (entered_webs l) (entered l b t m) (at_first l 0 b there at, ((h.0, h.1.0), (fits, h.1.1)))) (λ n k. parameters_stand 0 args n k)) tt

  calls_defined_stand : (l : Located) (t : Option ℕ) (args : List Value) (m : Machine) → Contains fs l → GoesInside m.frame.function.body.temps t → Stand m → StandStep (calls_defined full l t args m)
  calls_defined_stand l t args m there fits h =
      let called : Machine = counted (noted (Called l.body.name (globals_now full m.registers (m.frame ∷ m.callers) m.objects) (kept m.registers)) m) in
      choose StandStep (exceeds full l.body.name (m.frame ∷ m.callers)) (Stopped run.StackFull (noted (Refused l.body.name) m))
      (begins full l (first_block l) t args called) tt (begins_stand l (first_block l) t args called there refl fits h)

  there_by_name : (f : List ℕ) (l : Located) → function_named full f ≡ Some l → Contains fs l
  there_by_name f l e = contains_by l fs (found (λ (g : Located). bytes_eq g.body.name f) fs l e).0

  calls_by_stand : (f : List ℕ) (t : Option ℕ) (args : List Value) (m : Machine) (g : Option Library) (l : Option Located) → function_named full f ≡ l
      → GoesInside m.frame.function.body.temps t → Stand m → StandStep (calls_by full t f args m g l)
  calls_by_stand f t args m (Some g) l e fits h =
      choose StandStep (exceeds full f (m.frame ∷ m.callers)) (Stopped run.StackFull (noted (Refused f) m)) (calls_library full g t args m) tt (library_stands g t args m h)
  calls_by_stand f t args m None (Some l) e fits h = calls_defined_stand l t args m (there_by_name f l e) fits h
  calls_by_stand f t args m None None e fits h = tt

  -- ---- ends of blocks

  to_block_stands : (b : ℕ) (m : Machine) (next : Option WebBlock) → slice_get m.frame.function.body.blocks b ≡ next → Stand m → StandStep (to_block_by b m next)
  to_block_stands b m (Some next) at h =
      let here = at_first m.frame.function b next h.0.there at in
      choose Stand (b == m.frame.block + 1) (goes_to b m next) (counted (goes_to b m next)) (here, h.1) (here, h.1)
  to_block_stands b m None at h = tt

  jumps_stand : (b : ℕ) (m : Machine) → Stand m → StandStep (jumps b m)
  jumps_stand b m h = to_block_stands b m (slice_get m.frame.function.body.blocks b) refl h

  branches_stand : (v : Value) (b c : ℕ) (m : Machine) → Stand m → StandStep (branches v b c m)
  branches_stand (Num zero) b c m h = jumps_stand c m h
  branches_stand (Num (suc n)) b c m h = jumps_stand b m h
  branches_stand (At x) b c m h = choose StandStep (is_somewhere m.objects x) (jumps b m) Astray (jumps_stand b m h) tt
  branches_stand Undefined b c m h = tt
  branches_stand Null b c m h = tt
  branches_stand (Piece x i) b c m h = tt

  given_back_stands : (v : Value) (caller : Frame) (callers : List Frame) (left : Machine) → IsOfProgram fs caller → AllByRecursion (IsOfProgram fs) callers
      → ResultsFit caller.result callers → StandStep (given_back full v caller callers left)
  given_back_stands v caller callers left h k fit =
      let registers = without_scratch (with_registers left.frame.saved left.registers) in
      let objects = end_from (length left.objects - left.frame.base) left.frame.base left.objects in
      let gs = globals_now full registers (caller ∷ callers) objects in
      let back : Machine = noted (Returned (name_of left.frame) 0 gs left.frame.before (kept registers)) (record left { frame = caller; callers = callers; registers = registers; objects = objects }) in
      takes_stands left.frame.result v back (h, (k, fit))

  returns_by_stand : (v : Value) (m : Machine) (frames : List Frame) → AllByRecursion (IsOfProgram fs) frames → ResultsFit m.frame.result frames → Stand m
      → StandStep (and_then (leaves_webs full (entered_webs m.frame.function) m) (returns_by full v frames))
  returns_by_stand v m [] all fit h =
      and_stands (leaves_webs full (entered_webs m.frame.function) m) (returns_by full v []) (leaves_stand (entered_webs m.frame.function) m h) (λ n k. tt)
  returns_by_stand v m (caller ∷ callers) all fit h =
      and_stands (leaves_webs full (entered_webs m.frame.function) m) (returns_by full v (caller ∷ callers)) (leaves_stand (entered_webs m.frame.function) m h)
      (λ n k. given_back_stands v caller callers n all.0 all.1 fit.1)

  ends_stand : (end : End) (m : Machine) → Stand m → StandStep (ends full end m)
  ends_stand (Jump b) m h = jumps_stand b m h
  ends_stand (Branch a b c) m h = branches_stand (value_in m.frame m.registers a) b c m h
  ends_stand (Return t) m h = returns_by_stand (result_by m t) m m.callers h.1.0 h.1.1 h

  -- ---- steps

  obeys_stands : (c : command.Command) (m : Machine) → CommandFits m.frame.function.body.temps c → Stand m → StandStep (obeys full c m)
  obeys_stands (command.Give t v) m fits h = with_temp_stands t v m h
  obeys_stands (command.Combine k t v w) m fits h = gives_stands t (binary m.objects k v w) m h
  obeys_stands (command.Look k t a) m fits h = choose StandStep (is_reserved full a) Astray (gives t (look k a m.objects) m) tt (gives_stands t (look k a m.objects) m h)
  obeys_stands (command.Poke k a v) m fits h = choose StandStep (is_reserved full a) Astray (changes (poke k a v m.objects) m) tt (changes_stands (poke k a v m.objects) m h)
  obeys_stands (command.Copied to from size unit) m fits h =
      choose StandStep (is_reserved full to || is_reserved full from) Astray (changes (copy to from size unit m.objects) m) tt (changes_stands (copy to from size unit m.objects) m h)
  obeys_stands (command.GetGlobal t v k) m fits h = loads_global_stands t v k m h
  obeys_stands (command.PutGlobal v k w) m fits h = stores_global_stands v k w m h
  obeys_stands (command.Enter t f args) m fits h = calls_by_stand f t args m (library_at f) (function_named full f) refl fits h
  obeys_stands command.Fail m fits h = tt

  does_stands : (o : WebOp) (m : Machine) → IsWebOp m.frame.function.body o → Stand m → StandStep (does full o m)
  does_stands (Flow o) m valid h =
      obeys_stands (command.command p m.frame.base o (value_in m.frame m.registers)) m
      (command_fits p m.frame.base m.frame.function.body.temps (length m.frame.function.body.slots) o (value_in m.frame m.registers) valid) h
  does_stands (Read t r) m valid h = with_temp_stands t (m.registers r) m h
  does_stands (Write r a) m valid h = h

  -- an operation of a block is lawful
  op_valid : (l : Located) (b : ℕ) (o : WebOp) (ops : List WebOp) (end : End) → StandsIn fs l b (o ∷ ops) end → IsWebOp l.body o
  op_valid l b o ops end h =
      let block = has_each (IsWebBlock l.body) l.body.blocks h.block (lawful l h.there).blocks (get_has l.body.blocks b h.block h.at) in
      has_each (IsWebOp l.body) h.block.ops o block.ops (subst (λ (xs : List WebOp). Has o xs) (sym h.ops) (has_right o h.before (o ∷ ops) (inl refl)))

  -- behind one more operation of the block
  past_one : (l : Located) (b : ℕ) (o : WebOp) (ops : List WebOp) (end : End) → StandsIn fs l b (o ∷ ops) end → StandsIn fs l b ops end
  past_one l b o ops end h = record {
    there = h.there;
    block = h.block;
    at = h.at;
    before = h.before ++ o ∷ [];
    ops = h.ops ∙ sym (append_assoc h.before (o ∷ []) ops);
    end = h.end;
  }

  next_stands : (m : Machine) (ops : List WebOp) → StandsIn fs m.frame.function m.frame.block ops m.frame.end → Stand m → StandStep (next_by full m ops)
  next_stands m [] here h = ends_stand m.frame.end m h
  next_stands m (o ∷ ops) here h = does_stands o (record m { frame = record m.frame { ops = ops } }) (op_valid m.frame.function m.frame.block o ops m.frame.end here) (past_one m.frame.function m.frame.block o ops m.frame.end here, h.1)

  step_stands : (m : Machine) → Stand m → StandStep (step full m)
  unfolding step
  step_stands m h = next_stands m m.frame.ops h.0 h

  steps_stand : (n : ℕ) (s : Step) → StandStep s → StandStep (steps full n s)
  unfolding steps
  steps_stand zero s h = h
  steps_stand (suc n) s h = steps_stand n (and_then s (step full)) (and_stands s (step full) h step_stands)

  -- ---- the start

  starts_at_stand : (input : List ℕ) (l : Located) (b : Option WebBlock) → Contains fs l → first_block l ≡ b → StandStep (starts_at_by full input l b)
  starts_at_stand input l None there at = tt
  starts_at_stand input l (Some b) there at = enters_stand (entered_webs l) (begun_at full input l b) (at_first l 0 b there at, (tt, tt))

  starts_stand : (input : List ℕ) (l : Option Located) → function_named full start_name ≡ l → StandStep (starts_by full input l)
  starts_stand input (Some l) e = starts_at_stand input l (first_block l) (there_by_name start_name l e) refl
  starts_stand input None e = tt

  start_stands : (input : List ℕ) → StandStep (start full input)
  start_stands input = starts_stand input (function_named full start_name) refl

pub functions_stand_in_blocks : FunctionsStandInBlocks
functions_stand_in_blocks p functions input n m lawful e =
    subst (StandStep p functions lawful) e (steps_stand p functions lawful n (start (with_functions p functions) input) (start_stands p functions lawful input))
