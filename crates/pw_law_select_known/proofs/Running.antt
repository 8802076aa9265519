-- The placed run, whose pointers lead somewhere.
use Rattle.std.proofs.Common.{◌≡◌, ℕ, zero, suc, ◌+◌, ◌-◌, ◌%◌, ◌^◌, ◌==◌, nat_lt, nat_le, ◌&&◌, ◌||◌, ◌≤◌, Bool, true, false, if◌then◌else◌, List, [], ◌∷◌, ◌++◌, length, map, replicate, refl, sym, ap, subst, ◌∙◌, arith}
use Rattle.std.specs.Prelude.{Option, Some, None, slice_get, slice_set, slice_index_or}
use Rattle.std.specs.List.{AllByRecursion}
use Rattle.std.specs.Str.{bytes_eq}
use Rattle.std.proofs.lemmas.List.{length-map, length-append}
use Rattle.pw_value.specs.declared.value.Kind.{Kind}
use Rattle.pw_value.specs.declared.value.Byte.{Byte}
use Rattle.pw_value.specs.declared.value.Byte.TheVariants as B
use Rattle.pw_value.specs.declared.value.Value.{Value}
use Rattle.pw_value.specs.declared.value.Value.TheVariants.{Undefined, Num, Null, At, Piece}
use Rattle.pw_value.specs.ProgramNames.{start_name, exit_name, getchar_name, putchar_name}
use Rattle.pw_value.specs.Objects.{Object, no_object, object_at, byte_at, with_object}
use Rattle.pw_files.proofs.Standing.{Has, has_each}
use Rattle.pw_db.specs.Limits.{last_register, last_temporary}
use Rattle.pw_db.specs.declared.database.Web.{Web}
use Rattle.pw_db.specs.declared.database.Directives.{Directives}
use Rattle.pw_flow.specs.declared.flow.End.{End}
use Rattle.pw_flow.specs.declared.flow.End.TheVariants.{Jump, Branch, Return}
use Rattle.pw_webflow.specs.declared.web.WebOp.{WebOp}
use Rattle.pw_webflow.specs.declared.web.WebOp.TheVariants.{Flow, Read, Write}
use Rattle.pw_webflow.specs.declared.web.WebBlock.{WebBlock}
use Rattle.pw_alloc.specs.declared.located.Located.{Located}
use Rattle.pw_alloc.specs.declared.located.Place.{Place}
use Rattle.pw_alloc.specs.declared.located.Place.TheVariants.{Slot, Reg}
use Rattle.pw_run.specs.Runs as run
use Rattle.pw_run_languages.specs.Traces.{Event, Called, Refused, Returned, Loaded, Stored}
use Rattle.pw_run_languages.specs.Values.{binary, is_somewhere}
use Rattle.pw_run_languages.specs.Memory.{is_of_kind, look, look_in, poke, poke_in, copy}
use Rattle.pw_run_languages.specs.Programs.{Program, Library, GetChar, PutChar, Exit, library_at, global_number, start_objects, globals_of, object_of}
use Rattle.pw_run_languages.specs.Commands as command
use Rattle.pw_run_languages.specs.FlowRun.{is_own_kind, get_global, put_global, with_slots, end_from}
use Rattle.pw_run_languages.specs.LawfulPrograms.{IsProgram}
use Rattle.pw_run_languages.specs.Direction.{directed_functions, with_functions}
use Rattle.pw_run_languages.specs.Serving.{AllServe}
use Rattle.pw_run_languages.specs.PlacedRun.{PlacedProgram, Frame, Machine, Step, On, Stopped, Astray, name_of, function_named, with_register, with_registers, kept, register_at, value_in, with_temp, gives, takes_result, counted, noted, globals_now, is_eligible, noted_if, loads_global, stores_global, is_reserved, changes, exceeds, library_call, library_return, without_scratch, gives_back, calls_library, entered_webs, and_then, enters_webs, leaves, leaves_webs, without_places, with_parameters, entered, first_block, begins, calls_defined, calls, jumps, branches, given_back, ends, obeys, does, step, steps, start}
use Rattle.pw_law_select_known.proofs.Lists.{choose, found, read_each, set_each, append_each, replicate_each, map_each, get_has}
use Rattle.pw_law_select_states.specs.Pointers.{ValueIsKnown, ByteIsKnown, FrameIsKnown, AreKnown}
use Rattle.pw_law_select_known.proofs.Values.{KnownObject, KnownObjects, KnownIfValue, KnownIfObjects, each_later, value_later, objects_later, object_known, look_in_known, look_known, poke_in_known, poke_known, copy_known, binary_known, with_object_known, ended_known}
use Rattle.pw_law_select_known.proofs.Commands.{CommandIsKnown, command_known}
use Rattle.pw_law_select_known.proofs.Functions.{WebOpIsFine, BlockIsFine, BodyIsFine, FunctionsAreFine, functions_fine}
use Rattle.pw_law_select_known.proofs.Starting.{start_known}
use Rattle.pw_law_select_known.proofs.Parts.{value_by, put_by, get_by, set_by, stored_by, reads_by, loaded_by, calls_by, goes_to, to_block_by, result_by, returns_by, next_by, begun_at, starts_at_by, starts_by}
use Rattle.pw_law_select_known.specs.Laws.{PointersAreKnown, SlotsAreBehindGlobals}

-- an active function that was entered when there were so many objects, or fewer
pub record IsFrame (p : Program) (count : ℕ) (f : Frame) : Type 0 where
  body : BodyIsFine p f.function.body
  ops : AllByRecursion (WebOpIsFine p (length f.function.body.slots)) f.ops
  temps : AllByRecursion (ValueIsKnown p count) f.temps
  saved : AllByRecursion (λ (s : ℕ × Value). ValueIsKnown p count s.1) f.saved
  slots : f.base + length f.function.body.slots ≤ count
  base : length (globals_of p) ≤ f.base

-- a state of a run, by how many objects its pointers lead to
pub record IsSound (p : Program) (count : ℕ) (m : Machine) : Type 0 where
  frame : IsFrame p count m.frame
  callers : AllByRecursion (IsFrame p count) m.callers
  registers : (r : ℕ) → ValueIsKnown p count (m.registers r)
  objects : KnownObjects p count m.objects
  low : length (globals_of p) ≤ count

pub record Good (p : Program) (m : Machine) : Type 0 where
  count : ℕ
  sound : IsSound p count m

abbrev pub SoundStep : Program → ℕ → Step → Type 0
SoundStep p count (On m) = IsSound p count m
SoundStep p count (Stopped end m) = Unit {0}
SoundStep p count Astray = Unit {0}

abbrev pub GoodStep : Program → Step → Type 0
GoodStep p (On m) = Good p m
GoodStep p (Stopped end m) = Unit {0}
GoodStep p Astray = Unit {0}

module _ (p : Program) (fs : List Located) (ok : IsProgram p) (fine : FunctionsAreFine p fs) where
  abbrev full : PlacedProgram
  full = with_functions p fs

  module _ (count : ℕ) where
    -- ---- registers, temporaries, objects

    with_register_known : (r : ℕ) (v : Value) (registers : ℕ → Value) → ValueIsKnown p count v → ((s : ℕ) → ValueIsKnown p count (registers s)) → (s : ℕ) → ValueIsKnown p count (with_register r v registers s)
    with_register_known r v registers h all s = choose (ValueIsKnown p count) (s == r) v (registers s) h (all s)

    with_registers_known : (news : List (ℕ × Value)) (registers : ℕ → Value) → AllByRecursion (λ (s : ℕ × Value). ValueIsKnown p count s.1) news → ((s : ℕ) → ValueIsKnown p count (registers s)) → (s : ℕ) → ValueIsKnown p count (with_registers news registers s)
    with_registers_known [] registers h all s = all s
    with_registers_known (new ∷ rest) registers h all s = with_registers_known rest (with_register new.0 new.1 registers) h.1 (with_register_known new.0 new.1 registers h.0 all) s

    without_scratch_known : (registers : ℕ → Value) → ((s : ℕ) → ValueIsKnown p count (registers s)) → (s : ℕ) → ValueIsKnown p count (without_scratch registers s)
    without_scratch_known registers all s = choose (ValueIsKnown p count) (nat_lt last_register s && nat_le s last_temporary) Undefined (registers s) tt (all s)

    without_places_known : (places : List Place) (registers : ℕ → Value) → ((s : ℕ) → ValueIsKnown p count (registers s)) → (s : ℕ) → ValueIsKnown p count (without_places places registers s)
    without_places_known [] registers all s = all s
    without_places_known (Reg r ∷ rest) registers all s = without_places_known rest (with_register r Undefined registers) (with_register_known r Undefined registers tt all) s
    without_places_known (Slot offset ∷ rest) registers all s = without_places_known rest registers all s

    end_known : (more o : ℕ) (objects : List Object) → KnownObjects p count objects → KnownObjects p count (end_from more o objects)
    end_known zero o objects all = all
    end_known (suc more) o objects all = end_known more (suc o) _ (ended_known p count o objects all)

    value_by_known : (f : Frame) (registers : ℕ → Value) (t : ℕ) (r : Option ℕ) → AllByRecursion (ValueIsKnown p count) f.temps → ((s : ℕ) → ValueIsKnown p count (registers s)) → ValueIsKnown p count (value_by f registers t r)
    value_by_known f registers t (Some r) temps all = all r
    value_by_known f registers t None temps all = read_each (ValueIsKnown p count) f.temps t Undefined temps tt

    value_in_known : (f : Frame) (registers : ℕ → Value) → AllByRecursion (ValueIsKnown p count) f.temps → ((s : ℕ) → ValueIsKnown p count (registers s)) → (t : ℕ) → ValueIsKnown p count (value_in f registers t)
    value_in_known f registers temps all t = value_by_known f registers t (register_at f.function.places t) temps all

    get_by_known : (k : Kind) (objects : List Object) (o : Option ℕ) → KnownObjects p count objects → KnownIfValue p count (get_by k objects o)
    get_by_known k objects (Some o) all = look_in_known p count k o 0 objects all
    get_by_known k objects None all = tt

    get_global_known : (g : List ℕ) (k : Kind) (objects : List Object) → KnownObjects p count objects → KnownIfValue p count (get_global p g k objects)
    get_global_known g k objects all = choose (KnownIfValue p count) (is_own_kind p g k) (get_by k objects (global_number p g)) None (get_by_known k objects (global_number p g) all) tt

    set_by_known : (k : Kind) (v : Value) (objects : List Object) (o : Option ℕ) → ValueIsKnown p count v → KnownObjects p count objects → KnownIfObjects p count (set_by k v objects o)
    set_by_known k v objects (Some o) h all = poke_in_known p count k o 0 v objects h all
    set_by_known k v objects None h all = tt

    put_global_known : (g : List ℕ) (k : Kind) (v : Value) (objects : List Object) → ValueIsKnown p count v → KnownObjects p count objects → KnownIfObjects p count (put_global p g k v objects)
    put_global_known g k v objects h all =
        choose (KnownIfObjects p count) (is_own_kind p g k && is_of_kind k v) (set_by k v objects (global_number p g)) None (set_by_known k v objects (global_number p g) h all) tt

    -- ---- what small changes keep

    and_sound : (s : Step) (next : Machine → Step) → SoundStep p count s → ((m : Machine) → IsSound p count m → SoundStep p count (next m)) → SoundStep p count (and_then s next)
    and_sound (On m) next g f = f m g
    and_sound (Stopped end m) next g f = tt
    and_sound Astray next g f = tt

    put_sound : (t : ℕ) (v : Value) (m : Machine) (r : Option ℕ) → ValueIsKnown p count v → IsSound p count m → IsSound p count (put_by t v m r)
    put_sound t v m (Some r) h g = record { frame = g.frame; callers = g.callers; registers = with_register_known r v m.registers h g.registers; objects = g.objects; low = g.low }
    put_sound t v m None h g = record {
      frame = record { body = g.frame.body; ops = g.frame.ops; temps = set_each (ValueIsKnown p count) m.frame.temps t v g.frame.temps h; saved = g.frame.saved; slots = g.frame.slots; base = g.frame.base };
      callers = g.callers;
      registers = g.registers;
      objects = g.objects;
      low = g.low;
    }

    with_temp_sound : (t : ℕ) (v : Value) (m : Machine) → ValueIsKnown p count v → IsSound p count m → IsSound p count (with_temp t v m)
    with_temp_sound t v m h g = put_sound t v m (register_at m.frame.function.places t) h g

    gives_sound : (t : ℕ) (v : Option Value) (m : Machine) → KnownIfValue p count v → IsSound p count m → SoundStep p count (gives t v m)
    gives_sound t (Some v) m h g = with_temp_sound t v m h g
    gives_sound t None m h g = tt

    takes_sound : (t : Option ℕ) (v : Value) (m : Machine) → ValueIsKnown p count v → IsSound p count m → IsSound p count (takes_result t v m)
    takes_sound None v m h g = g
    takes_sound (Some t) v m h g = with_temp_sound t v m h g

    changes_sound : (objects : Option (List Object)) (m : Machine) → KnownIfObjects p count objects → IsSound p count m → SoundStep p count (changes objects m)
    changes_sound (Some objects) m h g = record { frame = g.frame; callers = g.callers; registers = g.registers; objects = h; low = g.low }
    changes_sound None m h g = tt

    note_sound : (b : Bool) (e : Event Byte Value) (m : Machine) → IsSound p count m → IsSound p count (noted_if b e m)
    note_sound true e m g = record { frame = g.frame; callers = g.callers; registers = g.registers; objects = g.objects; low = g.low }
    note_sound false e m g = g

    parameters_sound : (t : ℕ) (vs : List Value) (m : Machine) → AllByRecursion (ValueIsKnown p count) vs → IsSound p count m → IsSound p count (with_parameters t vs m)
    parameters_sound t [] m h g = g
    parameters_sound t (v ∷ vs) m h g = parameters_sound (suc t) vs (with_temp t v m) h.1 (with_temp_sound t v m h.0 g)

    -- ---- global objects

    loads_global_sound : (t : ℕ) (g : List ℕ) (k : Kind) (m : Machine) → IsSound p count m → SoundStep p count (loads_global full t g k m)
    loads_global_sound t g k m good =
        gives_sound t (get_global p g k m.objects) (noted_if (is_eligible full g) (Loaded g) m) (get_global_known g k m.objects good.objects)
        (note_sound (is_eligible full g) (Loaded g) m good)

    stored_by_sound : (g : List ℕ) (m : Machine) (objects : Option (List Object)) → KnownIfObjects p count objects → IsSound p count m → SoundStep p count (stored_by full g m objects)
    stored_by_sound g m (Some objects) h good =
        note_sound (is_eligible full g) (Stored g) (record m { objects = objects }) (record { frame = good.frame; callers = good.callers; registers = good.registers; objects = h; low = good.low })
    stored_by_sound g m None h good = tt

    stores_global_sound : (g : List ℕ) (k : Kind) (v : Value) (m : Machine) → ValueIsKnown p count v → IsSound p count m → SoundStep p count (stores_global full g k v m)
    stores_global_sound g k v m h good = stored_by_sound g m (put_global p g k v m.objects) (put_global_known g k v m.objects h good.objects) good

    -- ---- calls of the library

    back_sound : (h : List ℕ) (t : Option ℕ) (v : Value) (m : Machine) → ValueIsKnown p count v → IsSound p count m → SoundStep p count (gives_back full h t v m)
    back_sound h t v m known g =
        takes_sound t v (library_return full h (record (counted m) { registers = without_scratch m.registers })) known (record {
          frame = g.frame;
          callers = g.callers;
          registers = without_scratch_known m.registers g.registers;
          objects = g.objects;
          low = g.low;
        })

    called_sound : (h : List ℕ) (m : Machine) (rest out : List ℕ) (read : ℕ) → IsSound p count m → IsSound p count (record (library_call full h m) { rest = rest; out = out; read = read })
    called_sound h m rest out read g = record { frame = g.frame; callers = g.callers; registers = g.registers; objects = g.objects; low = g.low }

    reads_sound : (t : Option ℕ) (m : Machine) (rest : List ℕ) → IsSound p count m → SoundStep p count (reads_by full t m rest)
    reads_sound t m [] g = back_sound getchar_name t (Num (2 ^ 32 - 1)) (library_call full getchar_name m) tt (called_sound getchar_name m m.rest m.out m.read g)
    reads_sound t m (byte ∷ rest) g =
        back_sound getchar_name t (Num byte) (record (library_call full getchar_name m) { rest = rest; read = m.read + 1 }) tt (called_sound getchar_name m rest m.out (m.read + 1) g)

    library_sound : (g : Library) (t : Option ℕ) (args : List Value) (m : Machine) → IsSound p count m → SoundStep p count (calls_library full g t args m)
    library_sound GetChar t [] m good = reads_sound t m m.rest good
    library_sound PutChar t (Num n ∷ []) m good =
        back_sound putchar_name t (Num (n % 256)) (record (library_call full putchar_name m) { out = m.out ++ n % 256 ∷ [] }) tt
        (called_sound putchar_name m m.rest (m.out ++ n % 256 ∷ []) m.read good)
    library_sound Exit t (Num n ∷ []) m good = tt
    library_sound _ t _ m good = tt

    -- ---- the webs that a function enters and leaves

    loaded_sound : (w : Web) (m : Machine) (v : Option Value) → KnownIfValue p count v → IsSound p count m → SoundStep p count (loaded_by full w m v)
    loaded_sound w m (Some v) h g =
        note_sound (is_eligible full w.global) (Loaded w.global) (record m { registers = with_register w.reg v m.registers })
        (record { frame = g.frame; callers = g.callers; registers = with_register_known w.reg v m.registers h g.registers; objects = g.objects; low = g.low })
    loaded_sound w m None h g = tt

    enters_sound : (ws : List Web) (m : Machine) → IsSound p count m → SoundStep p count (enters_webs full ws m)
    enters_sound [] m g = g
    enters_sound (w ∷ ws) m g =
        and_sound (loaded_by full w m (get_global p w.global w.kind m.objects)) (enters_webs full ws)
        (loaded_sound w m (get_global p w.global w.kind m.objects) (get_global_known w.global w.kind m.objects g.objects) g) (λ n h. enters_sound ws n h)

    leave_sound : (w : Web) (m : Machine) (b : Bool) → IsSound p count m → SoundStep p count (if b then stores_global full w.global w.kind (m.registers w.reg) m else On m)
    leave_sound w m true g = stores_global_sound w.global w.kind (m.registers w.reg) m (g.registers w.reg) g
    leave_sound w m false g = g

    leaves_sound : (ws : List Web) (m : Machine) → IsSound p count m → SoundStep p count (leaves_webs full ws m)
    leaves_sound [] m g = g
    leaves_sound (w ∷ ws) m g = and_sound (leaves full w m) (leaves_webs full ws) (leave_sound w m w.writes g) (λ n h. leaves_sound ws n h)

    -- ---- ends of blocks

    block_there : (body : Located) (b : ℕ) (next : WebBlock) → BodyIsFine p body.body → slice_get body.body.blocks b ≡ Some next → BlockIsFine p (length body.body.slots) next
    block_there body b next all at = has_each (BlockIsFine p (length body.body.slots)) body.body.blocks next all (get_has body.body.blocks b next at)

    to_block_sound : (b : ℕ) (m : Machine) (next : Option WebBlock) → slice_get m.frame.function.body.blocks b ≡ next → IsSound p count m → SoundStep p count (to_block_by b m next)
    to_block_sound b m (Some next) at g =
        let frame : IsFrame p count (goes_to b m next).frame = record {
          body = g.frame.body;
          ops = block_there m.frame.function b next g.frame.body at;
          temps = g.frame.temps;
          saved = g.frame.saved;
          slots = g.frame.slots;
          base = g.frame.base;
        } in
        choose (IsSound p count) (b == m.frame.block + 1) (goes_to b m next) (counted (goes_to b m next))
        (record { frame = frame; callers = g.callers; registers = g.registers; objects = g.objects; low = g.low })
        (record { frame = frame; callers = g.callers; registers = g.registers; objects = g.objects; low = g.low })
    to_block_sound b m None at g = tt

    jumps_sound : (b : ℕ) (m : Machine) → IsSound p count m → SoundStep p count (jumps b m)
    jumps_sound b m g = to_block_sound b m (slice_get m.frame.function.body.blocks b) refl g

    branches_sound : (v : Value) (b c : ℕ) (m : Machine) → IsSound p count m → SoundStep p count (branches v b c m)
    branches_sound (Num zero) b c m g = jumps_sound c m g
    branches_sound (Num (suc n)) b c m g = jumps_sound b m g
    branches_sound (At x) b c m g = choose (SoundStep p count) (is_somewhere m.objects x) (jumps b m) Astray (jumps_sound b m g) tt
    branches_sound Undefined b c m g = tt
    branches_sound Null b c m g = tt
    branches_sound (Piece x i) b c m g = tt

    given_back_sound : (v : Value) (caller : Frame) (callers : List Frame) (left : Machine) → ValueIsKnown p count v → IsFrame p count caller → AllByRecursion (IsFrame p count) callers
        → IsSound p count left → SoundStep p count (given_back full v caller callers left)
    given_back_sound v caller callers left known frame frames g =
        let registers = without_scratch (with_registers left.frame.saved left.registers) in
        let objects = end_from (length left.objects - left.frame.base) left.frame.base left.objects in
        let gs = globals_now full registers (caller ∷ callers) objects in
        let back : Machine = noted (Returned (name_of left.frame) 0 gs left.frame.before (kept registers)) (record left { frame = caller; callers = callers; registers = registers; objects = objects }) in
        takes_sound left.frame.result v back known (record {
          frame = frame;
          callers = frames;
          registers = without_scratch_known (with_registers left.frame.saved left.registers) (with_registers_known left.frame.saved left.registers g.frame.saved g.registers);
          objects = end_known (length left.objects - left.frame.base) left.frame.base left.objects g.objects;
          low = g.low;
        })

    returns_by_sound : (v : Value) (m : Machine) (frames : List Frame) → AllByRecursion (IsFrame p count) frames → ValueIsKnown p count v → IsSound p count m
        → SoundStep p count (and_then (leaves_webs full (entered_webs m.frame.function) m) (returns_by full v frames))
    returns_by_sound v m [] all known g =
        and_sound (leaves_webs full (entered_webs m.frame.function) m) (returns_by full v []) (leaves_sound (entered_webs m.frame.function) m g) (λ n h. tt)
    returns_by_sound v m (caller ∷ callers) all known g =
        and_sound (leaves_webs full (entered_webs m.frame.function) m) (returns_by full v (caller ∷ callers)) (leaves_sound (entered_webs m.frame.function) m g)
        (λ n h. given_back_sound v caller callers n known all.0 all.1 h)

    result_known : (m : Machine) (t : Option ℕ) → IsSound p count m → ValueIsKnown p count (result_by m t)
    result_known m (Some t) g = value_in_known m.frame m.registers g.frame.temps g.registers t
    result_known m None g = tt

    ends_sound : (end : End) (m : Machine) → IsSound p count m → SoundStep p count (ends full end m)
    ends_sound (Jump b) m g = jumps_sound b m g
    ends_sound (Branch a b c) m g = branches_sound (value_in m.frame m.registers a) b c m g
    ends_sound (Return t) m g = returns_by_sound (result_by m t) m m.callers g.callers (result_known m t g) g

    good_step : (s : Step) → SoundStep p count s → GoodStep p s
    good_step (On m) g = record { count = count; sound = g }
    good_step (Stopped end m) g = tt
    good_step Astray g = tt

  -- ---- calls of functions that a module defines

  slots_count : (slots : List ℕ) (objects : List Object) → length (with_slots slots objects) ≡ length objects + length slots
  slots_count [] objects = omega arith
  slots_count (size ∷ rest) objects =
      let new : Object = record { bytes = replicate size B.Undefined; live = true; writable = true } in
      omega (arith, slots_count rest (with_object new objects), length-append objects (new ∷ []))

  slots_known : (count : ℕ) (slots : List ℕ) (objects : List Object) → AllByRecursion (KnownObject p count) objects → AllByRecursion (KnownObject p count) (with_slots slots objects)
  slots_known count [] objects all = all
  slots_known count (size ∷ rest) objects all =
      slots_known count rest _ (append_each (KnownObject p count) objects ((record { bytes = replicate size B.Undefined; live = true; writable = true }) ∷ []) all
      (replicate_each (ByteIsKnown p count) size B.Undefined tt, tt))

  frame_later : (count more : ℕ) (le : count ≤ more) (f : Frame) → IsFrame p count f → IsFrame p more f
  frame_later count more le f g =
      let few = g.slots in
      record {
        body = g.body;
        ops = g.ops;
        temps = each_later (ValueIsKnown p count) (ValueIsKnown p more) (value_later p count more le) f.temps g.temps;
        saved = each_later (λ (s : ℕ × Value). ValueIsKnown p count s.1) (λ (s : ℕ × Value). ValueIsKnown p more s.1) (λ s h. value_later p count more le s.1 h) f.saved g.saved;
        slots = omega (arith, le, few);
        base = g.base;
      }

  -- the count of objects behind a function's slots
  abbrev behind : Located → Machine → ℕ
  behind l m = length m.objects + length l.body.slots

  entered_sound : (count : ℕ) (l : Located) (b : WebBlock) (t : Option ℕ) (m : Machine) → BodyIsFine p l.body → first_block l ≡ Some b → IsSound p count m → IsSound p (behind l m) (entered l b t m)
  entered_sound count l b t m body at g =
      let more = behind l m in
      let there = g.objects.1 in
      let le : count ≤ more = omega (arith, there) in
      let low = g.low in
      let registers : (r : ℕ) → ValueIsKnown p more (m.registers r) = λ r. value_later p count more le (m.registers r) (g.registers r) in
      let size = slots_count l.body.slots m.objects in
      record {
        frame = record {
          body = body;
          ops = block_there more l 0 b body at;
          temps = replicate_each (ValueIsKnown p more) l.body.temps Undefined tt;
          saved = map_each (λ (s : ℕ × Value). ValueIsKnown p more s.1) (λ r. (r, m.registers r)) registers l.saved;
          slots = omega arith;
          base = omega (arith, low, there);
        };
        callers = (frame_later count more le m.frame g.frame, each_later (IsFrame p count) (IsFrame p more) (frame_later count more le) m.callers g.callers);
        registers = without_places_known more l.places m.registers registers;
        objects = (slots_known more l.body.slots m.objects (objects_later p count more le m.objects g.objects.0), omega (arith, size));
        low = omega (arith, le, low);
      }

  begins_good : (count : ℕ) (l : Located) (b : Option WebBlock) (t : Option ℕ) (args : List Value) (m : Machine) → BodyIsFine p l.body → first_block l ≡ b
      → AllByRecursion (ValueIsKnown p count) args → IsSound p count m → GoodStep p (begins full l b t args m)
  begins_good count l None t args m body at all g = tt
  begins_good count l (Some b) t args m body at all g =
      let more = behind l m in
      let there = g.objects.1 in
      let le : count ≤ more = omega (arith, there) in
      choose (GoodStep p) (length args == l.body.params)
      (and_then (enters_webs full (entered_webs l) (entered l b t m)) (λ n. On (with_parameters 0 args n))) Astray
      (good_step more (and_then (enters_webs full (entered_webs l) (entered l b t m)) (λ n. On (with_parameters 0 args n)))
      (and_sound more (enters_webs full (entered_webs l) (entered l b t m)) (λ n. On (with_parameters 0 args n))
      (enters_sound more (entered_webs l) (entered l b t m) (entered_sound count l b t m body at g))
      (λ n h. parameters_sound more 0 args n (each_later (ValueIsKnown p count) (ValueIsKnown p more) (value_later p count more le) args all) h))) tt

  calls_defined_good : (count : ℕ) (l : Located) (t : Option ℕ) (args : List Value) (m : Machine) → BodyIsFine p l.body → AllByRecursion (ValueIsKnown p count) args → IsSound p count m
      → GoodStep p (calls_defined full l t args m)
  calls_defined_good count l t args m body all g =
      let gs = globals_now full m.registers (m.frame ∷ m.callers) m.objects in
      let called : Machine = counted (noted (Called l.body.name gs (kept m.registers)) m) in
      choose (GoodStep p) (exceeds full l.body.name (m.frame ∷ m.callers)) (Stopped run.StackFull (noted (Refused l.body.name) m))
      (begins full l (first_block l) t args called) tt
      (begins_good count l (first_block l) t args called body refl all (record { frame = g.frame; callers = g.callers; registers = g.registers; objects = g.objects; low = g.low }))

  defined_fine : (f : List ℕ) (l : Located) → function_named full f ≡ Some l → BodyIsFine p l.body
  defined_fine f l e = has_each (λ (l : Located). BodyIsFine p l.body) fs l fine (found (λ (g : Located). bytes_eq g.body.name f) fs l e).0

  calls_by_good : (count : ℕ) (f : List ℕ) (t : Option ℕ) (args : List Value) (m : Machine) (g : Option Library) (l : Option Located) → function_named full f ≡ l
      → AllByRecursion (ValueIsKnown p count) args → IsSound p count m → GoodStep p (calls_by full t f args m g l)
  calls_by_good count f t args m (Some g) l x all good =
      choose (GoodStep p) (exceeds full f (m.frame ∷ m.callers)) (Stopped run.StackFull (noted (Refused f) m)) (calls_library full g t args m) tt
      (good_step count (calls_library full g t args m) (library_sound count g t args m good))
  calls_by_good count f t args m None (Some l) x all good = calls_defined_good count l t args m (defined_fine f l x) all good
  calls_by_good count f t args m None None x all good = tt

  -- ---- steps

  obeys_good : (count : ℕ) (c : command.Command) (m : Machine) → CommandIsKnown p count c → IsSound p count m → GoodStep p (obeys full c m)
  obeys_good count (command.Give t v) m h g = record { count = count; sound = with_temp_sound count t v m h g }
  obeys_good count (command.Combine k t v w) m h g = good_step count (gives t (binary m.objects k v w) m) (gives_sound count t (binary m.objects k v w) m (binary_known p count m.objects k v w h) g)
  obeys_good count (command.Look k t a) m h g =
      choose (GoodStep p) (is_reserved full a) Astray (gives t (look k a m.objects) m) tt
      (good_step count (gives t (look k a m.objects) m) (gives_sound count t (look k a m.objects) m (look_known p count k a m.objects g.objects) g))
  obeys_good count (command.Poke k a v) m h g =
      choose (GoodStep p) (is_reserved full a) Astray (changes (poke k a v m.objects) m) tt
      (good_step count (changes (poke k a v m.objects) m) (changes_sound count (poke k a v m.objects) m (poke_known p count k a v m.objects h g.objects) g))
  obeys_good count (command.Copied to from size unit) m h g =
      choose (GoodStep p) (is_reserved full to || is_reserved full from) Astray (changes (copy to from size unit m.objects) m) tt
      (good_step count (changes (copy to from size unit m.objects) m) (changes_sound count (copy to from size unit m.objects) m (copy_known p count to from size unit m.objects g.objects) g))
  obeys_good count (command.GetGlobal t v k) m h g = good_step count (loads_global full t v k m) (loads_global_sound count t v k m g)
  obeys_good count (command.PutGlobal v k w) m h g = good_step count (stores_global full v k w m) (stores_global_sound count v k w m h g)
  obeys_good count (command.Enter t f args) m h g = calls_by_good count f t args m (library_at f) (function_named full f) refl h g
  obeys_good count command.Fail m h g = tt

  does_good : (count : ℕ) (o : WebOp) (m : Machine) → WebOpIsFine p (length m.frame.function.body.slots) o → IsSound p count m → GoodStep p (does full o m)
  does_good count (Flow o) m h g =
      let value = value_in m.frame m.registers in
      obeys_good count (command.command p m.frame.base o value) m
      (command_known p count (length m.frame.function.body.slots) o m.frame.base value g.low g.frame.slots h (value_in_known count m.frame m.registers g.frame.temps g.registers)) g
  does_good count (Read t r) m h g = record { count = count; sound = with_temp_sound count t (m.registers r) m (g.registers r) g }
  does_good count (Write r a) m h g =
      let v = value_in m.frame m.registers a in
      record {
        count = count;
        sound = record {
          frame = g.frame;
          callers = g.callers;
          registers = with_register_known count r v m.registers (value_in_known count m.frame m.registers g.frame.temps g.registers a) g.registers;
          objects = g.objects;
          low = g.low;
        };
      }

  next_good : (count : ℕ) (m : Machine) (ops : List WebOp) → AllByRecursion (WebOpIsFine p (length m.frame.function.body.slots)) ops → IsSound p count m → GoodStep p (next_by full m ops)
  next_good count m [] all g = good_step count (ends full m.frame.end m) (ends_sound count m.frame.end m g)
  next_good count m (o ∷ ops) all g =
      does_good count o (record m { frame = record m.frame { ops = ops } }) all.0
      (record {
        frame = record { body = g.frame.body; ops = all.1; temps = g.frame.temps; saved = g.frame.saved; slots = g.frame.slots; base = g.frame.base };
        callers = g.callers;
        registers = g.registers;
        objects = g.objects;
        low = g.low;
      })

  step_good : (m : Machine) → Good p m → GoodStep p (step full m)
  unfolding step
  step_good m g = next_good g.count m m.frame.ops g.sound.frame.ops g.sound

  and_good : (s : Step) → GoodStep p s → GoodStep p (and_then s (step full))
  and_good (On m) g = step_good m g
  and_good (Stopped end m) g = tt
  and_good Astray g = tt

  steps_good : (n : ℕ) (s : Step) → GoodStep p s → GoodStep p (steps full n s)
  unfolding steps
  steps_good zero s g = g
  steps_good (suc n) s g = steps_good n (and_then s (step full)) (and_good s g)

  -- ---- the start

  begun_sound : (input : List ℕ) (l : Located) (b : WebBlock) → BodyIsFine p l.body → first_block l ≡ Some b
      → IsSound p (length (start_objects p) + length l.body.slots) (begun_at full input l b)
  begun_sound input l b body at =
      let count = length (start_objects p) + length l.body.slots in
      let globals = length-map (globals_of p) (object_of p) in
      let low : length (globals_of p) ≤ count = omega (arith, globals) in
      let size = slots_count l.body.slots (start_objects p) in
      record {
        frame = record {
          body = body;
          ops = block_there count l 0 b body at;
          temps = replicate_each (ValueIsKnown p count) l.body.temps Undefined tt;
          saved = map_each (λ (s : ℕ × Value). ValueIsKnown p count s.1) (λ r. (r, Undefined)) (λ r. tt) l.saved;
          slots = omega arith;
          base = omega (arith, globals);
        };
        callers = tt;
        registers = λ r. tt;
        objects = (slots_known count l.body.slots (start_objects p) (start_known p count ok low), omega (arith, size));
        low = low;
      }

  starts_at_good : (input : List ℕ) (l : Located) (b : Option WebBlock) → BodyIsFine p l.body → first_block l ≡ b → GoodStep p (starts_at_by full input l b)
  starts_at_good input l None body at = tt
  starts_at_good input l (Some b) body at =
      let count = length (start_objects p) + length l.body.slots in
      good_step count (enters_webs full (entered_webs l) (begun_at full input l b)) (enters_sound count (entered_webs l) (begun_at full input l b) (begun_sound input l b body at))

  starts_good : (input : List ℕ) (l : Option Located) → function_named full start_name ≡ l → GoodStep p (starts_by full input l)
  starts_good input (Some l) e = starts_at_good input l (first_block l) (defined_fine start_name l e) refl
  starts_good input None e = tt

  start_good : (input : List ℕ) → GoodStep p (start full input)
  start_good input = starts_good input (function_named full start_name) refl

  -- ---- the pointers of a state

  frame_known : (count more : ℕ) (le : count ≤ more) (f : Frame) → IsFrame p count f → FrameIsKnown p more f
  frame_known count more le f g =
      let later = frame_later count more le f g in
      record { temps = λ t. read_each (ValueIsKnown p more) f.temps t Undefined later.temps tt; saved = later.saved; slots = later.slots }

  state_known : (count : ℕ) (m : Machine) → IsSound p count m → AreKnown p m
  state_known count m g =
      let more = length m.objects in
      let le : count ≤ more = g.objects.1 in
      let objects = objects_later p count more le m.objects g.objects.0 in
      record {
        frame = frame_known count more le m.frame g.frame;
        callers = each_later (IsFrame p count) (FrameIsKnown p more) (frame_known count more le) m.callers g.callers;
        registers = λ r. value_later p count more le (m.registers r) (g.registers r);
        bytes = λ o i. read_each (ByteIsKnown p more) (object_at m.objects o).bytes i B.Undefined (read_each (KnownObject p more) m.objects o no_object objects tt) tt;
      }

  of_step : (m : Machine) → Good p m → AreKnown p m
  of_step m g = state_known g.count m g.sound

  base_of : (m : Machine) → Good p m → length (globals_of p) ≤ m.frame.base
  base_of m g = g.sound.frame.base

  pub base_at : (input : List ℕ) (n : ℕ) (m : Machine) → steps full n (start full input) ≡ On m → length (globals_of p) ≤ m.frame.base
  base_at input n m e = base_of m (subst (GoodStep p) e (steps_good n (start full input) (start_good input)))

  pub state_at : (input : List ℕ) (n : ℕ) (m : Machine) → steps full n (start full input) ≡ On m → AreKnown p m
  state_at input n m e = of_step m (subst (GoodStep p) e (steps_good n (start full input) (start_good input)))

pub pointers_are_known : PointersAreKnown
pointers_are_known p d functions input ok serve n m e = state_at p functions ok (functions_fine p ok d functions serve) input n m e

pub slots_are_behind_globals : SlotsAreBehindGlobals
slots_are_behind_globals p d functions input ok serve n m e = base_at p functions ok (functions_fine p ok d functions serve) input n m e
