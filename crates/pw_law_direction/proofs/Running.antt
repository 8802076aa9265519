-- A run under directives: its values are fine, its frames are of the program's functions, and what it notes is a trail.
use Rattle.std.proofs.Common.{◌≡◌, ℕ, zero, suc, ◌+◌, ◌-◌, ◌%◌, ◌^◌, ◌==◌, nat_lt, nat_le, ◌&&◌, ◌||◌, Bool, true, false, if◌then◌else◌, List, [], ◌∷◌, ◌++◌, length, map, replicate, refl, sym, ap, subst, ◌∙◌, inl, inr, ◌≤◌}
use Rattle.std.specs.Prelude.{Option, Some, None, slice_get, slice_set, slice_index_or}
use Rattle.std.specs.List.{AllByRecursion}
use Rattle.std.specs.Str.{bytes_eq}
use Rattle.std.proofs.lemmas.Bool.{eqb-true}
use Rattle.std.proofs.lemmas.Option.{same_Some}
use Rattle.std.proofs.lemmas.Slice.Eq.{bytes_eq-Decides}
use Rattle.pw_value.specs.declared.value.Kind.{Kind}
use Rattle.pw_value.specs.declared.value.Byte.{Byte}
use Rattle.pw_value.specs.declared.value.Byte.TheVariants as B
use Rattle.pw_value.specs.declared.value.Value.{Value}
use Rattle.pw_value.specs.declared.value.Value.TheVariants.{Undefined, Num, Null, At, Piece}
use Rattle.pw_value.specs.ProgramNames.{start_name, exit_name, getchar_name, putchar_name}
use Rattle.pw_value.specs.Objects.{Object}
use Rattle.pw_files.proofs.Standing.{Has, has_map_back, has_flat}
use Rattle.pw_db.specs.Limits.{last_register, last_temporary}
use Rattle.pw_db.specs.declared.database.Web.{Web}
use Rattle.pw_db.specs.declared.database.Role.{Role}
use Rattle.pw_db.specs.declared.database.Directives.{Directives}
use Rattle.pw_flow.specs.declared.flow.FlowFn.{FlowFn}
use Rattle.pw_flow.specs.declared.flow.Op.{Op}
use Rattle.pw_flow.specs.declared.flow.Block.{Block}
use Rattle.pw_flow.specs.declared.flow.End.{End}
use Rattle.pw_flow.specs.declared.flow.End.TheVariants.{Jump, Branch, Return}
use Rattle.pw_db_sound.specs.CallGraphs.{Calls}
use Rattle.pw_run_languages.specs.Traces.{Event, Called, Refused, Returned, Loaded, Stored, Notes}
use Rattle.pw_webflow.specs.declared.web.WebOp.{WebOp}
use Rattle.pw_webflow.specs.declared.web.WebOp.TheVariants.{Flow, Read, Write}
use Rattle.pw_webflow.specs.declared.web.WebBlock.{WebBlock}
use Rattle.pw_webflow.specs.Direction.{directed, directed_op, directed_block}
use Rattle.pw_alloc.specs.declared.located.Located.{Located}
use Rattle.pw_alloc.specs.declared.located.Place.{Place}
use Rattle.pw_alloc.specs.declared.located.Place.TheVariants.{Slot, Reg}
use Rattle.pw_run.specs.Runs as run
use Rattle.pw_run_languages.specs.Values.{binary, is_somewhere}
use Rattle.pw_run_languages.specs.Memory.{is_of_kind, look, look_in, poke, poke_in, copy}
use Rattle.pw_run_languages.specs.Programs.{Program, Library, GetChar, PutChar, Exit, library_at, functions_of, global_number, start_objects, globals_of}
use Rattle.pw_run_languages.specs.Commands as command
use Rattle.pw_run_languages.specs.FlowRun.{is_own_kind, get_global, put_global, with_slots, end_from}
use Rattle.pw_run_languages.specs.LawfulPrograms.{IsProgram, ops_of, graph_of}
use Rattle.pw_run_languages.specs.Direction.{directives_of, directed_by, unplaced, directed_functions, with_functions, web_run}
use Rattle.pw_run_languages.specs.PlacedRun.{PlacedProgram, Frame, Machine, Step, On, Stopped, Astray, name_of, function_named, with_register, with_registers, kept, register_at, value_in, with_temp, gives, takes_result, counted, noted, globals_now, is_eligible, noted_if, loads_global, stores_global, is_reserved, changes, exceeds, library_call, library_return, without_scratch, gives_back, calls_library, entered_webs, and_then, enters_webs, leaves, leaves_webs, without_places, with_parameters, entered, first_block, begins, calls_defined, calls, jumps, branches, given_back, ends, obeys, does, step, steps, start, staged, placed_run}
use Rattle.pw_law_direction.proofs.Lists.{choose, found, read_each, set_each, replicate_each, map_each, get_has}
use Rattle.pw_law_direction.specs.Values.{FineValue, FineByte, FineObjects, FineFrame, AreFine}
use Rattle.pw_law_direction.proofs.Values.{FineIfValue, FineIfObjects, look_in_fine, look_fine, poke_in_fine, poke_fine, copy_fine, binary_fine, with_object_fine, ended_fine}
use Rattle.pw_law_direction.proofs.Objects.{start_fine}
use Rattle.pw_law_direction.proofs.Trails.{Log, Globals, is_kept, noted_in, entered_among, loads, stores, Accesses, Act, Registers, saves, acted, AgreeBut, nothing, Trail, begun, write, load, store, library, call, return, Last, ended as at_exit, refused}
use Rattle.pw_law_direction.proofs.Commands.{flow_op, write_op, MayAccess, IsAllowed, command_allowed}

abbrev pub placed_of : Program → List (List ℕ × Directives) → PlacedProgram
placed_of p d = with_functions p (map unplaced (directed_functions p d))

pub record IsOpOf (webs : List (Web × Role)) (fn : FlowFn) (o : WebOp) : Type 0 where
  op : Op
  has : Has op (ops_of fn)
  is : directed_op webs op ≡ o

pub record IsFrame (p : Program) (d : List (List ℕ × Directives)) (f : Frame) : Type 0 where
  fn : FlowFn
  among : Has fn (functions_of p)
  is : f.function ≡ unplaced (directed_by d fn)
  ops : (o : WebOp) → Has o f.ops → IsOpOf (directives_of d fn.name).webs fn o
  temps : AllByRecursion (FineValue p) f.temps
  saved : AllByRecursion (λ (s : ℕ × Value). FineValue p s.1) f.saved
  base : length (globals_of p) ≤ f.base

abbrev pub act_of : Frame → Act
act_of f = record { name = name_of f; saved = f.saved; before = f.before }

-- a state of a run, of whose active functions, registers and notes something holds
pub record Good (p : Program) (d : List (List ℕ × Directives)) (T : List Act → Registers → Log → Type 0) (m : Machine) : Type 0 where
  frame : IsFrame p d m.frame
  callers : AllByRecursion (IsFrame p d) m.callers
  registers : (r : ℕ) → FineValue p (m.registers r)
  objects : FineObjects p m.objects
  trail : T (act_of m.frame ∷ map act_of m.callers) m.registers m.trace

abbrev pub GoodStep : (p : Program) (d : List (List ℕ × Directives)) (T : List Act → Registers → Log → Type 0) → Step → Type 0
GoodStep p d T (On m) = Good p d T m
GoodStep p d T (Stopped end m) = Last p d m.trace
GoodStep p d T Astray = Unit {0}

-- ---- functions under directives

name_is : (d : List (List ℕ × Directives)) (fn : FlowFn) → (unplaced (directed_by d fn)).body.name ≡ fn.name
unfolding directed
name_is d fn = refl

frame_name : (p : Program) (d : List (List ℕ × Directives)) (f : Frame) (i : IsFrame p d f) → name_of f ≡ i.fn.name
frame_name p d f i = ap (λ (l : Located). l.body.name) i.is ∙ name_is d i.fn

entered_by : (d : List (List ℕ × Directives)) (fn : FlowFn) → entered_webs (unplaced (directed_by d fn)) ≡ entered_among (directives_of d (unplaced (directed_by d fn)).body.name).webs
unfolding directed
entered_by d fn = refl

entered_is : (d : List (List ℕ × Directives)) (fn : FlowFn) (f : Located) → f ≡ unplaced (directed_by d fn) → entered_webs f ≡ entered_among (directives_of d f.body.name).webs
entered_is d fn f is = subst (λ (l : Located). entered_webs l ≡ entered_among (directives_of d l.body.name).webs) (sym is) (entered_by d fn)

-- it saves the registers of the webs that it enters, and no temporary has a register
saved_by : (d : List (List ℕ × Directives)) (fn : FlowFn) → (unplaced (directed_by d fn)).saved ≡ saves (directives_of d (unplaced (directed_by d fn)).body.name).webs
unfolding directed
saved_by d fn = refl

saved_is : (d : List (List ℕ × Directives)) (fn : FlowFn) (f : Located) → f ≡ unplaced (directed_by d fn) → f.saved ≡ saves (directives_of d f.body.name).webs
saved_is d fn f is = subst (λ (l : Located). l.saved ≡ saves (directives_of d l.body.name).webs) (sym is) (saved_by d fn)

no_place : (d : List (List ℕ × Directives)) (fn : FlowFn) (f : Located) (t : ℕ) → f ≡ unplaced (directed_by d fn) → register_at f.places t ≡ None
no_place d fn f t is = subst (λ (l : Located). register_at l.places t ≡ None) (sym is) refl

no_places : (d : List (List ℕ × Directives)) (fn : FlowFn) (f : Located) (registers : Registers) → f ≡ unplaced (directed_by d fn) → without_places f.places registers ≡ registers
no_places d fn f registers is = subst (λ (l : Located). without_places l.places registers ≡ registers) (sym is) refl

-- the act of a function that was just called
acted_is : (d : List (List ℕ × Directives)) (f : List ℕ) (saved : List ℕ) (registers : Registers) → saved ≡ saves (directives_of d f).webs
    → ◌≡◌ {A = Act} (record { name = f; saved = map (λ r. (r, registers r)) saved; before = kept registers }) (acted d f registers)
acted_is d f saved registers e = ap (λ (rs : List ℕ). record { name = f; saved = map (λ r. (r, registers r)) rs; before = kept registers }) e

blocks_by : (d : List (List ℕ × Directives)) (fn : FlowFn) (i : ℕ) (b : WebBlock) → slice_get (unplaced (directed_by d fn)).body.blocks i ≡ Some b → Has b (map (directed_block (directives_of d fn.name).webs) fn.blocks)
unfolding directed
blocks_by d fn i b e = get_has (map (directed_block (directives_of d fn.name).webs) fn.blocks) i b e

block_ops : (d : List (List ℕ × Directives)) (fn : FlowFn) (f : Located) (i : ℕ) (b : WebBlock) → f ≡ unplaced (directed_by d fn) → slice_get f.body.blocks i ≡ Some b → (o : WebOp) → Has o b.ops → IsOpOf (directives_of d fn.name).webs fn o
block_ops d fn f i b is e o h =
    let webs = (directives_of d fn.name).webs in
    let there = blocks_by d fn i b (subst (λ (l : Located). slice_get l.body.blocks i ≡ Some b) is e) in
    let c = has_map_back (directed_block webs) b fn.blocks there in
    let own : Has o (map (directed_op webs) c.0.ops) = subst (λ (x : WebBlock). Has o x.ops) (sym c.2) h in
    let k = has_map_back (directed_op webs) o c.0.ops own in
    record { op = k.0; has = has_flat (λ (x : Block). x.ops) c.0 k.0 fn.blocks c.1 k.1; is = k.2 }

-- a function that the program has under directives
record IsDefined (p : Program) (d : List (List ℕ × Directives)) (f : List ℕ) (l : Located) : Type 0 where
  fn : FlowFn
  among : Has fn (functions_of p)
  is : l ≡ unplaced (directed_by d fn)
  name : l.body.name ≡ f

defined_by : (p : Program) (d : List (List ℕ × Directives)) (f : List ℕ) (l : Located) → function_named (placed_of p d) f ≡ Some l → IsDefined p d f l
defined_by p d f l e =
    let r = found (λ (g : Located). bytes_eq g.body.name f) (map unplaced (directed_functions p d)) l e in
    let w = has_map_back unplaced l (directed_functions p d) r.0 in
    let fn = has_map_back (directed_by d) w.0 (functions_of p) w.1 in
    record { fn = fn.0; among = fn.1; is = sym w.2 ∙ ap unplaced (sym fn.2); name = (bytes_eq-Decides l.body.name f).0 r.1 }

abbrev library_named : Library → List ℕ
library_named GetChar = getchar_name
library_named PutChar = putchar_name
library_named Exit = exit_name

library_by : (f : List ℕ) (a b c : Bool) (g : Library) → bytes_eq f getchar_name ≡ a → bytes_eq f putchar_name ≡ b → bytes_eq f exit_name ≡ c
    → ◌≡◌ {A = Option Library} (if a then Some GetChar else if b then Some PutChar else if c then Some Exit else None) (Some g) → f ≡ library_named g
library_by f true b c g x y z e = (bytes_eq-Decides f getchar_name).0 x ∙ ap library_named (same_Some GetChar g e)
library_by f false true c g x y z e = (bytes_eq-Decides f putchar_name).0 y ∙ ap library_named (same_Some PutChar g e)
library_by f false false true g x y z e = (bytes_eq-Decides f exit_name).0 z ∙ ap library_named (same_Some Exit g e)
library_by f false false false g x y z e = absurd cc

library_is : (f : List ℕ) (g : Library) → library_at f ≡ Some g → f ≡ library_named g
library_is f g e = library_by f (bytes_eq f getchar_name) (bytes_eq f putchar_name) (bytes_eq f exit_name) g refl refl refl e

-- ---- parts of the run by what they look up

abbrev value_by : Frame → (ℕ → Value) → ℕ → Option ℕ → Value
value_by f registers t (Some r) = registers r
value_by f registers t None = slice_index_or f.temps t Undefined

abbrev put_by : ℕ → Value → Machine → Option ℕ → Machine
put_by t v m (Some r) = record m { registers = with_register r v m.registers }
put_by t v m None = record m { frame = record m.frame { temps = slice_set m.frame.temps t v } }

abbrev get_by : Kind → List Object → Option ℕ → Option Value
get_by k objects (Some o) = look_in k o 0 objects
get_by k objects None = None

abbrev set_by : Kind → Value → List Object → Option ℕ → Option (List Object)
set_by k v objects (Some o) = poke_in k o 0 v objects
set_by k v objects None = None

abbrev stored_by : PlacedProgram → List ℕ → Machine → Option (List Object) → Step
stored_by q g m (Some objects) = On (noted_if (is_eligible q g) (Stored g) (record m { objects = objects }))
stored_by q g m None = Astray

abbrev reads_by : PlacedProgram → Option ℕ → Machine → List ℕ → Step
reads_by q t m [] = gives_back q getchar_name t (Num (2 ^ 32 - 1)) (library_call q getchar_name m)
reads_by q t m (byte ∷ rest) = gives_back q getchar_name t (Num byte) (record (library_call q getchar_name m) { rest = rest; read = m.read + 1 })

abbrev loaded_by : PlacedProgram → Web → Machine → Option Value → Step
loaded_by q w m (Some v) = On (noted_if (is_eligible q w.global) (Loaded w.global) (record m { registers = with_register w.reg v m.registers }))
loaded_by q w m None = Astray

abbrev calls_by : PlacedProgram → Option ℕ → List ℕ → List Value → Machine → Option Library → Option Located → Step
calls_by q t f args m (Some g) defined = if exceeds q f (m.frame ∷ m.callers) then Stopped run.StackFull (noted (Refused f) m) else calls_library q g t args m
calls_by q t f args m None (Some defined) = calls_defined q defined t args m
calls_by q t f args m None None = Astray

abbrev goes_to : ℕ → Machine → WebBlock → Machine
goes_to b m next = record m { frame = record m.frame { block = b; ops = next.ops; end = next.end } }

abbrev to_block_by : ℕ → Machine → Option WebBlock → Step
to_block_by b m (Some next) = On (if b == m.frame.block + 1 then goes_to b m next else counted (goes_to b m next))
to_block_by b m None = Astray

abbrev result_by : Machine → Option ℕ → Value
result_by m (Some t) = value_in m.frame m.registers t
result_by m None = Undefined

abbrev returns_by : PlacedProgram → Value → List Frame → Machine → Step
returns_by q v [] left = Astray
returns_by q v (caller ∷ callers) left = given_back q v caller callers left

abbrev next_by : PlacedProgram → Machine → List WebOp → Step
next_by q m [] = ends q m.frame.end m
next_by q m (o ∷ ops) = does q o (record m { frame = record m.frame { ops = ops } })

abbrev begun_at : PlacedProgram → List ℕ → Located → WebBlock → Machine
begun_at q input f b = record {
  frame = record {
    function = f;
    block = 0;
    ops = b.ops;
    end = b.end;
    temps = replicate f.body.temps Undefined;
    base = length (start_objects q.flow);
    result = None;
    saved = map (λ r. (r, Undefined)) f.saved;
    before = kept (λ r. Undefined);
  };
  callers = [];
  registers = λ r. Undefined;
  objects = with_slots f.body.slots (start_objects q.flow);
  rest = input;
  read = 0;
  out = [];
  events = 0;
  trace = Called start_name (globals_now q (λ r. Undefined) [] (start_objects q.flow)) (kept (λ r. Undefined)) ∷ [];
}

abbrev starts_at_by : PlacedProgram → List ℕ → Located → Option WebBlock → Step
starts_at_by q input f None = Astray
starts_at_by q input f (Some b) = enters_webs q (entered_webs f) (begun_at q input f b)

abbrev starts_by : PlacedProgram → List ℕ → Option Located → Step
starts_by q input (Some f) = starts_at_by q input f (first_block f)
starts_by q input None = Astray

module _ (p : Program) (d : List (List ℕ × Directives)) (ok : IsProgram p) where
  -- ---- registers, temporaries, objects

  with_register_fine : (r : ℕ) (v : Value) (registers : ℕ → Value) → FineValue p v → ((s : ℕ) → FineValue p (registers s)) → (s : ℕ) → FineValue p (with_register r v registers s)
  with_register_fine r v registers h all s = choose (FineValue p) (s == r) v (registers s) h (all s)

  with_registers_fine : (news : List (ℕ × Value)) (registers : ℕ → Value) → AllByRecursion (λ (s : ℕ × Value). FineValue p s.1) news → ((s : ℕ) → FineValue p (registers s)) → (s : ℕ) → FineValue p (with_registers news registers s)
  with_registers_fine [] registers h all s = all s
  with_registers_fine (new ∷ rest) registers h all s = with_registers_fine rest (with_register new.0 new.1 registers) h.1 (with_register_fine new.0 new.1 registers h.0 all) s

  without_scratch_fine : (registers : ℕ → Value) → ((s : ℕ) → FineValue p (registers s)) → (s : ℕ) → FineValue p (without_scratch registers s)
  without_scratch_fine registers all s = choose (FineValue p) (nat_lt last_register s && nat_le s last_temporary) Undefined (registers s) tt (all s)

  without_places_fine : (places : List Place) (registers : ℕ → Value) → ((s : ℕ) → FineValue p (registers s)) → (s : ℕ) → FineValue p (without_places places registers s)
  without_places_fine [] registers all s = all s
  without_places_fine (Reg r ∷ rest) registers all s = without_places_fine rest (with_register r Undefined registers) (with_register_fine r Undefined registers tt all) s
  without_places_fine (Slot offset ∷ rest) registers all s = without_places_fine rest registers all s

  slots_fine : (slots : List ℕ) (objects : List Object) → FineObjects p objects → FineObjects p (with_slots slots objects)
  slots_fine [] objects all = all
  slots_fine (size ∷ rest) objects all = slots_fine rest _ (with_object_fine p (record { bytes = replicate size B.Undefined; live = true; writable = true }) objects (replicate_each (FineByte p) size B.Undefined tt) all)

  end_fine : (more o : ℕ) (objects : List Object) → FineObjects p objects → FineObjects p (end_from more o objects)
  end_fine zero o objects all = all
  end_fine (suc more) o objects all = end_fine more (suc o) _ (ended_fine p o objects all)

  value_by_fine : (f : Frame) (registers : ℕ → Value) (t : ℕ) (r : Option ℕ) → AllByRecursion (FineValue p) f.temps → ((s : ℕ) → FineValue p (registers s)) → FineValue p (value_by f registers t r)
  value_by_fine f registers t (Some r) temps all = all r
  value_by_fine f registers t None temps all = read_each (FineValue p) f.temps t Undefined temps tt

  value_in_fine : (f : Frame) (registers : ℕ → Value) → AllByRecursion (FineValue p) f.temps → ((s : ℕ) → FineValue p (registers s)) → (t : ℕ) → FineValue p (value_in f registers t)
  value_in_fine f registers temps all t = value_by_fine f registers t (register_at f.function.places t) temps all

  get_by_fine : (k : Kind) (objects : List Object) (o : Option ℕ) → FineObjects p objects → FineIfValue p (get_by k objects o)
  get_by_fine k objects (Some o) all = look_in_fine p k o 0 objects all
  get_by_fine k objects None all = tt

  get_global_fine : (g : List ℕ) (k : Kind) (objects : List Object) → FineObjects p objects → FineIfValue p (get_global p g k objects)
  get_global_fine g k objects all = choose (FineIfValue p) (is_own_kind p g k) (get_by k objects (global_number p g)) None (get_by_fine k objects (global_number p g) all) tt

  set_by_fine : (k : Kind) (v : Value) (objects : List Object) (o : Option ℕ) → FineValue p v → FineObjects p objects → FineIfObjects p (set_by k v objects o)
  set_by_fine k v objects (Some o) h all = poke_in_fine p k o 0 v objects h all
  set_by_fine k v objects None h all = tt

  put_global_fine : (g : List ℕ) (k : Kind) (v : Value) (objects : List Object) → FineValue p v → FineObjects p objects → FineIfObjects p (put_global p g k v objects)
  put_global_fine g k v objects h all =
      choose (FineIfObjects p) (is_own_kind p g k && is_of_kind k v) (set_by k v objects (global_number p g)) None (set_by_fine k v objects (global_number p g) h all) tt

  -- ---- what small changes keep

  and_good : (T U : List Act → Registers → Log → Type 0) (s : Step) (next : Machine → Step) → GoodStep p d T s → ((m : Machine) → Good p d T m → GoodStep p d U (next m)) → GoodStep p d U (and_then s next)
  and_good T U (On m) next g f = f m g
  and_good T U (Stopped end m) next g f = g
  and_good T U Astray next g f = tt

  put_good : (T : List Act → Registers → Log → Type 0) (t : ℕ) (v : Value) (m : Machine) → FineValue p v → Good p d T m → Good p d T (put_by t v m None)
  put_good T t v m h g = record {
    frame = record { fn = g.frame.fn; among = g.frame.among; is = g.frame.is; ops = g.frame.ops; temps = set_each (FineValue p) m.frame.temps t v g.frame.temps h; saved = g.frame.saved; base = g.frame.base };
    callers = g.callers;
    registers = g.registers;
    objects = g.objects;
    trail = g.trail;
  }

  with_temp_good : (T : List Act → Registers → Log → Type 0) (t : ℕ) (v : Value) (m : Machine) → FineValue p v → Good p d T m → Good p d T (with_temp t v m)
  with_temp_good T t v m h g = subst (λ (r : Option ℕ). Good p d T (put_by t v m r)) (sym (no_place d g.frame.fn m.frame.function t g.frame.is)) (put_good T t v m h g)

  gives_good : (T : List Act → Registers → Log → Type 0) (t : ℕ) (v : Option Value) (m : Machine) → FineIfValue p v → Good p d T m → GoodStep p d T (gives t v m)
  gives_good T t (Some v) m h g = with_temp_good T t v m h g
  gives_good T t None m h g = tt

  takes_good : (T : List Act → Registers → Log → Type 0) (t : Option ℕ) (v : Value) (m : Machine) → FineValue p v → Good p d T m → Good p d T (takes_result t v m)
  takes_good T None v m h g = g
  takes_good T (Some t) v m h g = with_temp_good T t v m h g

  changes_good : (T : List Act → Registers → Log → Type 0) (objects : Option (List Object)) (m : Machine) → FineIfObjects p objects → Good p d T m → GoodStep p d T (changes objects m)
  changes_good T (Some objects) m h g = record { frame = g.frame; callers = g.callers; registers = g.registers; objects = h; trail = g.trail }
  changes_good T None m h g = tt

  note_good : (T : List Act → Registers → Log → Type 0) (b : Bool) (e : Event Byte Value) (m : Machine) → Good p d (λ acts regs l. T acts regs (noted_in b e l)) m → Good p d T (noted_if b e m)
  note_good T true e m g = record { frame = g.frame; callers = g.callers; registers = g.registers; objects = g.objects; trail = g.trail }
  note_good T false e m g = record { frame = g.frame; callers = g.callers; registers = g.registers; objects = g.objects; trail = g.trail }

  -- the same state, of which something else holds
  retold : (T U : List Act → Registers → Log → Type 0) (m : Machine) → Good p d T m → U (act_of m.frame ∷ map act_of m.callers) m.registers m.trace → Good p d U m
  retold T U m g t = record { frame = g.frame; callers = g.callers; registers = g.registers; objects = g.objects; trail = t }

  parameters_good : (T : List Act → Registers → Log → Type 0) (t : ℕ) (vs : List Value) (m : Machine) → AllByRecursion (FineValue p) vs → Good p d T m → Good p d T (with_parameters t vs m)
  parameters_good T t [] m h g = g
  parameters_good T t (v ∷ vs) m h g = parameters_good T (suc t) vs (with_temp t v m) h.1 (with_temp_good T t v m h.0 g)

  -- ---- global objects

  load_in : (b : Bool) (a : Act) (fs : List Act) (regs : Registers) (v : List ℕ) (l : Log) → (b ≡ true → Accesses p d a.name v) → Trail p d (a ∷ fs) regs l → Trail p d (a ∷ fs) regs (noted_in b (Loaded v) l)
  load_in true a fs regs v l h t = load a fs regs v l (h refl) t
  load_in false a fs regs v l h t = t

  store_in : (b : Bool) (a : Act) (fs : List Act) (regs : Registers) (v : List ℕ) (l : Log) → (b ≡ true → Accesses p d a.name v) → Trail p d (a ∷ fs) regs l → Trail p d (a ∷ fs) regs (noted_in b (Stored v) l)
  store_in true a fs regs v l h t = store a fs regs v l (h refl) t
  store_in false a fs regs v l h t = t

  loads_global_good : (t : ℕ) (g : List ℕ) (k : Kind) (m : Machine) → MayAccess p d (name_of m.frame) g → Good p d (Trail p d) m → GoodStep p d (Trail p d) (loads_global (placed_of p d) t g k m)
  loads_global_good t g k m may good =
      gives_good (Trail p d) t (get_global p g k m.objects) (noted_if (is_kept p g) (Loaded g) m) (get_global_fine g k m.objects good.objects)
      (note_good (Trail p d) (is_kept p g) (Loaded g) m
      (retold (Trail p d) (λ acts regs l. Trail p d acts regs (noted_in (is_kept p g) (Loaded g) l)) m good (load_in (is_kept p g) (act_of m.frame) (map act_of m.callers) m.registers g m.trace may good.trail)))

  stored_by_good : (T : List Act → Registers → Log → Type 0) (g : List ℕ) (m : Machine) (objects : Option (List Object)) → FineIfObjects p objects
      → Good p d (λ acts regs l. T acts regs (noted_in (is_kept p g) (Stored g) l)) m → GoodStep p d T (stored_by (placed_of p d) g m objects)
  stored_by_good T g m (Some objects) h good =
      note_good T (is_kept p g) (Stored g) (record m { objects = objects }) (record { frame = good.frame; callers = good.callers; registers = good.registers; objects = h; trail = good.trail })
  stored_by_good T g m None h good = tt

  stores_global_good : (T : List Act → Registers → Log → Type 0) (g : List ℕ) (k : Kind) (v : Value) (m : Machine) → FineValue p v
      → Good p d (λ acts regs l. T acts regs (noted_in (is_kept p g) (Stored g) l)) m → GoodStep p d T (stores_global (placed_of p d) g k v m)
  stores_global_good T g k v m h good = stored_by_good T g m (put_global p g k v m.objects) (put_global_fine g k v m.objects h good.objects) good

  -- ---- calls of the library

  back_good : (h : List ℕ) (t : Option ℕ) (v : Value) (m : Machine) → FineValue p v → Good p d (λ acts regs l. (hs : Globals) (ss : List Value) → Trail p d acts (without_scratch regs) (Returned h 0 hs ss ss ∷ l)) m
      → GoodStep p d (Trail p d) (gives_back (placed_of p d) h t v m)
  back_good h t v m fine g =
      takes_good (Trail p d) t v (library_return (placed_of p d) h (record (counted m) { registers = without_scratch m.registers })) fine (record {
        frame = g.frame;
        callers = g.callers;
        registers = without_scratch_fine m.registers g.registers;
        objects = g.objects;
        trail = g.trail (globals_now (placed_of p d) (without_scratch m.registers) (m.frame ∷ m.callers) m.objects) (kept (without_scratch m.registers));
      })

  -- with the call of the library noted, and other input and output
  called_good : (h : List ℕ) (m : Machine) (rest out : List ℕ) (read : ℕ) → Calls (graph_of p) (name_of m.frame) h → Good p d (Trail p d) m
      → Good p d (λ acts regs l. (hs : Globals) (ss : List Value) → Trail p d acts (without_scratch regs) (Returned h 0 hs ss ss ∷ l)) (record (library_call (placed_of p d) h m) { rest = rest; out = out; read = read })
  called_good h m rest out read edge g = record {
    frame = g.frame;
    callers = g.callers;
    registers = g.registers;
    objects = g.objects;
    trail = λ hs ss. library (act_of m.frame) h (map act_of m.callers) m.registers _ hs _ ss m.trace edge g.trail;
  }

  reads_good : (t : Option ℕ) (m : Machine) (rest : List ℕ) → Calls (graph_of p) (name_of m.frame) getchar_name → Good p d (Trail p d) m → GoodStep p d (Trail p d) (reads_by (placed_of p d) t m rest)
  reads_good t m [] edge g = back_good getchar_name t (Num (2 ^ 32 - 1)) (library_call (placed_of p d) getchar_name m) tt (called_good getchar_name m m.rest m.out m.read edge g)
  reads_good t m (byte ∷ rest) edge g =
      back_good getchar_name t (Num byte) (record (library_call (placed_of p d) getchar_name m) { rest = rest; read = m.read + 1 }) tt (called_good getchar_name m rest m.out (m.read + 1) edge g)

  library_good : (g : Library) (t : Option ℕ) (args : List Value) (m : Machine) → Calls (graph_of p) (name_of m.frame) (library_named g) → Good p d (Trail p d) m → GoodStep p d (Trail p d) (calls_library (placed_of p d) g t args m)
  library_good GetChar t [] m edge good = reads_good t m m.rest edge good
  library_good PutChar t (Num n ∷ []) m edge good =
      back_good putchar_name t (Num (n % 256)) (record (library_call (placed_of p d) putchar_name m) { out = m.out ++ n % 256 ∷ [] }) tt
      (called_good putchar_name m m.rest (m.out ++ n % 256 ∷ []) m.read edge good)
  library_good Exit t (Num n ∷ []) m edge good = at_exit (act_of m.frame) exit_name (map act_of m.callers) m.registers _ _ m.trace edge good.trail
  library_good _ t _ m edge good = tt

  -- ---- the webs that a function enters and leaves

  -- what holds while webs are still to be loaded: whatever their registers get, a trail is come to
  abbrev Entering : List Web → List Act → Registers → Log → Type 0
  Entering ws acts regs l = (now : Registers) → AgreeBut ws now regs → Trail p d acts now (loads p ws l)

  with_other : (r s : ℕ) (v : Value) (regs : Registers) → (r ≡ s → ⊥) → with_register r v regs s ≡ regs s
  with_other r s v regs apart = by_test (s == r) refl where
    by_test : (b : Bool) → (s == r) ≡ b → (if b then v else regs s) ≡ regs s
    by_test true e = absurd (apart (sym (eqb-true s r e)))
    by_test false e = refl

  loaded_good : (w : Web) (ws : List Web) (m : Machine) (v : Option Value) → FineIfValue p v → Good p d (Entering (w ∷ ws)) m
      → ((n : Machine) → Good p d (Entering ws) n → GoodStep p d (Trail p d) (enters_webs (placed_of p d) ws n))
      → GoodStep p d (Trail p d) (and_then (loaded_by (placed_of p d) w m v) (enters_webs (placed_of p d) ws))
  loaded_good w ws m (Some v) h g next =
      next (noted_if (is_kept p w.global) (Loaded w.global) (record m { registers = with_register w.reg v m.registers }))
      (note_good (Entering ws) (is_kept p w.global) (Loaded w.global) (record m { registers = with_register w.reg v m.registers }) (record {
        frame = g.frame;
        callers = g.callers;
        registers = with_register_fine w.reg v m.registers h g.registers;
        objects = g.objects;
        trail = λ now agree. g.trail now (λ r out. agree r (λ u k. out u (inr k)) ∙ with_other w.reg r v m.registers (out w (inl refl)));
      }))
  loaded_good w ws m None h g next = tt

  enters_good : (ws : List Web) (m : Machine) → Good p d (Entering ws) m → GoodStep p d (Trail p d) (enters_webs (placed_of p d) ws m)
  enters_good [] m g = record { frame = g.frame; callers = g.callers; registers = g.registers; objects = g.objects; trail = g.trail m.registers (λ r out. refl) }
  enters_good (w ∷ ws) m g = loaded_good w ws m (get_global p w.global w.kind m.objects) (get_global_fine w.global w.kind m.objects g.objects) g (λ n h. enters_good ws n h)

  leave_by : (T : List Act → Registers → Log → Type 0) (w : Web) (m : Machine) (b : Bool)
      → Good p d (λ acts regs l. T acts regs (if b then noted_in (is_kept p w.global) (Stored w.global) l else l)) m → GoodStep p d T (if b then stores_global (placed_of p d) w.global w.kind (m.registers w.reg) m else On m)
  leave_by T w m true g = stores_global_good T w.global w.kind (m.registers w.reg) m (g.registers w.reg) g
  leave_by T w m false g = record { frame = g.frame; callers = g.callers; registers = g.registers; objects = g.objects; trail = g.trail }

  leaves_good : (T : List Act → Registers → Log → Type 0) (ws : List Web) (m : Machine) → Good p d (λ acts regs l. T acts regs (stores p ws l)) m → GoodStep p d T (leaves_webs (placed_of p d) ws m)
  leaves_good T [] m g = record { frame = g.frame; callers = g.callers; registers = g.registers; objects = g.objects; trail = g.trail }
  leaves_good T (w ∷ ws) m g =
      and_good (λ acts regs l. T acts regs (stores p ws l)) T (leaves (placed_of p d) w m) (leaves_webs (placed_of p d) ws) (leave_by (λ acts regs l. T acts regs (stores p ws l)) w m w.writes g) (λ n h. leaves_good T ws n h)

  -- ---- calls of functions that a module defines

  -- a function that was just entered, whose webs are still to be loaded
  entered_good : (fn : FlowFn) (l : Located) (b : WebBlock) (t : Option ℕ) (gs : Globals) (rs : List Value) (m : Machine) → Has fn (functions_of p) → l ≡ unplaced (directed_by d fn) → first_block l ≡ Some b
      → Calls (graph_of p) (name_of m.frame) l.body.name → Good p d (Trail p d) m
      → Good p d (λ acts regs k. Entering (entered_webs l) acts regs k) (entered l b t (counted (noted (Called l.body.name gs rs) m)))
  entered_good fn l b t gs rs m among is at edge g = record {
    frame = record {
      fn = fn;
      among = among;
      is = is;
      ops = block_ops d fn l 0 b is at;
      temps = replicate_each (FineValue p) l.body.temps Undefined tt;
      saved = map_each (λ (s : ℕ × Value). FineValue p s.1) (λ r. (r, m.registers r)) g.registers l.saved;
      base = g.objects.1;
    };
    callers = (g.frame, g.callers);
    registers = without_places_fine l.places m.registers g.registers;
    objects = slots_fine l.body.slots m.objects g.objects;
    trail = λ now agree.
        subst (λ (a : Act). Trail p d (a ∷ act_of m.frame ∷ map act_of m.callers) now (loads p (entered_webs l) (Called l.body.name gs rs ∷ m.trace))) (sym (acted_is d l.body.name l.saved m.registers (saved_is d fn l is)))
        (subst (λ (ws : List Web). Trail p d (acted d l.body.name m.registers ∷ act_of m.frame ∷ map act_of m.callers) now (loads p ws (Called l.body.name gs rs ∷ m.trace))) (sym (entered_is d fn l is))
        (call (act_of m.frame) l.body.name (map act_of m.callers) m.registers now gs rs m.trace edge
        (subst (λ (ws : List Web). AgreeBut ws now m.registers) (entered_is d fn l is) (subst (λ (regs : Registers). AgreeBut (entered_webs l) now regs) (no_places d fn l m.registers is) agree)) g.trail));
  }

  begins_good : (fn : FlowFn) (l : Located) (b : Option WebBlock) (t : Option ℕ) (args : List Value) (gs : Globals) (rs : List Value) (m : Machine) → Has fn (functions_of p) → l ≡ unplaced (directed_by d fn) → first_block l ≡ b
      → Calls (graph_of p) (name_of m.frame) l.body.name → AllByRecursion (FineValue p) args → Good p d (Trail p d) m
      → GoodStep p d (Trail p d) (begins (placed_of p d) l b t args (counted (noted (Called l.body.name gs rs) m)))
  begins_good fn l None t args gs rs m among is at edge all g = tt
  begins_good fn l (Some b) t args gs rs m among is at edge all g =
      let start = entered l b t (counted (noted (Called l.body.name gs rs) m)) in
      choose (GoodStep p d (Trail p d)) (length args == l.body.params)
      (and_then (enters_webs (placed_of p d) (entered_webs l) start) (λ n. On (with_parameters 0 args n))) Astray
      (and_good (Trail p d) (Trail p d) (enters_webs (placed_of p d) (entered_webs l) start) (λ n. On (with_parameters 0 args n))
      (enters_good (entered_webs l) start (entered_good fn l b t gs rs m among is at edge g)) (λ n h. parameters_good (Trail p d) 0 args n all h)) tt

  calls_defined_good : (f : List ℕ) (l : Located) (t : Option ℕ) (args : List Value) (m : Machine) → IsDefined p d f l → Calls (graph_of p) (name_of m.frame) f → AllByRecursion (FineValue p) args → Good p d (Trail p d) m
      → GoodStep p d (Trail p d) (calls_defined (placed_of p d) l t args m)
  calls_defined_good f l t args m def edge all g =
      let gs = globals_now (placed_of p d) m.registers (m.frame ∷ m.callers) m.objects in
      let to : Calls (graph_of p) (name_of m.frame) l.body.name = subst (λ (n : List ℕ). Calls (graph_of p) (name_of m.frame) n) (sym def.name) edge in
      choose (GoodStep p d (Trail p d)) (exceeds (placed_of p d) l.body.name (m.frame ∷ m.callers)) (Stopped run.StackFull (noted (Refused l.body.name) m))
      (begins (placed_of p d) l (first_block l) t args (counted (noted (Called l.body.name gs (kept m.registers)) m)))
      (refused (act_of m.frame) l.body.name (map act_of m.callers) m.registers m.trace to g.trail)
      (begins_good def.fn l (first_block l) t args gs (kept m.registers) m def.among def.is refl to all g)

  calls_by_good : (f : List ℕ) (t : Option ℕ) (args : List Value) (m : Machine) (g : Option Library) (l : Option Located) → library_at f ≡ g → function_named (placed_of p d) f ≡ l
      → Calls (graph_of p) (name_of m.frame) f → AllByRecursion (FineValue p) args → Good p d (Trail p d) m → GoodStep p d (Trail p d) (calls_by (placed_of p d) t f args m g l)
  calls_by_good f t args m (Some g) l e x edge all good =
      choose (GoodStep p d (Trail p d)) (exceeds (placed_of p d) f (m.frame ∷ m.callers)) (Stopped run.StackFull (noted (Refused f) m)) (calls_library (placed_of p d) g t args m)
      (refused (act_of m.frame) f (map act_of m.callers) m.registers m.trace edge good.trail)
      (library_good g t args m (subst (λ (n : List ℕ). Calls (graph_of p) (name_of m.frame) n) (library_is f g e) edge) good)
  calls_by_good f t args m None (Some l) e x edge all good = calls_defined_good f l t args m (defined_by p d f l x) edge all good
  calls_by_good f t args m None None e x edge all good = tt

  calls_good : (f : List ℕ) (t : Option ℕ) (args : List Value) (m : Machine) → Calls (graph_of p) (name_of m.frame) f → AllByRecursion (FineValue p) args → Good p d (Trail p d) m
      → GoodStep p d (Trail p d) (calls (placed_of p d) t f args m)
  calls_good f t args m edge all good = calls_by_good f t args m (library_at f) (function_named (placed_of p d) f) refl refl edge all good

  -- ---- ends of blocks

  to_block_good : (b : ℕ) (m : Machine) (next : Option WebBlock) → slice_get m.frame.function.body.blocks b ≡ next → Good p d (Trail p d) m → GoodStep p d (Trail p d) (to_block_by b m next)
  to_block_good b m (Some next) at g =
      let frame : IsFrame p d (goes_to b m next).frame = record {
        fn = g.frame.fn;
        among = g.frame.among;
        is = g.frame.is;
        ops = block_ops d g.frame.fn m.frame.function b next g.frame.is at;
        temps = g.frame.temps;
        saved = g.frame.saved;
        base = g.frame.base;
      } in
      choose (Good p d (Trail p d)) (b == m.frame.block + 1) (goes_to b m next) (counted (goes_to b m next))
      (record { frame = frame; callers = g.callers; registers = g.registers; objects = g.objects; trail = g.trail })
      (record { frame = frame; callers = g.callers; registers = g.registers; objects = g.objects; trail = g.trail })
  to_block_good b m None at g = tt

  jumps_good : (b : ℕ) (m : Machine) → Good p d (Trail p d) m → GoodStep p d (Trail p d) (jumps b m)
  jumps_good b m g = to_block_good b m (slice_get m.frame.function.body.blocks b) refl g

  branches_good : (v : Value) (b c : ℕ) (m : Machine) → Good p d (Trail p d) m → GoodStep p d (Trail p d) (branches v b c m)
  branches_good (Num zero) b c m g = jumps_good c m g
  branches_good (Num (suc n)) b c m g = jumps_good b m g
  branches_good (At x) b c m g = choose (GoodStep p d (Trail p d)) (is_somewhere m.objects x) (jumps b m) Astray (jumps_good b m g) tt
  branches_good Undefined b c m g = tt
  branches_good Null b c m g = tt
  branches_good (Piece x i) b c m g = tt

  abbrev first_act : Act → List Act → Act
  first_act a [] = a
  first_act a (b ∷ bs) = b

  -- what holds while a function stores its webs back: its return leads to a trail of its callers
  abbrev Back : Act → Registers → List Act → Log → Type 0
  Back a regs callers l = (gs : Globals) → Trail p d callers (without_scratch (with_registers a.saved regs)) (Returned a.name 0 gs a.before (kept (without_scratch (with_registers a.saved regs))) ∷ l)

  given_back_good : (v : Value) (caller : Frame) (callers : List Frame) (left : Machine) → FineValue p v → IsFrame p d caller → AllByRecursion (IsFrame p d) callers
      → Good p d (λ acts regs l. Back (act_of left.frame) regs (act_of caller ∷ map act_of callers) l) left → GoodStep p d (Trail p d) (given_back (placed_of p d) v caller callers left)
  given_back_good v caller callers left fine frame frames g =
      let registers = without_scratch (with_registers left.frame.saved left.registers) in
      let objects = end_from (length left.objects - left.frame.base) left.frame.base left.objects in
      let gs = globals_now (placed_of p d) registers (caller ∷ callers) objects in
      let back : Machine = noted (Returned (name_of left.frame) 0 gs left.frame.before (kept registers)) (record left { frame = caller; callers = callers; registers = registers; objects = objects }) in
      takes_good (Trail p d) left.frame.result v back fine (record {
        frame = frame;
        callers = frames;
        registers = without_scratch_fine (with_registers left.frame.saved left.registers) (with_registers_fine left.frame.saved left.registers g.frame.saved g.registers);
        objects = end_fine (length left.objects - left.frame.base) left.frame.base left.objects g.objects;
        trail = g.trail gs;
      })

  returns_by_good : (v : Value) (m : Machine) (frames : List Frame) → frames ≡ m.callers → FineValue p v → Good p d (Trail p d) m
      → GoodStep p d (Trail p d) (and_then (leaves_webs (placed_of p d) (entered_webs m.frame.function) m) (returns_by (placed_of p d) v frames))
  returns_by_good v m [] e fine g =
      and_good (λ acts regs l. Unit {0}) (Trail p d) (leaves_webs (placed_of p d) (entered_webs m.frame.function) m) (returns_by (placed_of p d) v [])
      (leaves_good (λ acts regs l. Unit {0}) (entered_webs m.frame.function) m (retold (Trail p d) (λ acts regs l. Unit {0}) m g tt)) (λ n h. tt)
  returns_by_good v m (caller ∷ callers) e fine g =
      let own = act_of m.frame in
      let others = act_of caller ∷ map act_of callers in
      let T : List Act → Registers → Log → Type 0 = λ acts regs l. (first_act own acts ≡ own) × Back own regs others l in
      let frames : AllByRecursion (IsFrame p d) (caller ∷ callers) = subst (AllByRecursion (IsFrame p d)) (sym e) g.callers in
      let trail : Trail p d (own ∷ others) m.registers m.trace = subst (λ (fs : List Frame). Trail p d (own ∷ map act_of fs) m.registers m.trace) (sym e) g.trail in
      let back : Back own m.registers others (stores p (entered_webs m.frame.function) m.trace) =
      subst (λ (ws : List Web). Back own m.registers others (stores p ws m.trace)) (sym (entered_is d g.frame.fn m.frame.function g.frame.is))
      (λ gs. return (act_of caller) own (map act_of callers) m.registers gs m.trace trail) in
      and_good T (Trail p d) (leaves_webs (placed_of p d) (entered_webs m.frame.function) m) (returns_by (placed_of p d) v (caller ∷ callers))
      (leaves_good T (entered_webs m.frame.function) m (retold (Trail p d) (λ acts regs l. T acts regs (stores p (entered_webs m.frame.function) l)) m g (refl, back)))
      (λ n h. given_back_good v caller callers n fine frames.0 frames.1
      (retold T (λ acts regs l. Back (act_of n.frame) regs others l) n h (subst (λ (a : Act). Back a n.registers others n.trace) (sym h.trail.0) h.trail.1)))

  result_fine : (m : Machine) (t : Option ℕ) → Good p d (Trail p d) m → FineValue p (result_by m t)
  result_fine m (Some t) g = value_in_fine m.frame m.registers g.frame.temps g.registers t
  result_fine m None g = tt

  ends_good : (end : End) (m : Machine) → Good p d (Trail p d) m → GoodStep p d (Trail p d) (ends (placed_of p d) end m)
  ends_good (Jump b) m g = jumps_good b m g
  ends_good (Branch a b c) m g = branches_good (value_in m.frame m.registers a) b c m g
  ends_good (Return t) m g = returns_by_good (result_by m t) m m.callers refl (result_fine m t g) g

  -- ---- steps

  obeys_good : (c : command.Command) (m : Machine) → IsAllowed p d (name_of m.frame) c → Good p d (Trail p d) m → GoodStep p d (Trail p d) (obeys (placed_of p d) c m)
  obeys_good (command.Give t v) m h g = with_temp_good (Trail p d) t v m h g
  obeys_good (command.Combine k t v w) m h g = gives_good (Trail p d) t (binary m.objects k v w) m (binary_fine p m.objects k v w h) g
  obeys_good (command.Look k t a) m h g =
      choose (GoodStep p d (Trail p d)) (is_reserved (placed_of p d) a) Astray (gives t (look k a m.objects) m) tt (gives_good (Trail p d) t (look k a m.objects) m (look_fine p k a m.objects g.objects) g)
  obeys_good (command.Poke k a v) m h g =
      choose (GoodStep p d (Trail p d)) (is_reserved (placed_of p d) a) Astray (changes (poke k a v m.objects) m) tt (changes_good (Trail p d) (poke k a v m.objects) m (poke_fine p k a v m.objects h g.objects) g)
  obeys_good (command.Copied to from size unit) m h g =
      choose (GoodStep p d (Trail p d)) (is_reserved (placed_of p d) to || is_reserved (placed_of p d) from) Astray (changes (copy to from size unit m.objects) m) tt
      (changes_good (Trail p d) (copy to from size unit m.objects) m (copy_fine p to from size unit m.objects g.objects) g)
  obeys_good (command.GetGlobal t v k) m h g = loads_global_good t v k m h g
  obeys_good (command.PutGlobal v k w) m h g =
      stores_global_good (Trail p d) v k w m h.0
      (retold (Trail p d) (λ acts regs l. Trail p d acts regs (noted_in (is_kept p v) (Stored v) l)) m g (store_in (is_kept p v) (act_of m.frame) (map act_of m.callers) m.registers v m.trace h.1 g.trail))
  obeys_good (command.Enter t f args) m h g = calls_good f t args m h.1 h.0 g
  obeys_good command.Fail m h g = tt

  does_good : (o : WebOp) (m : Machine) (g : Good p d (Trail p d) m) → IsOpOf (directives_of d g.frame.fn.name).webs g.frame.fn o → GoodStep p d (Trail p d) (does (placed_of p d) o m)
  does_good (Flow o) m g k =
      let fn = g.frame.fn in
      let same = flow_op (directives_of d fn.name).webs k.op o k.is in
      let value = value_in m.frame m.registers in
      let has : Has o (ops_of fn) = subst (λ (x : Op). Has x (ops_of fn)) same.0 k.has in
      let allowed = command_allowed p d ok fn o g.frame.among has same.1 m.frame.base value g.frame.base (value_in_fine m.frame m.registers g.frame.temps g.registers) in
      obeys_good (command.command p m.frame.base o value) m
      (subst (λ (n : List ℕ). IsAllowed p d n (command.command p m.frame.base o value)) (sym (frame_name p d m.frame g.frame)) allowed) g
  does_good (Read t r) m g k = with_temp_good (Trail p d) t (m.registers r) m (g.registers r) g
  does_good (Write r a) m g k =
      let w = write_op (directives_of d g.frame.fn.name).webs k.op r a k.is in
      let v = value_in m.frame m.registers a in
      let has : Has (w.0.0, w.0.1) (directives_of d (name_of m.frame)).webs = subst (λ (n : List ℕ). Has w.0 (directives_of d n).webs) (sym (frame_name p d m.frame g.frame)) w.1 in
      record {
        frame = g.frame;
        callers = g.callers;
        registers = with_register_fine r v m.registers (value_in_fine m.frame m.registers g.frame.temps g.registers a) g.registers;
        objects = g.objects;
        trail = subst (λ (s : ℕ). Trail p d (act_of m.frame ∷ map act_of m.callers) (with_register s v m.registers) m.trace) w.2
            (write (act_of m.frame) (map act_of m.callers) m.registers w.0.0 w.0.1 v m.trace has g.trail);
      }

  next_good : (m : Machine) (ops : List WebOp) (g : Good p d (Trail p d) m) → ((o : WebOp) → Has o ops → IsOpOf (directives_of d g.frame.fn.name).webs g.frame.fn o) → GoodStep p d (Trail p d) (next_by (placed_of p d) m ops)
  next_good m [] g each = ends_good m.frame.end m g
  next_good m (o ∷ ops) g each =
      does_good o (record m { frame = record m.frame { ops = ops } })
      (record {
        frame = record { fn = g.frame.fn; among = g.frame.among; is = g.frame.is; ops = λ x h. each x (inr h); temps = g.frame.temps; saved = g.frame.saved; base = g.frame.base };
        callers = g.callers;
        registers = g.registers;
        objects = g.objects;
        trail = g.trail;
      })
      (each o (inl refl))

  pub step_good : (m : Machine) → Good p d (Trail p d) m → GoodStep p d (Trail p d) (step (placed_of p d) m)
  unfolding step
  step_good m g = next_good m m.frame.ops g g.frame.ops

  pub steps_good : (n : ℕ) (s : Step) → GoodStep p d (Trail p d) s → GoodStep p d (Trail p d) (steps (placed_of p d) n s)
  unfolding steps
  steps_good zero s g = g
  steps_good (suc n) s g = steps_good n (and_then s (step (placed_of p d))) (and_good (Trail p d) (Trail p d) s (step (placed_of p d)) g step_good)

  -- ---- the start

  begun_good : (input : List ℕ) (l : Located) (b : WebBlock) → IsDefined p d start_name l → first_block l ≡ Some b → Good p d (λ acts regs k. Entering (entered_webs l) acts regs k) (begun_at (placed_of p d) input l b)
  begun_good input l b def at = record {
    frame = record {
      fn = def.fn;
      among = def.among;
      is = def.is;
      ops = block_ops d def.fn l 0 b def.is at;
      temps = replicate_each (FineValue p) l.body.temps Undefined tt;
      saved = map_each (λ (s : ℕ × Value). FineValue p s.1) (λ r. (r, Undefined)) (λ r. tt) l.saved;
      base = (start_fine p ok).1;
    };
    callers = tt;
    registers = λ r. tt;
    objects = slots_fine l.body.slots (start_objects p) (start_fine p ok);
    trail = λ now agree. trail_by now l.body.name def.name (subst (λ (ws : List Web). AgreeBut ws now nothing) entered_here agree);
  } where
    entered_here : entered_webs l ≡ entered_among (directives_of d start_name).webs
    entered_here = entered_is d def.fn l def.is ∙ ap (λ (x : List ℕ). entered_among (directives_of d x).webs) def.name

    saved_here : l.saved ≡ saves (directives_of d start_name).webs
    saved_here = saved_is d def.fn l def.is ∙ ap (λ (x : List ℕ). saves (directives_of d x).webs) def.name

    trail_by : (now : Registers) (n : List ℕ) → n ≡ start_name → AgreeBut (entered_among (directives_of d start_name).webs) now nothing
        → Trail p d (record { name = n; saved = map (λ r. (r, Undefined)) l.saved; before = kept (λ r. Undefined) } ∷ []) now (loads p (entered_webs l) (begun_at (placed_of p d) input l b).trace)
    trail_by now n same agree =
        subst (λ (x : List ℕ). Trail p d (record { name = x; saved = map (λ r. (r, Undefined)) l.saved; before = kept (λ r. Undefined) } ∷ []) now (loads p (entered_webs l) (begun_at (placed_of p d) input l b).trace)) (sym same)
        (subst (λ (a : Act). Trail p d (a ∷ []) now (loads p (entered_webs l) (begun_at (placed_of p d) input l b).trace)) (sym (acted_is d start_name l.saved nothing saved_here))
        (subst (λ (ws : List Web). Trail p d (acted d start_name nothing ∷ []) now (loads p ws (begun_at (placed_of p d) input l b).trace)) (sym entered_here) (begun _ _ now agree)))

  starts_at_good : (input : List ℕ) (l : Located) (b : Option WebBlock) → IsDefined p d start_name l → first_block l ≡ b → GoodStep p d (Trail p d) (starts_at_by (placed_of p d) input l b)
  starts_at_good input l None def at = tt
  starts_at_good input l (Some b) def at = enters_good (entered_webs l) (begun_at (placed_of p d) input l b) (begun_good input l b def at)

  starts_good : (input : List ℕ) (l : Option Located) → function_named (placed_of p d) start_name ≡ l → GoodStep p d (Trail p d) (starts_by (placed_of p d) input l)
  starts_good input (Some l) e = starts_at_good input l (first_block l) (defined_by p d start_name l e) refl
  starts_good input None e = tt

  pub start_good : (input : List ℕ) → GoodStep p d (Trail p d) (start (placed_of p d) input)
  start_good input = starts_good input (function_named (placed_of p d) start_name) refl

  -- ---- the values of its states

  frames_fine : (fs : List Frame) → AllByRecursion (IsFrame p d) fs → AllByRecursion (FineFrame p) fs
  frames_fine [] all = tt
  frames_fine (f ∷ fs) all = (record { temps = all.0.temps; saved = all.0.saved; base = all.0.base }, frames_fine fs all.1)

  state_fine : (m : Machine) → Good p d (Trail p d) m → AreFine p m
  state_fine m g = record {
    frame = record { temps = g.frame.temps; saved = g.frame.saved; base = g.frame.base };
    callers = frames_fine m.callers g.callers;
    registers = g.registers;
    objects = g.objects;
  }

  pub state_at : (input : List ℕ) (n : ℕ) (m : Machine) → steps (placed_of p d) n (start (placed_of p d) input) ≡ On m → AreFine p m
  state_at input n m e = state_fine m (subst (GoodStep p d (Trail p d)) e (steps_good n (start (placed_of p d) input) (start_good input)))

  -- ---- what a run notes

  -- what holds of each trail, and of what stands at an end, holds of all that a run notes
  noted_by : (P : Log → Type 0) → ((acts : List Act) (regs : Registers) (l : Log) → Trail p d acts regs l → P l) → ((l : Log) → Last p d l → P l) → (s : Step) → GoodStep p d (Trail p d) s → Notes P (staged s)
  noted_by P on last (On m) g = on (act_of m.frame ∷ map act_of m.callers) m.registers m.trace g.trail
  noted_by P on last (Stopped end m) g = last m.trace g
  noted_by P on last Astray g = tt

  pub run_notes : (P : Log → Type 0) → ((acts : List Act) (regs : Registers) (l : Log) → Trail p d acts regs l → P l) → ((l : Log) → Last p d l → P l) → (input : List ℕ) (n : ℕ) → Notes P (web_run p d input n)
  unfolding web_run placed_run
  run_notes P on last input n = noted_by P on last (steps (placed_of p d) n (start (placed_of p d) input)) (steps_good n (start (placed_of p d) input) (start_good input))

pub states_fine : (p : Program) (d : List (List ℕ × Directives)) (input : List ℕ) → IsProgram p → (n : ℕ) (m : Machine) → steps (placed_of p d) n (start (placed_of p d) input) ≡ On m → AreFine p m
states_fine p d input ok n m e = state_at p d ok input n m e
