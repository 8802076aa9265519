-- Parts of the placed run by what they look up.
use Rattle.std.proofs.Common.{◌≡◌, ℕ, zero, suc, ◌+◌, ◌-◌, ◌%◌, ◌^◌, ◌==◌, nat_lt, nat_le, ◌&&◌, ◌||◌, ◌≤◌, Bool, true, false, if◌then◌else◌, List, [], ◌∷◌, ◌++◌, length, map, replicate, refl, sym, ap, subst, ◌∙◌, arith}
use Rattle.std.specs.Prelude.{Option, Some, None, slice_get, slice_set, slice_index_or}
use Rattle.std.specs.List.{AllByRecursion}
use Rattle.std.specs.Str.{bytes_eq}
use Rattle.pw_value.specs.declared.value.Kind.{Kind}
use Rattle.pw_value.specs.declared.value.Byte.{Byte}
use Rattle.pw_value.specs.declared.value.Byte.TheVariants as B
use Rattle.pw_value.specs.declared.value.Value.{Value}
use Rattle.pw_value.specs.declared.value.Value.TheVariants.{Undefined, Num, Null, At, Piece}
use Rattle.pw_value.specs.ProgramNames.{start_name, exit_name, getchar_name, putchar_name}
use Rattle.pw_value.specs.Objects.{Object, no_object, object_at, byte_at, with_object}
use Rattle.pw_db.specs.Limits.{last_register, last_temporary}
use Rattle.pw_db.specs.declared.database.Web.{Web}
use Rattle.pw_db.specs.declared.database.Directives.{Directives}
use Rattle.pw_flow.specs.declared.flow.End.{End}
use Rattle.pw_flow.specs.declared.flow.End.TheVariants.{Jump, Branch, Return}
use Rattle.pw_webflow.specs.declared.web.WebOp.{WebOp}
use Rattle.pw_webflow.specs.declared.web.WebOp.TheVariants.{Flow, Read, Write}
use Rattle.pw_webflow.specs.declared.web.WebBlock.{WebBlock}
use Rattle.pw_alloc.specs.declared.located.Located.{Located}
use Rattle.pw_alloc.specs.declared.located.Place.{Place}
use Rattle.pw_alloc.specs.declared.located.Place.TheVariants.{Slot, Reg}
use Rattle.pw_run.specs.Runs as run
use Rattle.pw_run_languages.specs.Traces.{Event, Called, Refused, Returned, Loaded, Stored}
use Rattle.pw_run_languages.specs.Values.{binary, is_somewhere}
use Rattle.pw_run_languages.specs.Memory.{is_of_kind, look, look_in, poke, poke_in, copy}
use Rattle.pw_run_languages.specs.Programs.{Program, Library, GetChar, PutChar, Exit, library_at, global_number, start_objects, globals_of, object_of}
use Rattle.pw_run_languages.specs.Commands as command
use Rattle.pw_run_languages.specs.FlowRun.{is_own_kind, get_global, put_global, with_slots, end_from}
use Rattle.pw_run_languages.specs.LawfulPrograms.{IsProgram}
use Rattle.pw_run_languages.specs.Direction.{directed_functions, with_functions}
use Rattle.pw_run_languages.specs.Serving.{AllServe}
use Rattle.pw_run_languages.specs.PlacedRun.{PlacedProgram, Frame, Machine, Step, On, Stopped, Astray, name_of, function_named, with_register, with_registers, kept, register_at, value_in, with_temp, gives, takes_result, counted, noted, globals_now, is_eligible, noted_if, loads_global, stores_global, is_reserved, changes, exceeds, library_call, library_return, without_scratch, gives_back, calls_library, entered_webs, and_then, enters_webs, leaves, leaves_webs, without_places, with_parameters, entered, first_block, begins, calls_defined, calls, jumps, branches, given_back, ends, obeys, does, step, steps, start}

abbrev pub value_by : Frame → (ℕ → Value) → ℕ → Option ℕ → Value
value_by f registers t (Some r) = registers r
value_by f registers t None = slice_index_or f.temps t Undefined

abbrev pub put_by : ℕ → Value → Machine → Option ℕ → Machine
put_by t v m (Some r) = record m { registers = with_register r v m.registers }
put_by t v m None = record m { frame = record m.frame { temps = slice_set m.frame.temps t v } }

abbrev pub get_by : Kind → List Object → Option ℕ → Option Value
get_by k objects (Some o) = look_in k o 0 objects
get_by k objects None = None

abbrev pub set_by : Kind → Value → List Object → Option ℕ → Option (List Object)
set_by k v objects (Some o) = poke_in k o 0 v objects
set_by k v objects None = None

abbrev pub stored_by : PlacedProgram → List ℕ → Machine → Option (List Object) → Step
stored_by q g m (Some objects) = On (noted_if (is_eligible q g) (Stored g) (record m { objects = objects }))
stored_by q g m None = Astray

abbrev pub reads_by : PlacedProgram → Option ℕ → Machine → List ℕ → Step
reads_by q t m [] = gives_back q getchar_name t (Num (2 ^ 32 - 1)) (library_call q getchar_name m)
reads_by q t m (byte ∷ rest) = gives_back q getchar_name t (Num byte) (record (library_call q getchar_name m) { rest = rest; read = m.read + 1 })

abbrev pub loaded_by : PlacedProgram → Web → Machine → Option Value → Step
loaded_by q w m (Some v) = On (noted_if (is_eligible q w.global) (Loaded w.global) (record m { registers = with_register w.reg v m.registers }))
loaded_by q w m None = Astray

abbrev pub calls_by : PlacedProgram → Option ℕ → List ℕ → List Value → Machine → Option Library → Option Located → Step
calls_by q t f args m (Some g) defined = if exceeds q f (m.frame ∷ m.callers) then Stopped run.StackFull (noted (Refused f) m) else calls_library q g t args m
calls_by q t f args m None (Some defined) = calls_defined q defined t args m
calls_by q t f args m None None = Astray

abbrev pub goes_to : ℕ → Machine → WebBlock → Machine
goes_to b m next = record m { frame = record m.frame { block = b; ops = next.ops; end = next.end } }

abbrev pub to_block_by : ℕ → Machine → Option WebBlock → Step
to_block_by b m (Some next) = On (if b == m.frame.block + 1 then goes_to b m next else counted (goes_to b m next))
to_block_by b m None = Astray

abbrev pub result_by : Machine → Option ℕ → Value
result_by m (Some t) = value_in m.frame m.registers t
result_by m None = Undefined

abbrev pub returns_by : PlacedProgram → Value → List Frame → Machine → Step
returns_by q v [] left = Astray
returns_by q v (caller ∷ callers) left = given_back q v caller callers left

abbrev pub next_by : PlacedProgram → Machine → List WebOp → Step
next_by q m [] = ends q m.frame.end m
next_by q m (o ∷ ops) = does q o (record m { frame = record m.frame { ops = ops } })

abbrev pub begun_at : PlacedProgram → List ℕ → Located → WebBlock → Machine
begun_at q input f b = record {
  frame = record {
    function = f;
    block = 0;
    ops = b.ops;
    end = b.end;
    temps = replicate f.body.temps Undefined;
    base = length (start_objects q.flow);
    result = None;
    saved = map (λ r. (r, Undefined)) f.saved;
    before = kept (λ r. Undefined);
  };
  callers = [];
  registers = λ r. Undefined;
  objects = with_slots f.body.slots (start_objects q.flow);
  rest = input;
  read = 0;
  out = [];
  events = 0;
  trace = Called start_name (globals_now q (λ r. Undefined) [] (start_objects q.flow)) (kept (λ r. Undefined)) ∷ [];
}

abbrev pub starts_at_by : PlacedProgram → List ℕ → Located → Option WebBlock → Step
starts_at_by q input f None = Astray
starts_at_by q input f (Some b) = enters_webs q (entered_webs f) (begun_at q input f b)

abbrev pub starts_by : PlacedProgram → List ℕ → Option Located → Step
starts_by q input (Some f) = starts_at_by q input f (first_block f)
starts_by q input None = Astray
