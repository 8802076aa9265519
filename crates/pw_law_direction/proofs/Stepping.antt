-- Without directives the run makes each step that the flow run makes.
use Rattle.std.proofs.Common.{◌≡◌, ◌≢◌, ℕ, zero, suc, ◌+◌, ◌-◌, ◌%◌, ◌^◌, ◌≤◌, ◌==◌, ◌||◌, nat_lt, Bool, true, false, not, cond, if◌then◌else◌, List, [], ◌∷◌, ◌++◌, length, map, replicate, refl, sym, ap, subst, ◌∙◌, arith, inl, inr}
use Rattle.std.specs.Prelude.{Option, Some, None, option_map, find, slice_get, slice_index_or}
use Rattle.std.specs.List.{AllByRecursion, flat_map, list_any}
use Rattle.std.specs.Str.{bytes_eq}
use Rattle.std.proofs.lemmas.Bool.{eqb-true}
use Rattle.std.proofs.lemmas.Option.{slice_get-map, same_Some}
use Rattle.std.proofs.lemmas.Slice.Eq.{bytes_eq-Decides}
use Rattle.pw_value.specs.declared.value.Byte.{Byte}
use Rattle.pw_value.specs.declared.value.Value.{Value}
use Rattle.pw_value.specs.declared.value.Value.TheVariants.{Undefined, Num, Null, At, Piece}
use Rattle.pw_value.specs.declared.value.Pointer.TheVariants as P
use Rattle.pw_value.specs.Objects.{Object}
use Rattle.pw_value.specs.ProgramNames.{IsOrdinary, start_name, exit_name, getchar_name, putchar_name}
use Rattle.pw_files.proofs.ByteOrder.{differ}
use Rattle.pw_files.proofs.Standing.{Has, contains_by, has_each, has_flat, has_flat_back, has_left, has_right, has_split}
use Rattle.pw_flow.specs.declared.flow.FlowFn.{FlowFn}
use Rattle.pw_flow.specs.declared.flow.FlowModule.{FlowModule}
use Rattle.pw_flow.specs.declared.flow.Op.{Op}
use Rattle.pw_flow.specs.declared.flow.Op.TheVariants as op
use Rattle.pw_flow.specs.declared.flow.Block.{Block}
use Rattle.pw_flow.specs.declared.flow.End.{End}
use Rattle.pw_flow.specs.declared.flow.End.TheVariants.{Jump, Branch, Return}
use Rattle.pw_flow.specs.FlowGraph.{op_names, names_in_global, names_in_block, names_in_function, named_in}
use Rattle.pw_flow.specs.ValidFlow.{IsValid, IsFunction}
use Rattle.pw_run.specs.Runs as run
use Rattle.pw_run.specs.Runs.{none, also}
use Rattle.pw_run_languages.specs.Traces.{Standing, Event, Called, Refused, Returned, Loaded, Stored, is_of_source, calls_alone, calls_of, shown_by}
use Rattle.pw_webflow.specs.declared.web.WebOp.{WebOp}
use Rattle.pw_webflow.specs.declared.web.WebBlock.{WebBlock}
use Rattle.pw_webflow.specs.Direction.{directed, directed_op, directed_block}
use Rattle.pw_alloc.specs.declared.located.Located.{Located}
use Rattle.pw_run_languages.specs.Values.{unary, extension, binary, is_somewhere}
use Rattle.pw_run_languages.specs.Memory.{look, poke, copy}
use Rattle.pw_run_languages.specs.Programs.{Program, Library, GetChar, PutChar, Exit, library_at, functions_of, globals_of, function_at, shape_of, global_number, block_at, start_objects, function_named as flow_named}
use Rattle.pw_run_languages.specs.Commands as command
use Rattle.pw_run_languages.specs.Commands.{command as command_of}
use Rattle.pw_run_languages.specs.FlowRun as flow
use Rattle.pw_run_languages.specs.FlowRun.{step as flow_step, steps as flow_steps, flow_run}
use Rattle.pw_run_languages.specs.LawfulPrograms.{IsProgram, ops_of, addressed, taken_names, eligible_names}
use Rattle.pw_run_languages.specs.Direction.{MomentAlike, web_run}
use Rattle.pw_run_languages.specs.PlacedRun.{PlacedProgram, Frame, Machine, Step, On, Stopped, Astray, gives, takes_result, counted, noted, noted_if, kept, globals_now, is_eligible, is_reserved, changes, exceeds, library_call, without_scratch, gives_back, calls_library, entered_webs, and_then, with_registers, with_parameters, entered, first_block, begins, calls_defined, calls, jumps, branches, given_back, returns, ends, obeys, does, step, steps, start, staged, placed_run, enters_webs}
use Rattle.pw_law_direction.specs.Values.{IsTaken, FineValue, AreFine}
use Rattle.pw_law_direction.proofs.Likeness.{run_of, web_fn, Extra, Beside, web_frame, web_frames, web_of, Alike, SameEnd, op_is, named_like, depth_like, globals_stand, set_temps, params_at}

-- ---- what a state keeps

-- the operations that are left are of the function, which is the program's
pub record IsOwn (p : Program) (f : flow.Frame) : Type 0 where
  pub among : Has f.function (functions_of p)
  pub ops : (o : Op) → Has o f.ops → Has o (ops_of f.function)

-- functions that were called are of the source
abbrev pub AreSources : flow.Frame → List flow.Frame → Type 0
AreSources f [] = Unit {0}
AreSources f (g ∷ fs) = (is_of_source f.function.name ≡ true) × AreSources g fs

pub record Kept (p : Program) (m : flow.Machine) (x : Beside) : Type 0 where
  pub log : Alike p m.moments x.trace
  pub own : IsOwn p m.frame
  pub others : AllByRecursion (IsOwn p) m.callers
  pub sources : AreSources m.frame m.callers

abbrev pub StepLike : Program → flow.Step → Step → Type 0
StepLike p (flow.On m) t = (x : Beside) × (t ≡ On (web_of m x)) × Kept p m x
StepLike p (flow.Stopped end m) t = (n : Machine) × (t ≡ Stopped end n) × SameEnd p m n
StepLike p flow.Astray t = Unit {0}

either_like : (p : Program) (b : Bool) (s u : flow.Step) (t v : Step) → StepLike p s t → StepLike p u v → StepLike p (if b then s else u) (if b then t else v)
either_like p true s u t v h k = h
either_like p false s u t v h k = k

abbrev noted_l : Bool → Event Byte Value → List (Event Byte Value) → List (Event Byte Value)
noted_l true e l = e ∷ l
noted_l false e l = l

-- what is noted besides calls of the source's functions
abbrev beside : Beside → List (Event Byte Value) → Beside
beside x l = record x { trace = l }

note_is : (b : Bool) (e : Event Byte Value) (m : flow.Machine) (x : Beside) → noted_if b e (web_of m x) ≡ web_of m (beside x (noted_l b e x.trace))
note_is true e m x = refl
note_is false e m x = refl

alone_loaded : (b : Bool) (v : List ℕ) (l : List (Event Byte Value)) → calls_alone (noted_l b (Loaded v) l) ≡ calls_alone l
alone_loaded true v l = refl
alone_loaded false v l = refl

alone_stored : (b : Bool) (v : List ℕ) (l : List (Event Byte Value)) → calls_alone (noted_l b (Stored v) l) ≡ calls_alone l
alone_stored true v l = refl
alone_stored false v l = refl

takes_is : (t : Option ℕ) (v : Value) (m : flow.Machine) (x : Beside) → takes_result t v (web_of m x) ≡ web_of (flow.takes_result t v m) x
takes_is None v m x = refl
takes_is (Some t) v m x = refl

takes_counted : (t : Option ℕ) (v : Value) (m : flow.Machine) (x : Beside) → takes_result t v (web_of (flow.counted m) x) ≡ web_of (flow.counted (flow.takes_result t v m)) x
takes_counted None v m x = refl
takes_counted (Some t) v m x = refl

taken_kept : (p : Program) (t : Option ℕ) (v : Value) (m : flow.Machine) (x : Beside) → Kept p m x → Kept p (flow.takes_result t v m) x
taken_kept p None v m x k = k
taken_kept p (Some t) v m x k = record { log = k.log; own = record { among = k.own.among; ops = k.own.ops }; others = k.others; sources = sources_by m.callers k.sources } where
  sources_by : (fs : List flow.Frame) → AreSources m.frame fs → AreSources (flow.with_temp t v m).frame fs
  sources_by [] s = tt
  sources_by (f ∷ fs) s = s

temp_kept : (p : Program) (t : ℕ) (v : Value) (m : flow.Machine) (x : Beside) → Kept p m x → Kept p (flow.with_temp t v m) x
temp_kept p t v m x k = taken_kept p (Some t) v m x k

gives_like : (p : Program) (t : ℕ) (v : Option Value) (m : flow.Machine) (x : Beside) → Kept p m x → StepLike p (flow.gives t v m) (gives t v (web_of m x))
gives_like p t (Some v) m x k = (x, refl, temp_kept p t v m x k)
gives_like p t None m x k = tt

-- the same with other notes
told : (p : Program) (m : flow.Machine) (x y : Beside) → calls_alone y.trace ≡ calls_alone x.trace → Kept p m x → Kept p m y
told p m x y e k = record { log = subst (λ (l : List (Event Byte Value)). run.AreAlike (MomentAlike p) m.moments l) (sym e) k.log; own = k.own; others = k.others; sources = k.sources }

objects_kept : (p : Program) (objects : List Object) (m : flow.Machine) (x : Beside) → Kept p m x → Kept p (record m { objects = objects }) x
objects_kept p objects m x k = record { log = k.log; own = k.own; others = k.others; sources = k.sources }

changes_like : (p : Program) (objects : Option (List Object)) (m : flow.Machine) (x : Beside) → Kept p m x → StepLike p (flow.changes objects m) (changes objects (web_of m x))
changes_like p (Some objects) m x k = (x, refl, objects_kept p objects m x k)
changes_like p None m x k = tt

loads_by : (p : Program) (b : Bool) (t : ℕ) (g : List ℕ) (v : Option Value) (m : flow.Machine) (x : Beside) → Kept p m x → StepLike p (flow.gives t v m) (gives t v (noted_if b (Loaded g) (web_of m x)))
loads_by p b t g v m x k =
    subst (λ (n : Machine). StepLike p (flow.gives t v m) (gives t v n)) (sym (note_is b (Loaded g) m x))
    (gives_like p t v m (beside x (noted_l b (Loaded g) x.trace)) (told p m x (beside x (noted_l b (Loaded g) x.trace)) (alone_loaded b g x.trace) k))

abbrev stored_by : PlacedProgram → List ℕ → Machine → Option (List Object) → Step
stored_by q g n (Some objects) = On (noted_if (is_eligible q g) (Stored g) (record n { objects = objects }))
stored_by q g n None = Astray

stores_by : (p : Program) (g : List ℕ) (objects : Option (List Object)) (m : flow.Machine) (x : Beside) → Kept p m x → StepLike p (flow.changes objects m) (stored_by (run_of p) g (web_of m x) objects)
stores_by p g (Some objects) m x k =
    let b = is_eligible (run_of p) g in
    let n = record m { objects = objects } in
    (beside x (noted_l b (Stored g) x.trace), ap (λ (w : Machine). On w) (note_is b (Stored g) n x), told p n x (beside x (noted_l b (Stored g) x.trace)) (alone_stored b g x.trace) (objects_kept p objects m x k))
stores_by p g None m x k = tt

-- ---- calls of the library

-- the machine after other input and output
abbrev with_io : List ℕ → List ℕ → ℕ → flow.Machine → flow.Machine
with_io rest out read m = record m { rest = rest; out = out; read = read }

io_kept : (p : Program) (rest out : List ℕ) (read : ℕ) (m : flow.Machine) (x : Beside) → Kept p m x → Kept p (flow.counted (with_io rest out read m)) x
io_kept p rest out read m x k = record { log = k.log; own = k.own; others = k.others; sources = k.sources }

abbrev returned_beside : (p : Program) (h : List ℕ) (m : flow.Machine) (x : Beside) → Beside
returned_beside p h m x = record x {
  registers = without_scratch x.registers;
  trace = Returned h 0 (globals_now (run_of p) (without_scratch x.registers) (web_frame m.frame x.own ∷ web_frames m.callers x.others) m.objects) (kept (without_scratch x.registers)) (kept (without_scratch x.registers))
      ∷ Called h (globals_now (run_of p) x.registers (web_frame m.frame x.own ∷ web_frames m.callers x.others) m.objects) (kept x.registers)
      ∷ x.trace;
}

library_alone : (h : List ℕ) (gs hs : List (Standing Byte Value)) (rs ss : List Value) (l : List (Event Byte Value)) → is_of_source h ≡ false → calls_alone (Returned h 0 hs ss ss ∷ Called h gs rs ∷ l) ≡ calls_alone l
library_alone h gs hs rs ss l e = twice (is_of_source h) e where
  twice : (b : Bool) → b ≡ false → (if b then Returned h 0 hs ss ss ∷ (if b then Called h gs rs ∷ calls_alone l else calls_alone l) else (if b then Called h gs rs ∷ calls_alone l else calls_alone l)) ≡ calls_alone l
  twice true e = absurd cc
  twice false e = refl

back_like : (p : Program) (h : List ℕ) (t : Option ℕ) (v : Value) (rest out : List ℕ) (read : ℕ) (m : flow.Machine) (x : Beside) → is_of_source h ≡ false → Kept p m x
    → StepLike p (flow.On (flow.counted (flow.takes_result t v (with_io rest out read m)))) (gives_back (run_of p) h t v (record (library_call (run_of p) h (web_of m x)) { rest = rest; out = out; read = read }))
back_like p h t v rest out read m x e k =
    let y = returned_beside p h m x in
    let n = with_io rest out read m in
    let alone = library_alone h (globals_now (run_of p) x.registers (web_frame m.frame x.own ∷ web_frames m.callers x.others) m.objects)
    (globals_now (run_of p) (without_scratch x.registers) (web_frame m.frame x.own ∷ web_frames m.callers x.others) m.objects) (kept x.registers) (kept (without_scratch x.registers)) x.trace e in
    (y, ap (λ (w : Machine). On w) (takes_counted t v n y), counted_kept t (told p (flow.counted n) x y alone (io_kept p rest out read m x k)))
  where
    counted_kept : (t : Option ℕ) {y : Beside} → Kept p (flow.counted (with_io rest out read m)) y → Kept p (flow.counted (flow.takes_result t v (with_io rest out read m))) y
    counted_kept None k = k
    counted_kept (Some t) {y} k = let r = taken_kept p (Some t) v (flow.counted (with_io rest out read m)) y k in record { log = r.log; own = r.own; others = r.others; sources = r.sources }

abbrev flow_reads : Option ℕ → flow.Machine → List ℕ → flow.Step
flow_reads t m [] = flow.On (flow.counted (flow.takes_result t (Num (2 ^ 32 - 1)) m))
flow_reads t m (byte ∷ rest) = flow.On (flow.counted (flow.takes_result t (Num byte) (record m { rest = rest; read = m.read + 1 })))

abbrev web_reads : PlacedProgram → Option ℕ → Machine → List ℕ → Step
web_reads q t m [] = gives_back q getchar_name t (Num (2 ^ 32 - 1)) (library_call q getchar_name m)
web_reads q t m (byte ∷ rest) = gives_back q getchar_name t (Num byte) (record (library_call q getchar_name m) { rest = rest; read = m.read + 1 })

reads_like : (p : Program) (t : Option ℕ) (m : flow.Machine) (x : Beside) (rest : List ℕ) → rest ≡ m.rest → Kept p m x → StepLike p (flow_reads t m rest) (web_reads (run_of p) t (web_of m x) rest)
reads_like p t m x [] e k = back_like p getchar_name t (Num (2 ^ 32 - 1)) m.rest m.out m.read m x refl k
reads_like p t m x (byte ∷ rest) e k = back_like p getchar_name t (Num byte) rest m.out (m.read + 1) m x refl k

library_like : (p : Program) (g : Library) (t : Option ℕ) (args : List Value) (m : flow.Machine) (x : Beside) → Kept p m x → StepLike p (flow.calls_library g t args m) (calls_library (run_of p) g t args (web_of m x))
library_like p GetChar t [] m x k = reads_like p t m x m.rest refl k
library_like p PutChar t (Num n ∷ []) m x k = back_like p putchar_name t (Num (n % 256)) m.rest (m.out ++ n % 256 ∷ []) m.read m x refl k
library_like p Exit t (Num n ∷ []) m x k = (library_call (run_of p) exit_name (web_of m x), refl, record { out = refl; read = refl; events = refl; log = k.log })
library_like p _ t _ m x k = tt

-- ---- calls of functions that a module defines

source_by : (a b c d : Bool) → a ≡ false → ◌≡◌ {A = Option Library} (if c then Some GetChar else if d then Some PutChar else if b then Some Exit else None) None → not (a || (b || (c || (d || false)))) ≡ true
source_by true b c d e f = absurd cc
source_by false b true d e f = absurd cc
source_by false b false true e f = absurd cc
source_by false true false false e f = absurd cc
source_by false false false false e f = refl

source_name : (f : List ℕ) → library_at f ≡ None → f ≢ start_name → is_of_source f ≡ true
source_name f e apart = source_by (bytes_eq f start_name) (bytes_eq f exit_name) (bytes_eq f getchar_name) (bytes_eq f putchar_name) (differ f start_name apart) e

get_has : {X : Type 0} (xs : List X) (i : ℕ) (x : X) → slice_get xs i ≡ Some x → Has x xs
get_has [] i x e = absurd cc
get_has (y ∷ ys) zero x e = inl (same_Some y x e)
get_has (y ∷ ys) (suc i) x e = inr (get_has ys i x e)

block_has : (fn : FlowFn) (i : ℕ) (b : Block) → slice_get fn.blocks i ≡ Some b → (o : Op) → Has o b.ops → Has o (ops_of fn)
block_has fn i b e o h = has_flat (λ (c : Block). c.ops) b o fn.blocks (get_has fn.blocks i b e) h

function_lawful : (p : Program) → IsProgram p → (fn : FlowFn) → Has fn (functions_of p) → IsFunction fn
function_lawful p ok fn among =
    let m = has_flat_back (λ (m : FlowModule). m.functions) fn p.modules among in
    let valid = has_each IsValid p.modules m.0 ok.modules m.1 in
    has_each IsFunction m.0.functions fn valid.parts.functions m.2

abbrev flow_begins : FlowFn → Option ℕ → List Value → flow.Machine → Option Block → flow.Step
flow_begins fn t args m (Some b) = if length args == fn.params then flow.On (flow.counted (flow.entered fn b t args m)) else flow.Astray
flow_begins fn t args m None = flow.Astray

-- what a called function has besides
abbrev called_beside : Program → FlowFn → flow.Machine → Beside → Beside
called_beside p fn m x = record {
  own = record { saved = map (λ r. (r, x.registers r)) (web_fn fn).saved; before = kept x.registers };
  others = x.own ∷ x.others;
  registers = x.registers;
  trace = Called fn.name (globals_now (run_of p) x.registers (web_frame m.frame x.own ∷ web_frames m.callers x.others) m.objects) (kept x.registers) ∷ x.trace;
}

alone_called : (p : Program) (ms : List flow.Moment) (m : flow.Moment) (b : Bool) (e : Event Byte Value) (l : List (Event Byte Value)) → b ≡ true → MomentAlike p m e → run.AreAlike (MomentAlike p) ms l → run.AreAlike (MomentAlike p) (m ∷ ms) (if b then e ∷ l else l)
alone_called p ms m true e l on alike all = also m e ms l alike all
alone_called p ms m false e l on alike all = absurd cc

begins_like : (p : Program) → IsProgram p → (fn : FlowFn) (t : Option ℕ) (args : List Value) (m : flow.Machine) (x : Beside) (b : Option Block) → Has fn (functions_of p) → slice_get fn.blocks 0 ≡ b → is_of_source fn.name ≡ true → Kept p m x
    → StepLike p (flow_begins fn t args m b) (begins (run_of p) (web_fn fn) (option_map (directed_block []) b) t args
    (counted (noted (Called fn.name (globals_now (run_of p) x.registers (web_frame m.frame x.own ∷ web_frames m.callers x.others) m.objects) (kept x.registers)) (web_of m x))))
unfolding directed
begins_like p ok fn t args m x None among at source k = tt
begins_like p ok fn t args m x (Some b) among at source k = by_count (length args == fn.params) refl where
  gs : List (Standing Byte Value)
  gs = globals_now (run_of p) x.registers (web_frame m.frame x.own ∷ web_frames m.callers x.others) m.objects

  after : flow.Machine
  after = flow.counted (flow.entered fn b t args m)

  begun : Machine
  begun = entered (web_fn fn) (directed_block [] b) t (counted (noted (Called fn.name (globals_now (run_of p) x.registers (web_frame m.frame x.own ∷ web_frames m.callers x.others) m.objects) (kept x.registers)) (web_of m x)))

  by_count : (c : Bool) → (length args == fn.params) ≡ c
      → StepLike p (if c then flow.On (flow.counted (flow.entered fn b t args m)) else flow.Astray)
      (if c then On (with_parameters 0 args (entered (web_fn fn) (directed_block [] b) t
      (counted (noted (Called fn.name (globals_now (run_of p) x.registers (web_frame m.frame x.own ∷ web_frames m.callers x.others) m.objects) (kept x.registers)) (web_of m x))))) else Astray)
  by_count true e =
      let few = (function_lawful p ok fn among).few in
      let count : length args ≡ fn.params = eqb-true (length args) fn.params e in
      let le : length args ≤ fn.temps = omega (arith, count, few.params) in (
        called_beside p fn m x,
        ap (λ (w : Machine). On w) (params_at args [] fn.temps (flow.counted (flow.entered fn b t args m)) (called_beside p fn m x) le),
        record {
          log = alone_called p m.moments (flow.Called fn.name m.objects) (is_of_source fn.name) (Called fn.name (globals_now (run_of p) x.registers (web_frame m.frame x.own ∷ web_frames m.callers x.others) m.objects) (kept x.registers)) (calls_alone x.trace) source
              (refl, globals_stand p x.registers (m.frame ∷ m.callers) (x.own ∷ x.others) m.objects) k.log;
          own = record { among = among; ops = block_has fn 0 b at };
          others = (k.own, k.others);
          sources = (source, k.sources);
        },
      )
  by_count false e = tt

defined_like : (p : Program) → IsProgram p → (fn : FlowFn) (t : Option ℕ) (args : List Value) (m : flow.Machine) (x : Beside) → Has fn (functions_of p) → is_of_source fn.name ≡ true → Kept p m x → StepLike p (flow.calls_defined p fn t args m) (calls_defined (run_of p) (web_fn fn) t args (web_of m x))
unfolding directed
defined_like p ok fn t args m x among source k =
    let gs = globals_now (run_of p) x.registers (web_frame m.frame x.own ∷ web_frames m.callers x.others) m.objects in
    let n = counted (noted (Called fn.name gs (kept x.registers)) (web_of m x)) in
    subst (λ (depth : ℕ). StepLike p (flow.calls_defined p fn t args m) (if nat_lt p.stack (p.frame_of fn.name + depth) then Stopped run.StackFull (noted (Refused fn.name) (web_of m x)) else begins (run_of p) (web_fn fn) (first_block (web_fn fn)) t args n)) (sym (depth_like p m x))
    (either_like p (nat_lt p.stack (p.frame_of fn.name + flow.depth p m)) (flow.Stopped run.StackFull m) (flow_begins fn t args m (block_at fn 0))
    (Stopped run.StackFull (noted (Refused fn.name) (web_of m x))) (begins (run_of p) (web_fn fn) (first_block (web_fn fn)) t args n)
    (noted (Refused fn.name) (web_of m x), refl, record { out = refl; read = refl; events = refl; log = k.log })
    (subst (λ (b : Option WebBlock). StepLike p (flow_begins fn t args m (block_at fn 0)) (begins (run_of p) (web_fn fn) b t args n)) (sym (slice_get-map (directed_block []) fn.blocks 0))
    (begins_like p ok fn t args m x (slice_get fn.blocks 0) among refl source k)))

abbrev flow_calls_by : Program → Option ℕ → List ℕ → List Value → flow.Machine → Option Library → Option FlowFn → flow.Step
flow_calls_by p t f args m (Some g) defined = if nat_lt p.stack (p.frame_of f + flow.depth p m) then flow.Stopped run.StackFull m else flow.calls_library g t args m
flow_calls_by p t f args m None (Some defined) = flow.calls_defined p defined t args m
flow_calls_by p t f args m None None = flow.Astray

abbrev web_calls_by : PlacedProgram → Option ℕ → List ℕ → List Value → Machine → Option Library → Option Located → Step
web_calls_by q t f args n (Some g) defined = if exceeds q f (n.frame ∷ n.callers) then Stopped run.StackFull (noted (Refused f) n) else calls_library q g t args n
web_calls_by q t f args n None (Some defined) = calls_defined q defined t args n
web_calls_by q t f args n None None = Astray

found_by : {X : Type 0} (test : X → Bool) (b : Bool) (x y : X) (ys : List X) → test y ≡ b → (find test ys ≡ Some x → Has x ys × (test x ≡ true)) → cond b (Some y) (find test ys) ≡ Some x → Has x (y ∷ ys) × (test x ≡ true)
found_by test true x y ys e f g = let same : y ≡ x = same_Some y x g in (inl same, ap test (sym same) ∙ e)
found_by test false x y ys e f g = let r = f g in (inr r.0, r.1)

found : {X : Type 0} (test : X → Bool) (xs : List X) (x : X) → find test xs ≡ Some x → Has x xs × (test x ≡ true)
found test [] x e = absurd cc
found test (y ∷ ys) x e = found_by test (test y) x y ys refl (found test ys x) e

calls_by_like : (p : Program) → IsProgram p → (t : Option ℕ) (f : List ℕ) (args : List Value) (m : flow.Machine) (x : Beside) (g : Option Library) (fn : Option FlowFn) → library_at f ≡ g → flow_named p f ≡ fn → f ≢ start_name → Kept p m x
    → StepLike p (flow_calls_by p t f args m g fn) (web_calls_by (run_of p) t f args (web_of m x) g (option_map web_fn fn))
calls_by_like p ok t f args m x (Some g) fn e h apart k =
    subst (λ (depth : ℕ). StepLike p (if nat_lt p.stack (p.frame_of f + flow.depth p m) then flow.Stopped run.StackFull m else flow.calls_library g t args m)
    (if nat_lt p.stack (p.frame_of f + depth) then Stopped run.StackFull (noted (Refused f) (web_of m x)) else calls_library (run_of p) g t args (web_of m x))) (sym (depth_like p m x))
    (either_like p (nat_lt p.stack (p.frame_of f + flow.depth p m)) (flow.Stopped run.StackFull m) (flow.calls_library g t args m) (Stopped run.StackFull (noted (Refused f) (web_of m x))) (calls_library (run_of p) g t args (web_of m x))
    (noted (Refused f) (web_of m x), refl, record { out = refl; read = refl; events = refl; log = k.log })
    (library_like p g t args m x k))
calls_by_like p ok t f args m x None (Some fn) e h apart k =
    let r = found (λ (c : FlowFn). bytes_eq c.name f) (functions_of p) fn h in
    let name : fn.name ≡ f = (bytes_eq-Decides fn.name f).0 r.1 in
    defined_like p ok fn t args m x r.0 (subst (λ (n : List ℕ). is_of_source n ≡ true) (sym name) (source_name f e apart)) k
calls_by_like p ok t f args m x None None e h apart k = tt

calls_like : (p : Program) → IsProgram p → (t : Option ℕ) (f : List ℕ) (args : List Value) (m : flow.Machine) (x : Beside) → f ≢ start_name → Kept p m x → StepLike p (flow.calls p t f args m) (calls (run_of p) t f args (web_of m x))
calls_like p ok t f args m x apart k =
    subst (λ (l : Option Located). StepLike p (flow.calls p t f args m) (web_calls_by (run_of p) t f args (web_of m x) (library_at f) l)) (sym (named_like p f))
    (calls_by_like p ok t f args m x (library_at f) (flow_named p f) refl refl apart k)

-- ---- ends of blocks

abbrev flow_goes : ℕ → flow.Machine → Block → flow.Machine
flow_goes b m next = record m { frame = record m.frame { block = b; ops = next.ops; end = next.end } }

abbrev flow_to_block : ℕ → flow.Machine → Option Block → flow.Step
flow_to_block b m (Some next) = flow.On (if b == m.frame.block + 1 then flow_goes b m next else flow.counted (flow_goes b m next))
flow_to_block b m None = flow.Astray

abbrev web_goes : ℕ → Machine → WebBlock → Machine
web_goes b n next = record n { frame = record n.frame { block = b; ops = next.ops; end = next.end } }

abbrev web_to_block : ℕ → Machine → Option WebBlock → Step
web_to_block b n (Some next) = On (if b == n.frame.block + 1 then web_goes b n next else counted (web_goes b n next))
web_to_block b n None = Astray

goes_kept : (p : Program) (b : ℕ) (m : flow.Machine) (x : Beside) (next : Block) → slice_get m.frame.function.blocks b ≡ Some next → Kept p m x → Kept p (flow_goes b m next) x
goes_kept p b m x next at k = record { log = k.log; own = record { among = k.own.among; ops = block_has m.frame.function b next at }; others = k.others; sources = sources_by m.callers k.sources } where
  sources_by : (fs : List flow.Frame) → AreSources m.frame fs → AreSources (flow_goes b m next).frame fs
  sources_by [] s = tt
  sources_by (f ∷ fs) s = s

to_block_like : (p : Program) (b : ℕ) (m : flow.Machine) (x : Beside) (next : Option Block) → slice_get m.frame.function.blocks b ≡ next → Kept p m x → StepLike p (flow_to_block b m next) (web_to_block b (web_of m x) (option_map (directed_block []) next))
to_block_like p b m x (Some next) at k = by_place (b == m.frame.block + 1) where
  by_place : (c : Bool) → StepLike p (flow.On (if c then flow_goes b m next else flow.counted (flow_goes b m next))) (On (if c then web_goes b (web_of m x) (directed_block [] next) else counted (web_goes b (web_of m x) (directed_block [] next))))
  by_place true = (x, refl, goes_kept p b m x next at k)
  by_place false = let r = goes_kept p b m x next at k in (x, refl, record { log = r.log; own = r.own; others = r.others; sources = r.sources })
to_block_like p b m x None at k = tt

jumps_like : (p : Program) (b : ℕ) (m : flow.Machine) (x : Beside) → Kept p m x → StepLike p (flow.jumps b m) (jumps b (web_of m x))
unfolding directed
jumps_like p b m x k =
    subst (λ (next : Option WebBlock). StepLike p (flow.jumps b m) (web_to_block b (web_of m x) next)) (sym (slice_get-map (directed_block []) m.frame.function.blocks b))
    (to_block_like p b m x (slice_get m.frame.function.blocks b) refl k)

branches_like : (p : Program) (v : Value) (b c : ℕ) (m : flow.Machine) (x : Beside) → Kept p m x → StepLike p (flow.branches v b c m) (branches v b c (web_of m x))
branches_like p (Num zero) b c m x k = jumps_like p c m x k
branches_like p (Num (suc n)) b c m x k = jumps_like p b m x k
branches_like p (At a) b c m x k = either_like p (is_somewhere m.objects a) (flow.jumps b m) flow.Astray (jumps b (web_of m x)) Astray (jumps_like p b m x k) tt
branches_like p Undefined b c m x k = tt
branches_like p Null b c m x k = tt
branches_like p (Piece a i) b c m x k = tt

-- ---- returns

abbrev flow_left : flow.Machine → List Object
flow_left m = flow.end_from (length m.objects - m.frame.base) m.frame.base m.objects

abbrev flow_returns_by : flow.Machine → Value → List flow.Frame → flow.Step
flow_returns_by m v [] = flow.Astray
flow_returns_by m v (caller ∷ callers) = flow.On (flow.takes_result m.frame.result v (record m { frame = caller; callers = callers; objects = flow_left m; moments = flow.Returned m.frame.function.name (flow_left m) ∷ m.moments }))

abbrev web_returns_by : PlacedProgram → Value → List Frame → Machine → Step
web_returns_by q v [] left = Astray
web_returns_by q v (caller ∷ callers) left = given_back q v caller callers left

abbrev left_beside : Program → flow.Machine → flow.Frame → List flow.Frame → Extra → List Extra → Beside → Beside
left_beside p m c cs e es x = record {
  own = e;
  others = es;
  registers = without_scratch (with_registers x.own.saved x.registers);
  trace = Returned m.frame.function.name 0 (globals_now (run_of p) (without_scratch (with_registers x.own.saved x.registers)) (web_frame c e ∷ web_frames cs es) (flow_left m)) x.own.before
      (kept (without_scratch (with_registers x.own.saved x.registers)))
      ∷ x.trace;
}

given_like : (p : Program) (v : Value) (m : flow.Machine) (x : Beside) (c : flow.Frame) (cs : List flow.Frame) (e : Extra) (es : List Extra) → Alike p m.moments x.trace → is_of_source m.frame.function.name ≡ true → IsOwn p c → AllByRecursion (IsOwn p) cs → AreSources c cs
    → StepLike p (flow_returns_by m v (c ∷ cs)) (given_back (run_of p) v (web_frame c e) (web_frames cs es) (web_of m x))
unfolding directed
given_like p v m x c cs e es log source own others sources =
    let y = left_beside p m c cs e es x in
    let n = record m { frame = c; callers = cs; objects = flow_left m; moments = flow.Returned m.frame.function.name (flow_left m) ∷ m.moments } in
    let regs = without_scratch (with_registers x.own.saved x.registers) in
    let event = Returned m.frame.function.name 0 (globals_now (run_of p) regs (web_frame c e ∷ web_frames cs es) (flow_left m)) x.own.before (kept regs) in
    let kept_now : Kept p n y = record {
      log = alone_called p m.moments (flow.Returned m.frame.function.name (flow_left m)) (is_of_source m.frame.function.name) event (calls_alone x.trace) source (refl, refl, globals_stand p regs (c ∷ cs) (e ∷ es) (flow_left m)) log;
      own = own;
      others = others;
      sources = sources;
    } in
    (y, ap (λ (w : Machine). On w) (takes_is m.frame.result v n y), taken_kept p m.frame.result v n y kept_now)

returns_by_like : (p : Program) (v : Value) (m : flow.Machine) (x : Beside) (fs : List flow.Frame) (es : List Extra) → Alike p m.moments x.trace → AllByRecursion (IsOwn p) fs → AreSources m.frame fs
    → StepLike p (flow_returns_by m v fs) (web_returns_by (run_of p) v (web_frames fs es) (web_of m x))
returns_by_like p v m x [] es log others sources = tt
returns_by_like p v m x (c ∷ cs) [] log others sources = given_like p v m x c cs (record { saved = []; before = [] }) [] log sources.0 others.0 others.1 sources.1
returns_by_like p v m x (c ∷ cs) (e ∷ es) log others sources = given_like p v m x c cs e es log sources.0 others.0 others.1 sources.1

abbrev flow_result : flow.Machine → Option ℕ → Value
flow_result m (Some t) = flow.value_in m.frame t
flow_result m None = Undefined

returns_like : (p : Program) (t : Option ℕ) (m : flow.Machine) (x : Beside) → Kept p m x → StepLike p (flow.returns t m) (returns (run_of p) t (web_of m x))
unfolding directed
returns_like p (Some t) m x k = returns_by_like p (flow_result m (Some t)) m x m.callers x.others k.log k.others k.sources
returns_like p None m x k = returns_by_like p Undefined m x m.callers x.others k.log k.others k.sources

ends_like : (p : Program) (end : End) (m : flow.Machine) (x : Beside) → Kept p m x → StepLike p (flow.ends end m) (ends (run_of p) end (web_of m x))
ends_like p (Jump b) m x k = jumps_like p b m x k
ends_like p (Branch a b c) m x k = branches_like p (flow.value_in m.frame a) b c m x k
ends_like p (Return t) m x k = returns_like p t m x k

-- ---- commands

abbrev IsFit : Program → command.Command → Type 0
IsFit p (command.Look k t a) = is_reserved (run_of p) a ≡ false
IsFit p (command.Poke k a v) = is_reserved (run_of p) a ≡ false
IsFit p (command.Copied to from size unit) = (is_reserved (run_of p) to || is_reserved (run_of p) from) ≡ false
IsFit p (command.Enter t f args) = f ≢ start_name
IsFit p _ = Unit {0}

unreserved : (p : Program) (b : Bool) (s : flow.Step) (t : Step) → b ≡ false → StepLike p s t → StepLike p s (if b then Astray else t)
unreserved p true s t e h = absurd cc
unreserved p false s t e h = h

obeys_like : (p : Program) → IsProgram p → (c : command.Command) (m : flow.Machine) (x : Beside) → IsFit p c → Kept p m x → StepLike p (flow.obeys p c m) (obeys (run_of p) c (web_of m x))
obeys_like p ok (command.Give t v) m x fit k = (x, refl, temp_kept p t v m x k)
obeys_like p ok (command.Combine kind t v w) m x fit k = gives_like p t (binary m.objects kind v w) m x k
obeys_like p ok (command.Look kind t a) m x fit k = unreserved p (is_reserved (run_of p) a) (flow.gives t (look kind a m.objects) m) (gives t (look kind a m.objects) (web_of m x)) fit (gives_like p t (look kind a m.objects) m x k)
obeys_like p ok (command.Poke kind a v) m x fit k = unreserved p (is_reserved (run_of p) a) (flow.changes (poke kind a v m.objects) m) (changes (poke kind a v m.objects) (web_of m x)) fit (changes_like p (poke kind a v m.objects) m x k)
obeys_like p ok (command.Copied to from size unit) m x fit k =
    unreserved p (is_reserved (run_of p) to || is_reserved (run_of p) from) (flow.changes (copy to from size unit m.objects) m) (changes (copy to from size unit m.objects) (web_of m x)) fit
    (changes_like p (copy to from size unit m.objects) m x k)
obeys_like p ok (command.GetGlobal t g kind) m x fit k = loads_by p (is_eligible (run_of p) g) t g (flow.get_global p g kind m.objects) m x k
obeys_like p ok (command.PutGlobal g kind v) m x fit k = stores_by p g (flow.put_global p g kind v m.objects) m x k
obeys_like p ok (command.Enter t f args) m x fit k = calls_like p ok t f args m x fit k
obeys_like p ok command.Fail m x fit k = tt

-- ---- what operations ask for is fit

any_by : {X : Type 0} (test : X → Bool) (b : Bool) (y : X) (ys : List X) → test y ≡ b → (list_any test ys ≡ true → (x : X) × Has x ys × (test x ≡ true)) → (b || list_any test ys) ≡ true → (x : X) × Has x (y ∷ ys) × (test x ≡ true)
any_by test true y ys e f o = (y, inl refl, e)
any_by test false y ys e f o = let r = f o in (r.0, inr r.1, r.2)

any_has : {X : Type 0} (test : X → Bool) (xs : List X) → list_any test xs ≡ true → (x : X) × Has x xs × (test x ≡ true)
any_has test [] e = absurd cc
any_has test (y ∷ ys) e = any_by test (test y) y ys refl (any_has test ys) e

named_has : (names : List (List ℕ)) (name : List ℕ) → list_any (bytes_eq name) names ≡ true → Has name names
named_has names name e =
    let r = any_has (bytes_eq name) names e in
    let same : name ≡ r.0 = (bytes_eq-Decides name r.0).0 r.2 in
    subst (λ (n : List ℕ). Has n names) (sym same) r.1

abbrev number_test : ℕ → Option ℕ → Bool
number_test o (Some n) = n == o
number_test o None = false

number_is : (o : ℕ) (n : Option ℕ) → number_test o n ≡ true → n ≡ Some o
number_is o (Some n) e = ap Some (eqb-true n o e)
number_is o None e = absurd cc

object_unreserved : (p : Program) (o i : ℕ) → FineValue p (At (P.Object o i)) → (b : Bool) → list_any (λ g. number_test o (global_number p g)) (eligible_names p) ≡ b → b ≡ false
object_unreserved p o i fine true e =
    let r = any_has (λ (g : List ℕ). number_test o (global_number p g)) (eligible_names p) e in
    absurd (fine r.0 (contains_by r.0 (eligible_names p) r.1) (number_is o (global_number p r.0) r.2))
object_unreserved p o i fine false e = refl

reserved_false : (p : Program) (v : Value) → FineValue p v → is_reserved (run_of p) v ≡ false
reserved_false p (At (P.Object o i)) fine = object_unreserved p o i fine (list_any (λ (g : List ℕ). number_test o (global_number p g)) (eligible_names p)) refl
reserved_false p (At (P.Function n)) fine = refl
reserved_false p Undefined fine = refl
reserved_false p (Num n) fine = refl
reserved_false p Null fine = refl
reserved_false p (Piece a i) fine = refl

neither : (a b : Bool) → a ≡ false → b ≡ false → (a || b) ≡ false
neither true b e f = absurd cc
neither false b e f = f

addressed_named : (o : Op) (name : List ℕ) → Has name (addressed o) → Has name (op_names o)
addressed_named (op.AddrGlobal t g n) name h = h
addressed_named (op.AddrFn t f) name h = h
addressed_named _ name h = absurd h

module _ (p : Program) (ok : IsProgram p) where
  ordinary_in : (m : FlowModule) (name : List ℕ) → Has m p.modules → Has name (named_in m) → name ≢ start_name
  ordinary_in m name there h = has_each IsOrdinary (named_in m) name (has_each IsValid p.modules m ok.modules there).parts.ordinary h

  op_ordinary : (fn : FlowFn) (o : Op) (name : List ℕ) → Has fn (functions_of p) → Has o (ops_of fn) → Has name (op_names o) → name ≢ start_name
  op_ordinary fn o name among has h =
      let m = has_flat_back (λ (m : FlowModule). m.functions) fn p.modules among in
      let b = has_flat_back (λ (b : Block). b.ops) o fn.blocks has in
      let own : Has name (names_in_function fn) = has_flat names_in_block b.0 name fn.blocks b.1 (has_flat op_names o name b.0.ops b.2 h) in
      ordinary_in m.0 name m.1 (has_right name (flat_map names_in_global m.0.globals) (flat_map names_in_function m.0.functions) (has_flat names_in_function fn name m.0.functions m.2 own))

  taken_ordinary : (name : List ℕ) → IsTaken p name → name ≢ start_name
  taken_ordinary name taken = elim (has_split name (flat_map names_in_global (globals_of p)) (flat_map (λ (f : FlowFn). flat_map addressed (ops_of f)) (functions_of p)) (named_has (taken_names p) name taken)) [
    | inl h ↦
        let g = has_flat_back names_in_global name (globals_of p) h in
        let m = has_flat_back (λ (m : FlowModule). m.globals) g.0 p.modules g.1 in
        ordinary_in m.0 name m.1 (has_left name (flat_map names_in_global m.0.globals) (flat_map names_in_function m.0.functions) (has_flat names_in_global g.0 name m.0.globals m.2 g.2))
    | inr h ↦
        let f = has_flat_back (λ (f : FlowFn). flat_map addressed (ops_of f)) name (functions_of p) h in
        let o = has_flat_back addressed name (ops_of f.0) f.2 in
        op_ordinary f.0 o.0 name f.1 o.1 (addressed_named o.0 name o.2)
  ]

  if_fit : (t : Option ℕ) (f : List ℕ) (args : List Value) (b : Bool) → f ≢ start_name → IsFit p (if b then command.Enter t f args else command.Fail)
  if_fit t f args true h = h
  if_fit t f args false h = tt

  as_fit : (t : Option ℕ) (shape : List ℕ) (args : List Value) (f : List ℕ) (own : Option (List ℕ)) → f ≢ start_name → IsFit p (command.enter_as t shape args (Some f) own)
  as_fit t shape args f (Some own) h = if_fit t f args (bytes_eq own shape) h
  as_fit t shape args f None h = tt

  at_fit : (t : Option ℕ) (shape : List ℕ) (args : List Value) (n : ℕ) (f : Option (List ℕ)) → FineValue p (At (P.Function n)) → function_at p n ≡ f → IsFit p (command.enter_at p t shape args f)
  at_fit t shape args n (Some f) fine e = as_fit t shape args f (shape_of p f) (taken_ordinary f (fine f e))
  at_fit t shape args n None fine e = tt

  value_fit : (t : Option ℕ) (v : Value) (shape : List ℕ) (args : List Value) → FineValue p v → IsFit p (command.enter_value p t v shape args)
  value_fit t (At (P.Function n)) shape args fine = at_fit t shape args n (function_at p n) fine refl
  value_fit t _ shape args fine = tt

  give_fit : (t : ℕ) (v : Option Value) → IsFit p (command.give t v)
  give_fit t (Some v) = tt
  give_fit t None = tt

  command_fit : (fn : FlowFn) (o : Op) → Has fn (functions_of p) → Has o (ops_of fn) → (base : ℕ) (value : ℕ → Value) → ((t : ℕ) → FineValue p (value t)) → IsFit p (command_of p base o value)
  unfolding command_of
  command_fit fn (op.Un k t a) among has base value fine = give_fit t (unary k (value a))
  command_fit fn (op.Ext k t a) among has base value fine = give_fit t (extension k (value a))
  command_fit fn (op.Load k t a) among has base value fine = reserved_false p (value a) (fine a)
  command_fit fn (op.Store k a b) among has base value fine = reserved_false p (value a) (fine a)
  command_fit fn (op.Move a b size unit) among has base value fine = neither (is_reserved (run_of p) (value a)) (is_reserved (run_of p) (value b)) (reserved_false p (value a) (fine a)) (reserved_false p (value b) (fine b))
  command_fit fn (op.Call t f args) among has base value fine = op_ordinary fn (op.Call t f args) f among has (inl refl)
  command_fit fn (op.CallInd t a shape args) among has base value fine = value_fit t (value a) shape (map value args) (fine a)
  command_fit fn _ among has base value fine = tt

  -- ---- steps

  abbrev flow_next : flow.Machine → List Op → flow.Step
  flow_next m [] = flow.ends m.frame.end m
  flow_next m (o ∷ ops) = flow.obeys p (command_of p m.frame.base o (flow.value_in m.frame)) (record m { frame = record m.frame { ops = ops } })

  abbrev web_next : Machine → List WebOp → Step
  web_next n [] = ends (run_of p) n.frame.end n
  web_next n (o ∷ ops) = does (run_of p) o (record n { frame = record n.frame { ops = ops } })

  read_fine : (xs : List Value) (t : ℕ) → AllByRecursion (FineValue p) xs → FineValue p (slice_index_or xs t Undefined)
  read_fine [] t all = tt
  read_fine (x ∷ xs) zero all = all.0
  read_fine (x ∷ xs) (suc t) all = read_fine xs t all.1

  less_kept : (o : Op) (ops : List Op) (m : flow.Machine) (x : Beside) → ((k : Op) → Has k (o ∷ ops) → Has k (ops_of m.frame.function)) → Kept p m x → Kept p (record m { frame = record m.frame { ops = ops } }) x
  less_kept o ops m x each k = record { log = k.log; own = record { among = k.own.among; ops = λ c h. each c (inr h) }; others = k.others; sources = sources_by m.callers k.sources } where
    sources_by : (fs : List flow.Frame) → AreSources m.frame fs → AreSources (record m.frame { ops = ops }) fs
    sources_by [] s = tt
    sources_by (f ∷ fs) s = s

  next_like : (ops : List Op) (m : flow.Machine) (x : Beside) → ((o : Op) → Has o ops → Has o (ops_of m.frame.function)) → AreFine p (web_of m x) → Kept p m x → StepLike p (flow_next m ops) (web_next (web_of m x) (map (directed_op []) ops))
  next_like [] m x each fine k = ends_like p m.frame.end m x k
  next_like (o ∷ ops) m x each fine k =
      let n = record m { frame = record m.frame { ops = ops } } in
      let fit = command_fit m.frame.function o k.own.among (each o (inl refl)) m.frame.base (flow.value_in m.frame) (λ t. read_fine m.frame.temps t fine.frame.temps) in
      subst (λ (w : WebOp). StepLike p (flow_next m (o ∷ ops)) (does (run_of p) w (web_of n x))) (sym (op_is o))
      (obeys_like p ok (command_of p m.frame.base o (flow.value_in m.frame)) n x fit (less_kept o ops m x each k))

  step_like : (m : flow.Machine) (x : Beside) → AreFine p (web_of m x) → Kept p m x → StepLike p (flow_step p m) (step (run_of p) (web_of m x))
  unfolding step flow_step
  step_like m x fine k = next_like m.frame.ops m x k.own.ops fine k

  goes_like : (s : flow.Step) (t : Step) → StepLike p s t → ((n : Machine) → t ≡ On n → AreFine p n) → StepLike p (flow.goes_on p s) (and_then t (step (run_of p)))
  goes_like (flow.On m) t h fine = subst (λ (u : Step). StepLike p (flow_step p m) (and_then u (step (run_of p)))) (sym h.1) (step_like m h.0 (fine (web_of m h.0) h.1) h.2)
  goes_like (flow.Stopped end m) t h fine = (h.0, ap (λ (u : Step). and_then u (step (run_of p))) h.1, h.2)
  goes_like flow.Astray t h fine = tt

  flow_last : (n : ℕ) (s : flow.Step) → flow_steps p (suc n) s ≡ flow.goes_on p (flow_steps p n s)
  unfolding flow_steps
  flow_last zero s = refl
  flow_last (suc n) s = flow_last n (flow.goes_on p s)

  web_last : (n : ℕ) (s : Step) → steps (run_of p) (suc n) s ≡ and_then (steps (run_of p) n s) (step (run_of p))
  unfolding steps
  web_last zero s = refl
  web_last (suc n) s = web_last n (and_then s (step (run_of p)))

  -- ---- the start

  abbrev flow_begun : List ℕ → FlowFn → Block → flow.Machine
  flow_begun input f b = record {
    frame = record { function = f; block = 0; ops = b.ops; end = b.end; temps = flow.start_temps f []; base = length (start_objects p); result = None };
    callers = [];
    objects = flow.with_slots f.slots (start_objects p);
    rest = input;
    read = 0;
    out = [];
    events = 0;
    moments = [];
  }

  abbrev flow_begins_at : List ℕ → FlowFn → Option Block → flow.Step
  flow_begins_at input f None = flow.Astray
  flow_begins_at input f (Some b) = flow.On (flow_begun input f b)

  abbrev flow_starts : List ℕ → Option FlowFn → flow.Step
  flow_starts input (Some f) = flow_begins_at input f (block_at f 0)
  flow_starts input None = flow.Astray

  abbrev begun_beside : FlowFn → Beside
  begun_beside f = record {
    own = record { saved = map (λ r. (r, Undefined)) (web_fn f).saved; before = kept (λ r. Undefined) };
    others = [];
    registers = λ r. Undefined;
    trace = Called start_name (globals_now (run_of p) (λ r. Undefined) [] (start_objects p)) (kept (λ r. Undefined)) ∷ [];
  }

  abbrev web_begun : List ℕ → Located → WebBlock → Machine
  web_begun input l b = record {
    frame = record {
      function = l;
      block = 0;
      ops = b.ops;
      end = b.end;
      temps = replicate l.body.temps Undefined;
      base = length (start_objects p);
      result = None;
      saved = map (λ r. (r, Undefined)) l.saved;
      before = kept (λ r. Undefined);
    };
    callers = [];
    registers = λ r. Undefined;
    objects = flow.with_slots l.body.slots (start_objects p);
    rest = input;
    read = 0;
    out = [];
    events = 0;
    trace = Called start_name (globals_now (run_of p) (λ r. Undefined) [] (start_objects p)) (kept (λ r. Undefined)) ∷ [];
  }

  abbrev web_begins_at : List ℕ → Located → Option WebBlock → Step
  web_begins_at input l None = Astray
  web_begins_at input l (Some b) = enters_webs (run_of p) (entered_webs l) (web_begun input l b)

  abbrev web_starts : List ℕ → Option Located → Step
  web_starts input (Some l) = web_begins_at input l (first_block l)
  web_starts input None = Astray

  begun_like : (input : List ℕ) (f : FlowFn) (b : Option Block) → Has f (functions_of p) → slice_get f.blocks 0 ≡ b → StepLike p (flow_begins_at input f b) (web_begins_at input (web_fn f) (option_map (directed_block []) b))
  unfolding directed
  begun_like input f None among at = tt
  begun_like input f (Some b) among at =
      let count : f.temps ≡ f.temps - 0 = omega arith in (
        begun_beside f,
        ap (λ (n : ℕ). On (web_of (set_temps (replicate n Undefined) (flow_begun input f b)) (begun_beside f))) count,
        record { log = none; own = record { among = among; ops = block_has f 0 b at }; others = tt; sources = tt },
      )

  starts_like : (input : List ℕ) (f : Option FlowFn) → flow_named p start_name ≡ f → StepLike p (flow_starts input f) (web_starts input (option_map web_fn f))
  unfolding directed
  starts_like input (Some f) e =
      let r = found (λ (c : FlowFn). bytes_eq c.name start_name) (functions_of p) f e in
      subst (λ (b : Option WebBlock). StepLike p (flow_begins_at input f (block_at f 0)) (web_begins_at input (web_fn f) b)) (sym (slice_get-map (directed_block []) f.blocks 0)) (begun_like input f (slice_get f.blocks 0) r.0 refl)
  starts_like input None e = tt

  start_like : (input : List ℕ) → StepLike p (flow.start p input) (start (run_of p) input)
  start_like input = subst (λ (l : Option Located). StepLike p (flow.start p input) (web_starts input l)) (sym (named_like p start_name)) (starts_like input (flow_named p start_name) refl)

  -- ---- the runs

  runs_like : (fine : (input : List ℕ) (n : ℕ) (m : Machine) → steps (run_of p) n (start (run_of p) input) ≡ On m → AreFine p m) (input : List ℕ) (n : ℕ) → StepLike p (flow_steps p n (flow.start p input)) (steps (run_of p) n (start (run_of p) input))
  unfolding steps flow_steps
  runs_like fine input zero = start_like input
  runs_like fine input (suc n) =
      subst (λ (s : flow.Step). StepLike p s (steps (run_of p) (suc n) (start (run_of p) input))) (sym (flow_last n (flow.start p input)))
      (subst (λ (t : Step). StepLike p (flow.goes_on p (flow_steps p n (flow.start p input))) t) (sym (web_last n (start (run_of p) input)))
      (goes_like (flow_steps p n (flow.start p input)) (steps (run_of p) n (start (run_of p) input)) (runs_like fine input n) (λ m e. fine input n m e)))

  met_by : (n : ℕ) (r : ℕ → run.Stage (Event Byte Value)) (s : flow.Step) (t : Step) → r n ≡ shown_by calls_alone (staged t) → StepLike p s t → run.Met (MomentAlike p) (flow.staged s) r
  met_by n r (flow.On m) t e h = record {
    at = n;
    view = record { output = m.out; read = m.read; events = m.events; log = calls_alone h.0.trace };
    is = e ∙ ap (λ (u : Step). shown_by calls_alone (staged u)) h.1;
    same = record { output = refl; read = refl; log = h.2.log };
    counted = omega arith;
  }
  met_by n r (flow.Stopped end m) t e h = record {
    at = n;
    view = record { output = h.0.out; read = h.0.read; events = h.0.events; log = calls_alone h.0.trace };
    is = e ∙ ap (λ (u : Step). shown_by calls_alone (staged u)) h.1;
    same = record { output = sym h.2.out; read = sym h.2.read; log = h.2.log };
    counted = omega (arith, h.2.events);
  }
  met_by n r flow.Astray t e h = tt

  pub refines : ((input : List ℕ) (n : ℕ) (m : Machine) → steps (run_of p) n (start (run_of p) input) ≡ On m → AreFine p m) → (input : List ℕ) → run.Refines (MomentAlike p) (flow_run p input) (calls_of (web_run p [] input))
  unfolding flow_run web_run placed_run
  refines fine input n = met_by n (calls_of (web_run p [] input)) (flow_steps p n (flow.start p input)) (steps (run_of p) n (start (run_of p) input)) refl (runs_like fine input n)
