-- A global that has a wrong value where main is called: the clause on places refuses the image.
use Rattle.std.proofs.Common.{◌≡◌, ℕ, zero, suc, ◌+◌, ◌*◌, ◌<◌, ◌^◌, Bool, List, [], ◌∷◌, ◌++◌, replicate, length, Option, Some, None, true, false, if◌then◌else◌, refl, sym, ap, ◌∙◌, subst, arith, lit<, lit≤, append_assoc}
use Rattle.std.specs.Prelude.{slice_index, slice_set}
use Rattle.std.specs.List.{flat_map}
use Rattle.pw_value.specs.ProgramNames.{main_name}
use Rattle.pw_value.specs.declared.value.Byte.TheVariants as B
use Rattle.pw_value.specs.Objects.{Object}
use Rattle.pw_inst.specs.declared.Inst.{Inst}
use Rattle.pw_inst.specs.InstructionTable.{decoded, form_of, three_register, branch}
use Rattle.pw_flow.specs.declared.flow.FlowGlobal.{FlowGlobal}
use Rattle.pw_webflow.specs.Direction.{directed}
use Rattle.pw_alloc_temps.specs.Temporaries.{allocated}
use Rattle.pw_image.specs.declared.image.DataItem.{DataItem}
use Rattle.pw_image.specs.declared.image.Memory.{Memory}
use Rattle.pw_image.specs.Image.{IsMemory}
use Rattle.pw_machine.specs.declared.ends.End.TheVariants as machine
use Rattle.pw_machine.specs.Core.{Core, word_at, byte_at}
use Rattle.pw_machine.specs.Effect.{effect_of, effect_of_inst}
use Rattle.pw_machine.specs.Run.{State, Progress, Running, Stopped, taken, step, goes_on, run_of}
use Rattle.pw_machine.specs.Start.{data_start_of, image_start, start_core, start_memory}
use Rattle.pw_lower.specs.Expressions.{lower}
use Rattle.pw_lower.specs.Statements.{lower_statement}
use Rattle.pw_lower.specs.Modules.{lowered, lowered_function}
use Rattle.pw_cmean.specs.Acts as source
use Rattle.pw_cmean.specs.Acts.{give, stop, go_on, ◌>>=◌, branch as branches, wrong, look, make, end_object, write, next_byte, get_char, put_char, called as calling, returned, during, with_object, need, undefined, told, judge}
use Rattle.pw_cmean.specs.Access.{objects_now, within, load, store, copy, fetch, put}
use Rattle.pw_cmean.specs.Operators.{truth, outcome_of, on_numbers, unary_number, unary, advance, advance_elements, difference, ordered, compared, on_pointers, pointer_and_number, number_and_pointer, binary, convert}
use Rattle.pw_cmean.specs.Evaluation.{local_place, symbol_place, used, value_by, value_at, cast, bounded_call, take_room, library_call, call_body, call, call_value, old_value, update, step as steps, answer_of, place_of, values_of}
use Rattle.pw_cmean.specs.Execution.{go_forward, caught, taking_up, after_body, turn, loop, meet_loop, always, value_of, condition, for_condition, drop_value, switch_to, after_switch, with_locals, set_local, initialise, initialise_all, meaning, items, arms, behind_arms}
use Rattle.pw_cmean.specs.SourceRun.{set_parameters, result_of, run_body, callee, calls, finish, run_main}
use Rattle.pw_run.specs.Runs.{View, Stage, Over, Ended, AreAlike, none, also, Met, EndsSo}
use Rattle.pw_run_languages.specs.Traces.{InMemory, Event, Called, Returned, Loaded, Stored, calls_alone, calls_of, is_shown, shown_by}
use Rattle.pw_run_languages.specs.Programs as flows
use Rattle.pw_run_languages.specs.Programs.{globals_of}
use Rattle.pw_run_languages.specs.Acts as lines
use Rattle.pw_run_languages.specs.Acts.{bytes_at}
use Rattle.pw_run_languages.specs.MachineRun.{Map, Call, Noted, accesses_in, accesses_of, accesses_to, arrived, called, core_of, function_at, globals_in, has_returned, kept, noted, staged, start_state, stepped, traced_run, with_returns}
use Rattle.pw_run_languages.specs.LinkingLaws.{address_of, frame_in, image_run, map_of}
use Rattle.pw_law_source.specs.Source.{source_stages}
use Rattle.pw_law_source.specs.Lowering.{flow_program}
use Rattle.pw_law_layers.specs.Whole.{InMachine}
use Rattle.pw_law_temps.specs.Laws.{allocated_functions}
use Rattle.pw_law_analysis.specs.ImagePlaces.{GlobalsHavePlaces}
use Rattle.pw_tests_clauses.specs.Images.{program, wrong_value, wrong_words}

-- ---- the source's run: main is called and returns, and n is 0

abbrev frame : List ℕ → ℕ
frame = frame_in wrong_value

abbrev objects : List Object
objects = record { bytes = B.Num 0 ∷ B.Num 0 ∷ B.Num 0 ∷ B.Num 0 ∷ []; live = true; writable = true } ∷ []

abbrev moments : List source.Moment
moments = source.Returned main_name objects ∷ source.Called main_name objects ∷ []

means : source_stages program frame 4096 [] 1 ≡ Over (Ended 0) (record { output = []; read = 0; events = 0; log = moments })
unfolding give stop go_on ◌>>=◌ branches wrong look make end_object write next_byte get_char put_char calling returned during with_object need undefined told judge objects_now within load store copy fetch put truth outcome_of on_numbers unary_number unary advance advance_elements difference ordered compared on_pointers pointer_and_number number_and_pointer binary convert local_place symbol_place used value_by value_at cast bounded_call take_room library_call call_body call call_value old_value update steps answer_of place_of values_of go_forward caught taking_up after_body turn loop meet_loop always value_of condition for_condition drop_value switch_to after_switch with_locals set_local initialise initialise_all meaning items arms behind_arms set_parameters result_of run_body callee calls finish run_main source_stages
means = refl

-- ---- the first two steps of the machine, over any memory that holds the words that are met

abbrev state : List ℕ → ℕ → ℕ → List ℕ → State
state memory front back registers = record {
  core = record { registers = registers; front = front; back = back; nullify = false; shift = 0; memory = memory; text = 5; data_start = 4120; stopped = None };
  rest = [];
  output = [];
}

-- the registers at the start, and with the return address
abbrev r0 : List ℕ
r0 = slice_set (replicate 32 0) 30 4224

abbrev r1 : List ℕ
r1 = slice_set r0 2 4104

-- the states
abbrev at0 : List ℕ → State
at0 memory = state memory 4096 4100 r0

abbrev at1 : List ℕ → State
at1 memory = state memory 4100 4108 r1

abbrev at2 : List ℕ → State
at2 memory = state memory 4108 4112 r1

record Holds (memory : List ℕ) : Type 0 where
  pub call : word_at memory 4096 ≡ 3896508424
  pub slot : word_at memory 4100 ≡ 134218304
  pub last : byte_at memory 4123 ≡ 1

does : (s : State) (w : ℕ) → word_at s.core.memory s.core.front ≡ w → taken (effect_of_inst s.core (decoded (word_at s.core.memory s.core.front))) s ≡ taken (effect_of_inst s.core (decoded w)) s
does s w at = ap (λ w. taken (effect_of_inst s.core (decoded w)) s) at

first : (memory : List ℕ) → Holds memory → step (at0 memory) ≡ Running (at1 memory)
unfolding effect_of decoded form_of branch
first memory h = does (at0 memory) 3896508424 h.call

second : (memory : List ℕ) → Holds memory → step (at1 memory) ≡ Running (at2 memory)
unfolding effect_of decoded form_of three_register
second memory h = does (at1 memory) 134218304 h.slot

one : (memory : List ℕ) → Holds memory → run_of 1 (at0 memory) ≡ Running (at1 memory)
unfolding run_of
one memory h = first memory h

two : (memory : List ℕ) → Holds memory → run_of 2 (at0 memory) ≡ Running (at2 memory)
unfolding run_of
two memory h = ap goes_on (one memory h) ∙ second memory h

-- ---- what they note

abbrev graphs : flows.Program
graphs = flow_program program frame 4096

abbrev map : Map
map = map_of graphs (allocated_functions graphs []) wrong_value

abbrev noted0 : List ℕ → Noted
noted0 memory = arrived map (at0 memory).core (record { calls = []; log = [] })

abbrev noted1 : List ℕ → Noted
noted1 memory = stepped map (Running (at0 memory)) (Running (at1 memory)) (noted0 memory)

abbrev noted2 : List ℕ → Noted
noted2 memory = stepped map (Running (at1 memory)) (Running (at2 memory)) (noted1 memory)

is_noted0 : (memory : List ℕ) → noted map (at0 memory) 0 ≡ noted0 memory
unfolding noted run_of
is_noted0 memory = refl

is_noted1 : (memory : List ℕ) → Holds memory → noted map (at0 memory) 1 ≡ noted1 memory
unfolding noted run_of
is_noted1 memory h = ap (λ p. stepped map (Running (at0 memory)) p (noted0 memory)) (one memory h)

is_noted2 : (memory : List ℕ) → Holds memory → noted map (at0 memory) 2 ≡ noted2 memory
unfolding noted
is_noted2 memory h =
    ap (λ p. stepped map p (run_of 2 (at0 memory)) (noted map (at0 memory) 1)) (one memory h)
    ∙ (ap (λ p. stepped map (Running (at1 memory)) p (noted map (at0 memory) 1)) (two memory h)
    ∙ ap (λ n. stepped map (Running (at1 memory)) (Running (at2 memory)) n) (is_noted1 memory h))

-- loads and stores are no calls
two_unshown : (a b : Bool) (v : List ℕ) (l : List (Event ℕ ℕ)) → calls_alone (((if a then Loaded v ∷ [] else []) ++ (if b then Stored v ∷ [] else [])) ++ l) ≡ calls_alone l
two_unshown true true v l = refl
two_unshown true false v l = refl
two_unshown false true v l = refl
two_unshown false false v l = refl

all_unshown : (to : FlowGlobal → List (Event ℕ ℕ)) → ((g : FlowGlobal) (l : List (Event ℕ ℕ)) → calls_alone (to g ++ l) ≡ calls_alone l) → (gs : List FlowGlobal) (l : List (Event ℕ ℕ)) → calls_alone (flat_map to gs ++ l) ≡ calls_alone l
all_unshown to one [] l = refl
all_unshown to one (g ∷ gs) l = ap (λ k. calls_alone k) (append_assoc (to g) (flat_map to gs) l) ∙ (one g (flat_map to gs ++ l) ∙ all_unshown to one gs l)

accesses_unshown : (m : Map) (i : Option Inst) (c : lines.Core) (l : List (Event ℕ ℕ)) → calls_alone (accesses_of m i c ++ l) ≡ calls_alone l
accesses_unshown m None c l = refl
accesses_unshown m (Some i) c l = all_unshown (accesses_to m i c) (λ g k. two_unshown _ _ g.name k) (globals_of m.flow) l

unshown_unless : (b : Bool) (k l : List (Event ℕ ℕ)) → calls_alone (k ++ l) ≡ calls_alone l → calls_alone ((if b then [] else k) ++ l) ≡ calls_alone l
unshown_unless true k l e = refl
unshown_unless false k l e = e

unshown : (m : Map) (c : Core) (l : List (Event ℕ ℕ)) → calls_alone (accesses_in m c ++ l) ≡ calls_alone l
unshown m c l = unshown_unless c.nullify (accesses_of m (decoded (word_at c.memory c.front)) (core_of c)) l (accesses_unshown m (decoded (word_at c.memory c.front)) (core_of c) l)

-- main is called, and n stands in its own memory
abbrev entry : List ℕ → Event ℕ ℕ
entry memory = Called main_name (InMemory (bytes_at 4 (byte_at memory) 4120) ∷ []) (kept (at2 memory).core)

calls0 : (memory : List ℕ) → calls_alone (noted0 memory).log ≡ []
unfolding lower lower_statement lowered_function lowered directed allocated
calls0 memory = refl

calls1 : (memory : List ℕ) → calls_alone (noted1 memory).log ≡ []
unfolding lower lower_statement lowered_function lowered directed allocated
calls1 memory = unshown map (at0 memory).core (noted0 memory).log

calls2 : (memory : List ℕ) → calls_alone (noted2 memory).log ≡ entry memory ∷ []
unfolding lower lower_statement lowered_function lowered directed allocated
calls2 memory = ap (λ l. entry memory ∷ l) (unshown map (at1 memory).core (noted1 memory).log ∙ calls1 memory)

-- ---- and what more steps note stands before it

abbrev Longer : List (Event ℕ ℕ) → List (Event ℕ ℕ) → Type 0
Longer log base = (more : List (Event ℕ ℕ)) × (log ≡ more ++ base)

longer_still : (a b c : List (Event ℕ ℕ)) → Longer a b → Longer b c → Longer a c
longer_still a b c p q = (p.0 ++ q.0, p.1 ∙ (ap (λ l. p.0 ++ l) q.1 ∙ sym (append_assoc p.0 q.0 c)))

longer_if : (b : Bool) (x y base : List (Event ℕ ℕ)) → Longer x base → Longer y base → Longer (if b then x else y) base
longer_if true x y base p q = p
longer_if false x y base p q = q

shown_longer : (e : Event ℕ ℕ) (l : List (Event ℕ ℕ)) → Longer (calls_alone (e ∷ l)) (calls_alone l)
shown_longer e l = longer_if (is_shown e) (e ∷ calls_alone l) (calls_alone l) (calls_alone l) (e ∷ [], refl) ([], refl)

calls_if : (b : Bool) (x y base : List (Event ℕ ℕ)) → Longer (calls_alone x) base → Longer (calls_alone y) base → Longer (calls_alone (if b then x else y)) base
calls_if true x y base p q = p
calls_if false x y base p q = q

returns_longer : (m : Map) (c : Core) (inner : ℕ) (active : List Call) (l : List (Event ℕ ℕ)) → Longer (calls_alone (with_returns m c inner active l)) (calls_alone l)
returns_longer m c inner [] l = ([], refl)
returns_longer m c inner (call ∷ callers) l =
    calls_if (has_returned c call) _ _ (calls_alone l)
    (longer_still _ _ (calls_alone l) (returns_longer m c inner callers (Returned call.function inner (globals_in m c callers) call.before (kept c) ∷ l)) (shown_longer (Returned call.function inner (globals_in m c callers) call.before (kept c)) l))
    (returns_longer m c (inner + 1) callers l)

noted_if : (b : Bool) (x y : Noted) (base : List (Event ℕ ℕ)) → Longer (calls_alone x.log) base → Longer (calls_alone y.log) base → Longer (calls_alone (if b then x else y).log) base
noted_if true x y base p q = p
noted_if false x y base p q = q

called_longer : (m : Map) (c : Core) (f : Option (List ℕ)) (n : Noted) → Longer (calls_alone (called m c f n).log) (calls_alone n.log)
called_longer m c None n = ([], refl)
called_longer m c (Some f) n = shown_longer (Called f (globals_in m c n.calls) (kept c)) n.log

arrived_longer : (m : Map) (c : Core) (n : Noted) → Longer (calls_alone (arrived m c n).log) (calls_alone n.log)
arrived_longer m c n =
    let back = returns_longer m c 0 n.calls n.log in
    noted_if c.nullify _ _ (calls_alone n.log) back (longer_still _ _ (calls_alone n.log) (called_longer m c (function_at m c.front) _) back)

stepped_longer : (m : Map) (p q : Progress) (n : Noted) → Longer (calls_alone (stepped m p q n).log) (calls_alone n.log)
stepped_longer m (Running a) (Running b) n =
    subst (λ l. Longer (calls_alone (stepped m (Running a) (Running b) n).log) l) (unshown m a.core n.log) (arrived_longer m b.core (record { calls = n.calls; log = accesses_in m a.core ++ n.log }))
stepped_longer m (Running a) (Stopped end b) n = ([], refl)
stepped_longer m (Stopped end a) q n = ([], refl)

then_on : (memory : List ℕ) → Holds memory → (j : ℕ) → Longer (calls_alone (noted map (at0 memory) (suc (suc j))).log) (entry memory ∷ [])
unfolding noted
then_on memory h zero = ([], ap (λ (n : Noted). calls_alone n.log) (is_noted2 memory h) ∙ calls2 memory)
then_on memory h (suc j) = longer_still _ _ (entry memory ∷ []) (stepped_longer map (run_of (suc (suc j)) (at0 memory)) (run_of (suc (suc (suc j))) (at0 memory)) (noted map (at0 memory) (suc (suc j)))) (then_on memory h j)

-- ---- no stage of it is alike

abbrev IsCons : {N : Type 0} → List N → Type 0
IsCons [] = ⊥
IsCons (n ∷ ns) = Unit {0}

abbrev IsNil : {N : Type 0} → List N → Type 0
IsNil [] = Unit {0}
IsNil (n ∷ ns) = ⊥

some_there : {M N : Type 0} (R : M → N → Type 0) (m : M) (ms : List M) (ns : List N) → AreAlike R (m ∷ ms) ns → IsCons ns
some_there R m ms ns (also _ n _ rest h t) = tt

none_there : {M N : Type 0} (R : M → N → Type 0) (ns : List N) → AreAlike R [] ns → IsNil ns
none_there R ns none = tt

head_alike : {M N : Type 0} (R : M → N → Type 0) (m : M) (ms : List M) (n : N) (ns : List N) → AreAlike R (m ∷ ms) (n ∷ ns) → R m n
head_alike R m ms n ns (also _ _ _ _ h t) = h

tail_alike : {M N : Type 0} (R : M → N → Type 0) (m : M) (ms : List M) (n : N) (ns : List N) → AreAlike R (m ∷ ms) (n ∷ ns) → AreAlike R ms ns
tail_alike R m ms n ns (also _ _ _ _ h t) = t

not_nil : {N : Type 0} (ns : List N) (n : N) → IsNil (ns ++ n ∷ []) → ⊥
not_nil [] n h = h
not_nil (m ∷ ns) n h = h

-- the last of two
last_alike : {M N : Type 0} (R : M → N → Type 0) (a b : M) (ns : List N) (n : N) → AreAlike R (a ∷ b ∷ []) (ns ++ n ∷ []) → R b n
last_alike R a b [] n h = absurd (some_there R b [] [] (tail_alike R a (b ∷ []) n [] h))
last_alike R a b (x ∷ []) n h = head_alike R b [] n [] (tail_alike R a (b ∷ []) x (n ∷ []) h)
last_alike R a b (x ∷ y ∷ ns) n h =
    absurd (not_nil ns n (none_there R (ns ++ n ∷ []) (tail_alike R b [] y (ns ++ n ∷ []) (tail_alike R a (b ∷ []) x (y ∷ (ns ++ n ∷ [])) h))))

-- main is called with another value
abbrev Alike : source.Moment → Event ℕ ℕ → Type 0
Alike = InMachine graphs (address_of wrong_value)

one_is_not_nil : ◌≡◌ {A = ℕ} 1 0 → ⊥
one_is_not_nil e = omega (arith, e)

differs : (memory : List ℕ) → Holds memory → Alike (source.Called main_name objects) (entry memory) → ⊥
unfolding lower lower_statement lowered_function lowered
differs memory h alike =
    let bytes = alike.1.each.1 in
    let last = tail_alike _ _ _ _ _ (tail_alike _ _ _ _ _ (tail_alike _ _ _ _ _ bytes)) in
    let is : byte_at memory 4123 ≡ 0 = head_alike _ _ _ _ _ last in
    one_is_not_nil (sym h.last ∙ is)

no_log : (memory : List ℕ) → Holds memory → (k : ℕ) → AreAlike Alike moments (calls_alone (noted map (at0 memory) k).log) → ⊥
no_log memory h zero alike = some_there Alike _ _ [] (subst (λ l. AreAlike Alike moments l) (ap (λ (n : Noted). calls_alone n.log) (is_noted0 memory) ∙ calls0 memory) alike)
no_log memory h (suc zero) alike = some_there Alike _ _ [] (subst (λ l. AreAlike Alike moments l) (ap (λ (n : Noted). calls_alone n.log) (is_noted1 memory h) ∙ calls1 memory) alike)
no_log memory h (suc (suc j)) alike =
    let more = then_on memory h j in
    differs memory h (last_alike Alike (source.Returned main_name objects) (source.Called main_name objects) more.0 (entry memory) (subst (λ l. AreAlike Alike moments l) more.1 alike))

-- ---- the clause

-- the log of a stage at which the machine has ended
abbrev LogIs : List (Event ℕ ℕ) → Stage (Event ℕ ℕ) → Type 0
LogIs l (Over (Ended status) v) = v.log ≡ l
LogIs l _ = Unit {0}

log_is : (n : ℕ) (p : Progress) (l : List (Event ℕ ℕ)) → LogIs (calls_alone l) (shown_by calls_alone (staged [] n p l))
log_is n (Running s) l = tt
log_is n (Stopped (machine.Ended status) s) l = refl
log_is n (Stopped machine.StackStop s) l = tt
log_is n (Stopped (machine.Halted halt at) s) l = tt

no_end : (memory : List ℕ) → Holds memory → (k : ℕ) (v : View (Event ℕ ℕ)) → shown_by calls_alone (staged [] k (run_of k (at0 memory)) (noted map (at0 memory) k).log) ≡ Over (Ended 0) v → AreAlike Alike moments v.log → ⊥
no_end memory h k v is alike =
    let same : v.log ≡ calls_alone (noted map (at0 memory) k).log = subst (LogIs (calls_alone (noted map (at0 memory) k).log)) is (log_is k (run_of k (at0 memory)) (noted map (at0 memory) k).log) in
    no_log memory h k (subst (λ l. AreAlike Alike moments l) same alike)

abbrev pub data_items : List DataItem
data_items = record { offset = 0; bytes = 0 ∷ 0 ∷ 0 ∷ 1 ∷ [] } ∷ []

starts : start_state (image_start wrong_value.memory) [] ≡ at0 (start_memory wrong_words data_items)
unfolding start_core
starts = refl

abbrev run : ℕ → Stage (Event ℕ ℕ)
run = calls_of (image_run graphs (allocated_functions graphs []) wrong_value [])

run_is : (k : ℕ) → run k ≡ shown_by calls_alone (staged [] k (run_of k (at0 (start_memory wrong_words data_items))) (noted map (at0 (start_memory wrong_words data_items)) k).log)
unfolding traced_run
run_is k = ap (λ s. shown_by calls_alone (staged [] k (run_of k s) (noted map s k).log)) starts

never : Holds (start_memory wrong_words data_items) → EndsSo Alike (Ended 0) (record { output = []; read = 0; events = 0; log = moments }) run → ⊥
never h e = no_end (start_memory wrong_words data_items) h e.at e.view (sym (run_is e.at) ∙ e.is) e.same.log

-- the laws of what stands in memory at the start
abbrev Words : Type 0
Words = (i : ℕ) → i < 5 → slice_index wrong_words i < 2 ^ 32 → word_at (start_memory wrong_words data_items) (4096 + 4 * i) ≡ slice_index wrong_words i

abbrev DataStands : Type 0
DataStands = (m : Memory) (before after : List DataItem) (i : DataItem) (k : ℕ) → IsMemory m → m.items ≡ before ++ i ∷ after → k < length i.bytes → byte_at (image_start m).memory (data_start_of m.words + i.offset + k) ≡ slice_index i.bytes k

is_memory : IsMemory wrong_value.memory
is_memory = record {
  entry = record { aligned = refl; start = lit≤ tt; within = lit< tt };
  stack = lit< tt;
  stack_end = lit≤ tt;
  count = lit≤ tt;
  words = (lit< tt, (lit< tt, (lit< tt, (lit< tt, (lit< tt, tt)))));
  data_fits = lit≤ tt;
  items = (lit≤ tt, lit≤ tt, tt);
}

last_stands : DataStands → byte_at (start_memory wrong_words data_items) 4123 ≡ 1
unfolding start_core
last_stands stands = stands wrong_value.memory [] [] (record { offset = 0; bytes = 0 ∷ 0 ∷ 0 ∷ 1 ∷ [] }) 3 is_memory refl (lit< tt)

pub wrong_place : Words → DataStands → ¬ GlobalsHavePlaces program graphs [] wrong_value []
wrong_place words stands places =
    never (record { call = words 0 (lit< tt) (lit< tt); slot = words 1 (lit< tt) (lit< tt); last = last_stands stands }) (subst (λ (stage : Stage source.Moment). Met Alike stage run) means (places 1))
