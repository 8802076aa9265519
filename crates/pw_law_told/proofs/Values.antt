-- At each call of a defined program's image the walk of a global comes to its value in C.
use Rattle.std.specs.Prelude.{ℕ, suc, pos, Bool, Option, None, option_map, if◌then◌else◌, ◌&&◌, ◌≡◌, ◌+◌, ◌-◌, ◌%◌, ◌≤◌, ◌<◌, ◌==◌, nat_le, true, Some, List, [], ◌∷◌, ◌++◌, map, length, Contains}
use Rattle.std.specs.List.{AllByRecursion, sum_by}
use Rattle.std.proofs.Common.{arith, subst, sym, ap, refl, ◌∙◌}
use Rattle.std.proofs.lemmas.Bool.{eq-eqb, le-leb}
use Rattle.std.proofs.lemmas.List.Elements.{Contains-append_right}
use Rattle.std.proofs.lemmas.List.Sums.{sum_by-cons}
use Rattle.pw_value.specs.Limits.{memory_size, stack_least}
use Rattle.pw_value.specs.ProgramNames.{start_name}
use Rattle.pw_value.specs.Objects.{Object as Thing, object_at}
use Rattle.pw_value.specs.declared.value.Kind.{Kind}
use Rattle.pw_value.specs.declared.value.Kind.TheVariants.{S8, U8, S16, U16, W32}
use Rattle.pw_types.specs.Rooms.{start_room}
use Rattle.pw_flow.specs.ValidFlow.{kind_size}
use Rattle.pw_flow.specs.declared.flow.FlowGlobal.{FlowGlobal}
use Rattle.pw_db.specs.declared.database.Directives.{Directives}
use Rattle.pw_object.specs.declared.object.Object.{Object}
use Rattle.pw_alloc.specs.declared.located.Located.{Located}
use Rattle.pw_machine.specs.Core.{Core, byte_at, word_at}
use Rattle.pw_machine.specs.Run.{Progress, Running, State, run_of}
use Rattle.pw_cmean.specs.Worlds as source
use Rattle.pw_link.specs.Linking.{linked}
use Rattle.pw_run.specs.Runs.{Refines}
use Rattle.pw_run_languages.specs.Addresses.{Addresses, AreLawful}
use Rattle.pw_run_languages.specs.LawfulPrograms.{eligible_names}
use Rattle.pw_run_languages.specs.LineRun.{Frame, LineFn, Machine, name_of, start, steps}
use Rattle.pw_run_languages.specs.LinkingLaws.{LinkKeepsRuns, address_of, map_of}
use Rattle.pw_run_languages.specs.MachineRun.{Call, Map, Noted, noted, own_active, start_state, told_active}
use Rattle.pw_run_languages.specs.MachineRun as noting
use Rattle.pw_run_languages.specs.PlacementLaws.{DirectionKeeps, PlacesKeep}
use Rattle.pw_run_languages.specs.Programs.{AreBytes, Program, globals_of}
use Rattle.pw_run_languages.specs.SelectionLaws.{PlacementKeeps, PlacementKeepsRuns, SelectionKeeps, SelectionKeepsRuns}
use Rattle.pw_run_languages.specs.Standing.{pointer_address}
use Rattle.pw_run_languages.specs.Traces.{Called, Event, Notes, Standing}
use Rattle.pw_law_source.specs.Source.{source_progress}
use Rattle.pw_law_source.specs.Lowering.{MomentKept}
use Rattle.pw_run_languages.specs.FlowRun.{flow_run}
use Rattle.pw_law_code.specs.Lawful.{state_of}
use Rattle.pw_law_layers.specs.Guarding.{SoundDirectivesGuard}
use Rattle.pw_law_layers.specs.Rooms.{MapHasFrames, PlacesFit}
use Rattle.pw_law_layers.specs.Whole.{AllInMachine, GlobalInMachine, GlobalsInMachine, IsBuilt, LayersKeep}
use Rattle.pw_law_told.proofs.Rooms.{frame_of_room, frames_are}
use Rattle.pw_debug.specs.Walk.{cut, in_memory, of_kind, word_in}
use Rattle.pw_law_where.specs.Counting.{NotesCall, call_from}
use Rattle.pw_law_link_run.specs.Steps.{Setting, map_in}
use Rattle.pw_law_link_run.specs.Simulating.{IsCaller, IsLinked, Simulates, calls_behind, calls_from}
use Rattle.pw_law_linked.specs.Settings.{linked_setting}
use Rattle.pw_law_linked.proofs.Linked.{located_is}
use Rattle.pw_law_entered.specs.Entered.{HasEntered, first_active, first_call}
use Rattle.pw_law_callers.specs.Others.{OthersDiffer}
use Rattle.pw_law_room.specs.Room.{HadRoom, names_active}
use Rattle.pw_law_room.proofs.Names.{names_called}

-- ---- one global of all

one_global : (q : Program) (named : List ℕ → ℕ) (place : ℕ → ℕ) (things : List Thing) (now : FlowGlobal → Standing ℕ ℕ) (before : List FlowGlobal) (g : FlowGlobal) (after : List FlowGlobal) (n : ℕ)
    → GlobalsInMachine q named place things (before ++ g ∷ after) n (map now (before ++ g ∷ after)) → GlobalInMachine (pointer_address q named place) things g (object_at things (n + length before)).bytes (now g)
one_global q named place things now [] g after n each =
    let at : n ≡ n + 0 = omega arith in
    subst (λ (i : ℕ). GlobalInMachine (pointer_address q named place) things g (object_at things i).bytes (now g)) at each.1
one_global q named place things now (h ∷ hs) g after n each =
    let at : suc n + length hs ≡ n + length (h ∷ hs) = omega arith in
    subst (λ (i : ℕ). GlobalInMachine (pointer_address q named place) things g (object_at things i).bytes (now g)) at (one_global q named place things now hs g after (suc n) each.2)

-- ---- what memory holds of an object

small_kind : (k : Kind) → kind_size k ≤ 4
small_kind S8 = omega arith
small_kind U8 = omega arith
small_kind S16 = omega arith
small_kind U16 = omega arith
small_kind W32 = omega arith

-- a scalar at a multiple of 4 inside the memory
holds : (memory : List ℕ) (k : Kind) (a : ℕ) → a % 4 ≡ 0 → a + 4 ≤ memory_size → (held : ℕ) × (in_memory memory k a ≡ Some held)
holds memory k a aligned fits =
    let b = a - a % 4 in
    let small = small_kind k in
    let one : nat_le (a % 4 + kind_size k) 4 ≡ true = le-leb (a % 4 + kind_size k) 4 (omega (arith, aligned, small)) in
    let two : (b % 4 == 0) ≡ true = eq-eqb (b % 4) 0 (omega (arith, aligned)) in
    let three : nat_le (b + 4) memory_size ≡ true = le-leb (b + 4) memory_size (omega (arith, aligned, fits)) in
    let word : word_in memory (pos b) ≡ Some (word_at memory b) =
    ap (λ (t : Bool). if t && nat_le (b + 4) memory_size then Some (word_at memory b) else None) two ∙ ap (λ (t : Bool). if t then Some (word_at memory b) else None) three in (
      of_kind k (cut (a % 4 + kind_size k) (word_at memory b)),
      ap (λ (t : Bool). if t then option_map (λ word. of_kind k (cut (a % 4 + kind_size k) word)) (word_in memory (pos b)) else None) one
          ∙ ap (λ (o : Option ℕ). option_map (λ word. of_kind k (cut (a % 4 + kind_size k) word)) o) word,
    )

-- ---- names of calls

own_names : (x : Setting) (gs : List Frame) → own_active (calls_behind x gs) ≡ map name_of gs
own_names x [] = refl
own_names x (g ∷ gs) = ap (λ (ns : List (List ℕ)). name_of g ∷ ns) (own_names x gs)

-- only the first of the functions that are active where the machine shows a state is `$start`, where it is so of its trace
pub names_differ : (x : Setting) (m : Machine) (steps : ℕ) → (h : Simulates x m steps) → told_active (noted (map_in x) x.start steps).log ≡ own_active (noted (map_in x) x.start steps).calls
    → OthersDiffer (told_active (noted (map_in x) x.start steps).log) → OthersDiffer (map name_of (m.frame ∷ m.callers))
names_differ x m steps h own others =
    subst OthersDiffer (own ∙ ap (λ (n : Noted). own_active n.calls) h.at.notes ∙ ap (λ (ns : List (List ℕ)). name_of m.frame ∷ ns) (own_names x m.callers)) others

-- ---- the map

pub maps_same : (q : Program) (functions : List Located) (objects : List Object) (input : List ℕ) → map_in (linked_setting q functions objects input) ≡ map_of q functions (linked objects q.stack)
maps_same q functions objects input =
    ap (λ (fs : List Located). record { flow = q; functions = fs; eligible = eligible_names q; named = address_of (linked objects q.stack) }) (located_is functions)

-- what a stage notes, where the machine goes on
pub noted_here : (P : List (Event ℕ ℕ) → Type 0) (m : Map) (c : Core) (input : List ℕ) (step : ℕ) (s : State) → Notes P (noting.traced_run m c input step) → run_of step (start_state c input) ≡ Running s
    → P (noted m (start_state c input) step).log
unfolding noting.traced_run
noted_here P m c input step s h goes = subst (λ (r : Progress). Notes P (noting.staged input step r (noted m (start_state c input) step).log)) goes h

-- ---- the layers

-- what selection and placement keep at these addresses
pub record Between (q : Program) (d : List (List ℕ × Directives)) (functions : List Located) (w : Addresses) (scratch : ℕ → (ℕ → ℕ) → ℕ → ℕ) (input : List ℕ) : Type 0 where
  pub selection : SelectionKeeps q d functions w scratch input
  pub placement : PlacementKeeps q functions w scratch input

-- the stack has room for `$start`
pub start_fits : PlacesFit → MapHasFrames → (p : source.Program) (q : Program) (d : List (List ℕ × Directives)) (functions : List Located) (objects : List Object) → IsBuilt p q d functions objects → q.frame_of start_name ≤ q.stack
start_fits fit mapped p q d functions objects built =
    let program = built.implements.program in
    let frames = frames_are mapped q d functions objects built.frames program built.serve built.made in
    let first : q.frame_of start_name ≤ start_room = frame_of_room fit q d functions frames built.serve program built.database start_name start_room built.implements.rooms.start in
    let enough : stack_least ≤ q.stack = built.enough in
    omega (arith, first, enough)

pub between : PlacesFit → MapHasFrames → PlacementKeepsRuns → SoundDirectivesGuard → SelectionKeepsRuns → (p : source.Program) (q : Program) (d : List (List ℕ × Directives)) (functions : List Located) (objects : List Object) (input : List ℕ)
    → IsBuilt p q d functions objects → AreBytes input → (w : Addresses) (scratch : ℕ → (ℕ → ℕ) → ℕ → ℕ) → AreLawful q w → Between q d functions w scratch input
between fit mapped placement guard selection p q d functions objects input built bytes w scratch lawful =
    let program = built.implements.program in
    let frames = frames_are mapped q d functions objects built.frames program built.serve built.made in
    let start = start_fits fit mapped p q d functions objects built in
    record {
      selection = selection q d functions w scratch input program built.database.directives (guard q d functions built.database built.sound built.serve) built.serve frames start lawful bytes;
      placement = placement q d functions w scratch input program built.database.directives built.serve frames start lawful bytes;
    }

pub kept_layers : PlacesFit → MapHasFrames → PlacementKeepsRuns → SoundDirectivesGuard → SelectionKeepsRuns → LinkKeepsRuns → (p : source.Program) (q : Program) (d : List (List ℕ × Directives)) (functions : List Located) (objects : List Object) (input : List ℕ)
    → IsBuilt p q d functions objects → AreBytes input → DirectionKeeps q d input → PlacesKeep q d functions input → LayersKeep p q d functions objects input
kept_layers fit mapped placement guard selection link p q d functions objects input built bytes direction places =
    let program = built.implements.program in
    let frames = frames_are mapped q d functions objects built.frames program built.serve built.made in
    let l = link q d functions objects input program built.names built.database.directives built.serve built.made built.fits bytes in
    let both = between fit mapped placement guard selection p q d functions objects input built bytes l.addresses l.scratch l.lawful in
    record {
      lowering = subst (λ (F : List ℕ → ℕ). Refines (MomentKept q) (source_progress p F q.stack input) (flow_run q input)) built.frames (built.implements.runs input frames.library bytes);
      direction = direction;
      places = places;
      linking = l;
      selection = both.selection;
      placement = both.placement;
    }

-- ---- where a function has been entered

pub begins : (x : Setting) (m : Machine) → HasEntered x m → m.frame.left ≡ m.frame.function.items
begins x m e = ap (λ (t : Machine). t.frame.left) e.is ∙ sym (ap (λ (t : Machine). t.frame.function.items) e.is)

-- of the calls that are active the first is the one that was just made
tail_same : (a b : Call) (xs ys : List Call) → a ∷ xs ≡ b ∷ ys → xs ≡ ys
tail_same a b xs ys e = cc

pub callers_same : (x : Setting) (m : Machine) (steps step k : ℕ) (other : Map) (core : Core) (h : Simulates x m steps) → map_in x ≡ other → steps ≡ step → (call : NotesCall other k core (noted other x.start step)) → calls_behind x m.callers ≡ call.callers
callers_same x m steps step k other core h maps at call =
    let moved : noted (map_in x) x.start steps ≡ noted other x.start step = ap (λ (n : Map). noted n x.start steps) maps ∙ ap (λ (i : ℕ). noted other x.start i) at in
    let one : calls_from x m.frame m.callers ≡ (noted other x.start step).calls = sym (ap (λ (n : Noted). n.calls) h.at.notes) ∙ ap (λ (n : Noted). n.calls) moved in
    tail_same _ _ (calls_behind x m.callers) call.callers (one ∙ call.active)

-- ---- memory

-- the machine's memory is of bytes
pub bytes_here : (x : Setting) → IsLinked x → (step : ℕ) (s : State) → run_of step x.start ≡ Running s → (b : ℕ) → byte_at s.core.memory b < 256
bytes_here x l step s goes b =
    let lawful = (l.setting.keeps step).lawful.core.memory.bytes b in
    subst (λ (p : Progress). byte_at (state_of p).core.memory b < 256) goes lawful

pub held_there : (q : Program) (w : Addresses) (g : FlowGlobal) (kind : Kind) (memory : List ℕ) (a : ℕ) → AreLawful q w → Contains (globals_of q) g → w.named g.name ≡ a → (held : ℕ) × (in_memory memory kind a ≡ Some held)
held_there q w g kind memory a lawful there is =
    let aligned = lawful.aligned g there in
    let below = lawful.below g there in
    let stack = lawful.stack in
    let limit = lawful.memory in
    holds memory kind a (omega (arith, aligned, is)) (omega (arith, below, stack, limit, is))

pub told_there : (q : Program) (before : List FlowGlobal) (g : FlowGlobal) (after : List FlowGlobal) → globals_of q ≡ before ++ g ∷ after → Contains (globals_of q) g
told_there q before g after is = subst (λ (gs : List FlowGlobal). Contains gs g) (sym is) (Contains-append_right before (g ∷ after) g (0, omega arith, refl))

-- the global where the trace notes that it stands
pub stands_there : (q : Program) (named : List ℕ → ℕ) (things : List Thing) (number : ℕ) (now : FlowGlobal → Standing ℕ ℕ) (before : List FlowGlobal) (g : FlowGlobal) (after : List FlowGlobal)
    → globals_of q ≡ before ++ g ∷ after → length before ≡ number → (all : AllInMachine q named things (map now (globals_of q)))
    → GlobalInMachine (pointer_address q named all.place) things g (object_at things number).bytes (now g)
stands_there q named things number now before g after is count all =
    let at : 0 + length before ≡ number = omega (arith, count) in
    subst (λ (i : ℕ). GlobalInMachine (pointer_address q named all.place) things g (object_at things i).bytes (now g)) at
    (one_global q named all.place things now before g after 0 (subst (λ (gs : List FlowGlobal). GlobalsInMachine q named all.place things gs 0 (map now gs)) is all.each))

-- ---- the first call

pub first_is : (f : LineFn) (stack : ℕ) (gs : List Frame) → first_active f gs ≡ (first_call f stack gs).0
first_is f stack [] = refl
first_is f stack (g ∷ gs) = first_is g.function g.stack gs

-- ---- room on the stack

tail_names : (f g : List ℕ) (xs ys : List (List ℕ)) → f ∷ xs ≡ g ∷ ys → xs ≡ ys
tail_names f g xs ys e = cc

-- those that were active before a call had room
pub callers_fit : (q : Program) (m : Map) (k : ℕ) (core : Core) (n : Noted) (call : NotesCall m k core n) → told_active n.log ≡ own_active n.calls → HadRoom q n.log
    → sum_by q.frame_of (own_active call.callers) ≤ q.stack
callers_fit q m k core n call own had =
    let gs = noting.globals_in m core call.callers in
    let rs = noting.kept core in
    let logged : HadRoom q (Called call.function gs rs ∷ call.before) = subst (λ (l : List (Event ℕ ℕ)). HadRoom q l) call.called had in
    let told : names_active (Called call.function gs rs ∷ call.before) ≡ own_active (call_from call.function core ∷ call.callers) =
    sym (ap (λ (l : List (Event ℕ ℕ)). names_active l) call.called) ∙ own ∙ ap own_active call.active in
    let names : call.function ∷ names_active call.before ≡ call.function ∷ own_active call.callers = sym (names_called call.function gs rs call.before) ∙ told in
    subst (λ (ns : List (List ℕ)). sum_by q.frame_of ns ≤ q.stack) (tail_names call.function call.function (names_active call.before) (own_active call.callers) names) logged.0

abbrev pub FramesOf : Program → Setting → Type 0
FramesOf q x = (g : LineFn) → Contains x.program.functions g → q.frame_of g.located.body.name ≡ g.located.frame

sum_frames : (q : Program) (x : Setting) → FramesOf q x → (gs : List Frame) → AllByRecursion (IsCaller x) gs → sum_by q.frame_of (map name_of gs) ≡ sum_by (λ (g : Frame). g.function.located.frame) gs
sum_frames q x each [] are = refl
sum_frames q x each (g ∷ gs) are =
    let own : q.frame_of (name_of g) ≡ g.function.located.frame = each g.function are.0.there in
    let rest = sum_frames q x each gs are.1 in
    let named = sum_by-cons q.frame_of (name_of g) (map name_of gs) in
    let all = sum_by-cons (λ (h : Frame). h.function.located.frame) g gs in
    let same : sum_by q.frame_of (name_of g ∷ map name_of gs) ≡ sum_by (λ (h : Frame). h.function.located.frame) (g ∷ gs) = omega (arith, own, rest, named, all) in
    same

-- so have their frames
pub frames_fit : (q : Program) (x : Setting) → FramesOf q x → (gs : List Frame) → AllByRecursion (IsCaller x) gs → (calls : List Call) → calls_behind x gs ≡ calls → sum_by q.frame_of (own_active calls) ≤ q.stack
    → sum_by (λ (g : Frame). g.function.located.frame) gs ≤ q.stack
frames_fit q x each gs are calls same fits =
    let names : own_active calls ≡ map name_of gs = ap own_active (sym same) ∙ own_names x gs in
    let there : sum_by q.frame_of (own_active calls) ≡ sum_by q.frame_of (map name_of gs) = ap (λ (ns : List (List ℕ)). sum_by q.frame_of ns) names in
    let sums = sum_frames q x each gs are in
    omega (arith, fits, there, sums)

pub all_mapped : (P Q : Located → Type 0) → ((l : Located) → P l → Q l) → (ls : List Located) → AllByRecursion P ls → AllByRecursion Q ls
all_mapped P Q f [] all = tt
all_mapped P Q f (l ∷ ls) all = (f l all.0, all_mapped P Q f ls all.1)
