-- From the source to the machine: what the layers' laws give together.
use Rattle.std.specs.Prelude.{ℕ, suc, ◌≡◌, ◌≤◌, ◌%◌, true, Option, Some, None, List, [], ◌∷◌, Contains}
use Rattle.pw_value.specs.declared.value.Kind.{Kind}
use Rattle.pw_value.specs.declared.value.Value.{Value}
use Rattle.pw_value.specs.declared.value.Value.TheVariants as V
use Rattle.pw_value.specs.declared.value.Byte.{Byte}
use Rattle.pw_value.specs.declared.value.Byte.TheVariants as B
use Rattle.pw_value.specs.declared.value.Pointer.{Pointer}
use Rattle.pw_value.specs.declared.value.Pointer.TheVariants as P
use Rattle.pw_value.specs.Objects.{Object as Thing, object_at}
use Rattle.pw_value.specs.ProgramNames.{start_name}
use Rattle.pw_value.specs.Limits.{stack_least}
use Rattle.pw_types.specs.TypedTrees.{FunctionValue}
use Rattle.pw_types.specs.Rooms.{room_of, start_room}
use Rattle.pw_db.specs.declared.database.Directives.{Directives}
use Rattle.pw_db.specs.Database.{IsDatabase}
use Rattle.pw_flow.specs.declared.flow.FlowGlobal.{FlowGlobal}
use Rattle.pw_flow.specs.declared.flow.FlowFn.{FlowFn}
use Rattle.pw_flow.specs.FrameRooms.{flow_room}
use Rattle.pw_alloc.specs.declared.located.Located.{Located}
use Rattle.pw_object.specs.declared.object.Object.{Object}
use Rattle.pw_image.specs.declared.image.Image.{Image}
use Rattle.pw_link.specs.Linking.{linked, size_fault}
use Rattle.pw_machine.specs.Start.{image_start}
use Rattle.pw_lower.specs.Modules.{start_of, start_function}
use Rattle.pw_cmean.specs.Worlds.{Program, ProgramModule, full_name}
use Rattle.pw_cmean.specs.Acts as source
use Rattle.pw_run.specs.Runs.{Stage, Refines, AreAlike, Same}
use Rattle.pw_run_agreement.specs.Agreement.{Agree, IsDefined}
use Rattle.pw_db_sound.specs.Sound.{Sound}
use Rattle.pw_run_languages.specs.Traces.{Standing, InMemory, InPlace, Event, Called, Returned, EventAlike, calls_of, Notes, KeepRegisters}
use Rattle.pw_run_languages.specs.Traffic.{ObeysTraffic}
use Rattle.pw_run_languages.specs.Late.{RefinesLately}
use Rattle.pw_run_languages.specs.Memory.{scalar_of}
use Rattle.pw_run_languages.specs.Programs as flows
use Rattle.pw_run_languages.specs.FlowRun as flow
use Rattle.pw_run_languages.specs.Programs.{functions_of, globals_of, AreBytes, NoneForLibrary}
use Rattle.pw_run_languages.specs.LawfulPrograms.{IsProgram, graph_of}
use Rattle.pw_run_languages.specs.Direction.{directed_functions, MomentAlike}
use Rattle.pw_run_languages.specs.Serving.{AllServe}
use Rattle.pw_run_languages.specs.Standing.{pointer_address, byte_of, EventInWords}
use Rattle.pw_run_languages.specs.LinkingLaws.{AreObjectsOf, AreNamesApart, address_of, frame_in, image_run}
use Rattle.pw_law_source.specs.Source.{source_stages, source_progress, source_runs}
use Rattle.pw_run_languages.specs.PlacementLaws.{DirectionKeeps, PlacesKeep}
use Rattle.pw_run_languages.specs.SelectionLaws.{SelectionKeeps, SelectionKeepsRuns, PlacementKeeps}
use Rattle.pw_run_languages.specs.LinkingLaws.{LinkKeeps, LinkKeepsRuns}
use Rattle.pw_law_source.specs.Lowering.{MomentKept, flow_program, IsAccepted, AreChecked, HaveParts, LoweringKeepsRuns}

-- ---- C values in the machine's words

-- what a pointer makes of a word says nothing where its object has ended
abbrev pub OfLive : List Thing → Pointer → Type 0 → Type 0
OfLive objects (P.Function f) says = says
OfLive objects (P.Object o i) says = (object_at objects o).live ≡ true → says

-- A byte that is a number stands as that, piece i of a pointer as byte i of its address; one that is undefined, or of a
-- pointer to an object that has ended, as any.
abbrev pub ByteInMachine : (Pointer → ℕ) → List Thing → Byte → ℕ → Type 0
ByteInMachine address objects B.Undefined n = Unit {0}
ByteInMachine address objects (B.Num b) n = n ≡ b
ByteInMachine address objects (B.Piece q i) n = OfLive objects q (n ≡ byte_of (address q) i)

-- so do the values of scalars, as words; of a piece of a pointer only the low 8 bits
abbrev pub ValueInMachine : (Pointer → ℕ) → List Thing → Value → ℕ → Type 0
ValueInMachine address objects V.Undefined n = Unit {0}
ValueInMachine address objects (V.Num v) n = n ≡ v
ValueInMachine address objects V.Null n = n ≡ 0
ValueInMachine address objects (V.At q) n = OfLive objects q (n ≡ address q)
ValueInMachine address objects (V.Piece q i) n = OfLive objects q (n % 256 ≡ byte_of (address q) i)

-- the value of a global of a kind, in a register or in the word in which that was saved
abbrev pub ScalarInMachine : (Pointer → ℕ) → List Thing → Option Kind → List Byte → ℕ → Type 0
ScalarInMachine address objects (Some k) bytes n = ValueInMachine address objects (scalar_of k bytes) n
ScalarInMachine address objects None bytes n = ⊥

abbrev pub GlobalInMachine : (Pointer → ℕ) → List Thing → FlowGlobal → List Byte → Standing ℕ ℕ → Type 0
GlobalInMachine address objects g bytes (InMemory words) = AreAlike (ByteInMachine address objects) bytes words
GlobalInMachine address objects g bytes (InPlace word) = ScalarInMachine address objects g.kind bytes word

-- each global stands in its place with its value, and the globals have the addresses of their names
abbrev pub GlobalsInMachine : flows.Program → (List ℕ → ℕ) → (ℕ → ℕ) → List Thing → List FlowGlobal → ℕ → List (Standing ℕ ℕ) → Type 0
GlobalsInMachine p named place objects [] n [] = Unit {0}
GlobalsInMachine p named place objects (g ∷ gs) n (s ∷ ss) =
    (place n ≡ named g.name)
    × GlobalInMachine (pointer_address p named place) objects g (object_at objects n).bytes s
    × GlobalsInMachine p named place objects gs (suc n) ss
GlobalsInMachine p named place objects gs n ss = ⊥

-- for some choice of addresses of the objects
pub record AllInMachine (p : flows.Program) (named : List ℕ → ℕ) (objects : List Thing) (globals : List (Standing ℕ ℕ)) : Type 0 where
  pub place : ℕ → ℕ
  pub each : GlobalsInMachine p named place objects (globals_of p) 0 globals

-- a call or a return of the source, and one of the machine, where a return is that of the innermost call
abbrev pub InMachine : flows.Program → (List ℕ → ℕ) → source.Moment → Event ℕ ℕ → Type 0
InMachine p named (source.Called f objects) (Called g globals registers) = (g ≡ f) × AllInMachine p named objects globals
InMachine p named (source.Returned f objects) (Returned g inner globals before after) =
    (g ≡ f) × (inner ≡ 0) × AllInMachine p named objects globals
InMachine p named m e = ⊥

-- ---- a program and what was made of it

-- a function of the name takes at most so much room
pub record HasRoom (q : flows.Program) (name : List ℕ) (room : ℕ) : Type 0 where
  pub function : FlowFn
  pub there : Contains (functions_of q) function
  pub named : function.name ≡ name
  pub fits : flow_room function ≤ room

-- no function of the program takes more room in the flow graphs than in its source
pub record HaveRooms (p : Program) (q : flows.Program) : Type 0 where
  pub functions : (m : ProgramModule) (f : FunctionValue) → Contains p.modules m → Contains m.tree.functions f →
      HasRoom q (full_name m.name f.name) (room_of m.tree.records f)
  pub start : HasRoom q start_name start_room

-- the program where no function takes room on the stack
abbrev pub roomless : flows.Program → flows.Program
roomless q = record q { frame_of = λ f. 0; stack = 0 }

-- Flow graphs do what the program means, up to an undefined operation if it comes to one, with their frames and their stack,
-- and where no function takes room; and none takes more room than its source: those that lowering gives, or what later passes
-- make of them.
pub record Implements (p : Program) (q : flows.Program) : Type 0 where
  pub program : IsProgram q
  pub runs : (input : List ℕ) → NoneForLibrary q.frame_of → AreBytes input →
      Refines (MomentKept q) (source_progress p q.frame_of q.stack input) (flow.flow_run q input)
  pub progress : (input : List ℕ) → AreBytes input →
      Refines (MomentKept q) (source_progress p (λ f. 0) 0 input) (flow.flow_run (roomless q) input)
  pub rooms : HaveRooms p q

abbrev pub image_of : List Object → ℕ → Image
image_of objects stack = linked objects stack

-- Flow graphs that implement the program, with the frames of the image's map and a lawful stack, sound directives, places
-- that serve, and the objects made with them, which fit into the memory.
pub record IsBuilt (p : Program) (q : flows.Program) (d : List (List ℕ × Directives)) (functions : List Located) (objects : List Object) : Type 0 where
  pub implements : Implements p q
  pub frames : q.frame_of ≡ frame_in (image_of objects q.stack)
  pub names : AreNamesApart q
  pub enough : stack_least ≤ q.stack
  pub database : IsDatabase d
  pub sound : Sound (graph_of q) d
  pub serve : AllServe (directed_functions q d) functions
  pub made : AreObjectsOf q functions objects
  pub fits : size_fault objects q.stack ≡ None

-- ---- what holds of them

pub record Holds (p : Program) (q : flows.Program) (d : List (List ℕ × Directives)) (functions : List Located) (objects : List Object) (input : List ℕ) : Type 0 where
  -- the source agrees with the machine, up to an undefined operation
  pub agree : Agree (source_runs p (frame_in (image_of objects q.stack)) q.stack input) (image_start (image_of objects q.stack).memory) input
  -- each global has its value in its place at each call and return
  pub places : Refines (InMachine q (address_of (image_of objects q.stack)))
      (source_stages p (frame_in (image_of objects q.stack)) q.stack input)
      (calls_of (image_run q functions (image_of objects q.stack) input))
  -- where the source is defined, each return keeps the registers, and the traffic law holds
  pub registers : IsDefined (source_runs p (frame_in (image_of objects q.stack)) q.stack input) → (n : ℕ) →
      Notes (KeepRegisters d) (image_run q functions (image_of objects q.stack) input n)
  pub traffic : IsDefined (source_runs p (frame_in (image_of objects q.stack)) q.stack input) → (n : ℕ) →
      Notes (ObeysTraffic (graph_of q) d) (image_run q functions (image_of objects q.stack) input n)

-- What each layer keeps in the runs of one program, with its flow graphs, its directives and its places: selection and
-- placement at the addresses that linking gives, with the words that the routines leave there.
pub record LayersKeep (p : Program) (q : flows.Program) (d : List (List ℕ × Directives)) (functions : List Located) (objects : List Object) (input : List ℕ) : Type 0 where
  pub lowering : Refines (MomentKept q) (source_progress p (frame_in (image_of objects q.stack)) q.stack input) (flow.flow_run q input)
  pub direction : DirectionKeeps q d input
  pub places : PlacesKeep q d functions input
  pub linking : LinkKeeps q functions (image_of objects q.stack) input
  pub selection : SelectionKeeps q d functions linking.addresses linking.scratch input
  pub placement : PlacementKeeps q functions linking.addresses linking.scratch input

-- What was linked of flow graphs that have rooms, with the frames of the image's map, lawful directives and places that serve:
-- whatever the flow graphs do.
pub record IsLaidOut (p : Program) (q : flows.Program) (d : List (List ℕ × Directives)) (functions : List Located) (objects : List Object) : Type 0 where
  pub program : IsProgram q
  pub rooms : HaveRooms p q
  pub frames : q.frame_of ≡ frame_in (image_of objects q.stack)
  pub database : IsDatabase d
  pub serve : AllServe (directed_functions q d) functions
  pub made : AreObjectsOf q functions objects

-- Each frame is at most its function's room, and the library's functions take none.
pub record FramesFit (p : Program) (v : Image) : Type 0 where
  pub functions : (m : ProgramModule) (f : FunctionValue) → Contains p.modules m → Contains m.tree.functions f →
      frame_in v (full_name m.name f.name) ≤ room_of m.tree.records f
  pub start : (m : ProgramModule) → Contains p.modules m → Contains (start_of m.tree.functions) start_function →
      frame_in v start_name ≤ start_room
  pub library : NoneForLibrary (frame_in v)

-- ---- what follows from the laws of the layers

-- runs each of which refines the one before it, from the source to the machine, which may be late: the last refines the first
abbrev pub RefinementGoesThrough : Type 0
RefinementGoesThrough =
    (p : flows.Program) (named : List ℕ → ℕ) (meaning : ℕ → Stage source.Moment) (graphs : ℕ → Stage flow.Moment)
    (webs places : ℕ → Stage (Event Byte Value)) (lines machine : ℕ → Stage (Event ℕ ℕ)) →
    Refines (MomentKept p) meaning graphs → Refines (MomentAlike p) graphs (calls_of webs) →
    Refines (EventAlike Same Same) webs places → Refines (EventInWords p named) places lines → RefinesLately Same lines machine →
    Refines (InMachine p named) meaning (calls_of machine)

-- the lowered flow graphs of an accepted program take no more room than their source
abbrev pub LoweredHaveRooms : Type 0
LoweredHaveRooms =
    (p : Program) (frame_of : List ℕ → ℕ) (stack : ℕ) → HaveParts p → IsAccepted p frame_of stack → HaveRooms p (flow_program p frame_of stack)

-- by the law of lowering, they implement it
abbrev pub LoweredImplements : Type 0
LoweredImplements =
    LoweringKeepsRuns →
    (p : Program) (frame_of : List ℕ → ℕ) (stack : ℕ) → AreChecked p → HaveParts p → IsAccepted p frame_of stack →
    Implements p (flow_program p frame_of stack)

-- what the layers keep of one program gives what holds of it
abbrev pub LayersHold : Type 0
LayersHold =
    (p : Program) (q : flows.Program) (d : List (List ℕ × Directives)) (functions : List Located) (objects : List Object) (input : List ℕ) →
    LayersKeep p q d functions objects input → Holds p q d functions objects input

-- so do, of a built program, the laws of selection and linking, and those of direction and of places for its directives
-- and its places
abbrev pub LayersCompose : Type 0
LayersCompose =
    SelectionKeepsRuns → LinkKeepsRuns →
    (p : Program) (q : flows.Program) (d : List (List ℕ × Directives)) (functions : List Located) (objects : List Object) (input : List ℕ) →
    IsBuilt p q d functions objects → AreBytes input → DirectionKeeps q d input → PlacesKeep q d functions input →
    Holds p q d functions objects input

-- of what was laid out so, each frame is at most its function's room
abbrev pub AllFramesFit : Type 0
AllFramesFit =
    (p : Program) (q : flows.Program) (d : List (List ℕ × Directives)) (functions : List Located) (objects : List Object) →
    IsLaidOut p q d functions objects → FramesFit p (image_of objects q.stack)
