-- A global of a program as the debugger tells of it, and the functions that are active at a call.
use Rattle.std.specs.Prelude.{ℕ, ◌≡◌, Some, List, ◌∷◌, ◌++◌, length}
use Rattle.std.specs.List.{AllByRecursion}
use Rattle.pw_value.specs.declared.value.Kind.{Kind}
use Rattle.pw_flow.specs.ValidFlow.{kind_size}
use Rattle.pw_flow.specs.declared.flow.FlowGlobal.{FlowGlobal}
use Rattle.pw_image.specs.declared.image.GlobalObject.{GlobalObject}
use Rattle.pw_image.specs.declared.image.Image.{Image}
use Rattle.pw_run_languages.specs.Programs.{Program, globals_of}
use Rattle.pw_run_languages.specs.LinkingLaws.{address_of}
use Rattle.pw_run_languages.specs.Standing.{Active}
use Rattle.pw_machine.specs.Core.{Core}
use Rattle.pw_debug.specs.Walk.{Seen, start_of}
use Rattle.pw_law_walk.specs.Chains.{Callers, StandsInMemory}
use Rattle.pw_cmean.specs.Worlds as source
use Rattle.pw_cmean.specs.Worlds.{World}
use Rattle.pw_law_pause.specs.Moments.{noted_within}
use Rattle.pw_law_calls.specs.Calls.{IsSourceCall}
use Rattle.pw_value.specs.Objects.{Object as Thing}

-- it has this number among the program's, this kind, and this object in the map
pub record IsTold (q : Program) (v : Image) (number : ℕ) (g : FlowGlobal) (kind : Kind) (object : GlobalObject) : Type 0 where
  pub before : List FlowGlobal
  pub after : List FlowGlobal
  pub is : globals_of q ≡ before ++ g ∷ after
  pub count : length before ≡ number
  pub kind_is : g.kind ≡ Some kind
  pub size : g.size ≡ kind_size kind
  pub name : g.name ≡ object.name
  pub place : address_of v g.name ≡ object.address

abbrev pub world_of : source.Program → (List ℕ → ℕ) → ℕ → World
world_of p frame_of stack = record { program = p; frame_of = frame_of; stack = stack }

-- Within some bound the program, whose functions take no room on the stack, comes to its k-th call: of this function, where
-- these are the objects. `main` is the first.
pub record IsPause (p : source.Program) (input : List ℕ) (k : ℕ) (f : List ℕ) (things : List Thing) : Type 0 where
  pub bound : ℕ
  pub call : IsSourceCall (noted_within (world_of p (λ f. 0) 0) input bound) k f things

-- it comes to its k-th call, whichever this is
pub record ComesToCall (p : source.Program) (input : List ℕ) (k : ℕ) : Type 0 where
  pub function : List ℕ
  pub things : List Thing
  pub pause : IsPause p input k function things

-- These functions are active in a state of the machine, one behind another as a walk meets them, and the frame of each stands in
-- the memory.
pub record StandAt (looks : Seen) (core : Core) (active : List Active) : Type 0 where
  pub callers : Callers looks (start_of core).stack (start_of core).link active
  pub inside : AllByRecursion StandsInMemory active
