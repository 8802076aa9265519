-- The bytes of the objects that live for the whole run.
use Rattle.std.specs.Prelude.{ℕ, ◌≡◌, List, ◌∷◌, ◌++◌, length}
use Rattle.std.specs.List.{AllByRecursion}
use Rattle.pw_value.specs.declared.value.Byte.{Byte}
use Rattle.pw_value.specs.Objects.{Object, object_at}
use Rattle.pw_flow.specs.declared.flow.FlowGlobal.{FlowGlobal}
use Rattle.pw_run_languages.specs.Programs.{Program, globals_of}
use Rattle.pw_run_languages.specs.FlowRun as flow
use Rattle.pw_cmean.specs.Acts as source
use Rattle.pw_cmean.specs.Typed.{IsByte}

-- There are so many bytes, and each that is a number is one of eight bits.
pub record HasItsBytes (size : ℕ) (bytes : List Byte) : Type 0 where
  pub long : length bytes ≡ size
  pub small : AllByRecursion IsByte bytes

-- the object of each global of the program has its bytes
abbrev pub HaveTheirBytes : Program → List Object → Type 0
HaveTheirBytes p objects = (before after : List FlowGlobal) (g : FlowGlobal) → globals_of p ≡ before ++ g ∷ after → HasItsBytes g.size (object_at objects (length before)).bytes

-- so it has at a call or a return of the flow graphs
abbrev pub HaveTheirBytesThen : Program → flow.Moment → Type 0
HaveTheirBytesThen p (flow.Called f objects) = HaveTheirBytes p objects
HaveTheirBytesThen p (flow.Returned f objects) = HaveTheirBytes p objects

-- and at one of the C program that they implement
abbrev pub HaveTheirBytesInC : Program → source.Moment → Type 0
HaveTheirBytesInC p (source.Called f objects) = HaveTheirBytes p objects
HaveTheirBytesInC p (source.Returned f objects) = HaveTheirBytes p objects
