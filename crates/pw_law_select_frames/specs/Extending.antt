-- Objects that are new, or that ended: the others stand where they stood, and functions that wait find their frames.
use Rattle.std.specs.Prelude.{ℕ, ◌≡◌, ◌+◌, ◌^◌, ◌<◌, ◌≤◌, ◌⊎◌, List, length}
use Rattle.std.specs.List.{AllByRecursion}
use Rattle.pw_value.specs.declared.value.Value.{Value}
use Rattle.pw_value.specs.Objects.{Object}
use Rattle.pw_run_languages.specs.Programs.{Program}
use Rattle.pw_run_languages.specs.Addresses.{Addresses}
use Rattle.pw_run_languages.specs.Standing.{ValueStands}
use Rattle.pw_run_languages.specs.LineRun.{Frame}
use Rattle.pw_run_languages.specs.PlacedRun as placed
use Rattle.pw_law_select_states.specs.Laid.{address, Lives, size_of}
use Rattle.pw_law_select_states.specs.Pointers.{ValueIsKnown, FrameIsKnown}
use Rattle.pw_law_select_frames.specs.Chain.{AllWait}

-- each object that there has been stands where it stood; those that live lived before, and are as long
pub record KeepsObjects (site after : ℕ → ℕ) (objects now : List Object) : Type 0 where
  pub sites : (o : ℕ) → o < length objects → after o ≡ site o
  pub lives : (o : ℕ) → o < length objects → Lives now o → Lives objects o
  pub sizes : (o : ℕ) → o < length objects → size_of now o ≡ size_of objects o

-- pointers of the frames of a state lead somewhere
pub record FramesAreKnown (p : Program) (m : placed.Machine) : Type 0 where
  pub frame : FrameIsKnown p (length m.objects) m.frame
  pub callers : AllByRecursion (FrameIsKnown p (length m.objects)) m.callers

-- no live object has the byte
abbrev pub IsFree : (ℕ → ℕ) → List Object → ℕ → Type 0
IsFree site objects a = (o : ℕ) → Lives objects o → (a < site o) ⊎ (site o + size_of objects o ≤ a)

-- a word stands for the same value
abbrev pub ValuesGoOn : Type 0
ValuesGoOn =
    (p : Program) (w : Addresses) (site after : ℕ → ℕ) (count : ℕ) (v : Value) (n : ℕ) → ((o : ℕ) → o < count → after o ≡ site o) → ValueIsKnown p count v
    → ValueStands (address p w site) v n → ValueStands (address p w after) v n

-- Functions wait as they did, where new objects stand above the stack pointer at the call of the one that runs, and memory
-- below it is as it was but for bytes of live objects.
abbrev pub WaitingGoesOn : Type 0
WaitingGoesOn =
    (p : Program) (w : Addresses) (site after : ℕ → ℕ) (objects now : List Object) (memory later : ℕ → ℕ) (callee : placed.Frame) (stack : ℕ) (fs : List placed.Frame) (ls : List Frame)
    → stack < 2 ^ 32 → callee.base ≤ length objects → KeepsObjects site after objects now → ((o : ℕ) → length objects ≤ o → Lives now o → stack ≤ after o)
    → ((b : ℕ) → b < stack → IsFree site objects b → later b ≡ memory b) → AllByRecursion (FrameIsKnown p (length objects)) fs
    → AllWait p w site objects memory callee stack fs ls → AllWait p w after now later callee stack fs ls
