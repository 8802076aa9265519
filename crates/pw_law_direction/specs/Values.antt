-- Values of a run that lead to no function whose address nothing takes, and to no global that a register may hold.
use Rattle.std.specs.Prelude.{ℕ, ◌≡◌, ◌≢◌, ◌≤◌, true, Some, List, Contains, length}
use Rattle.std.specs.List.{AllByRecursion}
use Rattle.pw_value.specs.declared.value.Value.{Value}
use Rattle.pw_value.specs.declared.value.Value.TheVariants.{At, Piece}
use Rattle.pw_value.specs.declared.value.Byte.{Byte}
use Rattle.pw_value.specs.declared.value.Byte.TheVariants as B
use Rattle.pw_value.specs.declared.value.Pointer.{Pointer}
use Rattle.pw_value.specs.declared.value.Pointer.TheVariants as P
use Rattle.pw_value.specs.Objects.{Object}
use Rattle.pw_run_languages.specs.Programs.{Program, globals_of, function_at, global_number}
use Rattle.pw_run_languages.specs.LawfulPrograms.{has_name, taken_names, eligible_names}
use Rattle.pw_run_languages.specs.PlacedRun.{Frame, Machine}

abbrev pub IsTaken : Program → List ℕ → Type 0
IsTaken p f = has_name (taken_names p) f ≡ true

-- a pointer to an object that no register may hold, or to a function whose address is taken
abbrev pub FinePointer : Program → Pointer → Type 0
FinePointer p (P.Object o i) = (g : List ℕ) → Contains (eligible_names p) g → global_number p g ≢ Some o
FinePointer p (P.Function n) = (f : List ℕ) → function_at p n ≡ Some f → IsTaken p f

abbrev pub FineValue : Program → Value → Type 0
FineValue p (At x) = FinePointer p x
FineValue p (Piece x i) = FinePointer p x
FineValue p v = Unit {0}

abbrev pub FineByte : Program → Byte → Type 0
FineByte p (B.Piece x i) = FinePointer p x
FineByte p b = Unit {0}

abbrev pub FineObject : Program → Object → Type 0
FineObject p o = AllByRecursion (FineByte p) o.bytes

-- the global objects, and those made since
abbrev pub FineObjects : Program → List Object → Type 0
FineObjects p objects = AllByRecursion (FineObject p) objects × (length (globals_of p) ≤ length objects)

-- the slots of a function stand behind the global objects
pub record FineFrame (p : Program) (f : Frame) : Type 0 where
  pub temps : AllByRecursion (FineValue p) f.temps
  pub saved : AllByRecursion (λ s. FineValue p s.1) f.saved
  pub base : length (globals_of p) ≤ f.base

-- all values of a state
pub record AreFine (p : Program) (m : Machine) : Type 0 where
  pub frame : FineFrame p m.frame
  pub callers : AllByRecursion (FineFrame p) m.callers
  pub registers : (r : ℕ) → FineValue p (m.registers r)
  pub objects : FineObjects p m.objects
