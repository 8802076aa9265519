-- The lines of an operation do what the placed run does.
use Rattle.std.specs.Prelude.{ℕ, ◌≡◌, false, Some, None, List, ◌++◌}
use Rattle.pw_flow.specs.declared.flow.Op.TheVariants as op
use Rattle.pw_inst.specs.declared.line.Line.{Line}
use Rattle.pw_webflow.specs.declared.web.WebOp.{WebOp}
use Rattle.pw_webflow.specs.declared.web.WebOp.TheVariants.{Flow, Read, Write}
use Rattle.pw_webflow.specs.ValidWebs.{IsWebOp, IsWebFn}
use Rattle.pw_webflow.specs.WebOutline.{calls}
use Rattle.pw_alloc.specs.declared.located.Located.{Located}
use Rattle.pw_delay.specs.declared.items.Item.{Item}
use Rattle.pw_delay.specs.Items.{slotted}
use Rattle.pw_run_languages.specs.Programs.{Program}
use Rattle.pw_run_languages.specs.LawfulPrograms.{IsProgram, NamesRightly}
use Rattle.pw_run_languages.specs.Addresses.{Addresses}
use Rattle.pw_run_languages.specs.LineRun.{Machine}
use Rattle.pw_run_languages.specs.PlacedRun as placed
use Rattle.pw_run_languages.specs.Direction.{with_functions}
use Rattle.pw_run_languages.specs.SelectionLaws.{line_program}
use Rattle.pw_select_lines.specs.Operations.{Layout, layout, web_op_lines}
use Rattle.pw_select_lines.specs.Arithmetic.{routine_of}
use Rattle.pw_select.specs.Selection.{slot_offsets}
use Rattle.pw_law_select_states.specs.Pointers.{AreKnown}
use Rattle.pw_law_select_states.specs.States.{Stands}
use Rattle.pw_law_select_states.specs.Passes.{Follows}
use Rattle.pw_law_select_places.specs.Places.{IsServed}

-- where the temporaries and slots of a function stand
abbrev pub layout_of : Located → Layout
layout_of f = layout f.places (slot_offsets f)

-- the names of an operation of a directed graph
abbrev pub NamesAreRight : Program → WebOp → Type 0
NamesAreRight p (Flow o) = NamesRightly p o
NamesAreRight p _ = Unit {0}

-- Both runs stand at an operation of the active function: the placed run's state stands in words, and of the function's items
-- those are left that the operation's lines give, and those of more lines.
pub record StandAt (p : Program) (functions : List Located) (w : Addresses) (site : ℕ → ℕ) (o : WebOp) (m : placed.Machine) (l : Machine) (before : List Item) (more : List Line) : Type 0 where
  pub program : IsProgram p
  pub served : IsServed (line_program p functions) w m
  pub body : IsWebFn m.frame.function.body
  pub known : AreKnown p m
  pub op : IsWebOp m.frame.function.body o
  pub names : NamesAreRight p o
  pub stands : Stands p w site m l.core
  pub left : l.frame.left ≡ slotted (web_op_lines (layout_of m.frame.function) o ++ more)
  pub items : l.frame.function.items ≡ before ++ l.frame.left

-- where the placed run does the operation, the lines follow
abbrev pub OperationFollows : WebOp → Type 0
OperationFollows o =
    (p : Program) (functions : List Located) (w : Addresses) (scratch : ℕ → (ℕ → ℕ) → ℕ → ℕ) (site : ℕ → ℕ) (m n : placed.Machine) (l : Machine) (before : List Item) (more : List Line)
    → StandAt p functions w site o m l before more → placed.does (with_functions p functions) o m ≡ placed.On n
    → Follows p (line_program p functions) w scratch site m n l (slotted more)

-- ---- kinds of operations

-- one that makes a value of others, without a routine
abbrev pub Computes : WebOp → Type 0
Computes (Flow (op.Const t n)) = Unit {0}
Computes (Flow (op.Copy t a)) = Unit {0}
Computes (Flow (op.Un k t a)) = Unit {0}
Computes (Flow (op.Bin k t a b)) = routine_of k ≡ None
Computes (Flow (op.Ext k t a)) = Unit {0}
Computes (Flow (op.AddrGlobal t g n)) = Unit {0}
Computes (Flow (op.AddrSlot t s)) = Unit {0}
Computes (Flow (op.AddrFn t f)) = Unit {0}
Computes (Read t r) = Unit {0}
Computes (Write r a) = Unit {0}
Computes _ = ⊥

-- one that a routine does
abbrev pub TakesRoutine : WebOp → Type 0
TakesRoutine (Flow (op.Bin k t a b)) = (n : ℕ) × (routine_of k ≡ Some n)
TakesRoutine _ = ⊥

-- one that loads or stores a scalar global by its name
abbrev pub NamesGlobal : WebOp → Type 0
NamesGlobal (Flow (op.LoadG t g k)) = Unit {0}
NamesGlobal (Flow (op.StoreG g a k)) = Unit {0}
NamesGlobal _ = ⊥

-- one that loads or stores a scalar where a pointer leads
abbrev pub GoesByPointer : WebOp → Type 0
GoesByPointer (Flow (op.Load k t a)) = Unit {0}
GoesByPointer (Flow (op.Store k a b)) = Unit {0}
GoesByPointer _ = ⊥

-- one that copies bytes
abbrev pub CopiesBytes : WebOp → Type 0
CopiesBytes (Flow (op.Move a b size unit)) = Unit {0}
CopiesBytes _ = ⊥

abbrev pub ComputationsFollow : Type 0
ComputationsFollow = (o : WebOp) → Computes o → OperationFollows o

abbrev pub RoutinesFollow : Type 0
RoutinesFollow = (o : WebOp) → TakesRoutine o → OperationFollows o

abbrev pub NamedGlobalsFollow : Type 0
NamedGlobalsFollow = (o : WebOp) → NamesGlobal o → OperationFollows o

abbrev pub AccessesFollow : Type 0
AccessesFollow = (o : WebOp) → GoesByPointer o → OperationFollows o

abbrev pub CopiesFollow : Type 0
CopiesFollow = (o : WebOp) → CopiesBytes o → OperationFollows o

-- all that call no function
abbrev pub OperationsFollow : Type 0
OperationsFollow = (o : WebOp) → calls o ≡ false → OperationFollows o
