-- The laws of lowering, from what its code adds.
use Rattle.std.proofs.Common.{◌≡◌, ℕ, ◌≤◌, List, arith}
use Rattle.pw_value.specs.Limits.{room_limit}
use Rattle.pw_flow.specs.ValidFlow.{IsFunction as IsFlowFunction}
use Rattle.pw_law_lower.specs.Bounds.{IsFunctionBounded}
use Rattle.pw_law_lower.proofs.LawfulFunctions.{lawful_function}
use Rattle.pw_types.specs.Rooms.{room_of, start_room}
use Rattle.pw_types.specs.TypedModules.{IsFunction}
use Rattle.pw_types.specs.TypedTrees.{Expression, Statement, FunctionValue, ModuleValue}
use Rattle.pw_lower.specs.declared.code.Code.{Code}
use Rattle.pw_lower.specs.declared.place.Ways.{Ways}
use Rattle.pw_lower.specs.Expressions.{Home, lower}
use Rattle.pw_lower.specs.Statements.{Frame, lower_statement}
use Rattle.pw_flow.specs.FrameRooms.{flow_room}
use Rattle.pw_lower.specs.Modules.{lowered_function, start_function}
use Rattle.pw_law_lower.specs.Kept.{Keeps}
use Rattle.pw_law_lower.specs.Parts.{partless}
use Rattle.pw_law_lower.proofs.Expressions.{lower-adds}
use Rattle.pw_law_lower.proofs.Statements.{statement-adds}
use Rattle.pw_law_lower.proofs.CaseLabels.{few_cases}
use Rattle.pw_law_lower.specs.Ranges.{IsFunctionInRange}
use Rattle.pw_law_lower.proofs.SoundFunctions.{function-in}
use Rattle.pw_law_lower.proofs.Rooms.{function-fits, start-fits}

pub expression_keeps : (h : Home) (e : Expression) (c : Code) → Keeps c (lower h e c).code
expression_keeps h e c = (lower-adds h e c).keeps

pub statement_keeps : (f : Frame) (ways : Ways) (s : Statement) (c : Code) → Keeps c (lower_statement f ways s c)
statement_keeps f ways s c = (statement-adds f ways s c).keeps

pub function_fits : (home : List ℕ) (m : ModuleValue) (f : FunctionValue) → IsFunction m f → partless f.body ≡ 0 → flow_room (lowered_function home m.records f) ≤ room_of m.records f
function_fits home m f h p = function-fits home m.records f (few_cases m f h) p

pub start_fits : flow_room start_function ≤ start_room
start_fits = start-fits

pub function_in_range : (home : List ℕ) (m : ModuleValue) (f : FunctionValue) → IsFunction m f → IsFunctionInRange (lowered_function home m.records f)
function_in_range = function-in

pub function_lawful :
    (home : List ℕ) (m : ModuleValue) (f : FunctionValue)
    → IsFunction m f → partless f.body ≡ 0 → room_of m.records f ≤ room_limit → IsFunctionBounded (lowered_function home m.records f)
    → IsFlowFunction (lowered_function home m.records f)
function_lawful home m f h p r b =
    lawful_function (lowered_function home m.records f) (function-in home m f h) b (omega (arith, r, function_fits home m f h p))
