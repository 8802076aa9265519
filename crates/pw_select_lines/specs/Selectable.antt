-- Operations as selection needs them: calls have few arguments, and units of copies are small.
use Rattle.std.specs.Prelude.{◌≤◌, length}
use Rattle.pw_value.specs.Limits.{parameter_limit}
use Rattle.pw_flow.specs.declared.flow.Op.{Op}
use Rattle.pw_flow.specs.declared.flow.Op.TheVariants.{Move, Call, CallInd}
use Rattle.pw_webflow.specs.declared.web.WebOp.{WebOp}
use Rattle.pw_webflow.specs.declared.web.WebOp.TheVariants.{Flow}

abbrev pub HasFewArguments : Op → Type 0
HasFewArguments (Call t f args) = length args ≤ parameter_limit
HasFewArguments (CallInd t a shape args) = length args ≤ parameter_limit
HasFewArguments _ = Unit {0}

abbrev pub HasSmallUnit : Op → Type 0
HasSmallUnit (Move a b size unit) = unit ≤ 4
HasSmallUnit _ = Unit {0}

abbrev pub IsSelectable : WebOp → Type 0
IsSelectable (Flow o) = HasFewArguments o × HasSmallUnit o
IsSelectable _ = Unit {0}
