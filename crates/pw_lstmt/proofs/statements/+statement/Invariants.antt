use Rattle.std.proofs.Common.{◌≡◌, ◌++◌, ◌+◌, drop, length}
use Rattle.pw_lower.specs.Statements.{lower_statements}
use Rattle.pw_typed.specs.Views.{view_stmts, view_arms}
use Rattle.pw_lstmt.specs.Frames.{view_frame, arms_code, joins_of}
use Rattle.pw_lstmt.proofs.statements.+statement.Given as goal

-- the statements that are left are still to be lowered
abbrev pub invariant-lower_statements-loop-s : goal.invariant-lower_statements-loop-s
invariant-lower_statements-loop-s l =
    lower_statements (view_frame l.frame) l.ways (view_stmts (drop l.s-index l.all)) l.code
    ≡ lower_statements (view_frame l.frame) l.ways (view_stmts l.all) l.fn.code

-- the arms that are left are still to be lowered
abbrev pub invariant-lower_arms-loop-arm : goal.invariant-lower_arms-loop-arm
invariant-lower_arms-loop-arm l =
    (arms_code (view_frame l.frame) l.ways l.is_more (view_arms (drop l.arm-index l.arms)) l.code ≡ arms_code (view_frame l.frame) l.ways l.is_more (view_arms l.arms) l.fn.code)
    × (l.joins.items ++ joins_of (view_frame l.frame) l.ways l.is_more (view_arms (drop l.arm-index l.arms)) l.code ≡ joins_of (view_frame l.frame) l.ways l.is_more (view_arms l.arms) l.fn.code)
    × (l.left + l.arm-index ≡ length l.arms)
