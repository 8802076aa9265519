-- What statements are lowered in, as plain data; the parts of an `if` and of a `for`.
use Rattle.std.specs.Prelude.{ℕ, ◌+◌, Bool, true, if◌then◌else◌, Option, List, [], ◌∷◌}
use Rattle.pw_flow.specs.declared.flow.End.TheVariants.{Jump, Branch}
use Rattle.pw_typed.specs.Views.{view_locals}
use Rattle.pw_lower.specs.declared.code.Code.{Code}
use Rattle.pw_lower.specs.Codes.{Lowered, temp_of, reserve, cut, cut_here}
use Rattle.pw_lower.specs.declared.place.Ways.{Ways}
use Rattle.pw_lower.specs.Expressions.{Home, lower}
use Rattle.pw_lower.specs.Statements as spec
use Rattle.pw_lower.specs.Statements.{effects, test_or_go, lower_statement}
use Rattle.pw_types.specs.TypedTrees.{Expression, Statement, Arms, NoArm, Arm, Otherwise, NoElse, Else}
use Rattle.pw_lexpr.specs.Homes.{view_home}
use Rattle.pw_lexpr.specs.declared.frame.Frame.{Frame}

abbrev pub view_frame : Frame → spec.Frame
view_frame f = record { home = view_home f.home; locals = view_locals f.locals.now }

-- Behind the condition of an arm: the first of its own blocks is filled from here on. It has three where anything
-- stands behind it, and else two.
abbrev pub arm_opened : Bool → Lowered → Code
arm_opened more x =
    cut_here (Branch (temp_of x) x.code.blocks (x.code.blocks + 1)) x.code.blocks (reserve (if more then 3 else 2) x.code)

-- the last of its blocks, in which the ways join, by the first
abbrev pub join_from : ℕ → Bool → ℕ
join_from so more = if more then so + 2 else so + 1

-- behind its statement: what stands behind the arm is filled from here on, where anything does
abbrev pub arm_closed : ℕ → Bool → Code → Code
arm_closed so more c = if more then cut_here (Jump (so + 2)) (so + 1) c else c

abbrev pub join_of : spec.Frame → Bool → Expression → Code → ℕ
join_of f more e c = join_from (lower f.home e c).code.blocks more

abbrev pub arm_code : spec.Frame → Ways → Bool → Expression → Statement → Code → Code
arm_code f ways more e s c =
    let x = lower f.home e c in
    arm_closed x.code.blocks more (lower_statement f ways s (arm_opened more x))

-- whether anything stands behind an arm, by the arms behind it and whether anything stands behind the last
abbrev pub is_followed : Bool → Arms → Bool
is_followed more NoArm = more
is_followed more (Arm t e s rest) = true

-- arms, behind the last of which something stands or nothing
abbrev pub arms_code : spec.Frame → Ways → Bool → Arms → Code → Code
arms_code f ways more NoArm c = c
arms_code f ways more (Arm t e s rest) c = arms_code f ways more rest (arm_code f ways (is_followed more rest) e s c)

-- the blocks in which their ways join
abbrev pub joins_of : spec.Frame → Ways → Bool → Arms → Code → List ℕ
joins_of f ways more NoArm c = []
joins_of f ways more (Arm t e s rest) c =
    join_of f (is_followed more rest) e c ∷ joins_of f ways more rest (arm_code f ways (is_followed more rest) e s c)

-- what stands behind the last `else`
abbrev pub else_code : spec.Frame → Ways → Otherwise → Code → Code
else_code f ways NoElse c = c
else_code f ways (Else s) c = lower_statement f ways s c

-- joins are closed from the last to the first
abbrev pub all_joined : List ℕ → Code → Code
all_joined [] c = c
all_joined (join ∷ rest) c = cut_here (Jump join) join (all_joined rest c)

-- A `for` up to its body, and behind it: its four blocks are numbered from its head on.
abbrev pub for_opened : Home → Option Expression → Option Expression → Code → Code
for_opened h first condition c =
    let head = c.blocks in
    test_or_go h condition (head + 1) (head + 3) (c.depth + 1)
    (cut (Jump head) head (c.depth + 1) (effects h first (reserve 4 c)))

abbrev pub for_closed : Home → Option Expression → ℕ → ℕ → Code → Code
for_closed h third head outer c =
    cut (Jump head) (head + 3) outer (effects h third (cut (Jump (head + 2)) (head + 2) (outer + 1) c))
