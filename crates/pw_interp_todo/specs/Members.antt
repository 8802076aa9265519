-- What statements hold, from a place on (ISO C90 6.6). A statement that holds no such thing holds an empty one.
use Rattle.std.specs.Prelude.{ℕ, zero, suc, List, [], ◌++◌}
use Rattle.pw_types.specs.TypedTrees.{Statement, Block, If, Label, Statements, NoStatement, OneStatement, Arms, NoArm, Arm, Otherwise, NoElse, Initialiser}
use Rattle.pw_types.specs.Labels.{labels_among, labels_of_arms, labels_behind}

-- ---- blocks

abbrev pub first_in : Statement → ℕ
first_in (Block t first count initialisers list) = first
first_in _ = 0

abbrev pub count_in : Statement → ℕ
count_in (Block t first count initialisers list) = count
count_in _ = 0

abbrev pub initialisers_in : Statement → List Initialiser
initialisers_in (Block t first count initialisers list) = initialisers
initialisers_in _ = []

abbrev pub members_in : Statement → Statements
members_in (Block t first count initialisers list) = list
members_in _ = NoStatement

abbrev pub members_from : ℕ → Statements → Statements
members_from zero list = list
members_from (suc i) NoStatement = NoStatement
members_from (suc i) (OneStatement s rest) = members_from i rest

-- ---- an `if`

abbrev pub arms_in : Statement → Arms
arms_in (If t list otherwise) = list
arms_in _ = NoArm

abbrev pub otherwise_in : Statement → Otherwise
otherwise_in (If t list otherwise) = otherwise
otherwise_in _ = NoElse

abbrev pub arms_from : ℕ → Arms → Arms
arms_from zero list = list
arms_from (suc i) NoArm = NoArm
arms_from (suc i) (Arm t c body rest) = arms_from i rest

-- ---- labels

-- the labels to which a statement takes up gotos
abbrev pub taken_in : Statement → List ℕ
taken_in (Block t first count initialisers list) = labels_among list
taken_in (If t list otherwise) = labels_of_arms list ++ labels_behind otherwise
taken_in (Label t labels body) = labels
taken_in _ = []
