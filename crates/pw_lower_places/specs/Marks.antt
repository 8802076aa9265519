-- The locals whose address is taken, as a mark for each local.
use Rattle.std.specs.Prelude.{ℕ, ◌+◌, Bool, ◌||◌, List, [], ◌∷◌, ◌++◌}
use Rattle.pw_types.specs.Spines.{first_of}
use Rattle.pw_types.specs.TypedTrees.{Expression, Form, Address, Binary, Logic, Cond, Comma, Assign, Compound, Call, CallValue}
use Rattle.pw_lower.specs.Places.{has, local_in, addressed_in, addressed_in_all, addressed_in_option}

abbrev pub marked_from : ℕ → List ℕ → List Bool → List Bool
marked_from k locals [] = []
marked_from k locals (mark ∷ rest) = (mark || has k locals) ∷ marked_from (k + 1) locals rest

-- the marks, and those of these locals
abbrev pub marked : List ℕ → List Bool → List Bool
marked locals marks = marked_from 0 locals marks

-- what a node adds to its first operand
abbrev pub addressed_beside : Form → List ℕ
addressed_beside (Address a) = local_in a
addressed_beside (Binary o a b) = addressed_in b
addressed_beside (Logic o a b) = addressed_in b
addressed_beside (Cond a b c) = addressed_in b ++ addressed_in c
addressed_beside (Comma a b) = addressed_in b
addressed_beside (Assign a b) = addressed_in b
addressed_beside (Compound o ty a b) = addressed_in b
addressed_beside (Call s args) = addressed_in_all args
addressed_beside (CallValue a args) = addressed_in_all args
addressed_beside _ = []

abbrev pub addressed_first : Expression → List ℕ
addressed_first e = addressed_in_option (first_of e)
