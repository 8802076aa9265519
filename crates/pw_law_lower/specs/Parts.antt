-- Initialisers of locals by a list in braces or a string that have no part. In a text there is none (C90 6.5.7).
use Rattle.std.specs.Prelude.{ℕ, ◌+◌, [], ◌∷◌, sum_by}
use Rattle.pw_types.specs.TypedTrees.{Initialiser, Value, Bytes, Statement, Block, If, While, Do, For, Switch, Label, Arms, NoArm, Arm, Otherwise, NoElse, Else, Statements, NoStatement, OneStatement}

abbrev pub partless_in : Initialiser → ℕ
partless_in (Value k e) = 0
partless_in (Bytes k hidden []) = 1
partless_in (Bytes k hidden (e ∷ rest)) = 0

-- how many stand in a statement
abbrev mutual
  pub partless : Statement → ℕ
  partless (Block t first count initialisers items) = sum_by partless_in initialisers + partless_among items
  partless (If t arms otherwise) = partless_of_arms arms + partless_behind otherwise
  partless (While t e body) = partless body
  partless (Do t body e) = partless body
  partless (For t a b c body) = partless body
  partless (Switch t e cases default body) = partless body
  partless (Label t labels body) = partless body
  partless s = 0

  pub partless_among : Statements → ℕ
  partless_among NoStatement = 0
  partless_among (OneStatement s rest) = partless s + partless_among rest

  pub partless_of_arms : Arms → ℕ
  partless_of_arms NoArm = 0
  partless_of_arms (Arm t e body rest) = partless body + partless_of_arms rest

  pub partless_behind : Otherwise → ℕ
  partless_behind NoElse = 0
  partless_behind (Else s) = partless s
