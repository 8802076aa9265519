-- What stands in a statement, as a list in the order of the text.
use Rattle.std.specs.Prelude.{ℕ, List, [], ◌++◌}
use Rattle.pw_types.specs.TypedTrees.{Initialiser, Statement, Block, If, While, Do, For, Switch, Label, Arms, NoArm, Arm, Otherwise, NoElse, Else, Statements, NoStatement, OneStatement}

-- of each statement its own, before that of its parts; and of each block that of its initialisers
abbrev mutual
  pub collected : {X : Type 0} → (Statement → List X → List X) → (List Initialiser → List X) → Statement → List X
  collected own start (Block t first count initialisers items) =
      own (Block t first count initialisers items) (start initialisers ++ collected_among own start items)
  collected own start (If t arms otherwise) =
      own (If t arms otherwise) (collected_of_arms own start arms ++ collected_behind own start otherwise)
  collected own start (While t e body) = own (While t e body) (collected own start body)
  collected own start (Do t body e) = own (Do t body e) (collected own start body)
  collected own start (For t a b c body) = own (For t a b c body) (collected own start body)
  collected own start (Switch t e cases default body) = own (Switch t e cases default body) (collected own start body)
  collected own start (Label t labels body) = own (Label t labels body) (collected own start body)
  collected own start s = own s []

  pub collected_among : {X : Type 0} → (Statement → List X → List X) → (List Initialiser → List X) → Statements → List X
  collected_among own start NoStatement = []
  collected_among own start (OneStatement s rest) = collected own start s ++ collected_among own start rest

  pub collected_of_arms : {X : Type 0} → (Statement → List X → List X) → (List Initialiser → List X) → Arms → List X
  collected_of_arms own start NoArm = []
  collected_of_arms own start (Arm t e body rest) = collected own start body ++ collected_of_arms own start rest

  pub collected_behind : {X : Type 0} → (Statement → List X → List X) → (List Initialiser → List X) → Otherwise → List X
  collected_behind own start NoElse = []
  collected_behind own start (Else s) = collected own start s
