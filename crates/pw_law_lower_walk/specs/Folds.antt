-- What holds of each node of an expression, and of each expression and initialiser of a statement.
use Rattle.std.specs.List.{AllByRecursion}
use Rattle.pw_types.specs.TypeTrees.{QType}
use Rattle.pw_types.specs.TypedTrees.{Expression, Node, Form, Expressions, NoExpression, OneExpression, Initialiser, Statement, Statements, NoStatement, OneStatement, Arms, NoArm, Arm, Otherwise, NoElse, Else}
use Rattle.pw_types.specs.TypedTrees as T
use Rattle.pw_law_lower_walk.specs.Parts.{IfAny}

-- ---- expressions

abbrev mutual
  -- of each node, by its type, its form, and what is said of its parts
  pub OverNodes : (QType → Form → Type 0 → Type 0) → Expression → Type 0
  OverNodes own (Node t y form) = own y form (OverParts own form)

  pub OverParts : (QType → Form → Type 0 → Type 0) → Form → Type 0
  OverParts own (T.Unary op a) = OverNodes own a
  OverParts own (T.Binary op a b) = OverNodes own a × OverNodes own b
  OverParts own (T.Logic op a b) = OverNodes own a × OverNodes own b
  OverParts own (T.Cond c a b) = OverNodes own c × OverNodes own a × OverNodes own b
  OverParts own (T.Comma a b) = OverNodes own a × OverNodes own b
  OverParts own (T.Assign a b) = OverNodes own a × OverNodes own b
  OverParts own (T.Compound op working a b) = OverNodes own a × OverNodes own b
  OverParts own (T.Step op a) = OverNodes own a
  OverParts own (T.Cast a) = OverNodes own a
  OverParts own (T.Decay a) = OverNodes own a
  OverParts own (T.Member a offset) = OverNodes own a
  OverParts own (T.Deref a) = OverNodes own a
  OverParts own (T.Address a) = OverNodes own a
  OverParts own (T.Call symbol args) = OverArguments own args
  OverParts own (T.CallValue a args) = OverNodes own a × OverArguments own args
  OverParts own leaf = Unit {0}

  pub OverArguments : (QType → Form → Type 0 → Type 0) → Expressions → Type 0
  OverArguments own NoExpression = Unit {0}
  OverArguments own (OneExpression e es) = OverNodes own e × OverArguments own es

-- what holds of a node beside what holds of its parts
abbrev pub Beside : (QType → Form → Type 0) → QType → Form → Type 0 → Type 0
Beside P y form rest = P y form × rest

-- by its type and its form
abbrev pub EachNode : (QType → Form → Type 0) → Expression → Type 0
EachNode P e = OverNodes (Beside P) e

abbrev pub EachNodeIn : (QType → Form → Type 0) → Form → Type 0
EachNodeIn P form = OverParts (Beside P) form

abbrev pub EachNodeAmong : (QType → Form → Type 0) → Expressions → Type 0
EachNodeAmong P args = OverArguments (Beside P) args

-- ---- statements

abbrev mutual
  pub InStatement : (Expression → Type 0) → (Initialiser → Type 0) → Statement → Type 0
  InStatement N I (T.Evaluate t e) = N e
  InStatement N I (T.Block t first count initialisers items) = AllByRecursion I initialisers × InStatements N I items
  InStatement N I (T.If t arms otherwise) = InArms N I arms × InOtherwise N I otherwise
  InStatement N I (T.While t e body) = N e × InStatement N I body
  InStatement N I (T.Do t body e) = N e × InStatement N I body
  InStatement N I (T.For t a b c body) = IfAny N a × IfAny N b × IfAny N c × InStatement N I body
  InStatement N I (T.Switch t e cases default body) = N e × InStatement N I body
  InStatement N I (T.Label t labels body) = InStatement N I body
  InStatement N I (T.Return t e) = IfAny N e
  InStatement N I s = Unit {0}

  pub InStatements : (Expression → Type 0) → (Initialiser → Type 0) → Statements → Type 0
  InStatements N I NoStatement = Unit {0}
  InStatements N I (OneStatement s rest) = InStatement N I s × InStatements N I rest

  pub InArms : (Expression → Type 0) → (Initialiser → Type 0) → Arms → Type 0
  InArms N I NoArm = Unit {0}
  InArms N I (Arm t e body rest) = N e × InStatement N I body × InArms N I rest

  pub InOtherwise : (Expression → Type 0) → (Initialiser → Type 0) → Otherwise → Type 0
  InOtherwise N I NoElse = Unit {0}
  InOtherwise N I (Else s) = InStatement N I s
