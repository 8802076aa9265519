-- What holds of each node, or of each expression and initialiser, goes over to the parts.
use Rattle.std.proofs.Common.{ℕ, Option, Some, None, List, [], ◌∷◌}
use Rattle.std.specs.List.{AllByRecursion}
use Rattle.pw_types.specs.TypeTrees.{QType}
use Rattle.pw_types.specs.TypedTrees.{Expression, Form, Node, Expressions, NoExpression, OneExpression, Initialiser, Statement, Arms, NoArm, Arm, Otherwise, NoElse, Else, Statements, NoStatement, OneStatement}
use Rattle.pw_types.specs.TypedTrees as T
use Rattle.pw_law_lower_walk.specs.Parts.{EachExpression, Parts, IfAny, EachStatement, EachArm, InElse, StatementParts}
use Rattle.pw_law_lower_walk.specs.Folds.{EachNode, EachNodeAmong, InStatement, InStatements, InArms, InOtherwise}

module _ (P : QType → Form → Type 0) where
  arguments_each : (args : Expressions) → EachNodeAmong P args → EachExpression (EachNode P) args
  arguments_each NoExpression h = tt
  arguments_each (OneExpression e rest) h = (h.0, arguments_each rest h.1)

  pub node_parts : (t : ℕ) (y : QType) (form : Form) → EachNode P (Node t y form) → Parts (EachNode P) form
  node_parts t y (T.Call s args) h = arguments_each args h.1
  node_parts t y (T.CallValue a args) h = (h.1.0, arguments_each args h.1.1)
  node_parts t y form h = h.1

module _ (N : Expression → Type 0) (I : Initialiser → Type 0) where
  statements_each : (all : Statements) → InStatements N I all → EachStatement (InStatement N I) all
  statements_each NoStatement h = tt
  statements_each (OneStatement s rest) h = (h.0, statements_each rest h.1)

  arms_each : (arms : Arms) → InArms N I arms → EachArm N (InStatement N I) arms
  arms_each NoArm h = tt
  arms_each (Arm t e body rest) h = (h.0, h.1, arms_each rest h.2)

  else_each : (o : Otherwise) → InOtherwise N I o → InElse (InStatement N I) o
  else_each NoElse h = tt
  else_each (Else s) h = h

  pub statement_parts : (s : Statement) → InStatement N I s → StatementParts N I (InStatement N I) (InStatement N I) s
  statement_parts (T.Block t first count initialisers items) h = (h.0, statements_each items h.1)
  statement_parts (T.If t arms otherwise) h = (arms_each arms h.0, else_each otherwise h.1)
  statement_parts s h = h

-- where one property of expressions gives another, and one of initialisers another, so they do of what stands in a statement
module _ (N M : Expression → Type 0) (I J : Initialiser → Type 0) (give : (e : Expression) → N e → M e) (initialise : (i : Initialiser) → I i → J i) where
  any_to : (o : Option Expression) → IfAny N o → IfAny M o
  any_to None h = tt
  any_to (Some e) h = give e h

  initialisers_to : (is : List Initialiser) → AllByRecursion I is → AllByRecursion J is
  initialisers_to [] h = tt
  initialisers_to (i ∷ is) h = (initialise i h.0, initialisers_to is h.1)

  mutual
    pub statement_to : (s : Statement) → InStatement N I s → InStatement M J s
    statement_to (T.Evaluate t e) h = give e h
    statement_to (T.Block t first count initialisers items) h = (initialisers_to initialisers h.0, statements_to items h.1)
    statement_to (T.If t arms otherwise) h = (arms_to arms h.0, else_to otherwise h.1)
    statement_to (T.While t e body) h = (give e h.0, statement_to body h.1)
    statement_to (T.Do t body e) h = (give e h.0, statement_to body h.1)
    statement_to (T.For t a b c body) h = (any_to a h.0, any_to b h.1, any_to c h.2, statement_to body h.3)
    statement_to (T.Switch t e cases default body) h = (give e h.0, statement_to body h.1)
    statement_to (T.Label t labels body) h = statement_to body h
    statement_to (T.Return t e) h = any_to e h
    statement_to _ h = tt

    statements_to : (all : Statements) → InStatements N I all → InStatements M J all
    statements_to NoStatement h = tt
    statements_to (OneStatement s rest) h = (statement_to s h.0, statements_to rest h.1)

    arms_to : (arms : Arms) → InArms N I arms → InArms M J arms
    arms_to NoArm h = tt
    arms_to (Arm t e body rest) h = (give e h.0, statement_to body h.1, arms_to rest h.2)

    else_to : (o : Otherwise) → InOtherwise N I o → InOtherwise M J o
    else_to NoElse h = tt
    else_to (Else s) h = statement_to s h
