-- What two properties say of the parts of an expression, and of a statement, they say together.
use Rattle.std.proofs.Common.{Option, Some, None}
use Rattle.pw_types.specs.TypedTrees.{Expression, Form, Expressions, NoExpression, OneExpression, Initialiser, Statement, Arms, NoArm, Arm, Otherwise, NoElse, Else, Statements, NoStatement, OneStatement}
use Rattle.pw_types.specs.TypedTrees as T
use Rattle.pw_flow.proofs.Lists.{all_both}
use Rattle.pw_law_lower_walk.specs.Parts.{EachExpression, Parts, IfAny, EachStatement, EachArm, InElse, StatementParts}

module _ (A B : Expression → Type 0) where
  abbrev BothNodes : Expression → Type 0
  BothNodes e = A e × B e

  both_arguments : (args : Expressions) → EachExpression A args → EachExpression B args → EachExpression BothNodes args
  both_arguments NoExpression a b = tt
  both_arguments (OneExpression e rest) a b = ((a.0, b.0), both_arguments rest a.1 b.1)

  pub both_parts : (form : Form) → Parts A form → Parts B form → Parts BothNodes form
  both_parts (T.Unary o x) a b = (a, b)
  both_parts (T.Binary o x y) a b = ((a.0, b.0), (a.1, b.1))
  both_parts (T.Logic o x y) a b = ((a.0, b.0), (a.1, b.1))
  both_parts (T.Cond x y z) a b = ((a.0, b.0), (a.1, b.1), (a.2, b.2))
  both_parts (T.Comma x y) a b = ((a.0, b.0), (a.1, b.1))
  both_parts (T.Assign x y) a b = ((a.0, b.0), (a.1, b.1))
  both_parts (T.Compound o working x y) a b = ((a.0, b.0), (a.1, b.1))
  both_parts (T.Step o x) a b = (a, b)
  both_parts (T.Cast x) a b = (a, b)
  both_parts (T.Decay x) a b = (a, b)
  both_parts (T.Member x offset) a b = (a, b)
  both_parts (T.Deref x) a b = (a, b)
  both_parts (T.Address x) a b = (a, b)
  both_parts (T.Call s args) a b = both_arguments args a b
  both_parts (T.CallValue x args) a b = ((a.0, b.0), both_arguments args a.1 b.1)
  both_parts leaf a b = tt

  both_any : (e : Option Expression) → IfAny A e → IfAny B e → IfAny BothNodes e
  both_any None a b = tt
  both_any (Some e) a b = (a, b)

-- of initialisers and statements too
module _ (A B : Expression → Type 0) (I J : Initialiser → Type 0) (S Z : Statement → Type 0) where
  abbrev BothInitialisers : Initialiser → Type 0
  BothInitialisers i = I i × J i

  abbrev BothStatements : Statement → Type 0
  BothStatements s = S s × Z s

  both_statements : (all : Statements) → EachStatement S all → EachStatement Z all → EachStatement BothStatements all
  both_statements NoStatement a b = tt
  both_statements (OneStatement s rest) a b = ((a.0, b.0), both_statements rest a.1 b.1)

  both_arms : (arms : Arms) → EachArm A S arms → EachArm B Z arms → EachArm (λ (e : Expression). A e × B e) BothStatements arms
  both_arms NoArm a b = tt
  both_arms (Arm t e body rest) a b = ((a.0, b.0), (a.1, b.1), both_arms rest a.2 b.2)

  both_else : (o : Otherwise) → InElse S o → InElse Z o → InElse BothStatements o
  both_else NoElse a b = tt
  both_else (Else s) a b = (a, b)

  pub both_statement : (s : Statement) → StatementParts A I S S s → StatementParts B J Z Z s
      → StatementParts (λ (e : Expression). A e × B e) BothInitialisers BothStatements BothStatements s
  both_statement (T.Evaluate t e) a b = (a, b)
  both_statement (T.Block t first count initialisers items) a b = (all_both I J initialisers a.0 b.0, both_statements items a.1 b.1)
  both_statement (T.If t arms otherwise) a b = (both_arms arms a.0 b.0, both_else otherwise a.1 b.1)
  both_statement (T.While t e body) a b = ((a.0, b.0), (a.1, b.1))
  both_statement (T.Do t body e) a b = ((a.0, b.0), (a.1, b.1))
  both_statement (T.For t first e third body) a b = (both_any A B first a.0 b.0, both_any A B e a.1 b.1, both_any A B third a.2 b.2, (a.3, b.3))
  both_statement (T.Switch t e cases default body) a b = ((a.0, b.0), (a.1, b.1))
  both_statement (T.Label t labels body) a b = (a, b)
  both_statement (T.Return t e) a b = both_any A B e a b
  both_statement leaf a b = tt
