-- What a property of expressions, and of statements, says of the parts of one that has it.
use Rattle.std.specs.Prelude.{ℕ, suc, Option, None, Some}
use Rattle.std.specs.List.{AllByRecursion}
use Rattle.pw_types.specs.TypedTrees.{Expression, Form, Expressions, NoExpression, OneExpression, Initialiser, Statement, Statements, NoStatement, OneStatement, Arms, NoArm, Arm, Otherwise, NoElse, Else}
use Rattle.pw_types.specs.TypedTrees as T

-- ---- expressions

abbrev pub EachExpression : (Expression → Type 0) → Expressions → Type 0
EachExpression N NoExpression = Unit {0}
EachExpression N (OneExpression e es) = N e × EachExpression N es

abbrev pub Parts : (Expression → Type 0) → Form → Type 0
Parts N (T.Unary op a) = N a
Parts N (T.Binary op a b) = N a × N b
Parts N (T.Logic op a b) = N a × N b
Parts N (T.Cond c a b) = N c × N a × N b
Parts N (T.Comma a b) = N a × N b
Parts N (T.Assign a b) = N a × N b
Parts N (T.Compound op working a b) = N a × N b
Parts N (T.Step op a) = N a
Parts N (T.Cast a) = N a
Parts N (T.Decay a) = N a
Parts N (T.Member a offset) = N a
Parts N (T.Deref a) = N a
Parts N (T.Address a) = N a
Parts N (T.Call symbol args) = EachExpression N args
Parts N (T.CallValue a args) = N a × EachExpression N args
Parts N leaf = Unit {0}

-- how many arguments there are
abbrev pub count_of : Expressions → ℕ
count_of NoExpression = 0
count_of (OneExpression e rest) = suc (count_of rest)

-- ---- statements

abbrev pub IfAny : (Expression → Type 0) → Option Expression → Type 0
IfAny N None = Unit {0}
IfAny N (Some e) = N e

abbrev pub EachStatement : (Statement → Type 0) → Statements → Type 0
EachStatement S NoStatement = Unit {0}
EachStatement S (OneStatement s rest) = S s × EachStatement S rest

abbrev pub EachArm : (Expression → Type 0) → (Statement → Type 0) → Arms → Type 0
EachArm N S NoArm = Unit {0}
EachArm N S (Arm t e body rest) = N e × S body × EachArm N S rest

abbrev pub InElse : (Statement → Type 0) → Otherwise → Type 0
InElse S NoElse = Unit {0}
InElse S (Else s) = S s

-- L is what is said of the body of a loop, S of every other statement
abbrev pub StatementParts : (Expression → Type 0) → (Initialiser → Type 0) → (Statement → Type 0) → (Statement → Type 0) → Statement → Type 0
StatementParts N I S L (T.Evaluate t e) = N e
StatementParts N I S L (T.Block t first count initialisers items) = AllByRecursion I initialisers × EachStatement S items
StatementParts N I S L (T.If t arms otherwise) = EachArm N S arms × InElse S otherwise
StatementParts N I S L (T.While t e body) = N e × L body
StatementParts N I S L (T.Do t body e) = N e × L body
StatementParts N I S L (T.For t a b c body) = IfAny N a × IfAny N b × IfAny N c × L body
StatementParts N I S L (T.Switch t e cases default body) = N e × S body
StatementParts N I S L (T.Label t labels body) = S body
StatementParts N I S L (T.Return t e) = IfAny N e
StatementParts N I S L leaf = Unit {0}
