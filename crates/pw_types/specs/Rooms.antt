-- The nodes of typed trees, and the room of a function: a bound on its frame that can be told from its typed tree.
use Rattle.std.specs.Prelude.{ℕ, ◌+◌, ◌*◌, Option, None, Some, unwrap_or, List, length, sum_by}
use Rattle.pw_value.specs.Rounding.{slot_room}
use Rattle.pw_types.specs.TypeTrees.{RecordValue, type_of}
use Rattle.pw_types.specs.TypedTrees.{Expression, Node, Form, Number, Str, Local, Global, Function, Unary, Binary, Logic, Cond, Comma, Assign, Compound, Step, Cast, Decay, Member, Deref, Address, Call, CallValue, Expressions, NoExpression, OneExpression, Initialiser, Value, Bytes, LocalValue, FunctionValue}
use Rattle.pw_types.specs.TypedTrees.{Statement, Evaluate, Block, If, While, Do, For, Switch, Label, Return, Arms, NoArm, Arm, Otherwise, NoElse, Else, Statements, NoStatement, OneStatement}
use Rattle.pw_types.specs.Layouts.{size_of}

-- the nodes of an expression, itself included
abbrev mutual
  pub expr_nodes : Expression → ℕ
  expr_nodes (Node token ty form) = 1 + operand_nodes form

  -- those of its operands
  pub operand_nodes : Form → ℕ
  operand_nodes (Number n) = 0
  operand_nodes (Str k) = 0
  operand_nodes (Local k) = 0
  operand_nodes (Global s) = 0
  operand_nodes (Function s) = 0
  operand_nodes (Unary op a) = expr_nodes a
  operand_nodes (Binary op a b) = expr_nodes a + expr_nodes b
  operand_nodes (Logic op a b) = expr_nodes a + expr_nodes b
  operand_nodes (Cond a b c) = expr_nodes a + (expr_nodes b + expr_nodes c)
  operand_nodes (Comma a b) = expr_nodes a + expr_nodes b
  operand_nodes (Assign a b) = expr_nodes a + expr_nodes b
  operand_nodes (Compound op ty a b) = expr_nodes a + expr_nodes b
  operand_nodes (Step op a) = expr_nodes a
  operand_nodes (Cast a) = expr_nodes a
  operand_nodes (Decay a) = expr_nodes a
  operand_nodes (Member a offset) = expr_nodes a
  operand_nodes (Deref a) = expr_nodes a
  operand_nodes (Address a) = expr_nodes a
  operand_nodes (Call s args) = nodes_of_all args
  operand_nodes (CallValue a args) = expr_nodes a + nodes_of_all args

  pub nodes_of_all : Expressions → ℕ
  nodes_of_all NoExpression = 0
  nodes_of_all (OneExpression e rest) = expr_nodes e + nodes_of_all rest

abbrev pub optional_nodes : Option Expression → ℕ
optional_nodes None = 0
optional_nodes (Some e) = expr_nodes e

-- the nodes of the initialiser of a local, which are those of its expressions
abbrev pub initialiser_nodes : Initialiser → ℕ
initialiser_nodes (Value local value) = expr_nodes value
initialiser_nodes (Bytes local hidden parts) = sum_by expr_nodes parts

-- The nodes of a statement, itself included. An `if` has one for each arm, a labelled statement one for each label.
abbrev mutual
  pub stmt_nodes : Statement → ℕ
  stmt_nodes (Evaluate t e) = 1 + expr_nodes e
  stmt_nodes (Block t first count initialisers items) =
      1 + (sum_by initialiser_nodes initialisers + nodes_of_statements items)
  stmt_nodes (If t arms otherwise) = arm_nodes arms + else_nodes otherwise
  stmt_nodes (While t e body) = 1 + (expr_nodes e + stmt_nodes body)
  stmt_nodes (Do t body e) = 1 + (stmt_nodes body + expr_nodes e)
  stmt_nodes (For t a b c body) = 1 + (optional_nodes a + optional_nodes b + optional_nodes c + stmt_nodes body)
  stmt_nodes (Switch t e cases default body) = 1 + (expr_nodes e + stmt_nodes body)
  stmt_nodes (Label t labels body) = length labels + stmt_nodes body
  stmt_nodes (Return t e) = 1 + optional_nodes e
  stmt_nodes s = 1

  pub arm_nodes : Arms → ℕ
  arm_nodes NoArm = 0
  arm_nodes (Arm t e body rest) = 1 + (expr_nodes e + stmt_nodes body) + arm_nodes rest

  pub else_nodes : Otherwise → ℕ
  else_nodes NoElse = 0
  else_nodes (Else s) = stmt_nodes s

  pub nodes_of_statements : Statements → ℕ
  nodes_of_statements NoStatement = 0
  nodes_of_statements (OneStatement s rest) = stmt_nodes s + nodes_of_statements rest

-- the size of a local's type
abbrev pub local_size : List RecordValue → LocalValue → ℕ
local_size records local = unwrap_or (size_of records (type_of local.ty)) 0

-- what a local or parameter takes: its size and one byte, rounded up to a multiple of 8
abbrev pub local_room : List RecordValue → LocalValue → ℕ
local_room records local = slot_room (local_size records local)

-- the nodes of a function: those of its body, the block included
abbrev pub nodes_of : FunctionValue → ℕ
nodes_of f = stmt_nodes f.body

-- the room of the function that the program starts with, which calls main and passes its result on
abbrev pub start_room : ℕ
start_room = 256

-- what a parameter takes beside its local
abbrev pub parameter_room : ℕ
parameter_room = 8

-- what a node of the body takes
abbrev pub node_room : ℕ
node_room = 16

abbrev pub room_of : List RecordValue → FunctionValue → ℕ
room_of records f = sum_by (local_room records) f.locals + parameter_room * f.params + node_room * nodes_of f + start_room
