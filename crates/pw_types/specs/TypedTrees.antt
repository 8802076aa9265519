-- Typed trees as plain data: what the code's trees hold, without where it lies in memory. The meaning of each
-- form stands in docs/TYPED-TREE.md. The first ℕ of a node is its token.
use Rattle.std.specs.Prelude.{ℕ, Bool, List, Option}
use Rattle.pw_types.specs.TypeTrees.{CType, QType, RecordValue}
use Rattle.pw_types.specs.declared.tree.UnaryOperator.{UnaryOperator}
use Rattle.pw_types.specs.declared.tree.BinaryOperator.{BinaryOperator}
use Rattle.pw_types.specs.declared.tree.LogicOperator.{LogicOperator}
use Rattle.pw_types.specs.declared.tree.StepOperator.{StepOperator}

-- an object or function of static lifetime, as its module speaks of it
pub data Symbol : Type 0 where
  External : List ℕ → Symbol
  Internal : List ℕ → Symbol
  Hidden : ℕ → Symbol

mutual
  -- its token, its type and its form
  pub data Expression : Type 0 where
    Node : ℕ → QType → Form → Expression

  pub data Form : Type 0 where
    Number : ℕ → Form
    Str : ℕ → Form
    Local : ℕ → Form
    Global : Symbol → Form
    Function : Symbol → Form
    Unary : UnaryOperator → Expression → Form
    Binary : BinaryOperator → Expression → Expression → Form
    Logic : LogicOperator → Expression → Expression → Form
    Cond : Expression → Expression → Expression → Form
    Comma : Expression → Expression → Form
    Assign : Expression → Expression → Form
    -- the type in which the operator works
    Compound : BinaryOperator → CType → Expression → Expression → Form
    Step : StepOperator → Expression → Form
    Cast : Expression → Form
    Decay : Expression → Form
    -- a member by its offset in bytes
    Member : Expression → ℕ → Form
    Deref : Expression → Form
    Address : Expression → Form
    Call : Symbol → Expressions → Form
    CallValue : Expression → Expressions → Form

  pub data Expressions : Type 0 where
    NoExpression : Expressions
    OneExpression : Expression → Expressions → Expressions

abbrev pub token_of : Expression → ℕ
token_of (Node token ty form) = token

abbrev pub type_at : Expression → QType
type_at (Node token ty form) = ty

abbrev pub form_of : Expression → Form
form_of (Node token ty form) = form

-- a case of a switch: its value as a word, and its label
pub record CaseValue : Type 0 where
  pub value : ℕ
  pub label : ℕ

-- the initialiser of a local, by the local's place: one expression; or the hidden object that has its bytes,
-- and the expressions that it is made of, which are not evaluated
pub data Initialiser : Type 0 where
  Value : ℕ → Expression → Initialiser
  Bytes : ℕ → ℕ → List Expression → Initialiser

mutual
  pub data Statement : Type 0 where
    Empty : ℕ → Statement
    Evaluate : ℕ → Expression → Statement
    -- the first of its locals and how many live in it, its initialisers, its statements
    Block : ℕ → ℕ → ℕ → List Initialiser → Statements → Statement
    -- its arms, of which there is at least one, and what stands behind a last `else`
    If : ℕ → Arms → Otherwise → Statement
    While : ℕ → Expression → Statement → Statement
    Do : ℕ → Statement → Expression → Statement
    For : ℕ → Option Expression → Option Expression → Option Expression → Statement → Statement
    -- its value, its cases in the order of the text, the label of its default, its body
    Switch : ℕ → Expression → List CaseValue → Option ℕ → Statement → Statement
    -- its labels in the order of the text
    Label : ℕ → List ℕ → Statement → Statement
    Goto : ℕ → ℕ → Statement
    Break : ℕ → Statement
    Continue : ℕ → Statement
    Return : ℕ → Option Expression → Statement

  -- an `if` and the `else if`s behind it: the token of the `if`, its condition, its statement
  pub data Arms : Type 0 where
    NoArm : Arms
    Arm : ℕ → Expression → Statement → Arms → Arms

  pub data Otherwise : Type 0 where
    NoElse : Otherwise
    Else : Statement → Otherwise

  pub data Statements : Type 0 where
    NoStatement : Statements
    OneStatement : Statement → Statements → Statements

-- a parameter or a local of automatic lifetime
pub record LocalValue : Type 0 where
  pub name : List ℕ
  pub ty : QType
  pub writable : Bool

-- a function's definition; the first `params` of its locals are its parameters
pub record FunctionValue : Type 0 where
  pub name : Symbol
  pub token : ℕ
  pub ty : QType
  pub params : ℕ
  pub locals : List LocalValue
  pub labels : ℕ
  pub named : List ℕ
  pub body : Statement

-- a part of an object's initial bytes: bytes, or an address plus a number
pub data ItemValue : Type 0 where
  ItemBytes : List ℕ → ItemValue
  ItemAddress : Symbol → ℕ → ItemValue

-- a part of an object's initial bytes at its offset
pub record PlacedItem : Type 0 where
  pub offset : ℕ
  pub item : ItemValue

-- an object of static lifetime
pub record GlobalValue : Type 0 where
  pub name : Symbol
  pub ty : QType
  pub writable : Bool
  pub items : List PlacedItem

-- a name that all modules share, with its type
pub record DeclaredValue : Type 0 where
  pub name : List ℕ
  pub ty : QType

pub record ModuleValue : Type 0 where
  pub records : List RecordValue
  pub globals : List GlobalValue
  pub functions : List FunctionValue
  pub declared : List DeclaredValue
