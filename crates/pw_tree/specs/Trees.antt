-- Syntax trees as plain data: what the code's trees hold, without where it lies in memory.
-- A list whose items are of several forms has a constructor for each, which takes the rest of the list last.
-- Each ℕ is the number of a token.
use Rattle.std.specs.Prelude.{ℕ, Bool, List, Option}
use Rattle.pw_tree.specs.declared.expr.BasicType.{BasicType}
use Rattle.pw_tree.specs.declared.expr.Qualifier.{Qualifier}
use Rattle.pw_tree.specs.declared.expr.RecordKind.{RecordKind}
use Rattle.pw_tree.specs.declared.expr.StorageClass.{StorageClass}
use Rattle.pw_tree.specs.declared.operator.Access.{Access}
use Rattle.pw_tree.specs.declared.operator.AssignOperator.{AssignOperator}
use Rattle.pw_tree.specs.declared.operator.BinaryOperator.{BinaryOperator}
use Rattle.pw_tree.specs.declared.operator.StepOperator.{StepOperator}
use Rattle.pw_tree.specs.declared.operator.UnaryOperator.{UnaryOperator}

-- an identifier, a constant or a string literal
pub record Word : Type 0 where
  pub token : ℕ
  pub text : List ℕ

-- a `*` with the qualifiers behind it (6.5.4.1)
pub record Pointer : Type 0 where
  pub token : ℕ
  pub qualifiers : List Qualifier

mutual
  -- 6.3
  pub data Expr : Type 0 where
    Identifier : Word → Expr
    Number : Word → Expr
    Floating : Word → Expr
    Character : Word → Expr
    Wide : Word → Expr
    Strings : List Word → Expr
    Paren : ℕ → Expr → Expr
    Postfix : Expr → Postfixes → Expr
    Unary : ℕ → UnaryOperator → Expr → Expr
    SizeofType : ℕ → Specifiers → Declarator → Expr
    Cast : ℕ → Specifiers → Declarator → Expr → Expr
    Chain : Expr → Operations → Expr
    Conditional : ℕ → Expr → Expr → Expr → Expr
    Assign : ℕ → AssignOperator → Expr → Expr → Expr

  -- what stands behind a primary expression (6.3.2)
  pub data Postfixes : Type 0 where
    NoPostfix : Postfixes
    Index : ℕ → Expr → Postfixes → Postfixes
    Call : ℕ → Arguments → Postfixes → Postfixes
    Select : ℕ → Access → Word → Postfixes → Postfixes
    Step : ℕ → StepOperator → Postfixes → Postfixes

  pub data Arguments : Type 0 where
    NoArgument : Arguments
    Argument : Expr → Arguments → Arguments

  -- operators that group to the left, each with the operand behind it (6.3.5 to 6.3.14, 6.3.17)
  pub data Operations : Type 0 where
    NoOperation : Operations
    Operation : ℕ → BinaryOperator → Expr → Operations → Operations

  -- 6.5.1 to 6.5.3, 6.5.6
  pub data Specifiers : Type 0 where
    NoSpecifier : Specifiers
    Storage : ℕ → StorageClass → Specifiers → Specifiers
    Qualified : ℕ → Qualifier → Specifiers → Specifiers
    Basic : ℕ → BasicType → Specifiers → Specifiers
    TypedefName : Word → Specifiers → Specifiers
    RecordTag : ℕ → RecordKind → Word → Specifiers → Specifiers
    Record : ℕ → RecordKind → Option Word → Members → Specifiers → Specifiers
    EnumTag : ℕ → Word → Specifiers → Specifiers
    Enum : ℕ → Option Word → Enumerators → Specifiers → Specifiers

  -- 6.5.2.1
  pub data Members : Type 0 where
    NoMember : Members
    Member : Specifiers → MemberDeclarators → Members → Members

  pub data MemberDeclarators : Type 0 where
    NoMemberDeclarator : MemberDeclarators
    PlainMember : Declarator → MemberDeclarators → MemberDeclarators
    BitField : Declarator → ℕ → Expr → MemberDeclarators → MemberDeclarators
    Padding : ℕ → Expr → MemberDeclarators → MemberDeclarators

  -- 6.5.2.2
  pub data Enumerators : Type 0 where
    NoEnumerator : Enumerators
    PlainEnumerator : Word → Enumerators → Enumerators
    ValuedEnumerator : Word → Expr → Enumerators → Enumerators

  -- 6.5.4, 6.5.5
  pub data Declarator : Type 0 where
    Declaring : List Pointer → Core → Suffixes → Declarator

  pub data Core : Type 0 where
    Absent : Core
    Name : Word → Core
    Enclosed : ℕ → Declarator → Core

  -- 6.5.4.2, 6.5.4.3
  pub data Suffixes : Type 0 where
    NoSuffix : Suffixes
    Array : ℕ → Expr → Suffixes → Suffixes
    OpenArray : ℕ → Suffixes → Suffixes
    Prototype : ℕ → Parameters → Suffixes → Suffixes
    Variadic : ℕ → Parameters → Suffixes → Suffixes
    Identifiers : ℕ → List Word → Suffixes → Suffixes

  pub data Parameters : Type 0 where
    NoParameter : Parameters
    Parameter : Specifiers → Declarator → Parameters → Parameters

mutual
  -- 6.5.7; the Bool says whether a comma stands before the `}`
  pub data Init : Type 0 where
    Value : Expr → Init
    Braces : ℕ → Inits → Bool → Init

  pub data Inits : Type 0 where
    NoInit : Inits
    Listed : Init → Inits → Inits

pub record Initializer : Type 0 where
  pub token : ℕ
  pub init : Init

pub record InitDeclarator : Type 0 where
  pub declarator : Declarator
  pub initializer : Option Initializer

-- 6.5
pub record Decl : Type 0 where
  pub specifiers : Specifiers
  pub declarators : List InitDeclarator

-- 6.6.1
pub data Label : Type 0 where
  CaseLabel : ℕ → Expr → Label
  DefaultLabel : ℕ → Label
  NameLabel : Word → Label

mutual
  -- 6.6
  pub data Stmt : Type 0 where
    Compound : Block → Stmt
    Expression : Expr → Stmt
    Empty : ℕ → Stmt
    Labeled : List Label → Stmt → Stmt
    If : ℕ → Expr → Stmt → Alternative → Stmt
    Switch : ℕ → Expr → Stmt → Stmt
    While : ℕ → Expr → Stmt → Stmt
    Do : ℕ → Stmt → Expr → Stmt
    For : ℕ → Option Expr → Option Expr → Option Expr → Stmt → Stmt
    Goto : ℕ → Word → Stmt
    Continue : ℕ → Stmt
    Break : ℕ → Stmt
    Return : ℕ → Option Expr → Stmt

  -- what stands behind the statement of an `if` (6.6.4.1)
  pub data Alternative : Type 0 where
    NoElse : Alternative
    Otherwise : Stmt → Alternative
    ElseIf : ℕ → Expr → Stmt → Alternative → Alternative

  -- 6.6.2
  pub data Block : Type 0 where
    Braced : ℕ → List Decl → Stmts → Block

  pub data Stmts : Type 0 where
    NoStmt : Stmts
    Next : Stmt → Stmts → Stmts

-- 6.7.1
pub record Function : Type 0 where
  pub specifiers : Specifiers
  pub declarator : Declarator
  pub declarations : List Decl
  pub body : Block

-- 6.7
pub data External : Type 0 where
  Definition : Function → External
  Declaration : Decl → External

pub record Module : Type 0 where
  pub externals : List External
