-- The constraints that a module is to meet, each with the clause of ISO C90 that it is from, and the fault
-- that a broken one is.
use Rattle.std.specs.Prelude.{ℕ, ◌+◌, Bool, not, nat_lt, List}
use Rattle.pw_token.specs.declared.token.Feature.TheVariants as F
use Rattle.pw_value.specs.Caps.{capped}
use Rattle.pw_check_walk.specs.declared.constraints.CheckFault.{CheckFault}
use Rattle.pw_check_walk.specs.declared.constraints.CheckKind.{CheckKind}
use Rattle.pw_check_walk.specs.declared.constraints.CheckKind.TheVariants.{UnknownName, Redeclared, Typing, Constant, Unsupported, Limit, NoMemory}
use Rattle.pw_check_walk.specs.declared.constraints.Which.{Which}
use Rattle.pw_check_walk.specs.declared.constraints.Which.TheVariants.{NameLength, Nodes, ObjectSize, ShapeLength, Room, TypeDepth, Parameters}

pub data Constraint : Type 0 where
  -- names
  DeclaredIdentifier : Constraint  -- 6.3.1
  DeclaredTag : Constraint  -- 6.5.2.3
  DeclaredMember : Constraint  -- 6.3.2.3
  DeclaredLabel : Constraint  -- 6.6.6.1
  -- declarations of one name
  OneMeaning : Constraint  -- 6.5: a name without linkage, once in its scope and name space
  OneType : Constraint  -- 6.5: compatible types
  OneLinkage : Constraint  -- 6.1.2.2
  OneDefinition : Constraint  -- 6.7
  OneKindOfTag : Constraint  -- 6.5.2.3
  OneContent : Constraint  -- 6.5.2.1, 6.5.2.2
  OneMember : Constraint  -- 6.5.2.1
  OneLabel : Constraint  -- 6.6.1
  -- specifiers
  OneStorageClass : Constraint  -- 6.5.1
  LawfulStorage : Constraint  -- 6.5.4.3, 6.7: none but `register` in a parameter, no `auto` and no `register` outside
  ListOfSpecifiers : Constraint  -- 6.5.2
  OneQualifier : Constraint  -- 6.5.3
  UnqualifiedFunction : Constraint  -- 6.5.3
  DeclaresSomething : Constraint  -- 6.5
  -- declarators
  OnePointerQualifier : Constraint  -- 6.5.3
  ElementType : Constraint  -- 6.1.2.5, 6.5.4.2: a complete type, and no function
  ResultType : Constraint  -- 6.5.4.3: no function and no array
  VoidAlone : Constraint  -- 6.5.4.3
  CompleteMember : Constraint  -- 6.5.2.1
  CompleteObject : Constraint  -- 6.5, 6.7.2
  CompleteAtEnd : Constraint  -- 6.7.2
  BlockFunction : Constraint  -- 6.5.1: no storage class but `extern`
  FunctionDeclarator : Constraint  -- 6.7.1
  DefinitionStorage : Constraint  -- 6.7.1
  NamedParameters : Constraint  -- 6.7.1
  NoDeclarationList : Constraint  -- 6.7.1
  -- operands
  DecayingArray : Constraint  -- 6.2.2.1: no array that is declared `register`
  SubscriptOperands : Constraint  -- 6.3.2.1
  CalledFunction : Constraint  -- 6.3.2.2
  ArgumentCount : Constraint  -- 6.3.2.2
  ArgumentTypes : Constraint  -- 6.3.2.2
  RecordOperand : Constraint  -- 6.3.2.3
  StepOperand : Constraint  -- 6.3.2.4, 6.3.3.1
  ModifiableLvalue : Constraint  -- 6.3.2.4, 6.3.3.1, 6.3.16
  AddressOperand : Constraint  -- 6.3.3.2
  PointerOperand : Constraint  -- 6.3.3.2
  UnaryOperand : Constraint  -- 6.3.3.3
  SizedOperand : Constraint  -- 6.3.3.4
  CastTypes : Constraint  -- 6.3.4
  BinaryOperands : Constraint  -- 6.3.5 to 6.3.12
  LogicOperands : Constraint  -- 6.3.13, 6.3.14
  ConditionalOperands : Constraint  -- 6.3.15
  AssignedType : Constraint  -- 6.3.16.1
  CompoundOperands : Constraint  -- 6.3.16.2
  -- initialisers
  InitialisedKind : Constraint  -- 6.5.7: an object of complete type or an array of unknown length
  InitialisedHere : Constraint  -- 6.5.7: in a block no object with linkage
  InitialiserType : Constraint  -- 6.5.7, 6.3.16.1
  InitialiserForm : Constraint  -- 6.5.7: braces where they are to stand, and one scalar within
  InitialiserCount : Constraint  -- 6.5.7
  -- statements
  CaseInSwitch : Constraint  -- 6.6.1
  OneDefault : Constraint  -- 6.6.4.2
  ScalarCondition : Constraint  -- 6.6.4.1, 6.6.5
  IntegralSwitch : Constraint  -- 6.6.4.2
  BreakInside : Constraint  -- 6.6.6.3
  ContinueInside : Constraint  -- 6.6.6.2
  ReturnedValue : Constraint  -- 6.6.6.4
  ReturnedType : Constraint  -- 6.6.6.4
  -- constants
  IntegerFits : Constraint  -- 6.1.3.2
  OneCharacter : Constraint  -- 6.1.3.4
  EscapeFits : Constraint  -- 6.1.3.4, 6.1.4
  ConstantExpression : Constraint  -- 6.4
  PositiveLength : Constraint  -- 6.5.4.2
  EnumeratorFits : Constraint  -- 6.5.2.2
  OneCase : Constraint  -- 6.6.4.2
  ConstantInitialiser : Constraint  -- 6.4, 6.5.7
  -- what is left out
  NoFloating : Constraint  -- 6.1.3.1, 6.5.2
  NoWide : Constraint  -- 6.1.3.4, 6.1.4
  NoVariadic : Constraint  -- 6.5.4.3
  NoBitField : Constraint  -- 6.5.2.1
  NoOldStyle : Constraint  -- 6.5.4.3
  NoRecordByValue : Constraint  -- 6.3.2.2, 6.6.6.4
  NoPointerCast : Constraint  -- 6.3.4
  -- limits (5.2.4.1), each with the number that was counted
  Within : Which → ℕ → Constraint

abbrev pub kind_of : Constraint → CheckKind
kind_of DeclaredIdentifier = UnknownName
kind_of DeclaredTag = UnknownName
kind_of DeclaredMember = UnknownName
kind_of DeclaredLabel = UnknownName
kind_of OneMeaning = Redeclared
kind_of OneType = Redeclared
kind_of OneLinkage = Redeclared
kind_of OneDefinition = Redeclared
kind_of OneKindOfTag = Redeclared
kind_of OneContent = Redeclared
kind_of OneMember = Redeclared
kind_of OneLabel = Redeclared
kind_of IntegerFits = Constant
kind_of OneCharacter = Constant
kind_of EscapeFits = Constant
kind_of ConstantExpression = Constant
kind_of PositiveLength = Constant
kind_of EnumeratorFits = Constant
kind_of OneCase = Constant
kind_of ConstantInitialiser = Constant
kind_of NoFloating = Unsupported F.Float
kind_of NoWide = Unsupported F.Wide
kind_of NoVariadic = Unsupported F.Variadic
kind_of NoBitField = Unsupported F.BitField
kind_of NoOldStyle = Unsupported F.OldStyle
kind_of NoRecordByValue = Unsupported F.StructByValue
kind_of NoPointerCast = Unsupported F.PointerCast
kind_of (Within limit count) = Limit limit count
kind_of _ = Typing

-- the order of the limits
abbrev pub rank_of_limit : Which → ℕ
rank_of_limit NameLength = 0
rank_of_limit Nodes = 1
rank_of_limit ObjectSize = 2
rank_of_limit ShapeLength = 3
rank_of_limit Room = 4
rank_of_limit TypeDepth = 5
rank_of_limit Parameters = 6

-- the order in which the faults of one point count
abbrev pub rank_of_kind : CheckKind → ℕ
rank_of_kind UnknownName = 1
rank_of_kind Redeclared = 2
rank_of_kind Typing = 3
rank_of_kind Constant = 4
rank_of_kind (Unsupported feature) = 5
rank_of_kind (Limit limit count) = 6 + rank_of_limit limit
rank_of_kind NoMemory = 13

-- a constraint at a token, and whether it is broken there
pub record Cause : Type 0 where
  pub constraint : Constraint
  pub token : ℕ
  pub broken : Bool

-- the constraint is met where this holds
abbrev pub needs : Constraint → ℕ → Bool → Cause
needs constraint token holds = record { constraint = constraint; token = token; broken = not holds }

-- a count that is to keep its limit; it is told as far as 64 bits can tell it
abbrev pub keeps : Which → ℕ → ℕ → ℕ → Cause
keeps limit most token count =
    record { constraint = Within limit (capped count); token = token; broken = nat_lt most count }

-- the order of a cause among those of its point
abbrev pub rank : Cause → ℕ
rank c = rank_of_kind (kind_of c.constraint)

-- the fault that a broken constraint is
abbrev pub fault_of : Cause → CheckFault
fault_of c = record { kind = kind_of c.constraint; token = c.token }

-- the constraints that are to be met at one point
abbrev pub Point : Type 0
Point = List Cause
