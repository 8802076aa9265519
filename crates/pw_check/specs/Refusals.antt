-- When a module is refused with which kind of fault: the constraint that is broken where its walk stops, the constraints of
-- each kind, and what a call tells of them.
use Rattle.std.specs.Prelude.{ℕ, ◌≡◌, ◌⊎◌, Result, Ok, Err, IfErr, List, [], ◌∷◌, Any}
use Rattle.pw_token.specs.declared.token.Feature.{Feature}
use Rattle.pw_token.specs.declared.token.Feature.TheVariants as F
use Rattle.pw_check_walk.specs.Answers.{Stops, AtPoint, AtEnd}
use Rattle.pw_check_walk.specs.Causes.{Constraint, DeclaredIdentifier, DeclaredTag, DeclaredMember, DeclaredLabel, OneMeaning, OneType, OneLinkage, OneDefinition, OneKindOfTag, OneContent, OneMember, OneLabel, OneStorageClass, LawfulStorage, ListOfSpecifiers, OneQualifier, UnqualifiedFunction, DeclaresSomething, OnePointerQualifier, ElementType, ResultType, VoidAlone, CompleteMember, CompleteObject, CompleteAtEnd, BlockFunction, FunctionDeclarator, DefinitionStorage, NamedParameters, NoDeclarationList, DecayingArray, SubscriptOperands, CalledFunction, ArgumentCount, ArgumentTypes, RecordOperand, StepOperand, ModifiableLvalue, AddressOperand, PointerOperand, UnaryOperand, SizedOperand, CastTypes, BinaryOperands, LogicOperands, ConditionalOperands, AssignedType, CompoundOperands, InitialisedKind, InitialisedHere, InitialiserType, InitialiserForm, InitialiserCount, CaseInSwitch, OneDefault, ScalarCondition, IntegralSwitch, BreakInside, ContinueInside, ReturnedValue, ReturnedType, IntegerFits, OneCharacter, EscapeFits, ConstantExpression, PositiveLength, EnumeratorFits, OneCase, ConstantInitialiser, NoFloating, NoWide, NoVariadic, NoBitField, NoOldStyle, NoRecordByValue, NoPointerCast, Within}
use Rattle.pw_check_walk.specs.Walks.{Walk}
use Rattle.pw_check_walk.specs.declared.constraints.CheckFault.{CheckFault}
use Rattle.pw_check_walk.specs.declared.constraints.CheckKind.{CheckKind}
use Rattle.pw_check_walk.specs.declared.constraints.CheckKind.TheVariants.{NoMemory}
use Rattle.pw_check_walk.specs.declared.constraints.Which.{Which}

-- ---- the constraint that is broken

-- the one that is told at the first point that is not met, or without which nothing can be made behind
abbrev pub broken_where : {A : Type 0} {w : Walk A} {fault : CheckFault} → Stops w fault → Constraint
broken_where (AtPoint s) = s.told.cause.constraint
broken_where (AtEnd s) = s.constraint

-- the walk stops at the token, and this is the constraint that is broken there
pub record RefusedFor {A : Type 0} (w : Walk A) (constraint : Constraint) (token : ℕ) : Type 0 where
  pub fault : CheckFault
  pub stops : Stops w fault
  pub broken : broken_where stops ≡ constraint
  pub at : fault.token ≡ token

-- it stops there for one of these constraints
abbrev pub RefusedForOneOf : {A : Type 0} → List Constraint → Walk A → ℕ → Type 0
RefusedForOneOf constraints w token = Any (λ c. RefusedFor w c token) constraints

-- ---- the constraints of each kind

-- on names that are used
abbrev pub on_names : List Constraint
on_names = DeclaredIdentifier ∷ DeclaredTag ∷ DeclaredMember ∷ DeclaredLabel ∷ []

-- on declarations of one name
abbrev pub on_declarations : List Constraint
on_declarations = OneMeaning ∷ OneType ∷ OneLinkage ∷ OneDefinition ∷ OneKindOfTag ∷ OneContent ∷ OneMember ∷ OneLabel ∷ []

-- on specifiers, declarators, operands, initialisers and statements
abbrev pub on_types : List Constraint
on_types =
    OneStorageClass ∷ LawfulStorage ∷ ListOfSpecifiers ∷ OneQualifier ∷ UnqualifiedFunction ∷ DeclaresSomething
    ∷ OnePointerQualifier ∷ ElementType ∷ ResultType ∷ VoidAlone ∷ CompleteMember ∷ CompleteObject ∷ CompleteAtEnd
    ∷ BlockFunction ∷ FunctionDeclarator ∷ DefinitionStorage ∷ NamedParameters ∷ NoDeclarationList
    ∷ DecayingArray ∷ SubscriptOperands ∷ CalledFunction ∷ ArgumentCount ∷ ArgumentTypes ∷ RecordOperand ∷ StepOperand
    ∷ ModifiableLvalue ∷ AddressOperand ∷ PointerOperand ∷ UnaryOperand ∷ SizedOperand ∷ CastTypes ∷ BinaryOperands
    ∷ LogicOperands ∷ ConditionalOperands ∷ AssignedType ∷ CompoundOperands
    ∷ InitialisedKind ∷ InitialisedHere ∷ InitialiserType ∷ InitialiserForm ∷ InitialiserCount
    ∷ CaseInSwitch ∷ OneDefault ∷ ScalarCondition ∷ IntegralSwitch ∷ BreakInside ∷ ContinueInside ∷ ReturnedValue ∷ ReturnedType
    ∷ []

-- on constants
abbrev pub on_constants : List Constraint
on_constants =
    IntegerFits ∷ OneCharacter ∷ EscapeFits ∷ ConstantExpression ∷ PositiveLength ∷ EnumeratorFits ∷ OneCase ∷ ConstantInitialiser ∷ []

-- on what is left out, by the feature; of the others lexing speaks, and `goto` is in the language
abbrev pub on_feature : Feature → List Constraint
on_feature F.Float = NoFloating ∷ []
on_feature F.Wide = NoWide ∷ []
on_feature F.Variadic = NoVariadic ∷ []
on_feature F.BitField = NoBitField ∷ []
on_feature F.OldStyle = NoOldStyle ∷ []
on_feature F.StructByValue = NoRecordByValue ∷ []
on_feature F.PointerCast = NoPointerCast ∷ []
on_feature _ = []

-- on a limit, which this count passes
abbrev pub on_limit : Which → ℕ → List Constraint
on_limit limit count = Within limit count ∷ []

-- ---- what a call tells

-- memory ran out, of which no rule speaks
abbrev pub RanOut : {R : Type 0} → Result R CheckFault → Type 0
RanOut (Ok made) = ⊥
RanOut (Err fault) = fault.kind ≡ NoMemory

-- this was made
abbrev pub IsMade : {A R : Type 0} → (R → A) → A → Result R CheckFault → Type 0
IsMade view a (Ok made) = view made ≡ a
IsMade view a (Err fault) = ⊥

-- The result is a fault of this kind exactly where the walk stops for one of these constraints, and at its token; but for
-- want of memory.
pub record TellsExactly {A R : Type 0} (w : Walk A) (kind : CheckKind) (constraints : List Constraint) (result : Result R CheckFault) : Type 0 where
  pub only : IfErr result (λ fault. fault.kind ≡ kind → RefusedForOneOf constraints w fault.token)
  pub always : (token : ℕ) → RefusedForOneOf constraints w token → RanOut result ⊎ (result ≡ Err (record { kind = kind; token = token }))
