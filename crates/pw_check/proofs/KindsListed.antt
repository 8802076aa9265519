-- Each constraint stands in the list of its kind, and in no other.
use Rattle.std.specs.Prelude.{◌≡◌, List, [], ◌∷◌, All, Contains}
use Rattle.std.proofs.Common.{arith, refl}
use Rattle.std.proofs.lemmas.List.Elements.{All-nil, All-cons}
use Rattle.pw_token.specs.declared.token.Feature.{Feature}
use Rattle.pw_token.specs.declared.token.Feature.TheVariants as F
use Rattle.pw_check_walk.specs.Causes.{DeclaredIdentifier, DeclaredTag, DeclaredMember, DeclaredLabel, OneMeaning, OneType, OneLinkage, OneDefinition, OneKindOfTag, OneContent, OneMember, OneLabel, OneStorageClass, LawfulStorage, ListOfSpecifiers, OneQualifier, UnqualifiedFunction, DeclaresSomething, OnePointerQualifier, ElementType, ResultType, VoidAlone, CompleteMember, CompleteObject, CompleteAtEnd, BlockFunction, FunctionDeclarator, DefinitionStorage, NamedParameters, NoDeclarationList, DecayingArray, SubscriptOperands, CalledFunction, ArgumentCount, ArgumentTypes, RecordOperand, StepOperand, ModifiableLvalue, AddressOperand, PointerOperand, UnaryOperand, SizedOperand, CastTypes, BinaryOperands, LogicOperands, ConditionalOperands, AssignedType, CompoundOperands, InitialisedKind, InitialisedHere, InitialiserType, InitialiserForm, InitialiserCount, CaseInSwitch, OneDefault, ScalarCondition, IntegralSwitch, BreakInside, ContinueInside, ReturnedValue, ReturnedType, IntegerFits, OneCharacter, EscapeFits, ConstantExpression, PositiveLength, EnumeratorFits, OneCase, ConstantInitialiser, NoFloating, NoWide, NoVariadic, NoBitField, NoOldStyle, NoRecordByValue, NoPointerCast, Within, kind_of, Constraint}
use Rattle.pw_check_walk.specs.declared.constraints.CheckKind.{CheckKind}
use Rattle.pw_check_walk.specs.declared.constraints.CheckKind.TheVariants.{UnknownName, Redeclared, Typing, Constant, Unsupported, Limit, NoMemory}
use Rattle.pw_check.specs.Refusals.{on_names, on_declarations, on_types, on_constants, on_feature, on_limit}

abbrev pub constraints_of : CheckKind → List Constraint
constraints_of UnknownName = on_names
constraints_of Redeclared = on_declarations
constraints_of Typing = on_types
constraints_of Constant = on_constants
constraints_of (Unsupported feature) = on_feature feature
constraints_of (Limit limit count) = on_limit limit count
constraints_of NoMemory = []

-- a constraint with its place in the list of its kind
pub listed : (c : Constraint) → Contains (constraints_of (kind_of c)) c
listed DeclaredIdentifier = (0, grind arith, refl)
listed DeclaredTag = (1, grind arith, refl)
listed DeclaredMember = (2, grind arith, refl)
listed DeclaredLabel = (3, grind arith, refl)
listed OneMeaning = (0, grind arith, refl)
listed OneType = (1, grind arith, refl)
listed OneLinkage = (2, grind arith, refl)
listed OneDefinition = (3, grind arith, refl)
listed OneKindOfTag = (4, grind arith, refl)
listed OneContent = (5, grind arith, refl)
listed OneMember = (6, grind arith, refl)
listed OneLabel = (7, grind arith, refl)
listed OneStorageClass = (0, grind arith, refl)
listed LawfulStorage = (1, grind arith, refl)
listed ListOfSpecifiers = (2, grind arith, refl)
listed OneQualifier = (3, grind arith, refl)
listed UnqualifiedFunction = (4, grind arith, refl)
listed DeclaresSomething = (5, grind arith, refl)
listed OnePointerQualifier = (6, grind arith, refl)
listed ElementType = (7, grind arith, refl)
listed ResultType = (8, grind arith, refl)
listed VoidAlone = (9, grind arith, refl)
listed CompleteMember = (10, grind arith, refl)
listed CompleteObject = (11, grind arith, refl)
listed CompleteAtEnd = (12, grind arith, refl)
listed BlockFunction = (13, grind arith, refl)
listed FunctionDeclarator = (14, grind arith, refl)
listed DefinitionStorage = (15, grind arith, refl)
listed NamedParameters = (16, grind arith, refl)
listed NoDeclarationList = (17, grind arith, refl)
listed DecayingArray = (18, grind arith, refl)
listed SubscriptOperands = (19, grind arith, refl)
listed CalledFunction = (20, grind arith, refl)
listed ArgumentCount = (21, grind arith, refl)
listed ArgumentTypes = (22, grind arith, refl)
listed RecordOperand = (23, grind arith, refl)
listed StepOperand = (24, grind arith, refl)
listed ModifiableLvalue = (25, grind arith, refl)
listed AddressOperand = (26, grind arith, refl)
listed PointerOperand = (27, grind arith, refl)
listed UnaryOperand = (28, grind arith, refl)
listed SizedOperand = (29, grind arith, refl)
listed CastTypes = (30, grind arith, refl)
listed BinaryOperands = (31, grind arith, refl)
listed LogicOperands = (32, grind arith, refl)
listed ConditionalOperands = (33, grind arith, refl)
listed AssignedType = (34, grind arith, refl)
listed CompoundOperands = (35, grind arith, refl)
listed InitialisedKind = (36, grind arith, refl)
listed InitialisedHere = (37, grind arith, refl)
listed InitialiserType = (38, grind arith, refl)
listed InitialiserForm = (39, grind arith, refl)
listed InitialiserCount = (40, grind arith, refl)
listed CaseInSwitch = (41, grind arith, refl)
listed OneDefault = (42, grind arith, refl)
listed ScalarCondition = (43, grind arith, refl)
listed IntegralSwitch = (44, grind arith, refl)
listed BreakInside = (45, grind arith, refl)
listed ContinueInside = (46, grind arith, refl)
listed ReturnedValue = (47, grind arith, refl)
listed ReturnedType = (48, grind arith, refl)
listed IntegerFits = (0, grind arith, refl)
listed OneCharacter = (1, grind arith, refl)
listed EscapeFits = (2, grind arith, refl)
listed ConstantExpression = (3, grind arith, refl)
listed PositiveLength = (4, grind arith, refl)
listed EnumeratorFits = (5, grind arith, refl)
listed OneCase = (6, grind arith, refl)
listed ConstantInitialiser = (7, grind arith, refl)
listed NoFloating = (0, grind arith, refl)
listed NoWide = (0, grind arith, refl)
listed NoVariadic = (0, grind arith, refl)
listed NoBitField = (0, grind arith, refl)
listed NoOldStyle = (0, grind arith, refl)
listed NoRecordByValue = (0, grind arith, refl)
listed NoPointerCast = (0, grind arith, refl)
listed (Within limit count) = (0, grind arith, refl)

-- what is listed under a kind is of it
abbrev AllOf : CheckKind → List Constraint → Type 0
AllOf kind [] = Unit {0}
AllOf kind (c ∷ rest) = (kind_of c ≡ kind) × AllOf kind rest

all_of : (kind : CheckKind) (cs : List Constraint) → AllOf kind cs → All (λ c. kind_of c ≡ kind) cs
all_of kind [] u = All-nil (λ c. kind_of c ≡ kind)
all_of kind (c ∷ rest) u = All-cons (λ d. kind_of d ≡ kind) c rest u.0 (all_of kind rest u.1)

of_feature : (feature : Feature) → All (λ c. kind_of c ≡ Unsupported feature) (on_feature feature)
of_feature F.Float = all_of (Unsupported F.Float) (on_feature F.Float) (refl, tt)
of_feature F.Wide = all_of (Unsupported F.Wide) (on_feature F.Wide) (refl, tt)
of_feature F.Variadic = all_of (Unsupported F.Variadic) (on_feature F.Variadic) (refl, tt)
of_feature F.BitField = all_of (Unsupported F.BitField) (on_feature F.BitField) (refl, tt)
of_feature F.OldStyle = all_of (Unsupported F.OldStyle) (on_feature F.OldStyle) (refl, tt)
of_feature F.StructByValue = all_of (Unsupported F.StructByValue) (on_feature F.StructByValue) (refl, tt)
of_feature F.PointerCast = all_of (Unsupported F.PointerCast) (on_feature F.PointerCast) (refl, tt)
of_feature F.Directive = all_of (Unsupported F.Directive) [] tt

pub of_kind : (kind : CheckKind) → All (λ c. kind_of c ≡ kind) (constraints_of kind)
of_kind UnknownName = all_of UnknownName on_names (refl, (refl, (refl, (refl, tt))))
of_kind Redeclared = all_of Redeclared on_declarations (refl, (refl, (refl, (refl, (refl, (refl, (refl, (refl, tt))))))))
of_kind Typing = all_of Typing on_types (refl, (refl, (refl, (refl, (refl, (refl, (refl, (refl, (refl, (refl, (refl, (refl, (refl, (refl, (refl, (refl, (refl, (refl, (refl, (refl, (refl, (refl, (refl, (refl, (refl, (refl, (refl, (refl, (refl, (refl, (refl, (refl, (refl, (refl, (refl, (refl, (refl, (refl, (refl, (refl, (refl, (refl, (refl, (refl, (refl, (refl, (refl, (refl, (refl, tt)))))))))))))))))))))))))))))))))))))))))))))))))
of_kind Constant = all_of Constant on_constants (refl, (refl, (refl, (refl, (refl, (refl, (refl, (refl, tt))))))))
of_kind (Unsupported feature) = of_feature feature
of_kind (Limit limit count) = all_of (Limit limit count) (on_limit limit count) (refl, tt)
of_kind NoMemory = all_of NoMemory [] tt
