-- The operations that have no meaning (ISO C90 3.16, G.2, in this compiler's profile of C), and which of
-- them a step meets.
use Rattle.std.specs.Prelude.{ℕ, Bool, nat_lt, if◌then◌else◌, Option, Some, None, List, [], ◌∷◌, codes}
use Rattle.pw_cmean.specs.declared.undefined.Undef.{Undef}
use Rattle.pw_cmean.specs.declared.undefined.Undef.TheVariants.{SignedOverflow, ZeroDivisor, ShiftCount, UndefinedValue, NullPointer, OutsideObject, EndedObject, Alignment, ReadOnlyObject, PointerArithmetic, DifferentObjects, PointerDifference, NotAFunction, FunctionShape, MissingResult, PointerBytes, OverlappingCopy, FunctionAccess}

abbrev pub number_of : Undef → ℕ
number_of SignedOverflow = 1
number_of ZeroDivisor = 2
number_of ShiftCount = 3
number_of UndefinedValue = 4
number_of NullPointer = 5
number_of OutsideObject = 6
number_of EndedObject = 7
number_of Alignment = 8
number_of ReadOnlyObject = 9
number_of PointerArithmetic = 10
number_of DifferentObjects = 11
number_of PointerDifference = 12
number_of NotAFunction = 13
number_of FunctionShape = 14
number_of MissingResult = 15
number_of PointerBytes = 16
number_of OverlappingCopy = 17
number_of FunctionAccess = 18

-- how a message calls it
abbrev pub text_of : Undef → List ℕ
text_of SignedOverflow = codes "signed overflow"
text_of ZeroDivisor = codes "zero divisor"
text_of ShiftCount = codes "shift count"
text_of UndefinedValue = codes "undefined value"
text_of NullPointer = codes "null pointer"
text_of OutsideObject = codes "outside object"
text_of EndedObject = codes "ended object"
text_of Alignment = codes "alignment"
text_of ReadOnlyObject = codes "read-only object"
text_of PointerArithmetic = codes "pointer arithmetic"
text_of DifferentObjects = codes "pointers into different objects"
text_of PointerDifference = codes "pointer difference"
text_of NotAFunction = codes "not a function"
text_of FunctionShape = codes "function shape"
text_of MissingResult = codes "missing result"
text_of PointerBytes = codes "pointer bytes"
text_of OverlappingCopy = codes "overlapping copy"
text_of FunctionAccess = codes "function pointer access"

-- an operation, and whether a step is one
pub record Finding : Type 0 where
  pub operation : Undef
  pub holds : Bool

infix 70 ◌when◌
abbrev pub ◌when◌ : Undef → Bool → Finding
operation when holds = record { operation = operation; holds = holds }

-- the one with the lesser number
abbrev pub lesser : Undef → Option Undef → Undef
lesser a None = a
lesser a (Some b) = if nat_lt (number_of b) (number_of a) then b else a

-- of the operations that a step is, the one with the least number
abbrev pub least : List Finding → Option Undef
least [] = None
least (f ∷ rest) = if f.holds then Some (lesser f.operation (least rest)) else least rest
