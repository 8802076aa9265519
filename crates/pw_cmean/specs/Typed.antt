-- Values of a type (ISO C90 6.1.2.5), programs whose modules are well typed and agree on functions, and states
-- whose objects hold bytes.
use Rattle.std.specs.Prelude.{ℕ, ◌≡◌, ◌<◌, Option, Some, None, List, ◌∷◌, All, Contains}
use Rattle.pw_value.specs.declared.value.Value.{Value}
use Rattle.pw_value.specs.declared.value.Value.TheVariants as V
use Rattle.pw_value.specs.declared.value.Byte.{Byte}
use Rattle.pw_value.specs.declared.value.Byte.TheVariants as B
use Rattle.pw_types.specs.TypeTrees.{CType, Void, Int, QType, type_of, is_volatile}
use Rattle.pw_types.specs.Conversions.{size_of_kind, converted}
use Rattle.pw_value.specs.Shapes.{Agree}
use Rattle.pw_types.specs.WellTyped.{IsFunctionOf}
use Rattle.pw_types.specs.TypedModules.{WellTyped}
use Rattle.pw_types.specs.Shapes.{letter_of, shape_of}
use Rattle.pw_types.specs.declared.kind.IntKind.{IntKind}
use Rattle.pw_types.specs.TypedTrees.{Symbol}
use Rattle.pw_cmean.specs.Worlds.{Program, ProgramModule, Callable, full_name, function_named}
use Rattle.pw_cmean.specs.Acts.{State, Outcome, Gives, Ends}
use Rattle.pw_cmean.specs.Execution.{Flow, Returns}

-- ---- values

-- of an integer type: a number that the type has, or in a character type a byte of a pointer
abbrev pub IsNumberOf : IntKind → Value → Type 0
IsNumberOf kind (V.Num n) = converted (V.Num n) kind ≡ V.Num n
IsNumberOf kind (V.Piece p i) = size_of_kind kind ≡ 1
IsNumberOf kind _ = ⊥

abbrev pub IsPointer : Value → Type 0
IsPointer V.Null = Unit {0}
IsPointer (V.At p) = Unit {0}
IsPointer _ = ⊥

-- Of a type. The value of an array, a function, a structure or a union is its place; void has none.
abbrev pub IsValueOf : CType → Value → Type 0
IsValueOf Void v = ⊥
IsValueOf (Int kind) v = IsNumberOf kind v
IsValueOf _ v = IsPointer v

-- a result, which may be missing
abbrev pub IsResultOf : CType → Option Value → Type 0
IsResultOf ty None = Unit {0}
IsResultOf ty (Some v) = IsValueOf ty v

-- ---- results of functions

-- the letter of the result in a function's shape
abbrev pub result_letter : List ℕ → ℕ
result_letter (f ∷ letter ∷ params) = letter
result_letter _ = 0

-- of a type with the letter
abbrev pub IsLetterResult : ℕ → Option Value → Type 0
IsLetterResult letter None = Unit {0}
IsLetterResult letter (Some v) = (ty : CType) × (letter_of ty ≡ letter) × IsValueOf ty v

-- what comes of a statement of a function whose result has a type
abbrev pub IsFlowOf : CType → Flow → Type 0
IsFlowOf ty (Returns result) = IsResultOf ty result
IsFlowOf ty _ = Unit {0}

-- ---- programs

-- Each module is well typed, and where it says that a name is a function of a type, the program's function of that
-- name has a shape that agrees (6.1.2.6).
pub record IsWellTyped (p : Program) : Type 0 where
  pub modules : All (λ m. WellTyped m.tree) p.modules
  pub functions : (m : ProgramModule) → Contains p.modules m → (symbol : Symbol) (ty : QType) (f : Callable)
      → IsFunctionOf m.tree symbol ty → function_named p (full_name m.name symbol) ≡ Some f
      → Agree (shape_of m.tree.records (type_of ty) (is_volatile ty)) f.shape

-- ---- states

-- a number in a byte of an object is one of 8 bits
abbrev pub IsByte : Byte → Type 0
IsByte (B.Num n) = n < 256
IsByte B.Undefined = Unit {0}
IsByte (B.Piece p i) = Unit {0}

-- the objects and what is left of the input hold bytes
pub record HoldsBytes (s : State) : Type 0 where
  pub objects : All (λ o. All IsByte o.bytes) s.objects
  pub input : All (λ b. b < 256) s.rest

-- what is given, where the run goes on; and the state holds bytes
abbrev pub IfGives : {A : Type 0} → (A → Type 0) → Outcome A → Type 0
IfGives P (Gives a s) = P a × HoldsBytes s
IfGives P (Ends ending s) = Unit {0}
