-- The byte of a kind: 0 where there is none, and 1 to 5 for the kinds of scalars.
use Rattle.std.specs.Prelude.{ℕ, zero, suc, ◌&&◌, nat_le, Option, Some, None, List, Result}
use Rattle.pw_value.specs.declared.value.Kind.{Kind}
use Rattle.pw_value.specs.declared.value.Kind.TheVariants.{S8, U8, S16, U16, W32}
use Rattle.pw_fields.specs.Fields.{◌>>=◌, done, checked, u8_at, choice_at, u8}

abbrev pub scalar_code : Kind → ℕ
scalar_code S8 = 1
scalar_code U8 = 2
scalar_code S16 = 3
scalar_code U16 = 4
scalar_code W32 = 5

abbrev pub kind_code : Option Kind → ℕ
kind_code None = 0
kind_code (Some kind) = scalar_code kind

-- the spelling of a kind, or of none, and that of a scalar's kind
abbrev pub kind : Option Kind → List ℕ
kind k = u8 (kind_code k)

abbrev pub scalar : Kind → List ℕ
scalar k = u8 (scalar_code k)

-- the kind of a byte from 1 to 5
abbrev pub scalar_of : ℕ → Kind
scalar_of zero = S8
scalar_of (suc zero) = S8
scalar_of (suc (suc zero)) = U8
scalar_of (suc (suc (suc zero))) = S16
scalar_of (suc (suc (suc (suc zero)))) = U16
scalar_of (suc (suc (suc (suc (suc code))))) = W32

abbrev pub kind_of : ℕ → Option Kind
kind_of zero = None
kind_of (suc code) = Some (scalar_of (suc code))

unfoldable pub kind_at : List ℕ → Result (Option Kind × List ℕ) ℕ
kind_at = do
  code ← choice_at 6
  done (kind_of code)

unfoldable pub scalar_at : List ℕ → Result (Kind × List ℕ) ℕ
scalar_at = do
  code ← checked (λ code. nat_le 1 code && nat_le code 5) u8_at
  done (scalar_of code)
