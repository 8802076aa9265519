-- Moves of a pointer within its object, in bytes (ISO C90 6.3.6).
use Rattle.std.specs.Prelude.{ℕ, ℤ, pos, neg_ℤ, Bool, true, false, Result}
use Rattle.pw_value.specs.declared.words.WordFault.{WordFault}
use Rattle.pw_value.specs.Words.{exact}
use Rattle.pw_interp_state.specs.declared.moves.Move.{Move}
use Rattle.pw_interp_state.specs.declared.moves.Move.TheVariants as M

-- so many bytes further
abbrev pub bytes_by : Move → ℤ
bytes_by (M.On bytes) = pos bytes
bytes_by (M.Back bytes) = neg_ℤ (pos bytes)

-- plus, or minus
abbrev pub turned : Bool → ℤ → ℤ
turned true z = neg_ℤ z
turned false z = z

-- so many as an int, and so many below 0, where one can hold it
abbrev pub int_forward : ℕ → Result ℕ WordFault
int_forward n = exact (pos n)

abbrev pub int_backward : ℕ → Result ℕ WordFault
int_backward n = exact (neg_ℤ (pos n))
