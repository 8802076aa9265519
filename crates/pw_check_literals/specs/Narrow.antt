-- Values of escapes as far as the code tells them apart: 256 stands for every greater one, which no character has.
use Rattle.std.specs.Prelude.{ℕ, min}
use Rattle.pw_check_literals.specs.Characters.{Escape, NoEscape, Backslash, Octal, Hexadecimal}
use Rattle.pw_check_literals.specs.declared.characters.Escape.{Escape as CodeEscape}
use Rattle.pw_check_literals.specs.declared.characters.Escape.TheVariants as E

abbrev pub narrow : ℕ → ℕ
narrow n = min n 256

abbrev pub narrowed : Escape → Escape
narrowed NoEscape = NoEscape
narrowed Backslash = Backslash
narrowed (Octal value digits) = Octal (narrow value) digits
narrowed (Hexadecimal value) = Hexadecimal (narrow value)

-- what the code's escape stands for
abbrev pub view_escape : CodeEscape → Escape
view_escape E.None = NoEscape
view_escape E.Backslash = Backslash
view_escape (E.Octal value digits) = Octal value digits
view_escape (E.Hexadecimal value) = Hexadecimal value
