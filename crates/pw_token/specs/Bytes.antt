-- Classes of bytes that the spelling rules of C90 name.
use Rattle.std.specs.Prelude.{◌≡◌, ℕ, Bool, true, not, ◌||◌, ◌==◌, if◌then◌else◌, List, [], ◌∷◌, nat_le, ◌&&◌, Option, Some, None, is_some}
use Rattle.std.specs.Char.{is_ascii_digit, is_ascii_hexdigit, is_ascii_alphabetic}
use Rattle.pw_token.specs.declared.bytes.Class.{Class}
use Rattle.pw_token.specs.declared.bytes.Class.TheVariants.{Gap, Digit, OctalDigit, HexDigit, Word, InLine}

-- a letter or an underscore: nondigit of C90 6.1.2
abbrev pub is_nondigit : ℕ → Bool
is_nondigit b = is_ascii_alphabetic b || b == 95

-- a letter, given in lower case and in upper case
abbrev pub is_either : ℕ → ℕ → ℕ → Bool
is_either b lower upper = b == lower || b == upper

-- A gap is a space, tab, vertical tab, form feed or carriage return.
abbrev pub is_in : Class → ℕ → Bool
is_in Gap b = b == 32 || b == 9 || (nat_le 11 b && nat_le b 13)
is_in Digit b = is_ascii_digit b
is_in OctalDigit b = nat_le 48 b && nat_le b 55
is_in HexDigit b = is_ascii_hexdigit b
is_in Word b = is_nondigit b || is_ascii_digit b
is_in InLine b = not (b == 10)

-- each byte is of the class
abbrev pub AllIn : Class → List ℕ → Type 0
AllIn c [] = Unit {0}
AllIn c (b ∷ s) = (is_in c b ≡ true) × AllIn c s

-- one byte of the class or more
abbrev pub SomeIn : Class → List ℕ → Type 0
SomeIn c [] = ⊥
SomeIn c (b ∷ s) = (is_in c b ≡ true) × AllIn c s

abbrev pub is_u : ℕ → Bool
is_u b = is_either b 117 85

abbrev pub is_l : ℕ → Bool
is_l b = is_either b 108 76

-- What an escape of one byte behind the backslash stands for (6.1.3.4): a quote, `?` and a backslash for themselves, and
-- a, b, f, n, r, t, v for alert, backspace, form feed, newline, carriage return, tab and vertical tab.
abbrev pub simple_escape : ℕ → Option ℕ
simple_escape b =
    if b == 39 || b == 34 || b == 63 || b == 92 then Some b else
    if b == 97 then Some 7 else
    if b == 98 then Some 8 else
    if b == 102 then Some 12 else
    if b == 110 then Some 10 else
    if b == 114 then Some 13 else
    if b == 116 then Some 9 else
    if b == 118 then Some 11 else
    None

abbrev pub is_simple_escape : ℕ → Bool
is_simple_escape b = is_some (simple_escape b)
