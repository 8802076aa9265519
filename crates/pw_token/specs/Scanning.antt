-- How long the constants, comments and marks are that stand at the beginning of a text, 0 where none does.
use Rattle.std.specs.Prelude.{ℕ, ◌+◌, Bool, true, false, ◌&&◌, ◌||◌, if◌then◌else◌, ◌==◌, nat_lt, List, [], ◌∷◌, drop, length, slice_index, nat_eq}
use Rattle.std.specs.List.{prefix_len, starts_with}
use Rattle.pw_token.specs.Bytes.{is_in, is_nondigit, is_either}
pub use Rattle.pw_token.specs.Bytes.{is_u, is_l, is_simple_escape}
use Rattle.pw_token.specs.declared.bytes.Class.{Class}
use Rattle.pw_token.specs.declared.bytes.Class.TheVariants as class
use Rattle.pw_token.specs.declared.literals.Mode.{Mode}
use Rattle.pw_token.specs.declared.literals.Mode.TheVariants as mode

-- how many bytes of the class stand at the beginning
abbrev pub run : Class → List ℕ → ℕ
run c = prefix_len (is_in c)

abbrev pub word_len : List ℕ → ℕ
word_len t = if is_nondigit (slice_index t 0) then run class.Word t else 0

-- ---- integer constants

unfoldable pub integer_suffix_len : List ℕ → ℕ
integer_suffix_len t =
    if is_u (slice_index t 0) then (if is_l (slice_index t 1) then 2 else 1)
    else (if is_l (slice_index t 0) then (if is_u (slice_index t 1) then 2 else 1) else 0)

abbrev pub begins_hexadecimal : List ℕ → Bool
begins_hexadecimal t = slice_index t 0 == 48 && is_either (slice_index t 1) 120 88 && is_in class.HexDigit (slice_index t 2)

unfoldable pub digits_len : List ℕ → ℕ
digits_len t =
    if begins_hexadecimal t then 2 + run class.HexDigit (drop 2 t)
    else (if slice_index t 0 == 48 then run class.OctalDigit t else run class.Digit t)

unfoldable pub integer_len : List ℕ → ℕ
integer_len t = let digits = digits_len t in if digits == 0 then 0 else digits + integer_suffix_len (drop digits t)

-- ---- floating constants

-- where the digits of an exponent begin: after e, and after a sign
abbrev pub exponent_start : List ℕ → ℕ
exponent_start t = if is_either (slice_index t 1) 43 45 then 2 else 1

unfoldable pub exponent_len : List ℕ → ℕ
exponent_len t =
    let digits = run class.Digit (drop (exponent_start t) t) in
    if is_either (slice_index t 0) 101 69 then (if digits == 0 then 0 else exponent_start t + digits) else 0

unfoldable pub fraction_len : List ℕ → ℕ
fraction_len t =
    let whole = run class.Digit t in
    let part = run class.Digit (drop (whole + 1) t) in
    if slice_index t whole == 46 then (if whole + part == 0 then 0 else whole + 1 + part) else 0

abbrev pub floating_suffix_len : List ℕ → ℕ
floating_suffix_len t = if is_either (slice_index t 0) 102 70 || is_l (slice_index t 0) then 1 else 0

-- a mantissa of this length, then the exponent, which may be wanted, and the suffix
unfoldable pub scaled_len : ℕ → Bool → List ℕ → ℕ
scaled_len mantissa wanted t =
    let exponent = exponent_len (drop mantissa t) in
    if wanted && exponent == 0 then 0 else mantissa + exponent + floating_suffix_len (drop (mantissa + exponent) t)

unfoldable pub floating_len : List ℕ → ℕ
floating_len t =
    let fraction = fraction_len t in
    let whole = run class.Digit t in
    if fraction == 0 then (if whole == 0 then 0 else scaled_len whole true t) else scaled_len fraction false t

-- ---- character constants and string literals

-- a backslash before a newline stands at the beginning
abbrev pub is_splice : List ℕ → Bool
is_splice t = slice_index t 0 == 92 && slice_index t 1 == 10

-- how a constant goes on after its next byte
abbrev pub next_mode : ℕ → Mode → ℕ → Mode
next_mode quote mode.Plain b =
    if b == quote then mode.Closed else (if b == 92 then mode.Escaped else (if b == 10 then mode.Broken else mode.Plain))
next_mode quote mode.Escaped b =
    if is_simple_escape b || is_in class.OctalDigit b then mode.Plain else (if b == 120 then mode.Hexadecimal else mode.Broken)
next_mode quote mode.Hexadecimal b = if is_in class.HexDigit b then mode.Plain else mode.Broken
next_mode quote mode.Closed b = mode.Closed
next_mode quote mode.Broken b = mode.Broken

abbrev pub is_closed : Mode → Bool
is_closed mode.Closed = true
is_closed mode.Plain = false
is_closed mode.Escaped = false
is_closed mode.Hexadecimal = false
is_closed mode.Broken = false

abbrev pub is_broken : Mode → Bool
is_broken mode.Broken = true
is_broken mode.Plain = false
is_broken mode.Escaped = false
is_broken mode.Hexadecimal = false
is_broken mode.Closed = false

-- the answer in a mode behind n bytes, where `later` is the answer of what follows
abbrev pub settle : Mode → ℕ → ℕ → ℕ
settle m n later = if is_closed m then n else (if is_broken m then 0 else later)

-- the length through the closing quote, behind n bytes; a backslash before a newline is nothing
abbrev pub closing : ℕ → Mode → ℕ → List ℕ → ℕ
closing quote m n [] = 0
closing quote m n (b ∷ []) = settle (next_mode quote m b) (n + 1) 0
closing quote m n (b ∷ c ∷ t) =
    if is_splice (b ∷ c ∷ t) then closing quote m (n + 2) t
    else settle (next_mode quote m b) (n + 1) (closing quote (next_mode quote m b) (n + 1) (c ∷ t))

unfoldable pub literal_len : ℕ → List ℕ → ℕ
literal_len quote t = if slice_index t 0 == quote then closing quote mode.Plain 1 (drop 1 t) else 0

-- L and then a character constant or a string literal
unfoldable pub wide_len : List ℕ → ℕ
wide_len t =
    let rest = drop 1 t in
    let len = if literal_len 34 rest == 0 then literal_len 39 rest else literal_len 34 rest in
    if slice_index t 0 == 76 then (if len == 0 then 0 else len + 1) else 0

-- ---- comments

abbrev pub comment_end : ℕ → List ℕ → ℕ
comment_end n [] = 0
comment_end n (b ∷ []) = 0
comment_end n (b ∷ c ∷ t) = if b == 42 && c == 47 then n + 2 else comment_end (n + 1) (c ∷ t)

unfoldable pub comment_len : List ℕ → ℕ
comment_len t = comment_end 2 (drop 2 t)

-- ---- marks

-- the length of the longest word of the table that begins the text, or of the best so far
abbrev pub longest_in : ℕ → List (List ℕ) → List ℕ → ℕ
longest_in best [] t = best
longest_in best (m ∷ ms) t = longest_in (if starts_with nat_eq t m && nat_lt best (length m) then length m else best) ms t
