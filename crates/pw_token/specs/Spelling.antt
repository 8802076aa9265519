-- The spellings of the tokens of C90, by kind (ISO/IEC 9899:1990, 6.1).
use Rattle.std.specs.Prelude.{◌≡◌, ◌≢◌, ℕ, true, false, ◌&&◌, ◌||◌, ◌⊎◌, ◌==◌, ◌≤◌, if◌then◌else◌, length, List, [], ◌∷◌, ◌++◌, ⊤}
use Rattle.std.specs.List.{AllByRecursion, flat_map}
use Rattle.pw_token.specs.Bytes.{is_in, is_nondigit, is_either, AllIn, SomeIn, is_u, is_l, is_simple_escape}
use Rattle.pw_token.specs.Words.{is_keyword, is_mark}
use Rattle.pw_token.specs.declared.bytes.Class.TheVariants as class
use Rattle.pw_token.specs.declared.token.TokenKind.{TokenKind}
use Rattle.pw_token.specs.declared.token.TokenKind.TheVariants.{Identifier, Keyword, Number, Floating, Character, Text, Wide, Mark, Directive}

-- ---- words (6.1.1, 6.1.2)

-- a letter or an underscore, and letters, underscores and digits behind it
abbrev pub IsWord : List ℕ → Type 0
IsWord [] = ⊥
IsWord (b ∷ s) = (is_nondigit b ≡ true) × AllIn class.Word s

-- ---- integer constants (6.1.3.2)

abbrev pub IsDecimal : List ℕ → Type 0
IsDecimal [] = ⊥
IsDecimal (d ∷ s) = (is_in class.Digit d ≡ true) × (d ≢ 48) × AllIn class.Digit s

-- 0 and octal digits
abbrev pub IsOctal : List ℕ → Type 0
IsOctal s = (digits : List ℕ) × (s ≡ 48 ∷ digits) × AllIn class.OctalDigit digits

-- 0, then x or X, then hexadecimal digits
abbrev pub IsHexadecimal : List ℕ → Type 0
IsHexadecimal s = (x : ℕ) × (digits : List ℕ) × (s ≡ 48 ∷ x ∷ digits) × (is_either x 120 88 ≡ true) × SomeIn class.HexDigit digits

-- nothing, u, l, ul or lu, in either case
abbrev pub IsIntegerSuffix : List ℕ → Type 0
IsIntegerSuffix [] = ⊤
IsIntegerSuffix (a ∷ []) = (is_u a || is_l a) ≡ true
IsIntegerSuffix (a ∷ b ∷ []) = ((is_u a && is_l b) || (is_l a && is_u b)) ≡ true
IsIntegerSuffix (a ∷ b ∷ c ∷ s) = ⊥

pub record IsInteger (s : List ℕ) : Type 0 where
  pub digits : List ℕ
  pub suffix : List ℕ
  pub whole : s ≡ digits ++ suffix
  pub constant : IsDecimal digits ⊎ (IsOctal digits ⊎ IsHexadecimal digits)
  pub ending : IsIntegerSuffix suffix

-- ---- floating constants (6.1.3.1)

-- digits round a point, at least one
abbrev pub IsFractional : List ℕ → Type 0
IsFractional s = (before : List ℕ) × (behind : List ℕ) × (s ≡ before ++ 46 ∷ behind) × AllIn class.Digit before × AllIn class.Digit behind × (before ++ behind ≢ [])

abbrev pub IsOptionalSign : List ℕ → Type 0
IsOptionalSign [] = ⊤
IsOptionalSign (b ∷ []) = is_either b 43 45 ≡ true
IsOptionalSign (b ∷ c ∷ s) = ⊥

-- e or E, a sign where there is one, and digits
abbrev pub IsExponent : List ℕ → Type 0
IsExponent s = (e : ℕ) × (sign : List ℕ) × (digits : List ℕ) × (s ≡ e ∷ sign ++ digits) × (is_either e 101 69 ≡ true) × IsOptionalSign sign × SomeIn class.Digit digits

-- nothing, f or l, in either case
abbrev pub IsFloatingSuffix : List ℕ → Type 0
IsFloatingSuffix [] = ⊤
IsFloatingSuffix (a ∷ []) = (is_either a 102 70 || is_l a) ≡ true
IsFloatingSuffix (a ∷ b ∷ s) = ⊥

-- a fraction needs no exponent, and digits alone need one
abbrev pub IsScaled : List ℕ → List ℕ → Type 0
IsScaled mantissa exponent = (IsFractional mantissa × ((exponent ≡ []) ⊎ IsExponent exponent)) ⊎ (SomeIn class.Digit mantissa × IsExponent exponent)

pub record IsFloating (s : List ℕ) : Type 0 where
  pub mantissa : List ℕ
  pub exponent : List ℕ
  pub suffix : List ℕ
  pub whole : s ≡ mantissa ++ (exponent ++ suffix)
  pub constant : IsScaled mantissa exponent
  pub ending : IsFloatingSuffix suffix

-- ---- character constants and string literals (6.1.3.4, 6.1.4)

-- the text without its backslashes before newlines, each with its newline (5.1.1.2)
abbrev pub joined : List ℕ → List ℕ
joined [] = []
joined (b ∷ []) = b ∷ []
joined (b ∷ c ∷ s) = if b == 92 && c == 10 then joined s else b ∷ joined (c ∷ s)

abbrev pub IsSimpleEscape : List ℕ → Type 0
IsSimpleEscape s = (b : ℕ) × (s ≡ 92 ∷ b ∷ []) × (is_simple_escape b ≡ true)

-- a backslash and one, two or three octal digits
abbrev pub IsOctalEscape : List ℕ → Type 0
IsOctalEscape s = (digits : List ℕ) × (s ≡ 92 ∷ digits) × SomeIn class.OctalDigit digits × (length digits ≤ 3)

-- a backslash, x and hexadecimal digits
abbrev pub IsHexadecimalEscape : List ℕ → Type 0
IsHexadecimalEscape s = (digits : List ℕ) × (s ≡ 92 ∷ 120 ∷ digits) × SomeIn class.HexDigit digits

-- any byte but the quote, the backslash and the newline
abbrev pub IsPlain : ℕ → List ℕ → Type 0
IsPlain quote s = (b : ℕ) × (s ≡ b ∷ []) × (b ≢ quote) × (b ≢ 92) × (b ≢ 10)

abbrev pub IsCharacter : ℕ → List ℕ → Type 0
IsCharacter quote s = IsPlain quote s ⊎ (IsSimpleEscape s ⊎ (IsOctalEscape s ⊎ IsHexadecimalEscape s))

-- any number of characters, none included
abbrev pub AreCharacters : ℕ → List ℕ → Type 0
AreCharacters quote s = (characters : List (List ℕ)) × (s ≡ flat_map (λ c. c) characters) × AllByRecursion (IsCharacter quote) characters

-- characters between two quotes
abbrev pub IsQuoted : ℕ → List ℕ → Type 0
IsQuoted quote s = (body : List ℕ) × (s ≡ quote ∷ body ++ quote ∷ []) × AreCharacters quote (joined body)

-- L and a character constant or a string literal
abbrev pub IsWide : List ℕ → Type 0
IsWide s = (literal : List ℕ) × (s ≡ 76 ∷ literal) × (IsQuoted 39 literal ⊎ IsQuoted 34 literal)

-- ---- all

-- the bytes spell a token of the kind; a directive line is no spelling, but a line of the text
abbrev pub Spells : TokenKind → List ℕ → Type 0
Spells Identifier s = IsWord s × (is_keyword s ≡ false)
Spells Keyword s = is_keyword s ≡ true
Spells Number s = IsInteger s
Spells Floating s = IsFloating s
Spells Character s = IsQuoted 39 s
Spells Text s = IsQuoted 34 s
Spells Wide s = IsWide s
Spells Mark s = is_mark s ≡ true
Spells Directive s = ⊥
