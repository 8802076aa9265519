-- When two shapes agree. A shape is the text of a type; an array begins with its length in brackets,
-- `[12]`, or with `[]` where the length is not given.
use Rattle.std.specs.Prelude.{◌≡◌, ℕ, ◌<◌, ◌⊎◌, List, ◌∷◌, ◌++◌, length, IsTrue}
use Rattle.std.specs.Char.{is_ascii_digit}
use Rattle.std.specs.List.{list_all}

-- a number in decimal: one digit or more
abbrev pub IsDecimal : List ℕ → Type 0
IsDecimal text = (0 < length text) × IsTrue (list_all is_ascii_digit text)

-- the text begins with this byte
abbrev pub Begins : ℕ → List ℕ → Type 0
Begins byte text = (rest : List ℕ) × (text ≡ byte ∷ rest)

-- the second text is a decimal number and then the first
abbrev pub GivesDigits : List ℕ → List ℕ → Type 0
GivesDigits closing text = (count : List ℕ) × (IsDecimal count × (text ≡ count ++ closing))

-- the second text is the first with a length put into the empty brackets at its beginning
abbrev pub GivesLength : List ℕ → List ℕ → Type 0
GivesLength without given =
    (element : List ℕ)
    × (rest : List ℕ)
    × ((without ≡ 91 ∷ 93 ∷ element) × (given ≡ 91 ∷ rest) × GivesDigits (93 ∷ element) rest)

-- the shapes are equal, or one is the other with the length left out at its beginning
abbrev pub Agree : List ℕ → List ℕ → Type 0
Agree a b = (a ≡ b) ⊎ GivesLength a b ⊎ GivesLength b a
