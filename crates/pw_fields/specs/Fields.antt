-- The fields of which the compiler's files are made, as functions on lists of bytes: how a value is
-- spelled, and what reading from the left finds. Numbers are big-endian.
use Rattle.std.specs.Prelude.{ℕ, zero, suc, ◌<◌, ◌^◌, List, [], ◌∷◌, ◌++◌, length, take, drop, Result, Ok, Err, nat_lt, ◌==◌, Bool, if◌then◌else◌}
use Rattle.std.specs.Int.{Width, w32, w64, byte_len, from_be_bytes, to_be_bytes}

-- What reading a field finds: its value and the bytes after it. Where the field is short or breaks its
-- rule, how many bytes were left where it begins.
abbrev pub Found : Type 0 → Type 0
Found X = Result (X × List ℕ) ℕ

abbrev pub Reader : Type 0 → Type 0
Reader X = List ℕ → Found X

-- go on behind what was read; a fault stays the fault that it is
abbrev pub after : {A B : Type 0} → Result (A × List ℕ) ℕ → (A → List ℕ → Result (B × List ℕ) ℕ) → Result (B × List ℕ) ℕ
after (Ok x) next = next x.0 x.1
after (Err left) next = Err left

-- one field, and then what its value says
infixl 10 ◌>>=◌
abbrev pub ◌>>=◌ : {A B : Type 0} → (List ℕ → Result (A × List ℕ) ℕ) → (A → List ℕ → Result (B × List ℕ) ℕ) → List ℕ → Result (B × List ℕ) ℕ
(first >>= next) bytes = after (first bytes) next

-- a value for which no byte stands
abbrev pub done : {X : Type 0} → X → List ℕ → Result (X × List ℕ) ℕ
done x bytes = Ok (x, bytes)

-- a rule of the field that was just read: where it is broken, that field is the faulty one
abbrev pub kept : {X : Type 0} → (X → Bool) → ℕ → Result (X × List ℕ) ℕ → Result (X × List ℕ) ℕ
kept rule left (Ok x) = if rule x.0 then Ok x else Err left
kept rule left (Err e) = Err e

abbrev pub checked : {X : Type 0} → (X → Bool) → (List ℕ → Result (X × List ℕ) ℕ) → List ℕ → Result (X × List ℕ) ℕ
checked rule read bytes = kept rule (length bytes) (read bytes)

-- ---- single fields

abbrev pub number_at : Width → List ℕ → Result (ℕ × List ℕ) ℕ
number_at w bytes = if nat_lt (length bytes) (byte_len w) then Err (length bytes) else Ok (from_be_bytes w (take (byte_len w) bytes), drop (byte_len w) bytes)

-- a byte
unfoldable pub u8_at : List ℕ → Result (ℕ × List ℕ) ℕ
u8_at [] = Err 0
u8_at (b ∷ rest) = Ok (b, rest)

-- a number of four bytes
unfoldable pub u32_at : List ℕ → Result (ℕ × List ℕ) ℕ
u32_at bytes = number_at w32 bytes

-- a number of eight bytes
unfoldable pub u64_at : List ℕ → Result (ℕ × List ℕ) ℕ
u64_at bytes = number_at w64 bytes

-- as many bytes as are asked for
unfoldable pub bytes_at : ℕ → List ℕ → Result (List ℕ × List ℕ) ℕ
bytes_at count bytes = if nat_lt (length bytes) count then Err (length bytes) else Ok (take count bytes, drop count bytes)

-- a count of four bytes and as many bytes: one field, whose place is its count's
abbrev pub text_within : ℕ → Result (ℕ × List ℕ) ℕ → Result (List ℕ × List ℕ) ℕ
text_within left (Ok n) = if nat_lt (length n.1) n.0 then Err left else Ok (take n.0 n.1, drop n.0 n.1)
text_within left (Err e) = Err e

unfoldable pub text_at : List ℕ → Result (List ℕ × List ℕ) ℕ
text_at bytes = text_within (length bytes) (u32_at bytes)

-- a byte that is one of the first n numbers
unfoldable pub choice_at : ℕ → List ℕ → Result (ℕ × List ℕ) ℕ
choice_at n bytes = checked (λ b. nat_lt b n) u8_at bytes

-- a truth value: 0 or 1
unfoldable pub flag_at : List ℕ → Result (Bool × List ℕ) ℕ
flag_at = do
  b ← choice_at 2
  done (b == 1)

-- ---- lists

-- As many items as are asked for. The state says how the next item is read, and each item leads to the
-- state after it.
unfoldable pub items_at : {S X : Type 0} → (S → List ℕ → Result (X × List ℕ) ℕ) → (S → X → S) → ℕ → S → List ℕ → Result (List X × List ℕ) ℕ
items_at item next zero s = done []
items_at item next (suc n) s = do
  x ← item s
  xs ← items_at item next n (next s x)
  done (x ∷ xs)

-- as many items as are asked for, each read alike
abbrev pub same_state : {X : Type 0} → ℕ → X → ℕ
same_state s x = s

unfoldable pub repeated : {X : Type 0} → (List ℕ → Result (X × List ℕ) ℕ) → ℕ → List ℕ → Result (List X × List ℕ) ℕ
repeated item count = items_at (λ s. item) same_state count 0

-- ---- the spelling of single fields

abbrev pub u8 : ℕ → List ℕ
u8 n = n ∷ []

unfoldable pub u32 : ℕ → List ℕ
u32 n = to_be_bytes w32 n

unfoldable pub u64 : ℕ → List ℕ
u64 n = to_be_bytes w64 n

unfoldable pub text : List ℕ → List ℕ
text bytes = u32 (length bytes) ++ bytes

abbrev pub flag : Bool → List ℕ
flag b = u8 (if b then 1 else 0)

-- fields in order
abbrev pub parts : List (List ℕ) → List ℕ
parts [] = []
parts (x ∷ xs) = x ++ parts xs

-- what has a spelling
abbrev pub FitsU8 : ℕ → Type 0
FitsU8 n = n < 256

abbrev pub FitsU32 : ℕ → Type 0
FitsU32 n = n < 2 ^ 32

abbrev pub FitsU64 : ℕ → Type 0
FitsU64 n = n < 2 ^ 64

abbrev pub FitsText : List ℕ → Type 0
FitsText bytes = length bytes < 2 ^ 32

-- each item has a spelling where it stands
abbrev pub FitInTurn : {S X : Type 0} → (S → X → Type 0) → (S → X → S) → S → List X → Type 0
FitInTurn Fits next s [] = Unit {0}
FitInTurn Fits next s (x ∷ xs) = Fits s x × FitInTurn Fits next (next s x) xs
