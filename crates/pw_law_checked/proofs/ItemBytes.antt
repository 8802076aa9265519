-- The bytes of items: each is a byte, and a scalar's item has as many as its type.
use Rattle.std.specs.Prelude.{ℕ, zero, suc, ◌≡◌, ◌<◌, ◌≤◌, ◌+◌, ◌/◌, ◌%◌, ◌||◌, nat_lt, not, Bool, true, false, if◌then◌else◌, Option, None, Some, option_map, unwrap_or, List, [], ◌∷◌, ◌++◌, length, take, All, refl}
use Rattle.std.specs.List.{list_any}
use Rattle.std.proofs.Common.{arith, sym, subst, length-append}
use Rattle.std.proofs.lemmas.Bool.{ltb-false}
use Rattle.std.proofs.lemmas.Nat.{mod_below}
use Rattle.std.proofs.lemmas.List.Elements.{All-nil, All-cons, All-append, All-take}
use Rattle.pw_check_literals.specs.Characters.{fits_bytes}
use Rattle.pw_types.specs.Conversions.{size_of_kind}
use Rattle.pw_types.specs.Layouts.{size_of}
use Rattle.pw_types.specs.TypeTrees.{CType, Void, Int, Pointer, Array, Function, Record, RecordValue}
use Rattle.pw_types.specs.TypedTrees.{Expression, ItemValue, ItemBytes, ItemAddress}
use Rattle.pw_types.specs.TypedModules.{item_size}
use Rattle.pw_check_rules.specs.Constants.{Place, constant_value, is_null_pointer, address_of}
use Rattle.pw_check_rules.specs.Initialisers.{word_bytes, bytes_within, item_of, address_item}
use Rattle.pw_law_checked.proofs.Lists.{some_same, never_some}
use Rattle.pw_law_checked.proofs.Types.{no}

abbrev pub IsByte : ℕ → Type 0
IsByte b = b < 256

-- ---- words

pub word_small : (size n : ℕ) → All IsByte (word_bytes size n)
word_small zero n = All-nil IsByte
word_small (suc size) n =
    All-append IsByte (word_bytes size (n / 256)) (n % 256 ∷ []) (word_small size (n / 256)) (All-cons IsByte (n % 256) [] (mod_below n 256 (omega arith)) (All-nil IsByte))

pub word_length : (size n : ℕ) → length (word_bytes size n) ≡ size
word_length zero n = refl
word_length (suc size) n =
    let a : length (word_bytes size (n / 256) ++ n % 256 ∷ []) ≡ length (word_bytes size (n / 256)) + 1 = length-append (word_bytes size (n / 256)) (n % 256 ∷ []) in
    let b : length (word_bytes size (n / 256)) ≡ size = word_length size (n / 256) in
    omega (arith, a, b)

-- ---- strings

characters_small : (cs : List ℕ) → list_any (λ c. nat_lt 255 c) cs ≡ false → All IsByte cs
characters_small [] h = All-nil IsByte
characters_small (c ∷ cs) h = by (nat_lt 255 c) refl h (characters_small cs)
  where
    by : (b : Bool) → nat_lt 255 c ≡ b → (b || list_any (λ x. nat_lt 255 x) cs) ≡ false → (list_any (λ x. nat_lt 255 x) cs ≡ false → All IsByte cs) → All IsByte (c ∷ cs)
    by true e k rest = no (sym k)
    by false e k rest = All-cons IsByte c cs (let g : c ≤ 255 = ltb-false 255 c e in omega (arith, g)) (rest k)

-- of characters that are bytes, with the zero behind them
pub string_small : (cs : List ℕ) → fits_bytes cs ≡ true → All IsByte (cs ++ 0 ∷ [])
string_small cs h =
    All-append IsByte cs (0 ∷ []) (characters_small cs (by (list_any (λ c. nat_lt 255 c) cs) h)) (All-cons IsByte 0 [] (omega arith) (All-nil IsByte))
  where
    by : (b : Bool) → not b ≡ true → b ≡ false
    by true k = no k
    by false k = refl

pub within_small : (ty : CType) (bytes : List ℕ) → All IsByte bytes → All IsByte (bytes_within ty bytes)
within_small (Array q (Some n)) bytes h = All-take IsByte n bytes h
within_small (Array q None) bytes h = h
within_small Void bytes h = h
within_small (Int k) bytes h = h
within_small (Pointer q) bytes h = h
within_small (Function q ps) bytes h = h
within_small (Record n) bytes h = h

pub take_short : {X : Type 0} (n : ℕ) (xs : List X) → length (take n xs) ≤ n
take_short zero xs = omega arith
take_short (suc n) [] = omega arith
take_short (suc n) (x ∷ xs) = let h : length (take n xs) ≤ n = take_short n xs in omega (arith, h)

-- ---- items of scalars

-- as many bytes as the scalar has
pub scalar_item : (r : List RecordValue) (ty : CType) (e : Expression) (item : ItemValue) → item_of r ty e ≡ Some item → item_size item ≡ unwrap_or (size_of r ty) 0
scalar_item r (Int kind) e item h = by (constant_value e) h
  where
    by : (o : Option ℕ) → option_map (λ n. ItemBytes (word_bytes (size_of_kind kind) n)) o ≡ Some item → item_size item ≡ size_of_kind kind
    by None k = never_some k
    by (Some n) k = subst (λ x. item_size x ≡ size_of_kind kind) (some_same k) (word_length (size_of_kind kind) n)
scalar_item r (Pointer q) e item h = by (is_null_pointer e) (address_of r e) h
  where
    by : (b : Bool) (o : Option Place) → (if b then Some (ItemBytes (word_bytes 4 0)) else option_map address_item o) ≡ Some item → item_size item ≡ 4
    by true o k = subst (λ x. item_size x ≡ 4) (some_same k) (word_length 4 0)
    by false None k = never_some k
    by false (Some p) k = subst (λ x. item_size x ≡ 4) (some_same k) refl
scalar_item r Void e item h = never_some h
scalar_item r (Array q n) e item h = never_some h
scalar_item r (Function q ps) e item h = never_some h
scalar_item r (Record n) e item h = never_some h

-- bytes are bytes; of an address this says nothing
abbrev pub HasBytes : ItemValue → Type 0
HasBytes (ItemBytes bytes) = All IsByte bytes
HasBytes (ItemAddress symbol offset) = Unit {0}

pub scalar_bytes : (r : List RecordValue) (ty : CType) (e : Expression) (item : ItemValue) → item_of r ty e ≡ Some item → HasBytes item
scalar_bytes r (Int kind) e item h = by (constant_value e) h
  where
    by : (o : Option ℕ) → option_map (λ n. ItemBytes (word_bytes (size_of_kind kind) n)) o ≡ Some item → HasBytes item
    by None k = never_some k
    by (Some n) k = subst HasBytes (some_same k) (word_small (size_of_kind kind) n)
scalar_bytes r (Pointer q) e item h = by (is_null_pointer e) (address_of r e) h
  where
    by : (b : Bool) (o : Option Place) → (if b then Some (ItemBytes (word_bytes 4 0)) else option_map address_item o) ≡ Some item → HasBytes item
    by true o k = subst HasBytes (some_same k) (word_small 4 0)
    by false None k = never_some k
    by false (Some p) k = subst HasBytes (some_same k) tt
scalar_bytes r Void e item h = never_some h
scalar_bytes r (Array q n) e item h = never_some h
scalar_bytes r (Function q ps) e item h = never_some h
scalar_bytes r (Record n) e item h = never_some h
