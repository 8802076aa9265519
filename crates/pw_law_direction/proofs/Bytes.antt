-- The bytes of a scalar global at the start: numbers, or the pieces of one pointer. What they hold is written as they stand.
use Rattle.std.proofs.Common.{◌≡◌, ◌<◌, ◌≤◌, ◌+◌, ◌*◌, ◌/◌, ◌%◌, ◌&&◌, ◌⊎◌, ℕ, zero, suc, inl, inr, Bool, true, false, if◌then◌else◌, List, [], ◌∷◌, map, length, refl, ap, ap₂, sym, ◌∙◌, subst, arith, length-set}
use Rattle.std.specs.Prelude.{max, nat_eq, replicate, slice_set}
use Rattle.std.specs.List.{AllByRecursion}
use Rattle.std.proofs.lemmas.Bool.Decides.{nat_tests}
use Rattle.std.proofs.lemmas.List.{length-replicate}
use Rattle.pw_value.specs.declared.value.Kind.{Kind}
use Rattle.pw_value.specs.declared.value.Kind.TheVariants.{S8, U8, S16, U16, W32}
use Rattle.pw_value.specs.declared.value.Value.{Value}
use Rattle.pw_value.specs.declared.value.Value.TheVariants.{Undefined, Num, At}
use Rattle.pw_value.specs.declared.value.Byte.{Byte}
use Rattle.pw_value.specs.declared.value.Byte.TheVariants as B
use Rattle.pw_value.specs.declared.value.Pointer.{Pointer}
use Rattle.pw_value.specs.declared.value.Pointer.TheVariants as P
use Rattle.pw_value.specs.Objects.{with_bytes}
use Rattle.pw_value.specs.Values.{encoding, extended, pieces_of, same_pointer}
use Rattle.pw_flow.specs.declared.flow.Item.{Item}
use Rattle.pw_flow.specs.declared.flow.Item.TheVariants.{Bytes, Address}
use Rattle.pw_flow.specs.ValidFlow.{kind_size, item_size, AreItems}
use Rattle.pw_run_languages.specs.Programs.{Program, pointer_to, item_bytes, with_items}
use Rattle.pw_run_languages.specs.Memory.{scalar_of, is_of_kind, may_stand, same_value, word_or_pointer}
use Rattle.pw_run_languages.specs.LawfulPrograms.{IsItem}
use Rattle.pw_law_direction.proofs.Registers.{itself}
use Rattle.pw_law_direction.proofs.WebWrites.{with-all}

-- ---- what bytes hold, written again

abbrev pub AreNumbers : List Byte → Type 0
AreNumbers [] = Unit {0}
AreNumbers (B.Num n ∷ rest) = (n < 256) × AreNumbers rest
AreNumbers (b ∷ rest) = ⊥

-- a load gives a value of the kind, of which these are the bytes
pub record Loadable (k : Kind) (bytes : List Byte) : Type 0 where
  pub kind : is_of_kind k (scalar_of k bytes) ≡ true
  pub again : bytes ≡ encoding (scalar_of k bytes) (kind_size k)

-- the low bytes of a number of one or two bytes, as a word, are the number again
low-one : (sign : Bool) (n : ℕ) → n < 256 → extended 1 sign n % 256 ≡ n
low-one false n h = omega arith
low-one true n h = grind (arith, nat_tests)

low-two : (sign : Bool) (n : ℕ) → n < 65536 → extended 2 sign n % 65536 ≡ n
low-two false n h = omega arith
low-two true n h = grind (arith, nat_tests)

one-back : (sign : Bool) (a : ℕ) → a < 256 → extended 1 sign (a * 1 + 0) / 1 % 256 ≡ a
one-back sign a h = let e = low-one sign (a * 1 + 0) (omega (arith, h)) in omega (arith, e)

high-back : (sign : Bool) (a b : ℕ) → a < 256 → b < 256 → extended 2 sign (a * 256 + (b * 1 + 0)) / 256 % 256 ≡ a
high-back sign a b h i = let e = low-two sign (a * 256 + (b * 1 + 0)) (omega (arith, h, i)) in omega (arith, e, h, i)

low-back : (sign : Bool) (a b : ℕ) → a < 256 → b < 256 → extended 2 sign (a * 256 + (b * 1 + 0)) / 1 % 256 ≡ b
low-back sign a b h i = let e = low-two sign (a * 256 + (b * 1 + 0)) (omega (arith, h, i)) in omega (arith, e, h, i)

abbrev word : ℕ → ℕ → ℕ → ℕ → ℕ
word a b c e = a * 16777216 + (b * 65536 + (c * 256 + (e * 1 + 0)))

first-back : (a b c e : ℕ) → a < 256 → b < 256 → c < 256 → e < 256 → word a b c e / 16777216 % 256 ≡ a
first-back a b c e h i j k = omega (arith, h, i, j, k)

second-back : (a b c e : ℕ) → a < 256 → b < 256 → c < 256 → e < 256 → word a b c e / 65536 % 256 ≡ b
second-back a b c e h i j k = omega (arith, h, i, j, k)

third-back : (a b c e : ℕ) → a < 256 → b < 256 → c < 256 → e < 256 → word a b c e / 256 % 256 ≡ c
third-back a b c e h i j k = omega (arith, h, i, j, k)

fourth-back : (a b c e : ℕ) → a < 256 → b < 256 → c < 256 → e < 256 → word a b c e / 1 % 256 ≡ e
fourth-back a b c e h i j k = omega (arith, h, i, j, k)

-- a number that is written as it stands
of-number : (k : Kind) (bytes : List Byte) (n : ℕ) → scalar_of k bytes ≡ Num n → bytes ≡ encoding (Num n) (kind_size k) → Loadable k bytes
of-number k bytes n is e =
    let back : scalar_of k (encoding (Num n) (kind_size k)) ≡ Num n = ap (λ (l : List Byte). scalar_of k l) (sym e) ∙ is in
    record {
      kind = subst (λ (v : Value). is_of_kind k v ≡ true) (sym is) (of-kind k n back);
      again = e ∙ ap (λ (v : Value). encoding v (kind_size k)) (sym is);
    }
  where
    of-kind : (k : Kind) (n : ℕ) → scalar_of k (encoding (Num n) (kind_size k)) ≡ Num n → is_of_kind k (Num n) ≡ true
    of-kind S8 n back = ap (λ (v : Value). may_stand S8 (Num n) && same_value v (Num n)) back ∙ itself n
    of-kind U8 n back = ap (λ (v : Value). may_stand U8 (Num n) && same_value v (Num n)) back ∙ itself n
    of-kind S16 n back = ap (λ (v : Value). may_stand S16 (Num n) && same_value v (Num n)) back ∙ itself n
    of-kind U16 n back = ap (λ (v : Value). may_stand U16 (Num n) && same_value v (Num n)) back ∙ itself n
    of-kind W32 n back = ap (λ (v : Value). may_stand W32 (Num n) && same_value v (Num n)) back ∙ itself n

one-byte : (k : Kind) (sign : Bool) (a : ℕ) → a < 256 → kind_size k ≡ 1 → scalar_of k (B.Num a ∷ []) ≡ Num (extended 1 sign (a * 1 + 0)) → Loadable k (B.Num a ∷ [])
one-byte k sign a h one is =
    of-number k (B.Num a ∷ []) (extended 1 sign (a * 1 + 0)) is
    (ap (λ (n : ℕ). B.Num n ∷ []) (sym (one-back sign a h)) ∙ ap (λ (n : ℕ). encoding (Num (extended 1 sign (a * 1 + 0))) n) (sym one))

two-bytes : (k : Kind) (sign : Bool) (a b : ℕ) → a < 256 → b < 256 → kind_size k ≡ 2 → scalar_of k (B.Num a ∷ B.Num b ∷ []) ≡ Num (extended 2 sign (a * 256 + (b * 1 + 0))) → Loadable k (B.Num a ∷ B.Num b ∷ [])
two-bytes k sign a b h i two is =
    of-number k (B.Num a ∷ B.Num b ∷ []) (extended 2 sign (a * 256 + (b * 1 + 0))) is
    (ap₂ (λ (n m : ℕ). B.Num n ∷ B.Num m ∷ []) (sym (high-back sign a b h i)) (sym (low-back sign a b h i))
    ∙ ap (λ (n : ℕ). encoding (Num (extended 2 sign (a * 256 + (b * 1 + 0)))) n) (sym two))

four-bytes : (a b c e : ℕ) → a < 256 → b < 256 → c < 256 → e < 256 → Loadable W32 (B.Num a ∷ B.Num b ∷ B.Num c ∷ B.Num e ∷ [])
four-bytes a b c e h i j k =
    of-number W32 (B.Num a ∷ B.Num b ∷ B.Num c ∷ B.Num e ∷ []) (word a b c e) refl
    (ap₂ (λ (n m : ℕ). B.Num n ∷ B.Num m ∷ B.Num c ∷ B.Num e ∷ []) (sym (first-back a b c e h i j k)) (sym (second-back a b c e h i j k))
    ∙ ap₂ (λ (n m : ℕ). B.Num (word a b c e / 16777216 % 256) ∷ B.Num (word a b c e / 65536 % 256) ∷ B.Num n ∷ B.Num m ∷ []) (sym (third-back a b c e h i j k)) (sym (fourth-back a b c e h i j k)))

-- the first of so many numbers
record Split (bytes : List Byte) (n : ℕ) : Type 0 where
  first : ℕ
  rest : List Byte
  is : bytes ≡ B.Num first ∷ rest
  low : first < 256
  all : AreNumbers rest
  count : length rest ≡ n

split : (bytes : List Byte) (n : ℕ) → AreNumbers bytes → length bytes ≡ suc n → Split bytes n
split [] n h e = absurd (omega (arith, e))
split (B.Num a ∷ rest) n h e = record { first = a; rest = rest; is = refl; low = h.0; all = h.1; count = omega (arith, e) }
split (B.Undefined ∷ rest) n h e = absurd h
split (B.Piece q i ∷ rest) n h e = absurd h

empty : (bytes : List Byte) → length bytes ≡ 0 → bytes ≡ []
empty [] e = refl
empty (b ∷ rest) e = absurd (omega (arith, e))

of-one : (k : Kind) (sign : Bool) (bytes : List Byte) → AreNumbers bytes → length bytes ≡ 1 → kind_size k ≡ 1 → ((a : ℕ) → scalar_of k (B.Num a ∷ []) ≡ Num (extended 1 sign (a * 1 + 0))) → Loadable k bytes
of-one k sign bytes h e size is =
    let x = split bytes 0 h e in
    subst (Loadable k) (sym (x.is ∙ ap (λ (l : List Byte). B.Num x.first ∷ l) (empty x.rest x.count))) (one-byte k sign x.first x.low size (is x.first))

of-two : (k : Kind) (sign : Bool) (bytes : List Byte) → AreNumbers bytes → length bytes ≡ 2 → kind_size k ≡ 2 → ((a b : ℕ) → scalar_of k (B.Num a ∷ B.Num b ∷ []) ≡ Num (extended 2 sign (a * 256 + (b * 1 + 0)))) → Loadable k bytes
of-two k sign bytes h e size is =
    let x = split bytes 1 h e in
    let y = split x.rest 0 x.all x.count in
    subst (Loadable k) (sym (x.is ∙ ap (λ (l : List Byte). B.Num x.first ∷ l) (y.is ∙ ap (λ (l : List Byte). B.Num y.first ∷ l) (empty y.rest y.count))))
    (two-bytes k sign x.first y.first x.low y.low size (is x.first y.first))

of-four : (bytes : List Byte) → AreNumbers bytes → length bytes ≡ 4 → Loadable W32 bytes
of-four bytes h e =
    let x = split bytes 3 h e in
    let y = split x.rest 2 x.all x.count in
    let z = split y.rest 1 y.all y.count in
    let w = split z.rest 0 z.all z.count in
    let is : bytes ≡ B.Num x.first ∷ B.Num y.first ∷ B.Num z.first ∷ B.Num w.first ∷ [] =
    x.is ∙ ap (λ (l : List Byte). B.Num x.first ∷ l) (y.is ∙ ap (λ (l : List Byte). B.Num y.first ∷ l) (z.is ∙ ap (λ (l : List Byte). B.Num z.first ∷ l) (w.is ∙ ap (λ (l : List Byte). B.Num w.first ∷ l) (empty w.rest w.count)))) in
    subst (Loadable W32) (sym is) (four-bytes x.first y.first z.first w.first x.low y.low z.low w.low)

numbers-loadable : (k : Kind) (bytes : List Byte) → AreNumbers bytes → length bytes ≡ kind_size k → Loadable k bytes
numbers-loadable S8 bytes h e = of-one S8 true bytes h e refl (λ a. refl)
numbers-loadable U8 bytes h e = of-one U8 false bytes h e refl (λ a. refl)
numbers-loadable S16 bytes h e = of-two S16 true bytes h e refl (λ a b. refl)
numbers-loadable U16 bytes h e = of-two U16 false bytes h e refl (λ a b. refl)
numbers-loadable W32 bytes h e = of-four bytes h e

pointer-itself : (q : Pointer) → same_pointer q q ≡ true
pointer-itself (P.Object o i) = ap₂ (λ (a b : Bool). a && b) (itself o) (itself i)
pointer-itself (P.Function f) = itself f

pieces-hold : (q : Pointer) → scalar_of W32 (pieces_of q) ≡ At q
pieces-hold q = ap (λ (b : Bool). word_or_pointer Undefined (if nat_eq 0 0 && (b && nat_eq 1 1) && (b && nat_eq 2 2) && (b && nat_eq 3 3) then At q else Undefined)) (pointer-itself q)

pieces-loadable : (q : Pointer) → Loadable W32 (pieces_of q)
pieces-loadable q = record {
  kind = subst (λ (v : Value). is_of_kind W32 v ≡ true) (sym (pieces-hold q)) (ap (λ (v : Value). may_stand W32 (At q) && same_value v (At q)) (pieces-hold q) ∙ pointer-itself q);
  again = ap (λ (v : Value). encoding v 4) (sym (pieces-hold q));
}

-- ---- the items of a scalar

-- numbers as many as the scalar has bytes, or the pieces of a pointer, behind which no item fits
abbrev pub Filled : ℕ → ℕ → List Byte → Type 0
Filled size free bytes = (AreNumbers bytes × (length bytes ≡ size)) ⊎ ((q : Pointer) × (bytes ≡ pieces_of q) × (size ≡ 4) × (4 ≤ free))

set-number : (bytes : List Byte) (i n : ℕ) → n < 256 → AreNumbers bytes → AreNumbers (slice_set bytes i (B.Num n))
set-number [] i n h all = tt
set-number (B.Num m ∷ rest) zero n h all = (h, all.1)
set-number (B.Num m ∷ rest) (suc i) n h all = (all.0, set-number rest i n h all.1)
set-number (B.Undefined ∷ rest) i n h all = absurd all
set-number (B.Piece q j ∷ rest) i n h all = absurd all

with-numbers : (ns : List ℕ) (i : ℕ) (bytes : List Byte) → AllByRecursion (λ n. n < 256) ns → AreNumbers bytes → AreNumbers (with_bytes (map B.Num ns) i bytes)
with-numbers [] i bytes h all = all
with-numbers (n ∷ ns) i bytes h all = with-numbers ns (suc i) (slice_set bytes i (B.Num n)) h.1 (set-number bytes i n h.0 all)

pub with-bytes-length : (new : List Byte) (i : ℕ) (bytes : List Byte) → length (with_bytes new i bytes) ≡ length bytes
with-bytes-length [] i bytes = refl
with-bytes-length (b ∷ new) i bytes = with-bytes-length new (suc i) (slice_set bytes i b) ∙ length-set bytes i b

item-fills : (p : Program) (size free o : ℕ) (item : Item) (bytes : List Byte) → size ≤ 4 → free ≤ o → o + item_size item ≤ size → IsItem p item → Filled size free bytes
    → Filled size (o + max 1 (item_size item)) (with_bytes (item_bytes p item) o bytes)
item-fills p size free o (Bytes ns) bytes small low high ok (inl h) = inl (with-numbers ns o bytes ok h.0, with-bytes-length (map B.Num ns) o bytes ∙ h.1)
item-fills p size free o (Bytes []) bytes small low high ok (inr h) =
    let four : size ≡ 4 = h.2 in
    let behind : 4 ≤ free = h.3 in
    inr (h.0, h.1, four, omega (arith, behind, low))
item-fills p size free o (Bytes (n ∷ ns)) bytes small low high ok (inr h) = let behind : 4 ≤ free = h.3 in absurd (omega (arith, behind, low, high, small))
item-fills p size free o (Address name offset) bytes small low high ok (inl h) =
    let first : 0 ≡ o = omega (arith, high, small) in
    let four : size ≡ 4 = omega (arith, high, small) in
    let long : 4 ≡ length bytes = sym four ∙ sym h.1 in
    inr (pointer_to p name offset, subst (λ (i : ℕ). with_bytes (pieces_of (pointer_to p name offset)) i bytes ≡ pieces_of (pointer_to p name offset)) first (with-all (pieces_of (pointer_to p name offset)) bytes long), four, omega arith)
item-fills p size free o (Address name offset) bytes small low high ok (inr h) = let behind : 4 ≤ free = h.3 in absurd (omega (arith, behind, low, high, small))

items-fill : (p : Program) (size free : ℕ) (items : List (ℕ × Item)) (bytes : List Byte) → size ≤ 4 → AreItems size free items → AllByRecursion (λ i. IsItem p i.1) items → Filled size free bytes
    → (free : ℕ) × Filled size free (with_items p items bytes)
items-fill p size free [] bytes small are ok h = (free, h)
items-fill p size free (i ∷ items) bytes small are ok h =
    items-fill p size (i.0 + max 1 (item_size i.1)) items (with_bytes (item_bytes p i.1) i.0 bytes) small are.1 ok.1 (item-fills p size free i.0 i.1 bytes small are.0.0 are.0.1 ok.0 h)

not-four : (n : ℕ) → n < 4 → n ≡ 4 → ⊥
not-four n less e = omega (arith, less, e)

filled-loadable : (k : Kind) (free : ℕ) (bytes : List Byte) → Filled (kind_size k) free bytes → Loadable k bytes
filled-loadable k free bytes (inl h) = numbers-loadable k bytes h.0 h.1
filled-loadable W32 free bytes (inr h) = subst (Loadable W32) (sym h.1) (pieces-loadable h.0)
filled-loadable S8 free bytes (inr h) = absurd (not-four 1 (omega arith) h.2)
filled-loadable U8 free bytes (inr h) = absurd (not-four 1 (omega arith) h.2)
filled-loadable S16 free bytes (inr h) = absurd (not-four 2 (omega arith) h.2)
filled-loadable U16 free bytes (inr h) = absurd (not-four 2 (omega arith) h.2)

zeros : (n : ℕ) → AreNumbers (replicate n (B.Num 0))
zeros zero = tt
zeros (suc n) = (omega arith, zeros n)

small-kind : (k : Kind) → kind_size k ≤ 4
small-kind S8 = omega arith
small-kind U8 = omega arith
small-kind S16 = omega arith
small-kind U16 = omega arith
small-kind W32 = omega arith

-- what stands in a scalar at the start
pub start-loadable : (p : Program) (k : Kind) (items : List (ℕ × Item)) → AreItems (kind_size k) 0 items → AllByRecursion (λ i. IsItem p i.1) items → Loadable k (with_items p items (replicate (kind_size k) (B.Num 0)))
start-loadable p k items are ok =
    let r = items-fill p (kind_size k) 0 items (replicate (kind_size k) (B.Num 0)) (small-kind k) are ok (inl (zeros (kind_size k), length-replicate (kind_size k) (B.Num 0))) in
    filled-loadable k r.0 (with_items p items (replicate (kind_size k) (B.Num 0))) r.1

pub items-length : (p : Program) (items : List (ℕ × Item)) (bytes : List Byte) → length (with_items p items bytes) ≡ length bytes
items-length p [] bytes = refl
items-length p (i ∷ items) bytes = items-length p items (with_bytes (item_bytes p i.1) i.0 bytes) ∙ with-bytes-length (item_bytes p i.1) i.0 bytes
