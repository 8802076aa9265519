-- Values that lead to no eligible global: what operations and memory make of them.
use Rattle.std.proofs.Common.{◌≡◌, ◌≢◌, ◌==◌, ℕ, zero, suc, inl, inr, Bool, true, false, if◌then◌else◌, Option, Some, None, List, [], ◌∷◌, length, refl, ap, sym, subst, arith}
use Rattle.std.specs.Prelude.{not, Result, Ok, Err, IfSome, replicate, option_map, slice_set, slice_index_or}
use Rattle.std.specs.List.{AllByRecursion, list_any}
use Rattle.std.proofs.lemmas.Bool.{cases_lt, cases_eq}
use Rattle.std.proofs.lemmas.List.{get_or-set_same, get_or-set_other, set_past}
use Rattle.std.proofs.lemmas.List.Elements.{Contains-get_or}
use Rattle.std.proofs.lemmas.List.Folds.{list_any_none}
use Rattle.pw_value.specs.declared.value.Kind.{Kind}
use Rattle.pw_value.specs.declared.value.Kind.TheVariants.{W32}
use Rattle.pw_value.specs.declared.value.Value.{Value}
use Rattle.pw_value.specs.declared.value.Value.TheVariants.{Undefined, Num, Null, At, Piece}
use Rattle.pw_value.specs.declared.value.Byte.{Byte}
use Rattle.pw_value.specs.declared.value.Byte.TheVariants as B
use Rattle.pw_value.specs.declared.value.Pointer.{Pointer}
use Rattle.pw_value.specs.declared.value.Pointer.TheVariants as P
use Rattle.pw_value.specs.declared.words.WordFault.{WordFault}
use Rattle.pw_value.specs.Objects.{Object, byte_at, bytes_from, with_bytes}
use Rattle.pw_value.specs.Values.{encoding, number_bytes, number_in, extended, scalar_in, pointer_in}
use Rattle.pw_db.specs.declared.database.Directives.{Directives}
use Rattle.pw_flow.specs.declared.flow.UnKind.{UnKind}
use Rattle.pw_flow.specs.declared.flow.UnKind.TheVariants.{Neg, Not}
use Rattle.pw_flow.specs.declared.flow.BinKind.{BinKind}
use Rattle.pw_flow.specs.declared.flow.BinKind.TheVariants.{Add, Sub, And, Or, Xor, Mul, DivS, DivU, RemS, RemU, Shl, ShrS, ShrU, Eq, Ne, LtS, LeS, LtU, LeU}
use Rattle.pw_flow.specs.declared.flow.ExtKind.{ExtKind}
use Rattle.pw_flow.specs.declared.flow.ExtKind.TheVariants as ext
use Rattle.pw_run_languages.specs.Programs.{Program, global_number}
use Rattle.pw_run_languages.specs.Values.{truth, unary, extension, number_of, on_numbers, same_place, on_pointers, pointer_and_number, number_and_pointer, binary}
use Rattle.pw_run_languages.specs.Memory.{is_signed, word_or_pointer, scalar_of}
use Rattle.pw_run_languages.specs.LawfulPrograms.{eligible_names}
use Rattle.pw_run_languages.specs.PlacedRun.{is_reserved}
use Rattle.pw_law_direction.specs.Pairs.{under}
use Rattle.pw_law_direction.specs.Alike.{IsPlain, FinePointer, FineValue, FineByte, AreTame, AreTameBytes}

-- ---- pointers that are reserved

abbrev is-at : ℕ → Option ℕ → Bool
is-at o (Some n) = n == o
is-at o None = false

is-at-not : (o : ℕ) (n : Option ℕ) → n ≢ Some o → is-at o n ≡ false
is-at-not o None h = refl
is-at-not o (Some n) h = elim (cases_eq n o) [
  | inl e ↦ absurd (h (ap Some e))
  | inr ne ↦ grind (arith, ne)
]

none-at : (p : Program) (o : ℕ) → IsPlain p o → list_any (λ g. is-at o (global_number p g)) (eligible_names p) ≡ false
none-at p o h = list_any_none (λ g. is-at o (global_number p g)) (eligible_names p)
    (λ i e less. is-at-not o (global_number p (slice_index_or (eligible_names p) i e)) (h (slice_index_or (eligible_names p) i e) (Contains-get_or (eligible_names p) i e less)))

pub plain-not : (p : Program) (d : List (List ℕ × Directives)) (o i : ℕ) → IsPlain p o → is_reserved (under p d) (At (P.Object o i)) ≡ false
plain-not p d o i h = none-at p o h

pub tame-not : (p : Program) (d : List (List ℕ × Directives)) (v : Value) → FineValue p v → is_reserved (under p d) v ≡ false
tame-not p d (At (P.Object o i)) h = plain-not p d o i h
tame-not p d (At (P.Function f)) h = refl
tame-not p d Undefined h = refl
tame-not p d (Num n) h = refl
tame-not p d Null h = refl
tame-not p d (Piece q i) h = refl

-- ---- choices

either-tame : (p : Program) (b : Bool) (v w : Value) → FineValue p v → FineValue p w → FineValue p (if b then v else w)
either-tame p true v w h k = h
either-tame p false v w h k = k

pub some-tame : (p : Program) (b : Bool) (v : Value) → FineValue p v → IfSome (if b then Some v else None) (FineValue p)
some-tame p true v h = h
some-tame p false v h = tt

truth-tame : (p : Program) (b : Bool) → FineValue p (truth b)
truth-tame p true = tt
truth-tame p false = tt

truths-tame : (p : Program) (b : Option Bool) (f : Bool → Value) → ((b : Bool) → FineValue p (f b)) → IfSome (option_map f b) (FineValue p)
truths-tame p (Some b) f h = h b
truths-tame p None f h = tt

number-tame : (p : Program) (r : Result ℕ WordFault) → IfSome (number_of r) (FineValue p)
number-tame p (Ok n) = tt
number-tame p (Err e) = tt

-- ---- operations

pub unary-tame : (p : Program) (k : UnKind) (v : Value) → IfSome (unary k v) (FineValue p)
unary-tame p Neg (Num n) = tt
unary-tame p Not (Num n) = tt
unary-tame p k v = tt

pub extension-tame : (p : Program) (k : ExtKind) (v : Value) → FineValue p v → IfSome (extension k v) (FineValue p)
extension-tame p ext.S8 (Num n) h = tt
extension-tame p ext.U8 (Num n) h = tt
extension-tame p ext.S16 (Num n) h = tt
extension-tame p ext.U16 (Num n) h = tt
extension-tame p ext.S8 (Piece q i) h = h
extension-tame p ext.U8 (Piece q i) h = h
extension-tame p k v h = tt

on-numbers-tame : (p : Program) (k : BinKind) (a b : ℕ) → IfSome (on_numbers k a b) (FineValue p)
on-numbers-tame p Add a b = tt
on-numbers-tame p Sub a b = tt
on-numbers-tame p And a b = tt
on-numbers-tame p Or a b = tt
on-numbers-tame p Xor a b = tt
on-numbers-tame p Mul a b = tt
on-numbers-tame p DivS a b = number-tame p _
on-numbers-tame p DivU a b = number-tame p _
on-numbers-tame p RemS a b = number-tame p _
on-numbers-tame p RemU a b = number-tame p _
on-numbers-tame p Shl a b = number-tame p _
on-numbers-tame p ShrS a b = number-tame p _
on-numbers-tame p ShrU a b = number-tame p _
on-numbers-tame p Eq a b = truth-tame p _
on-numbers-tame p Ne a b = truth-tame p _
on-numbers-tame p LtS a b = truth-tame p _
on-numbers-tame p LeS a b = truth-tame p _
on-numbers-tame p LtU a b = truth-tame p _
on-numbers-tame p LeU a b = truth-tame p _

on-pointers-tame : (p : Program) (objects : List Object) (k : BinKind) (q r : Pointer) → IfSome (on_pointers objects k q r) (FineValue p)
on-pointers-tame p objects Eq q r = truths-tame p _ _ (λ b. truth-tame p b)
on-pointers-tame p objects Ne q r = truths-tame p (same_place objects q r) (λ same. truth (not same)) (λ b. truth-tame p (not b))
on-pointers-tame p objects Sub (P.Object o i) (P.Object s j) = some-tame p _ _ tt
on-pointers-tame p objects LtU (P.Object o i) (P.Object s j) = some-tame p _ _ (truth-tame p _)
on-pointers-tame p objects LeU (P.Object o i) (P.Object s j) = some-tame p _ _ (truth-tame p _)
on-pointers-tame p objects k q r = tt

pointer-number-tame : (p : Program) (objects : List Object) (k : BinKind) (q : Pointer) (n : ℕ) → FinePointer p q → IfSome (pointer_and_number objects k q n) (FineValue p)
pointer-number-tame p objects Add (P.Object o i) n h = h
pointer-number-tame p objects Sub (P.Object o i) n h = h
pointer-number-tame p objects Eq q zero h = some-tame p _ _ tt
pointer-number-tame p objects Ne q zero h = some-tame p _ _ tt
pointer-number-tame p objects k q n h = tt

number-pointer-tame : (p : Program) (objects : List Object) (k : BinKind) (n : ℕ) (q : Pointer) → IfSome (number_and_pointer objects k n q) (FineValue p)
number-pointer-tame p objects Eq zero q = some-tame p _ _ tt
number-pointer-tame p objects Ne zero q = some-tame p _ _ tt
number-pointer-tame p objects k n q = tt

pub binary-tame : (p : Program) (objects : List Object) (k : BinKind) (v w : Value) → FineValue p v → FineValue p w → IfSome (binary objects k v w) (FineValue p)
binary-tame p objects k (Num a) (Num b) h i = on-numbers-tame p k a b
binary-tame p objects k (At q) (At r) h i = on-pointers-tame p objects k q r
binary-tame p objects k (At q) (Num n) h i = pointer-number-tame p objects k q n h
binary-tame p objects k (Num n) (At q) h i = number-pointer-tame p objects k n q
binary-tame p objects k v w h i = tt

-- ---- scalars in bytes

abbrev number-or : ℕ → Bool → Option ℕ → Value
number-or size signed None = Undefined
number-or size signed (Some n) = Num (extended size signed n)

number-or-tame : (p : Program) (size : ℕ) (signed : Bool) (n : Option ℕ) → FineValue p (number-or size signed n)
number-or-tame p size signed None = tt
number-or-tame p size signed (Some n) = tt

scalar-in-tame : (p : Program) (bytes : List Byte) (signed : Bool) → AllByRecursion (FineByte p) bytes → FineValue p (scalar_in bytes signed)
scalar-in-tame p [] signed h = tt
scalar-in-tame p (B.Piece q i ∷ []) signed h = h.0
scalar-in-tame p (B.Piece q i ∷ b ∷ rest) signed h = tt
scalar-in-tame p (B.Undefined ∷ rest) signed h = tt
scalar-in-tame p (B.Num n ∷ rest) signed h = number-or-tame p (length (B.Num n ∷ rest)) signed (number_in (B.Num n ∷ rest))

pointer-in-tame : (p : Program) (bytes : List Byte) → AllByRecursion (FineByte p) bytes → FineValue p (pointer_in bytes)
pointer-in-tame p (B.Num n ∷ b ∷ c ∷ d ∷ []) h = either-tame p _ Null Undefined tt tt
pointer-in-tame p (B.Piece q i ∷ b ∷ c ∷ d ∷ []) h = either-tame p _ (At q) Undefined h.0 tt
pointer-in-tame p bytes h = tt

word-tame : (p : Program) (v w : Value) → FineValue p v → FineValue p w → FineValue p (word_or_pointer v w)
word-tame p Undefined (At q) h i = i
word-tame p v w h i = h

pub scalar-tame : (p : Program) (k : Kind) (bytes : List Byte) → AllByRecursion (FineByte p) bytes → FineValue p (scalar_of k bytes)
scalar-tame p W32 bytes h = word-tame p (scalar_in bytes false) (pointer_in bytes) (scalar-in-tame p bytes false h) (pointer-in-tame p bytes h)
scalar-tame p k bytes h = scalar-in-tame p bytes (is_signed k) h

pub bytes-from-tame : (p : Program) (n i : ℕ) (bytes : List Byte) → AreTameBytes p bytes → AllByRecursion (FineByte p) (bytes_from n i bytes)
bytes-from-tame p zero i bytes h = tt
bytes-from-tame p (suc n) i bytes h = (h i, bytes-from-tame p n (suc i) bytes h)

-- ---- bytes of values

undefined-tame : (p : Program) (n : ℕ) → AllByRecursion (FineByte p) (replicate n B.Undefined)
undefined-tame p zero = tt
undefined-tame p (suc n) = (tt, undefined-tame p n)

numbers-tame : (p : Program) (n m : ℕ) → AllByRecursion (FineByte p) (number_bytes n m)
numbers-tame p zero m = tt
numbers-tame p (suc n) m = (tt, numbers-tame p n m)

pub encoding-tame : (p : Program) (v : Value) (n : ℕ) → FineValue p v → AllByRecursion (FineByte p) (encoding v n)
encoding-tame p Undefined n h = undefined-tame p n
encoding-tame p (Num m) n h = numbers-tame p n m
encoding-tame p Null n h = numbers-tame p 4 0
encoding-tame p (At q) n h = (h, (h, (h, (h, tt))))
encoding-tame p (Piece q i) n h = (h, tt)

-- ---- lists in which one place is set

pub set-tame : (p : Program) (temps : List Value) (t : ℕ) (v : Value) → AreTame p temps → FineValue p v → AreTame p (slice_set temps t v)
set-tame p temps t v h k i = elim (cases_eq i t) [
  | inl e ↦ elim (cases_lt t (length temps)) [
    | inl less ↦ subst (λ (j : ℕ). FineValue p (slice_index_or (slice_set temps t v) j Undefined)) (sym e) (subst (FineValue p) (sym (get_or-set_same temps t v Undefined less)) k)
    | inr more ↦ subst (λ (l : List Value). FineValue p (slice_index_or l i Undefined)) (sym (set_past temps t v more)) (h i)
  ]
  | inr ne ↦ subst (FineValue p) (sym (get_or-set_other temps t i v Undefined ne)) (h i)
]

byte-set-tame : (p : Program) (bytes : List Byte) (t : ℕ) (b : Byte) → AreTameBytes p bytes → FineByte p b → AreTameBytes p (slice_set bytes t b)
byte-set-tame p bytes t b h k i = elim (cases_eq i t) [
  | inl e ↦ elim (cases_lt t (length bytes)) [
    | inl less ↦ subst (λ (j : ℕ). FineByte p (byte_at (slice_set bytes t b) j)) (sym e) (subst (FineByte p) (sym (get_or-set_same bytes t b B.Undefined less)) k)
    | inr more ↦ subst (λ (l : List Byte). FineByte p (byte_at l i)) (sym (set_past bytes t b more)) (h i)
  ]
  | inr ne ↦ subst (FineByte p) (sym (get_or-set_other bytes t i b B.Undefined ne)) (h i)
]

pub with-bytes-tame : (p : Program) (new : List Byte) (i : ℕ) (bytes : List Byte) → AllByRecursion (FineByte p) new → AreTameBytes p bytes → AreTameBytes p (with_bytes new i bytes)
with-bytes-tame p [] i bytes h k = k
with-bytes-tame p (b ∷ new) i bytes h k = with-bytes-tame p new (suc i) (slice_set bytes i b) h.1 (byte-set-tame p bytes i b k h.0)
