-- The number that is told of a global where it stands, and its value in C.
use Rattle.std.proofs.Common.{◌≡◌, ℕ, suc, ◌+◌, ◌-◌, ◌*◌, ◌%◌, ◌^◌, ◌<◌, ◌≤◌, Bool, true, false, cond, List, [], ◌∷◌, length, Option, Some, None, refl, sym, ap, subst, ◌∙◌, arith}
use Rattle.std.specs.Prelude.{◌&&◌, nat_le, option_map}
use Rattle.std.specs.List.{AllByRecursion}
use Rattle.std.proofs.Math.Nat.{mul-le-mul_right}
use Rattle.std.proofs.lemmas.Bool.Decides.{nat_tests}
use Rattle.std.proofs.lemmas.Grind.{common_steps}
use Rattle.pw_value.specs.Objects.{Object}
use Rattle.pw_value.specs.Values.{extended, pointer_in, scalar_in}
use Rattle.pw_value.specs.Values as C
use Rattle.pw_value.specs.declared.value.Byte.{Byte}
use Rattle.pw_value.specs.declared.value.Byte.TheVariants as B
use Rattle.pw_value.specs.declared.value.Kind.{Kind}
use Rattle.pw_value.specs.declared.value.Kind.TheVariants.{S8, U8, S16, U16, W32}
use Rattle.pw_value.specs.declared.value.Pointer.{Pointer}
use Rattle.pw_value.specs.declared.value.Value.{Value}
use Rattle.pw_value.specs.declared.value.Value.TheVariants.{At, Num, Undefined}
use Rattle.pw_flow.specs.ValidFlow.{kind_size}
use Rattle.pw_flow.specs.declared.flow.FlowGlobal.{FlowGlobal}
use Rattle.pw_run.specs.Runs.{AreAlike, also, none}
use Rattle.pw_run_languages.specs.Memory.{scalar_of, word_or_pointer}
use Rattle.pw_run_languages.specs.Memory as memory
use Rattle.pw_run_languages.specs.Traces.{InMemory, InPlace, Standing}
use Rattle.pw_law_layers.specs.Whole.{ByteInMachine, GlobalInMachine, ScalarInMachine, ValueInMachine}
use Rattle.pw_debug.specs.Walk.{is_signed, of_kind}
use Rattle.pw_law_debug.specs.Telling.{number_in, number_of}
use Rattle.pw_law_calls.specs.Calls.{IsSmall}

-- ---- the number in C

abbrev number_or : ℕ → Bool → Option ℕ → Value
number_or size signed None = Undefined
number_or size signed (Some n) = Num (extended size signed n)

scalar_number : (bytes : List Byte) (signed : Bool) (v : ℕ) → scalar_in bytes signed ≡ Num v → number_or (length bytes) signed (C.number_in bytes) ≡ Num v
scalar_number [] signed v e = e
scalar_number (B.Piece q i ∷ []) signed v e = absurd cc
scalar_number (B.Piece q i ∷ b ∷ rest) signed v e = e
scalar_number (B.Undefined ∷ rest) signed v e = e
scalar_number (B.Num n ∷ rest) signed v e = e

not_pointer : (x y : Value) (v : ℕ) → word_or_pointer x y ≡ Num v → x ≡ Num v
not_pointer Undefined (At p) v e = absurd cc
not_pointer x y v e = e

of_kind_number : (kind : Kind) (bytes : List Byte) (v : ℕ) → scalar_of kind bytes ≡ Num v → number_or (length bytes) (memory.is_signed kind) (C.number_in bytes) ≡ Num v
of_kind_number W32 bytes v e = scalar_number bytes false v (not_pointer (scalar_in bytes false) (pointer_in bytes) v e)
of_kind_number S8 bytes v e = scalar_number bytes true v e
of_kind_number U8 bytes v e = scalar_number bytes false v e
of_kind_number S16 bytes v e = scalar_number bytes true v e
of_kind_number U16 bytes v e = scalar_number bytes false v e

same_sign : (kind : Kind) → memory.is_signed kind ≡ is_signed kind
same_sign S8 = refl
same_sign U8 = refl
same_sign S16 = refl
same_sign U16 = refl
same_sign W32 = refl

record IsNumber (kind : Kind) (bytes : List Byte) (v : ℕ) : Type 0 where
  number : ℕ
  is : C.number_in bytes ≡ Some number
  value : v ≡ extended (kind_size kind) (is_signed kind) number

by_option : (kind : Kind) (bytes : List Byte) (o : Option ℕ) (v : ℕ) → C.number_in bytes ≡ o → number_or (kind_size kind) (is_signed kind) o ≡ Num v → IsNumber kind bytes v
by_option kind bytes None v is e = absurd cc
by_option kind bytes (Some n) v is e =
    let same : extended (kind_size kind) (is_signed kind) n ≡ v = cc in
    record { number = n; is = is; value = sym same }

is_number : (kind : Kind) (bytes : List Byte) (v : ℕ) → length bytes ≡ kind_size kind → scalar_of kind bytes ≡ Num v → IsNumber kind bytes v
is_number kind bytes v long e =
    by_option kind bytes (C.number_in bytes) v refl
    (ap (λ (size : ℕ). number_or size (is_signed kind) (C.number_in bytes)) (sym long) ∙ ap (λ (signed : Bool). number_or (length bytes) signed (C.number_in bytes)) (sym (same_sign kind)) ∙ of_kind_number kind bytes v e)

-- ---- bytes that are numbers

record IsFront (b : ℕ) (rest : List Byte) (n : ℕ) : Type 0 where
  low : ℕ
  is : C.number_in rest ≡ Some low
  value : n ≡ b * 256 ^ length rest + low

front_by : (b : ℕ) (rest : List Byte) (o : Option ℕ) (n : ℕ) → C.number_in rest ≡ o → option_map (λ low. b * 256 ^ length rest + low) o ≡ Some n → IsFront b rest n
front_by b rest None n is e = absurd cc
front_by b rest (Some low) n is e =
    let same : b * 256 ^ length rest + low ≡ n = cc in
    record { low = low; is = is; value = sym same }

front : (b : ℕ) (rest : List Byte) (n : ℕ) → C.number_in (B.Num b ∷ rest) ≡ Some n → IsFront b rest n
front b rest n e = front_by b rest (C.number_in rest) n refl e

scaled : (b low x : ℕ) → b < 256 → low < x → b * x + low < 256 * x
scaled b low x h k =
    let more : suc b * x ≤ 256 * x = grind (arith, mul-le-mul_right) in
    omega (arith, more)

small : (bytes : List Byte) (n : ℕ) → AllByRecursion IsSmall bytes → C.number_in bytes ≡ Some n → n < 256 ^ length bytes
small [] n all e = let none_left : 0 ≡ n = cc in let one : 0 < 256 ^ 0 = omega arith in subst (λ (i : ℕ). i < 256 ^ 0) none_left one
small (B.Num b ∷ rest) n all e =
    let f = front b rest n e in
    let below = scaled b f.low (256 ^ length rest) all.0 (small rest f.low all.1 f.is) in
    let more : 256 ^ length (B.Num b ∷ rest) ≡ 256 * 256 ^ length rest = grind (arith, common_steps) in
    subst (λ (i : ℕ). n < i) (sym more) (subst (λ (i : ℕ). i < 256 * 256 ^ length rest) (sym f.value) below)
small (B.Undefined ∷ rest) n all e = absurd cc
small (B.Piece q i ∷ rest) n all e = absurd cc

-- ---- where it stands

module _ (address : Pointer → ℕ) (objects : List Object) where
  abbrev Each : List Byte → List ℕ → Type 0
  Each [] words = words ≡ []
  Each (b ∷ bs) words = (w : ℕ) × (more : List ℕ) × (words ≡ w ∷ more) × ByteInMachine address objects b w × AreAlike (ByteInMachine address objects) bs more

  each : (bs : List Byte) (words : List ℕ) → AreAlike (ByteInMachine address objects) bs words → Each bs words
  each bs words none = refl
  each bs words (also b w rest more h t) = (w, more, refl, h, t)

  as_long : (bs : List Byte) (words : List ℕ) → AreAlike (ByteInMachine address objects) bs words → length words ≡ length bs
  as_long [] words a = ap length (each [] words a)
  as_long (b ∷ bs) words a =
      let p = each (b ∷ bs) words a in
      let rest = as_long bs p.1 p.4 in
      let whole : length words ≡ suc (length p.1) = ap length p.2 in
      omega (arith, rest, whole)

  in_bytes : (bs : List Byte) (words : List ℕ) (n : ℕ) → AreAlike (ByteInMachine address objects) bs words → C.number_in bs ≡ Some n → number_in words ≡ n
  in_bytes [] words n a e = let none_left : 0 ≡ n = cc in ap number_in (each [] words a) ∙ none_left
  in_bytes (B.Num b ∷ bs) words n a e =
      let p = each (B.Num b ∷ bs) words a in
      let f = front b bs n e in
      let rest : number_in p.1 ≡ f.low = in_bytes bs p.1 f.low p.4 f.is in
      let byte : p.0 ≡ b = p.3 in
      let size : length p.1 ≡ length bs = as_long bs p.1 p.4 in
      ap number_in p.2 ∙ ap (λ (w : ℕ). w * 256 ^ length p.1 + number_in p.1) byte ∙ ap (λ (i : ℕ). b * 256 ^ i + number_in p.1) size ∙ ap (λ (low : ℕ). b * 256 ^ length bs + low) rest ∙ sym f.value
  in_bytes (B.Undefined ∷ bs) words n a e = absurd cc
  in_bytes (B.Piece q i ∷ bs) words n a e = absurd cc

  in_place : (g : FlowGlobal) (kind : Kind) (bytes : List Byte) (word v : ℕ) → g.kind ≡ Some kind → scalar_of kind bytes ≡ Num v → ScalarInMachine address objects g.kind bytes word → word ≡ v
  in_place g kind bytes word v is e h =
      let scalar : ScalarInMachine address objects (Some kind) bytes word = subst (λ (o : Option Kind). ScalarInMachine address objects o bytes word) is h in
      subst (λ (x : Value). ValueInMachine address objects x word) e scalar

-- ---- a word of a kind

one_back : (b : Bool) (n : ℕ) → n < 256 → cond b (2 ^ 32 - (256 ^ 1 - n)) n % 256 ^ 1 ≡ n
one_back true n h = omega (arith, h)
one_back false n h = omega (arith, h)

two_back : (b : Bool) (n : ℕ) → n < 256 ^ 2 → cond b (2 ^ 32 - (256 ^ 2 - n)) n % 256 ^ 2 ≡ n
two_back true n h = omega (arith, h)
two_back false n h = omega (arith, h)

kind_back : (kind : Kind) (n : ℕ) → n < 256 ^ kind_size kind → extended (kind_size kind) (is_signed kind) n % 256 ^ kind_size kind ≡ n
kind_back S8 n h = one_back (nat_le (256 ^ 1) (2 * n)) n (omega (arith, h))
kind_back U8 n h = omega (arith, h)
kind_back S16 n h = two_back (nat_le (256 ^ 2) (2 * n)) n (omega (arith, h))
kind_back U16 n h = omega (arith, h)
kind_back W32 n h = omega (arith, h)

of_kind_back : (kind : Kind) (n v : ℕ) → n < 256 ^ kind_size kind → v ≡ extended (kind_size kind) (is_signed kind) n → of_kind kind v ≡ v
of_kind_back kind n v h is =
    let low : v % 256 ^ kind_size kind ≡ n = ap (λ (i : ℕ). i % 256 ^ kind_size kind) is ∙ kind_back kind n h in
    ap (extended (kind_size kind) (is_signed kind)) low ∙ sym is

pub told_number : (address : Pointer → ℕ) (objects : List Object) (g : FlowGlobal) (kind : Kind) (bytes : List Byte) (place : Standing ℕ ℕ) (v : ℕ) → g.kind ≡ Some kind → length bytes ≡ kind_size kind → AllByRecursion IsSmall bytes
    → scalar_of kind bytes ≡ Num v → GlobalInMachine address objects g bytes place → number_of kind place ≡ v
told_number address objects g kind bytes (InMemory words) v is long all e stands =
    let n = is_number kind bytes v long e in
    ap (extended (kind_size kind) (is_signed kind)) (in_bytes address objects bytes words n.number stands n.is) ∙ sym n.value
told_number address objects g kind bytes (InPlace word) v is long all e stands =
    let n = is_number kind bytes v long e in
    let below : n.number < 256 ^ kind_size kind = subst (λ (size : ℕ). n.number < 256 ^ size) long (small bytes n.number all n.is) in
    ap (of_kind kind) (in_place address objects g kind bytes word v is e stands) ∙ of_kind_back kind n.number v below n.value
