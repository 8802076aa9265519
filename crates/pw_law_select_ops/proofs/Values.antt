-- What operations make of values, and what the machine makes of the words that stand for them.
use Rattle.std.proofs.Common.{ℕ, zero, suc, ◌≡◌, ◌≢◌, ◌+◌, ◌*◌, ◌/◌, ◌%◌, ◌^◌, ◌<◌, ◌≤◌, ◌⊎◌, inl, inr, refl, ap, ap₂, sym, subst, ◌∙◌, arith, mod-eq_of_lt, div-le_self, Bool, true, false, not, ◌&&◌, nat_lt, nat_le, if◌then◌else◌, bit_and, bit_or, bit_xor, Option, Some, None, option_map, unwrap_or, List, length}
use Rattle.std.specs.Prelude.{◌==◌, Result, Ok, Err}
use Rattle.std.proofs.lemmas.Bool.{and_parts, eqb-true, eq-eqb, ne_eqb, lt-ltb, le-ltb, le-leb, lt-leb, leb-true, cases_eq, cases_lt}
use Rattle.std.proofs.lemmas.Bool.Decides.{nat_tests}
use Rattle.std.proofs.lemmas.Nat.{or_of_32, xor_of_32, and_le_l}
use Rattle.std.proofs.Math.Nat.{mod-le}
use Rattle.pw_value.specs.declared.value.Value.{Value}
use Rattle.pw_value.specs.declared.value.Value.TheVariants.{Undefined, Num, Null, At, Piece}
use Rattle.pw_value.specs.declared.value.Pointer.{Pointer}
use Rattle.pw_value.specs.declared.value.Pointer.TheVariants as P
use Rattle.pw_value.specs.Objects.{Object, object_at}
use Rattle.pw_value.specs.Values.{extended}
use Rattle.pw_value.specs.Words.{complement, shifted, divided, unsigned_sum, unsigned_difference, unsigned_product, unsigned_negation, unsigned_quotient, unsigned_remainder, signed_quotient, signed_remainder, signed_shift_right, shift_left, unsigned_shift_right}
use Rattle.pw_value.specs.declared.words.WordFault.{WordFault}
use Rattle.pw_value.specs.declared.words.WordFault.TheVariants.{ZeroDivisor, ShiftCount}
use Rattle.pw_flow.specs.declared.flow.UnKind.{UnKind}
use Rattle.pw_flow.specs.declared.flow.UnKind.TheVariants as un
use Rattle.pw_flow.specs.declared.flow.BinKind.{BinKind}
use Rattle.pw_flow.specs.declared.flow.BinKind.TheVariants as bin
use Rattle.pw_flow.specs.declared.flow.ExtKind.{ExtKind}
use Rattle.pw_flow.specs.declared.flow.ExtKind.TheVariants as ext
use Rattle.pw_run_languages.specs.Values.{truth, unary, extension, number_of, on_numbers, is_near, same_place, is_somewhere, on_pointers, pointer_and_number, number_and_pointer, binary}
use Rattle.pw_run_languages.specs.Programs.{Program, function_at, function_number}
use Rattle.pw_run_languages.specs.Addresses.{Addresses, AreLawful}
use Rattle.pw_run_languages.specs.Standing.{ValueStands}
use Rattle.pw_law_select_states.specs.Pointers.{IsKnown, ValueIsKnown}
use Rattle.pw_law_select_states.specs.Laid.{address, Lives, size_of, AreLaid}
use Rattle.pw_law_select_ops.proofs.Naming.{function_there}

-- ---- numbers that operations give

-- results of divisions and shifts are words
pub record WordLaws : Type 0 where
  pub quotient : (a b s : ℕ) → a < 2 ^ 32 → b < 2 ^ 32 → signed_quotient a b ≡ Ok s → s < 2 ^ 32
  pub remainder : (a b s : ℕ) → a < 2 ^ 32 → b < 2 ^ 32 → signed_remainder a b ≡ Ok s → s < 2 ^ 32
  pub shift : (a count s : ℕ) → a < 2 ^ 32 → signed_shift_right a count ≡ Ok s → s < 2 ^ 32

abbrev pub bit : Bool → ℕ
bit t = if t then 1 else 0

pub truth_bit : (t : Bool) → truth t ≡ Num (bit t)
truth_bit true = refl
truth_bit false = refl

pub same_number : (a b : ℕ) → Some (Num a) ≡ Some (Num b) → a ≡ b
same_number a b e = cc

same_value : (v z : Value) → Some v ≡ Some z → v ≡ z
same_value v z e = cc

abbrev IsNumber : Value → Type 0
IsNumber z = (n : ℕ) × (z ≡ Num n)

truth_is_number : (t : Bool) (z : Value) → Some (truth t) ≡ Some z → IsNumber z
truth_is_number t z e = (bit t, sym (same_value (truth t) z e) ∙ truth_bit t)

result_is_number : (r : Result ℕ WordFault) (z : Value) → number_of r ≡ Some z → IsNumber z
result_is_number (Ok n) z e = (n, sym (same_value (Num n) z e))
result_is_number (Err fault) z e = absurd cc

number_given : (k : BinKind) (a b : ℕ) (z : Value) → on_numbers k a b ≡ Some z → IsNumber z
number_given bin.Add a b z e = (unsigned_sum a b, sym (same_value (Num (unsigned_sum a b)) z e))
number_given bin.Sub a b z e = (unsigned_difference a b, sym (same_value (Num (unsigned_difference a b)) z e))
number_given bin.And a b z e = (bit_and a b, sym (same_value (Num (bit_and a b)) z e))
number_given bin.Or a b z e = (bit_or a b, sym (same_value (Num (bit_or a b)) z e))
number_given bin.Xor a b z e = (bit_xor a b, sym (same_value (Num (bit_xor a b)) z e))
number_given bin.Mul a b z e = (unsigned_product a b, sym (same_value (Num (unsigned_product a b)) z e))
number_given bin.DivS a b z e = result_is_number (signed_quotient a b) z e
number_given bin.DivU a b z e = result_is_number (unsigned_quotient a b) z e
number_given bin.RemS a b z e = result_is_number (signed_remainder a b) z e
number_given bin.RemU a b z e = result_is_number (unsigned_remainder a b) z e
number_given bin.Shl a b z e = result_is_number (shift_left a b) z e
number_given bin.ShrS a b z e = result_is_number (signed_shift_right a b) z e
number_given bin.ShrU a b z e = result_is_number (unsigned_shift_right a b) z e
number_given bin.Eq a b z e = truth_is_number (a == b) z e
number_given bin.Ne a b z e = truth_is_number (not (a == b)) z e
number_given bin.LtS a b z e = truth_is_number _ z e
number_given bin.LeS a b z e = truth_is_number _ z e
number_given bin.LtU a b z e = truth_is_number _ z e
number_given bin.LeU a b z e = truth_is_number _ z e

-- ---- they are words

truth_small : (t : Bool) (n : ℕ) → Some (truth t) ≡ Some (Num n) → n < 2 ^ 32
truth_small true n e = let same = same_number 1 n e in omega (arith, same)
truth_small false n e = let same = same_number 0 n e in omega (arith, same)

given_small : (m n : ℕ) → m < 2 ^ 32 → Some (Num m) ≡ Some (Num n) → n < 2 ^ 32
given_small m n small e = subst (λ (x : ℕ). x < 2 ^ 32) (same_number m n e) small

result_small : (r : Result ℕ WordFault) (n : ℕ) → ((s : ℕ) → r ≡ Ok s → s < 2 ^ 32) → number_of r ≡ Some (Num n) → n < 2 ^ 32
result_small (Ok m) n h e = subst (λ (x : ℕ). x < 2 ^ 32) (same_number m n e) (h m refl)
result_small (Err fault) n h e = absurd cc

divided_small : (b m s : ℕ) → m < 2 ^ 32 → divided b (Ok m) ≡ Ok s → s < 2 ^ 32
divided_small b m s small e = by_test (b == 0) e
  where
    by_test : (t : Bool) → (if t then Err ZeroDivisor else Ok m) ≡ Ok s → s < 2 ^ 32
    by_test true e = absurd cc
    by_test false e = let same : m ≡ s = cc in subst (λ (x : ℕ). x < 2 ^ 32) same small

shifted_small : (count m s : ℕ) → m < 2 ^ 32 → shifted count m ≡ Ok s → s < 2 ^ 32
shifted_small count m s small e = by_test (nat_lt count 32) e
  where
    by_test : (t : Bool) → (if t then Ok m else Err ShiftCount) ≡ Ok s → s < 2 ^ 32
    by_test true e = let same : m ≡ s = cc in subst (λ (x : ℕ). x < 2 ^ 32) same small
    by_test false e = absurd cc

pub binary_small : WordLaws → (k : BinKind) (a b n : ℕ) → on_numbers k a b ≡ Some (Num n) → a < 2 ^ 32 → b < 2 ^ 32 → n < 2 ^ 32
binary_small laws bin.Add a b n e h k = given_small (unsigned_sum a b) n (omega arith) e
binary_small laws bin.Sub a b n e h k = given_small (unsigned_difference a b) n (omega arith) e
binary_small laws bin.And a b n e h k = given_small (bit_and a b) n (let le = and_le_l a b in omega (arith, le, h)) e
binary_small laws bin.Or a b n e h k = given_small (bit_or a b) n (or_of_32 a b h k) e
binary_small laws bin.Xor a b n e h k = given_small (bit_xor a b) n (xor_of_32 a b h k) e
binary_small laws bin.Mul a b n e h k = given_small (unsigned_product a b) n (omega arith) e
binary_small laws bin.DivS a b n e h k = result_small (signed_quotient a b) n (λ s is. laws.quotient a b s h k is) e
binary_small laws bin.DivU a b n e h k = result_small (unsigned_quotient a b) n (λ s is. divided_small b (a / b) s (let le = div-le_self a b in omega (arith, le, h)) is) e
binary_small laws bin.RemS a b n e h k = result_small (signed_remainder a b) n (λ s is. laws.remainder a b s h k is) e
binary_small laws bin.RemU a b n e h k = result_small (unsigned_remainder a b) n (λ s is. divided_small b (a % b) s (let le = mod-le a b in omega (arith, le, h)) is) e
binary_small laws bin.Shl a b n e h k = result_small (shift_left a b) n (λ s is. shifted_small b (a * 2 ^ b % 2 ^ 32) s (omega arith) is) e
binary_small laws bin.ShrS a b n e h k = result_small (signed_shift_right a b) n (λ s is. laws.shift a b s h is) e
binary_small laws bin.ShrU a b n e h k = result_small (unsigned_shift_right a b) n (λ s is. shifted_small b (a / 2 ^ b) s (let le = div-le_self a (2 ^ b) in omega (arith, le, h)) is) e
binary_small laws bin.Eq a b n e h k = truth_small (a == b) n e
binary_small laws bin.Ne a b n e h k = truth_small (not (a == b)) n e
binary_small laws bin.LtS a b n e h k = truth_small _ n e
binary_small laws bin.LeS a b n e h k = truth_small _ n e
binary_small laws bin.LtU a b n e h k = truth_small _ n e
binary_small laws bin.LeU a b n e h k = truth_small _ n e

pub unary_small : (k : UnKind) (a n : ℕ) → unary k (Num a) ≡ Some (Num n) → n < 2 ^ 32
unary_small un.Neg a n e = given_small (unsigned_negation a) n (omega arith) e
unary_small un.Not a n e = given_small (complement a) n (omega arith) e

spread_small : (width a : ℕ) → a < 256 ^ width → width ≤ 2 → extended width true a < 2 ^ 32
spread_small zero a small le = grind (arith, nat_tests)
spread_small (suc zero) a small le = grind (arith, nat_tests)
spread_small (suc (suc zero)) a small le = grind (arith, nat_tests)
spread_small (suc (suc (suc n))) a small le = absurd (omega (arith, le))

pub extension_small : (k : ExtKind) (a n : ℕ) → extension k (Num a) ≡ Some (Num n) → n < 2 ^ 32
extension_small ext.S8 a n e = given_small (extended 1 true (a % 256)) n (spread_small 1 (a % 256) (omega arith) (omega arith)) e
extension_small ext.U8 a n e = given_small (a % 256) n (omega arith) e
extension_small ext.S16 a n e = given_small (extended 2 true (a % 65536)) n (spread_small 2 (a % 65536) (omega arith) (omega arith)) e
extension_small ext.U16 a n e = given_small (a % 65536) n (omega arith) e

-- ---- the words of pointers

module _ (p : Program) (w : Addresses) (site : ℕ → ℕ) (objects : List Object) (lawful : AreLawful p w) (laid : AreLaid p w site objects) where
  abbrev at : Pointer → ℕ
  at = address p w site

  -- a pointer into a live object or directly behind it
  pub record IsNear (o i : ℕ) : Type 0 where
    pub live : Lives objects o
    pub inside : i ≤ size_of objects o
    pub word : at (P.Object o i) ≡ site o + i

  pub near_is : (o i : ℕ) → Lives objects o → i ≤ size_of objects o → IsNear o i
  near_is o i live inside =
      let below = laid.below o live in
      let memory = lawful.memory in
      record { live = live; inside = inside; word = mod-eq_of_lt (omega (arith, below, memory, inside)) }

  near_by : (o i : ℕ) → is_near objects o i ≡ true → IsNear o i
  near_by o i e =
      let parts = and_parts ((object_at objects o).live) (nat_le i (length (object_at objects o).bytes)) e in
      near_is o i parts.0 (leb-true i (length (object_at objects o).bytes) parts.1)

  -- a function of the program
  record IsFunction (f : ℕ) : Type 0 where
    name : List ℕ
    there : function_at p f ≡ Some name
    word : at (P.Function f) ≡ w.named name

  function_is : (f : ℕ) → function_at p f ≢ None → IsFunction f
  function_is f some = by_found (function_at p f) refl
    where
      by_found : (o : Option (List ℕ)) → function_at p f ≡ o → IsFunction f
      by_found None e = absurd (some e)
      by_found (Some name) e = record { name = name; there = e; word = ap (λ (o : Option (List ℕ)). unwrap_or (option_map w.named o) 0) e }

  -- ---- whether two pointers are equal

  near_same : (o i q j : ℕ) → IsNear o i → IsNear q j → (site o + i == site q + j) ≡ ((o == q) && (i == j))
  near_same o i q j x y = by_object (cases_eq o q)
    where
      by_offset : (t : Bool) → site o ≡ site q → (i ≡ j) ⊎ (i ≡ j → ⊥) → (o == q) ≡ true → (site o + i == site q + j) ≡ ((o == q) && (i == j))
      by_offset t same (inl e) one =
          eq-eqb (site o + i) (site q + j) (ap₂ (λ (s k : ℕ). s + k) same e) ∙ sym (ap₂ (λ (a b : Bool). a && b) one (eq-eqb i j e))
      by_offset t same (inr ne) one =
          ne_eqb (site o + i) (site q + j) (λ e. ne (omega (arith, same, e))) ∙ sym (ap₂ (λ (a b : Bool). a && b) one (ne_eqb i j ne))

      apart : (site o + size_of objects o < site q) ⊎ (site q + size_of objects q < site o) → site o + i ≢ site q + j
      apart (inl less) e = let inside = x.inside in omega (arith, less, e, inside)
      apart (inr less) e = let inside = y.inside in omega (arith, less, e, inside)

      by_object : (o ≡ q) ⊎ (o ≡ q → ⊥) → (site o + i == site q + j) ≡ ((o == q) && (i == j))
      by_object (inl e) = by_offset true (ap site e) (cases_eq i j) (eq-eqb o q e)
      by_object (inr ne) =
          ne_eqb (site o + i) (site q + j) (apart (laid.apart o q x.live y.live ne)) ∙ sym (ap (λ (a : Bool). a && (i == j)) (ne_eqb o q ne))

  function_same : (f g : ℕ) → IsFunction f → IsFunction g → (at (P.Function f) == at (P.Function g)) ≡ (f == g)
  function_same f g x y = by_number (cases_eq f g)
    where
      by_number : (f ≡ g) ⊎ (f ≡ g → ⊥) → (at (P.Function f) == at (P.Function g)) ≡ (f == g)
      by_number (inl e) = eq-eqb (at (P.Function f)) (at (P.Function g)) (ap (λ (k : ℕ). at (P.Function k)) e) ∙ sym (eq-eqb f g e)
      by_number (inr ne) = ne_eqb (at (P.Function f)) (at (P.Function g)) (λ e. ne (one_number e)) ∙ sym (ne_eqb f g ne)
        where
          one_number : at (P.Function f) ≡ at (P.Function g) → f ≡ g
          one_number e =
              let a = function_there p f x.name x.there in
              let b = function_there p g y.name y.there in
              let same : x.name ≡ y.name = lawful.function_own x.name y.name a.0 b.0 (sym x.word ∙ (e ∙ y.word)) in
              sym a.1 ∙ (ap (function_number p) same ∙ b.1)

  -- a function stands below every object
  apart_from_function : (o i f : ℕ) → IsNear o i → IsFunction f → at (P.Function f) < at (P.Object o i)
  apart_from_function o i f x y =
      let below = lawful.function_below y.name (function_there p f y.name y.there).0 in
      let above = laid.above o x.live in
      let a = x.word in
      let b = y.word in omega (arith, below, above, a, b)

  pub same_words : (q r : Pointer) (t : Bool) → IsKnown p (length objects) q → IsKnown p (length objects) r → same_place objects q r ≡ Some t → (at q == at r) ≡ t
  same_words (P.Object o i) (P.Object q j) t h k e = by_near (is_near objects o i && is_near objects q j) refl e
    where
      by_near : (n : Bool) → (is_near objects o i && is_near objects q j) ≡ n → (if n then Some ((o == q) && (i == j)) else None) ≡ Some t
          → (at (P.Object o i) == at (P.Object q j)) ≡ t
      by_near true is e =
          let parts = and_parts (is_near objects o i) (is_near objects q j) is in
          let x = near_by o i parts.0 in
          let y = near_by q j parts.1 in
          let same : ((o == q) && (i == j)) ≡ t = cc in
          ap₂ (λ (a b : ℕ). a == b) x.word y.word ∙ (near_same o i q j x y ∙ same)
      by_near false is e = absurd cc
  same_words (P.Function f) (P.Function g) t h k e =
      let same : (f == g) ≡ t = cc in function_same f g (function_is f h) (function_is g k) ∙ same
  same_words (P.Object o i) (P.Function g) t h k e = by_near (is_near objects o i) refl e
    where
      by_near : (n : Bool) → is_near objects o i ≡ n → (if n then Some false else None) ≡ Some t → (at (P.Object o i) == at (P.Function g)) ≡ t
      by_near true is e =
          let same : false ≡ t = cc in
          let less = apart_from_function o i g (near_by o i is) (function_is g k) in
          ne_eqb (at (P.Object o i)) (at (P.Function g)) (λ e. omega (arith, less, e)) ∙ same
      by_near false is e = absurd cc
  same_words (P.Function f) (P.Object q j) t h k e = by_near (is_near objects q j) refl e
    where
      by_near : (n : Bool) → is_near objects q j ≡ n → (if n then Some false else None) ≡ Some t → (at (P.Function f) == at (P.Object q j)) ≡ t
      by_near true is e =
          let same : false ≡ t = cc in
          let less = apart_from_function q j f (near_by q j is) (function_is f h) in
          ne_eqb (at (P.Function f)) (at (P.Object q j)) (λ e. omega (arith, less, e)) ∙ same
      by_near false is e = absurd cc

  pub some_word : (q : Pointer) → IsKnown p (length objects) q → is_somewhere objects q ≡ true → at q ≢ 0
  some_word (P.Object o i) h e none =
      let x = near_by o i e in
      let above = laid.above o x.live in
      let least = lawful.data_above in
      let word = x.word in omega (arith, above, least, word, none)
  some_word (P.Function f) h e none =
      let y = function_is f h in
      let above = lawful.function_above y.name (function_there p f y.name y.there).0 in
      let word = y.word in omega (arith, above, word, none)

  -- ---- operations

  -- the number that an operation gives on words, and the value for which that stands
  pub record Gives (k : BinKind) (x y : ℕ) (z : Value) : Type 0 where
    pub number : ℕ
    pub is : on_numbers k x y ≡ Some (Num number)
    pub stands : ValueStands at z number

  truth_stands : (t s : Bool) (z : Value) → s ≡ t → Some (truth t) ≡ Some z → ValueStands at z (bit s)
  truth_stands t s z e is = subst (λ (v : Value). ValueStands at v (bit s)) (sym (truth_bit t) ∙ same_value (truth t) z is) (ap bit e)

  test_gives : (k : BinKind) (x y : ℕ) (s t : Bool) (z : Value) → on_numbers k x y ≡ Some (truth s) → s ≡ t → Some (truth t) ≡ Some z → Gives k x y z
  test_gives k x y s t z is e gives =
      record { number = bit s; is = is ∙ ap Some (truth_bit s); stands = truth_stands t s z e gives }

  numbers_give : (k : BinKind) (a b x y : ℕ) (z : Value) → x ≡ a → y ≡ b → on_numbers k a b ≡ Some z → Gives k x y z
  numbers_give k a b x y z one two e =
      let n = number_given k a b z e in record {
        number = n.0;
        is = ap₂ (on_numbers k) one two ∙ (e ∙ ap Some n.1);
        stands = subst (λ (v : Value). ValueStands at v n.0) (sym n.1) refl;
      }

  order_lt : (s i j : ℕ) → nat_lt (s + i) (s + j) ≡ nat_lt i j
  order_lt s i j = by_order (cases_lt i j)
    where
      by_order : (i < j) ⊎ (j ≤ i) → nat_lt (s + i) (s + j) ≡ nat_lt i j
      by_order (inl less) = lt-ltb (s + i) (s + j) (omega (arith, less)) ∙ sym (lt-ltb i j less)
      by_order (inr more) = le-ltb (s + i) (s + j) (omega (arith, more)) ∙ sym (le-ltb i j more)

  order_le : (s i j : ℕ) → nat_le (s + i) (s + j) ≡ nat_le i j
  order_le s i j = by_order (cases_lt j i)
    where
      by_order : (j < i) ⊎ (i ≤ j) → nat_le (s + i) (s + j) ≡ nat_le i j
      by_order (inl less) = lt-leb (s + i) (s + j) (omega (arith, less)) ∙ sym (lt-leb i j less)
      by_order (inr more) = le-leb (s + i) (s + j) (omega (arith, more)) ∙ sym (le-leb i j more)

  -- the distance of two pointers into one object
  apart_by : (s i j : ℕ) → i < 2 ^ 32 → j < 2 ^ 32 → unsigned_difference ((s + i) % 2 ^ 32) ((s + j) % 2 ^ 32) ≡ unsigned_difference i j
  apart_by s i j hi hj = omega (arith, hi, hj)

  -- one object, and both pointers near it
  record AreOrdered (o i q j : ℕ) : Type 0 where
    same : o ≡ q
    one : IsNear o i
    two : IsNear q j

  ordered : (o i q j : ℕ) → ((o == q) && (is_near objects o i && is_near objects q j)) ≡ true → AreOrdered o i q j
  ordered o i q j e =
      let parts = and_parts (o == q) (is_near objects o i && is_near objects q j) e in
      let both = and_parts (is_near objects o i) (is_near objects q j) parts.1 in
      record { same = eqb-true o q parts.0; one = near_by o i both.0; two = near_by q j both.1 }

  order_gives : (k : BinKind) (test : ℕ → ℕ → Bool) (o i q j x y : ℕ) (z : Value) → ((a b : ℕ) → on_numbers k a b ≡ Some (truth (test a b)))
      → ((s a b : ℕ) → test (s + a) (s + b) ≡ test a b) → x ≡ at (P.Object o i) → y ≡ at (P.Object q j)
      → (if (o == q) && (is_near objects o i && is_near objects q j) then Some (truth (test i j)) else None) ≡ Some z → Gives k x y z
  order_gives k test o i q j x y z is moved one two e = by_test ((o == q) && (is_near objects o i && is_near objects q j)) refl e
    where
      by_test : (t : Bool) → ((o == q) && (is_near objects o i && is_near objects q j)) ≡ t → (if t then Some (truth (test i j)) else None) ≡ Some z → Gives k x y z
      by_test true h e =
          let r = ordered o i q j h in
          let a : x ≡ site o + i = one ∙ r.one.word in
          let b : y ≡ site o + j = two ∙ (r.two.word ∙ ap (λ (s : ℕ). site s + j) (sym r.same)) in
          test_gives k x y (test x y) (test i j) z (is x y) (ap₂ test a b ∙ moved (site o) i j) e
      by_test false h e = absurd cc

  pointers_give : (k : BinKind) (q r : Pointer) (x y : ℕ) (z : Value) → x ≡ at q → y ≡ at r → IsKnown p (length objects) q → IsKnown p (length objects) r
      → on_pointers objects k q r ≡ Some z → Gives k x y z
  pointers_give bin.Eq q r x y z one two h k e = by_same (same_place objects q r) refl e
    where
      by_same : (o : Option Bool) → same_place objects q r ≡ o → option_map truth o ≡ Some z → Gives bin.Eq x y z
      by_same None is e = absurd cc
      by_same (Some t) is e =
          test_gives bin.Eq x y (x == y) t z refl (ap₂ (λ (a b : ℕ). a == b) one two ∙ same_words q r t h k is) e
  pointers_give bin.Ne q r x y z one two h k e = by_same (same_place objects q r) refl e
    where
      by_same : (o : Option Bool) → same_place objects q r ≡ o → option_map (λ same. truth (not same)) o ≡ Some z → Gives bin.Ne x y z
      by_same None is e = absurd cc
      by_same (Some t) is e =
          test_gives bin.Ne x y (not (x == y)) (not t) z refl (ap not (ap₂ (λ (a b : ℕ). a == b) one two ∙ same_words q r t h k is)) e
  pointers_give bin.Sub (P.Object o i) (P.Object q j) x y z one two h k e = by_test (o == q) refl e
    where
      by_test : (t : Bool) → (o == q) ≡ t → (if t then Some (Num (unsigned_difference i j)) else None) ≡ Some z → Gives bin.Sub x y z
      by_test true same e =
          let o_is : o ≡ q = eqb-true o q same in
          let value : unsigned_difference x y ≡ unsigned_difference i j =
          ap₂ unsigned_difference one (two ∙ ap (λ (s : ℕ). (site s + j) % 2 ^ 32) (sym o_is)) ∙ apart_by (site o) i j h.1 k.1 in
          record {
            number = unsigned_difference x y;
            is = refl;
            stands = subst (λ (v : Value). ValueStands at v (unsigned_difference x y)) (same_value (Num (unsigned_difference i j)) z e) value;
          }
      by_test false same e = absurd cc
  pointers_give bin.LtU (P.Object o i) (P.Object q j) x y z one two h k e =
      order_gives bin.LtU nat_lt o i q j x y z (λ a b. refl) order_lt one two e
  pointers_give bin.LeU (P.Object o i) (P.Object q j) x y z one two h k e =
      order_gives bin.LeU nat_le o i q j x y z (λ a b. refl) order_le one two e
  pointers_give bin.Sub (P.Object o i) (P.Function g) x y z one two h k e = absurd cc
  pointers_give bin.Sub (P.Function f) r x y z one two h k e = absurd cc
  pointers_give bin.LtU (P.Object o i) (P.Function g) x y z one two h k e = absurd cc
  pointers_give bin.LtU (P.Function f) r x y z one two h k e = absurd cc
  pointers_give bin.LeU (P.Object o i) (P.Function g) x y z one two h k e = absurd cc
  pointers_give bin.LeU (P.Function f) r x y z one two h k e = absurd cc
  pointers_give bin.Add q r x y z one two h k e = absurd cc
  pointers_give bin.And q r x y z one two h k e = absurd cc
  pointers_give bin.Or q r x y z one two h k e = absurd cc
  pointers_give bin.Xor q r x y z one two h k e = absurd cc
  pointers_give bin.Mul q r x y z one two h k e = absurd cc
  pointers_give bin.DivS q r x y z one two h k e = absurd cc
  pointers_give bin.DivU q r x y z one two h k e = absurd cc
  pointers_give bin.RemS q r x y z one two h k e = absurd cc
  pointers_give bin.RemU q r x y z one two h k e = absurd cc
  pointers_give bin.Shl q r x y z one two h k e = absurd cc
  pointers_give bin.ShrS q r x y z one two h k e = absurd cc
  pointers_give bin.ShrU q r x y z one two h k e = absurd cc
  pointers_give bin.LtS q r x y z one two h k e = absurd cc
  pointers_give bin.LeS q r x y z one two h k e = absurd cc

  -- a pointer and a number
  sum_word : (s i n : ℕ) → unsigned_sum ((s + i) % 2 ^ 32) n ≡ (s + unsigned_sum i n) % 2 ^ 32
  sum_word s i n = omega arith

  difference_word : (s i n : ℕ) → n < 2 ^ 32 → unsigned_difference ((s + i) % 2 ^ 32) n ≡ (s + unsigned_difference i n) % 2 ^ 32
  difference_word s i n small = omega (arith, small)

  null_test : (q : Pointer) (x y : ℕ) → x ≡ at q → y ≡ 0 → IsKnown p (length objects) q → is_somewhere objects q ≡ true → (x == y) ≡ false
  null_test q x y one two h e = ne_eqb x y (λ same. some_word q h e (sym one ∙ (same ∙ two)))

  null_also : (q : Pointer) (x y : ℕ) → x ≡ 0 → y ≡ at q → IsKnown p (length objects) q → is_somewhere objects q ≡ true → (x == y) ≡ false
  null_also q x y one two h e = ne_eqb x y (λ same. some_word q h e (sym two ∙ (sym same ∙ one)))

  -- compared with null
  null_gives : (k : BinKind) (q : Pointer) (x y : ℕ) (t : Bool) (z : Value) → (is_somewhere objects q ≡ true → (s : Bool) × (on_numbers k x y ≡ Some (truth s)) × (s ≡ t))
      → (if is_somewhere objects q then Some (truth t) else None) ≡ Some z → Gives k x y z
  null_gives k q x y t z h e = by_test (is_somewhere objects q) refl e
    where
      by_test : (b : Bool) → is_somewhere objects q ≡ b → (if b then Some (truth t) else None) ≡ Some z → Gives k x y z
      by_test true is e = let r = h is in test_gives k x y r.0 t z r.1 r.2 e
      by_test false is e = absurd cc

  pointer_number_gives : (k : BinKind) (q : Pointer) (n x y : ℕ) (z : Value) → x ≡ at q → y ≡ n → y < 2 ^ 32 → IsKnown p (length objects) q
      → pointer_and_number objects k q n ≡ Some z → Gives k x y z
  pointer_number_gives bin.Add (P.Object o i) n x y z one two small h e = record {
    number = unsigned_sum x y;
    is = refl;
    stands =
        subst (λ (v : Value). ValueStands at v (unsigned_sum x y)) (same_value (At (P.Object o (unsigned_sum i n))) z e)
        (ap₂ unsigned_sum one two ∙ sum_word (site o) i n);
  }
  pointer_number_gives bin.Sub (P.Object o i) n x y z one two small h e = record {
    number = unsigned_difference x y;
    is = refl;
    stands =
        subst (λ (v : Value). ValueStands at v (unsigned_difference x y)) (same_value (At (P.Object o (unsigned_difference i n))) z e)
        (ap₂ unsigned_difference one two ∙ difference_word (site o) i n (subst (λ (m : ℕ). m < 2 ^ 32) two small));
  }
  pointer_number_gives bin.Eq q zero x y z one two small h e =
      null_gives bin.Eq q x y false z (λ is. ((x == y), refl, null_test q x y one two h is)) e
  pointer_number_gives bin.Ne q zero x y z one two small h e =
      null_gives bin.Ne q x y true z (λ is. (not (x == y), refl, ap not (null_test q x y one two h is))) e
  pointer_number_gives bin.Eq q (suc n) x y z one two small h e = absurd cc
  pointer_number_gives bin.Ne q (suc n) x y z one two small h e = absurd cc
  pointer_number_gives bin.Add (P.Function f) n x y z one two small h e = absurd cc
  pointer_number_gives bin.Sub (P.Function f) n x y z one two small h e = absurd cc
  pointer_number_gives bin.And q n x y z one two small h e = absurd cc
  pointer_number_gives bin.Or q n x y z one two small h e = absurd cc
  pointer_number_gives bin.Xor q n x y z one two small h e = absurd cc
  pointer_number_gives bin.Mul q n x y z one two small h e = absurd cc
  pointer_number_gives bin.DivS q n x y z one two small h e = absurd cc
  pointer_number_gives bin.DivU q n x y z one two small h e = absurd cc
  pointer_number_gives bin.RemS q n x y z one two small h e = absurd cc
  pointer_number_gives bin.RemU q n x y z one two small h e = absurd cc
  pointer_number_gives bin.Shl q n x y z one two small h e = absurd cc
  pointer_number_gives bin.ShrS q n x y z one two small h e = absurd cc
  pointer_number_gives bin.ShrU q n x y z one two small h e = absurd cc
  pointer_number_gives bin.LtS q n x y z one two small h e = absurd cc
  pointer_number_gives bin.LeS q n x y z one two small h e = absurd cc
  pointer_number_gives bin.LtU q n x y z one two small h e = absurd cc
  pointer_number_gives bin.LeU q n x y z one two small h e = absurd cc

  number_pointer_gives : (k : BinKind) (n : ℕ) (q : Pointer) (x y : ℕ) (z : Value) → x ≡ n → y ≡ at q → IsKnown p (length objects) q
      → number_and_pointer objects k n q ≡ Some z → Gives k x y z
  number_pointer_gives bin.Eq zero q x y z one two h e =
      null_gives bin.Eq q x y false z (λ is. ((x == y), refl, null_also q x y one two h is)) e
  number_pointer_gives bin.Ne zero q x y z one two h e =
      null_gives bin.Ne q x y true z (λ is. (not (x == y), refl, ap not (null_also q x y one two h is))) e
  number_pointer_gives bin.Eq (suc n) q x y z one two h e = absurd cc
  number_pointer_gives bin.Ne (suc n) q x y z one two h e = absurd cc
  number_pointer_gives bin.Add n q x y z one two h e = absurd cc
  number_pointer_gives bin.Sub n q x y z one two h e = absurd cc
  number_pointer_gives bin.And n q x y z one two h e = absurd cc
  number_pointer_gives bin.Or n q x y z one two h e = absurd cc
  number_pointer_gives bin.Xor n q x y z one two h e = absurd cc
  number_pointer_gives bin.Mul n q x y z one two h e = absurd cc
  number_pointer_gives bin.DivS n q x y z one two h e = absurd cc
  number_pointer_gives bin.DivU n q x y z one two h e = absurd cc
  number_pointer_gives bin.RemS n q x y z one two h e = absurd cc
  number_pointer_gives bin.RemU n q x y z one two h e = absurd cc
  number_pointer_gives bin.Shl n q x y z one two h e = absurd cc
  number_pointer_gives bin.ShrS n q x y z one two h e = absurd cc
  number_pointer_gives bin.ShrU n q x y z one two h e = absurd cc
  number_pointer_gives bin.LtS n q x y z one two h e = absurd cc
  number_pointer_gives bin.LeS n q x y z one two h e = absurd cc
  number_pointer_gives bin.LtU n q x y z one two h e = absurd cc
  number_pointer_gives bin.LeU n q x y z one two h e = absurd cc

  pub binary_gives : (k : BinKind) (v u z : Value) (x y : ℕ) → ValueStands at v x → ValueStands at u y → y < 2 ^ 32
      → ValueIsKnown p (length objects) v → ValueIsKnown p (length objects) u → binary objects k v u ≡ Some z → Gives k x y z
  binary_gives k (Num a) (Num b) z x y one two small h i e = numbers_give k a b x y z one two e
  binary_gives k (At q) (At r) z x y one two small h i e = pointers_give k q r x y z one two h i e
  binary_gives k (At q) (Num n) z x y one two small h i e = pointer_number_gives k q n x y z one two small h e
  binary_gives k (Num n) (At q) z x y one two small h i e = number_pointer_gives k n q x y z one two i e
  binary_gives k Undefined u z x y one two small h i e = absurd cc
  binary_gives k Null u z x y one two small h i e = absurd cc
  binary_gives k (Piece q j) u z x y one two small h i e = absurd cc
  binary_gives k (Num a) Undefined z x y one two small h i e = absurd cc
  binary_gives k (Num a) Null z x y one two small h i e = absurd cc
  binary_gives k (Num a) (Piece q j) z x y one two small h i e = absurd cc
  binary_gives k (At q) Undefined z x y one two small h i e = absurd cc
  binary_gives k (At q) Null z x y one two small h i e = absurd cc
  binary_gives k (At q) (Piece r j) z x y one two small h i e = absurd cc

  -- ---- operations on one value

  pub record GivesOne (does : Value → Option Value) (x : ℕ) (z : Value) : Type 0 where
    pub number : ℕ
    pub is : does (Num x) ≡ Some (Num number)
    pub stands : ValueStands at z number

  pub unary_gives : (k : UnKind) (v z : Value) (x : ℕ) → ValueStands at v x → unary k v ≡ Some z → GivesOne (unary k) x z
  unary_gives un.Neg (Num a) z x one e =
      record { number = unsigned_negation x; is = refl; stands = subst (λ (v : Value). ValueStands at v (unsigned_negation x)) (same_value (Num (unsigned_negation a)) z e) (ap unsigned_negation one) }
  unary_gives un.Not (Num a) z x one e =
      record { number = complement x; is = refl; stands = subst (λ (v : Value). ValueStands at v (complement x)) (same_value (Num (complement a)) z e) (ap complement one) }
  unary_gives un.Neg Undefined z x one e = absurd cc
  unary_gives un.Neg Null z x one e = absurd cc
  unary_gives un.Neg (At q) z x one e = absurd cc
  unary_gives un.Neg (Piece q j) z x one e = absurd cc
  unary_gives un.Not Undefined z x one e = absurd cc
  unary_gives un.Not Null z x one e = absurd cc
  unary_gives un.Not (At q) z x one e = absurd cc
  unary_gives un.Not (Piece q j) z x one e = absurd cc

  -- the low byte stays where a sign is spread
  low_spread : (x : ℕ) → extended 1 true (x % 256) % 256 ≡ x % 256
  low_spread x = grind (arith, nat_tests)

  low_twice : (x : ℕ) → x % 256 % 256 ≡ x % 256
  low_twice x = omega arith

  extends : (f : ℕ → ℕ) (does : Value → Option Value) (a x : ℕ) (z : Value) → ((n : ℕ) → does (Num n) ≡ Some (Num (f n))) → x ≡ a → does (Num a) ≡ Some z → GivesOne does x z
  extends f does a x z is one e = record {
    number = f x;
    is = is x;
    stands = subst (λ (v : Value). ValueStands at v (f x)) (same_value (Num (f a)) z (sym (is a) ∙ e)) (ap f one);
  }

  pub extension_gives : (k : ExtKind) (v z : Value) (x : ℕ) → ValueStands at v x → extension k v ≡ Some z → GivesOne (extension k) x z
  extension_gives ext.S8 (Num a) z x one e = extends (λ n. extended 1 true (n % 256)) (extension ext.S8) a x z (λ n. refl) one e
  extension_gives ext.U8 (Num a) z x one e = extends (λ n. n % 256) (extension ext.U8) a x z (λ n. refl) one e
  extension_gives ext.S16 (Num a) z x one e = extends (λ n. extended 2 true (n % 65536)) (extension ext.S16) a x z (λ n. refl) one e
  extension_gives ext.U16 (Num a) z x one e = extends (λ n. n % 65536) (extension ext.U16) a x z (λ n. refl) one e
  extension_gives ext.S8 (Piece q j) z x one e = record {
    number = extended 1 true (x % 256);
    is = refl;
    stands = subst (λ (v : Value). ValueStands at v (extended 1 true (x % 256))) (same_value (Piece q j) z e) (low_spread x ∙ one);
  }
  extension_gives ext.U8 (Piece q j) z x one e = record {
    number = x % 256;
    is = refl;
    stands = subst (λ (v : Value). ValueStands at v (x % 256)) (same_value (Piece q j) z e) (low_twice x ∙ one);
  }
  extension_gives ext.S16 (Piece q j) z x one e = absurd cc
  extension_gives ext.U16 (Piece q j) z x one e = absurd cc
  extension_gives k Undefined z x one e = by_kind k e
    where
      by_kind : (k : ExtKind) → extension k Undefined ≡ Some z → GivesOne (extension k) x z
      by_kind ext.S8 e = absurd cc
      by_kind ext.U8 e = absurd cc
      by_kind ext.S16 e = absurd cc
      by_kind ext.U16 e = absurd cc
  extension_gives k Null z x one e = by_kind k e
    where
      by_kind : (k : ExtKind) → extension k Null ≡ Some z → GivesOne (extension k) x z
      by_kind ext.S8 e = absurd cc
      by_kind ext.U8 e = absurd cc
      by_kind ext.S16 e = absurd cc
      by_kind ext.U16 e = absurd cc
  extension_gives k (At q) z x one e = by_kind k e
    where
      by_kind : (k : ExtKind) → extension k (At q) ≡ Some z → GivesOne (extension k) x z
      by_kind ext.S8 e = absurd cc
      by_kind ext.U8 e = absurd cc
      by_kind ext.S16 e = absurd cc
      by_kind ext.U16 e = absurd cc
