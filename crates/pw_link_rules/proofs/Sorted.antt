-- Names in byte order, and two places of a list of names with modules that is sorted by both.
use Rattle.std.proofs.Common.{◌≡◌, ◌≢◌, ℕ, zero, suc, ◌+◌, ◌<◌, ◌≤◌, Bool, false, List, [], ◌∷◌, length, get_or, map, refl, sym, ap, subst, ◌∙◌, arith, inl, inr}
use Rattle.std.specs.Prelude.{Option, Some, None, slice_get}
use Rattle.std.specs.List.Sorted.{IsSortedBy}
use Rattle.std.specs.Ordering.{nat_cmp, is_lt, ordering_reverse, ordering_then}
use Rattle.std.specs.Cmp.{IsStrictWeakOrder}
use Rattle.std.specs.Cmp.Lexicographic.{slice_cmp}
use Rattle.std.specs.declared.cmp.Ordering.{Ordering}
use Rattle.std.specs.declared.cmp.Ordering.TheVariants.{Less, Equal, Greater}
use Rattle.std.proofs.lemmas.Bool.{cases_lt}
use Rattle.std.proofs.lemmas.Cmp.{nat_list_cmp_total, tied_itself, on_total, then_total}
use Rattle.std.proofs.lemmas.List.{get_or-map, length-map}
use Rattle.std.proofs.lemmas.List.Sorted.{ranks_by, sorted_far}
use Rattle.std.proofs.lemmas.Map.Lookups.{exact_bytes}
use Rattle.pw_link_rules.specs.Entries.{stands_before, Two, AreFirst, AreNone}

abbrev order : List ℕ → List ℕ → Ordering
order = slice_cmp nat_cmp

-- ---- a name that is not below another

abbrev pub Up : List ℕ → List ℕ → Type 0
Up a b = is_lt (order b a) ≡ false

pub not_less : (o : Ordering) → is_lt o ≡ false → o ≢ Less
not_less Less e h = cc
not_less Equal e h = cc
not_less Greater e h = cc

up_again : (a : List ℕ) → Up a a
up_again a = ap is_lt (tied_itself nat_list_cmp_total a)

up_over : (a b c : List ℕ) → Up a b → Up b c → Up a c
up_over a b c ab bc = (ranks_by nat_list_cmp_total (λ (x : List ℕ). x)).chain c b a bc ab

level : (one other : Ordering) → one ≡ ordering_reverse other → is_lt one ≡ false → is_lt other ≡ false → one ≡ Equal
level Less other e a b = absurd cc
level Equal other e a b = refl
level Greater Less e a b = absurd cc
level Greater Equal e a b = absurd cc
level Greater Greater e a b = absurd cc

pub up_both : (a b : List ℕ) → Up a b → Up b a → a ≡ b
up_both a b ab ba = exact_bytes a b (level (order a b) (order b a) (nat_list_cmp_total.antisymm a b) ba ab)

-- ---- lists of a name and two modules

then_three : (p q r : Ordering) → is_lt p ≡ false → (p ≡ Equal → is_lt q ≡ false) → (p ≡ Equal → q ≡ Equal → is_lt r ≡ false) → ordering_then p (ordering_then q (ordering_then r Equal)) ≢ Less
then_three Less q r a b c = absurd cc
then_three Greater q r a b c = λ e. cc
then_three Equal Less r a b c = let h = b refl in absurd cc
then_three Equal Greater r a b c = λ e. cc
then_three Equal Equal Less a b c = let h = c refl refl in absurd cc
then_three Equal Equal Equal a b c = λ e. cc
then_three Equal Equal Greater a b c = λ e. cc

three : (n a b m c d : List ℕ) → Up n m → (m ≡ n → Up a c) → (m ≡ n → c ≡ a → Up b d) → slice_cmp order (m ∷ c ∷ d ∷ []) (n ∷ a ∷ b ∷ []) ≢ Less
three n a b m c d up one other = then_three (order m n) (order c a) (order d b) up (λ e. one (exact_bytes m n e)) (λ e f. other (exact_bytes m n e) (exact_bytes c a f))

-- ---- places of a list

pub get_some : {X : Type 0} (xs : List X) (i : ℕ) (x d : X) → slice_get xs i ≡ Some x → (i < length xs) × (get_or xs i d ≡ x)
get_some [] i x d e = absurd cc
get_some (y ∷ xs) zero x d e = let same : y ≡ x = cc in (omega arith, same)
get_some (y ∷ xs) (suc i) x d e = let r = get_some xs i x d e in (omega (arith, r.0), r.1)

pub some_get : {X : Type 0} (xs : List X) (i : ℕ) (x : X) → i < length xs → x ≡ get_or xs i x → slice_get xs i ≡ Some x
some_get [] i x lt e = absurd (omega arith)
some_get (y ∷ xs) zero x lt e = let same : y ≡ x = sym e in ap Some same
some_get (y ∷ xs) (suc i) x lt e = some_get xs i x (omega (arith, lt)) e

pub some_at : {X : Type 0} (xs : List X) (i : ℕ) → i < length xs → (x : X) × (slice_get xs i ≡ Some x)
some_at [] i lt = absurd (omega (arith, lt))
some_at (y ∷ xs) zero lt = (y, refl)
some_at (y ∷ xs) (suc i) lt = some_at xs i (omega (arith, lt))

or_self : {X : Type 0} → X → Option X → X
or_self d None = d
or_self d (Some e) = e

-- one item stands at a place
pub one_item : {X : Type 0} (xs : List X) (i : ℕ) (a b : X) → slice_get xs i ≡ Some a → slice_get xs i ≡ Some b → a ≡ b
unfolding or_self
one_item xs i a b at_a at_b = ap (or_self a) (sym at_a ∙ at_b)

pub get_mapped : {R X : Type 0} (view : R → X) (xs : List R) (i : ℕ) (x : R) → i < length xs → x ≡ get_or xs i x → slice_get (map view xs) i ≡ Some (view x)
get_mapped view [] i x lt e = absurd (omega arith)
get_mapped view (y ∷ xs) zero x lt e = let same : y ≡ x = sym e in ap (λ z. Some (view z)) same
get_mapped view (y ∷ xs) (suc i) x lt e = get_mapped view xs i x (omega (arith, lt)) e

-- ---- a list that is sorted

pub ranked : {X : Type 0} (pair : X → List ℕ × List ℕ) → IsStrictWeakOrder (λ a b. stands_before (pair a) (pair b))
ranked {X} pair = ranks_by (then_total (on_total (λ (p : List ℕ × List ℕ). p.0) nat_list_cmp_total) (on_total (λ (p : List ℕ × List ℕ). p.1) nat_list_cmp_total)) pair

pub sorted_view : {R X : Type 0} (view : R → X) (lt : X → X → Bool) (xs : List R) → IsSortedBy (λ a b. lt (view a) (view b)) xs → IsSortedBy lt (map view xs)
sorted_view view lt [] up k d low high = absurd (omega (arith, high))
sorted_view view lt (x ∷ xs) up k d low high =
    let within : k + 1 < length (x ∷ xs) = omega (arith, high, length-map (x ∷ xs) view) in
    let before : k < length (x ∷ xs) = omega (arith, within) in
    rw (get_or-map view (x ∷ xs) (k + 1) x d within, get_or-map view (x ∷ xs) k x d before) (up k x low within)

parts : (p q : Ordering) → is_lt (ordering_then p q) ≡ false → (is_lt p ≡ false) × (p ≡ Equal → is_lt q ≡ false)
parts Less q h = absurd cc
parts Equal q h = (refl, λ e. h)
parts Greater q h = (refl, λ e. absurd cc)

-- what does not stand before another has no lesser name, and for the same name no lesser module
up_by : (a b : List ℕ × List ℕ) → stands_before b a ≡ false → Up a.0 b.0 × (a.0 ≡ b.0 → Up a.1 b.1)
up_by a b near =
    let split = parts (order b.0 a.0) (order b.1 a.1) near in
    (split.0, λ e. split.1 (subst (λ (n : List ℕ). order n a.0 ≡ Equal) e (tied_itself nat_list_cmp_total a.0)))

abbrev pub IsSortedAs : {X : Type 0} → (X → List ℕ × List ℕ) → List X → Type 0
IsSortedAs pair xs = IsSortedBy (λ a b. stands_before (pair a) (pair b)) xs

-- a later place does not stand before an earlier one
pub before_at : {X : Type 0} (pair : X → List ℕ × List ℕ) (xs : List X) → IsSortedAs pair xs → (i j : ℕ) (a b : X) → i ≤ j → slice_get xs i ≡ Some a → slice_get xs j ≡ Some b → stands_before (pair b) (pair a) ≡ false
before_at {X} pair xs sorted i j a b le at_i at_j =
    let one = get_some xs i a a at_i in
    let two = get_some xs j b a at_j in
    let far : stands_before (pair (get_or xs j a)) (pair (get_or xs i a)) ≡ false = sorted_far (λ (x y : X). stands_before (pair x) (pair y)) (ranked pair) xs sorted i j a le two.0 in
    subst (λ (x : X). stands_before (pair x) (pair a) ≡ false) two.1 (subst (λ (x : X). stands_before (pair (get_or xs j a)) (pair x) ≡ false) one.1 far)

pub up_at : {X : Type 0} (pair : X → List ℕ × List ℕ) (xs : List X) → IsSortedAs pair xs → (i j : ℕ) (a b : X) → i ≤ j → slice_get xs i ≡ Some a → slice_get xs j ≡ Some b → Up (pair a).0 (pair b).0 × ((pair a).0 ≡ (pair b).0 → Up (pair a).1 (pair b).1)
up_at pair xs sorted i j a b le at_i at_j = up_by (pair a) (pair b) (before_at pair xs sorted i j a b le at_i at_j)

-- ---- the first two places are the least

pub pairs : (p q : List ℕ × List ℕ) → p.0 ≡ q.0 → p.1 ≡ q.1 → p ≡ q
pairs p q e f = ap (λ (x : List ℕ). (x, p.1)) e ∙ ap (λ (y : List ℕ). (q.0, y)) f

-- what every two places come to, beside the first two
record Beside (n a b m c d : List ℕ) : Type 0 where
  name : Up n m
  one : n ≡ m → Up a c
  other : n ≡ m → c ≡ a → Up b d
  rise : Up c d

beside : {X : Type 0} (pair : X → List ℕ × List ℕ) (Wrong : X → X → Type 0) → ((x y : X) → Wrong x y → (pair x).0 ≡ (pair y).0) → (xs : List X) → IsSortedAs pair xs → (i j : ℕ) (first : AreFirst pair Wrong xs i j) (p q : ℕ) (t : Two Wrong xs p q)
    → Beside (pair first.two.low).0 (pair first.two.low).1 (pair first.two.high).1 (pair t.low).0 (pair t.low).1 (pair t.high).1
beside pair Wrong same xs sorted i j first p q t =
    let f = first.two in
    let up = up_by (pair f.low) (pair t.low) (first.sooner p q t) in
    let along = up_at pair xs sorted p q t.low t.high (omega (arith, t.rise)) t.at_low t.at_high in
    record {
      name = up.0;
      one = up.1;
      other = λ e g. (up_at pair xs sorted j q f.high t.high (first.ends p q t (pairs (pair t.low) (pair f.low) (sym e) g)) f.at_high t.at_high).1
          (sym (same f.low f.high f.wrong) ∙ e ∙ same t.low t.high t.wrong);
      rise = along.1 (same t.low t.high t.wrong);
    }

pub least_forth : {X : Type 0} (pair : X → List ℕ × List ℕ) (Wrong : X → X → Type 0) → ((x y : X) → Wrong x y → (pair x).0 ≡ (pair y).0) → (xs : List X) → IsSortedAs pair xs → (i j : ℕ) (first : AreFirst pair Wrong xs i j) (p q : ℕ) (t : Two Wrong xs p q)
    → slice_cmp order ((pair t.low).0 ∷ (pair t.low).1 ∷ (pair t.high).1 ∷ []) ((pair first.two.low).0 ∷ (pair first.two.low).1 ∷ (pair first.two.high).1 ∷ []) ≢ Less
least_forth pair Wrong same xs sorted i j first p q t =
    let h = beside pair Wrong same xs sorted i j first p q t in
    three (pair first.two.low).0 (pair first.two.low).1 (pair first.two.high).1 (pair t.low).0 (pair t.low).1 (pair t.high).1 h.name (λ e. h.one (sym e)) (λ e g. h.other (sym e) g)

turned : (n a b m c d : List ℕ) → Beside n a b m c d → slice_cmp order (m ∷ d ∷ c ∷ []) (n ∷ a ∷ b ∷ []) ≢ Less
turned n a b m c d h =
    three n a b m d c h.name (λ e. up_over a c d (h.one (sym e)) h.rise)
    (λ e g. let low : c ≡ a = sym (up_both a c (h.one (sym e)) (subst (Up c) g h.rise)) in
    subst (Up b) (g ∙ sym low) (h.other (sym e) low))

pub least_back : {X : Type 0} (pair : X → List ℕ × List ℕ) (Wrong : X → X → Type 0) → ((x y : X) → Wrong x y → (pair x).0 ≡ (pair y).0) → (xs : List X) → IsSortedAs pair xs → (i j : ℕ) (first : AreFirst pair Wrong xs i j) (p q : ℕ) (t : Two Wrong xs p q)
    → slice_cmp order ((pair t.low).0 ∷ (pair t.high).1 ∷ (pair t.low).1 ∷ []) ((pair first.two.low).0 ∷ (pair first.two.low).1 ∷ (pair first.two.high).1 ∷ []) ≢ Less
least_back pair Wrong same xs sorted i j first p q t =
    turned (pair first.two.low).0 (pair first.two.low).1 (pair first.two.high).1 (pair t.low).0 (pair t.low).1 (pair t.high).1 (beside pair Wrong same xs sorted i j first p q t)

-- and so for two places in any order
pub least_any : {X : Type 0} (pair : X → List ℕ × List ℕ) (Wrong : X → X → Type 0) → ((x y : X) → Wrong x y → (pair x).0 ≡ (pair y).0) → ((x y : X) → Wrong x y → Wrong y x) → (xs : List X) → IsSortedAs pair xs → (i j : ℕ) (first : AreFirst pair Wrong xs i j)
    → (p q : ℕ) (x y : X) → p ≢ q → slice_get xs p ≡ Some x → slice_get xs q ≡ Some y → Wrong x y
    → slice_cmp order ((pair x).0 ∷ (pair x).1 ∷ (pair y).1 ∷ []) ((pair first.two.low).0 ∷ (pair first.two.low).1 ∷ (pair first.two.high).1 ∷ []) ≢ Less
least_any {X} pair Wrong same other xs sorted i j first p q x y apart at_p at_q wrong =
    elim (cases_lt p q) [
      | inl low ↦ least_forth pair Wrong same xs sorted i j first p q (record { low = x; high = y; rise = low; at_low = at_p; at_high = at_q; wrong = wrong })
      | inr high ↦ let less : q < p = omega (arith, high, apart) in
          subst (λ (n : List ℕ). slice_cmp order (n ∷ (pair x).1 ∷ (pair y).1 ∷ []) ((pair first.two.low).0 ∷ (pair first.two.low).1 ∷ (pair first.two.high).1 ∷ []) ≢ Less) (sym (same x y wrong))
          (least_back pair Wrong same xs sorted i j first q p (record { low = y; high = x; rise = less; at_low = at_q; at_high = at_p; wrong = other x y wrong }))
    ]

pub none_any : {X : Type 0} (Wrong : X → X → Type 0) → ((x y : X) → Wrong x y → Wrong y x) → (xs : List X) → AreNone Wrong xs → (p q : ℕ) (x y : X) → p ≢ q → slice_get xs p ≡ Some x → slice_get xs q ≡ Some y → Wrong x y → ⊥
none_any Wrong other xs none p q x y apart at_p at_q wrong =
    elim (cases_lt p q) [
      | inl low ↦ none p q (record { low = x; high = y; rise = low; at_low = at_p; at_high = at_q; wrong = wrong })
      | inr high ↦ let less : q < p = omega (arith, high, apart) in none q p (record { low = y; high = x; rise = less; at_low = at_q; at_high = at_p; wrong = other x y wrong })
    ]

-- what is seen of a list at a place is in the list
pub mapped_within : {R X : Type 0} (view : R → X) (xs : List R) (i : ℕ) (x : X) → slice_get (map view xs) i ≡ Some x → i < length xs
mapped_within view xs i x e = let r = get_some (map view xs) i x x e in omega (arith, r.0, length-map xs view)
