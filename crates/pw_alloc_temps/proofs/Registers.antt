-- What is given: registers that a temporary may have, and none that one which interferes has too.
use Rattle.std.proofs.Common.{◌≡◌, ◌⊎◌, ℕ, zero, suc, ◌+◌, ◌==◌, ◌&&◌, ◌||◌, not, Bool, true, false, cond, List, [], ◌∷◌, length, refl, sym, ap, subst, ◌∙◌, arith, inl, inr}
use Rattle.std.specs.Prelude.{Option, None, Some, if◌then◌else◌, slice_get, Contains}
use Rattle.std.specs.List.{AllByRecursion, find}
use Rattle.std.proofs.lemmas.Bool.{or_parts, and_cases, and_left, eqb-true, eq-eqb}
use Rattle.std.proofs.lemmas.Option.{same_Some}
use Rattle.pw_files.proofs.Standing.{Has, has_each, contains_by}
use Rattle.pw_flow.specs.Outline.{Outline}
use Rattle.pw_live.specs.Interference.{overwrites, interfere}
use Rattle.pw_alloc_temps.specs.Weights.{by_weight}
use Rattle.pw_alloc_temps.specs.Registers.{allowed, is_taken, with_register, given_to, given, register_of, registers_from, registers}

-- ---- tests

both_ways : (x y : Bool) → (x ≡ true → y ≡ true) → (y ≡ true → x ≡ true) → x ≡ y
both_ways true y there back = sym (there refl)
both_ways false true there back = back refl
both_ways false false there back = refl

either_way : (x y : Bool) → (x || y) ≡ (y || x)
either_way true true = refl
either_way true false = refl
either_way false true = refl
either_way false false = refl

not_passes : (x : Bool) → not x ≡ true → x ≡ false
not_passes true e = absurd cc
not_passes false e = refl

found_step : {X : Type 0} (b : Bool) (y x : X) (o : Option X) → cond b (Some y) o ≡ Some x → ((b ≡ true) × (y ≡ x)) ⊎ (o ≡ Some x)
found_step true y x o e = inl (refl, same_Some y x e)
found_step false y x o e = inr e

record Found {X : Type 0} (p : X → Bool) (xs : List X) (x : X) : Type 0 where
  passes : p x ≡ true
  there : Has x xs

found : {X : Type 0} (p : X → Bool) (xs : List X) (x : X) → find p xs ≡ Some x → Found p xs x
found p [] x e = absurd cc
found p (y ∷ ys) x e = elim (found_step (p y) y x (find p ys) e) [
  | inl h ↦ record { passes = sym (ap p h.1) ∙ h.0; there = inl h.1 }
  | inr h ↦ let r = found p ys x h in record { passes = r.passes; there = inr r.there }
]

-- ---- interference goes both ways

same_numbers : (a b : ℕ) → (a == b) ≡ (b == a)
same_numbers a b = both_ways (a == b) (b == a) (λ e. eq-eqb b a (sym (eqb-true a b e))) (λ e. eq-eqb a b (sym (eqb-true b a e)))

interfere_back : (f : Outline) (a b : ℕ) → interfere f a b ≡ interfere f b a
interfere_back f a b =
    ap (λ x. not x && (overwrites f a b || overwrites f b a)) (same_numbers a b)
    ∙ ap (λ x. not (b == a) && x) (either_way (overwrites f a b) (overwrites f b a))

never_itself : (f : Outline) (a b : ℕ) → a ≡ b → interfere f a b ≡ false
never_itself f a b e = and_left (not (a == b)) (overwrites f a b || overwrites f b a) (ap not (eq-eqb a b e))

-- ---- what stands in a list of registers given

abbrev Avoids : Outline → ℕ → ℕ → ℕ × ℕ → Type 0
Avoids f t r g = g.1 ≡ r → interfere f t g.0 ≡ false

abbrev Apart : Outline → List (ℕ × ℕ) → Type 0
Apart f [] = Unit {0}
Apart f (g ∷ rest) = AllByRecursion (Avoids f g.0 g.1) rest × Apart f rest

avoids : (f : Outline) (gs : List (ℕ × ℕ)) (t r : ℕ) → is_taken f gs t r ≡ false → AllByRecursion (Avoids f t r) gs
avoids f [] t r e = tt
avoids f (g ∷ rest) t r e =
    let both = or_parts ((g.1 == r) && interfere f t g.0) (is_taken f rest t r) e in (
      (λ same. elim (and_cases (g.1 == r) (interfere f t g.0) both.0) [
        | inl other ↦ absurd (let one = eq-eqb g.1 r same in cc)
        | inr free ↦ free
      ]),
      avoids f rest t r both.1,
    )

-- one that is in each place where it may stand
abbrev MayHave : Outline → List ℕ → List ℕ → ℕ × ℕ → Type 0
MayHave f webs cluster g = Has g.1 (allowed f webs cluster g.0)

record IsGiven (f : Outline) (webs cluster : List ℕ) (gs : List (ℕ × ℕ)) : Type 0 where
  apart : Apart f gs
  may : AllByRecursion (MayHave f webs cluster) gs

one_more : (f : Outline) (webs cluster : List ℕ) (t : ℕ) (gs : List (ℕ × ℕ)) (o : Option ℕ) → find (λ r. not (is_taken f gs t r)) (allowed f webs cluster t) ≡ o → IsGiven f webs cluster gs → IsGiven f webs cluster (with_register t o gs)
one_more f webs cluster t gs None e h = h
one_more f webs cluster t gs (Some r) e h =
    let k = found (λ r. not (is_taken f gs t r)) (allowed f webs cluster t) r e in
    record { apart = (avoids f gs t r (not_passes (is_taken f gs t r) k.passes), h.apart); may = (k.there, h.may) }

all_given : (f : Outline) (webs cluster ts : List ℕ) (gs : List (ℕ × ℕ)) → IsGiven f webs cluster gs → IsGiven f webs cluster (given_to f webs cluster ts gs)
all_given f webs cluster [] gs h = h
all_given f webs cluster (t ∷ rest) gs h =
    let o = find (λ r. not (is_taken f gs t r)) (allowed f webs cluster t) in
    all_given f webs cluster rest (with_register t o gs) (one_more f webs cluster t gs o refl h)

is_given : (f : Outline) (webs cluster : List ℕ) → IsGiven f webs cluster (given f webs cluster)
is_given f webs cluster = all_given f webs cluster (by_weight f 0 f.temps) [] (record { apart = tt; may = tt })

two_apart : (f : Outline) (gs : List (ℕ × ℕ)) (a b r : ℕ) → Apart f gs → Has (a, r) gs → Has (b, r) gs → interfere f a b ≡ false
two_apart f [] a b r apart one two = absurd one
two_apart f (g ∷ rest) a b r apart (inl one) (inl two) = never_itself f a b (sym (ap (λ (h : ℕ × ℕ). h.0) one) ∙ ap (λ (h : ℕ × ℕ). h.0) two)
two_apart f (g ∷ rest) a b r apart (inl one) (inr two) =
    let here = has_each (Avoids f g.0 g.1) rest (b, r) apart.0 two (sym (ap (λ (h : ℕ × ℕ). h.1) one)) in
    subst (λ x. interfere f x b ≡ false) (ap (λ (h : ℕ × ℕ). h.0) one) here
two_apart f (g ∷ rest) a b r apart (inr one) (inl two) =
    let here = has_each (Avoids f g.0 g.1) rest (a, r) apart.0 one (sym (ap (λ (h : ℕ × ℕ). h.1) two)) in
    interfere_back f a b ∙ subst (λ x. interfere f x a ≡ false) (ap (λ (h : ℕ × ℕ). h.0) two) here
two_apart f (g ∷ rest) a b r apart (inr one) (inr two) = two_apart f rest a b r apart.1 one two

-- ---- by number

if_step : (b : Bool) (x y : ℕ) (o : Option ℕ) → (if b then Some x else o) ≡ Some y → ((b ≡ true) × (x ≡ y)) ⊎ (o ≡ Some y)
if_step true x y o e = inl (refl, same_Some x y e)
if_step false x y o e = inr e

pub has_register : (gs : List (ℕ × ℕ)) (t r : ℕ) → register_of gs t ≡ Some r → Has (t, r) gs
has_register [] t r e = absurd cc
has_register (g ∷ rest) t r e = elim (if_step (g.0 == t) g.1 r (register_of rest t) e) [
  | inl h ↦ inl (ap (λ (n : ℕ). (n, g.1)) (eqb-true g.0 t h.0) ∙ ap (λ (n : ℕ). (t, n)) h.1)
  | inr h ↦ inr (has_register rest t r h)
]

at_number : (gs : List (ℕ × ℕ)) (t more k : ℕ) (o : Option ℕ) → slice_get (registers_from gs t more) k ≡ Some o → register_of gs (t + k) ≡ o
at_number gs t zero k o e = absurd cc
at_number gs t (suc more) zero o e = let z : t + 0 ≡ t = omega arith in ap (register_of gs) z ∙ same_Some (register_of gs t) o e
at_number gs t (suc more) (suc k) o e = let s : t + suc k ≡ suc t + k = omega arith in ap (register_of gs) s ∙ at_number gs (suc t) more k o e

long : (gs : List (ℕ × ℕ)) (t more : ℕ) → length (registers_from gs t more) ≡ more
long gs t zero = refl
long gs t (suc more) = ap suc (long gs (suc t) more)

pub each_has_one : (f : Outline) (webs cluster : List ℕ) → length (registers f webs cluster) ≡ f.temps
each_has_one f webs cluster = long (given f webs cluster) 0 f.temps

given_at : (f : Outline) (webs cluster : List ℕ) (t r : ℕ) → slice_get (registers f webs cluster) t ≡ Some (Some r) → Has (t, r) (given f webs cluster)
given_at f webs cluster t r e =
    let z : 0 + t ≡ t = omega arith in
    has_register (given f webs cluster) t r (ap (register_of (given f webs cluster)) (sym z) ∙ at_number (given f webs cluster) 0 f.temps t (Some r) e)

pub registers_apart : (f : Outline) (webs cluster : List ℕ) (a b r : ℕ) → slice_get (registers f webs cluster) a ≡ Some (Some r) → slice_get (registers f webs cluster) b ≡ Some (Some r) → interfere f a b ≡ false
registers_apart f webs cluster a b r one two = two_apart f (given f webs cluster) a b r (is_given f webs cluster).apart (given_at f webs cluster a r one) (given_at f webs cluster b r two)

pub registers_allowed : (f : Outline) (webs cluster : List ℕ) (t r : ℕ) → slice_get (registers f webs cluster) t ≡ Some (Some r) → Contains (allowed f webs cluster t) r
registers_allowed f webs cluster t r e = contains_by r (allowed f webs cluster t) (has_each (MayHave f webs cluster) (given f webs cluster) (t, r) (is_given f webs cluster).may (given_at f webs cluster t r e))
