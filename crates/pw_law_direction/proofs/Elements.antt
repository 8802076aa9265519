-- Elements of lists.
use Rattle.std.specs.Prelude.{ℕ, ◌≡◌, ◌<◌, Some, List, [], ◌∷◌, map, slice_get, Contains}
use Rattle.std.specs.List.{flat_map}
use Rattle.std.proofs.Common.{arith, subst, sym, refl, inl, inr}
use Rattle.std.proofs.lemmas.Option.{slice_get_within, get_or_from_slice_get}
use Rattle.std.proofs.lemmas.List.Elements.{Contains-append_left, Contains-append_right, Contains-append_cases, Contains-push_cases, Contains-get_or}
use Rattle.std.proofs.lemmas.List.Concat.{flat_map-cons}

pub nowhere : {X : Type 0} (x : X) → Contains [] x → ⊥
nowhere x c = let h : c.0 < 0 = c.1 in omega (arith, h)

pub first-there : {X : Type 0} (x : X) (xs : List X) → Contains (x ∷ xs) x
first-there x xs = Contains-append_left (x ∷ []) xs x (0, omega arith, refl)

pub later-there : {X : Type 0} (y x : X) (xs : List X) → Contains xs x → Contains (y ∷ xs) x
later-there y x xs c = Contains-append_right (y ∷ []) xs x c

pub map-there : {X Y : Type 0} (h : X → Y) (xs : List X) (x : X) → Contains xs x → Contains (map h xs) (h x)
map-there h [] x c = absurd (nowhere x c)
map-there h (y ∷ ys) x c = elim (Contains-append_cases (y ∷ []) ys x c) [
  | inl first ↦ elim (Contains-push_cases [] y x first) [
    | inl none ↦ absurd (nowhere x none)
    | inr e ↦ subst (λ x. Contains (map h (y ∷ ys)) (h x)) e (first-there (h y) (map h ys))
  ]
  | inr later ↦ later-there (h y) (h x) (map h ys) (map-there h ys x later)
]

pub flat-there : {X Y : Type 0} (h : X → List Y) (xs : List X) (x : X) (y : Y) → Contains xs x → Contains (h x) y → Contains (flat_map h xs) y
flat-there h [] x y c k = absurd (nowhere x c)
flat-there h (z ∷ zs) x y c k = elim (Contains-append_cases (z ∷ []) zs x c) [
  | inl first ↦ elim (Contains-push_cases [] z x first) [
    | inl none ↦ absurd (nowhere x none)
    | inr e ↦ subst (λ l. Contains l y) (sym (flat_map-cons h z zs)) (Contains-append_left (h z) (flat_map h zs) y (subst (λ x. Contains (h x) y) (sym e) k))
  ]
  | inr later ↦ subst (λ l. Contains l y) (sym (flat_map-cons h z zs)) (Contains-append_right (h z) (flat_map h zs) y (flat-there h zs x y later k))
]

pub at-there : {X : Type 0} (xs : List X) (i : ℕ) (x : X) → slice_get xs i ≡ Some x → Contains xs x
at-there xs i x e = subst (Contains xs) (get_or_from_slice_get xs i x x e) (Contains-get_or xs i x (slice_get_within xs i x e))

-- ---- where elements come from

pub record Picked {X : Type 0} (P : X → Type 0) (xs : List X) : Type 0 where
  pub is : X
  pub there : Contains xs is
  pub holds : P is

pub map-back : {X Y : Type 0} (h : X → Y) (xs : List X) (y : Y) → Contains (map h xs) y → Picked (λ x. h x ≡ y) xs
map-back h [] y c = absurd (nowhere y c)
map-back h (x ∷ xs) y c = elim (Contains-append_cases (h x ∷ []) (map h xs) y c) [
  | inl first ↦ elim (Contains-push_cases [] (h x) y first) [
    | inl none ↦ absurd (nowhere y none)
    | inr e ↦ record { is = x; there = first-there x xs; holds = e }
  ]
  | inr later ↦ let r = map-back h xs y later in record { is = r.is; there = later-there x r.is xs r.there; holds = r.holds }
]

pub flat-back : {X Y : Type 0} (h : X → List Y) (xs : List X) (y : Y) → Contains (flat_map h xs) y → Picked (λ x. Contains (h x) y) xs
flat-back h [] y c = absurd (nowhere y c)
flat-back h (x ∷ xs) y c = elim (Contains-append_cases (h x) (flat_map h xs) y (subst (λ l. Contains l y) (flat_map-cons h x xs) c)) [
  | inl first ↦ record { is = x; there = first-there x xs; holds = first }
  | inr later ↦ let r = flat-back h xs y later in record { is = r.is; there = later-there x r.is xs r.there; holds = r.holds }
]

pub the-first : {X : Type 0} (x y : X) → Contains (x ∷ []) y → x ≡ y
the-first x y c = elim (Contains-push_cases [] x y c) [
  | inl none ↦ absurd (nowhere y none)
  | inr e ↦ e
]
