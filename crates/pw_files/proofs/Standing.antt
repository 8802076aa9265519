-- Standing in a list, by the list's parts.
use Rattle.std.proofs.Common.{◌≡◌, ◌⊎◌, ℕ, zero, suc, ◌<◌, Bool, true, false, List, [], ◌∷◌, ◌++◌, length, get_or, map, refl, sym, ap, subst, ◌∙◌, arith, inl, inr}
use Rattle.std.specs.Prelude.{Contains}
use Rattle.std.specs.List.{AllByRecursion, flat_map}
use Rattle.std.specs.Str.{bytes_eq}
use Rattle.std.proofs.lemmas.Slice.Eq.{bytes_eq-Decides}
use Rattle.std.proofs.lemmas.List.Concat.{flat_map-cons}

abbrev pub Has : {X : Type 0} → X → List X → Type 0
Has x [] = ⊥
Has x (y ∷ ys) = (y ≡ x) ⊎ Has x ys

pub contains_by : {X : Type 0} (x : X) (xs : List X) → Has x xs → Contains xs x
contains_by x [] h = absurd h
contains_by x (y ∷ ys) (inl e) = (0, omega arith, e)
contains_by x (y ∷ ys) (inr h) = let k = contains_by x ys h in (suc k.0, omega (arith, k.1), k.2)

has_at : {X : Type 0} (x : X) (xs : List X) (k : ℕ) → k < length xs → get_or xs k x ≡ x → Has x xs
has_at x [] k lt e = absurd (omega (arith, lt))
has_at x (y ∷ ys) zero lt e = inl e
has_at x (y ∷ ys) (suc k) lt e = inr (has_at x ys k (omega (arith, lt)) e)

pub has_by : {X : Type 0} (x : X) (xs : List X) → Contains xs x → Has x xs
has_by x xs h = has_at x xs h.0 h.1 h.2

pub has_each : {X : Type 0} (P : X → Type 0) (xs : List X) (x : X) → AllByRecursion P xs → Has x xs → P x
has_each P [] x all h = absurd h
has_each P (y ∷ ys) x all (inl e) = subst P e all.0
has_each P (y ∷ ys) x all (inr h) = has_each P ys x all.1 h

pub each_by : {X : Type 0} (P : X → Type 0) (xs : List X) → ((x : X) → Has x xs → P x) → AllByRecursion P xs
each_by P [] f = tt
each_by P (y ∷ ys) f = (f y (inl refl), each_by P ys (λ x h. f x (inr h)))

-- ---- of two lists

pub has_left : {X : Type 0} (x : X) (xs ys : List X) → Has x xs → Has x (xs ++ ys)
has_left x [] ys h = absurd h
has_left x (y ∷ xs) ys (inl e) = inl e
has_left x (y ∷ xs) ys (inr h) = inr (has_left x xs ys h)

pub has_right : {X : Type 0} (x : X) (xs ys : List X) → Has x ys → Has x (xs ++ ys)
has_right x [] ys h = h
has_right x (y ∷ xs) ys h = inr (has_right x xs ys h)

pub has_split : {X : Type 0} (x : X) (xs ys : List X) → Has x (xs ++ ys) → Has x xs ⊎ Has x ys
has_split x [] ys h = inr h
has_split x (y ∷ xs) ys (inl e) = inl (inl e)
has_split x (y ∷ xs) ys (inr h) = elim (has_split x xs ys h) [ inl k ↦ inl (inr k) | inr k ↦ inr k ]

-- ---- of what a list's items become

pub has_map : {X Y : Type 0} (h : X → Y) (x : X) (xs : List X) → Has x xs → Has (h x) (map h xs)
has_map h x [] k = absurd k
has_map h x (y ∷ ys) (inl e) = inl (ap h e)
has_map h x (y ∷ ys) (inr k) = inr (has_map h x ys k)

pub has_map_back : {X Y : Type 0} (h : X → Y) (y : Y) (xs : List X) → Has y (map h xs) → (x : X) × Has x xs × (h x ≡ y)
has_map_back h y [] k = absurd k
has_map_back h y (x ∷ xs) (inl e) = (x, inl refl, e)
has_map_back h y (x ∷ xs) (inr k) = let p = has_map_back h y xs k in (p.0, inr p.1, p.2)

pub has_flat : {X Y : Type 0} (h : X → List Y) (x : X) (y : Y) (xs : List X) → Has x xs → Has y (h x) → Has y (flat_map h xs)
has_flat h x y [] k j = absurd k
has_flat {X} {Y} h x y (z ∷ zs) (inl e) j = subst (λ (ys : List Y). Has y ys) (sym (flat_map-cons h z zs)) (has_left y (h z) (flat_map h zs) (subst (λ (w : X). Has y (h w)) (sym e) j))
has_flat {X} {Y} h x y (z ∷ zs) (inr k) j = subst (λ (ys : List Y). Has y ys) (sym (flat_map-cons h z zs)) (has_right y (h z) (flat_map h zs) (has_flat h x y zs k j))

pub has_flat_back : {X Y : Type 0} (h : X → List Y) (y : Y) (xs : List X) → Has y (flat_map h xs) → (x : X) × Has x xs × Has y (h x)
has_flat_back h y [] k = absurd k
has_flat_back {X} {Y} h y (z ∷ zs) k =
    elim (has_split y (h z) (flat_map h zs) (subst (λ (ys : List Y). Has y ys) (flat_map-cons h z zs) k)) [
      | inl j ↦ (z, inl refl, j)
      | inr j ↦ let p = has_flat_back h y zs j in (p.0, inr p.1, p.2)
    ]

-- ---- of texts

pub apart : false ≡ true → ⊥
apart e = cc

stands_by : (text other : List ℕ) (texts : List (List ℕ)) (b : Bool) → bytes_eq other text ≡ b → Has text texts ⊎ (Has text texts → ⊥) → Has text (other ∷ texts) ⊎ (Has text (other ∷ texts) → ⊥)
stands_by text other texts true is later = inl (inl ((bytes_eq-Decides other text).0 is))
stands_by text other texts false is (inl h) = inl (inr h)
stands_by text other texts false is (inr lacks) = inr (λ h. elim h [ inl e ↦ apart (sym is ∙ (bytes_eq-Decides other text).1 e) | inr k ↦ lacks k ])

-- a text stands in a list, or it does not
pub stands_or_not : (text : List ℕ) (texts : List (List ℕ)) → Has text texts ⊎ (Has text texts → ⊥)
stands_or_not text [] = inr (λ h. h)
stands_or_not text (other ∷ texts) = stands_by text other texts (bytes_eq other text) refl (stands_or_not text texts)
