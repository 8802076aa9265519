-- Two places of a list, and names that stand once.
use Rattle.std.proofs.Common.{◌≡◌, ◌≢◌, ◌⊎◌, ℕ, zero, suc, List, [], ◌∷◌, ◌++◌, map, refl, sym, ap, ◌∙◌, arith, inl, inr}
use Rattle.std.specs.Prelude.{Some, slice_get}
use Rattle.std.proofs.lemmas.Option.{same_Some}
use Rattle.pw_flow.specs.ValidFlow.{AreDistinct}
use Rattle.pw_files.proofs.Standing.{Has, has_each, has_left, has_right, has_split, has_map_back}

-- ---- places

pub has_at : {X : Type 0} (xs : List X) (i : ℕ) (x : X) → slice_get xs i ≡ Some x → Has x xs
has_at [] i x e = absurd cc
has_at (y ∷ ys) zero x e = inl (same_Some y x e)
has_at (y ∷ ys) (suc i) x e = inr (has_at ys i x e)

pub at_has : {X : Type 0} (xs : List X) (x : X) → Has x xs → (i : ℕ) × (slice_get xs i ≡ Some x)
at_has [] x h = absurd h
at_has (y ∷ ys) x (inl e) = (0, ap Some e)
at_has (y ∷ ys) x (inr h) = let p = at_has ys x h in (suc p.0, p.1)

-- x and y stand at two places
abbrev pub Twice : {X : Type 0} → X → X → List X → Type 0
Twice x y [] = ⊥
Twice x y (z ∷ zs) = ((z ≡ x) × Has y zs) ⊎ (((z ≡ y) × Has x zs) ⊎ Twice x y zs)

pub twice_by : {X : Type 0} (x y : X) (xs : List X) (i j : ℕ) → i ≢ j → slice_get xs i ≡ Some x → slice_get xs j ≡ Some y → Twice x y xs
twice_by x y [] i j apart a b = absurd cc
twice_by x y (z ∷ zs) zero zero apart a b = absurd (apart refl)
twice_by x y (z ∷ zs) zero (suc j) apart a b = inl (same_Some z x a, has_at zs j y b)
twice_by x y (z ∷ zs) (suc i) zero apart a b = inr (inl (same_Some z y b, has_at zs i x a))
twice_by x y (z ∷ zs) (suc i) (suc j) apart a b = inr (inr (twice_by x y zs i j (λ e. apart (ap suc e)) a b))

pub record Places {X : Type 0} (x y : X) (xs : List X) : Type 0 where
  pub one : ℕ
  pub other : ℕ
  pub apart : one ≢ other
  pub at_one : slice_get xs one ≡ Some x
  pub at_other : slice_get xs other ≡ Some y

suc_apart : (i j : ℕ) → i ≢ j → suc i ≢ suc j
suc_apart i j h e = h (omega arith)

zero_apart : (j : ℕ) → zero ≢ suc j
zero_apart j e = omega arith

apart_zero : (j : ℕ) → suc j ≢ zero
apart_zero j e = omega arith

pub places : {X : Type 0} (x y : X) (xs : List X) → Twice x y xs → Places x y xs
places x y [] h = absurd h
places x y (z ∷ zs) (inl h) = let k = at_has zs y h.1 in record { one = 0; other = suc k.0; apart = zero_apart k.0; at_one = ap Some h.0; at_other = k.1 }
places x y (z ∷ zs) (inr (inl h)) = let k = at_has zs x h.1 in record { one = suc k.0; other = 0; apart = apart_zero k.0; at_one = k.1; at_other = ap Some h.0 }
places x y (z ∷ zs) (inr (inr h)) = let p = places x y zs h in record { one = suc p.one; other = suc p.other; apart = suc_apart p.one p.other p.apart; at_one = p.at_one; at_other = p.at_other }

-- ---- of two lists

pub twice_left : {X : Type 0} (x y : X) (xs ys : List X) → Twice x y xs → Twice x y (xs ++ ys)
twice_left x y [] ys h = absurd h
twice_left x y (z ∷ zs) ys (inl h) = inl (h.0, has_left y zs ys h.1)
twice_left x y (z ∷ zs) ys (inr (inl h)) = inr (inl (h.0, has_left x zs ys h.1))
twice_left x y (z ∷ zs) ys (inr (inr h)) = inr (inr (twice_left x y zs ys h))

pub twice_right : {X : Type 0} (x y : X) (xs ys : List X) → Twice x y ys → Twice x y (xs ++ ys)
twice_right x y [] ys h = h
twice_right x y (z ∷ zs) ys h = inr (inr (twice_right x y zs ys h))

pub twice_across : {X : Type 0} (x y : X) (xs ys : List X) → Has x xs → Has y ys → Twice x y (xs ++ ys)
twice_across x y [] ys h k = absurd h
twice_across x y (z ∷ zs) ys (inl e) k = inl (e, has_right y zs ys k)
twice_across x y (z ∷ zs) ys (inr h) k = inr (inr (twice_across x y zs ys h k))

pub twice_crossed : {X : Type 0} (x y : X) (xs ys : List X) → Has y xs → Has x ys → Twice x y (xs ++ ys)
twice_crossed x y [] ys h k = absurd h
twice_crossed x y (z ∷ zs) ys (inl e) k = inr (inl (e, has_right x zs ys k))
twice_crossed x y (z ∷ zs) ys (inr h) k = inr (inr (twice_crossed x y zs ys h k))

-- both in one list, or one in each
abbrev pub Parted : {X : Type 0} → X → X → List X → List X → Type 0
Parted x y xs ys = Twice x y xs ⊎ (Twice x y ys ⊎ ((Has x xs × Has y ys) ⊎ (Has y xs × Has x ys)))

parted_behind : {X : Type 0} (x y z : X) (zs ys : List X) → Parted x y zs ys → Parted x y (z ∷ zs) ys
parted_behind x y z zs ys (inl h) = inl (inr (inr h))
parted_behind x y z zs ys (inr (inl h)) = inr (inl h)
parted_behind x y z zs ys (inr (inr (inl h))) = inr (inr (inl (inr h.0, h.1)))
parted_behind x y z zs ys (inr (inr (inr h))) = inr (inr (inr (inr h.0, h.1)))

pub twice_split : {X : Type 0} (x y : X) (xs ys : List X) → Twice x y (xs ++ ys) → Parted x y xs ys
twice_split x y [] ys h = inr (inl h)
twice_split x y (z ∷ zs) ys (inl h) = elim (has_split y zs ys h.1) [ inl k ↦ inl (inl (h.0, k)) | inr k ↦ inr (inr (inl (inl h.0, k))) ]
twice_split x y (z ∷ zs) ys (inr (inl h)) = elim (has_split x zs ys h.1) [ inl k ↦ inl (inr (inl (h.0, k))) | inr k ↦ inr (inr (inr (inl h.0, k))) ]
twice_split x y (z ∷ zs) ys (inr (inr h)) = parted_behind x y z zs ys (twice_split x y zs ys h)

-- ---- names that stand once, each beside the module's name

abbrev pub beside : List ℕ → List ℕ → List ℕ × List ℕ
beside home name = (name, home)

pub once_beside : (home : List ℕ) (names : List (List ℕ)) → AreDistinct names → (n a b : List ℕ) → Twice (n, a) (n, b) (map (beside home) names) → ⊥
once_beside home [] all n a b h = h
once_beside home (m ∷ ms) all n a b (inl h) =
    let k = has_map_back (beside home) (n, b) ms h.1 in
    let one : m ≡ n = ap (λ (d : List ℕ × List ℕ). d.0) h.0 in
    let other : k.0 ≡ n = ap (λ (d : List ℕ × List ℕ). d.0) k.2 in
    has_each (λ (o : List ℕ). o ≢ m) ms k.0 all.0 k.1 (other ∙ sym one)
once_beside home (m ∷ ms) all n a b (inr (inl h)) =
    let k = has_map_back (beside home) (n, a) ms h.1 in
    let one : m ≡ n = ap (λ (d : List ℕ × List ℕ). d.0) h.0 in
    let other : k.0 ≡ n = ap (λ (d : List ℕ × List ℕ). d.0) k.2 in
    has_each (λ (o : List ℕ). o ≢ m) ms k.0 all.0 k.1 (other ∙ sym one)
once_beside home (m ∷ ms) all n a b (inr (inr h)) = once_beside home ms all.1 n a b h
