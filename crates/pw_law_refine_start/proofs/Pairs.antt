-- The objects at the start, each with its module; and memory in which each object stands at its own number.
use Rattle.std.proofs.Common.{◌≡◌, ℕ, zero, suc, ◌+◌, ◌<◌, true, Option, Some, option_map, List, [], ◌∷◌, ◌++◌, length, map, slice_get, slice_index_or, refl, sym, ap, subst, ◌∙◌, arith}
use Rattle.std.specs.List.{flat_map}
use Rattle.std.proofs.lemmas.Option.{same_Some, slice_get-map, slice_get_within, get_or_from_slice_get}
use Rattle.std.proofs.lemmas.Simd.{map-map}
use Rattle.std.proofs.lemmas.List.{map-append, length-map}
use Rattle.std.proofs.lemmas.List.Concat.{flat_map-cons}
use Rattle.pw_value.specs.Objects.{Object, object_at, no_object}
use Rattle.pw_law_refine_steps.specs.FromLawRefine.Standing.{Spot, In, spot_of, Holds, MemoryStands}
use Rattle.pw_law_refine_steps.specs.FromLawRefine.Matching.{IsGlobalAt}
use Rattle.pw_files.proofs.Standing.{Has, has_map_back, has_flat_back}
use Rattle.pw_law_refine_start.specs.Start.{in_order}
use Rattle.pw_law_refine_start.proofs.Lists.{at_place}

-- ---- each element with what it has

abbrev pub pairs : {X Y : Type 0} → (X → List Y) → List X → List (X × Y)
pairs f xs = flat_map (λ x. map (λ y. (x, y)) (f x)) xs

pub flat_pairs : {X Y Z : Type 0} (f : X → List Y) (h : X × Y → Z) (xs : List X) → flat_map (λ x. map (λ y. h (x, y)) (f x)) xs ≡ map h (pairs f xs)
flat_pairs f h [] = refl
flat_pairs {X} {Y} {Z} f h (x ∷ xs) =
    flat_map-cons (λ (x : X). map (λ (y : Y). h (x, y)) (f x)) x xs
    ∙ ap (λ (zs : List Z). map (λ (y : Y). h (x, y)) (f x) ++ zs) (flat_pairs f h xs)
    ∙ ap (λ (zs : List Z). zs ++ map h (pairs f xs)) (sym (map-map h (λ (y : Y). (x, y)) (f x)))
    ∙ sym (map-append h (map (λ (y : Y). (x, y)) (f x)) (pairs f xs))
    ∙ ap (λ (zs : List (X × Y)). map h zs) (sym (flat_map-cons (λ (x : X). map (λ (y : Y). (x, y)) (f x)) x xs))

pub has_pair : {X Y : Type 0} (f : X → List Y) (xs : List X) (z : X × Y) → Has z (pairs f xs) → Has z.0 xs × Has z.1 (f z.0)
has_pair {X} {Y} f xs z h =
    let x = has_flat_back (λ (x : X). map (λ (y : Y). (x, y)) (f x)) z xs h in
    let y = has_map_back (λ (y : Y). (x.0, y)) z (f x.0) x.2 in
    subst (λ (z : X × Y). Has z.0 xs × Has z.1 (f z.0)) y.2 (x.1, y.1)

-- ---- spots in order

pub spot_there : (n : ℕ) (sizes : List ℕ) (k size : ℕ) → slice_get sizes k ≡ Some size → spot_of (in_order n sizes) k ≡ In (n + k) size
spot_there n [] k size e = absurd cc
spot_there n (s ∷ sizes) zero size e =
    let same : s ≡ size = same_Some s size e in
    let number : n ≡ n + 0 = omega arith in
    ap (λ (s : ℕ). In n s) same ∙ ap (λ (n : ℕ). In n size) number
spot_there n (s ∷ sizes) (suc k) size e =
    let number : suc n + k ≡ n + suc k = omega arith in
    spot_there (suc n) sizes k size e ∙ ap (λ (n : ℕ). In n size) number

pub spot_is : (n : ℕ) (sizes : List ℕ) (k f size : ℕ) → spot_of (in_order n sizes) k ≡ In f size → (n + k ≡ f) × (slice_get sizes k ≡ Some size)
spot_is n [] k f size e = absurd cc
spot_is n (s ∷ sizes) zero f size e =
    let number : n ≡ f = cc in
    let same : s ≡ size = cc in
    (omega (arith, number), ap Some same)
spot_is n (s ∷ sizes) (suc k) f size e = let r = spot_is (suc n) sizes k f size e in (omega (arith, r.0), r.1)

in_order_length : (n : ℕ) (sizes : List ℕ) → length (in_order n sizes) ≡ length sizes
in_order_length n [] = refl
in_order_length n (s ∷ sizes) = ap suc (in_order_length (suc n) sizes)

-- ---- memory

-- of things that have a size, and an object in each of the runs
module _ {X : Type 0} (size : X → ℕ) (own kept : X → Object) (xs : List X) where
  abbrev pub spots_for : List Spot
  spots_for = in_order 0 (map size xs)

  object_there : (h : X → Object) (k : ℕ) (x : X) → slice_get xs k ≡ Some x → object_at (map h xs) k ≡ h x
  object_there h k x e = get_or_from_slice_get (map h xs) k (h x) no_object (slice_get-map h xs k ∙ ap (λ (o : Option X). option_map h o) e)

  pub size_there : (k : ℕ) (x : X) → slice_get xs k ≡ Some x → spot_of spots_for k ≡ In k (size x)
  size_there k x e =
      let number : 0 + k ≡ k = omega arith in
      spot_there 0 (map size xs) k (size x) (slice_get-map size xs k ∙ ap (λ (o : Option X). option_map size o) e) ∙ ap (λ (n : ℕ). In n (size x)) number

  pub memory : ((k : ℕ) (x : X) → slice_get xs k ≡ Some x → Holds spots_for (size x) (own x) (kept x)) → MemoryStands spots_for (map own xs) (map kept xs)
  memory each = record {
    count = in_order_length 0 (map size xs) ∙ length-map xs size ∙ sym (length-map xs own);
    holds = λ o f n live e.
        let r = spot_is 0 (map size xs) o f n e in
        let within : o < length xs = omega (arith, slice_get_within (map size xs) o n r.1, length-map xs size) in
        let x = at_place xs o within in
        let here : spot_of spots_for o ≡ In o (size x.0) = size_there o x.0 x.1 in
        let number : o ≡ f = omega (arith, r.0) in
        let sized : size x.0 ≡ n = same_Some (size x.0) n (sym (slice_get-map size xs o ∙ ap (λ (o : Option X). option_map size o) x.1) ∙ r.1) in
        let a : own x.0 ≡ object_at (map own xs) o = sym (object_there own o x.0 x.1) in
        let b : kept x.0 ≡ object_at (map kept xs) f = sym (object_there kept o x.0 x.1) ∙ ap (λ (k : ℕ). object_at (map kept xs) k) number in
        subst (λ (s : ℕ). Holds spots_for s (object_at (map own xs) o) (object_at (map kept xs) f)) sized
        (subst (λ (y : Object). Holds spots_for (size x.0) y (object_at (map kept xs) f)) a
        (subst (λ (y : Object). Holds spots_for (size x.0) (own x.0) y) b (each o x.0 x.1)));
    apart = λ o p f n k lo lp eo ep. omega (arith, (spot_is 0 (map size xs) o f n eo).0, (spot_is 0 (map size xs) p f k ep).0);
  }

  pub globals : ((x : X) → (own x).live ≡ true) → (g : ℕ) → g < length xs → IsGlobalAt (slice_index_or (map size xs) g 0) spots_for (map own xs) g
  globals lives g lt =
      let x = at_place xs g lt in
      let sized : slice_index_or (map size xs) g 0 ≡ size x.0 = get_or_from_slice_get (map size xs) g (size x.0) 0 (slice_get-map size xs g ∙ ap (λ (o : Option X). option_map size o) x.1) in
      record {
        there = size_there g x.0 x.1 ∙ ap (λ (n : ℕ). In g n) (sym sized);
        live = ap (λ (o : Object). o.live) (object_there own g x.0 x.1) ∙ lives x.0;
      }
