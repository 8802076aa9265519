-- Laws of rows, for the lattice of rows and the problems over it.
use Rattle.std.specs.Prelude.{◌≡◌, ℕ, ◌*◌, ◌≤◌, ◌<◌, ◌==◌, if◌then◌else◌, Option, Some, None, List, [], ◌∷◌, length, slice_get, slice_index_or, replicate, Bool, true, false}
use Rattle.std.proofs.Common.{refl, sym, subst, ◌∙◌, arith, inl, inr}
use Rattle.std.proofs.lemmas.Bool.{cases_lt, eqb-true}
use Rattle.std.proofs.lemmas.List.{length-replicate, length-map, get_or-map, get_or_past}
use Rattle.std.proofs.lemmas.List.Sums.{sum_by-cons}
use Rattle.std.proofs.Math.ListN.{get_or-map as map_at}
use Rattle.pw_fix.specs.Order.{IsPreorder}
use Rattle.pw_flow.specs.declared.flow.Op.{Op}
use Rattle.pw_flow.specs.declared.flow.Block.{Block}
use Rattle.pw_opt_rules.specs.declared.flat.Flat.{Flat}
use Rattle.pw_opt_rules.specs.declared.flat.Flat.TheVariants.{Bottom, One, Many}
use Rattle.pw_opt_rules.specs.Flat.{IsBelow}
use Rattle.pw_opt_rules.specs.Rows.{known, behind, IsRowBelow}
use Rattle.pw_opt_order.specs.Rises.{Rises}
use Rattle.pw_opt_order.specs.Order.{below_many, below_through, rows_below_themselves, behind_rises}
use Rattle.pw_opt_places.specs.declared.places.Place.{Place}
use Rattle.pw_opt_places.specs.declared.places.Place.TheVariants.{Nowhere, Own, Shared}
use Rattle.pw_opt_places.specs.declared.places.Places.{Places}
use Rattle.pw_opt_places.specs.Places.{place_of, IsPlaceIn, IsAtHome}
use Rattle.pw_opt_rows.specs.Joins.{flat_rank, row_rank, HasWhatMay}
use Rattle.pw_opt_rows.specs.Places.{at_place}
use Rattle.pw_opt_rows.specs.Seeing.{seen, at_rest, rested, taken, may_at, IsOwn, IsBelowShared}
use Rattle.pw_opt_rows.specs.Outflows.{entered, outflow_by, outflow, IsOutflow}

-- the order of rows is one
pub rows_order : (ps : Places) (may : ℕ → ℕ → Bool) → IsPreorder {E = List Flat × List Flat} (IsOwn ps may) IsBelowShared
rows_order ps may = record {
  reflexive = λ a _. rows_below_themselves a.0;
  transitive = λ a b c _ _ _ f g t. below_through (known a.0 t) (known b.0 t) (known c.0 t) (f t) (g t);
}

pub one_or_many : (n : ℕ) → ◌≡◌ {A = Flat} Many (One n) → ⊥
one_or_many n e = cc

-- ---- what is known of shared temporaries

pub known_rested : (places : List Place) (shared : List Flat) (t : ℕ) → known (rested places shared) t ≡ at_rest shared (place_of places t)
known_rested places shared t = map_at (at_rest shared) places t Nowhere

pub rested_long : (places : List Place) (shared : List Flat) → length (rested places shared) ≡ length places
rested_long places shared = length-map places (at_rest shared)

pub known_taken : (names : List ℕ) (row : List Flat) (i : ℕ) → i < length names → known (taken names row) i ≡ known row (slice_index_or names i 0)
known_taken names row i lt = get_or-map (known row) names i 0 Many lt

pub taken_long : (names : List ℕ) (row : List Flat) → length (taken names row) ≡ length names
taken_long names row = length-map names (known row)

pub taken_past : (names : List ℕ) (row : List Flat) (i : ℕ) → length names ≤ i → known (taken names row) i ≡ Many
taken_past names row i past = let long = taken_long names row in get_or_past (taken names row) i Many (omega (arith, past, long))

rest_rises : (x y : List Flat) → IsRowBelow x y → (p : Place) → IsBelow (at_rest x p) (at_rest y p)
rest_rises x y below Nowhere = tt
rest_rises x y below (Own c j) = tt
rest_rises x y below (Shared i) = below i

pub rested_rises : (places : List Place) (x y : List Flat) → IsRowBelow x y → IsRowBelow (rested places x) (rested places y)
rested_rises places x y below t =
    subst (λ z. IsBelow z (known (rested places y) t)) (sym (known_rested places x t))
    (subst (λ z. IsBelow (at_rest x (place_of places t)) z) (sym (known_rested places y t)) (rest_rises x y below (place_of places t)))

pub taken_rises : (names : List ℕ) (x y : List Flat) → IsRowBelow x y → IsRowBelow (taken names x) (taken names y)
taken_rises names x y below i = elim (cases_lt i (length names)) [
  | inl lt ↦
      subst (λ z. IsBelow z (known (taken names y) i)) (sym (known_taken names x i lt))
      (subst (λ z. IsBelow (known x (slice_index_or names i 0)) z) (sym (known_taken names y i lt)) (below (slice_index_or names i 0)))
  | inr past ↦ subst (λ z. IsBelow (known (taken names x) i) z) (sym (taken_past names y i past)) (below_many (known (taken names x) i))
]

-- ---- what may be known

pub rested_may : (ps : Places) (may : ℕ → ℕ → Bool) (shared : List Flat) → HasWhatMay (may_at ps.names.items may) shared → HasWhatMay may (rested ps.places.items shared)
rested_may ps may shared has t n e = by (place_of ps.places.items t) refl (sym (known_rested ps.places.items shared t) ∙ e)
  where
    by : (p : Place) → place_of ps.places.items t ≡ p → at_rest shared p ≡ One n → may t n ≡ true
    by Nowhere at e = absurd (one_or_many n e)
    by (Own c j) at e = absurd (one_or_many n e)
    by (Shared i) at e = subst (λ (k : ℕ). may k n ≡ true) (ps.are.given.named t i at).1 (has i n e)

pub taken_may : (names : List ℕ) (may : ℕ → ℕ → Bool) (full : List Flat) → HasWhatMay may full → HasWhatMay (may_at names may) (taken names full)
taken_may names may full has i n e = elim (cases_lt i (length names)) [
  | inl lt ↦ has (slice_index_or names i 0) n (sym (known_taken names full i lt) ∙ e)
  | inr past ↦ absurd (one_or_many n (sym (taken_past names full i past) ∙ e))
]

pub own_may : (ps : Places) (may : ℕ → ℕ → Bool) (row : List Flat × List Flat) → IsOwn ps may row → HasWhatMay may (rested ps.places.items row.0)
own_may ps may row own = rested_may ps may row.0 own.0.1

-- ---- what a block sees

pub known_seen : (places : List Place) (b : ℕ) (row : List Flat × List Flat) (t : ℕ) → known (seen places b row) t ≡ at_place b row (place_of places t)
known_seen places b row t = map_at (at_place b row) places t Nowhere

-- of what is known in a block each temporary is at home there
home_or_many : (b : ℕ) (row : List Flat × List Flat) (p : Place) (n : ℕ) → at_place b row p ≡ One n → IsPlaceIn b p
home_or_many b row Nowhere n e = absurd (one_or_many n e)
home_or_many b row (Own c j) n e = by (c == b) refl e
  where
    by : (d : Bool) → (c == b) ≡ d → (if d then known row.1 j else Many) ≡ One n → c ≡ b
    by true e f = eqb-true c b e
    by false e f = absurd (one_or_many n f)
home_or_many b row (Shared i) n e = tt

pub known_at_home : (places : List Place) (b : ℕ) (row : List Flat × List Flat) (t n : ℕ) → known (seen places b row) t ≡ One n → IsAtHome places b t
known_at_home places b row t n e = inr (home_or_many b row (place_of places t) n (sym (known_seen places b row t) ∙ e))

-- ---- what flows

-- what is known at the front of a block has as many places
pub entered_long : (count n : ℕ) (row : List Flat) → length row ≡ count → length (entered count n row) ≡ count
entered_long count n row long = by (n == 0)
  where
    by : (c : Bool) → length (if c then replicate count Many else row) ≡ count
    by true = length-replicate count Many
    by false = long

pub entered_rises : (count n : ℕ) (x y : List Flat) → IsRowBelow x y → IsRowBelow (entered count n x) (entered count n y)
entered_rises count n x y below = by (n == 0)
  where
    by : (c : Bool) → IsRowBelow (if c then replicate count Many else x) (if c then replicate count Many else y)
    by true = rows_below_themselves (replicate count Many)
    by false = below

pub out_rises : (transfer : List Flat → Op → List Flat) → Rises transfer → (ps : Places) (block : Option Block) (x y : List Flat) → IsRowBelow x y
    → IsRowBelow (outflow_by transfer ps x block) (outflow_by transfer ps y block)
out_rises transfer r ps (Some b) x y below =
    taken_rises ps.names.items (behind transfer (rested ps.places.items x) b.ops) (behind transfer (rested ps.places.items y) b.ops)
    (behind_rises transfer r (rested ps.places.items x) (rested ps.places.items y) b.ops (rested_long ps.places.items x ∙ sym (rested_long ps.places.items y)) (rested_rises ps.places.items x y below))
out_rises transfer r ps None x y below = below

-- what flows out of a block rises with what flows in
pub outflows_rise : (transfer : List Flat → Op → List Flat) → Rises transfer → (ps : Places) (blocks : List Block) (n : ℕ) (x y a b : List Flat × List Flat)
    → IsBelowShared x y → IsOutflow transfer ps blocks n x a → IsOutflow transfer ps blocks n y b → IsBelowShared a b
outflows_rise transfer r ps blocks n x y a b below is_a is_b =
    subst (λ z. IsRowBelow z b.0) (sym is_a)
    (subst (λ z. IsRowBelow (outflow transfer ps blocks n x.0) z) (sym is_b)
    (out_rises transfer r ps (slice_get blocks n) (entered (length ps.names.items) n x.0) (entered (length ps.names.items) n y.0) (entered_rises (length ps.names.items) n x.0 y.0 below)))

flat_fits : (x : Flat) → flat_rank x ≤ 2
flat_fits Bottom = omega arith
flat_fits (One n) = omega arith
flat_fits Many = omega arith

-- no row is further up than twice its places
pub ranks_fit : (count : ℕ) (row : List Flat) → length row ≡ count → row_rank row ≤ 2 * count
ranks_fit count [] e = omega (arith, e)
ranks_fit count (x ∷ row) e =
    let rest = ranks_fit (length row) row refl in
    let one = flat_fits x in
    let all = sum_by-cons flat_rank x row in
    omega (arith, rest, one, all, e)
