-- Joins of what is known are least upper bounds, and rise in rank where they are above.
use Rattle.std.specs.Prelude.{◌≡◌, ℕ, zero, suc, ◌+◌, ◌<◌, ◌≤◌, ◌⊎◌, ◌==◌, Bool, true, false, if◌then◌else◌, List, [], ◌∷◌, length, replicate, slice_set}
use Rattle.std.proofs.Common.{refl, sym, ap, subst, ◌∙◌, arith, inl, inr}
use Rattle.std.proofs.lemmas.Bool.{eqb-true, eq-eqb, cases_eq, cases_lt}
use Rattle.std.proofs.lemmas.List.{get_or_past, get_or-replicate, length-replicate, get_or-set_same, get_or-set_other}
use Rattle.std.proofs.lemmas.List.Sums.{sum_by-cons}
use Rattle.pw_fix.specs.Order.{IsLeast, IsJoin}
use Rattle.pw_opt_rules.specs.declared.flat.Flat.{Flat}
use Rattle.pw_opt_rules.specs.declared.flat.Flat.TheVariants.{Bottom, One, Many}
use Rattle.pw_opt_rules.specs.Flat.{IsBelow}
use Rattle.pw_opt_rules.specs.Rows.{known, IsRowBelow}
use Rattle.pw_opt_order.specs.Order.{below_itself, below_many}
use Rattle.pw_opt_rows.specs.Joins.{joined, flat_rank, row_rank, IsOwnRow}

-- ---- one place

pub above_first : (x y : Flat) → IsBelow x (joined x y)
above_first Bottom y = tt
above_first (One a) Bottom = refl
above_first (One a) (One b) = either (a == b) where
  either : (c : Bool) → IsBelow (One a) (if c then One a else Many)
  either true = refl
  either false = tt
above_first (One a) Many = tt
above_first Many y = tt

pub above_second : (x y : Flat) → IsBelow y (joined x y)
above_second Bottom y = below_itself y
above_second (One a) Bottom = tt
above_second (One a) (One b) = either (a == b) refl where
  either : (c : Bool) → (a == b) ≡ c → IsBelow (One b) (if c then One a else Many)
  either true e = sym (eqb-true a b e)
  either false e = tt
above_second (One a) Many = tt
above_second Many y = below_many y

pub least_above : (x y w : Flat) → IsBelow x w → IsBelow y w → IsBelow (joined x y) w
least_above Bottom y w a b = b
least_above (One m) Bottom w a b = a
least_above (One m) (One n) Bottom a b = absurd a
least_above (One m) (One n) (One k) a b = subst (λ (c : Bool). IsBelow (if c then One m else Many) (One k)) (sym (eq-eqb m n (a ∙ sym b))) a
least_above (One m) (One n) Many a b = below_many (joined (One m) (One n))
least_above (One m) Many Bottom a b = absurd a
least_above (One m) Many (One k) a b = absurd b
least_above (One m) Many Many a b = tt
least_above Many y w a b = a

-- a join that is no higher in rank is the first itself
pub joined_stays : (x y : Flat) → flat_rank (joined x y) ≤ flat_rank x → joined x y ≡ x
joined_stays Bottom Bottom le = refl
joined_stays Bottom (One b) le = absurd (omega (arith, le))
joined_stays Bottom Many le = absurd (omega (arith, le))
joined_stays (One a) Bottom le = refl
joined_stays (One a) (One b) le = either (a == b) le where
  either : (c : Bool) → flat_rank (if c then One a else Many) ≤ 1 → (if c then One a else Many) ≡ One a
  either true le = refl
  either false le = absurd (omega (arith, le))
joined_stays (One a) Many le = absurd (omega (arith, le))
joined_stays Many y le = refl

-- what a join has, one of both has
joined_one : (x y : Flat) (n : ℕ) → joined x y ≡ One n → (x ≡ One n) ⊎ (y ≡ One n)
joined_one Bottom y n e = inr e
joined_one (One a) Bottom n e = inl e
joined_one (One a) (One b) n e = either (a == b) e where
  either : (c : Bool) → (if c then One a else Many) ≡ One n → (One a ≡ One n) ⊎ (One b ≡ One n)
  either true e = inl e
  either false e = absurd cc
joined_one (One a) Many n e = absurd cc
joined_one Many y n e = absurd cc

rank_rises : (x y : Flat) → IsBelow x y → flat_rank x ≤ flat_rank y
rank_rises Bottom y b = omega arith
rank_rises (One m) Bottom b = absurd b
rank_rises (One m) (One n) b = omega arith
rank_rises (One m) Many b = omega arith
rank_rises Many Bottom b = absurd b
rank_rises Many (One n) b = absurd b
rank_rises Many Many b = omega arith

-- ---- rows

row_rank_rises : (xs ys : List Flat) → length xs ≡ length ys → IsRowBelow xs ys → row_rank xs ≤ row_rank ys
row_rank_rises [] [] e b = omega arith
row_rank_rises [] (y ∷ ys) e b = absurd (omega (arith, e))
row_rank_rises (x ∷ xs) [] e b = absurd (omega (arith, e))
row_rank_rises (x ∷ xs) (y ∷ ys) e b =
    let head : flat_rank x ≤ flat_rank y = rank_rises x y (b 0) in
    let rest : row_rank xs ≤ row_rank ys = row_rank_rises xs ys (omega (arith, e)) (λ t. b (suc t)) in
    let first = sum_by-cons flat_rank x xs in
    let second = sum_by-cons flat_rank y ys in
    omega (arith, head, rest, first, second)

-- at every place, also past the end
joined_past : (xs ys zs : List Flat) (j : ℕ) → length xs ≤ j → length ys ≤ j → length zs ≤ j → known zs j ≡ joined (known xs j) (known ys j)
joined_past xs ys zs j a b c =
    get_or_past zs j Many c ∙ sym (ap (λ (x : Flat). joined x (known ys j)) (get_or_past xs j Many a))

pub rows_join : (may : ℕ → ℕ → Bool) (temps : ℕ) (x y z : List Flat) → IsOwnRow may temps x → IsOwnRow may temps y → length z ≡ length x
    → ((t : ℕ) → known z t ≡ joined (known x t) (known y t)) → IsJoin (IsOwnRow may temps) IsRowBelow x y z
rows_join may temps x y z a b same joins = record {
  own = (same ∙ a.0, λ t n e. elim (joined_one (known x t) (known y t) n (sym (joins t) ∙ e)) [ inl f ↦ a.1 t n f | inr g ↦ b.1 t n g ]);
  above_first = λ t. subst (λ w. IsBelow (known x t) w) (sym (joins t)) (above_first (known x t) (known y t));
  above_second = λ t. subst (λ w. IsBelow (known y t) w) (sym (joins t)) (above_second (known x t) (known y t));
  least = λ w own_w f g t. subst (λ v. IsBelow v (known w t)) (sym (joins t)) (least_above (known x t) (known y t) (known w t) (f t) (g t));
}

-- the row at Bottom is the least
bottoms_own : (may : ℕ → ℕ → Bool) (temps : ℕ) → IsOwnRow may temps (replicate temps Bottom)
bottoms_own may temps = (
  length-replicate temps Bottom,
  λ t n e. elim (cases_lt t temps) [
    | inl lt ↦ absurd (let no : Bottom ≡ One n = sym (get_or-replicate temps t Bottom Many lt) ∙ e in cc)
    | inr ge ↦ absurd (let long : length (replicate temps Bottom) ≡ temps = length-replicate temps Bottom in let no : Many ≡ One n = sym (get_or_past (replicate temps Bottom) t Many (omega (arith, ge, long))) ∙ e in cc)
  ],
)

pub bottom_least : (may : ℕ → ℕ → Bool) (temps : ℕ) (x : List Flat) → x ≡ replicate temps Bottom → IsLeast (IsOwnRow may temps) IsRowBelow x
bottom_least may temps x is = subst (IsLeast (IsOwnRow may temps) IsRowBelow) (sym is) (record {
  own = bottoms_own may temps;
  least = λ y own t. elim (cases_lt t temps) [
    | inl lt ↦ subst (λ z. IsBelow z (known y t)) (sym (get_or-replicate temps t Bottom Many lt)) tt
    | inr ge ↦ let long = own.0 in subst (λ z. IsBelow (known (replicate temps Bottom) t) z) (sym (get_or_past y t Many (omega (arith, ge, long)))) (below_many (known (replicate temps Bottom) t))
  ];
})

-- a row that has risen in rank is not at or below what it was
pub not_below : (xs ys : List Flat) → length ys ≡ length xs → row_rank xs < row_rank ys → IsRowBelow ys xs → ⊥
not_below xs ys same up below = let le = row_rank_rises ys xs same below in omega (arith, up, le)

-- where each place is no lower in rank, and one is higher, the row is higher
ranks_rise : (xs ys : List Flat) → length xs ≡ length ys → ((t : ℕ) → flat_rank (known xs t) ≤ flat_rank (known ys t)) → row_rank xs ≤ row_rank ys
ranks_rise [] [] e le = omega arith
ranks_rise [] (y ∷ ys) e le = absurd (omega (arith, e))
ranks_rise (x ∷ xs) [] e le = absurd (omega (arith, e))
ranks_rise (x ∷ xs) (y ∷ ys) e le =
    let head : flat_rank x ≤ flat_rank y = le 0 in
    let rest : row_rank xs ≤ row_rank ys = ranks_rise xs ys (omega (arith, e)) (λ t. le (suc t)) in
    let first = sum_by-cons flat_rank x xs in
    let second = sum_by-cons flat_rank y ys in
    omega (arith, head, rest, first, second)

one_rises : (xs ys : List Flat) (j : ℕ) → length xs ≡ length ys → ((t : ℕ) → flat_rank (known xs t) ≤ flat_rank (known ys t)) → flat_rank (known xs j) < flat_rank (known ys j)
    → row_rank xs < row_rank ys
one_rises [] [] j e le lt = absurd (omega (arith, lt))
one_rises [] (y ∷ ys) j e le lt = absurd (omega (arith, e))
one_rises (x ∷ xs) [] j e le lt = absurd (omega (arith, e))
one_rises (x ∷ xs) (y ∷ ys) zero e le lt =
    let rest : row_rank xs ≤ row_rank ys = ranks_rise xs ys (omega (arith, e)) (λ t. le (suc t)) in
    let first = sum_by-cons flat_rank x xs in
    let second = sum_by-cons flat_rank y ys in
    let head : flat_rank x < flat_rank y = lt in
    omega (arith, head, rest, first, second)
one_rises (x ∷ xs) (y ∷ ys) (suc j) e le lt =
    let rest : row_rank xs < row_rank ys = one_rises xs ys j (omega (arith, e)) (λ t. le (suc t)) lt in
    let head : flat_rank x ≤ flat_rank y = le 0 in
    let first = sum_by-cons flat_rank x xs in
    let second = sum_by-cons flat_rank y ys in
    omega (arith, head, rest, first, second)

-- a join is no lower in rank
pub rank_joined : (x y : Flat) → flat_rank x ≤ flat_rank (joined x y)
rank_joined x y = rank_rises x (joined x y) (above_first x y)

-- joined place by place, and higher at one
pub joined_rises : (xs ys zs : List Flat) (j : ℕ) → length zs ≡ length xs → ((t : ℕ) → known zs t ≡ joined (known xs t) (known ys t)) → flat_rank (known xs j) < flat_rank (known zs j)
    → row_rank xs < row_rank zs
joined_rises xs ys zs j same joins lt =
    one_rises xs zs j (sym same) (λ t. subst (λ z. flat_rank (known xs t) ≤ flat_rank z) (sym (joins t)) (rank_joined (known xs t) (known ys t))) lt

-- ---- place by place, as a loop goes

-- the first places are joined, and the others are as they were
pub record IsJoinedBelow (xs ys zs : List Flat) (place : ℕ) : Type 0 where
  pub done : (j : ℕ) → j < place → known zs j ≡ joined (known xs j) (known ys j)
  pub rest : (j : ℕ) → place ≤ j → known zs j ≡ known xs j

-- some place is higher
pub record HasRisen (xs zs : List Flat) : Type 0 where
  pub place : ℕ
  pub higher : flat_rank (known xs place) < flat_rank (known zs place)

pub joined_none : (xs ys : List Flat) → IsJoinedBelow xs ys xs 0
joined_none xs ys = record { done = λ j lt. absurd (omega (arith, lt)); rest = λ j le. refl }

-- one place more, set to the join
pub joined_set : (xs ys zs : List Flat) (place : ℕ) (new : Flat) → place < length zs → IsJoinedBelow xs ys zs place → new ≡ joined (known zs place) (known ys place)
    → IsJoinedBelow xs ys (slice_set zs place new) (place + 1)
joined_set xs ys zs place new lt before is = record {
  done = λ j low. elim (cases_eq j place) [
    | inl same ↦
        subst (λ k. known (slice_set zs place new) k ≡ joined (known xs k) (known ys k)) (sym same)
        (get_or-set_same zs place new Many lt ∙ is ∙ ap (λ z. joined z (known ys place)) (before.rest place (omega arith)))
    | inr other ↦ get_or-set_other zs place j new Many other ∙ before.done j (omega (arith, low, other))
  ];
  rest = λ j high. get_or-set_other zs place j new Many (λ same. absurd (omega (arith, same, high))) ∙ before.rest j (omega (arith, high));
}

-- and one that the join leaves as it is
pub joined_stay : (xs ys zs : List Flat) (place : ℕ) → IsJoinedBelow xs ys zs place → joined (known zs place) (known ys place) ≡ known zs place → IsJoinedBelow xs ys zs (place + 1)
joined_stay xs ys zs place before is = record {
  done = λ j low. elim (cases_eq j place) [
    | inl same ↦
        subst (λ k. known zs k ≡ joined (known xs k) (known ys k)) (sym same)
        (sym is ∙ ap (λ z. joined z (known ys place)) (before.rest place (omega arith)))
    | inr other ↦ before.done j (omega (arith, low, other))
  ];
  rest = λ j high. before.rest j (omega (arith, high));
}

pub risen_set : (xs ys zs : List Flat) (place : ℕ) (new : Flat) → place < length zs → IsJoinedBelow xs ys zs place → flat_rank (known zs place) < flat_rank new → HasRisen xs (slice_set zs place new)
risen_set xs ys zs place new lt before up = record {
  place = place;
  higher = subst (λ z. flat_rank (known xs place) < flat_rank z) (sym (get_or-set_same zs place new Many lt))
      (subst (λ z. flat_rank z < flat_rank new) (before.rest place (omega arith)) up);
}

-- a place that is done and higher stays so
pub risen_stays : (xs ys zs : List Flat) (place : ℕ) (new : Flat) → IsJoinedBelow xs ys zs place → HasRisen xs zs → HasRisen xs (slice_set zs place new)
risen_stays xs ys zs place new before up = elim (cases_eq up.place place) [
  | inl same ↦ absurd (
      let stays : known zs up.place ≡ known xs up.place = before.rest up.place (omega (arith, same)) in
      let lt : flat_rank (known xs up.place) < flat_rank (known xs up.place) = subst (λ z. flat_rank (known xs up.place) < flat_rank z) stays up.higher in
      omega (arith, lt)
      )
  | inr other ↦ record { place = up.place; higher = subst (λ z. flat_rank (known xs up.place) < flat_rank z) (sym (get_or-set_other zs place up.place new Many other)) up.higher }
]

-- all places
pub joined_all : (xs ys zs : List Flat) (place : ℕ) → length xs ≤ place → length ys ≤ place → length zs ≤ place → IsJoinedBelow xs ys zs place → (t : ℕ) → known zs t ≡ joined (known xs t) (known ys t)
joined_all xs ys zs place a b c all t = elim (cases_lt t place) [
  | inl low ↦ all.done t low
  | inr past ↦ joined_past xs ys zs t (omega (arith, a, past)) (omega (arith, b, past)) (omega (arith, c, past))
]
