-- What is known in a function has a least solution: what flows along an edge is joined where it is not below what is known there,
-- until nothing rises.
use Rattle.std.specs.Prelude.{ℕ, zero, suc, ◌≡◌, ◌+◌, ◌<◌, ◌≤◌, ◌⊎◌, ◌==◌, Bool, true, false, if◌then◌else◌, Option, Some, None, List, [], ◌∷◌, length, slice_get, slice_index_or, Contains}
use Rattle.std.proofs.Common.{refl, sym, ap, subst, ◌∙◌, arith, inl, inr}
use Rattle.std.proofs.lemmas.Bool.{cases_lt, cases_eq, eqb-true, eq-eqb}
use Rattle.std.proofs.lemmas.List.{get_or_past}
use Rattle.std.proofs.lemmas.List.Elements.{Contains-push_cases, Contains-append_cases}
use Rattle.std.proofs.lemmas.Option.{slice_get_within, same_Some}
use Rattle.pw_flow.specs.declared.flow.Op.{Op}
use Rattle.pw_flow.specs.declared.flow.Block.{Block}
use Rattle.pw_flow.specs.declared.flow.FlowFn.{FlowFn}
use Rattle.pw_flow.specs.Uses.{successors}
use Rattle.pw_opt_rules.specs.declared.flat.Flat.{Flat}
use Rattle.pw_opt_rules.specs.declared.flat.Flat.TheVariants.{Bottom, One, Many}
use Rattle.pw_opt_rules.specs.Flat.{IsBelow}
use Rattle.pw_opt_rules.specs.Rows.{known, IsRowBelow, behind, front, IsSolution, IsLeastSolution}
use Rattle.pw_opt_order.specs.Rises.{Rises}
use Rattle.pw_opt_order.specs.Order.{below_many, below_through, behind_rises}
use Rattle.pw_opt_rows.specs.Joins.{joined, flat_rank}
use Rattle.pw_opt_rows.proofs.Joining.{least_above}

-- ---- lists by their places

abbrev listed : {X : Type 0} → ℕ → (ℕ → X) → List X
listed zero g = []
listed (suc n) g = g 0 ∷ listed n (λ k. g (suc k))

listed_long : {X : Type 0} (n : ℕ) (g : ℕ → X) → length (listed n g) ≡ n
listed_long zero g = refl
listed_long (suc n) g = ap suc (listed_long n (λ k. g (suc k)))

listed_at : {X : Type 0} (n : ℕ) (g : ℕ → X) (d : X) (k : ℕ) → k < n → slice_index_or (listed n g) k d ≡ g k
listed_at zero g d k lt = absurd (omega (arith, lt))
listed_at (suc n) g d zero lt = refl
listed_at (suc n) g d (suc k) lt = listed_at n (λ j. g (suc j)) d k (omega (arith, lt))

-- ---- sums of the first numbers

abbrev total : (ℕ → ℕ) → ℕ → ℕ
total q zero = 0
total q (suc n) = total q n + q n

total_le : (q s : ℕ → ℕ) (n : ℕ) → ((k : ℕ) → k < n → q k ≤ s k) → total q n ≤ total s n
total_le q s zero le = omega arith
total_le q s (suc n) le =
    let before : total q n ≤ total s n = total_le q s n (λ k lt. le k (omega (arith, lt))) in
    let here : q n ≤ s n = le n (omega arith) in
    let both : total q n + q n ≤ total s n + s n = omega (arith, before, here) in
    both

same_place : (n k : ℕ) → k < suc n → n ≤ k → n ≡ k
same_place n k lt high = omega (arith, lt, high)

total_lt : (q s : ℕ → ℕ) (n j : ℕ) → ((k : ℕ) → k < n → q k ≤ s k) → j < n → q j < s j → total q n < total s n
total_lt q s zero j le lt less = absurd (omega (arith, lt))
total_lt q s (suc n) j le lt less =
    let later : q n ≤ s n = le n (omega arith) in
    let earlier : total q n ≤ total s n = total_le q s n (λ k h. le k (omega (arith, h))) in
    elim (cases_lt j n) [
      | inl low ↦
          let before : total q n < total s n = total_lt q s n j (λ k h. le k (omega (arith, h))) low less in
          let both : total q n + q n < total s n + s n = omega (arith, before, later) in
          both
      | inr high ↦
          let here : q n < s n = subst (λ (k : ℕ). q k < s k) (sym (same_place n j lt high)) less in
          let both : total q n + q n < total s n + s n = omega (arith, earlier, here) in
          both
    ]

-- ---- telling

below_told : (x y : Flat) → IsBelow x y ⊎ ¬ IsBelow x y
below_told Bottom y = inl tt
below_told (One a) Bottom = inr (λ h. h)
below_told (One a) (One b) = cases_eq a b
below_told (One a) Many = inl tt
below_told Many Bottom = inr (λ h. h)
below_told Many (One b) = inr (λ h. h)
below_told Many Many = inl tt

up_to : (P : ℕ → Type 0) (n : ℕ) → ((k : ℕ) → k < n → P k) → P n → (k : ℕ) → k < suc n → P k
up_to P n all here k lt = elim (cases_lt k n) [ inl low ↦ all k low | inr high ↦ subst P (same_place n k lt high) here ]

-- all of the first numbers have it, or one lacks it
first_told : (P : ℕ → Type 0) → ((k : ℕ) → P k ⊎ ¬ P k) → (n : ℕ) → ((k : ℕ) → k < n → P k) ⊎ ((k : ℕ) × (k < n) × ¬ P k)
first_told P each zero = inl (λ k lt. absurd (omega (arith, lt)))
first_told P each (suc n) = elim (first_told P each n) [
  | inr w ↦ inr (w.0, (let lt : w.0 < n = w.1 in omega (arith, lt)), w.2)
  | inl all ↦ elim (each n) [
    | inl here ↦ inl (up_to P n all here)
    | inr lacks ↦ inr (n, omega arith, lacks)
  ]
]

-- or there is something else
count_or : {Q : Type 0} (P : ℕ → Type 0) (n : ℕ) → ((k : ℕ) → P k ⊎ Q) → ((k : ℕ) → k < n → P k) ⊎ Q
count_or P zero each = inl (λ k lt. absurd (omega (arith, lt)))
count_or P (suc n) each = elim (count_or P n each) [
  | inr q ↦ inr q
  | inl all ↦ elim (each n) [
    | inl here ↦ inl (up_to P n all here)
    | inr q ↦ inr q
  ]
]

-- the first or a later one
first_or_later : {X : Type 0} (y x : X) (ys : List X) → Contains (y ∷ ys) x → (y ≡ x) ⊎ Contains ys x
first_or_later y x ys c = elim (Contains-append_cases (y ∷ []) ys x c) [
  | inr later ↦ inr later
  | inl first ↦ elim (Contains-push_cases [] y x first) [ inl none ↦ absurd (let lt = none.1 in omega (arith, lt)) | inr e ↦ inl e ]
]

later_one : {X : Type 0} (y x : X) (ys : List X) → Contains ys x → Contains (y ∷ ys) x
later_one y x ys c = (suc c.0, (let lt : c.0 < length ys = c.1 in omega (arith, lt)), c.2)

all_or : {X Q : Type 0} (P : X → Type 0) (xs : List X) → ((x : X) → Contains xs x → P x ⊎ Q) → ((x : X) → Contains xs x → P x) ⊎ Q
all_or P [] each = inl (λ x c. absurd (let lt = c.1 in omega (arith, lt)))
all_or P (y ∷ ys) each = elim (each y (0, omega arith, refl)) [
  | inr q ↦ inr q
  | inl here ↦ elim (all_or P ys (λ x c. each x (later_one y x ys c))) [
    | inr q ↦ inr q
    | inl rest ↦ inl (λ x c. elim (first_or_later y x ys c) [ inl e ↦ subst P e here | inr later ↦ rest x later ])
  ]
]

-- ---- joins

-- no lower in rank
rank_joined : (x y : Flat) → flat_rank x ≤ flat_rank (joined x y)
rank_joined Bottom y = omega arith
rank_joined (One a) Bottom = omega arith
rank_joined (One a) (One b) = either (a == b) where
  either : (c : Bool) → 1 ≤ flat_rank (if c then One a else Many)
  either true = omega arith
  either false = omega arith
rank_joined (One a) Many = omega arith
rank_joined Many y = omega arith

-- and higher, where the second is not below the first
joined_up : (x y : Flat) → ¬ IsBelow y x → flat_rank x < flat_rank (joined x y)
joined_up Bottom Bottom above = absurd (above tt)
joined_up Bottom (One b) above = omega arith
joined_up Bottom Many above = omega arith
joined_up (One a) Bottom above = absurd (above tt)
joined_up (One a) (One b) above = either (a == b) refl where
  either : (c : Bool) → (a == b) ≡ c → 1 < flat_rank (if c then One a else Many)
  either true e = absurd (above (sym (eqb-true a b e)))
  either false e = omega arith
joined_up (One a) Many above = omega arith
joined_up Many y above = absurd (above (below_many y))

rank_most : (x : Flat) → flat_rank x ≤ 2
rank_most Bottom = omega arith
rank_most (One n) = omega arith
rank_most Many = omega arith

no_block : (b : Block) → ◌≡◌ {A = Option Block} None (Some b) → ⊥
no_block b e = cc

-- ---- tables of what is known, by blocks and temporaries

abbrev Knowing : Type 0
Knowing = ℕ → ℕ → Flat

-- anything may be at the start, and nothing is known to come elsewhere
abbrev first : ℕ → ℕ → Flat
first zero t = Many
first (suc b) t = Bottom

module _ (transfer : List Flat → Op → List Flat) (r : Rises transfer) (f : FlowFn) where
  abbrev row : Knowing → ℕ → List Flat
  row p b = listed f.temps (p b)

  known_row : (p : Knowing) (b t : ℕ) → t < f.temps → known (row p b) t ≡ p b t
  known_row p b t lt = listed_at f.temps (p b) Many t lt

  known_past : (p : Knowing) (b t : ℕ) → f.temps ≤ t → known (row p b) t ≡ Many
  known_past p b t ge = let long : length (row p b) ≡ f.temps = listed_long f.temps (p b) in get_or_past (row p b) t Many (omega (arith, ge, long))

  -- what is known behind a block
  abbrev out : Knowing → ℕ → Block → List Flat
  out p b block = behind transfer (row p b) block.ops

  abbrev FlowsTo : Knowing → ℕ → Block → ℕ → Type 0
  FlowsTo p b block c = (t : ℕ) → t < f.temps → IsBelow (known (out p b block) t) (p c t)

  abbrev FlowsOn : Knowing → ℕ → Block → ℕ → Type 0
  FlowsOn p b block c = c < length f.blocks → FlowsTo p b block c

  abbrev AllFlow : Knowing → Type 0
  AllFlow p = (b : ℕ) (block : Block) → slice_get f.blocks b ≡ Some block → (c : ℕ) → Contains (successors block.end) c → FlowsOn p b block c

  -- an edge along which something flows that is not below what is known there
  record Gap (p : Knowing) : Type 0 where
    pub from : ℕ
    pub block : Block
    pub at : slice_get f.blocks from ≡ Some block
    pub to : ℕ
    pub next : Contains (successors block.end) to
    pub within : to < length f.blocks
    pub place : ℕ
    pub inside : place < f.temps
    pub above : ¬ IsBelow (known (out p from block) place) (p to place)

  edge_told : (p : Knowing) (b : ℕ) (block : Block) → slice_get f.blocks b ≡ Some block → (c : ℕ) → Contains (successors block.end) c → FlowsOn p b block c ⊎ Gap p
  edge_told p b block at c next = elim (cases_lt c (length f.blocks)) [
    | inr past ↦ inl (λ lt. absurd (omega (arith, lt, past)))
    | inl within ↦ elim (first_told (λ (t : ℕ). IsBelow (known (out p b block) t) (p c t)) (λ t. below_told (known (out p b block) t) (p c t)) f.temps) [
      | inl all ↦ inl (λ lt. all)
      | inr w ↦ inr (record { from = b; block = block; at = at; to = c; next = next; within = within; place = w.0; inside = w.1; above = w.2 })
    ]
  ]

  block_told : (p : Knowing) (b : ℕ) (o : Option Block) → slice_get f.blocks b ≡ o → ((block : Block) → o ≡ Some block → (c : ℕ) → Contains (successors block.end) c → FlowsOn p b block c) ⊎ Gap p
  block_told p b None at = inl (λ block e. absurd (no_block block e))
  block_told p b (Some own) at = elim (all_or (FlowsOn p b own) (successors own.end) (edge_told p b own at)) [
    | inl all ↦ inl (λ block e. subst (λ (x : Block). (c : ℕ) → Contains (successors x.end) c → FlowsOn p b x c) (same_Some own block e) all)
    | inr gap ↦ inr gap
  ]

  told : (p : Knowing) → AllFlow p ⊎ Gap p
  told p =
      elim (count_or (λ (b : ℕ). (block : Block) → slice_get f.blocks b ≡ Some block → (c : ℕ) → Contains (successors block.end) c → FlowsOn p b block c) (length f.blocks) (λ b. block_told p b (slice_get f.blocks b) refl)) [
        | inl all ↦ inl (λ b block at. all b (slice_get_within f.blocks b block at) block at)
        | inr gap ↦ inr gap
      ]

  -- ---- what is below every solution

  record IsLow (p : Knowing) : Type 0 where
    pub start : (t : ℕ) → p 0 t ≡ Many
    pub below : (others : List (List Flat)) → IsSolution transfer f others → (b t : ℕ) → b < length f.blocks → t < f.temps → IsBelow (p b t) (known (front others b) t)

  first_below : (others : List (List Flat)) → IsSolution transfer f others → (b t : ℕ) → b < length f.blocks → t < f.temps → IsBelow (first b t) (known (front others b) t)
  first_below others s zero t within inside = subst (λ (z : Flat). IsBelow Many z) (sym (s.start t)) tt
  first_below others s (suc b) t within inside = tt

  first_low : IsLow first
  first_low = record { start = λ t. refl; below = first_below }

  rows_below : (p : Knowing) → IsLow p → (others : List (List Flat)) → IsSolution transfer f others → (b : ℕ) → b < length f.blocks → IsRowBelow (row p b) (front others b)
  rows_below p low others s b within t = elim (cases_lt t f.temps) [
    | inl inside ↦ subst (λ (z : Flat). IsBelow z (known (front others b) t)) (sym (known_row p b t inside)) (low.below others s b t within inside)
    | inr past ↦
        let long : length (front others b) ≡ f.temps = s.each_temp b within in
        subst (λ (z : Flat). IsBelow (known (row p b) t) z) (sym (get_or_past (front others b) t Many (omega (arith, past, long)))) (below_many (known (row p b) t))
  ]

  -- ---- raising

  abbrev flow : (p : Knowing) → Gap p → ℕ → Flat
  flow p g t = known (out p g.from g.block) t

  abbrev raised : (p : Knowing) → Gap p → ℕ → ℕ → Flat
  raised p g b t = if b == g.to then joined (p b t) (flow p g t) else p b t

  flow_below : (p : Knowing) (g : Gap p) → IsLow p → (others : List (List Flat)) → IsSolution transfer f others → (t : ℕ) → IsBelow (flow p g t) (known (front others g.to) t)
  flow_below p g low others s t =
      let within = slice_get_within f.blocks g.from g.block g.at in
      let same : length (row p g.from) ≡ length (front others g.from) = listed_long f.temps (p g.from) ∙ sym (s.each_temp g.from within) in
      below_through (flow p g t) (known (behind transfer (front others g.from) g.block.ops) t) (known (front others g.to) t)
      (behind_rises transfer r (row p g.from) (front others g.from) g.block.ops same (rows_below p low others s g.from within) t)
      (s.flows g.from g.to g.block g.at g.next t)

  raised_below : (p : Knowing) (g : Gap p) → IsLow p → (others : List (List Flat)) → IsSolution transfer f others → (b t : ℕ) → b < length f.blocks → t < f.temps → IsBelow (raised p g b t) (known (front others b) t)
  raised_below p g low others s b t within inside = by (b == g.to) refl
    where
      by : (c : Bool) → (b == g.to) ≡ c → IsBelow (if c then joined (p b t) (flow p g t) else p b t) (known (front others b) t)
      by true e =
          least_above (p b t) (flow p g t) (known (front others b) t) (low.below others s b t within inside)
          (subst (λ (k : ℕ). IsBelow (flow p g t) (known (front others k) t)) (sym (eqb-true b g.to e)) (flow_below p g low others s t))
      by false e = low.below others s b t within inside

  raised_low : (p : Knowing) (g : Gap p) → IsLow p → IsLow (raised p g)
  raised_low p g low = record { start = λ t. by t (0 == g.to); below = raised_below p g low }
    where
      by : (t : ℕ) (c : Bool) → (if c then joined (p 0 t) (flow p g t) else p 0 t) ≡ Many
      by t true = ap (λ (x : Flat). joined x (flow p g t)) (low.start t)
      by t false = low.start t

  -- ---- ranks

  abbrev row_sum : Knowing → ℕ → ℕ
  row_sum p b = total (λ (t : ℕ). flat_rank (p b t)) f.temps

  abbrev rank : Knowing → ℕ
  rank p = total (row_sum p) (length f.blocks)

  abbrev most : ℕ
  most = total (λ (b : ℕ). total (λ (t : ℕ). 2) f.temps) (length f.blocks)

  rank_fits : (p : Knowing) → rank p ≤ most
  rank_fits p = total_le (row_sum p) (λ (b : ℕ). total (λ (t : ℕ). 2) f.temps) (length f.blocks) (λ b within. total_le (λ (t : ℕ). flat_rank (p b t)) (λ (t : ℕ). 2) f.temps (λ t inside. rank_most (p b t)))

  place_up : (p : Knowing) (g : Gap p) → flat_rank (p g.to g.place) < flat_rank (raised p g g.to g.place)
  place_up p g =
      subst (λ (c : Bool). flat_rank (p g.to g.place) < flat_rank (if c then joined (p g.to g.place) (flow p g g.place) else p g.to g.place)) (sym (eq-eqb g.to g.to refl))
      (joined_up (p g.to g.place) (flow p g g.place) g.above)

  each_up : (p : Knowing) (g : Gap p) (b t : ℕ) → flat_rank (p b t) ≤ flat_rank (raised p g b t)
  each_up p g b t = by (b == g.to)
    where
      by : (c : Bool) → flat_rank (p b t) ≤ flat_rank (if c then joined (p b t) (flow p g t) else p b t)
      by true = rank_joined (p b t) (flow p g t)
      by false = omega arith

  rank_up : (p : Knowing) (g : Gap p) → rank p < rank (raised p g)
  rank_up p g =
      total_lt (row_sum p) (row_sum (raised p g)) (length f.blocks) g.to
      (λ b within. total_le (λ (t : ℕ). flat_rank (p b t)) (λ (t : ℕ). flat_rank (raised p g b t)) f.temps (λ t inside. each_up p g b t)) g.within
      (total_lt (λ (t : ℕ). flat_rank (p g.to t)) (λ (t : ℕ). flat_rank (raised p g g.to t)) f.temps g.place (λ t inside. each_up p g g.to t) g.inside (place_up p g))

  -- ---- until nothing rises

  record Settled : Type 0 where
    pub table : Knowing
    pub low : IsLow table
    pub flows : AllFlow table

  spent : (before after left : ℕ) → before < after → after ≤ most → most ≤ before + left → left ≡ 0 → ⊥
  spent before after left up fits enough none = omega (arith, up, fits, enough, none)

  settle : (left : ℕ) (p : Knowing) → IsLow p → most ≤ rank p + left → Settled
  settle zero p low enough = elim (told p) [
    | inl all ↦ record { table = p; low = low; flows = all }
    | inr g ↦ absurd (spent (rank p) (rank (raised p g)) 0 (rank_up p g) (rank_fits (raised p g)) enough refl)
  ]
  settle (suc left) p low enough = elim (told p) [
    | inl all ↦ record { table = p; low = low; flows = all }
    | inr g ↦ settle left (raised p g) (raised_low p g low) (still (rank p) (rank (raised p g)) left (rank_up p g) enough)
  ]
    where
      still : (before after left : ℕ) → before < after → most ≤ before + suc left → most ≤ after + left
      still before after left up enough = omega (arith, up, enough)

  -- ---- the rows

  module _ (s : Settled) where
    abbrev rows : List (List Flat)
    rows = listed (length f.blocks) (row s.table)

    front_at : (b : ℕ) → b < length f.blocks → front rows b ≡ row s.table b
    front_at b lt = listed_at (length f.blocks) (row s.table) [] b lt

    front_past : (b : ℕ) → length f.blocks ≤ b → front rows b ≡ []
    front_past b ge = let long : length rows ≡ length f.blocks = listed_long (length f.blocks) (row s.table) in get_or_past rows b [] (omega (arith, ge, long))

    start_row : (t : ℕ) → known (row s.table 0) t ≡ Many
    start_row t = elim (cases_lt t f.temps) [ inl lt ↦ known_row s.table 0 t lt ∙ s.low.start t | inr ge ↦ known_past s.table 0 t ge ]

    start : (t : ℕ) → known (front rows 0) t ≡ Many
    start t = elim (cases_lt 0 (length f.blocks)) [
      | inl lt ↦ ap (λ (xs : List Flat). known xs t) (front_at 0 lt) ∙ start_row t
      | inr ge ↦ ap (λ (xs : List Flat). known xs t) (front_past 0 ge)
    ]

    row_flows : (b : ℕ) (block : Block) → slice_get f.blocks b ≡ Some block → (c : ℕ) → Contains (successors block.end) c → c < length f.blocks → IsRowBelow (out s.table b block) (row s.table c)
    row_flows b block at c next within t = elim (cases_lt t f.temps) [
      | inl inside ↦ subst (λ (z : Flat). IsBelow (known (out s.table b block) t) z) (sym (known_row s.table c t inside)) (s.flows b block at c next within t inside)
      | inr past ↦ subst (λ (z : Flat). IsBelow (known (out s.table b block) t) z) (sym (known_past s.table c t past)) (below_many (known (out s.table b block) t))
    ]

    onward : (b c : ℕ) (block : Block) → slice_get f.blocks b ≡ Some block → Contains (successors block.end) c → IsRowBelow (behind transfer (front rows b) block.ops) (front rows c)
    onward b c block at next t =
        subst (λ (xs : List Flat). IsBelow (known (behind transfer xs block.ops) t) (known (front rows c) t)) (sym (front_at b (slice_get_within f.blocks b block at)))
        (elim (cases_lt c (length f.blocks)) [
          | inl lt ↦ subst (λ (xs : List Flat). IsBelow (known (out s.table b block) t) (known xs t)) (sym (front_at c lt)) (row_flows b block at c next lt t)
          | inr ge ↦ subst (λ (xs : List Flat). IsBelow (known (out s.table b block) t) (known xs t)) (sym (front_past c ge)) (below_many (known (out s.table b block) t))
        ])

    below_others : (others : List (List Flat)) → IsSolution transfer f others → (b : ℕ) → IsRowBelow (front rows b) (front others b)
    below_others others is b t = elim (cases_lt b (length f.blocks)) [
      | inl lt ↦ subst (λ (xs : List Flat). IsBelow (known xs t) (known (front others b) t)) (sym (front_at b lt)) (rows_below s.table s.low others is b lt t)
      | inr ge ↦
          let each : length others ≡ length f.blocks = is.each_block in
          subst (λ (xs : List Flat). IsBelow (known (front rows b) t) (known xs t)) (sym (get_or_past others b [] (omega (arith, ge, each)))) (below_many (known (front rows b) t))
    ]

    settled_least : IsLeastSolution transfer f rows
    settled_least = record {
      solution = record {
        each_block = listed_long (length f.blocks) (row s.table);
        each_temp = λ b lt. ap (λ (xs : List Flat). length xs) (front_at b lt) ∙ listed_long f.temps (s.table b);
        start = start;
        flows = onward;
      };
      least = below_others;
    }

  pub least_exists : (rows : List (List Flat)) × IsLeastSolution transfer f rows
  least_exists = let s = settle most first first_low (omega arith) in (rows s, settled_least s)
