-- What flows into the blocks of a function, by the solver, has of shared temporaries what the least solution has.
use Rattle.std.specs.Prelude.{◌≡◌, ℕ, zero, suc, ◌<◌, ◌≤◌, ◌↔◌, ◌==◌, if◌then◌else◌, Bool, true, false, Option, Some, None, List, [], ◌∷◌, length, replicate, slice_get, slice_index_or, Contains}
use Rattle.std.proofs.Common.{set, refl, sym, ap, subst, ◌∙◌, arith, inl, inr}
use Rattle.std.proofs.lemmas.Bool.{cases_lt}
use Rattle.std.proofs.lemmas.List.{get_or_past, get_or-replicate, get_or-map, length-replicate, length-set, length-map}
use Rattle.std.proofs.lemmas.Option.{slice_get_within, slice_get-get_or}
use Rattle.pw_fix.specs.Order.{IsLeast, IsJoin}
use Rattle.pw_fix.specs.Solution.{HasEdge, IsInflow, Place, into, value_of, Derivable, least, flows, steps, joins}
use Rattle.pw_fix.specs.Solution as fix
use Rattle.pw_fix.proofs.Derivations.{derivable_own}
use Rattle.pw_flow.specs.declared.flow.Block.{Block}
use Rattle.pw_flow.specs.declared.flow.FlowFn.{FlowFn}
use Rattle.pw_flow.specs.Uses.{end_uses, successors}
use Rattle.pw_opt_rules.specs.declared.flat.Flat.{Flat}
use Rattle.pw_opt_rules.specs.declared.flat.Flat.TheVariants.{Bottom, One, Many}
use Rattle.pw_opt_rules.specs.Flat.{IsBelow}
use Rattle.pw_opt_rules.specs.Rows.{known, IsRowBelow, behind, front, IsSolution, IsLeastSolution}
use Rattle.pw_opt_rules.specs.Rewriting.{Rewriting}
use Rattle.pw_opt_order.specs.Rises.{Rises}
use Rattle.pw_opt_order.specs.Order.{below_many, below_through, rows_below_themselves, behind_rises}
use Rattle.pw_opt_order.specs.Reads.{ReadsOperands, behind_alike}
use Rattle.pw_opt_places.specs.declared.places.Place.{Place as PlaceValue}
use Rattle.pw_opt_places.specs.declared.places.Place.TheVariants as place
use Rattle.pw_opt_places.specs.declared.places.Places.{Places}
use Rattle.pw_opt_places.specs.Places.{place_of, IsShared, ArePlacesOf}
use Rattle.pw_opt_rows.specs.Joins.{joined}
use Rattle.pw_opt_rows.specs.Seeing.{at_rest, rested, taken, may_at, IsOwn, IsBelowShared}
use Rattle.pw_opt_rows.specs.Outflows.{entered, outflow_by, outflow, IsOutflow, IsEdge, all_rested, AreFronts}
use Rattle.pw_opt_rows.specs.RowLaws.{entered_rises, known_rested, rested_long, rested_rises, known_taken, taken_long, taken_past, out_rises}
use Rattle.pw_opt_rows.proofs.Entering.{all_many, entered_on, row_at, opened_first, opened_on}
use Rattle.pw_opt_rows.proofs.Joining.{least_above, bottom_least}
use Rattle.pw_opt_rows.proofs.Elements.{elements_join}
use Rattle.pw_opt_rows.proofs.Solving.{least_exists}

-- ---- places

bottom_below : (x y : Flat) → IsBelow x Bottom → IsBelow x y
bottom_below Bottom y b = tt
bottom_below (One n) y b = absurd b
bottom_below Many y b = absurd b

same_flat : (x y : Flat) → IsBelow x y → IsBelow y x → x ≡ y
same_flat Bottom Bottom a b = refl
same_flat Bottom (One n) a b = absurd b
same_flat Bottom Many a b = absurd b
same_flat (One m) Bottom a b = absurd a
same_flat (One m) (One n) a b = ap One a
same_flat (One m) Many a b = absurd b
same_flat Many Bottom a b = absurd a
same_flat Many (One n) a b = absurd a
same_flat Many Many a b = refl

-- ---- the join of two rows of as many places

abbrev joined_rows : List Flat → List Flat → List Flat
joined_rows [] ys = []
joined_rows (x ∷ xs) [] = []
joined_rows (x ∷ xs) (y ∷ ys) = joined x y ∷ joined_rows xs ys

joined_long : (xs ys : List Flat) → length xs ≡ length ys → length (joined_rows xs ys) ≡ length xs
joined_long [] ys e = refl
joined_long (x ∷ xs) [] e = absurd (omega (arith, e))
joined_long (x ∷ xs) (y ∷ ys) e = ap suc (joined_long xs ys (omega (arith, e)))

known_joined : (xs ys : List Flat) → length xs ≡ length ys → (t : ℕ) → known (joined_rows xs ys) t ≡ joined (known xs t) (known ys t)
known_joined [] [] e t = refl
known_joined [] (y ∷ ys) e t = absurd (omega (arith, e))
known_joined (x ∷ xs) [] e t = absurd (omega (arith, e))
known_joined (x ∷ xs) (y ∷ ys) e zero = refl
known_joined (x ∷ xs) (y ∷ ys) e (suc t) = known_joined xs ys (omega (arith, e)) t

-- ---- rows of shared temporaries

module _ (ps : Places) where
  abbrev pub places : List PlaceValue
  places = ps.places.items

  abbrev pub names : List ℕ
  names = ps.names.items

  abbrev pub count : ℕ
  count = length ps.names.items

  abbrev name : ℕ → ℕ
  name i = slice_index_or names i 0

  name_shared : (i : ℕ) → i < count → IsShared places (name i)
  name_shared i lt = (i, ps.are.given.placed i lt)

  -- what is seen at rest of a shared temporary
  rest_of : (shared : List Flat) (t i : ℕ) → place_of places t ≡ place.Shared i → known (rested places shared) t ≡ known shared i
  rest_of shared t i at = known_rested places shared t ∙ ap (at_rest shared) at

  rest_other : (shared : List Flat) (p : PlaceValue) (y : Flat) → ((i : ℕ) → p ≡ place.Shared i → IsBelow y (known shared i)) → IsBelow y (at_rest shared p)
  rest_other shared place.Nowhere y f = below_many y
  rest_other shared (place.Own c j) y f = below_many y
  rest_other shared (place.Shared i) y f = f i refl

  -- of a row of all temporaries what is seen where only shared ones are taken
  masked_same : (full : List Flat) (t : ℕ) → IsShared places t → known (rested places (taken names full)) t ≡ known full t
  masked_same full t shared =
      let named = ps.are.given.named t shared.0 shared.1 in
      rest_of (taken names full) t shared.0 shared.1 ∙ known_taken names full shared.0 named.0 ∙ ap (known full) named.1

module _ (w : Rewriting) (r : Rises w.transfer) (reads : ReadsOperands w) (ps : Places) (f : FlowFn) (of : ArePlacesOf f ps.places.items) (may : ℕ → ℕ → Bool)
    (edges : List (ℕ × ℕ)) (exact : (m n : ℕ) → HasEdge edges m n ↔ IsEdge f.blocks m n) where
  abbrev pub Own : List Flat × List Flat → Type 0
  Own = IsOwn ps may

  abbrev pub gives : ℕ → List Flat × List Flat → List Flat × List Flat → Type 0
  gives = IsOutflow w.transfer ps f.blocks

  -- what is known behind a block of a shared temporary comes of shared ones
  behind_masked : (n : ℕ) (block : Block) (full : List Flat) → slice_get f.blocks n ≡ Some block → length full ≡ f.temps → (t : ℕ) → IsShared (places ps) t
      → known (behind w.transfer (rested (places ps) (taken (names ps) full)) block.ops) t ≡ known (behind w.transfer full block.ops) t
  behind_masked n block full at long t shared =
      let size : length (rested (places ps) (taken (names ps) full)) ≡ f.temps = rested_long (places ps) (taken (names ps) full) ∙ of.each in
      behind_alike w r reads block.ops (end_uses block.end) (rested (places ps) (taken (names ps) full)) full (size ∙ sym long)
      (λ u first. elim (of.first n block u at first) [
        | inl past ↦ get_or_past (rested (places ps) (taken (names ps) full)) u Many (omega (arith, past, size)) ∙ sym (get_or_past full u Many (omega (arith, past, long)))
        | inr goes ↦ masked_same ps full u goes
      ]) t (masked_same ps full t shared)

  -- ---- every solution is above what is derived

  module _ (others : List (List Flat)) (s : IsSolution w.transfer f others) where
    abbrev bound : Place → List Flat
    bound (into n) = taken (names ps) (front others n)
    bound (value_of n) = outflow w.transfer ps f.blocks n (taken (names ps) (front others n))

    entered_short : (n : ℕ) (c : Bool) → length (if c then replicate (count ps) Many else taken (names ps) (front others n)) ≤ count ps
    entered_short n true = let e : length (replicate (count ps) Many) ≡ count ps = length-replicate (count ps) Many in omega (arith, e)
    entered_short n false = let e = taken_long (names ps) (front others n) in omega (arith, e)

    out_long : (n : ℕ) (block : Option Block) → length (outflow_by w.transfer ps (entered (count ps) n (taken (names ps) (front others n))) block) ≤ count ps
    out_long n (Some b) =
        let e = taken_long (names ps) (behind w.transfer (rested (places ps) (entered (count ps) n (taken (names ps) (front others n)))) b.ops) in
        omega (arith, e)
    out_long n None = entered_short n (n == 0)

    bound_long : (p : Place) → length (bound p) ≤ count ps
    bound_long (into n) = let e = taken_long (names ps) (front others n) in omega (arith, e)
    bound_long (value_of n) = out_long n (slice_get f.blocks n)

    bottom_own : Own (replicate (count ps) Bottom, replicate ps.own Many)
    bottom_own = ((bottom_least (may_at (names ps) may) (count ps) (replicate (count ps) Bottom) refl).own, length-replicate ps.own Many)

    least_below : (p : Place) (x : List Flat × List Flat) → IsLeast Own IsBelowShared x → IsRowBelow x.0 (bound p)
    least_below p x l t = elim (cases_lt t (count ps)) [
      | inl lt ↦
          bottom_below (known x.0 t) (known (bound p) t)
          (subst (λ z. IsBelow (known x.0 t) z) (get_or-replicate (count ps) t Bottom Many lt) (l.least (replicate (count ps) Bottom, replicate ps.own Many) bottom_own t))
      | inr ge ↦
          let le = bound_long p in
          subst (λ z. IsBelow (known x.0 t) z) (sym (get_or_past (bound p) t Many (omega (arith, ge, le)))) (below_many (known x.0 t))
    ]

    -- at the start a solution has Many
    entered_below : (n : ℕ) → IsRowBelow (entered (count ps) n (taken (names ps) (front others n))) (taken (names ps) (front others n))
    entered_below zero = λ i. elim (cases_lt i (count ps)) [
      | inl lt ↦
          subst (λ z. IsBelow (known (entered (count ps) 0 (taken (names ps) (front others 0))) i) z) (sym (known_taken (names ps) (front others 0) i lt ∙ s.start (name ps i)))
          (below_many (known (entered (count ps) 0 (taken (names ps) (front others 0))) i))
      | inr past ↦
          subst (λ z. IsBelow (known (entered (count ps) 0 (taken (names ps) (front others 0))) i) z) (sym (taken_past (names ps) (front others 0) i past))
          (below_many (known (entered (count ps) 0 (taken (names ps) (front others 0))) i))
    ]
    entered_below (suc n) =
        subst (λ (row : List Flat). IsRowBelow row (taken (names ps) (front others (suc n)))) (sym (entered_on (count ps) n (taken (names ps) (front others (suc n)))))
        (rows_below_themselves (taken (names ps) (front others (suc n))))

    -- what is known behind a block is at or below what a solution has where the block goes on
    on_below : (m n : ℕ) (block : Block) → slice_get f.blocks m ≡ Some block → Contains (successors block.end) n → (t : ℕ) → IsShared (places ps) t
        → IsBelow (known (behind w.transfer (rested (places ps) (entered (count ps) m (taken (names ps) (front others m)))) block.ops) t) (known (front others n) t)
    on_below m n block at next t shared =
        let long : length (front others m) ≡ f.temps = s.each_temp m (slice_get_within f.blocks m block at) in
        let start : List Flat = rested (places ps) (entered (count ps) m (taken (names ps) (front others m))) in
        let masked : List Flat = rested (places ps) (taken (names ps) (front others m)) in
        let up : IsRowBelow (behind w.transfer start block.ops) (behind w.transfer masked block.ops) =
        behind_rises w.transfer r start masked block.ops (rested_long (places ps) (entered (count ps) m (taken (names ps) (front others m))) ∙ sym (rested_long (places ps) (taken (names ps) (front others m))))
        (rested_rises (places ps) (entered (count ps) m (taken (names ps) (front others m))) (taken (names ps) (front others m)) (entered_below m)) in
        below_through (known (behind w.transfer start block.ops) t) (known (behind w.transfer masked block.ops) t) (known (front others n) t) (up t)
        (subst (λ z. IsBelow z (known (front others n) t)) (sym (behind_masked m block (front others m) at long t shared)) (s.flows m n block at next t))

    edge_below : (m n : ℕ) (x : List Flat) → IsEdge f.blocks m n → IsRowBelow x (bound (value_of m)) → IsRowBelow x (taken (names ps) (front others n))
    edge_below m n x way b i = elim (cases_lt i (count ps)) [
      | inr past ↦ subst (λ z. IsBelow (known x i) z) (sym (taken_past (names ps) (front others n) i past)) (below_many (known x i))
      | inl lt ↦
          let start : List Flat = rested (places ps) (entered (count ps) m (taken (names ps) (front others m))) in
          let out : IsRowBelow x (taken (names ps) (behind w.transfer start way.0.ops)) =
          subst (λ (o : Option Block). IsRowBelow x (outflow_by w.transfer ps (entered (count ps) m (taken (names ps) (front others m))) o)) way.1 b in
          below_through (known x i) (known (behind w.transfer start way.0.ops) (name ps i)) (known (taken (names ps) (front others n)) i)
          (subst (λ z. IsBelow (known x i) z) (known_taken (names ps) (behind w.transfer start way.0.ops) i lt) (out i))
          (subst (λ z. IsBelow (known (behind w.transfer start way.0.ops) (name ps i)) z) (sym (known_taken (names ps) (front others n) i lt))
          (on_below m n way.0 way.1 way.2 (name ps i) (name_shared ps i lt)))
    ]

    out_below : (n : ℕ) (y : List Flat) → IsRowBelow y (taken (names ps) (front others n)) → IsRowBelow (outflow w.transfer ps f.blocks n y) (bound (value_of n))
    out_below n y below =
        out_rises w.transfer r ps (slice_get f.blocks n) (entered (count ps) n y) (entered (count ps) n (taken (names ps) (front others n)))
        (entered_rises (count ps) n y (taken (names ps) (front others n)) below)

    joins_below : (x y z : List Flat × List Flat) (over : List Flat) → Own x → Own y → IsJoin Own IsBelowShared x y z → IsRowBelow x.0 over → IsRowBelow y.0 over → IsRowBelow z.0 over
    joins_below x y z over a b j first second t =
        let same : length x.0 ≡ length y.0 = a.0.0 ∙ sym b.0.0 in
        let both : List Flat = joined_rows x.0 y.0 in
        let k = elements_join ps may x y (both, x.1) a b (joined_long x.0 y.0 same) refl (known_joined x.0 y.0 same) in
        below_through (known z.0 t) (known both t) (known over t) (j.least (both, x.1) k.own k.above_first k.above_second t)
        (subst (λ v. IsBelow v (known over t)) (sym (known_joined x.0 y.0 same t)) (least_above (known x.0 t) (known y.0 t) (known over t) (first t) (second t)))

    bounded : (p : Place) (x : List Flat × List Flat) → Derivable Own IsBelowShared gives edges p x → IsRowBelow x.0 (bound p)
    bounded p x (least k z l) = least_below k z l
    bounded p x (flows m n z e d) = edge_below m n z.0 ((exact m n).0 e) (bounded (value_of m) z d)
    bounded p x (steps n y z d own g) = subst (λ (row : List Flat). IsRowBelow row (bound (value_of n))) (sym g) (out_below n y.0 (bounded (into n) y d))
    bounded p x (joins k y z v d e j) =
        joins_below y z v (bound k) (derivable_own Own IsBelowShared gives edges d) (derivable_own Own IsBelowShared gives edges e) j (bounded k y d) (bounded k z e)

  -- ---- the rows at the fronts

  module _ (ends inflows : List (List Flat × List Flat)) (solved : fix.IsSolution Own IsBelowShared gives (length f.blocks) edges ends) (each : length inflows ≡ length f.blocks)
      (joined_in : (n : ℕ) (row : List Flat × List Flat) → slice_get inflows n ≡ Some row → IsInflow Own IsBelowShared edges ends n row)
      (derived : (n : ℕ) (row : List Flat × List Flat) → slice_get inflows n ≡ Some row → Derivable Own IsBelowShared gives edges (into n) row) (some : 0 < length f.blocks) (own : List Flat) where
    abbrev many : List Flat × List Flat
    many = (replicate (count ps) Many, own)

    abbrev fronts : List (List Flat × List Flat)
    fronts = set inflows 0 many

    -- what is known of shared temporaries at the front of a block
    abbrev at_front : ℕ → List Flat
    at_front n = (row_at fronts n).0

    there : (n : ℕ) → n < length f.blocks → slice_get inflows n ≡ Some (row_at inflows n)
    there n lt = slice_get-get_or inflows n ([], []) (omega (arith, lt, each))

    end_there : (n : ℕ) → n < length f.blocks → slice_get ends n ≡ Some (row_at ends n)
    end_there n lt = let all : length ends ≡ length f.blocks = solved.each_node in slice_get-get_or ends n ([], []) (omega (arith, lt, all))

    inflow : (n : ℕ) → n < length f.blocks → IsInflow Own IsBelowShared edges ends n (row_at inflows n)
    inflow n lt = joined_in n (row_at inflows n) (there n lt)

    first_many : row_at fronts 0 ≡ many
    first_many = opened_first inflows many (omega (arith, some, each))

    opened : (n : ℕ) → at_front n ≡ entered (count ps) n (row_at inflows n).0
    opened zero = ap (λ (row : List Flat × List Flat). row.0) first_many
    opened (suc n) = ap (λ (row : List Flat × List Flat). row.0) (opened_on inflows many n) ∙ sym (entered_on (count ps) n (row_at inflows (suc n)).0)

    size : length fronts ≡ length f.blocks
    size = length-set inflows 0 many ∙ each

    -- seen of all temporaries
    abbrev rests : List (List Flat)
    rests = all_rested ps fronts

    rest_size : length rests ≡ length f.blocks
    rest_size = length-map fronts (λ (row : List Flat × List Flat). rested (places ps) row.0) ∙ size

    front_rest : (n : ℕ) → n < length f.blocks → front rests n ≡ rested (places ps) (at_front n)
    front_rest n lt = get_or-map (λ (row : List Flat × List Flat). rested (places ps) row.0) fronts n ([], []) [] (omega (arith, lt, size))

    front_past : (n : ℕ) → length f.blocks ≤ n → front rests n ≡ []
    front_past n ge = get_or_past rests n [] (let all = rest_size in omega (arith, ge, all))

    start_rest : (p : PlaceValue) → at_rest (replicate (count ps) Many) p ≡ Many
    start_rest place.Nowhere = refl
    start_rest (place.Own c j) = refl
    start_rest (place.Shared i) = all_many (count ps) i

    start : (t : ℕ) → known (front rests 0) t ≡ Many
    start t =
        ap (λ (row : List Flat). known row t) (front_rest 0 some ∙ ap (λ (row : List Flat × List Flat). rested (places ps) row.0) first_many)
        ∙ known_rested (places ps) (replicate (count ps) Many) t ∙ start_rest (place_of (places ps) t)

    -- what is known behind a block is at or below its value
    at_end : (b : ℕ) (block : Block) → slice_get f.blocks b ≡ Some block → (i : ℕ) → i < count ps
        → IsBelow (known (behind w.transfer (rested (places ps) (at_front b)) block.ops) (name ps i)) (known (row_at ends b).0 i)
    at_end b block is i low =
        let lt = slice_get_within f.blocks b block is in
        let x : List Flat × List Flat = row_at ends b in
        let step = solved.at_least_step b x (end_there b lt) in
        let y : List Flat × List Flat = step.1.inflow in
        let under : IsRowBelow (row_at inflows b).0 y.0 = (inflow b lt).least y step.1.joined.own step.1.joined.above in
        let above : IsRowBelow (at_front b) (entered (count ps) b y.0) =
        subst (λ (row : List Flat). IsRowBelow row (entered (count ps) b y.0)) (sym (opened b)) (entered_rises (count ps) b (row_at inflows b).0 y.0 under) in
        let higher : List Flat = rested (places ps) (entered (count ps) b y.0) in
        let out : step.0.0 ≡ taken (names ps) (behind w.transfer higher block.ops) = step.1.given ∙ ap (outflow_by w.transfer ps (entered (count ps) b y.0)) is in
        let up : IsRowBelow (behind w.transfer (rested (places ps) (at_front b)) block.ops) (behind w.transfer higher block.ops) =
        behind_rises w.transfer r (rested (places ps) (at_front b)) higher block.ops (rested_long (places ps) (at_front b) ∙ sym (rested_long (places ps) (entered (count ps) b y.0)))
        (rested_rises (places ps) (at_front b) (entered (count ps) b y.0) above) in
        below_through (known (behind w.transfer (rested (places ps) (at_front b)) block.ops) (name ps i)) (known (behind w.transfer higher block.ops) (name ps i)) (known x.0 i) (up (name ps i))
        (subst (λ z. IsBelow z (known x.0 i)) (ap (λ (row : List Flat). known row i) out ∙ known_taken (names ps) (behind w.transfer higher block.ops) i low) (step.2 i))

    -- and at or below what is known where it goes on
    on_shared : (b c : ℕ) (block : Block) → slice_get f.blocks b ≡ Some block → Contains (successors block.end) c → c < length f.blocks → (i : ℕ) → i < count ps
        → IsBelow (known (behind w.transfer (rested (places ps) (at_front b)) block.ops) (name ps i)) (known (at_front c) i)
    on_shared b zero block is next lt i low =
        subst (λ z. IsBelow (known (behind w.transfer (rested (places ps) (at_front b)) block.ops) (name ps i)) z)
        (sym (ap (λ (row : List Flat × List Flat). known row.0 i) first_many ∙ all_many (count ps) i))
        (below_many (known (behind w.transfer (rested (places ps) (at_front b)) block.ops) (name ps i)))
    on_shared b (suc c) block is next lt i low =
        subst (λ (row : List Flat × List Flat). IsBelow (known (behind w.transfer (rested (places ps) (at_front b)) block.ops) (name ps i)) (known row.0 i)) (sym (opened_on inflows many c))
        (below_through (known (behind w.transfer (rested (places ps) (at_front b)) block.ops) (name ps i)) (known (row_at ends b).0 i) (known (row_at inflows (suc c)).0 i) (at_end b block is i low)
        ((inflow (suc c) lt).above b (row_at ends b) ((exact b (suc c)).1 (block, is, next)) (end_there b (slice_get_within f.blocks b block is)) i))

    on_rest : (b c : ℕ) (block : Block) → slice_get f.blocks b ≡ Some block → Contains (successors block.end) c → c < length f.blocks
        → IsRowBelow (behind w.transfer (rested (places ps) (at_front b)) block.ops) (rested (places ps) (at_front c))
    on_rest b c block is next lt t =
        subst (λ z. IsBelow (known (behind w.transfer (rested (places ps) (at_front b)) block.ops) t) z) (sym (known_rested (places ps) (at_front c) t))
        (rest_other ps (at_front c) (place_of (places ps) t) (known (behind w.transfer (rested (places ps) (at_front b)) block.ops) t) (λ i at.
        let named = ps.are.given.named t i at in
        subst (λ (u : ℕ). IsBelow (known (behind w.transfer (rested (places ps) (at_front b)) block.ops) u) (known (at_front c) i)) named.1 (on_shared b c block is next lt i named.0)))

    onward : (b c : ℕ) (block : Block) → slice_get f.blocks b ≡ Some block → Contains (successors block.end) c → IsRowBelow (behind w.transfer (front rests b) block.ops) (front rests c)
    onward b c block is next =
        subst (λ (row : List Flat). IsRowBelow (behind w.transfer row block.ops) (front rests c)) (sym (front_rest b (slice_get_within f.blocks b block is)))
        (elim (cases_lt c (length f.blocks)) [
          | inl lt ↦ subst (λ (row : List Flat). IsRowBelow (behind w.transfer (rested (places ps) (at_front b)) block.ops) row) (sym (front_rest c lt)) (on_rest b c block is next lt)
          | inr ge ↦
              subst (λ (row : List Flat). IsRowBelow (behind w.transfer (rested (places ps) (at_front b)) block.ops) row) (sym (front_past c ge))
              (λ t. below_many (known (behind w.transfer (rested (places ps) (at_front b)) block.ops) t))
        ])

    rests_solve : IsSolution w.transfer f rests
    rests_solve = record {
      each_block = rest_size;
      each_temp = λ b lt. ap (λ (row : List Flat). length row) (front_rest b lt) ∙ rested_long (places ps) (at_front b) ∙ of.each;
      start = start;
      flows = onward;
    }

    -- of shared temporaries every solution has as much
    below_shared : (others : List (List Flat)) → IsSolution w.transfer f others → (b : ℕ) → b < length f.blocks → (i : ℕ) → i < count ps → IsBelow (known (at_front b) i) (known (front others b) (name ps i))
    below_shared others s zero lt i low = subst (λ z. IsBelow (known (at_front 0) i) z) (sym (s.start (name ps i))) (below_many (known (at_front 0) i))
    below_shared others s (suc b) lt i low =
        subst (λ (row : List Flat × List Flat). IsBelow (known row.0 i) (known (front others (suc b)) (name ps i))) (sym (opened_on inflows many b))
        (subst (λ z. IsBelow (known (row_at inflows (suc b)).0 i) z) (known_taken (names ps) (front others (suc b)) i low)
        (bounded others s (into (suc b)) (row_at inflows (suc b)) (derived (suc b) (row_at inflows (suc b)) (there (suc b) lt)) i))

    same_shared : (others : List (List Flat)) → IsLeastSolution w.transfer f others → (b t : ℕ) → b < length f.blocks → IsShared (places ps) t → known (front rests b) t ≡ known (front others b) t
    same_shared others l b t lt shared =
        let i : ℕ = shared.0 in
        let named = ps.are.given.named t i shared.1 in
        let here : known (front rests b) t ≡ known (at_front b) i = ap (λ (row : List Flat). known row t) (front_rest b lt) ∙ rest_of ps (at_front b) t i shared.1 in
        let low : IsBelow (known (at_front b) i) (known (front others b) t) = subst (λ (u : ℕ). IsBelow (known (at_front b) i) (known (front others b) u)) named.1 (below_shared others l.solution b lt i named.0) in
        same_flat (known (front rests b) t) (known (front others b) t) (subst (λ z. IsBelow z (known (front others b) t)) (sym here) low) (l.least rests rests_solve b t)

    pub fronts_known : AreFronts w.transfer ps f (set inflows 0 (replicate (length ps.names.items) Many, own))
    fronts_known =
        let l = least_exists w.transfer r f in
        record { each_block = size; least = l.0; known_least = l.1; same = λ b t lt shared. same_shared l.0 l.1 b t lt shared }

-- ---- over blocks that are those of the function

module _ (w : Rewriting) (r : Rises w.transfer) (reads : ReadsOperands w) (ps : Places) (f : FlowFn) (of : ArePlacesOf f ps.places.items) (may : ℕ → ℕ → Bool) (edges : List (ℕ × ℕ))
    (ends : List (List Flat × List Flat)) (some : 0 < length f.blocks) (own : List Flat) where
  abbrev Solves : List Block → Type 0
  Solves blocks =
      ((m n : ℕ) → HasEdge edges m n ↔ IsEdge blocks m n)
      → fix.IsSolution (IsOwn ps may) IsBelowShared (IsOutflow w.transfer ps blocks) (length blocks) edges ends
      → (inflows : List (List Flat × List Flat)) → length inflows ≡ length blocks
      → ((n : ℕ) (row : List Flat × List Flat) → slice_get inflows n ≡ Some row → IsInflow (IsOwn ps may) IsBelowShared edges ends n row)
      → ((n : ℕ) (row : List Flat × List Flat) → slice_get inflows n ≡ Some row → Derivable (IsOwn ps may) IsBelowShared (IsOutflow w.transfer ps blocks) edges (into n) row)
      → AreFronts w.transfer ps f (set inflows 0 (replicate (length ps.names.items) Many, own))

  own_solve : Solves f.blocks
  own_solve exact solved inflows each joined_in derived = fronts_known w r reads ps f of may edges exact ends inflows solved each joined_in derived some own

  pub solves : (blocks : List Block) → blocks ≡ f.blocks → Solves blocks
  solves blocks is = subst Solves (sym is) own_solve
