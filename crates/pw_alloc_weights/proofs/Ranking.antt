-- A stable sort of temporaries by weight gives their order by weight and number.
use Rattle.std.proofs.Common.{◌≡◌, ◌⊎◌, ℕ, zero, suc, ◌+◌, ◌<◌, ◌≤◌, Bool, true, false, cond, List, [], ◌∷◌, ◌++◌, length, get_or, map, take, refl, sym, ap, subst, ◌∙◌, arith, inl, inr}
use Rattle.std.specs.Prelude.{if◌then◌else◌, nat_lt, not, ◌&&◌, slice_index, filter}
use Rattle.std.specs.List.{AllByRecursion}
use Rattle.std.specs.List.Sorted.{IsPermutation, IsSortedBy, IsStableBy, ties}
use Rattle.std.specs.Cmp.{IsStrictWeakOrder}
use Rattle.std.specs.Ordering.{nat_cmp, is_lt}
use Rattle.std.proofs.lemmas.Bool.{cases_eq}
use Rattle.std.proofs.lemmas.Cmp.{nat_cmp_total, ranked, by_ranked, tied_itself, tied_back}
use Rattle.std.proofs.lemmas.List.{take_more, length-take-le}
use Rattle.std.proofs.lemmas.List.Sorted.{ranks_by, IsStrictWeakOrder-flip, sorted_far, IsPermutation-sym, Contains-permutation}
use Rattle.pw_files.proofs.Standing.{Has, has_by, has_each, each_by, contains_by, has_map, has_map_back}
use Rattle.pw_db.specs.Database.{EachTwo}
use Rattle.pw_flow.specs.Outline.{Outline}
use Rattle.pw_alloc_temps.specs.Weights.{weight, put_by_weight, by_weight}
use Rattle.pw_alloc_weights.specs.Ordering.{numbered, ComesFirst, Rises}
use Rattle.pw_alloc_weights.specs.declared.order.Weighed.{Weighed}
use Rattle.pw_alloc_weights.proofs.Sorting.{Before, has_between, in_order, one_order}

-- ---- what a filter keeps in order

each_if : {X : Type 0} (P : X → Type 0) (b : Bool) (x : X) (ys : List X) → P x → AllByRecursion P ys → AllByRecursion P (cond b (x ∷ ys) ys)
each_if P true x ys h all = (h, all)
each_if P false x ys h all = all

pub each_filter : {X : Type 0} (P : X → Type 0) (p : X → Bool) (xs : List X) → AllByRecursion P xs → AllByRecursion P (filter p xs)
each_filter P p [] all = tt
each_filter P p (x ∷ xs) all = each_if P (p x) x (filter p xs) all.0 (each_filter P p xs all.1)

two_if : {X : Type 0} (R : X → X → Type 0) (b : Bool) (x : X) (ys : List X) → AllByRecursion (R x) ys → EachTwo R ys → EachTwo R (cond b (x ∷ ys) ys)
two_if R true x ys h all = (h, all)
two_if R false x ys h all = all

pub two_filter : {X : Type 0} (R : X → X → Type 0) (p : X → Bool) (xs : List X) → EachTwo R xs → EachTwo R (filter p xs)
two_filter R p [] all = tt
two_filter R p (x ∷ xs) all = two_if R (p x) x (filter p xs) (each_filter (R x) p xs all.0) (two_filter R p xs all.1)

two_tail : {X : Type 0} (R : X → X → Type 0) (b : Bool) (x : X) (ys : List X) → EachTwo R (cond b (x ∷ ys) ys) → EachTwo R ys
two_tail R true x ys all = all.1
two_tail R false x ys all = all

two_head : {X : Type 0} (R : X → X → Type 0) (b : Bool) (x : X) (ys : List X) → b ≡ true → EachTwo R (cond b (x ∷ ys) ys) → AllByRecursion (R x) ys
two_head R true x ys e all = all.0
two_head R false x ys e all = absurd cc

first_kept : {X : Type 0} (b : Bool) (y x : X) (ys : List X) → b ≡ true → y ≡ x → Has x (cond b (y ∷ ys) ys)
first_kept true y x ys e same = inl same
first_kept false y x ys e same = absurd cc

later_kept : {X : Type 0} (b : Bool) (y x : X) (ys : List X) → Has x ys → Has x (cond b (y ∷ ys) ys)
later_kept true y x ys h = inr h
later_kept false y x ys h = h

pub has_kept : {X : Type 0} (p : X → Bool) (xs : List X) (x : X) → Has x xs → p x ≡ true → Has x (filter p xs)
has_kept p [] x h e = absurd h
has_kept p (y ∷ ys) x (inl same) e = first_kept (p y) y x (filter p ys) (ap p same ∙ e) same
has_kept p (y ∷ ys) x (inr h) e = later_kept (p y) y x (filter p ys) (has_kept p ys x h e)

-- ---- the sort

abbrev pub weighs_more : Weighed → Weighed → Bool
weighs_more x y = is_lt (nat_cmp y.weight x.weight)

pub is_order : IsStrictWeakOrder weighs_more
is_order = IsStrictWeakOrder-flip (λ (x y : Weighed). is_lt (nat_cmp x.weight y.weight)) (ranks_by nat_cmp_total (λ (w : Weighed). w.weight))

neither : (a b : Bool) → a ≡ false → b ≡ false → (not a && not b) ≡ true
neither true b x y = absurd cc
neither false true x y = absurd cc
neither false false x y = refl

comes_first : (y z : Weighed) (ys : List Weighed) → Has z ys → weighs_more z y ≡ false → EachTwo Rises (filter (ties weighs_more y) (y ∷ ys)) → ComesFirst y z
comes_first y z ys h up two =
    by_ranked (y.weight < z.weight) (y.weight ≡ z.weight) (z.weight < y.weight) (nat_cmp y.weight z.weight) (ranked y.weight z.weight (nat_cmp y.weight z.weight) refl)
    (λ e lt. absurd (let more = ap is_lt e in cc))
    (λ e same.
    let itself : ties weighs_more y y ≡ true = let t = ap is_lt (tied_itself nat_cmp_total y.weight) in neither (weighs_more y y) (weighs_more y y) t t in
    let other : ties weighs_more y z ≡ true = neither (weighs_more y z) (weighs_more z y) (ap is_lt (tied_back nat_cmp_total y.weight z.weight e)) (ap is_lt e) in
    inr (same, has_each (Rises y) (filter (ties weighs_more y) ys) z (two_head Rises (ties weighs_more y y) y (filter (ties weighs_more y) ys) itself two) (has_kept (ties weighs_more y) ys z h other)))
    (λ e lt. inl lt)

ranked_order : (ys : List Weighed) → IsSortedBy weighs_more ys → ((x : Weighed) → EachTwo Rises (filter (ties weighs_more x) ys)) → EachTwo ComesFirst ys
ranked_order [] up two = tt
ranked_order (y ∷ ys) up two = (
  each_by (ComesFirst y) ys (λ z h.
      let c = contains_by z ys h in
      let lt : suc c.0 < length (y ∷ ys) = let low = c.1 in omega (arith, low) in
      let far = sorted_far weighs_more is_order (y ∷ ys) up 0 (suc c.0) z (omega arith) lt in
      comes_first y z ys h (subst (λ (x : Weighed). weighs_more x y ≡ false) c.2 far) (two y)),
  ranked_order ys
      (λ k d low high. let shift : suc k + 1 ≡ suc (k + 1) = omega arith in
      subst (λ n. weighs_more (get_or (y ∷ ys) n d) (get_or ys k d) ≡ false) shift (up (suc k) d (omega arith) (omega (arith, high))))
      (λ x. two_tail Rises (ties weighs_more x y) y (filter (ties weighs_more x) ys) (two x)),
)

pub sorted_order : (xs ys : List Weighed) → EachTwo Rises xs → IsSortedBy weighs_more ys → IsStableBy weighs_more xs ys → EachTwo ComesFirst ys
sorted_order xs ys two up stable = ranked_order ys up (λ x. subst (EachTwo Rises) (sym (stable x)) (two_filter Rises (ties weighs_more x) xs two))

-- ---- by number

pub numbered_more : (t : ℕ) (ws : List ℕ) (w : ℕ) → numbered t (ws ++ w ∷ []) ≡ numbered t ws ++ (record { temp = t + length ws; weight = w }) ∷ []
numbered_more t [] w = let z : t ≡ t + 0 = omega arith in ap (λ (n : ℕ). (record { temp = n; weight = w }) ∷ []) z
numbered_more t (x ∷ ws) w =
    let s : suc t + length ws ≡ t + suc (length ws) = omega arith in
    ap (λ (rest : List Weighed). (record { temp = t; weight = x }) ∷ rest) (numbered_more (suc t) ws w ∙ ap (λ (n : ℕ). numbered (suc t) ws ++ (record { temp = n; weight = w }) ∷ []) s)

pub numbered_next : (ws : List ℕ) (k w : ℕ) (cur new : List Weighed) → k < length ws → w ≡ get_or ws k w → new ≡ cur ++ (record { temp = k; weight = w }) ∷ [] → cur ≡ numbered 0 (take k ws) → new ≡ numbered 0 (take (k + 1) ws)
numbered_next ws k w cur new lt is now before =
    let many = length-take-le k ws (omega (arith, lt)) in
    let some : 0 + length (take k ws) ≡ k = omega (arith, many) in
    let more : numbered 0 (take (k + 1) ws) ≡ numbered 0 (take k ws) ++ (record { temp = k; weight = w }) ∷ [] =
    ap (numbered 0) (take_more ws k w lt ∙ ap (λ (x : ℕ). take k ws ++ x ∷ []) (sym is)) ∙ numbered_more 0 (take k ws) w
    ∙ ap (λ (n : ℕ). numbered 0 (take k ws) ++ (record { temp = n; weight = w }) ∷ []) some in
    now ∙ ap (λ (xs : List Weighed). xs ++ (record { temp = k; weight = w }) ∷ []) before ∙ sym more

numbered_between : (t : ℕ) (ws : List ℕ) (w : Weighed) → Has w (numbered t ws) → (t ≤ w.temp) × (w.temp < t + length ws)
numbered_between t [] w h = absurd h
numbered_between t (x ∷ ws) w (inl e) = let same : t ≡ w.temp = ap (λ (v : Weighed). v.temp) e in (omega (arith, same), omega (arith, same))
numbered_between t (x ∷ ws) w (inr h) = let b = numbered_between (suc t) ws w h in let low = b.0 in let high = b.1 in (omega (arith, low), omega (arith, high))

pub numbered_rises : (t : ℕ) (ws : List ℕ) → EachTwo Rises (numbered t ws)
numbered_rises t [] = tt
numbered_rises t (x ∷ ws) = (
  each_by (Rises (record { temp = t; weight = x })) (numbered (suc t) ws) (λ w h. let b = numbered_between (suc t) ws w h in let low = b.0 in omega (arith, low)),
  numbered_rises (suc t) ws,
)

numbered_there : (t : ℕ) (ws : List ℕ) (k : ℕ) → k < length ws → (w : Weighed) × Has w (numbered t ws) × (w.temp ≡ t + k)
numbered_there t [] k lt = absurd (omega (arith, lt))
numbered_there t (x ∷ ws) zero lt = (record { temp = t; weight = x }, inl refl, omega arith)
numbered_there t (x ∷ ws) (suc k) lt = let r = numbered_there (suc t) ws k (omega (arith, lt)) in (r.0, inr r.1, (let is = r.2 in omega (arith, is)))

abbrev IsWeighed : Outline → Weighed → Type 0
IsWeighed f w = w.weight ≡ weight f w.temp

numbered_weighed : (f : Outline) (t : ℕ) (ws : List ℕ) → ((k : ℕ) → k < length ws → slice_index ws k ≡ weight f (t + k)) → AllByRecursion (IsWeighed f) (numbered t ws)
numbered_weighed f t [] all = tt
numbered_weighed f t (x ∷ ws) all = (
  (let z : t + 0 ≡ t = omega arith in all 0 (omega arith) ∙ ap (weight f) z),
  numbered_weighed f (suc t) ws (λ k lt. let s : t + suc k ≡ suc t + k = omega arith in all (suc k) (omega (arith, lt)) ∙ ap (weight f) s),
)

-- ---- all stand in the order

put_there : (f : Outline) (t : ℕ) (b : Bool) (u : ℕ) (rest : List ℕ) (x : ℕ) → ((t ≡ x) ⊎ Has x rest → Has x (put_by_weight f t rest))
    → (t ≡ x) ⊎ Has x (u ∷ rest) → Has x (if b then u ∷ put_by_weight f t rest else t ∷ u ∷ rest)
put_there f t true u rest x later (inl e) = inr (later (inl e))
put_there f t true u rest x later (inr (inl e)) = inl e
put_there f t true u rest x later (inr (inr h)) = inr (later (inr h))
put_there f t false u rest x later (inl e) = inl e
put_there f t false u rest x later (inr h) = inr h

put_all : (f : Outline) (t : ℕ) (xs : List ℕ) (x : ℕ) → (t ≡ x) ⊎ Has x xs → Has x (put_by_weight f t xs)
put_all f t [] x (inl e) = inl e
put_all f t [] x (inr h) = absurd h
put_all f t (u ∷ rest) x h = put_there f t (nat_lt (weight f t) (weight f u)) u rest x (put_all f t rest x) h

all_there : (f : Outline) (i more x : ℕ) → i ≤ x → x < i + more → Has x (by_weight f i more)
all_there f i zero x low high = absurd (omega (arith, low, high))
all_there f i (suc more) x low high = put_all f i (by_weight f (suc i) more) x (elim (cases_eq i x) [
  | inl e ↦ inl e
  | inr other ↦ inr (all_there f (suc i) more x (omega (arith, low, other)) (omega (arith, high)))
])

-- ---- together

two_temps : (f : Outline) (v : List Weighed) → ((w : Weighed) → Has w v → IsWeighed f w) → EachTwo ComesFirst v → EachTwo (Before f) (map (λ (w : Weighed). w.temp) v)
two_temps f [] all two = tt
two_temps f (x ∷ v) all two = (
  each_by (Before f x.temp) (map (λ (w : Weighed). w.temp) v) (λ t h.
      let w = has_map_back (λ (w : Weighed). w.temp) t v h in
      let one : x.weight ≡ weight f x.temp = all x (inl refl) in
      let other : w.0.weight ≡ weight f w.0.temp = all w.0 (inr w.1) in
      subst (Before f x.temp) w.2 (before x w.0 one other (has_each (ComesFirst x) v w.0 two.0 w.1))),
  two_temps f v (λ w h. all w (inr h)) two.1,
)
  where
    before : (a b : Weighed) → a.weight ≡ weight f a.temp → b.weight ≡ weight f b.temp → ComesFirst a b → Before f a.temp b.temp
    before a b one other (inl lt) = inl (omega (arith, one, other, lt))
    before a b one other (inr h) = let same = h.0 in inr (omega (arith, one, other, same), h.1)

pub order_is : (f : Outline) (ws : List ℕ) (v : List Weighed) → length ws ≡ f.temps → ((t : ℕ) → t < f.temps → slice_index ws t ≡ weight f t)
    → IsPermutation (numbered 0 ws) v → EachTwo ComesFirst v → map (λ (w : Weighed). w.temp) v ≡ by_weight f 0 f.temps
order_is f ws v long each moved two =
    let all = numbered 0 ws in
    let came = λ (w : Weighed) (h : Has w v). has_by w all (Contains-permutation v all w (IsPermutation-sym all v moved) (contains_by w v h)) in
    let weighed = numbered_weighed f 0 ws (λ k lt. let z : 0 + k ≡ k = omega arith in each k (omega (arith, lt, long)) ∙ ap (weight f) (sym z)) in
    one_order f (map (λ (w : Weighed). w.temp) v) (by_weight f 0 f.temps)
    (two_temps f v (λ w h. has_each (IsWeighed f) all w weighed (came w h)) two)
    (in_order f 0 f.temps)
    (λ t h.
    let w = has_map_back (λ (w : Weighed). w.temp) t v h in
    let b = numbered_between 0 ws w.0 (came w.0 w.1) in
    let high = b.1 in
    let is = w.2 in
    all_there f 0 f.temps t (omega arith) (omega (arith, high, is, long)))
    (λ t h.
    let b = has_between f 0 f.temps t h in
    let high = b.1 in
    let w = numbered_there 0 ws t (omega (arith, high, long)) in
    let there = has_by w.0 v (Contains-permutation all v w.0 moved (contains_by w.0 all w.1)) in
    let is : w.0.temp ≡ t = let at = w.2 in omega (arith, at) in
    subst (λ (n : ℕ). Has n (map (λ (w : Weighed). w.temp) v)) is (has_map (λ (w : Weighed). w.temp) w.0 v there))
