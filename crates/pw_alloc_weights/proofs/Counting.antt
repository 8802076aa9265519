-- Weights, use by use and operation by operation.
use Rattle.std.proofs.Common.{◌≡◌, ◌≢◌, ℕ, zero, suc, ◌+◌, ◌*◌, ◌^◌, ◌<◌, ◌≤◌, ◌==◌, Bool, true, false, cond, List, [], ◌∷◌, length, get_or, replicate, set, take, refl, sym, ap, subst, ◌∙◌, arith}
use Rattle.std.specs.Prelude.{if◌then◌else◌, min, nat_lt, Option, None, Some, slice_get, slice_index}
use Rattle.std.specs.List.{AllByRecursion, count_by, sum_by}
use Rattle.std.proofs.lemmas.Bool.{ltb-true, ltb-false, le-ltb, eqb-true, eq-eqb}
use Rattle.std.proofs.lemmas.List.{take_all, get_or-set_same, get_or-set_other}
use Rattle.std.proofs.lemmas.Option.{same_Some}
use Rattle.std.proofs.lemmas.List.Sums.{sum_by_more}
use Rattle.pw_flow.specs.Outline.{Act, Stretch, Outline}
use Rattle.pw_live.specs.Liveness.{is_that}
use Rattle.pw_alloc_temps.specs.Weights.{counted_in, depth_limit, weight_in, weight}

weighed : (b : Bool) (factor : ℕ) → (if b then factor else 0) ≡ factor * cond b 1 0
weighed true factor = let one : factor ≡ factor * 1 = omega arith in one
weighed false factor = let none : 0 ≡ factor * 0 = omega arith in none

-- one more of a list of temporaries
pub count_more : (ts : List ℕ) (k t u factor old cur new : ℕ) → k < length ts → get_or ts k t ≡ t
    → new ≡ cur + (if t == u then factor else 0)
    → cur ≡ old + factor * count_by (λ x. x == u) (take k ts)
    → new ≡ old + factor * count_by (λ x. x == u) (take (k + 1) ts)
count_more ts k t u factor old cur new lt is now before =
    let one = weighed (t == u) factor in
    let more : count_by (λ x. x == u) (take (k + 1) ts) ≡ count_by (λ x. x == u) (take k ts) + cond (t == u) 1 0 =
    sum_by_more (λ x. cond (x == u) 1 0) ts k t lt ∙ ap (λ (x : ℕ). count_by (λ y. y == u) (take k ts) + cond (x == u) 1 0) is in
    by (count_by (λ x. x == u) (take k ts)) (cond (t == u) 1 0) (count_by (λ x. x == u) (take (k + 1) ts)) (if t == u then factor else 0) before now more one
  where
    by : (a b c d : ℕ) → cur ≡ old + factor * a → new ≡ cur + d → c ≡ a + b → d ≡ factor * b → new ≡ old + factor * c
    by a b c d before now more one = grind arith

-- one more of a list, each with a count of its own
pub sum_more : {X : Type 0} (count : X → ℕ) (xs : List X) (k : ℕ) (x : X) (factor old cur new : ℕ) → k < length xs → get_or xs k x ≡ x
    → new ≡ cur + factor * count x
    → cur ≡ old + factor * sum_by count (take k xs)
    → new ≡ old + factor * sum_by count (take (k + 1) xs)
sum_more count xs k x factor old cur new lt is now before =
    let more : sum_by count (take (k + 1) xs) ≡ sum_by count (take k xs) + count x = sum_by_more count xs k x lt ∙ ap (λ y. sum_by count (take k xs) + count y) is in
    by (sum_by count (take k xs)) (count x) (sum_by count (take (k + 1) xs)) before now more
  where
    by : (a b c : ℕ) → cur ≡ old + factor * a → new ≡ cur + factor * b → c ≡ a + b → new ≡ old + factor * c
    by a b c before now more = grind arith

-- a list is counted
pub count_all : (ts : List ℕ) (k u factor old cur : ℕ) → length ts ≤ k → cur ≡ old + factor * count_by (λ x. x == u) (take k ts) → cur ≡ old + factor * count_by (λ x. x == u) ts
count_all ts k u factor old cur le is = is ∙ ap (λ (xs : List ℕ). old + factor * count_by (λ x. x == u) xs) (take_all k ts le)

pub count_none : (factor old : ℕ) → old ≡ old + factor * 0
count_none factor old = omega arith

-- ---- an operation

pub act_some : (a : Act) (t u factor old mid new : ℕ) → a.defines ≡ Some t
    → mid ≡ old + factor * count_by (λ x. x == u) a.uses
    → new ≡ mid + (if t == u then factor else 0)
    → new ≡ old + factor * counted_in u a
act_some a t u factor old mid new is uses now =
    let one = weighed (t == u) factor in
    let its : (if is_that a.defines u then 1 else 0) ≡ cond (t == u) 1 0 = ap (λ (o : Option ℕ). if is_that o u then 1 else 0) is in
    by (count_by (λ x. x == u) a.uses) (cond (t == u) 1 0) (if is_that a.defines u then 1 else 0) (if t == u then factor else 0) uses now its one
  where
    by : (a b c d : ℕ) → mid ≡ old + factor * a → new ≡ mid + d → c ≡ b → d ≡ factor * b → new ≡ old + factor * (a + c)
    by a b c d uses now its one = grind arith

pub act_none : (a : Act) (u factor old mid : ℕ) → a.defines ≡ None → mid ≡ old + factor * count_by (λ x. x == u) a.uses → mid ≡ old + factor * counted_in u a
act_none a u factor old mid is uses =
    let its : (if is_that a.defines u then 1 else 0) ≡ 0 = ap (λ (o : Option ℕ). if is_that o u then 1 else 0) is in
    by (count_by (λ x. x == u) a.uses) (if is_that a.defines u then 1 else 0) uses its
  where
    by : (a c : ℕ) → mid ≡ old + factor * a → c ≡ 0 → mid ≡ old + factor * (a + c)
    by a c uses its = grind arith

-- ---- a block

pub block_all : (s : Stretch) (k u factor old cur new : ℕ) → length s.acts ≤ k → factor ≡ 8 ^ (min depth_limit s.depth)
    → cur ≡ old + factor * sum_by (counted_in u) (take k s.acts)
    → new ≡ cur + factor * count_by (λ x. x == u) s.uses
    → new ≡ old + weight_in u s
block_all s k u factor old cur new le is acts uses =
    let all : sum_by (counted_in u) (take k s.acts) ≡ sum_by (counted_in u) s.acts = ap (sum_by (counted_in u)) (take_all k s.acts le) in
    by (sum_by (counted_in u) (take k s.acts)) (sum_by (counted_in u) s.acts) (count_by (λ x. x == u) s.uses) acts uses all
    ∙ ap (λ (n : ℕ). old + n * (sum_by (counted_in u) s.acts + count_by (λ x. x == u) s.uses)) is
  where
    by : (a b c : ℕ) → cur ≡ old + factor * a → new ≡ cur + factor * c → a ≡ b → new ≡ old + factor * (b + c)
    by a b c acts uses all = grind arith

-- ---- a function

pub blocks_more : (blocks : List Stretch) (k : ℕ) (s : Stretch) (u cur new : ℕ) → k < length blocks → get_or blocks k s ≡ s
    → new ≡ cur + weight_in u s → cur ≡ sum_by (weight_in u) (take k blocks) → new ≡ sum_by (weight_in u) (take (k + 1) blocks)
blocks_more blocks k s u cur new lt is now before =
    let more : sum_by (weight_in u) (take (k + 1) blocks) ≡ sum_by (weight_in u) (take k blocks) + weight_in u s =
    sum_by_more (weight_in u) blocks k s lt ∙ ap (λ (x : Stretch). sum_by (weight_in u) (take k blocks) + weight_in u x) is in
    omega (arith, now, before, more)

pub blocks_all : (blocks : List Stretch) (k u cur : ℕ) → length blocks ≤ k → cur ≡ sum_by (weight_in u) (take k blocks) → cur ≡ sum_by (weight_in u) blocks + (if nat_lt u 0 then 1 else 0)
blocks_all blocks k u cur le is =
    let all : sum_by (weight_in u) (take k blocks) ≡ sum_by (weight_in u) blocks = ap (sum_by (weight_in u)) (take_all k blocks le) in
    let none : ◌≡◌ {A = ℕ} (if nat_lt u 0 then 1 else 0) 0 = ap (λ (b : Bool). if b then 1 else 0) (le-ltb u 0 (omega arith)) in
    omega (arith, is, all, none)

-- one more parameter
pub params_more : (sum u t cur new : ℕ) → new ≡ cur + (if t == u then 1 else 0) → cur ≡ sum + (if nat_lt u t then 1 else 0) → new ≡ sum + (if nat_lt u (t + 1) then 1 else 0)
params_more sum u t cur new now before = by (t == u) (nat_lt u t) (nat_lt u (t + 1)) refl refl refl now before
  where
    by : (same old more : Bool) → (t == u) ≡ same → nat_lt u t ≡ old → nat_lt u (t + 1) ≡ more
        → new ≡ cur + (if same then 1 else 0) → cur ≡ sum + (if old then 1 else 0) → new ≡ sum + (if more then 1 else 0)
    by true true more s o m now before = absurd (let e = eqb-true t u s in let lt = ltb-true u t o in omega (arith, e, lt))
    by true false true s o m now before = omega (arith, now, before)
    by true false false s o m now before = absurd (let e = eqb-true t u s in let le = ltb-false u (t + 1) m in omega (arith, e, le))
    by false true true s o m now before = omega (arith, now, before)
    by false true false s o m now before = absurd (let lt = ltb-true u t o in let le = ltb-false u (t + 1) m in omega (arith, lt, le))
    by false false true s o m now before = absurd (let le = ltb-false u t o in let lt = ltb-true u (t + 1) m in let e : t ≡ u = omega (arith, le, lt) in let yes_it_is = eq-eqb t u e in cc)
    by false false false s o m now before = omega (arith, now, before)

pub weight_at : (f : Outline) (u t cur : ℕ) → f.params ≤ t → t ≤ f.params → cur ≡ sum_by (weight_in u) f.blocks + (if nat_lt u t then 1 else 0) → cur ≡ weight f u
weight_at f u t cur low high is = is ∙ ap (λ (n : ℕ). sum_by (weight_in u) f.blocks + (if nat_lt u n then 1 else 0)) (omega (arith, low, high))

-- ---- places

pub counted_set : (ws : List ℕ) (t u factor sum : ℕ) → t < length ws → sum ≡ slice_index ws t + factor → slice_index (set ws t sum) u ≡ slice_index ws u + (if t == u then factor else 0)
counted_set ws t u factor sum lt is = by (t == u) refl
  where
    by : (b : Bool) → (t == u) ≡ b → slice_index (set ws t sum) u ≡ slice_index ws u + (if b then factor else 0)
    by true e =
        let same : t ≡ u = eqb-true t u e in
        ap (λ (n : ℕ). slice_index (set ws t sum) n) (sym same) ∙ get_or-set_same ws t sum 0 lt ∙ is ∙ ap (λ (n : ℕ). slice_index ws n + factor) same
    by false e =
        let apart : u ≢ t = λ same. let yes_it_is : (t == u) ≡ true = eq-eqb t u (sym same) in cc in
        let kept : slice_index (set ws t sum) u ≡ slice_index ws u = get_or-set_other ws t u sum 0 apart in
        omega (arith, kept)

pub each_at : {X : Type 0} (P : X → Type 0) (xs : List X) (k : ℕ) (x : X) → AllByRecursion P xs → slice_get xs k ≡ Some x → P x
each_at P [] k x all e = absurd cc
each_at P (y ∷ ys) zero x all e = subst P (same_Some y x e) all.0
each_at P (y ∷ ys) (suc k) x all e = each_at P ys k x all.1 e

pub zeros : (n u : ℕ) → slice_index (replicate n 0) u ≡ 0
zeros zero u = refl
zeros (suc n) zero = refl
zeros (suc n) (suc u) = zeros n u
