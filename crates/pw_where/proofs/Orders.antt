-- What a call shows is one: one order of the globals, which there is, and one value of each.
use Rattle.std.proofs.Common.{◌≡◌, ℕ, zero, suc, ◌+◌, ◌<◌, ◌≤◌, ◌⊎◌, not, Bool, true, false, cond, List, [], ◌∷◌, length, get_or, Result, Ok, Err, refl, sym, ap, subst, ◌∙◌, arith, inl, inr}
use Rattle.std.specs.Prelude.{filter, ◌&&◌}
use Rattle.std.specs.List.{AllByRecursion}
use Rattle.std.specs.List.Sorted.{IsPermutation, IsSortedBy, ties}
use Rattle.std.specs.Cmp.{IsStrictWeakOrder}
use Rattle.std.proofs.lemmas.List.Sorted.{IsPermutation-cons, IsPermutation-middle, IsPermutation-refl, IsPermutation-trans, sorted_far}
use Rattle.pw_object.specs.declared.object.Object.{Object}
use Rattle.pw_image.specs.declared.image.Image.{Image}
use Rattle.pw_image.specs.declared.image.Function.{Function}
use Rattle.pw_machine.specs.Core.{Core}
use Rattle.pw_debug.specs.declared.info.FrameInfo.{FrameInfo}
use Rattle.pw_debug.specs.Walk.{seen, start_of, WalksTo}
use Rattle.pw_where.specs.declared.shown.Shown.{Shown}
use Rattle.pw_where.specs.Calls.{of_modules}
use Rattle.pw_where.specs.Shown.{is_before, IsByName, call_line, value_line}
use Rattle.pw_where.specs.Looks.{Values, no_more, value_of, lost_of, Shows, behind, name_at}
use Rattle.pw_where.proofs.Lists.{by_name_ranks}
use Rattle.pw_where.proofs.Once.{one_end}

all_from : {X : Type 0} (P : X → Type 0) (xs : List X) → ((i : ℕ) (d : X) → i < length xs → P (get_or xs i d)) → AllByRecursion P xs
all_from P [] f = tt
all_from P (x ∷ xs) f = (f 0 x (omega arith), all_from P xs (λ i d low. f (suc i) d (omega (arith, low))))

first_not : (a b : Bool) → (not a && not b) ≡ true → a ≡ false
first_not true b e = absurd cc
first_not false b e = refl

second_not : (a b : Bool) → (not a && not b) ≡ true → b ≡ false
second_not true b e = absurd cc
second_not false true e = absurd cc
second_not false false e = refl

module _ {X : Type 0} (lt : X → X → Bool) (order : IsStrictWeakOrder lt) where
  abbrev IsUp : List X → Type 0
  IsUp [] = Unit {0}
  IsUp (x ∷ xs) = AllByRecursion (λ y. lt y x ≡ false) xs × IsUp xs

  itself : (x : X) → lt x x ≡ false
  itself x = by (lt x x) refl
    where
      by : (b : Bool) → lt x x ≡ b → lt x x ≡ false
      by true e = order.one_way x x e
      by false e = e

  tie : (x y : X) → lt x y ≡ false → lt y x ≡ false → ties lt x y ≡ true
  tie x y a b = rw (a, b) refl

  up : (xs : List X) → IsSortedBy lt xs → IsUp xs
  up [] s = tt
  up (x ∷ xs) s = (
    all_from (λ y. lt y x ≡ false) xs (λ i d low. sorted_far lt order (x ∷ xs) s 0 (suc i) d (omega arith) (omega (arith, low))),
    up xs (λ k d low high.
        let shift : suc k + 1 ≡ suc (k + 1) = omega arith in
        subst (λ n. lt (get_or (x ∷ xs) n d) (get_or xs k d) ≡ false) shift (s (suc k) d (omega arith) (omega (arith, high)))),
  )

  not_by : (x y z : X) (zs rest : List X) (w : X) (b : Bool) → ties lt x z ≡ b → (filter (ties lt x) zs ≡ w ∷ rest → lt x y ≡ false) → lt z y ≡ false → cond b (z ∷ filter (ties lt x) zs) (filter (ties lt x) zs) ≡ w ∷ rest → lt x y ≡ false
  not_by x y z zs rest w true t next h f = order.chain x z y (first_not (lt x z) (lt z x) t) h
  not_by x y z zs rest w false t next h f = next f

  -- something ties with x, and nothing is before y: so x is not before y
  not_before : (x y : X) (zs rest : List X) (w : X) → filter (ties lt x) zs ≡ w ∷ rest → AllByRecursion (λ z. lt z y ≡ false) zs → lt x y ≡ false
  not_before x y [] rest w e all = absurd cc
  not_before x y (z ∷ zs) rest w e all = not_by x y z zs rest w (ties lt x z) refl (λ f. not_before x y zs rest w f all.1) all.0 e

  tails : (b : Bool) (x y : X) (xs ys : List X) → x ≡ y → cond b (x ∷ xs) xs ≡ cond b (y ∷ ys) ys → xs ≡ ys
  tails true x y xs ys same e = cc
  tails false x y xs ys same e = e

  kept_head : (x : X) (xs : List X) → filter (ties lt x) (x ∷ xs) ≡ x ∷ filter (ties lt x) xs
  kept_head x xs = rw (tie x x (itself x) (itself x)) refl

  one_order : (xs ys : List X) → IsUp xs → IsUp ys → ((x : X) → filter (ties lt x) xs ≡ filter (ties lt x) ys) → xs ≡ ys
  one_order [] [] ux uy same = refl
  one_order [] (y ∷ ys) ux uy same = let e : [] ≡ y ∷ filter (ties lt y) ys = same y ∙ kept_head y ys in absurd cc
  one_order (x ∷ xs) [] ux uy same = let e : x ∷ filter (ties lt x) xs ≡ [] = sym (kept_head x xs) ∙ same x in absurd cc
  one_order (x ∷ xs) (y ∷ ys) ux uy same =
      let one : filter (ties lt x) (y ∷ ys) ≡ x ∷ filter (ties lt x) xs = sym (same x) ∙ kept_head x xs in
      let two : filter (ties lt y) (x ∷ xs) ≡ y ∷ filter (ties lt y) ys = same y ∙ kept_head y ys in
      let a = not_before x y (y ∷ ys) (filter (ties lt x) xs) x one (itself y, uy.0) in
      let b = not_before y x (x ∷ xs) (filter (ties lt y) ys) y two (itself x, ux.0) in
      let heads : y ∷ filter (ties lt x) ys ≡ x ∷ filter (ties lt x) xs = subst (λ (c : Bool). cond c (y ∷ filter (ties lt x) ys) (filter (ties lt x) ys) ≡ x ∷ filter (ties lt x) xs) (tie x y a b) one in
      let head : x ≡ y = cc in
      let rest : (z : X) → filter (ties lt z) xs ≡ filter (ties lt z) ys = λ z.
      tails (ties lt z x) x y (filter (ties lt z) xs) (filter (ties lt z) ys) head
      (subst (λ (w : X). cond (ties lt z x) (x ∷ filter (ties lt z) xs) (filter (ties lt z) xs) ≡ cond (ties lt z w) (y ∷ filter (ties lt z) ys) (filter (ties lt z) ys)) (sym head) (same z)) in
      let more = one_order xs ys ux.1 uy.1 rest in
      λ i. head i ∷ more i

  pub sorted_is_one : (xs ys : List X) → IsSortedBy lt xs → IsSortedBy lt ys → ((x : X) → filter (ties lt x) xs ≡ filter (ties lt x) ys) → xs ≡ ys
  sorted_is_one xs ys sx sy same = one_order xs ys (up xs sx) (up ys sy) same

  -- ---- there is one: a thing goes in front of the first that is not before it

  abbrev placed : X → List X → List X
  placed x [] = x ∷ []
  placed x (y ∷ ys) = cond (lt y x) (y ∷ placed x ys) (x ∷ y ∷ ys)

  abbrev pub in_order : List X → List X
  in_order [] = []
  in_order (x ∷ xs) = placed x (in_order xs)

  same_by : (b : Bool) (x y : X) (ys zs : List X) → IsPermutation (x ∷ ys) zs → IsPermutation (x ∷ y ∷ ys) (cond b (y ∷ zs) (x ∷ y ∷ ys))
  same_by true x y ys zs h = IsPermutation-trans _ _ _ (IsPermutation-middle (x ∷ []) y ys) (IsPermutation-cons y (x ∷ ys) zs h)
  same_by false x y ys zs h = IsPermutation-refl (x ∷ y ∷ ys)

  placed_same : (x : X) (ys : List X) → IsPermutation (x ∷ ys) (placed x ys)
  placed_same x [] = IsPermutation-refl (x ∷ [])
  placed_same x (y ∷ ys) = same_by (lt y x) x y ys (placed x ys) (placed_same x ys)

  pub order_same : (xs : List X) → IsPermutation xs (in_order xs)
  order_same [] = IsPermutation-refl []
  order_same (x ∷ xs) = IsPermutation-trans _ _ _ (IsPermutation-cons x xs (in_order xs) (order_same xs)) (placed_same x (in_order xs))

  all_by : (P : X → Type 0) (b : Bool) (x y : X) (ys zs : List X) → P x → AllByRecursion P (y ∷ ys) → AllByRecursion P zs → AllByRecursion P (cond b (y ∷ zs) (x ∷ y ∷ ys))
  all_by P true x y ys zs p all more = (all.0, more)
  all_by P false x y ys zs p all more = (p, all)

  all_placed : (P : X → Type 0) (x : X) (ys : List X) → P x → AllByRecursion P ys → AllByRecursion P (placed x ys)
  all_placed P x [] p all = (p, tt)
  all_placed P x (y ∷ ys) p all = all_by P (lt y x) x y ys (placed x ys) p all (all_placed P x ys p all.1)

  -- what is not before y, which is not before x, is not before x
  none_before : (x y : X) (ys : List X) → lt y x ≡ false → AllByRecursion (λ w. lt w y ≡ false) ys → AllByRecursion (λ w. lt w x ≡ false) ys
  none_before x y [] e all = tt
  none_before x y (w ∷ ws) e all = (order.chain w y x all.0 e, none_before x y ws e all.1)

  up_by : (b : Bool) (x y : X) (ys : List X) → lt y x ≡ b → IsUp (y ∷ ys) → IsUp (placed x ys) → IsUp (cond b (y ∷ placed x ys) (x ∷ y ∷ ys))
  up_by true x y ys e u v = (all_placed (λ w. lt w y ≡ false) x ys (order.one_way y x e) u.0, v)
  up_by false x y ys e u v = ((e, none_before x y ys e u.0), u)

  placed_up : (x : X) (ys : List X) → IsUp ys → IsUp (placed x ys)
  placed_up x [] u = (tt, tt)
  placed_up x (y ∷ ys) u = up_by (lt y x) x y ys refl u (placed_up x ys u.1)

  order_up : (xs : List X) → IsUp (in_order xs)
  order_up [] = tt
  order_up (x ∷ xs) = placed_up x (in_order xs) (order_up xs)

  rises : (x : X) (xs : List X) → AllByRecursion (λ y. lt y x ≡ false) xs → IsSortedBy lt xs → IsSortedBy lt (x ∷ xs)
  rises x [] all s = λ k d low high. absurd (omega (arith, high))
  rises x (y ∷ xs) all s = λ k d low high. at k d high
    where
      at : (k : ℕ) (d : X) → k + 1 < length (x ∷ y ∷ xs) → lt (get_or (x ∷ y ∷ xs) (k + 1) d) (get_or (x ∷ y ∷ xs) k d) ≡ false
      at zero d high = all.0
      at (suc k) d high =
          let shift : suc (k + 1) ≡ suc k + 1 = omega arith in
          subst (λ n. lt (get_or (x ∷ y ∷ xs) n d) (get_or (y ∷ xs) k d) ≡ false) shift (s k d (omega arith) (omega (arith, high)))

  up_sorted : (xs : List X) → IsUp xs → IsSortedBy lt xs
  up_sorted [] u = λ k d low high. absurd (omega (arith, high))
  up_sorted (x ∷ xs) u = rises x xs u.0 (up_sorted xs u.1)

  pub order_sorted : (xs : List X) → IsSortedBy lt (in_order xs)
  order_sorted xs = up_sorted (in_order xs) (order_up xs)

  -- those that tie keep their order
  moved : (c d : Bool) (x y : X) (zs : List X) → (c ≡ true → d ≡ true → ⊥) → cond d (y ∷ cond c (x ∷ zs) zs) (cond c (x ∷ zs) zs) ≡ cond c (x ∷ cond d (y ∷ zs) zs) (cond d (y ∷ zs) zs)
  moved true true x y zs apart = absurd (apart refl refl)
  moved true false x y zs apart = refl
  moved false true x y zs apart = refl
  moved false false x y zs apart = refl

  apart : (z x y : X) → lt y x ≡ true → ties lt z x ≡ true → ties lt z y ≡ true → ⊥
  apart z x y e c d =
      let f : lt y x ≡ false = order.chain y z x (second_not (lt z y) (lt y z) d) (first_not (lt z x) (lt x z) c) in
      cc

  stable_by : (z : X) (b : Bool) (x y : X) (ys : List X) → lt y x ≡ b → filter (ties lt z) (placed x ys) ≡ filter (ties lt z) (x ∷ ys) → filter (ties lt z) (cond b (y ∷ placed x ys) (x ∷ y ∷ ys)) ≡ filter (ties lt z) (x ∷ y ∷ ys)
  stable_by z true x y ys e h = ap (λ (zs : List X). cond (ties lt z y) (y ∷ zs) zs) h ∙ moved (ties lt z x) (ties lt z y) x y (filter (ties lt z) ys) (λ c d. apart z x y e c d)
  stable_by z false x y ys e h = refl

  placed_stable : (z x : X) (ys : List X) → filter (ties lt z) (placed x ys) ≡ filter (ties lt z) (x ∷ ys)
  placed_stable z x [] = refl
  placed_stable z x (y ∷ ys) = stable_by z (lt y x) x y ys refl (placed_stable z x ys)

  pub order_stable : (z : X) (xs : List X) → filter (ties lt z) (in_order xs) ≡ filter (ties lt z) xs
  order_stable z [] = refl
  order_stable z (x ∷ xs) = placed_stable z x (in_order xs) ∙ ap (λ (zs : List X). cond (ties lt z x) (x ∷ zs) zs) (order_stable z xs)

pub one_order_of_names : (shown a b : List Shown) → IsByName shown a → IsByName shown b → a ≡ b
one_order_of_names shown a b one other = sorted_is_one is_before by_name_ranks a b one.order other.order (λ x. one.stable x ∙ sym (other.stable x))

abbrev pub in_names : List Shown → List Shown
in_names shown = in_order is_before by_name_ranks shown

pub by_name : (shown : List Shown) → IsByName shown (in_names shown)
by_name shown = record { same = order_same is_before by_name_ranks shown; order = order_sorted is_before by_name_ranks shown; stable = λ z. order_stable is_before by_name_ranks z shown }

-- ---- values

module _ (functions : List Function) (frames : List FrameInfo) (core : Core) where
  abbrev Walk : Shown → Result ℕ ℕ → Type 0
  Walk g end = WalksTo (seen core.memory functions frames g.object g.number.kind) (start_of core) end

  record Line (g : Shown) (rest : List Shown) (out : Result (List ℕ) ℕ) : Type 0 where
    word : ℕ
    lines : Result (List ℕ) ℕ
    walk : Walk g (Ok word)
    behind_it : Values functions frames core rest lines
    is : out ≡ behind (value_line g word) lines

  record NoLine (g : Shown) (out : Result (List ℕ) ℕ) : Type 0 where
    address : ℕ
    walk : Walk g (Err address)
    is : out ≡ Err address

  abbrev Inside : List Shown → Result (List ℕ) ℕ → Type 0
  Inside [] out = out ≡ Ok []
  Inside (g ∷ rest) out = Line g rest out ⊎ NoLine g out

  inside : (gs : List Shown) (out : Result (List ℕ) ℕ) → Values functions frames core gs out → Inside gs out
  inside gs out no_more = refl
  inside gs out (value_of g rest word lines walk values) = inl (record { word = word; lines = lines; walk = walk; behind_it = values; is = refl })
  inside gs out (lost_of g rest address walk) = inr (record { address = address; walk = walk; is = refl })

  one_walk : (g : Shown) (a b : Result ℕ ℕ) → Walk g a → Walk g b → a ≡ b
  one_walk g a b one other = one_end (seen core.memory functions frames g.object g.number.kind) (start_of core) a b one other

  both : (g : Shown) (rest : List Shown) (a b : Result (List ℕ) ℕ) → ((c d : Result (List ℕ) ℕ) → Values functions frames core rest c → Values functions frames core rest d → c ≡ d) → Inside (g ∷ rest) a → Inside (g ∷ rest) b → a ≡ b
  both g rest a b same (inl p) (inl q) =
      let words : Ok p.word ≡ Ok q.word = one_walk g (Ok p.word) (Ok q.word) p.walk q.walk in
      let word : p.word ≡ q.word = cc in
      let lines = same p.lines q.lines p.behind_it q.behind_it in
      p.is ∙ ap (λ (n : ℕ). behind (value_line g n) p.lines) word ∙ ap (behind (value_line g q.word)) lines ∙ sym q.is
  both g rest a b same (inl p) (inr q) = let e : Ok p.word ≡ Err q.address = one_walk g (Ok p.word) (Err q.address) p.walk q.walk in absurd cc
  both g rest a b same (inr p) (inl q) = let e : Err p.address ≡ Ok q.word = one_walk g (Err p.address) (Ok q.word) p.walk q.walk in absurd cc
  both g rest a b same (inr p) (inr q) =
      let ends : Err p.address ≡ Err q.address = one_walk g (Err p.address) (Err q.address) p.walk q.walk in
      let address : p.address ≡ q.address = cc in
      let out : ℕ → Result (List ℕ) ℕ = λ n. Err n in
      p.is ∙ ap out address ∙ sym q.is

  pub one_list : (gs : List Shown) (a b : Result (List ℕ) ℕ) → Values functions frames core gs a → Values functions frames core gs b → a ≡ b
  one_list [] a b one other = inside [] a one ∙ sym (inside [] b other)
  one_list (g ∷ rest) a b one other = both g rest a b (λ c d. one_list rest c d) (inside (g ∷ rest) a one) (inside (g ∷ rest) b other)

pub one_sight : (image : Image) (objects : List Object) (frames : List FrameInfo) (k : ℕ) (core : Core) (a b : Result (List ℕ) ℕ) → Shows image objects frames k core a → Shows image objects frames k core b → a ≡ b
one_sight image objects frames k core a b one other =
    let order = one_order_of_names _ one.ordered other.ordered one.shown other.shown in
    let values = one_list image.functions frames core other.ordered one.values other.values (subst (λ (gs : List Shown). Values image.functions frames core gs one.values) order one.walks) other.walks in
    one.lines_are ∙ ap (behind (call_line k (name_at (of_modules objects image.functions) core.front))) values ∙ sym other.lines_are
