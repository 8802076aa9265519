-- The labels of the parts of a part, and the blocks that lie behind them.
use Rattle.std.proofs.Common.{◌≡◌, ◌≢◌, ℕ, zero, suc, ◌+◌, ◌<◌, ◌≤◌, ◌==◌, Bool, true, false, true≢false, nat_eq, Contains, ◌⊎◌, inl, inr, Some, List, [], ◌∷◌, ◌++◌, map, length, slice_get, refl, ap, sym, subst, ◌∙◌, arith, append_assoc, length-append}
use Rattle.std.specs.Prelude.{All, filter, cond, slice_index_or}
use Rattle.std.specs.List.{AllByRecursion, IsDistinct}
use Rattle.std.proofs.lemmas.Option.{slice_get_read, slice_get_within, get_or_from_slice_get}
use Rattle.std.proofs.lemmas.List.Elements.{recursion_from_All, All-from_recursion, All-contains, Contains-append_left, Contains-append_right, Contains-append_cases, filter-append}
use Rattle.std.proofs.lemmas.Map.Keys.{IsDistinct-head, IsDistinct-tail, IsDistinct-cons}
use Rattle.pw_lower.specs.declared.code.Code.{Code}
use Rattle.pw_lower.specs.Codes.{block_of_label}
use Rattle.pw_cmean.specs.Execution.{holds}
use Rattle.pw_law_refine_steps.specs.FromLawRefine.Activations.{Activation}
use Rattle.pw_law_refine_steps.specs.FromLawRefine.Statements.{IsOpen, AreLabelled, LieBehind}
use Rattle.pw_law_refine_code.specs.Ending.{IsAtLastLabel, Ends, KeepLabels}
use Rattle.pw_law_refine_code.specs.Behind.{named_blocks}
use Rattle.pw_law_refine_code.proofs.Totals.{look, holds-append, holds-contained, contained-held}
use Rattle.pw_law_refine_code.proofs.Opening.{Apart, split, neither}

-- ---- lists

abbrev pub Among : (own cased : List ℕ) → Type 0
Among own cased = AllByRecursion (λ k. holds own k ≡ true) cased

pub among-contains : (own cased : List ℕ) (l : ℕ) → Among own cased → Contains cased l → Contains own l
among-contains own cased l h w =
    contained-held own l (All-contains (λ k. holds own k ≡ true) cased l (All-from_recursion (λ k. holds own k ≡ true) cased h) w)

pub apart-contains : (xs ys : List ℕ) (l : ℕ) → Apart xs ys → Contains xs l → Contains ys l → ⊥
apart-contains xs ys l h v w =
    true≢false (sym (holds-contained ys l w) ∙ All-contains (λ k. holds ys k ≡ false) xs l (All-from_recursion (λ k. holds ys k ≡ false) xs h) v)

differs : (a b : ℕ) → (a == b) ≡ false → nat_eq b a ≡ false
differs a b e = grind (arith, e)

differs-all : (ys : List ℕ) (x : ℕ) → holds ys x ≡ false → AllByRecursion (λ y. nat_eq x y ≡ false) ys
differs-all [] x h = tt
differs-all (y ∷ ys) x h = let two = neither (y == x) (holds ys x) h in (differs y x two.0, differs-all ys x two.1)

all-both : (P : ℕ → Type 0) (xs ys : List ℕ) → AllByRecursion P xs → AllByRecursion P ys → AllByRecursion P (xs ++ ys)
all-both P [] ys g h = h
all-both P (x ∷ xs) ys g h = (g.0, all-both P xs ys g.1 h)

distinct-both : (xs ys : List ℕ) → IsDistinct nat_eq xs → IsDistinct nat_eq ys → Apart xs ys → IsDistinct nat_eq (xs ++ ys)
distinct-both [] ys g h a = h
distinct-both (x ∷ xs) ys g h a =
    IsDistinct-cons nat_eq x (xs ++ ys)
    (all-both (λ y. nat_eq x y ≡ false) xs ys (IsDistinct-head nat_eq x xs g) (differs-all ys x a.0))
    (distinct-both xs ys (IsDistinct-tail nat_eq x xs g) h a.1)

apart-second : (xs ys zs : List ℕ) → Apart xs (ys ++ zs) → Apart xs zs
apart-second [] ys zs h = tt
apart-second (x ∷ xs) ys zs h = ((neither (holds ys x) (holds zs x) (sym (holds-append ys zs x) ∙ h.0)).1, apart-second xs ys zs h.1)

-- without the middle of three
pub distinct-ends : (xs ys zs : List ℕ) → IsDistinct nat_eq (xs ++ (ys ++ zs)) → IsDistinct nat_eq (xs ++ zs)
distinct-ends xs ys zs h =
    let d = split xs (ys ++ zs) h in
    distinct-both xs zs d.0 (split ys zs d.1).1 (apart-second xs ys zs d.2)

-- without the last of three
pub distinct-front : (xs ys zs : List ℕ) → IsDistinct nat_eq (xs ++ (ys ++ zs)) → IsDistinct nat_eq (xs ++ ys)
distinct-front xs ys zs h =
    (split (xs ++ ys) zs (subst (λ (ls : List ℕ). IsDistinct nat_eq ls) (sym (append_assoc xs ys zs)) h)).0

all-first : (P : ℕ → Type 0) (xs ys : List ℕ) → All P (xs ++ ys) → All P xs
all-first P xs ys h = All-from_recursion P xs (front xs (recursion_from_All P (xs ++ ys) h))
  where
    front : (us : List ℕ) → AllByRecursion P (us ++ ys) → AllByRecursion P us
    front [] g = tt
    front (u ∷ us) g = (g.0, front us g.1)

all-second : (P : ℕ → Type 0) (xs ys : List ℕ) → All P (xs ++ ys) → All P ys
all-second P xs ys h = All-from_recursion P ys (back xs (recursion_from_All P (xs ++ ys) h))
  where
    back : (us : List ℕ) → AllByRecursion P (us ++ ys) → AllByRecursion P ys
    back [] g = g
    back (u ∷ us) g = back us g.1

-- ---- places in a list

get-front : (xs ys : List ℕ) (i : ℕ) → i < length xs → slice_get (xs ++ ys) i ≡ slice_get xs i
get-front [] ys i h = absurd (omega arith)
get-front (x ∷ xs) ys zero h = refl
get-front (x ∷ xs) ys (suc i) h = get-front xs ys i (omega arith)

get-behind : (xs ys : List ℕ) (i j : ℕ) → j ≡ length xs + i → slice_get (xs ++ ys) j ≡ slice_get ys i
get-behind [] ys i j e = ap (λ (n : ℕ). slice_get ys n) (let is : j ≡ i = omega arith in is)
get-behind (x ∷ xs) ys i zero e = absurd (omega arith)
get-behind (x ∷ xs) ys i (suc j) e = get-behind xs ys i j (omega arith)

-- what stands in a middle part, with its place
record StandsAtPlace (all : List ℕ) (first count k : ℕ) : Type 0 where
  place : ℕ
  from : first ≤ place
  below : place < first + count
  there : slice_get all place ≡ Some k

in-middle : (xs ys zs : List ℕ) (k : ℕ) → Contains ys k → StandsAtPlace (xs ++ (ys ++ zs)) (length xs) (length ys) k
in-middle xs ys zs k w = record {
  place = length xs + w.0;
  from = omega arith;
  below = omega (arith, w.1);
  there = get-behind xs (ys ++ zs) w.0 (length xs + w.0) refl ∙ get-front ys zs w.0 w.1 ∙ slice_get_read ys (length ys) w.0 k refl w.1 (sym w.2);
}

filter-held : (p : ℕ → Bool) (xs : List ℕ) (k : ℕ) → Contains xs k → p k ≡ true → Contains (filter p xs) k
filter-held p [] k w h = absurd (omega (arith, w.1))
filter-held p (x ∷ xs) k w h = by_cases (filter-held p xs k) (Contains-append_cases (x ∷ []) xs k w)
  where
    here-is : Contains (x ∷ []) k → x ≡ k
    here-is v = by_index v.0 v.1 v.2
      where
        by_index : (i : ℕ) → i < length (x ∷ []) → slice_index_or (x ∷ []) i k ≡ k → x ≡ k
        by_index zero l e = e
        by_index (suc i) l e = absurd (omega arith)

    by_cases : (Contains xs k → p k ≡ true → Contains (filter p xs) k) → Contains (x ∷ []) k ⊎ Contains xs k → Contains (cond (p x) (x ∷ filter p xs) (filter p xs)) k
    by_cases later (inl here) =
        let passes : p x ≡ true = ap p (here-is here) ∙ h in
        subst (λ (v : Bool). Contains (cond v (x ∷ filter p xs) (filter p xs)) k) (sym passes) (0, omega arith, here-is here)
    by_cases later (inr behind) = by_test (p x)
      where
        by_test : (v : Bool) → Contains (cond v (x ∷ filter p xs) (filter p xs)) k
        by_test true = Contains-append_right (x ∷ []) (filter p xs) k (later behind h)
        by_test false = later behind h

-- what a block of a label with a name in a list is
record IsNamedBlock (names own : List ℕ) (c : Code) (b : ℕ) : Type 0 where
  label : ℕ
  stands : Contains own label
  named : holds names label ≡ true
  is : block_of_label c label ≡ b

named-block : (x : Activation) (own : List ℕ) (c : Code) (b : ℕ) → Contains (named_blocks x own c) b → IsNamedBlock x.function.named own c b
named-block x [] c b w = absurd (omega (arith, w.1))
named-block x (l ∷ own) c b w = by_test (holds x.function.named l) refl (named-block x own c b) w
  where
    more : IsNamedBlock x.function.named own c b → IsNamedBlock x.function.named (l ∷ own) c b
    more n = record { label = n.label; stands = Contains-append_right (l ∷ []) own n.label n.stands; named = n.named; is = n.is }

    by_test :
        (v : Bool) → holds x.function.named l ≡ v → (Contains (named_blocks x own c) b → IsNamedBlock x.function.named own c b)
        → Contains (map (block_of_label c) (cond v (l ∷ filter (holds x.function.named) own) (filter (holds x.function.named) own))) b
        → IsNamedBlock x.function.named (l ∷ own) c b
    by_test false e later v = more (later v)
    by_test true e later v = by_index v.0 v.1 v.2
      where
        by_index : (i : ℕ) → i < length (block_of_label c l ∷ named_blocks x own c) → slice_index_or (block_of_label c l ∷ named_blocks x own c) i b ≡ b → IsNamedBlock x.function.named (l ∷ own) c b
        by_index zero h is = record { label = l; stands = (0, omega arith, refl); named = e; is = is }
        by_index (suc i) h is = more (later (i, omega arith, is))

-- ---- code without labels before a part

pub labelled-same : (x : Activation) (own cased : List ℕ) (c d : Code) → d.labels ≡ c.labels → c.blocks ≤ d.blocks → AreLabelled x own cased c → AreLabelled x own cased d
labelled-same x own cased c d same more a =
    let keep : (l : ℕ) → block_of_label d l ≡ block_of_label c l = λ l. ap (λ (ls : List ℕ). look ls l) same in
    record {
      once = a.once;
      one_use = a.one_use;
      below = a.below;
      all = ap (λ (ls : List ℕ). length ls) same ∙ a.all;
      order = a.order;
      named = λ l i there. keep l ∙ a.named l i there;
      first = omega (arith, a.first, more);
      given = λ l o. omega (arith, keep l, a.given l o, more);
      cases = λ l o n. omega (arith, keep l, a.cases l o n);
    }

pub behind-same :
    (x : Activation) (own cased back : List ℕ) (c d : Code) → d.labels ≡ c.labels → c.blocks ≤ d.blocks → (d.cur ≡ c.cur) ⊎ (c.blocks ≤ d.cur)
    → AreLabelled x own cased c → LieBehind back own cased c → LieBehind back own cased d
behind-same x own cased back c d same more goes a b = record {
  given = λ n w. omega (arith, b.given n w, more);
  here = λ n w e. here-of n w e goes;
  labels = λ n l w o e. b.labels n l w o (omega (arith, ap (λ (ls : List ℕ). look ls l) same, e));
}
  where
    here-of : (n : ℕ) → Contains back n → d.cur + 1 ≡ n → (d.cur ≡ c.cur) ⊎ (c.blocks ≤ d.cur) → ⊥
    here-of n w e (inl stays) = b.here n w (omega (arith, stays, e))
    here-of n w e (inr new) = omega (arith, b.given n w, new, e)

-- the top of a loop lies behind its body, too
pub behind-top :
    (x : Activation) (own cased back : List ℕ) (c d : Code) → d.labels ≡ c.labels → c.blocks < d.blocks → c.blocks ≤ d.cur
    → AreLabelled x own cased c → LieBehind back own cased c → LieBehind (back ++ c.blocks ∷ []) own cased d
behind-top x own cased back c d same more new a b = record {
  given = λ n w. given-of n (Contains-append_cases back (c.blocks ∷ []) n w);
  here = λ n w e. here-of n e (Contains-append_cases back (c.blocks ∷ []) n w);
  labels = λ n l w o e. labels-of n l o (ap (λ (ls : List ℕ). look ls l) same) e (Contains-append_cases back (c.blocks ∷ []) n w);
}
  where
    is-top : (n : ℕ) → Contains (c.blocks ∷ []) n → n ≡ c.blocks
    is-top n w = by_index w.0 w.1 w.2
      where
        by_index : (i : ℕ) → i < length (c.blocks ∷ []) → slice_index_or (c.blocks ∷ []) i n ≡ n → n ≡ c.blocks
        by_index zero h e = sym e
        by_index (suc i) h e = absurd (omega arith)

    given-of : (n : ℕ) → Contains back n ⊎ Contains (c.blocks ∷ []) n → n < d.blocks
    given-of n (inl w) = omega (arith, b.given n w, more)
    given-of n (inr w) = omega (arith, is-top n w, more)

    here-of : (n : ℕ) → d.cur + 1 ≡ n → Contains back n ⊎ Contains (c.blocks ∷ []) n → ⊥
    here-of n e (inl w) = omega (arith, b.given n w, new, e)
    here-of n e (inr w) = omega (arith, is-top n w, new, e)

    labels-of : (n l : ℕ) → IsOpen own cased l → block_of_label d l ≡ block_of_label c l → block_of_label d l + 1 ≡ n → Contains back n ⊎ Contains (c.blocks ∷ []) n → ⊥
    labels-of n l o is e (inl w) = b.labels n l w o (omega (arith, is, e))
    labels-of n l o is e (inr w) = omega (arith, is-top n w, a.given l o, is, e)

-- ---- the labels of two parts

module _ (x : Activation) (own1 own2 cased1 cased2 : List ℕ) (among1 : Among own1 cased1) (among2 : Among own2 cased2) where
  module _ (distinct : IsDistinct nat_eq (own1 ++ own2)) where
    open-first : (l : ℕ) → IsOpen own1 cased1 l → IsOpen (own1 ++ own2) (cased1 ++ cased2) l
    open-first l o = (Contains-append_left own1 own2 l o.0, λ w. refused (Contains-append_cases cased1 cased2 l w))
      where
        refused : Contains cased1 l ⊎ Contains cased2 l → ⊥
        refused (inl v) = o.1 v
        refused (inr v) = apart-contains own1 own2 l (split own1 own2 distinct).2 o.0 (among-contains own2 cased2 l among2 v)

    open-second : (l : ℕ) → IsOpen own2 cased2 l → IsOpen (own1 ++ own2) (cased1 ++ cased2) l
    open-second l o = (Contains-append_right own1 own2 l o.0, λ w. refused (Contains-append_cases cased1 cased2 l w))
      where
        refused : Contains cased1 l ⊎ Contains cased2 l → ⊥
        refused (inl v) = apart-contains own1 own2 l (split own1 own2 distinct).2 (among-contains own1 cased1 l among1 v) o.0
        refused (inr v) = o.1 v

    free-second : (l : ℕ) → IsOpen own2 cased2 l → ¬ Contains cased1 l
    free-second l o v = apart-contains own1 own2 l (split own1 own2 distinct).2 (among-contains own1 cased1 l among1 v) o.0

  -- the labels with names, in the order of the text
  grouped : (c : Code) (a : AreLabelled x (own1 ++ own2) (cased1 ++ cased2) c)
      → x.function.named ≡ (a.order.0 ++ filter (holds x.function.named) own1) ++ (filter (holds x.function.named) own2 ++ a.order.1)
  grouped c a =
      let p = holds x.function.named in
      a.order.2 ∙ ap (λ (ls : List ℕ). (a.order.0 ++ ls) ++ a.order.1) (filter-append p own1 own2)
      ∙ ap (λ (ls : List ℕ). ls ++ a.order.1) (sym (append_assoc a.order.0 (filter p own1) (filter p own2)))
      ∙ append_assoc (a.order.0 ++ filter p own1) (filter p own2) a.order.1

  pub labelled-first : (c : Code) → AreLabelled x (own1 ++ own2) (cased1 ++ cased2) c → AreLabelled x own1 cased1 c
  labelled-first c a = record {
    once = (split own1 own2 a.once).0;
    one_use = distinct-front x.function.named cased1 cased2 a.one_use;
    below = all-first (λ l. l < x.function.labels) own1 own2 a.below;
    all = a.all;
    order = (a.order.0, filter (holds x.function.named) own2 ++ a.order.1, grouped c a);
    named = a.named;
    first = a.first;
    given = λ l o. a.given l (open-first a.once l o);
    cases = λ l o. a.cases l (open-first a.once l o);
  }

  pub labelled-second :
      (c d : Code) → c.blocks ≤ d.blocks → KeepLabels c d cased1 → AreLabelled x (own1 ++ own2) (cased1 ++ cased2) c → AreLabelled x own2 cased2 d
  labelled-second c d more keep a =
      let named-free : (l : ℕ) → Contains x.function.named l → ¬ Contains cased1 l = λ l v w.
      apart-contains x.function.named (cased1 ++ cased2) l (split x.function.named (cased1 ++ cased2) a.one_use).2 v (Contains-append_left cased1 cased2 l w) in
      record {
        once = (split own1 own2 a.once).1;
        one_use = distinct-ends x.function.named cased1 cased2 a.one_use;
        below = all-second (λ l. l < x.function.labels) own1 own2 a.below;
        all = keep.count ∙ a.all;
        order = (
          a.order.0 ++ filter (holds x.function.named) own1,
          a.order.1,
          grouped c a ∙ sym (append_assoc (a.order.0 ++ filter (holds x.function.named) own1) (filter (holds x.function.named) own2) a.order.1),
        );
        named = λ l i there. keep.others l (named-free l (i, slice_get_within x.function.named i l there, index-of x.function.named i l there)) ∙ a.named l i there;
        first = omega (arith, a.first, more);
        given = λ l o. (let is = keep.others l (free-second a.once l o) in omega (arith, is, a.given l (open-second a.once l o), more));
        cases = λ l o n. (let is = keep.others l (free-second a.once l o) in omega (arith, is, a.cases l (open-second a.once l o) n));
      }
    where
      index-of : (xs : List ℕ) (i l : ℕ) → slice_get xs i ≡ Some l → slice_index_or xs i l ≡ l
      index-of xs i l e = get_or_from_slice_get xs i l l e

  -- ---- what lies behind them

  pub behind-first :
      (back : List ℕ) (c : Code) → AreLabelled x (own1 ++ own2) (cased1 ++ cased2) c → LieBehind back (own1 ++ own2) (cased1 ++ cased2) c → LieBehind back own1 cased1 c
  behind-first back c a b = record { given = b.given; here = b.here; labels = λ n l w o. b.labels n l w (open-first a.once l o) }

  module _ (c : Code) (a : AreLabelled x (own1 ++ own2) (cased1 ++ cased2) c) where
    -- the place of a label with a name among all those
    first-place : (k : ℕ) → Contains own1 k → holds x.function.named k ≡ true → StandsAtPlace x.function.named (length a.order.0) (length (filter (holds x.function.named) own1)) k
    first-place k w h =
        subst (λ (ls : List ℕ). StandsAtPlace ls (length a.order.0) (length (filter (holds x.function.named) own1)) k)
        (sym (grouped c a ∙ append_assoc a.order.0 (filter (holds x.function.named) own1) (filter (holds x.function.named) own2 ++ a.order.1)))
        (in-middle a.order.0 (filter (holds x.function.named) own1) (filter (holds x.function.named) own2 ++ a.order.1) k (filter-held (holds x.function.named) own1 k w h))

    second-place : (k : ℕ) → Contains own2 k → holds x.function.named k ≡ true
        → StandsAtPlace x.function.named (length a.order.0 + length (filter (holds x.function.named) own1)) (length (filter (holds x.function.named) own2)) k
    second-place k w h =
        let before = a.order.0 ++ filter (holds x.function.named) own1 in
        let place = in-middle before (filter (holds x.function.named) own2) a.order.1 k (filter-held (holds x.function.named) own2 k w h) in
        let long = length-append a.order.0 (filter (holds x.function.named) own1) in
        record {
          place = place.place;
          from = omega (arith, place.from, long);
          below = omega (arith, place.below, long);
          there = ap (λ (ls : List ℕ). slice_get ls place.place) (grouped c a) ∙ place.there;
        }

    -- a label with a name in the first part has a lower block than each of the second
    second-higher : (k l : ℕ) → Contains own1 k → holds x.function.named k ≡ true → IsOpen own2 cased2 l → block_of_label c l + 1 ≢ block_of_label c k
    second-higher k l w h o = by_test (holds x.function.named l) refl
      where
        by_test : (v : Bool) → holds x.function.named l ≡ v → block_of_label c l + 1 ≢ block_of_label c k
        by_test true e same =
            let one = first-place k w h in
            let two = second-place l o.0 e in
            omega (arith, one.below, two.from, a.named k one.place one.there, a.named l two.place two.there, same)
        by_test false e same =
            let one = first-place k w h in
            omega (
              arith,
              a.cases l (open-second a.once l o) (λ v. true≢false (sym (holds-contained x.function.named l v) ∙ e)),
              a.named k one.place one.there,
              slice_get_within x.function.named one.place k one.there,
              same,
            )

    -- nor is one the next to the last label
    last-higher : (k : ℕ) (d : Code) → Contains own1 k → holds x.function.named k ≡ true → IsAtLastLabel c d own1 cased1 → d.cur + 1 ≢ block_of_label c k
    last-higher k d w h z = by_test (holds x.function.named z.label) refl
      where
        open-label : IsOpen own1 cased1 z.label
        open-label = (subst (λ (ls : List ℕ). Contains ls z.label) (sym z.last) (Contains-append_right z.before (z.label ∷ []) z.label (0, omega arith, refl)), z.free)

        by_test : (v : Bool) → holds x.function.named z.label ≡ v → d.cur + 1 ≢ block_of_label c k
        by_test true e same =
            let one = first-place k w h in
            let names = filter (holds x.function.named) z.before in
            let last : filter (holds x.function.named) own1 ≡ names ++ (z.label ∷ []) =
            ap (λ (ls : List ℕ). filter (holds x.function.named) ls) z.last ∙ filter-append (holds x.function.named) z.before (z.label ∷ [])
            ∙ ap (λ (v : Bool). names ++ cond v (z.label ∷ []) []) e in
            let rest = filter (holds x.function.named) own2 ++ a.order.1 in
            let whole : x.function.named ≡ (a.order.0 ++ names) ++ ((z.label ∷ []) ++ rest) =
            grouped c a ∙ append_assoc a.order.0 (filter (holds x.function.named) own1) rest ∙ ap (λ (ls : List ℕ). a.order.0 ++ (ls ++ rest)) last ∙ ap (λ (ls : List ℕ). a.order.0 ++ ls) (append_assoc names (z.label ∷ []) rest)
            ∙ sym (append_assoc a.order.0 names ((z.label ∷ []) ++ rest)) in
            let two = in-middle (a.order.0 ++ names) (z.label ∷ []) rest z.label (0, omega arith, refl) in
            omega (
              arith,
              one.below,
              two.from,
              ap (λ (ls : List ℕ). length ls) last,
              length-append names (z.label ∷ []),
              length-append a.order.0 names,
              a.named k one.place one.there,
              a.named z.label two.place (ap (λ (ls : List ℕ). slice_get ls two.place) whole ∙ two.there),
              z.here,
              same,
            )
        by_test false e same =
            let one = first-place k w h in
            omega (
              arith,
              a.cases z.label (open-first a.once z.label open-label) (λ v. true≢false (sym (holds-contained x.function.named z.label v) ∙ e)),
              a.named k one.place one.there,
              slice_get_within x.function.named one.place k one.there,
              z.here,
              same,
            )

    pub behind-second :
        (back : List ℕ) (d : Code) → c.blocks ≤ d.blocks → KeepLabels c d cased1 → Ends c d own1 cased1 → LieBehind back (own1 ++ own2) (cased1 ++ cased2) c
        → LieBehind (back ++ named_blocks x own1 c) own2 cased2 d
    behind-second back d more keep ends b = record {
      given = λ n w. given-of n (Contains-append_cases back (named_blocks x own1 c) n w);
      here = λ n w. here-of n (Contains-append_cases back (named_blocks x own1 c) n w) ends;
      labels = λ n l w o. labels-of n l o (Contains-append_cases back (named_blocks x own1 c) n w);
    }
      where
        open-named : (k : ℕ) → Contains own1 k → holds x.function.named k ≡ true → IsOpen (own1 ++ own2) (cased1 ++ cased2) k
        open-named k w h = (
          Contains-append_left own1 own2 k w,
          λ v. apart-contains x.function.named (cased1 ++ cased2) k (split x.function.named (cased1 ++ cased2) a.one_use).2 (contained-held x.function.named k h) v,
        )

        was-given : (n : ℕ) → IsNamedBlock x.function.named own1 c n → n + 1 < c.blocks
        was-given n s = omega (arith, a.given s.label (open-named s.label s.stands s.named), s.is)

        given-of : (n : ℕ) → Contains back n ⊎ Contains (named_blocks x own1 c) n → n < d.blocks
        given-of n (inl w) = omega (arith, b.given n w, more)
        given-of n (inr w) = omega (arith, was-given n (named-block x own1 c n w), more)

        here-of : (n : ℕ) → Contains back n ⊎ Contains (named_blocks x own1 c) n → Ends c d own1 cased1 → d.cur + 1 ≢ n
        here-of n (inl w) (inl s) e = b.here n w (omega (arith, s.same, e))
        here-of n (inl w) (inr (inl new)) e = omega (arith, b.given n w, new, e)
        here-of n (inl w) (inr (inr z)) e =
            let label : IsOpen own1 cased1 z.label =
            (subst (λ (ls : List ℕ). Contains ls z.label) (sym z.last) (Contains-append_right z.before (z.label ∷ []) z.label (0, omega arith, refl)), z.free) in
            b.labels n z.label w (open-first a.once z.label label) (omega (arith, z.here, e))
        here-of n (inr w) (inl s) e =
            let k = named-block x own1 c n w in
            none-in s.none k.stands
          where
            none-in : {l : ℕ} → own1 ≡ [] → Contains own1 l → ⊥
            none-in is v = omega (arith, v.1, ap (λ (ls : List ℕ). length ls) is)
        here-of n (inr w) (inr (inl new)) e = omega (arith, was-given n (named-block x own1 c n w), new, e)
        here-of n (inr w) (inr (inr z)) e =
            let k = named-block x own1 c n w in
            last-higher k.label d k.stands k.named z (omega (arith, e, k.is))

        labels-of : (n l : ℕ) → IsOpen own2 cased2 l → Contains back n ⊎ Contains (named_blocks x own1 c) n → block_of_label d l + 1 ≢ n
        labels-of n l o (inl w) e = b.labels n l w (open-second a.once l o) (omega (arith, keep.others l (free-second a.once l o), e))
        labels-of n l o (inr w) e =
            let k = named-block x own1 c n w in
            second-higher k.label l k.stands k.named o (omega (arith, keep.others l (free-second a.once l o), k.is, e))
