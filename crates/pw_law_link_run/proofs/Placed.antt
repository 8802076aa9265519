-- What stands behind other items, where blocks begin, and where a loop goes back to.
use Rattle.std.specs.Prelude.{ℕ, zero, suc, ◌≡◌, ◌+◌, ◌-◌, ◌*◌, ◌≤◌, ◌==◌, ◌&&◌, nat_le, Bool, true, false, if◌then◌else◌, Some, None, List, [], ◌∷◌, ◌++◌, length, take, drop}
use Rattle.std.specs.List.{list_all}
use Rattle.std.proofs.Common.{arith, subst, sym, ap, refl, ◌∙◌, length-append}
use Rattle.std.proofs.lemmas.Bool.{and_parts, eqb-true, leb-true}
use Rattle.std.proofs.lemmas.List.{append_assoc}
use Rattle.std.proofs.lemmas.List.Sums.{sum_by-cons, sum_by-append}
use Rattle.pw_delay.specs.declared.items.Item.{Item}
use Rattle.pw_delay.specs.declared.items.Item.TheVariants.{Plain, Turns, Mark}
use Rattle.pw_delay.specs.Placement.{size, sizes, turn_size}
use Rattle.pw_run_languages.specs.LineRun.{LineFn, from_mark, is_plain, back_over}
use Rattle.pw_run_languages.specs.Words.{Text, StandsAt}
use Rattle.pw_law_link_run.specs.Steps.{Setting, IsInText}
use Rattle.pw_law_link_run.specs.Placing.{name_in, own_address, text_of, words_of, Stands, IsLeft}

pub more : (long : Bool) (item : Item) (rest : List Item) → sizes long (item ∷ rest) ≡ size long item + sizes long rest
more long item rest = sum_by-cons (size long) item rest

pub joined : (long : Bool) (before rest : List Item) → sizes long (before ++ rest) ≡ sizes long before + sizes long rest
joined long before rest = sum_by-append (size long) before rest

-- ---- behind other items

pub stands_behind : (t : Text) (a : ℕ) (before left : List Item) → StandsAt t a (before ++ left) → StandsAt t (a + 4 * sizes t.long before) left
stands_behind t a [] left h = let e : a ≡ a + 4 * sizes t.long [] = omega arith in subst (λ k. StandsAt t k left) e h
stands_behind t a (Plain word ∷ before) left h =
    let e : a + 4 + 4 * sizes t.long before ≡ a + 4 * sizes t.long (Plain word ∷ before) = omega (arith, more t.long (Plain word) before) in
    subst (λ k. StandsAt t k left) e (stands_behind t (a + 4) before left h.1)
stands_behind t a (Turns turn slot ∷ before) left h =
    let e : a + 4 * turn_size t.long turn slot + 4 * sizes t.long before ≡ a + 4 * sizes t.long (Turns turn slot ∷ before) = omega (arith, more t.long (Turns turn slot) before) in
    subst (λ k. StandsAt t k left) e (stands_behind t (a + 4 * turn_size t.long turn slot) before left h.1)
stands_behind t a (Mark b ∷ before) left h =
    let e : a + 4 * sizes t.long before ≡ a + 4 * sizes t.long (Mark b ∷ before) = omega (arith, more t.long (Mark b) before) in
    subst (λ k. StandsAt t k left) e (stands_behind t a before left h.1)

-- what is left stands where it is
pub left_stands : (x : Setting) (f : LineFn) → Stands x f → (left : List Item) (a : ℕ) → IsLeft x f left a → StandsAt (text_of x f) a left
left_stands x f g left a h =
    let t = text_of x f in
    subst (λ k. StandsAt t k left) (sym h.at)
    (stands_behind t (own_address x f) h.before left (subst (λ items. StandsAt t (own_address x f) items) h.items g.items))

-- the whole function is left at its address
pub all_left : (x : Setting) (f : LineFn) → IsLeft x f f.items (own_address x f)
all_left x f = record { before = []; items = refl; at = omega arith }

pub next_left : (x : Setting) (f : LineFn) (item : Item) (rest : List Item) (a : ℕ) → IsLeft x f (item ∷ rest) a
    → IsLeft x f rest (a + 4 * size (x.long (name_in f)) item)
next_left x f item rest a h = record {
  before = h.before ++ item ∷ [];
  items = h.items ∙ sym (append_assoc h.before (item ∷ []) rest);
  at = omega (arith, h.at, joined (x.long (name_in f)) h.before (item ∷ []), more (x.long (name_in f)) item []);
}

-- each word of what is left is one of the text
pub in_text_of : (x : Setting) (f : LineFn) → Stands x f → (left : List Item) (a i : ℕ) → IsLeft x f left a → i ≤ words_of x f left
    → IsInText x (a + 4 * i)
in_text_of x f g left a i h le =
    let whole : words_of x f f.items ≡ words_of x f h.before + words_of x f left = ap (words_of x f) h.items ∙ joined (x.long (name_in f)) h.before left in
    record {
      aligned = omega (arith, h.at, g.aligned);
      above = omega (arith, h.at, g.above);
      below = omega (arith, h.at, g.below, whole, le);
    }

-- ---- where blocks begin

pub record Begins (t : Text) (own : ℕ) (items : List Item) (b : ℕ) (rest : List Item) : Type 0 where
  pub before : List Item
  pub parts : items ≡ before ++ rest
  pub at : t.mark b ≡ own + 4 * sizes t.long before

begins_later : (t : Text) (a next : ℕ) (item : Item) (items : List Item) (b : ℕ) (rest : List Item) → next ≡ a + 4 * size t.long item → Begins t next items b rest
    → Begins t a (item ∷ items) b rest
begins_later t a next item items b rest e h = record {
  before = item ∷ h.before;
  parts = ap (λ r. item ∷ r) h.parts;
  at = omega (arith, h.at, e, more t.long item h.before);
}

begins_by : (t : Text) (a n : ℕ) (items : List Item) (b : ℕ) (rest : List Item) (same : Bool) → (n == b) ≡ same → t.mark n ≡ a
    → (from_mark b items ≡ Some rest → Begins t a items b rest) → (if same then Some items else from_mark b items) ≡ Some rest
    → Begins t a (Mark n ∷ items) b rest
begins_by t a n items b rest true is at later e =
    let here : t.mark b ≡ a = ap t.mark (sym (eqb-true n b is)) ∙ at in
    let same : items ≡ rest = cc in
    record {
      before = Mark n ∷ [];
      parts = ap (λ r. Mark n ∷ r) same;
      at = omega (arith, here, more t.long (Mark n) []);
    }
begins_by t a n items b rest false is at later e = begins_later t a a (Mark n) items b rest (omega arith) (later e)

pub begins : (t : Text) (a : ℕ) (items : List Item) (b : ℕ) (rest : List Item) → StandsAt t a items → from_mark b items ≡ Some rest → Begins t a items b rest
begins t a [] b rest h e = absurd cc
begins t a (Plain word ∷ items) b rest h e = begins_later t a (a + 4) (Plain word) items b rest (omega arith) (begins t (a + 4) items b rest h.1 e)
begins t a (Turns turn slot ∷ items) b rest h e =
    begins_later t a (a + 4 * turn_size t.long turn slot) (Turns turn slot) items b rest refl (begins t (a + 4 * turn_size t.long turn slot) items b rest h.1 e)
begins t a (Mark n ∷ items) b rest h e = begins_by t a n items b rest (n == b) refl h.0 (begins t a items b rest h.1) e

pub block_left : (x : Setting) (f : LineFn) → Stands x f → (b : ℕ) (rest : List Item) → from_mark b f.items ≡ Some rest
    → IsLeft x f rest (x.mark (name_in f) b)
block_left x f g b rest e =
    let h = begins (text_of x f) (own_address x f) f.items b rest g.items e in
    record { before = h.before; items = h.parts; at = h.at }

-- ---- where a loop goes back to

drop_all : (before here : List Item) (n : ℕ) → n ≤ length before → drop (length before - n) (before ++ here) ≡ drop (length before - n) before ++ here
drop_all before here n le = by before (length before - n) (omega arith)
  where
    by : (xs : List Item) (k : ℕ) → k ≤ length xs → drop k (xs ++ here) ≡ drop k xs ++ here
    by xs zero le = refl
    by [] (suc k) le = absurd (omega arith)
    by (y ∷ ys) (suc k) le = by ys k (omega arith)

parted : (xs : List Item) (k : ℕ) → xs ≡ take k xs ++ drop k xs
parted xs zero = refl
parted [] (suc k) = refl
parted (y ∷ ys) (suc k) = ap (λ r. y ∷ r) (parted ys k)

plain_sizes : (long : Bool) (n : ℕ) (xs here : List Item) → length xs ≡ n → list_all is_plain (take n (xs ++ here)) ≡ true → sizes long xs ≡ n
plain_sizes long n [] here len all = omega (arith, len)
plain_sizes long zero (y ∷ ys) here len all = absurd (omega (arith, len))
plain_sizes long (suc n) (Plain word ∷ ys) here len all =
    omega (arith, more long (Plain word) ys, plain_sizes long n ys here (omega (arith, len)) all)
plain_sizes long (suc n) (Turns turn slot ∷ ys) here len all = absurd cc
plain_sizes long (suc n) (Mark b ∷ ys) here len all = absurd cc

length_drop : (xs : List Item) (k : ℕ) → length (drop k xs) ≡ length xs - k
length_drop xs zero = omega arith
length_drop [] (suc k) = omega arith
length_drop (y ∷ ys) (suc k) = omega (arith, length_drop ys k)

if_some : (b : Bool) (x y : List Item) → (if b then Some x else None) ≡ Some y → (b ≡ true) × (x ≡ y)
if_some true x y e = (refl, cc)
if_some false x y e = absurd cc

-- where it does
pub record LoopsTo (x : Setting) (f : LineFn) (n : ℕ) (from : List Item) (a : ℕ) : Type 0 where
  pub address : ℕ
  pub back : address + 4 * n ≡ a
  pub left : IsLeft x f from address

pub loop_left : (x : Setting) (f : LineFn) (n : ℕ) (here from : List Item) (a : ℕ) → IsLeft x f here a → back_over n here f.items ≡ Some from
    → LoopsTo x f n from a
loop_left x f n here from a h e =
    let long = x.long (name_in f) in
    let start = drop (length f.items - (length here + n)) f.items in
    let is = if_some (nat_le (length here + n) (length f.items) && list_all is_plain (take n start)) start from e in
    let both = and_parts (nat_le (length here + n) (length f.items)) (list_all is_plain (take n start)) is.0 in
    let within : length here + n ≤ length f.items = leb-true (length here + n) (length f.items) both.0 in
    let size : length f.items ≡ length h.before + length here = ap length h.items ∙ length-append h.before here in
    let k : ℕ = length h.before - n in
    let cut : length f.items - (length here + n) ≡ k = omega (arith, size) in
    let at_cut : start ≡ drop k h.before ++ here = ap (λ j. drop j f.items) cut ∙ (ap (drop k) h.items ∙ drop_all h.before here n (omega (arith, within, size))) in
    let plain : list_all is_plain (take n (drop k h.before ++ here)) ≡ true = ap (λ s. list_all is_plain (take n s)) (sym at_cut) ∙ both.1 in
    let count : sizes long (drop k h.before) ≡ n = plain_sizes long n (drop k h.before) here (omega (arith, length_drop h.before k, within, size)) plain in
    let parts : sizes long h.before ≡ sizes long (take k h.before) + sizes long (drop k h.before) = ap (sizes long) (parted h.before k) ∙ joined long (take k h.before) (drop k h.before) in
    record {
      address = own_address x f + 4 * sizes long (take k h.before);
      back = omega (arith, h.at, parts, count);
      left = record {
        before = take k h.before;
        items = h.items ∙ (ap (λ r. r ++ here) (parted h.before k) ∙ (append_assoc (take k h.before) (drop k h.before) here ∙ ap (λ r. take k h.before ++ r) (sym at_cut ∙ is.1)));
        at = refl;
      };
    }
