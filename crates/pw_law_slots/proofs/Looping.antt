-- Loops inside a block: over words alone, of which the last may stand in the slot of the branch.
use Rattle.std.proofs.Common.{ℕ, zero, suc, ◌≡◌, ◌+◌, ◌-◌, ◌≤◌, Bool, true, false, if◌then◌else◌, Some, None, List, [], ◌∷◌, ◌++◌, length, refl, ap, sym, subst, ◌∙◌, length-append, append_assoc, arith}
use Rattle.std.specs.Prelude.{nat_le, ◌&&◌, drop, take}
use Rattle.std.specs.List.{list_all}
use Rattle.std.proofs.lemmas.Bool.{and_parts, le-leb, leb-true}
use Rattle.std.proofs.lemmas.List.{append_cancel_left}
use Rattle.pw_delay.specs.declared.items.Item.{Item}
use Rattle.pw_delay.specs.declared.items.Item.TheVariants.{Plain, Turns, Mark}
use Rattle.pw_delay.specs.Filling.{compared, with_slot, filled}
use Rattle.pw_delay.specs.Parts.{compared_by, takes_first, PartsAlone}
use Rattle.pw_run_languages.specs.LineRun.{is_plain, back_over}
use Rattle.pw_law_slots.specs.Found.{GoesOver}
use Rattle.pw_law_slots.proofs.Places.{IsCut, cut_before}

drop_all : (xs ys : List Item) → drop (length xs) (xs ++ ys) ≡ ys
drop_all [] ys = refl
drop_all (x ∷ xs) ys = drop_all xs ys

take_all : (xs ys : List Item) → take (length xs) (xs ++ ys) ≡ xs
take_all [] ys = refl
take_all (x ∷ xs) ys = ap (λ l. x ∷ l) (take_all xs ys)

both_true : (s t : Bool) → s ≡ true → t ≡ true → (s && t) ≡ true
both_true true t e f = f
both_true false t e f = absurd cc

-- a branch over words leads to the first of them
pub led_back : (before words here : List Item) → list_all is_plain words ≡ true → back_over (length words) here (before ++ (words ++ here)) ≡ Some (words ++ here)
led_back before words here plain =
    let items = before ++ (words ++ here) in
    let back = length here + length words in
    let size : length items ≡ length before + (length words + length here) = length-append before (words ++ here) ∙ ap (λ n. length before + n) (length-append words here) in
    let start : length items - back ≡ length before = omega (arith, size) in
    let there : drop (length items - back) items ≡ words ++ here = ap (λ k. drop k items) start ∙ drop_all before (words ++ here) in
    let le : back ≤ length items = omega (arith, size) in
    let plain_there : list_all is_plain (take (length words) (words ++ here)) ≡ true = ap (list_all is_plain) (take_all words here) ∙ plain in
    ap (λ s. if nat_le back (length items) && list_all is_plain (take (length words) s) then Some s else None) there
    ∙ ap (λ (t : Bool). if t then Some (words ++ here) else None) (both_true (nat_le back (length items)) (list_all is_plain (take (length words) (words ++ here))) (le-leb back (length items) le) plain_there)

-- words alone stay where they are
before_plain : (behind : Bool) (item : Item) (rest : List Item) → list_all is_plain rest ≡ true → with_slot behind item rest ≡ item ∷ rest
before_plain behind (Plain w) (Turns turn None ∷ rest) plain = absurd cc
before_plain behind item rest plain = refl

plain_rest : (item : Item) (rest : List Item) → list_all is_plain (item ∷ rest) ≡ true → list_all is_plain rest ≡ true
plain_rest (Plain w) rest plain = plain
plain_rest (Turns turn slot) rest plain = absurd cc
plain_rest (Mark b) rest plain = absurd cc

pub plain_filled : (behind : Bool) (words : List Item) → list_all is_plain words ≡ true → filled behind words ≡ words
plain_filled behind [] plain = refl
plain_filled behind (item ∷ rest) plain =
    ap (λ l. with_slot behind item l) (plain_filled (compared behind item) rest (plain_rest item rest plain))
    ∙ before_plain behind item rest (plain_rest item rest plain)

-- ---- where a branch goes back to

dropped : (before here : List Item) (k : ℕ) → k ≤ length before → drop k (before ++ here) ≡ drop k before ++ here
dropped before here zero le = refl
dropped [] here (suc k) le = absurd (omega (arith, le))
dropped (b ∷ before) here (suc k) le = dropped before here k (omega (arith, le))

dropped_length : (xs : List Item) (k : ℕ) → length (drop k xs) ≡ length xs - k
dropped_length xs zero = omega arith
dropped_length [] (suc k) = omega arith
dropped_length (y ∷ ys) (suc k) = omega (arith, dropped_length ys k)

taken : (xs : List Item) (k : ℕ) → xs ≡ take k xs ++ drop k xs
taken xs zero = refl
taken [] (suc k) = refl
taken (y ∷ ys) (suc k) = ap (λ r. y ∷ r) (taken ys k)

if_some : (b : Bool) (x y : List Item) → (if b then Some x else None) ≡ Some y → (b ≡ true) × (x ≡ y)
if_some true x y e = (refl, cc)
if_some false x y e = absurd cc

pub goes_over : (items before here from : List Item) (n : ℕ) → items ≡ before ++ here → back_over n here items ≡ Some from → GoesOver before here from n
goes_over items before here from n parts e =
    let k : ℕ = length items - (length here + n) in
    let start = drop k items in
    let is = if_some (nat_le (length here + n) (length items) && list_all is_plain (take n start)) start from e in
    let both = and_parts (nat_le (length here + n) (length items)) (list_all is_plain (take n start)) is.0 in
    let le : length here + n ≤ length items = leb-true (length here + n) (length items) both.0 in
    let size : length items ≡ length before + length here = ap length parts ∙ length-append before here in
    let cut : k ≤ length before = omega (arith, size, le) in
    let at : start ≡ drop k before ++ here = ap (drop k) parts ∙ dropped before here k cut in
    let count : length (drop k before) ≡ n = omega (arith, dropped_length before k, size, le) in
    let whole : take n (drop k before ++ here) ≡ drop k before =
    subst (λ (m : ℕ). take m (drop k before ++ here) ≡ drop k before) count (take_all (drop k before) here) in
    record {
      start = take k before;
      words = drop k before;
      parts = taken before k;
      from_is = sym is.1 ∙ at;
      count = count;
      plain = ap (list_all is_plain) (sym (ap (take n) at ∙ whole)) ∙ both.1;
    }

-- the last of them
pub record Last (before start words : List Item) (item : Item) : Type 0 where
  pub rest : List Item
  pub words_are : words ≡ rest ++ item ∷ []
  pub before_is : before ≡ start ++ rest

pub last_word : (before start words : List Item) (item : Item) (n : ℕ) → length words ≡ suc n → before ++ item ∷ [] ≡ start ++ words → Last before start words item
last_word before [] words item n count e = record { rest = before; words_are = sym e; before_is = refl }
last_word [] (s ∷ start) words item n count e =
    let size : 1 ≡ suc (length start + length words) = ap length e ∙ ap suc (length-append start words) in
    absurd (omega (arith, size, count))
last_word (b ∷ before) (s ∷ start) words item n count e =
    let head : b ≡ s = cc in
    let tail : before ++ item ∷ [] ≡ start ++ words = cc in
    let h = last_word before start words item n count tail in
    record { rest = h.rest; words_are = h.words_are; before_is = ap (λ l. b ∷ l) h.before_is ∙ ap (λ (i : Item). i ∷ (start ++ h.rest)) head }

-- ---- the same in items with filled slots

plain_takes : (words : List Item) → list_all is_plain words ≡ true → takes_first words ≡ false
plain_takes [] plain = refl
plain_takes (Plain w ∷ rest) plain = refl
plain_takes (Turns turn slot ∷ rest) plain = absurd cc
plain_takes (Mark b ∷ rest) plain = absurd cc

pub plain_split : (xs ys : List Item) → list_all is_plain (xs ++ ys) ≡ true → list_all is_plain xs ≡ true
plain_split [] ys plain = refl
plain_split (Plain w ∷ xs) ys plain = plain_split xs ys plain
plain_split (Turns turn slot ∷ xs) ys plain = absurd cc
plain_split (Mark b ∷ xs) ys plain = absurd cc

-- what stands at the first of the words
pub record LeadsBack (items start words tail : List Item) : Type 0 where
  pub cut : IsCut items start (words ++ tail)
  pub found : back_over (length words) (filled (compared_by false (start ++ words)) tail) (filled false items) ≡ Some (filled (compared_by false start) (words ++ tail))

pub leads_back : PartsAlone → (items start words tail : List Item) → IsCut items (start ++ words) tail → list_all is_plain words ≡ true → takes_first (words ++ tail) ≡ false
    → LeadsBack items start words tail
leads_back alone items start words tail cut plain none =
    let here = filled (compared_by false (start ++ words)) tail in
    let earlier : IsCut items start (words ++ tail) = cut_before alone items start (words ++ tail) (cut.parts ∙ append_assoc start words tail) none in
    let before : filled false (start ++ words) ≡ filled false start ++ words =
    alone false start words (plain_takes words plain) ∙ ap (λ l. filled false start ++ l) (plain_filled (compared_by false start) words plain) in
    let whole : filled false items ≡ filled false start ++ (words ++ here) =
    cut.filled_parts ∙ ap (λ l. l ++ here) before ∙ append_assoc (filled false start) words here in
    let same : filled (compared_by false start) (words ++ tail) ≡ words ++ here =
    append_cancel_left (filled false start) (filled (compared_by false start) (words ++ tail)) (words ++ here) (sym earlier.filled_parts ∙ whole) in
    record {
      cut = earlier;
      found =
          ap (back_over (length words) here) whole
          ∙ led_back (filled false start) words here plain
          ∙ ap Some (sym same);
    }
