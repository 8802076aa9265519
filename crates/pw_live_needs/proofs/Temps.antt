-- One more temporary is counted, or none where it is held.
use Rattle.std.proofs.Common.{◌≡◌, ◌≢◌, ◌⊎◌, ℕ, zero, suc, ◌+◌, ◌-◌, ◌<◌, ◌≤◌, ◌^◌, ◌&&◌, not, Bool, true, false, List, [], ◌∷◌, length, get_or, max, map, refl, sym, ap, ◌∙◌, arith, inl, inr}
use Rattle.std.specs.Prelude.{if◌then◌else◌, None, Some, slice_get, slice_index, ◌↔◌}
use Rattle.std.specs.List.{count_by, range_with_len}
use Rattle.std.proofs.lemmas.Bool.{cases_Bool, cases_lt, ne_eqb, eq-eqb}
use Rattle.std.proofs.lemmas.List.{get_or_past}
use Rattle.std.proofs.lemmas.Option.{same_Some, slice_get-get_or}
use Rattle.pw_live_spans.specs.Spans.{Covers}
use Rattle.pw_live_spans.specs.LivePoints.{LivesFrom}
use Rattle.pw_flow.specs.Outline.{Outline}
use Rattle.pw_live.specs.Points.{Point, points, lives}
use Rattle.pw_live.specs.Interference.{is_held}
use Rattle.pw_live_needs.specs.Needs.{is_short, short_at, most_short}
use Rattle.pw_live_needs.specs.Counts.{full, AreCounts, IsReached, IsCounted}
use Rattle.pw_live_needs.specs.declared.counting.Counting.{Counting}
use Rattle.pw_live_needs.proofs.Counted.{count_next, count_yes, count_no}

-- nothing has been counted
pub none_counted : (f : Outline) (v : Counting) → AreCounts (length (points f)) v → ((q : ℕ) → slice_index v.counts.items q ≡ 0) → ((q : ℕ) → slice_index v.marks.items q ≡ 0) → IsCounted f 0 v
none_counted f v sized counts marks = record {
  sized = sized;
  each = λ q p at. counts q;
  low = λ q. let n = counts q in omega (arith, n);
  marked = λ q. let n = marks q in omega (arith, n);
}

-- one that is held counts nowhere
pub held_counted : (f : Outline) (t : ℕ) (v : Counting) → is_held f t ≡ true → IsCounted f t v → IsCounted f (t + 1) v
held_counted f t v held before = record {
  sized = before.sized;
  each = λ q p at. before.each q p at ∙ sym (count_no (is_short f p) t (ap (λ (b : Bool). not b && lives f t p) held));
  low = λ q. let n = before.low q in omega (arith, n);
  marked = λ q. let n = before.marked q in omega (arith, n);
}

-- the mark of the next one stands nowhere, and there is room for one more
fresh : (f : Outline) (t : ℕ) (v : Counting) → IsCounted f t v → (q : ℕ) → slice_index v.marks.items q ≢ t + 1
fresh f t v before q e = let low = before.marked q in omega (arith, e, low)

full_before : (f : Outline) (t : ℕ) (v : Counting) → IsCounted f t v → (q : ℕ) → full v (t + 1) q ≡ slice_index v.counts.items q + 1
full_before f t v before q = ap (λ (b : Bool). slice_index v.counts.items q + (if b then 0 else 1)) (ne_eqb (slice_index v.marks.items q) (t + 1) (fresh f t v before q))

pub room : (f : Outline) (t : ℕ) (v : Counting) → IsCounted f t v → t + 1 < 2 ^ 32 → (q : ℕ) → full v (t + 1) q < 2 ^ 32
room f t v before small q = let h = full_before f t v before q in let low = before.low q in omega (arith, h, low, small)

module _ (f : Outline) (t : ℕ) (v w : Counting) (spans : List (ℕ × ℕ))
    (lives_at : (t q : ℕ) (p : Point) → slice_get (points f) q ≡ Some p → LivesFrom f 0 t q ↔ (lives f t p ≡ true))
    (live : (q : ℕ) → Covers spans q ↔ LivesFrom f 0 t q)
    (short : is_held f t ≡ false) (before : IsCounted f t v) (sized : AreCounts (length (points f)) w)
    (same : (q : ℕ) → full w (t + 1) q ≡ full v (t + 1) q)
    (marked : (q : ℕ) → (slice_index w.marks.items q ≡ t + 1) ↔ ((slice_index v.marks.items q ≡ t + 1) ⊎ Covers spans q))
    (others : (q : ℕ) → (slice_index w.marks.items q ≡ t + 1) ⊎ (slice_index w.marks.items q ≡ slice_index v.marks.items q)) where
  full_now : (q : ℕ) → full w (t + 1) q ≡ slice_index v.counts.items q + 1
  full_now q = same q ∙ full_before f t v before q

  counted_yes : (q : ℕ) → Covers spans q → slice_index w.counts.items q ≡ slice_index v.counts.items q + 1
  counted_yes q c =
      let here = ap (λ (b : Bool). slice_index w.counts.items q + (if b then 0 else 1)) (eq-eqb (slice_index w.marks.items q) (t + 1) ((marked q).1 (inr c))) in
      let h : slice_index w.counts.items q + 0 ≡ slice_index v.counts.items q + 1 = sym here ∙ full_now q in
      omega (arith, h)

  counted_no : (q : ℕ) → ¬ Covers spans q → slice_index w.counts.items q ≡ slice_index v.counts.items q
  counted_no q c =
      let other : slice_index w.marks.items q ≢ t + 1 = λ e. elim ((marked q).0 e) [ inl old ↦ fresh f t v before q old | inr k ↦ c k ] in
      let here = ap (λ (b : Bool). slice_index w.counts.items q + (if b then 0 else 1)) (ne_eqb (slice_index w.marks.items q) (t + 1) other) in
      let h : slice_index w.counts.items q + 1 ≡ slice_index v.counts.items q + 1 = sym here ∙ full_now q in
      omega (arith, h)

  each : (q : ℕ) (p : Point) → slice_get (points f) q ≡ Some p → slice_index w.counts.items q ≡ count_by (is_short f p) (range_with_len 0 (t + 1))
  each q p at = elim (cases_Bool (lives f t p)) [
    | inl is ↦
        counted_yes q ((live q).1 ((lives_at t q p at).1 is)) ∙ ap (λ (n : ℕ). n + 1) (before.each q p at)
        ∙ sym (count_yes (is_short f p) t (ap (λ (b : Bool). not b && lives f t p) short ∙ is))
    | inr out ↦
        counted_no q (λ c. let is = (lives_at t q p at).0 ((live q).0 c) in let clash = sym out ∙ is in cc) ∙ before.each q p at
        ∙ sym (count_no (is_short f p) t (ap (λ (b : Bool). not b && lives f t p) short ∙ out))
  ]

  pub short_counted : IsCounted f (t + 1) w
  short_counted = record {
    sized = sized;
    each = each;
    low = λ q. let h = full_now q in let n = before.low q in omega (arith, h, n);
    marked = λ q. elim (others q) [ inl e ↦ omega (arith, e) | inr e ↦ let n = before.marked q in omega (arith, e, n) ];
  }

-- ---- no more is counted than there are at some point

count_grows : (p : ℕ → Bool) (n more : ℕ) → count_by p (range_with_len 0 n) ≤ count_by p (range_with_len 0 (n + more))
count_grows p n zero = let same : n ≡ n + zero = omega arith in let h = ap (λ (k : ℕ). count_by p (range_with_len 0 k)) same in omega (arith, h)
count_grows p n (suc more) =
    let up : n + suc more ≡ suc (n + more) = omega arith in
    let h = ap (λ (k : ℕ). count_by p (range_with_len 0 k)) up in
    let step = count_next p 0 (n + more) in
    let before = count_grows p n more in
    omega (arith, h, step, before)

most_at : (f : Outline) (ps : List Point) (q : ℕ) (p : Point) → slice_get ps q ≡ Some p → short_at f p ≤ most_short f ps
most_at f [] q p at = absurd cc
most_at f (x ∷ ps) zero p at =
    let same : short_at f x ≡ short_at f p = ap (short_at f) (same_Some x p at) in
    let whole : most_short f (x ∷ ps) ≡ max (short_at f x) (most_short f ps) = refl in
    omega (arith, same, whole)
most_at f (x ∷ ps) (suc q) p at =
    let rest = most_at f ps q p at in
    let whole : most_short f (x ∷ ps) ≡ max (short_at f x) (most_short f ps) = refl in
    omega (arith, rest, whole)

abbrev nowhere : Point
nowhere = record { before = None; acts = []; uses = []; next = [] }

pub reached_most : (f : Outline) (n reached : ℕ) (v : Counting) → IsCounted f n v → n ≤ f.temps → IsReached reached v → reached ≤ most_short f (points f)
reached_most f n reached v counted few at = elim (cases_lt at.0 (length (points f))) [
  | inl lt ↦
      let q = at.0 in
      let p = get_or (points f) q nowhere in
      let there : slice_get (points f) q ≡ Some p = slice_get-get_or (points f) q nowhere lt in
      let is = counted.each q p there in
      let all : f.temps ≡ n + (f.temps - n) = omega (arith, few) in
      let whole = ap (λ (k : ℕ). count_by (is_short f p) (range_with_len 0 k)) all in
      let grows = count_grows (is_short f p) n (f.temps - n) in
      let most = most_at f (points f) q p there in
      let low = at.1 in
      let short : short_at f p ≡ count_by (is_short f p) (range_with_len 0 f.temps) = refl in
      omega (arith, is, whole, grows, most, low, short)
  | inr past ↦
      let long = counted.sized.counts in
      let none : slice_index v.counts.items at.0 ≡ 0 = get_or_past v.counts.items at.0 0 (omega (arith, past, long)) in
      let low = at.1 in
      omega (arith, none, low)
]

-- ---- all counts are those of the definition

pub same_counts : (g : Point → ℕ) (xs : List ℕ) (ps : List Point) → length xs ≡ length ps → ((q : ℕ) (p : Point) → slice_get ps q ≡ Some p → slice_index xs q ≡ g p) → xs ≡ map g ps
same_counts g [] [] long all = refl
same_counts g [] (p ∷ ps) long all = absurd (omega (arith, long))
same_counts g (x ∷ xs) [] long all = absurd (omega (arith, long))
same_counts g (x ∷ xs) (p ∷ ps) long all =
    let first : x ≡ g p = all 0 p refl in
    let rest : xs ≡ map g ps = same_counts g xs ps (omega (arith, long)) (λ q r at. all (suc q) r at) in
    ap (λ (n : ℕ). n ∷ xs) first ∙ ap (λ (ns : List ℕ). g p ∷ ns) rest
