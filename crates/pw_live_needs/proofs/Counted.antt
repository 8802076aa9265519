-- Counts and marks, point by point and span by span.
use Rattle.std.proofs.Common.{◌≡◌, ◌≢◌, ◌⊎◌, ℕ, zero, suc, ◌+◌, ◌<◌, ◌≤◌, ◌==◌, Bool, true, false, cond, List, [], ◌∷◌, ◌++◌, length, get_or, max, set, take, drop, map, refl, sym, ap, subst, ◌∙◌, arith, inl, inr}
use Rattle.std.specs.Prelude.{if◌then◌else◌, slice_index, ◌↔◌}
use Rattle.std.specs.List.{count_by, range_with_len}
use Rattle.std.proofs.lemmas.Bool.{cases_eq, cases_lt, ne_eqb, eq-eqb}
use Rattle.std.proofs.lemmas.List.{drop_all, get_or-set_same, get_or-set_other}
use Rattle.std.proofs.lemmas.List.Sums.{sum_by_push}
use Rattle.pw_live_spans.specs.Spans.{IsIn, Covers}
use Rattle.pw_live_spans.proofs.Steps.{first_more}
use Rattle.pw_flow.specs.Outline.{Outline}
use Rattle.pw_live.specs.Points.{Point}
use Rattle.pw_live_needs.specs.Needs.{short_at, most_short}
use Rattle.pw_live_needs.specs.Counts.{full, IsReached, greatest}
use Rattle.pw_live_needs.specs.declared.counting.Counting.{Counting}

-- ---- one more number of a range

range_last : (a n : ℕ) → range_with_len a (suc n) ≡ range_with_len a n ++ (a + n) ∷ []
range_last a zero = let z : a ≡ a + zero = omega arith in ap (λ (k : ℕ). k ∷ []) z
range_last a (suc n) =
    let same : (a + 1) + n ≡ a + suc n = omega arith in
    ap (λ (xs : List ℕ). a ∷ xs) (range_last (a + 1) n ∙ ap (λ (k : ℕ). range_with_len (a + 1) n ++ k ∷ []) same)

pub count_next : (p : ℕ → Bool) (a n : ℕ) → count_by p (range_with_len a (suc n)) ≡ count_by p (range_with_len a n) + cond (p (a + n)) 1 0
count_next p a n = ap (count_by p) (range_last a n) ∙ sum_by_push (λ (x : ℕ). cond (p x) 1 0) (range_with_len a n) (a + n)

pub count_yes : (p : ℕ → Bool) (n : ℕ) → p n ≡ true → count_by p (range_with_len 0 (n + 1)) ≡ count_by p (range_with_len 0 n) + 1
count_yes p n e =
    let up : n + 1 ≡ suc n = omega arith in
    let z : 0 + n ≡ n = omega arith in
    ap (λ (k : ℕ). count_by p (range_with_len 0 k)) up ∙ count_next p 0 n ∙ ap (λ (k : ℕ). count_by p (range_with_len 0 n) + cond (p k) 1 0) z ∙ ap (λ (b : Bool). count_by p (range_with_len 0 n) + cond b 1 0) e

pub count_no : (p : ℕ → Bool) (n : ℕ) → p n ≡ false → count_by p (range_with_len 0 (n + 1)) ≡ count_by p (range_with_len 0 n)
count_no p n e =
    let up : n + 1 ≡ suc n = omega arith in
    let z : 0 + n ≡ n = omega arith in
    let none : count_by p (range_with_len 0 n) + 0 ≡ count_by p (range_with_len 0 n) = omega arith in
    ap (λ (k : ℕ). count_by p (range_with_len 0 k)) up ∙ count_next p 0 n ∙ ap (λ (k : ℕ). count_by p (range_with_len 0 n) + cond (p k) 1 0) z ∙ ap (λ (b : Bool). count_by p (range_with_len 0 n) + cond b 1 0) e ∙ none

-- ---- one point is counted

abbrev pub whole : List ℕ → List ℕ → ℕ → ℕ → ℕ
whole counts marks mark q = slice_index counts q + (if slice_index marks q == mark then 0 else 1)

-- the point has the mark now
pub marked_here : (counts marks : List ℕ) (mark q : ℕ) → q < length counts → q < length marks → slice_index marks q ≢ mark
    → (p : ℕ) → whole (set counts q (slice_index counts q + 1)) (set marks q mark) mark p ≡ whole counts marks mark p
marked_here counts marks mark q count_lt mark_lt other p = elim (cases_eq p q) [
  | inl same ↦
      let one : slice_index (set counts q (slice_index counts q + 1)) p ≡ slice_index counts q + 1 = ap (slice_index (set counts q (slice_index counts q + 1))) same ∙ get_or-set_same counts q (slice_index counts q + 1) 0 count_lt in
      let two : slice_index (set marks q mark) p ≡ mark = ap (slice_index (set marks q mark)) same ∙ get_or-set_same marks q mark 0 mark_lt in
      let now : (slice_index (set marks q mark) p == mark) ≡ true = eq-eqb (slice_index (set marks q mark) p) mark two in
      let was : (slice_index marks p == mark) ≡ false = ne_eqb (slice_index marks p) mark (λ e. other (ap (slice_index marks) (sym same) ∙ e)) in
      let old : slice_index counts p ≡ slice_index counts q = ap (slice_index counts) same in
      ap (λ (b : Bool). slice_index (set counts q (slice_index counts q + 1)) p + (if b then 0 else 1)) now
      ∙ (let h : slice_index (set counts q (slice_index counts q + 1)) p + 0 ≡ slice_index counts p + 1 = omega (arith, one, old) in h)
      ∙ sym (ap (λ (b : Bool). slice_index counts p + (if b then 0 else 1)) was)
  | inr differs ↦
      ap (λ (n : ℕ). n + (if slice_index (set marks q mark) p == mark then 0 else 1)) (get_or-set_other counts q p (slice_index counts q + 1) 0 differs)
      ∙ ap (λ (n : ℕ). slice_index counts p + (if n == mark then 0 else 1)) (get_or-set_other marks q p mark 0 differs)
]

pub marks_here : (marks : List ℕ) (mark q : ℕ) → q < length marks → (p : ℕ) → (slice_index (set marks q mark) p ≡ mark) ↔ ((slice_index marks p ≡ mark) ⊎ (p ≡ q))
marks_here marks mark q lt p = elim (cases_eq p q) [
  | inl same ↦ (λ e. inr same, λ h. ap (slice_index (set marks q mark)) same ∙ get_or-set_same marks q mark 0 lt)
  | inr differs ↦
      let kept = get_or-set_other marks q p mark 0 differs in
      (λ e. inl (sym kept ∙ e), λ h. elim h [ inl e ↦ kept ∙ e | inr e ↦ absurd (differs e) ])
]

pub others_here : (marks : List ℕ) (mark q : ℕ) → q < length marks → (p : ℕ) → (slice_index (set marks q mark) p ≡ mark) ⊎ (slice_index (set marks q mark) p ≡ slice_index marks p)
others_here marks mark q lt p = elim (cases_eq p q) [
  | inl same ↦ inl (ap (slice_index (set marks q mark)) same ∙ get_or-set_same marks q mark 0 lt)
  | inr differs ↦ inr (get_or-set_other marks q p mark 0 differs)
]

-- the point has the mark already
pub marks_there : (marks : List ℕ) (mark q : ℕ) → slice_index marks q ≡ mark → (p : ℕ) → (slice_index marks p ≡ mark) ↔ ((slice_index marks p ≡ mark) ⊎ (p ≡ q))
marks_there marks mark q is p = (λ e. inl e, λ h. elim h [ inl e ↦ e | inr e ↦ ap (slice_index marks) e ∙ is ])

-- ---- one point more of a span, and one span more

pub span_more : (Old Cur New : ℕ → Type 0) (from q : ℕ) → from ≤ q → ((p : ℕ) → New p ↔ (Cur p ⊎ (p ≡ q))) → ((p : ℕ) → Cur p ↔ (Old p ⊎ ((from ≤ p) × (p < q))))
    → (p : ℕ) → New p ↔ (Old p ⊎ ((from ≤ p) × (p < q + 1)))
span_more Old Cur New from q low now before p = (
  λ h. elim ((now p).0 h) [
    | inl c ↦ elim ((before p).0 c) [ inl o ↦ inl o | inr w ↦ inr (w.0, let lt = w.1 in omega (arith, lt)) ]
    | inr e ↦ inr (omega (arith, e, low), omega (arith, e))
  ],
  λ h. (now p).1 (elim h [
    | inl o ↦ inl ((before p).1 (inl o))
    | inr w ↦ elim (cases_eq p q) [
      | inl same ↦ inr same
      | inr differs ↦ inl ((before p).1 (inr (w.0, let lt = w.1 in omega (arith, lt, differs))))
    ]
  ]),
)

pub spans_more : (Old Cur New : ℕ → Type 0) (spans : List (ℕ × ℕ)) (i : ℕ) (span : ℕ × ℕ) → i < length spans → get_or spans i span ≡ span → ((p : ℕ) → New p ↔ (Cur p ⊎ IsIn span p))
    → ((p : ℕ) → Cur p ↔ (Old p ⊎ Covers (take i spans) p)) → (p : ℕ) → New p ↔ (Old p ⊎ Covers (take (i + 1) spans) p)
spans_more Old Cur New spans i span lt is now before p = (
  λ h. elim ((now p).0 h) [
    | inl c ↦ elim ((before p).0 c) [
      | inl o ↦ inl o
      | inr w ↦ inr (w.0, (first_more spans i span w.0 lt is).1 (inl w.1), w.2)
    ]
    | inr k ↦ inr (span, (first_more spans i span span lt is).1 (inr refl), k)
  ],
  λ h. (now p).1 (elim h [
    | inl o ↦ inl ((before p).1 (inl o))
    | inr w ↦ elim ((first_more spans i span w.0 lt is).0 w.1) [
      | inl old ↦ inl ((before p).1 (inr (w.0, old, w.2)))
      | inr same ↦ inr (subst (λ (s : ℕ × ℕ). IsIn s p) same w.2)
    ]
  ]),
)

pub then_others : (mark a b c : ℕ) → (c ≡ mark) ⊎ (c ≡ b) → (b ≡ mark) ⊎ (b ≡ a) → (c ≡ mark) ⊎ (c ≡ a)
then_others mark a b c (inl e) before = inl e
then_others mark a b c (inr e) (inl d) = inl (e ∙ d)
then_others mark a b c (inr e) (inr d) = inr (e ∙ d)

-- ---- what is counted grows, and what has been reached is reached still

pub counts_grow : (v w : Counting) (mark p : ℕ) (Now : Type 0) → full w mark p ≡ full v mark p → (slice_index w.marks.items p ≡ mark) ↔ ((slice_index v.marks.items p ≡ mark) ⊎ Now) → slice_index v.counts.items p ≤ slice_index w.counts.items p
counts_grow v w mark p Now same marked = elim (cases_eq (slice_index w.marks.items p) mark) [
  | inl now ↦
      let after = ap (λ (b : Bool). slice_index w.counts.items p + (if b then 0 else 1)) (eq-eqb (slice_index w.marks.items p) mark now) in
      elim (cases_eq (slice_index v.marks.items p) mark) [
        | inl was ↦
            let before = ap (λ (b : Bool). slice_index v.counts.items p + (if b then 0 else 1)) (eq-eqb (slice_index v.marks.items p) mark was) in
            let h : slice_index w.counts.items p + 0 ≡ slice_index v.counts.items p + 0 = sym after ∙ same ∙ before in
            omega (arith, h)
        | inr other ↦
            let before = ap (λ (b : Bool). slice_index v.counts.items p + (if b then 0 else 1)) (ne_eqb (slice_index v.marks.items p) mark other) in
            let h : slice_index w.counts.items p + 0 ≡ slice_index v.counts.items p + 1 = sym after ∙ same ∙ before in
            omega (arith, h)
      ]
  | inr not_now ↦
      let after = ap (λ (b : Bool). slice_index w.counts.items p + (if b then 0 else 1)) (ne_eqb (slice_index w.marks.items p) mark not_now) in
      let before = ap (λ (b : Bool). slice_index v.counts.items p + (if b then 0 else 1)) (ne_eqb (slice_index v.marks.items p) mark (λ e. not_now (marked.1 (inl e)))) in
      let h : slice_index w.counts.items p + 1 ≡ slice_index v.counts.items p + 1 = sym after ∙ same ∙ before in
      omega (arith, h)
]

pub reached_more : (v w : Counting) (most more : ℕ) → ((p : ℕ) → slice_index v.counts.items p ≤ slice_index w.counts.items p) → IsReached most v → IsReached more w → IsReached (max most more) w
reached_more v w most more grows before now = elim (cases_lt most more) [
  | inl lt ↦ let high = now.1 in (now.0, omega (arith, lt, high))
  | inr le ↦ let high = before.1 in let up = grows before.0 in (before.0, omega (arith, le, high, up))
]

-- ---- the greatest

pub greatest_more : (most n : ℕ) (ns : List ℕ) → max most (greatest (n ∷ ns)) ≡ max (max most n) (greatest ns)
greatest_more most n ns = let g = greatest ns in omega arith

pub same_most : (f : Outline) (ps : List Point) → greatest (map (short_at f) ps) ≡ most_short f ps
same_most f [] = refl
same_most f (p ∷ ps) = ap (λ (n : ℕ). max (short_at f p) n) (same_most f ps)

drop_next : (ns : List ℕ) (i n : ℕ) → i < length ns → n ≡ get_or ns i n → drop i ns ≡ n ∷ drop (suc i) ns
drop_next [] i n lt at = absurd (omega (arith, lt))
drop_next (m ∷ ns) zero n lt at = ap (λ (k : ℕ). k ∷ ns) (sym at)
drop_next (m ∷ ns) (suc i) n lt at = drop_next ns i n (omega (arith, lt)) at

pub greatest_next : (most : ℕ) (ns : List ℕ) (i n : ℕ) → i < length ns → n ≡ get_or ns i n → max most (greatest (drop i ns)) ≡ max (max most n) (greatest (drop (i + 1) ns))
greatest_next most ns i n lt at =
    let up : suc i ≡ i + 1 = omega arith in
    ap (λ (ms : List ℕ). max most (greatest ms)) (drop_next ns i n lt at ∙ ap (λ (q : ℕ). n ∷ drop q ns) up) ∙ greatest_more most n (drop (i + 1) ns)

pub greatest_end : (most : ℕ) (ns : List ℕ) (i : ℕ) → length ns ≤ i → max most (greatest (drop i ns)) ≡ most
greatest_end most ns i past = ap (λ (ms : List ℕ). max most (greatest ms)) (drop_all i ns past) ∙ (let h : max most 0 ≡ most = omega arith in h)

pub here : {X : Type 0} (xs : List X) (i : ℕ) (d : X) → i < length xs → get_or xs i d ≡ get_or xs i (get_or xs i d)
here [] i d lt = absurd (omega (arith, lt))
here (x ∷ xs) zero d lt = refl
here {X} (x ∷ xs) (suc i) d lt = again xs i d (get_or xs i d) (omega (arith, lt))
  where
    again : (ys : List X) (k : ℕ) (d e : X) → k < length ys → get_or ys k d ≡ get_or ys k e
    again [] k d e lt = absurd (omega (arith, lt))
    again (y ∷ ys) zero d e lt = refl
    again (y ∷ ys) (suc k) d e lt = again ys k d e (omega (arith, lt))

-- the points of a whole span
pub span_end : (Old New : ℕ → Type 0) (from to q : ℕ) → to ≤ q → (q ≤ to) ⊎ (q ≡ from) → ((p : ℕ) → New p ↔ (Old p ⊎ ((from ≤ p) × (p < q)))) → (p : ℕ) → New p ↔ (Old p ⊎ ((from ≤ p) × (p < to)))
span_end Old New from to q past high now p = (
  λ h. elim ((now p).0 h) [ inl o ↦ inl o | inr w ↦ inr (w.0, below w.0 w.1) ],
  λ h. (now p).1 (elim h [ inl o ↦ inl o | inr w ↦ inr (w.0, let lt = w.1 in omega (arith, lt, past)) ]),
) where
  below : from ≤ p → p < q → p < to
  below low lt = elim high [ inl le ↦ omega (arith, lt, le) | inr e ↦ omega (arith, low, lt, e) ]
