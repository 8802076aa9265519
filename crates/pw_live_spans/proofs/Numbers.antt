-- The points of a function by number.
use Rattle.std.proofs.Common.{◌≡◌, ℕ, zero, suc, ◌+◌, ◌-◌, ◌<◌, ◌≤◌, true, List, [], ◌∷◌, ◌++◌, length, drop, refl, sym, ap, ◌∙◌, arith, inl, inr}
use Rattle.std.specs.Prelude.{None, Some, slice_get, ◌↔◌}
use Rattle.std.specs.List.{flat_map}
use Rattle.std.proofs.lemmas.Bool.{cases_lt}
use Rattle.std.proofs.lemmas.List.Concat.{flat_map-cons}
use Rattle.std.proofs.lemmas.Option.{same_Some, slice_get_within, slice_get_cases}
use Rattle.pw_flow.specs.Outline.{Act, Stretch, Outline}
use Rattle.pw_live.specs.Liveness.{needs_block, at_front, is_live, is_live_in}
use Rattle.pw_live.specs.Points.{Point, point_in, points_behind, points_in, points, lives}
use Rattle.pw_live_spans.specs.LivePoints.{points_before, LivesFrom}

-- ---- two lists

within : {A : Type 0} (xs ys : List A) (n : ℕ) → n < length xs → slice_get (xs ++ ys) n ≡ slice_get xs n
within [] ys n lt = absurd (omega (arith, lt))
within (x ∷ xs) ys zero lt = refl
within (x ∷ xs) ys (suc n) lt = within xs ys n (omega (arith, lt))

beyond : {A : Type 0} (xs ys : List A) (n k : ℕ) → n ≡ length xs + k → slice_get (xs ++ ys) n ≡ slice_get ys k
beyond [] ys n k e = let same : n ≡ k = omega (arith, e) in ap (slice_get ys) same
beyond (x ∷ xs) ys zero k e = absurd (omega (arith, e))
beyond (x ∷ xs) ys (suc n) k e = beyond xs ys n k (omega (arith, e))

-- ---- one block

-- a point of a block from an operation on has what is left of the block
record IsLeft (s : Stretch) (acts : List Act) (p : Point) : Type 0 where
  acts_are : p.acts ≡ acts
  uses_are : p.uses ≡ s.uses
  next_are : p.next ≡ s.next

left_at : (s : Stretch) (acts : List Act) (i : ℕ) (p : Point) → slice_get (points_behind s acts) i ≡ Some p → IsLeft s (drop (suc i) acts) p
left_at s [] i p e = absurd cc
left_at s (a ∷ acts) zero p e =
    let same = same_Some (point_in s (Some a) acts) p e in
    record { acts_are = sym (ap (λ (q : Point). q.acts) same); uses_are = sym (ap (λ (q : Point). q.uses) same); next_are = sym (ap (λ (q : Point). q.next) same) }
left_at s (a ∷ acts) (suc i) p e = left_at s acts i p e

left_in : (s : Stretch) (i : ℕ) (p : Point) → slice_get (points_in s) i ≡ Some p → IsLeft s (drop i s.acts) p
left_in s zero p e =
    let same = same_Some (point_in s None s.acts) p e in
    record { acts_are = sym (ap (λ (q : Point). q.acts) same); uses_are = sym (ap (λ (q : Point). q.uses) same); next_are = sym (ap (λ (q : Point). q.next) same) }
left_in s (suc i) p e = left_at s s.acts i p e

many_behind : (s : Stretch) (acts : List Act) → length (points_behind s acts) ≡ length acts
many_behind s [] = refl
many_behind s (a ∷ acts) = ap suc (many_behind s acts)

many_in : (s : Stretch) → length (points_in s) ≡ length s.acts + 1
many_in s = let h = many_behind s s.acts in omega (arith, h)

lives_left : (f : Outline) (t : ℕ) (s : Stretch) (i : ℕ) (p : Point) → slice_get (points_in s) i ≡ Some p → lives f t p ≡ is_live f t (drop i s.acts) s.uses s.next
lives_left f t s i p e =
    let left = left_in s i p e in
    ap (λ (acts : List Act). is_live f t acts p.uses p.next) left.acts_are
    ∙ ap (λ (uses : List ℕ). is_live f t (drop i s.acts) uses p.next) left.uses_are
    ∙ ap (λ (next : List ℕ). is_live f t (drop i s.acts) s.uses next) left.next_are

-- ---- block by block

record Stands (blocks : List Stretch) (q : ℕ) (p : Point) : Type 0 where
  block : ℕ
  stretch : Stretch
  at : slice_get blocks block ≡ Some stretch
  inside : ℕ
  is : q ≡ points_before blocks block + inside
  point : slice_get (points_in stretch) inside ≡ Some p

point_of : (blocks : List Stretch) (b : ℕ) (s : Stretch) (i q : ℕ) → slice_get blocks b ≡ Some s → i ≤ length s.acts → q ≡ points_before blocks b + i → slice_get (flat_map points_in blocks) q ≡ slice_get (points_in s) i
point_of [] b s i q e le is = absurd cc
point_of (x ∷ rest) zero s i q e le is =
    let its : x ≡ s = same_Some x s e in
    let here : q ≡ i = omega (arith, is) in
    let long = many_in s in
    ap (λ (ps : List Point). slice_get ps q) (flat_map-cons points_in x rest)
    ∙ ap (λ (y : Stretch). slice_get (points_in y ++ flat_map points_in rest) q) its
    ∙ within (points_in s) (flat_map points_in rest) q (omega (arith, le, long, here))
    ∙ ap (slice_get (points_in s)) here
point_of (x ∷ rest) (suc b) s i q e le is =
    let long = many_in x in
    let later : q ≡ length (points_in x) + (points_before rest b + i) = omega (arith, is, long) in
    ap (λ (ps : List Point). slice_get ps q) (flat_map-cons points_in x rest)
    ∙ beyond (points_in x) (flat_map points_in rest) q (points_before rest b + i) later
    ∙ point_of rest b s i (points_before rest b + i) e le refl

place_of : (blocks : List Stretch) (q : ℕ) (p : Point) → slice_get (flat_map points_in blocks) q ≡ Some p → Stands blocks q p
place_of [] q p e = absurd cc
place_of (x ∷ rest) q p e =
    let long = many_in x in
    let here : slice_get (points_in x ++ flat_map points_in rest) q ≡ Some p = ap (λ (ps : List Point). slice_get ps q) (sym (flat_map-cons points_in x rest)) ∙ e in
    elim (cases_lt q (length (points_in x))) [
      | inl lt ↦ record { block = 0; stretch = x; at = refl; inside = q; is = omega arith; point = sym (within (points_in x) (flat_map points_in rest) q lt) ∙ here }
      | inr past ↦
          let k = q - length (points_in x) in
          let whole : q ≡ length (points_in x) + k = omega (arith, past) in
          let r = place_of rest k p (sym (beyond (points_in x) (flat_map points_in rest) q k whole) ∙ here) in
          let is = r.is in
          record { block = suc r.block; stretch = r.stretch; at = r.at; inside = r.inside; is = omega (arith, is, whole, long); point = r.point }
    ]

-- ---- what is live by number

pub lives_there : (f : Outline) (t q : ℕ) (p : Point) → slice_get (points f) q ≡ Some p → LivesFrom f 0 t q ↔ (lives f t p ≡ true)
lives_there f t q p is = (
  λ h.
      let s = h.stretch in
      let i = h.in_block.inside in
      let point : slice_get (points_in s) i ≡ Some p = sym (point_of f.blocks h.block s i q h.at h.in_block.high h.in_block.is) ∙ is in
      lives_left f t s i p point ∙ h.in_block.live,
  λ e.
      let r = place_of f.blocks q p is in
      let long = many_in r.stretch in
      let lt = slice_get_within (points_in r.stretch) r.inside p r.point in
      record {
        block = r.block;
        stretch = r.stretch;
        at = r.at;
        low = omega arith;
        in_block = record { inside = r.inside; low = omega arith; high = omega (arith, lt, long); is = r.is; live = sym (lives_left f t r.stretch r.inside p r.point) ∙ e };
      },
)

-- where something is live is a point
pub lives_at : (f : Outline) (t q : ℕ) → LivesFrom f 0 t q → (p : Point) × (slice_get (points f) q ≡ Some p)
lives_at f t q h =
    let s = h.stretch in
    let i = h.in_block.inside in
    let high = h.in_block.high in
    let long = many_in s in
    let r = there (points_in s) i (omega (arith, high, long)) in
    (r.0, point_of f.blocks h.block s i q h.at h.in_block.high h.in_block.is ∙ r.1)
  where
    there : (ps : List Point) (k : ℕ) → k < length ps → (p : Point) × (slice_get ps k ≡ Some p)
    there [] k lt = absurd (omega (arith, lt))
    there (p ∷ ps) zero lt = (p, refl)
    there (p ∷ ps) (suc k) lt = there ps k (omega (arith, lt))

-- the first point is the front of the first block
first_block : (blocks : List Stretch) (b i : ℕ) (s : Stretch) → slice_get blocks b ≡ Some s → 0 ≡ points_before blocks b + i → (b ≡ 0) × (i ≡ 0)
first_block [] b i s e is = absurd cc
first_block (x ∷ rest) zero i s e is = (refl, omega (arith, is))
first_block (x ∷ rest) (suc b) i s e is = absurd (omega (arith, is))

none_before : (blocks : List Stretch) → points_before blocks 0 ≡ 0
none_before [] = refl
none_before (x ∷ rest) = refl

none_live : (f : Outline) (t n : ℕ) → slice_get f.blocks 0 ≡ None → at_front n f t 0 ≡ true → ⊥
none_live f t zero is e = cc
none_live f t (suc n) is e = let none : needs_block (at_front n f t) t None ≡ true = ap (needs_block (at_front n f t) t) (sym is) ∙ e in cc

pub lives_first : (f : Outline) (t : ℕ) → ((s : Stretch) → slice_get f.blocks 0 ≡ Some s → is_live_in f t 0 ≡ is_live f t s.acts s.uses s.next) → LivesFrom f 0 t 0 ↔ (is_live_in f t 0 ≡ true)
lives_first f t front = (
  λ h.
      let first = first_block f.blocks h.block h.in_block.inside h.stretch h.at h.in_block.is in
      let is : slice_get f.blocks 0 ≡ Some h.stretch = ap (slice_get f.blocks) (sym first.0) ∙ h.at in
      front h.stretch is ∙ ap (λ (i : ℕ). is_live f t (drop i h.stretch.acts) h.stretch.uses h.stretch.next) (sym first.1) ∙ h.in_block.live,
  λ e. elim (slice_get_cases f.blocks 0).1 [
    | inl w ↦
        let none = none_before f.blocks in
        record {
          block = 0;
          stretch = w.0;
          at = w.2;
          low = omega arith;
          in_block = record { inside = 0; low = omega arith; high = omega arith; is = omega (arith, none); live = sym (front w.0 w.2) ∙ e };
        }
    | inr w ↦ absurd (none_live f t (length f.blocks) w.1 e)
  ],
)
