-- A walk back over the points of a function, operation by operation and block by block.
use Rattle.std.proofs.Common.{◌≡◌, ◌≢◌, ◌⊎◌, ℕ, zero, suc, ◌+◌, ◌<◌, ◌≤◌, ◌&&◌, ◌||◌, not, Bool, true, false, List, [], ◌∷◌, length, get_or, drop, ◌==◌, refl, sym, ap, subst, ◌∙◌, arith, inl, inr}
use Rattle.std.specs.Prelude.{Option, None, Some, slice_get, Contains, ◌↔◌}
use Rattle.std.proofs.lemmas.Bool.{cases_eq, cases_Bool, or_cases, or_left, or_right, and_from, eqb-true, eq-eqb}
use Rattle.std.proofs.lemmas.Option.{same_Some, slice_get_within}
use Rattle.pw_flow.specs.Outline.{Act, Stretch, Outline}
use Rattle.pw_live.specs.Liveness.{has, is_that, is_live}
use Rattle.pw_live_spans.specs.Spans.{Covers}
use Rattle.pw_live_spans.specs.Walking.{IsOpen, Marked}
use Rattle.pw_live_spans.specs.LivePoints.{points_before, LivesIn, LivesFrom, StandsBefore, StandsInside, IsLiveBefore}
use Rattle.pw_live_spans.specs.declared.walk.Walk.{Walk}

-- ---- tests

listed : (t : ℕ) (ts : List ℕ) → Contains ts t → has t ts ≡ true
listed t ts h = at ts h.0 h.1 h.2
  where
    at : (us : List ℕ) (k : ℕ) → k < length us → get_or us k t ≡ t → has t us ≡ true
    at [] k lt e = absurd (omega (arith, lt))
    at (u ∷ us) zero lt e = or_left (u == t) (has t us) (eq-eqb u t e)
    at (u ∷ us) (suc k) lt e = or_right (u == t) (has t us) (at us k (omega (arith, lt)) e)

stands : (t : ℕ) (ts : List ℕ) → has t ts ≡ true → Contains ts t
stands t [] e = absurd cc
stands t (u ∷ us) e = elim (or_cases (u == t) (has t us) e) [
  | inl h ↦ (0, omega arith, eqb-true u t h)
  | inr h ↦ let k = stands t us h in (suc k.0, (let lt = k.1 in omega (arith, lt)), k.2)
]

other : (o : Option ℕ) (t : ℕ) → is_that o t ≡ false → o ≢ Some t
other o t e same = absurd (let one : is_that o t ≡ true = ap (λ (p : Option ℕ). is_that p t) same ∙ eq-eqb t t refl in cc)

not_that : (o : Option ℕ) (t : ℕ) → o ≢ Some t → is_that o t ≡ false
not_that None t apart = refl
not_that (Some d) t apart = elim (cases_Bool (d == t)) [ inl e ↦ absurd (apart (ap Some (eqb-true d t e))) | inr e ↦ e ]

both : (x y : Bool) → (not x && y) ≡ true → (x ≡ false) × (y ≡ true)
both true y e = absurd cc
both false y e = (refl, e)

-- ---- an operation

dropped : {X : Type 0} (xs : List X) (k : ℕ) (x : X) → slice_get xs k ≡ Some x → drop k xs ≡ x ∷ drop (suc k) xs
dropped [] k x e = absurd cc
dropped {X} (y ∷ ys) zero x e = ap (λ (z : X). z ∷ ys) (same_Some y x e)
dropped (y ∷ ys) (suc k) x e = dropped ys k x e

all_dropped : {X : Type 0} (xs : List X) → drop (length xs) xs ≡ []
all_dropped [] = refl
all_dropped (x ∷ xs) = all_dropped xs

-- it is live before an operation where it is read, or is live behind it and not written
live_before : (f : Outline) (s : Stretch) (k : ℕ) (a : Act) (t : ℕ) (Behind : ℕ → Type 0) → slice_get s.acts k ≡ Some a
    → (Behind t ↔ (is_live f t (drop (suc k) s.acts) s.uses s.next ≡ true))
    → IsLiveBefore a Behind t ↔ (is_live f t (drop k s.acts) s.uses s.next ≡ true)
live_before f s k a t Behind is behind =
    let rest = is_live f t (drop (suc k) s.acts) s.uses s.next in
    let here : is_live f t (drop k s.acts) s.uses s.next ≡ (has t a.uses || (not (is_that a.defines t) && rest)) = ap (λ (acts : List Act). is_live f t acts s.uses s.next) (dropped s.acts k a is) in (
      λ h. here ∙ elim h [
        | inl c ↦ or_left (has t a.uses) (not (is_that a.defines t) && rest) (listed t a.uses c)
        | inr b ↦ or_right (has t a.uses) (not (is_that a.defines t) && rest) (and_from (not (is_that a.defines t)) rest (ap not (not_that a.defines t b.1)) (behind.0 b.0))
      ],
      λ e. elim (or_cases (has t a.uses) (not (is_that a.defines t) && rest) (sym here ∙ e)) [
        | inl c ↦ inl (stands t a.uses c)
        | inr b ↦ let two = both (is_that a.defines t) rest b in inr (behind.1 two.1, other a.defines t two.0)
      ],
    )

-- what is live in a block from an operation on: at the operation, or behind it
at_or_behind : (f : Outline) (b : ℕ) (s : Stretch) (k t q : ℕ) → LivesIn f b s k t q → ((q ≡ points_before f.blocks b + k) × (is_live f t (drop k s.acts) s.uses s.next ≡ true)) ⊎ LivesIn f b s (suc k) t q
at_or_behind f b s k t q h = elim (cases_eq h.inside k) [
  | inl e ↦ inl (h.is ∙ ap (λ (j : ℕ). points_before f.blocks b + j) e, ap (λ (j : ℕ). is_live f t (drop j s.acts) s.uses s.next) (sym e) ∙ h.live)
  | inr apart ↦ let low = h.low in inr (record { inside = h.inside; low = omega (arith, low, apart); high = h.high; is = h.is; live = h.live })
]

wider : (f : Outline) (b : ℕ) (s : Stretch) (k t q : ℕ) → LivesIn f b s (suc k) t q → LivesIn f b s k t q
wider f b s k t q h = let low = h.low in record { inside = h.inside; low = omega (arith, low); high = h.high; is = h.is; live = h.live }

pub act_step : (f : Outline) (b : ℕ) (s : Stretch) (k : ℕ) (a : Act) (old new : Walk) → slice_get s.acts k ≡ Some a → new.place + 1 ≡ old.place
    → ((u q : ℕ) → Marked new u q ↔ (Marked old u q ⊎ (IsLiveBefore a (IsOpen old) u × (q ≡ new.place))))
    → ((u : ℕ) → IsOpen new u ↔ IsLiveBefore a (IsOpen old) u)
    → StandsInside f b s (suc k) old → StandsInside f b s k new
act_step f b s k a old new is place marked opens h =
    let before = h.place in
    let here : new.place ≡ points_before f.blocks b + k = omega (arith, place, before) in
    let high = slice_get_within s.acts k a is in
    record {
      place = here;
      marked = λ t q. (
        λ m. elim ((marked t q).0 m) [
          | inl o ↦ elim ((h.marked t q).0 o) [ inl later ↦ inl later | inr inside ↦ inr (wider f b s k t q inside) ]
          | inr n ↦ inr (record { inside = k; low = omega arith; high = omega (arith, high); is = n.1 ∙ here; live = (live_before f s k a t (IsOpen old) is (h.opens t)).0 n.0 })
        ],
        λ m. elim m [
          | inl later ↦ (marked t q).1 (inl ((h.marked t q).1 (inl later)))
          | inr inside ↦ elim (at_or_behind f b s k t q inside) [
            | inl now ↦ (marked t q).1 (inr ((live_before f s k a t (IsOpen old) is (h.opens t)).1 now.1, now.0 ∙ sym here))
            | inr behind ↦ (marked t q).1 (inl ((h.marked t q).1 (inr behind)))
          ]
        ],
      );
      opens = λ t. (
        λ o. (live_before f s k a t (IsOpen old) is (h.opens t)).0 ((opens t).0 o),
        λ e. (opens t).1 ((live_before f s k a t (IsOpen old) is (h.opens t)).1 e),
      );
    }

-- ---- blocks

pub no_points : (blocks : List Stretch) → points_before blocks 0 ≡ 0
no_points [] = refl
no_points (s ∷ rest) = refl

pub points_past : (blocks : List Stretch) (b : ℕ) → length blocks ≤ b → points_before blocks b ≡ points_before blocks (length blocks)
points_past [] b le = refl
points_past (s ∷ rest) zero le = absurd (omega (arith, le))
points_past (s ∷ rest) (suc b) le = ap (λ (n : ℕ). length s.acts + 1 + n) (points_past rest b (omega (arith, le)))

pub next_block : (blocks : List Stretch) (b : ℕ) (s : Stretch) → slice_get blocks b ≡ Some s → points_before blocks (b + 1) ≡ points_before blocks b + length s.acts + 1
next_block [] b s e = absurd cc
next_block (x ∷ rest) zero s e =
    let same = ap (λ (y : Stretch). length y.acts) (same_Some x s e) in
    let none = no_points rest in
    omega (arith, same, none)
next_block (x ∷ rest) (suc b) s e = let h = next_block rest b s e in let step : suc b + 1 ≡ suc (b + 1) = omega arith in ap (points_before (x ∷ rest)) step ∙ omega (arith, h)

pub end_step : (f : Outline) (b : ℕ) (s : Stretch) (old new : Walk) → slice_get f.blocks b ≡ Some s → new.place + 1 ≡ old.place
    → ((u q : ℕ) → Marked new u q ↔ (Marked old u q ⊎ ((is_live f u [] s.uses s.next ≡ true) × (q ≡ new.place))))
    → ((u : ℕ) → IsOpen new u ↔ (is_live f u [] s.uses s.next ≡ true))
    → StandsBefore f (b + 1) old → StandsInside f b s (length s.acts) new
end_step f b s old new is place marked opens h =
    let before = h.place in
    let next = next_block f.blocks b s is in
    let here : new.place ≡ points_before f.blocks b + length s.acts = omega (arith, place, before, next) in
    let left = all_dropped s.acts in
    let live = λ (t : ℕ). ap (λ (acts : List Act). is_live f t acts s.uses s.next) left in
    record {
      place = here;
      marked = λ t q. (
        λ m. elim ((marked t q).0 m) [
          | inl o ↦ inl ((h.marked t q).0 o)
          | inr n ↦ inr (record { inside = length s.acts; low = omega arith; high = omega arith; is = n.1 ∙ here; live = live t ∙ n.0 })
        ],
        λ m. elim m [
          | inl later ↦ (marked t q).1 (inl ((h.marked t q).1 later))
          | inr inside ↦
              let low = inside.low in
              let high = inside.high in
              let whole : inside.inside ≡ length s.acts = omega (arith, low, high) in
              let there : q ≡ points_before f.blocks b + length s.acts = inside.is ∙ ap (λ (j : ℕ). points_before f.blocks b + j) whole in
              (marked t q).1 (inr (sym (live t) ∙ ap (λ (j : ℕ). is_live f t (drop j s.acts) s.uses s.next) (sym whole) ∙ inside.live, there ∙ sym here))
        ],
      );
      opens = λ t. (λ o. live t ∙ (opens t).0 o, λ e. (opens t).1 (sym (live t) ∙ e));
    }

-- what is live from a block on: in the block, or from the next one on
here_or_later : (f : Outline) (b : ℕ) (s : Stretch) (t q : ℕ) → slice_get f.blocks b ≡ Some s → LivesFrom f b t q ↔ (LivesFrom f (b + 1) t q ⊎ LivesIn f b s 0 t q)
here_or_later f b s t q is = (
  λ h. elim (cases_eq h.block b) [
    | inl e ↦
        let its : h.stretch ≡ s = same_Some h.stretch s (sym h.at ∙ ap (slice_get f.blocks) e ∙ is) in
        inr (subst (λ (x : Stretch). LivesIn f b x 0 t q) its (subst (λ (n : ℕ). LivesIn f n h.stretch 0 t q) e h.in_block))
    | inr apart ↦ let low = h.low in inl (record { block = h.block; stretch = h.stretch; at = h.at; low = omega (arith, low, apart); in_block = h.in_block })
  ],
  λ h. elim h [
    | inl later ↦ let low = later.low in record { block = later.block; stretch = later.stretch; at = later.at; low = omega (arith, low); in_block = later.in_block }
    | inr inside ↦ record { block = b; stretch = s; at = is; low = omega arith; in_block = inside }
  ],
)

pub front_step : (f : Outline) (b : ℕ) (s : Stretch) (live : List ℕ) (old new : Walk) → slice_get f.blocks b ≡ Some s → new.place ≡ old.place
    → ((u q : ℕ) → Marked new u q ↔ Marked old u q)
    → ((u : ℕ) → IsOpen new u ↔ (IsOpen old u × ¬ Contains live u))
    → ((u : ℕ) → Contains live u ↔ (is_live f u s.acts s.uses s.next ≡ true))
    → StandsInside f b s 0 old → StandsBefore f b new
front_step f b s live old new is place marked opens lives h =
    let before = h.place in
    record {
      place = omega (arith, place, before);
      marked = λ t q. (
        λ m. (here_or_later f b s t q is).1 ((h.marked t q).0 ((marked t q).0 m)),
        λ m. (marked t q).1 ((h.marked t q).1 ((here_or_later f b s t q is).0 m)),
      );
      shut = λ t o.
          let both_hold = (opens t).0 o in
          both_hold.1 ((lives t).1 ((h.opens t).0 both_hold.0));
    }

pub at_the_end : (f : Outline) (w : Walk) → w.place ≡ points_before f.blocks (length f.blocks) → ((t q : ℕ) → ¬ Marked w t q) → ((t : ℕ) → ¬ IsOpen w t) → StandsBefore f (length f.blocks) w
at_the_end f w place none shut = record {
  place = place;
  marked = λ t q. (λ m. absurd (none t q m), λ h. absurd (let low = h.low in let lt = slice_get_within f.blocks h.block h.stretch h.at in omega (arith, low, lt)));
  shut = shut;
}

pub at_the_start : (f : Outline) (w : Walk) → StandsBefore f 0 w → (t q : ℕ) (spans : List (ℕ × ℕ)) → slice_get w.lists.items t ≡ Some spans → Covers spans q ↔ LivesFrom f 0 t q
at_the_start f w h t q spans is = (
  λ c. (h.marked t q).0 (inl (record { spans = spans; at = is; covers = c })),
  λ l. elim ((h.marked t q).1 l) [
    | inl c ↦ subst (λ (xs : List (ℕ × ℕ)). Covers xs q) (same_Some c.spans spans (sym c.at ∙ is)) c.covers
    | inr a ↦ absurd (h.shut t (a.end, a.opens))
  ],
)
