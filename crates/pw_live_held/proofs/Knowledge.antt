-- What is known of a temporary at the points of its spans.
use Rattle.std.proofs.Common.{◌≡◌, ◌<◌, ℕ, true, List, length, map, sym, ap, ◌∙◌}
use Rattle.std.specs.Prelude.{Option, Some, slice_get, ◌↔◌}
use Rattle.std.proofs.lemmas.List.{length-map}
use Rattle.std.proofs.lemmas.Option.{slice_get_within}
use Rattle.pw_flow.specs.Outline.{Outline}
use Rattle.pw_live.specs.Points.{Point, points, lives}
use Rattle.pw_live.specs.Interference.{is_held}
use Rattle.pw_live_spans.specs.Spans.{Covers}
use Rattle.pw_live_spans.specs.AreSpans.{AreSpans}
use Rattle.pw_live_spans.specs.LivePoints.{LivesFrom}
use Rattle.pw_live_spans.specs.declared.spans.Spans.{Spans}
use Rattle.pw_live_held.specs.Makers.{maker, calls, IsOverCall}
use Rattle.pw_live_held.specs.Calls.{AreCallsOf}
use Rattle.pw_live_held.proofs.Holding.{held_at, at_held}

pub many_points : (f : Outline) (makers : List (Option ℕ)) → makers ≡ map maker (points f) → length makers ≡ length (points f)
many_points f makers is = ap (λ (ms : List (Option ℕ)). length ms) is ∙ length-map (points f) maker

pub same_points : (f : Outline) (makers : List (Option ℕ)) (lasts : List (Option ℕ)) → makers ≡ map maker (points f) → AreCallsOf f lasts → length makers ≡ length lasts
same_points f makers lasts made called = many_points f makers made ∙ sym (called.long ∙ length-map (points f) calls)

-- the points of spans are points
pub spanned_points : (f : Outline) (v : Spans) (t : ℕ) (spans : List (ℕ × ℕ)) (p : ℕ) → AreSpans f v
    → ((t q : ℕ) → LivesFrom f 0 t q → (x : Point) × (slice_get (points f) q ≡ Some x))
    → slice_get v.lists.items t ≡ Some spans → Covers spans p → p < length (points f)
spanned_points f v t spans p known there at covers =
    let x = there t p ((known.each t p spans at).0 covers) in
    slice_get_within (points f) p x.0 x.1

-- ---- held over calls

module _ (f : Outline) (v : Spans) (t : ℕ) (spans : List (ℕ × ℕ)) (makers : List (Option ℕ)) (known : AreSpans f v)
    (lives_at : (t q : ℕ) (p : Point) → slice_get (points f) q ≡ Some p → LivesFrom f 0 t q ↔ (lives f t p ≡ true))
    (there : (t q : ℕ) → LivesFrom f 0 t q → (p : Point) × (slice_get (points f) q ≡ Some p))
    (at : slice_get v.lists.items t ≡ Some spans) (made : makers ≡ map maker (points f)) where
  pub held_there : ((p : ℕ) × Covers spans p × IsOverCall makers (map calls (points f)) t p) → is_held f t ≡ true
  held_there h =
      at_held f lives_at there t h.0 ((known.each t h.0 spans at).0 h.1) h.2.0
      (λ is. h.2.1 (ap (λ (ms : List (Option ℕ)). slice_get ms h.0) made ∙ is))

  pub there_held : is_held f t ≡ true → (p : ℕ) × Covers spans p × IsOverCall makers (map calls (points f)) t p
  there_held e =
      let h = held_at f lives_at there t e in (
        h.0,
        (known.each t h.0 spans at).1 h.1,
        (h.2, λ is. h.3 (ap (λ (ms : List (Option ℕ)). slice_get ms h.0) (sym made) ∙ is)),
      )
