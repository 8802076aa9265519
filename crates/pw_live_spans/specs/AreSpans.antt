-- What is known of spans.
use Rattle.std.specs.Prelude.{ℕ, ◌≡◌, ◌↔◌, Some, List, slice_get, vec_len}
use Rattle.pw_flow.specs.Outline.{Outline}
use Rattle.pw_live_spans.specs.Spans.{Covers}
use Rattle.pw_live_spans.specs.LivePoints.{LivesFrom}
use Rattle.pw_live_spans.specs.declared.spans.Spans.{Spans}

-- they are those of a function: a temporary's have the points where it is live, and no others
pub record AreSpans (f : Outline) (v : Spans) : Type 0 where
  pub count : vec_len v.lists ≡ f.temps
  pub each : (t q : ℕ) (spans : List (ℕ × ℕ)) → slice_get v.lists.items t ≡ Some spans → Covers spans q ↔ LivesFrom f 0 t q
