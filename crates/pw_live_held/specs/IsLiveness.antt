-- What is known of a function's temporaries is right.
use Rattle.std.specs.Prelude.{◌≡◌, map}
use Rattle.pw_flow.specs.Outline.{Outline}
use Rattle.pw_live.specs.Points.{points}
use Rattle.pw_live_spans.specs.AreSpans.{AreSpans}
use Rattle.pw_live_held.specs.Makers.{maker}
use Rattle.pw_live_held.specs.Calls.{AreCallsOf}
use Rattle.pw_live_held.specs.declared.liveness.Liveness.{Liveness}

pub record IsLiveness (f : Outline) (v : Liveness) : Type 0 where
  pub spans : AreSpans f v.spans
  pub makers : v.makers.items ≡ map maker (points f)
  pub calls : AreCallsOf f v.calls.items
