use Rattle.std.proofs.Common.{ℕ, ◌-◌, ◌≤◌, arith}
use Rattle.std.specs.Prelude.{min}
use Rattle.pw_live.specs.Points.{points}
use Rattle.pw_summary.specs.Summary.{need_limit}
use Rattle.pw_live_needs.specs.Needs.{most_short, changed_count}
use Rattle.pw_live_needs.proofs.laws.needs_are_few.Goals as goal

least : (a b : ℕ) → min a b ≤ a
least a b = omega arith

pub returns : goal.returns
returns c = λ f. least need_limit (most_short f (points f) - changed_count)
