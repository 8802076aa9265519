use Rattle.pw_live_spans.proofs.Numbers.{lives_there, lives_at, lives_first}
use Rattle.pw_live_spans.proofs.laws.points_stand_by_number.Goals as goal

pub returns : goal.returns
returns c = record {
  lives = λ f t q p is. lives_there f t q p is;
  there = λ f t q h. lives_at f t q h;
  first = λ f t. lives_first f t (λ x at. c.longer_paths_add_nothing.ensures.point f t 0 x at);
}
