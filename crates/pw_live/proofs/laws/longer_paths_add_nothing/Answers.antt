use Rattle.pw_live.proofs.Paths.{fronts_stay, live_by_paths, front_by_paths, front_point}
use Rattle.pw_live.proofs.laws.longer_paths_add_nothing.Goals as goal

pub returns : goal.returns
returns c = record {
  fronts = λ f t more b le. fronts_stay f t more b le;
  live = λ f t acts uses next. live_by_paths f t acts uses next;
  front = λ f t b s is. front_by_paths f t b s is;
  point = λ f t b s is. front_point f t b s is;
}
