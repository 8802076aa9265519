use Rattle.std.proofs.Common.{◌≡◌, sym, ◌∙◌}
use Rattle.pw_cpp_condition.proofs.Complete.{means-run}
use Rattle.pw_cpp_condition.proofs.Marks.{some_same}
use Rattle.pw_cpp_condition.proofs.laws.one_meaning.Goals as goal

pub returns : goal.returns
returns c = λ items one other h k. some_same (sym (means-run items one h) ∙ means-run items other k)
