use Rattle.std.specs.Prelude.{Contains}
use Rattle.pw_law_select_walk.proofs.EachLine.{selected_lines}
use Rattle.pw_law_select_walk.proofs.each_selected_line.Goals as goal

pub returns : goal.returns
returns c = λ names callees. selected_lines (Contains names) (Contains callees)
