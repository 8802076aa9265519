use Rattle.pw_law_select_known.proofs.Shapes.{webs_keep_shape}
use Rattle.pw_law_select_known.proofs.webs_keep_shape.Goals as goal

pub returns : goal.returns
returns c = webs_keep_shape
