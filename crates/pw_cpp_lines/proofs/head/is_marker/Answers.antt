use Rattle.std.proofs.Common.{true, drop}
use Rattle.pw_cpp_lines.proofs.Cutting.{marker-answer, rest-found}
use Rattle.pw_cpp_lines.proofs.head.is_marker.Goals as goal

pub returns : goal.returns
returns c = marker-answer (drop c.args.at c.args.text.now) c.piece_at.result _ c.is_line_marker.ensures (rest-found true c.args.text.now c.args.at c.piece_at.result c.piece_at.ensures.exact)
