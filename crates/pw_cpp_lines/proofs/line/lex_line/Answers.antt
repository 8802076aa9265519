use Rattle.std.proofs.Common.{◌≡◌, false}
use Rattle.pw_cpp_lines.specs.Lines.{is_line_end}
use Rattle.pw_cpp_lines.proofs.Cutting.{line-more, rest-found}
use Rattle.pw_cpp_lines.proofs.line.lex_line.Goals as goal

pub loop-tokens-preserved : goal.loop-tokens-preserved
loop-tokens-preserved c =
    let text = c.args.text.now in
    let end = c.loop-tokens.end in
    let goes_on : is_line_end text end ≡ false = cc in
    let here = rest-found false text end c.piece_at.result c.piece_at.ensures.exact in
    line-more text c.args.at c.loop-tokens.tokens c.keep.new.tokens end c.in-Some.kind c.in-Some.len c.loop-tokens.invariant.1 goes_on
    ((here c.in-Some.kind c.in-Some.len).0 c.in-Some.is) c.in_ok-keep.ensures
