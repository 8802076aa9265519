use Rattle.std.proofs.Common.{◌≡◌, ℕ, ◌-◌, true, length, drop, sym, ap, ◌∙◌, arith}
use Rattle.std.proofs.lemmas.List.{take_rest}
use Rattle.pw_token.specs.Pieces.{piece_at}
use Rattle.pw_cpp_lines.specs.Passing.{comment_found, opens_comment}
use Rattle.pw_cpp_lines.proofs.Comments.{step-comment}
use Rattle.pw_cpp_lines.proofs.passing.step_len.Goals as goal

pub returns-then-opens_comment-clause-value : goal.returns-then-opens_comment-clause-value
returns-then-opens_comment-clause-value c =
    let text = c.args.text.now in
    let at = c.args.at in
    let opens : opens_comment text at ≡ true = cc in
    let found : c.piece_at.result ≡ piece_at Rattle.std.proofs.Common.false (drop at text) = c.piece_at.ensures.value ∙ ap (piece_at Rattle.std.proofs.Common.false) (take_rest text at) in
    step-comment text at c.comment_found-len.result c.or_else.result opens (c.comment_found-len.ensures ∙ ap comment_found found) c.or_else.ensures
