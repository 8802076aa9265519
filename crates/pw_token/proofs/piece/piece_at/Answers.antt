use Rattle.std.proofs.Common.{sym, ◌∙◌}
use Rattle.pw_token.proofs.PieceBounds.{found-within, piece-begins, begins-piece}
use Rattle.pw_token.proofs.piece.piece_at.Goals as goal

pub returns-clause-exact : goal.returns-clause-exact
returns-clause-exact c = λ kind len.
    let value = c.find_piece.ensures in
    (λ e. piece-begins c.args.line_start c.args.text.now kind len (sym value ∙ e), λ h. value ∙ begins-piece c.args.line_start c.args.text.now kind len h)

pub returns-clause-within : goal.returns-clause-within
returns-clause-within c = found-within c.args.line_start c.args.text.now c.find_piece.result c.find_piece.ensures
