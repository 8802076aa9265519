use Rattle.pw_token.proofs.PieceBounds.{piece-begins, begins-piece}
use Rattle.pw_token.proofs.laws.piece_at_is_exact.Goals as goal

pub returns : goal.returns
returns c = λ line_start text kind len. (λ e. piece-begins line_start text kind len e, λ h. begins-piece line_start text kind len h)
