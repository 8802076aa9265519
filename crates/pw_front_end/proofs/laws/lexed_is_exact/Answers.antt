use Rattle.std.proofs.Common.{sym, subst}
use Rattle.pw_token.specs.Tokenization.{Lexes}
use Rattle.pw_front_end.proofs.LexedLaws.{lexed-lexes, lexed-only}
use Rattle.pw_front_end.proofs.laws.lexed_is_exact.Goals as goal

pub returns : goal.returns
returns c = λ text answer. (λ h. lexed-only text answer h, λ e. subst (Lexes text) (sym e) (lexed-lexes text))
