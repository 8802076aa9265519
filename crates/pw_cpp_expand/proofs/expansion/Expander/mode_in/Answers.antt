use Rattle.std.proofs.Common.{sym, ◌∙◌}
use Rattle.std.proofs.lemmas.Bool.{false≢true}
use Rattle.pw_cpp_expand.proofs.Whole.{mode-inside, mode-outside}
use Rattle.pw_cpp_expand.proofs.expansion.Expander.mode_in.Goals as goal

pub returns-then-is_empty : goal.returns-then-is_empty
returns-then-is_empty c = mode-outside c.args.mode c.args.self.now.calls (c.is_empty.ensures.0 c.if-is_empty.true)

pub returns : goal.returns
returns c = mode-inside c.args.mode c.args.self.now.calls (λ e. false≢true (sym c.if-is_empty.false ∙ c.is_empty.ensures.1 e))
