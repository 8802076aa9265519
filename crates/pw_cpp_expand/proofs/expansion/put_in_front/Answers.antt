use Rattle.std.proofs.Common.{◌≡◌, ◌++◌, ap, reverse, sym, ◌∙◌}
use Rattle.std.proofs.lemmas.List.{append-nil}
use Rattle.pw_cpp_expand.proofs.Kept.{turned-more}
use Rattle.pw_cpp_expand.proofs.expansion.put_in_front.Goals as goal

pub loop-lexeme-preserved : goal.loop-lexeme-preserved
loop-lexeme-preserved c =
    ap (λ x. x ++ reverse c.pop.new.self) c.in_ok-push.ensures
    ∙ turned-more c.loop-lexeme.pending c.loop-lexeme.tokens c.pop.new.self c.in-Some.lexeme c.in-Some.ensures
    ∙ c.loop-lexeme.invariant

pub returns : goal.returns
returns c =
    sym (append-nil c.loop-lexeme.pending) ∙ ap (λ x. c.loop-lexeme.pending ++ reverse x) (sym c.in_default.ensures.0) ∙ c.loop-lexeme.invariant
