use Rattle.std.proofs.Common.{◌≡◌, ◌<◌, ◌++◌, ◌∷◌, [], ap, length, map, reverse, subst, sym, ◌∙◌, List, arith}
use Rattle.std.proofs.lemmas.List.{append-nil, map-append}
use Rattle.std.proofs.lemmas.List.Elements.{All-push}
use Rattle.pw_cpp_expand.specs.Numbered.{AreKnown, fresh}
use Rattle.pw_cpp_expand.specs.declared.progress.Lexeme.{Lexeme}
use Rattle.pw_cpp_expand.proofs.Kept.{turned-more}
use Rattle.pw_cpp_expand.proofs.ahead.put_fresh.Goals as goal

pub loop-token-preserved : goal.loop-token-preserved
loop-token-preserved c =
    let pushed = c.in_ok-push.ensures ∙ ap (λ x. c.loop-token.pending ++ x ∷ []) c.fresh.ensures in (
      ap (λ x. x ++ reverse (map fresh c.pop.new.self)) pushed
          ∙ turned-more c.loop-token.pending (map fresh c.loop-token.tokens) (map fresh c.pop.new.self) (fresh c.in-Some.token)
          (ap (map fresh) c.in-Some.ensures ∙ map-append fresh c.pop.new.self (c.in-Some.token ∷ []))
          ∙ c.loop-token.invariant.0,
      λ known some h.
          let P : List Lexeme → Type 0 = λ x. AreKnown known x in
          subst P (sym pushed) (All-push (λ (l : Lexeme). l.hidden < length known) c.loop-token.pending (fresh c.in-Some.token) (c.loop-token.invariant.1 known some h) some),
    )

pub returns : goal.returns
returns c = record {
  put = sym (append-nil c.loop-token.pending) ∙ ap (λ x. c.loop-token.pending ++ reverse (map fresh x)) (sym c.in_default.ensures.0) ∙ c.loop-token.invariant.0;
  known = c.loop-token.invariant.1;
}
