use Rattle.std.proofs.Common.{rules, ◌≡◌, ℕ, List, [], All, sym, subst}
use Rattle.std.proofs.lemmas.List.Elements.{All-push}
use Rattle.pw_live_spans.proofs.walk.no_spans.Goals as goal

pub loop-preserved : goal.loop-preserved
loop-preserved c = record {
  count = search rules;
  none = subst (λ xs. All (λ (spans : List (ℕ × ℕ)). spans ≡ []) xs) (sym c.in_ok-push.ensures.items) (All-push (λ (spans : List (ℕ × ℕ)). spans ≡ []) c.loop.lists.items c.new.result c.loop.invariant.none c.new.ensures);
}
