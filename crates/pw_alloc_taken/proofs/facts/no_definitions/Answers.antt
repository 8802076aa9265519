use Rattle.std.proofs.Common.{rules, ◌≡◌, ℕ, List, [], All, sym, subst}
use Rattle.std.proofs.lemmas.List.Elements.{All-push}
use Rattle.pw_alloc_taken.proofs.facts.no_definitions.Goals as goal

pub loop-preserved : goal.loop-preserved
loop-preserved c = record {
  count = search rules;
  none = subst (λ xs. All (λ (row : List ℕ). row ≡ []) xs) (sym c.in_ok-push.ensures.items) (All-push (λ (row : List ℕ). row ≡ []) c.loop.rows.items c.new.result c.loop.invariant.none c.new.ensures);
}
