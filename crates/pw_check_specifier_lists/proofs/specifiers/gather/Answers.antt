use Rattle.std.proofs.Common.{ap, arith, rules, sym, ◌∙◌}
use Rattle.pw_check_rules.specs.Phrases.{specifiers_rule}
use Rattle.pw_check_rules.specs.SpecifierLists.{Gathered}
use Rattle.pw_check_walk.specs.Walks.{outcome}
use Rattle.pw_check_walk.proofs.CallLaws.{made_by}
use Rattle.pw_check_walk.proofs.Turns.{turn_kept, turn_stopped, turns_over}
use Rattle.pw_tree.specs.Views.{view_specifiers}
use Rattle.pw_check_state.specs.PhraseViews.{view_gathered}
use Rattle.pw_check_state.specs.StateViews.{view_state}
use Rattle.pw_check_specifier_lists.proofs.Gathering.{one-more}
use Rattle.pw_check_specifier_lists.proofs.Splits.{over_specifiers, next_specifier, specifier_split, no_specifier}
use Rattle.pw_check_specifier_lists.proofs.specifiers.gather.Goals as goal

pub loop-next-init : goal.loop-next-init
loop-next-init g c = (
  ap (λ (x : Gathered). outcome (specifiers_rule (view_specifiers c.args.specifiers.now) c.args.first x (view_state c.args.state.now))) (sym c.nothing_gathered-gathered.ensures),
  (omega (arith, ap (λ (x : Gathered). x.constants) c.nothing_gathered-gathered.ensures), omega (arith, ap (λ (x : Gathered). x.volatiles) c.nothing_gathered-gathered.ensures)),
)

pub loop-next-preserved : goal.loop-next-preserved
loop-next-preserved g c = (
  turn_kept (over_specifiers c.args.first) (next_specifier c.args.first) (λ x rest. specifier_split x (view_specifiers rest) c.args.first)
      c.args.specifiers.now c.loop-next.next-index c.next-item.result (view_gathered c.loop-next.gathered) (view_state c.loop-next.state)
      c.loop-next.invariant.0 (omega arith) c.next-item.is c.specifier.ensures c.in_ok-gathered.was,
  one-more (view_gathered c.loop-next.gathered) _ _ _ _ _ c.loop-next.next-index (made_by c.specifier.ensures c.in_ok-gathered.was) c.loop-next.invariant.1,
)

pub returns-in_err-gathered : goal.returns-in_err-gathered
returns-in_err-gathered g c =
    turn_stopped (over_specifiers c.args.first) (next_specifier c.args.first) (λ x rest. specifier_split x (view_specifiers rest) c.args.first)
    _ c.args.specifiers.now c.loop-next.next-index c.next-item.result (view_gathered c.loop-next.gathered) (view_state c.loop-next.state)
    c.loop-next.invariant.0 (omega arith) c.next-item.is c.specifier.ensures c.in_err-gathered.was (search rules)

pub returns : goal.returns
returns g c =
    record {
      made = turns_over (over_specifiers c.args.first) (next_specifier c.args.first) (λ x rest. specifier_split x (view_specifiers rest) c.args.first) c.args.specifiers.now c.loop-next.next-index (view_gathered c.loop-next.gathered) (view_state c.loop-next.state) c.loop-next.invariant.0 (omega arith) ∙ no_specifier _ _ _;
      told = tt;
    }
