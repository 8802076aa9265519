use Rattle.std.proofs.Common.{arith, rules, None, reverse, ap, sym, ◌∙◌}
use Rattle.pw_check_walk.proofs.Turns.{turn_kept, turn_stopped, turns_over}
use Rattle.pw_tree.specs.Views.{view_suffixes}
use Rattle.pw_check_walk.specs.Walks.{outcome}
use Rattle.pw_check_state.specs.PhraseViews.{view_derivations}
use Rattle.pw_check_state.specs.StateViews.{view_state}
use Rattle.pw_check_declarator.specs.Declaring.{suffixes_behind}
use Rattle.pw_check_declarator.specs.Views.{view_suffixed}
use Rattle.pw_check_declarator.proofs.Lists.{turned_none}
use Rattle.pw_check_declarator.proofs.Splits.{over_suffixes, next_suffix, suffix_split, no_suffix, all_suffixes}
use Rattle.pw_check_declarator.proofs.declarators.suffixes.Goals as goal

pub loop-next-init : goal.loop-next-init
loop-next-init g c =
    ap outcome (sym (all_suffixes (view_suffixes c.args.list.now) (view_state c.args.state.now)))
    ∙ ap (λ ds. outcome (suffixes_behind (view_suffixes c.args.list.now) (record { derivations = ds; bindings = None }) (view_state c.args.state.now))) turned_none
    ∙ ap (λ steps. outcome (suffixes_behind (view_suffixes c.args.list.now) (record { derivations = view_derivations (reverse steps); bindings = None }) (view_state c.args.state.now)))
    (sym c.new.ensures.items)

pub loop-next-preserved : goal.loop-next-preserved
loop-next-preserved g c =
    turn_kept over_suffixes next_suffix (λ x rest. suffix_split x (view_suffixes rest))
    c.args.list.now c.loop-next.next-index c.next-item.result (view_suffixed c.loop-next.read) (view_state c.loop-next.state)
    c.loop-next.invariant (omega arith) c.next-item.is c.suffix_behind.ensures c.in_ok-read.was

pub returns-in_err-read : goal.returns-in_err-read
returns-in_err-read g c =
    turn_stopped over_suffixes next_suffix (λ x rest. suffix_split x (view_suffixes rest))
    _ c.args.list.now c.loop-next.next-index c.next-item.result (view_suffixed c.loop-next.read) (view_state c.loop-next.state)
    c.loop-next.invariant (omega arith) c.next-item.is c.suffix_behind.ensures c.in_err-read.was (search rules)

pub returns : goal.returns
returns g c =
    record {
      made = turns_over over_suffixes next_suffix (λ x rest. suffix_split x (view_suffixes rest))
          c.args.list.now c.loop-next.next-index (view_suffixed c.loop-next.read) (view_state c.loop-next.state) c.loop-next.invariant (omega arith)
          ∙ no_suffix _ _;
      told = tt;
    }
