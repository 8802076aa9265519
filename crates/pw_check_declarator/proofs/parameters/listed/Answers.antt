use Rattle.std.proofs.Common.{Ok, ap, sym, ◌∙◌, rules}
use Rattle.pw_check_walk.proofs.CallLaws.{made_by}
use Rattle.pw_check_state.specs.PhraseViews.{view_bindings}
use Rattle.pw_check_state.specs.StateViews.{view_state}
use Rattle.pw_tree.specs.Views.{view_parameters}
use Rattle.pw_check_declarator.specs.Declaring.{within_list, listed_rule}
use Rattle.pw_check_declarator.proofs.Splits.{scoped_made, scoped_stopped}
use Rattle.pw_check_declarator.proofs.parameters.listed.Goals as goal

pub returns-in_err-bindings : goal.returns-in_err-bindings
unfolding listed_rule
returns-in_err-bindings g c =
    scoped_stopped (within_list (view_parameters c.args.list.now)) (view_state c.args.state.now)
    (rw c.in_ok-one_deeper.ensures at c.within_list.ensures) c.in_err-bindings.was (search rules)

pub returns : goal.returns
unfolding listed_rule
returns g c =
    record {
      made = scoped_made (within_list (view_parameters c.args.list.now)) (view_bindings c.in_ok-bindings.bindings) (view_state c.args.state.now) (view_state c.within_list.new.state)
          (made_by (rw c.in_ok-one_deeper.ensures at c.within_list.ensures) c.in_ok-bindings.was)
          ∙ ap (λ s. Ok (view_bindings c.in_ok-bindings.bindings, s)) (sym c.leave_scope.ensures);
      told = tt;
    }
