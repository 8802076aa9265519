use Rattle.std.proofs.Common.{rules, sym, ap, ◌∙◌, arith}
use Rattle.pw_check_state.specs.PhraseViews.{view_specified}
use Rattle.pw_check_state.specs.StateViews.{view_state}
use Rattle.pw_typed.specs.Views.{view_initialisers}
use Rattle.pw_check_walk.specs.Walks.{outcome}
use Rattle.pw_check_decl.specs.Views.{view_made}
use Rattle.pw_check_walk.proofs.Turns.{turn_kept, turn_stopped, turns_over}
use Rattle.pw_check_decl.proofs.DeclLemmas.{over_declarators, one_declarator, declarators_split, declarators_begun, declarators_over}
use Rattle.pw_check_decl.proofs.decls.init_declarators_rule.Goals as goal

pub loop-d-init : goal.loop-d-init
loop-d-init g c =
    declarators_begun (view_specified c.args.specified.now) c.args.declarators.now (view_state c.args.state.now)
    ∙ ap (λ m. outcome (over_declarators (view_specified c.args.specified.now) c.args.declarators.now (view_initialisers m) (view_state c.args.state.now))) (sym c.new-made.ensures.items)

pub loop-d-preserved : goal.loop-d-preserved
loop-d-preserved g c =
    turn_kept (over_declarators (view_specified c.args.specified.now)) (one_declarator (view_specified c.args.specified.now)) (declarators_split (view_specified c.args.specified.now))
    c.args.declarators.now c.loop-d.d-index c.d-item.result (view_made c.loop-d.made) (view_state c.loop-d.state)
    c.loop-d.invariant (omega arith) c.d-item.is c.declarator_behind.ensures c.in_ok-made.was

pub returns-in_err-made : goal.returns-in_err-made
returns-in_err-made g c =
    turn_stopped (over_declarators (view_specified c.args.specified.now)) (one_declarator (view_specified c.args.specified.now)) (declarators_split (view_specified c.args.specified.now))
    _ c.args.declarators.now c.loop-d.d-index c.d-item.result (view_made c.loop-d.made) (view_state c.loop-d.state)
    c.loop-d.invariant (omega arith) c.d-item.is c.declarator_behind.ensures c.in_err-made.was (search rules)

pub returns : goal.returns
returns g c =
    record {
      made = turns_over (over_declarators (view_specified c.args.specified.now)) (one_declarator (view_specified c.args.specified.now)) (declarators_split (view_specified c.args.specified.now))
          c.args.declarators.now c.loop-d.d-index (view_made c.loop-d.made) (view_state c.loop-d.state) c.loop-d.invariant (omega arith) ∙ declarators_over (view_specified c.args.specified.now) _ _;
      told = tt;
    }
