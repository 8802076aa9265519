use Rattle.std.proofs.Common.{rules, sym, ap, ◌∙◌, arith}
use Rattle.pw_check_state.specs.StateViews.{view_state}
use Rattle.pw_typed.specs.Views.{view_initialisers}
use Rattle.pw_check_walk.specs.Walks.{outcome}
use Rattle.pw_check_decl.specs.Views.{view_made}
use Rattle.pw_check_walk.proofs.Turns.{turn_kept, turn_stopped, turns_over}
use Rattle.pw_check_decl.proofs.DeclLemmas.{over_decls, one_decl, decls_split, decls_begun, decls_over}
use Rattle.pw_check_decl.proofs.decls.decls_rule.Goals as goal

pub loop-decl-init : goal.loop-decl-init
loop-decl-init g c =
    decls_begun c.args.decls.now (view_state c.args.state.now)
    ∙ ap (λ m. outcome (over_decls c.args.decls.now (view_initialisers m) (view_state c.args.state.now))) (sym c.new-made.ensures.items)

pub loop-decl-preserved : goal.loop-decl-preserved
loop-decl-preserved g c =
    turn_kept over_decls one_decl decls_split
    c.args.decls.now c.loop-decl.decl-index c.decl-item.result (view_made c.loop-decl.made) (view_state c.loop-decl.state)
    c.loop-decl.invariant (omega arith) c.decl-item.is c.decl_behind.ensures c.in_ok-made.was

pub returns-in_err-made : goal.returns-in_err-made
returns-in_err-made g c =
    turn_stopped over_decls one_decl decls_split
    _ c.args.decls.now c.loop-decl.decl-index c.decl-item.result (view_made c.loop-decl.made) (view_state c.loop-decl.state)
    c.loop-decl.invariant (omega arith) c.decl-item.is c.decl_behind.ensures c.in_err-made.was (search rules)

pub returns : goal.returns
returns g c =
    record {
      made = turns_over over_decls one_decl decls_split
          c.args.decls.now c.loop-decl.decl-index (view_made c.loop-decl.made) (view_state c.loop-decl.state) c.loop-decl.invariant (omega arith) ∙ decls_over _ _;
      told = tt;
    }
