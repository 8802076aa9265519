use Rattle.pw_check_state.specs.StateViews.{view_state}
use Rattle.pw_tree.specs.Views.{view_module}
use Rattle.pw_typed.specs.Views as typed
use Rattle.pw_check.proofs.ModuleLaws.{refused_behind, typed_behind}
use Rattle.pw_check.proofs.modules.answer_of.Goals as goal

pub returns-clause-typed : goal.returns-clause-typed
returns-clause-typed c =
    typed_behind typed.view_module (view_module c.args.tree.now) (view_state c.new-state.result) (view_state c.met_rule-met.new.state) c.met_rule-met.result c.behind.result
    c.new-state.ensures c.met_rule-met.ensures c.behind.ensures.made c.behind.ensures.told

pub returns-clause-refused : goal.returns-clause-refused
returns-clause-refused c =
    refused_behind (view_module c.args.tree.now) (view_state c.new-state.result) (view_state c.met_rule-met.new.state) c.met_rule-met.result c.behind.result
    c.new-state.ensures c.met_rule-met.ensures c.behind.ensures.memory c.behind.ensures.told
