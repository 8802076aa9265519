use Rattle.pw_check_rules.specs.Checks.{checking}
use Rattle.pw_tree.specs.Views.{view_module}
use Rattle.pw_typed.specs.Views as typed
use Rattle.pw_check.proofs.RefusalLaws.{names_told, declarations_told, types_told, constants_told, features_told, limits_told, made_told}
use Rattle.pw_check.proofs.modules.check.Goals as goal

pub returns-clause-accepted : goal.returns-clause-accepted
returns-clause-accepted c =
    made_told typed.view_module (checking (view_module c.args.tree.now)) c.answer_of.result c.answer_of.ensures.typed c.answer_of.ensures.refused

pub returns-clause-unknown_name : goal.returns-clause-unknown_name
returns-clause-unknown_name c =
    names_told typed.view_module (checking (view_module c.args.tree.now)) c.answer_of.result c.answer_of.ensures.typed c.answer_of.ensures.refused

pub returns-clause-redeclared : goal.returns-clause-redeclared
returns-clause-redeclared c =
    declarations_told typed.view_module (checking (view_module c.args.tree.now)) c.answer_of.result c.answer_of.ensures.typed c.answer_of.ensures.refused

pub returns-clause-typing : goal.returns-clause-typing
returns-clause-typing c =
    types_told typed.view_module (checking (view_module c.args.tree.now)) c.answer_of.result c.answer_of.ensures.typed c.answer_of.ensures.refused

pub returns-clause-constant : goal.returns-clause-constant
returns-clause-constant c =
    constants_told typed.view_module (checking (view_module c.args.tree.now)) c.answer_of.result c.answer_of.ensures.typed c.answer_of.ensures.refused

pub returns-clause-unsupported : goal.returns-clause-unsupported
returns-clause-unsupported c =
    features_told typed.view_module (checking (view_module c.args.tree.now)) c.answer_of.result c.answer_of.ensures.typed c.answer_of.ensures.refused

pub returns-clause-limit : goal.returns-clause-limit
returns-clause-limit c =
    limits_told typed.view_module (checking (view_module c.args.tree.now)) c.answer_of.result c.answer_of.ensures.typed c.answer_of.ensures.refused
