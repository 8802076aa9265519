use Rattle.std.proofs.Common.{rules, ap, ◌∙◌}
use Rattle.pw_types.specs.Views.{view_type}
use Rattle.pw_cmean.specs.Evaluation.{site, records_of}
use Rattle.pw_interp_state.specs.Categories.{category_of}
use Rattle.pw_interp_state.specs.Elements.{element_layout}
use Rattle.pw_interp_state.specs.Operations.{binary_by}
use Rattle.pw_interp_state.proofs.OperatorLaws.{binary_is}
use Rattle.pw_interp_calls.specs.Views.{view_env}
use Rattle.pw_interp_calls.proofs.AnswerLaws.{no_memory}
use Rattle.pw_interp_acts.proofs.NodeLaws.{known, never, node_answers}
use Rattle.pw_interp_acts.proofs.nodes.binary.Goals as goal

pub returns-in_err-layout-clause-answers : goal.returns-in_err-layout-clause-answers
returns-in_err-layout-clause-answers c = no_memory (search rules)

pub returns-clause-wants : goal.returns-clause-wants
returns-clause-wants c = never _ c.settle.result (known c.settle.result c.settle.ensures)

pub returns-clause-answers : goal.returns-clause-answers
returns-clause-answers c =
    let e = view_env c.args.env.now in
    let at = site e c.args.token in
    let a = view_type c.args.types.0.now in
    let b = view_type c.args.types.1.now in
    let v = c.args.values.0 in
    let w = c.args.values.1 in
    let objects = c.args.state.now.objects in
    let layout = element_layout (records_of e) a b in
    node_answers at c.binary-answer.result (λ o. binary_by o layout c.args.op (category_of a) (category_of b) v w) c.settle.ensures
    (c.binary-answer.ensures
    ∙ ap (λ l. binary_by objects l c.args.op c.categorise.result c.categorise-2.result v w) c.in_ok-layout.ensures
    ∙ ap (λ k. binary_by objects layout c.args.op k c.categorise-2.result v w) c.categorise.ensures
    ∙ ap (λ k. binary_by objects layout c.args.op (category_of a) k v w) c.categorise-2.ensures)
    (binary_is at (records_of e) c.args.op a b v w)
