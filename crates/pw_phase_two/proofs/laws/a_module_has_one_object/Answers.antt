use Rattle.std.proofs.Common.{sym, ◌∙◌}
use Rattle.pw_flow.specs.FlowGraph.{named_in}
use Rattle.pw_summarise.proofs.Orders.{one_ordered}
use Rattle.pw_phase_two.proofs.laws.a_module_has_one_object.Goals as goal

pub returns : goal.returns
returns c = λ m ds o p a b.
    let file = c.flow_graphs_and_files_are_one_to_one.ensures.one_file o.flow p.flow m a.flow_file b.flow_file in
    let payload = c.one_list_is_stored.ensures.one_payload ds a.payload.0 b.payload.0 o.directives p.directives a.payload.1 b.payload.1 a.payload.2 b.payload.2 in
    let declared = one_ordered (λ d. d.0) m.declared o.declared p.declared a.declared b.declared in
    let used = one_ordered (λ name. name) (named_in m) o.used p.used a.used b.used in
    λ i. record {
      version = (a.version ∙ sym b.version) i;
      «module» = (a.of_module ∙ sym b.of_module) i;
      flow = file i;
      directives = payload i;
      declared = declared i;
      used = used i;
      globals = (a.globals ∙ sym b.globals) i;
      functions = (a.functions ∙ sym b.functions) i;
    }
