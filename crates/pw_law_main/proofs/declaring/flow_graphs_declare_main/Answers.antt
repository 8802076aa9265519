use Rattle.pw_law_main.proofs.Declared.{compiled_declares}
use Rattle.pw_law_main.proofs.declaring.flow_graphs_declare_main.Goals as goal

pub returns : goal.returns
returns c = compiled_declares (record {
  exact = c.checks_is_exact.ensures;
  typed = c.accepted_functions_are_typed.ensures.typed;
  external = c.accepted_names_are_declared.ensures.functions;
})
