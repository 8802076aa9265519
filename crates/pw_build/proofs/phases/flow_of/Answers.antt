use Rattle.pw_build.proofs.phases.flow_of.Goals as goal

pub returns-in-Ok-clause-declares : goal.returns-in-Ok-clause-declares
returns-in-Ok-clause-declares c = c.flow_graphs_declare_main.ensures c.args.which.now.name c.as_slice.result.now c.in-Ok.flow c.in-Ok.ensures.function
