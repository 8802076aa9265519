use Rattle.std.proofs.Common.{Ok, ◌∙◌}
use Rattle.pw_store_sources.proofs.OutputLemmas.{source-faulted, source-preprocessed}
use Rattle.pw_store_sources.proofs.outputs.preprocess_source.Goals as goal

pub returns-in-Ok-clause-comes : goal.returns-in-Ok-clause-comes
returns-in-Ok-clause-comes c =
    source-preprocessed c.args.headers.now.items c.as_slice.result.now c.in_ok-own.own c.in_ok-file.file c.args.name.now c.args.text (Ok c.in-Ok.output)
    (c.as_slice.ensures.value ∙ c.in_ok-push.ensures.items) c.in_ok-own.ensures c.in_ok-file.ensures c.in-Ok.ensures

pub returns-in_ok-fault_of_text-in-Err-clause-comes : goal.returns-in_ok-fault_of_text-in-Err-clause-comes
returns-in_ok-fault_of_text-in-Err-clause-comes c =
    source-faulted c.args.headers.now.items c.as_slice.result.now c.in_ok-own.own c.in_ok-file.file c.args.name.now c.args.text c.in-Err.fault c.in_ok-fault_of_text-in-Err.field-0
    (c.as_slice.ensures.value ∙ c.in_ok-push.ensures.items) c.in_ok-own.ensures c.in_ok-file.ensures c.in-Err.ensures c.in_ok-fault_of_text-in-Err.ensures.same c.in_ok-fault_of_text-in-Err.ensures.proper
