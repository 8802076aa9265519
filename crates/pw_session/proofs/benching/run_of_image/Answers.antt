use Rattle.pw_session.proofs.BenchLemmas.{stops_loaded, stops_none}
use Rattle.pw_session.proofs.RunLemmas.{core_is, no_load_fault}
use Rattle.pw_session.proofs.benching.run_of_image.Goals as goal

pub returns-in-Ok : goal.returns-in-Ok
returns-in-Ok c =
    stops_loaded c.args.image.now c.args.budget c.in-Ok.machine.core c.run_quietly.result (λ k h. core_is c.in-Ok.machine k.value (c.in-Ok.ensures.only k h)) (c.in-Ok.ensures.found.0, c.in-Ok.ensures.found.1) c.run_quietly.ensures

pub returns-in-Err-NoMemory : goal.returns-in-Err-NoMemory
returns-in-Err-NoMemory c = stops_none c.args.image.now c.args.budget

pub unreachable-requires : goal.unreachable-requires
unreachable-requires c = absurd (no_load_fault c.args.image.now c.in-Err-LoadFault.field-0 c.in-Err-LoadFault.field-0-0 c.in-Err-LoadFault.field-0-is c.requires c.in-Err-LoadFault.ensures.only)
