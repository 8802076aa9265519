use Rattle.pw_commands.proofs.RunningLemmas.{machine_needed, machine_refused}
use Rattle.pw_commands.proofs.running.needed_machine.Goals as goal

pub returns-in-Ok-clause-machine : goal.returns-in-Ok-clause-machine
returns-in-Ok-clause-machine g c =
    machine_needed (g.S.Store.told c.args.store.now) c.in_ok-bytes.bytes.items c.in-Ok.machine c.in_ok-bytes.ensures.bytes (rw c.deref.ensures.value at c.in-Ok.ensures.exact)

pub returns-in-Err-LoadFault-clause-machine : goal.returns-in-Err-LoadFault-clause-machine
returns-in-Err-LoadFault-clause-machine g c =
    machine_refused (g.S.Store.told c.args.store.now) c.in_ok-bytes.bytes.items c.in-Err-LoadFault.at c.bad_file.result c.in_ok-bytes.ensures.bytes (rw (c.deref.ensures.value, c.in-Err-LoadFault.field-0-is) at c.in-Err-LoadFault.ensures.exact) c.bad_file.ensures.bad
