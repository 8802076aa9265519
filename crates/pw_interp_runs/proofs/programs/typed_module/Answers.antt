use Rattle.pw_interp_runs.proofs.programs.typed_module.Goals as goal

pub returns-in_ok-copy-in-Ok : goal.returns-in_ok-copy-in-Ok
returns-in_ok-copy-in-Ok c = (c.in_ok-copy-in-Ok.ensures, rw c.as_slice.ensures.value at c.in-Ok.ensures, tt)
