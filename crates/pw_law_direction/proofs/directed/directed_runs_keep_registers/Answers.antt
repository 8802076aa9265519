use Rattle.pw_run_languages.specs.Traces.{KeepRegisters}
use Rattle.pw_law_direction.proofs.Running.{run_notes}
use Rattle.pw_law_direction.proofs.Banks.{gives_back, last_gives_back}
use Rattle.pw_law_direction.proofs.directed.directed_runs_keep_registers.Goals as goal

pub returns : goal.returns
returns c = λ p d input ok base sound n.
    run_notes p d ok (KeepRegisters d) (λ acts regs l t. (gives_back p d base sound t).1) (λ l t. last_gives_back p d base sound t) input n
