-- The machine's run with what it notes is the machine's run.
use Rattle.std.specs.Prelude.{ℕ, ◌≡◌, List, []}
use Rattle.std.proofs.Common.{refl}
use Rattle.pw_machine.specs.declared.ends.End.TheVariants as machine
use Rattle.pw_machine.specs.Core.{Core}
use Rattle.pw_machine.specs.Run.{Progress, Running, Stopped, run_of}
use Rattle.pw_run_languages.specs.Traces.{Event, shown_by}
use Rattle.pw_run_agreement.specs.MachineStages.{Nothing, machine_run}
use Rattle.pw_run_agreement.specs.MachineStages as plain
use Rattle.pw_run_languages.specs.MachineRun.{Map, traced_run, staged, noted, start_state}

-- nothing of what was noted
abbrev pub forgotten : {M : Type 0} → List M → List Nothing
forgotten log = []

stage_forgets : (input : List ℕ) (n : ℕ) (at : Progress) (log : List (Event ℕ ℕ))
    → shown_by forgotten (staged input n at log) ≡ plain.staged input n at
stage_forgets input n (Running s) log = refl
stage_forgets input n (Stopped (machine.Ended status) s) log = refl
stage_forgets input n (Stopped machine.StackStop s) log = refl
stage_forgets input n (Stopped (machine.Halted halt at) s) log = refl

pub run_forgets : (m : Map) (c : Core) (input : List ℕ) (n : ℕ)
    → shown_by forgotten (traced_run m c input n) ≡ machine_run c input n
unfolding traced_run machine_run
run_forgets m c input n =
    stage_forgets input n (run_of n (start_state c input)) (noted m (start_state c input) n).log
