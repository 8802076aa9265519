-- Where the machine stood a run has got to, it stands where the run has got to now; and no fault was counted.
use Rattle.std.proofs.Common.{ℕ, ◌≡◌, List, Option}
use Rattle.pw_cmean.specs.Acts.{Outcome}
use Rattle.pw_cmean.specs.Worlds.{World}
use Rattle.pw_interp_calls.specs.Functions.{callable_of}
use Rattle.pw_interp_state.specs.Shown.{view_state}
use Rattle.pw_interp.specs.Streaming.{GoesOver}
use Rattle.pw_interp.proofs.turns.run.Given as goal

abbrev pub invariant-loop : goal.invariant-loop
invariant-loop g l = record {
  goes : (world : World) (end : Outcome (Unit {0})) (bytes : List ℕ) (taken : Option (List ℕ))
      → GoesOver (callable_of l.main).body l.fn.machine (view_state l.fn.state) world end bytes taken (g.I.Source.rest l.fn.input) (g.O.Sink.taken l.fn.out)
      → GoesOver (callable_of l.main).body l.machine (view_state l.state) world end bytes taken (g.I.Source.rest l.input) (g.O.Sink.taken l.out);
  read : g.I.Source.faults l.input ≡ g.I.Source.faults l.fn.input;
  write : g.O.Sink.faults l.out ≡ g.O.Sink.faults l.fn.out;
}
