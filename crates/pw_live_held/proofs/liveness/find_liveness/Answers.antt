use Rattle.pw_live_held.proofs.liveness.find_liveness.Goals as goal

pub returns : goal.returns
returns c = record { spans = c.in_ok-spans.ensures; makers = c.in_ok-makers.ensures; calls = c.in_ok-calls.ensures }
