use Rattle.pw_phase_one.proofs.WantLemmas.{refused_no_want}
use Rattle.pw_phase_one.proofs.laws.no_refusal_is_want_of_memory.Goals as goal

pub returns : goal.returns
returns c = refused_no_want (record { phase = c.phase_one_is_exact.ensures; front = c.front_is_exact.ensures.exact; no_want = c.front_is_exact.ensures.no_want })
