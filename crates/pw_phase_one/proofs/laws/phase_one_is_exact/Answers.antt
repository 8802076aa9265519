use Rattle.pw_phase_one.proofs.PhaseLaws.{compiled_is, compiled_only}
use Rattle.pw_phase_one.proofs.laws.phase_one_is_exact.Goals as goal

pub returns : goal.returns
returns c =
    λ name text answer. (
      (λ h. compiled_only c.front_is_exact.ensures.exact c.checks_is_exact.ensures name text answer h),
      (λ e. compiled_is c.front_is_exact.ensures.exact c.checks_is_exact.ensures name text answer e),
    )
