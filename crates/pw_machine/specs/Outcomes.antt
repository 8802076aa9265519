-- What the code of a step answers, by the effect that the step has.
use Rattle.std.specs.Prelude.{◌≡◌}
use Rattle.pw_machine.specs.declared.processor.Outcome.{Outcome}
use Rattle.pw_machine.specs.declared.processor.Outcome.TheVariants.{Goes, Reads, Writes, Stops}
use Rattle.pw_machine.specs.Core.{Core}
use Rattle.pw_machine.specs.Effect as effect

-- A step with this effect answers so and leaves the processor so: it goes on to the state of the effect,
-- and else it leaves all as it was.
abbrev pub Does : effect.Effect → Core → Outcome → Core → Type 0
Does e old Goes new = e ≡ effect.Goes new
Does e old Reads new = (e ≡ effect.Reads) × (new ≡ old)
Does e old (Writes byte) new = (e ≡ effect.Writes byte) × (new ≡ old)
Does e old (Stops end) new = (e ≡ effect.Stops end) × (new ≡ old)
