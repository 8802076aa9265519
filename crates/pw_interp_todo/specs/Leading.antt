-- What is left of an act from here leads to what the whole comes to.
use Rattle.std.specs.Prelude.{◌≡◌, Result, IfOk, IfErr}
use Rattle.pw_cmean.specs.Worlds.{World}
use Rattle.pw_cmean.specs.Acts.{Act, State}
use Rattle.pw_interp_state.specs.Shown.{Shown, Streams, all_shown}
use Rattle.pw_interp_calls.specs.declared.ending.Stop.{Stop}
use Rattle.pw_interp_calls.specs.Answers.{Stops}

-- From each state that shows the start, the whole comes to what the rest comes to from a state that shows this, with nothing
-- read or written between them.
pub record Leads {A : Type 0} (world : World) (whole : Act A) (start : Shown) (rest : Act A) (now : Shown) : Type 0 where
  pub leads : (st : Streams) (s : State) → all_shown world s ≡ (start, st) → (t : State) × (all_shown world t ≡ (now, st)) × (whole s ≡ rest t)

-- What code answers that does the first steps of an act: what is left of it, or how it ends the run; want of memory,
-- which no act knows, says nothing.
pub record Continues {A B : Type 0} (left : B → Act A) (world : World) (act : Act A) (before : Shown) (result : Result B Stop) (behind : Shown) : Type 0 where
  pub goes : IfOk result (λ b. Leads world act before (left b) behind)
  pub stopped : IfErr result (λ stop. Stops world act before stop behind)
