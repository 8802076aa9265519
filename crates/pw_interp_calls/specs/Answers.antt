-- What code that does an act answers.
use Rattle.std.specs.Prelude.{Result, Ok, Err, IfOk, IfErr}
use Rattle.pw_cmean.specs.Worlds.{World}
use Rattle.pw_cmean.specs.Acts.{Act}
use Rattle.pw_interp_state.specs.Shown.{Shown}
use Rattle.pw_interp_state.specs.Runs.{Runs}
use Rattle.pw_interp_calls.specs.declared.ending.Stop.{Stop}
use Rattle.pw_interp_calls.specs.declared.ending.Stop.TheVariants as S
use Rattle.pw_interp_calls.specs.Endings.{view_ending}

-- the act ends so; of want of memory, which no act knows, nothing is said
abbrev pub Stops : {A : Type 0} → World → Act A → Shown → Stop → Shown → Type 0
Stops world act before (S.Ended ending) behind = Runs world act before (Err (view_ending ending)) behind
Stops world act before S.NoMemory behind = Unit {0}

-- what the act gives, with the state behind it as far as it shows; or how it ends the run; or want of memory
pub record Answers {A B : Type 0} (view : B → A) (world : World) (act : Act A) (before : Shown) (result : Result B Stop) (behind : Shown) : Type 0 where
  pub given : IfOk result (λ b. Runs world act before (Ok (view b)) behind)
  pub stopped : IfErr result (λ stop. Stops world act before stop behind)
