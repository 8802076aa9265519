-- An answer that is told of a C source is want of memory only where the answer is.
use Rattle.std.specs.Prelude.{ℕ, ◌≡◌, ◌≢◌, Bool, true, false, List, if◌then◌else◌}
use Rattle.pw_cmean.specs.declared.undefined.Undef.{Undef}
use Rattle.pw_io.specs.Files.{Files}
use Rattle.pw_top_answer.specs.declared.answer.Answer.{Answer}
use Rattle.pw_top_answer.specs.declared.answer.Answer.TheVariants as answer
use Rattle.pw_commands_interp.specs.Interpreting.{has_source, told_end}
use Rattle.pw_law_interp.proofs.Refused.{wants}

by_source : (b : Bool) (operation : Undef) (home : List ℕ) (token : ℕ) → (if b then answer.UndefinedSource operation home token else answer.Undefined operation home token) ≢ answer.NoMemory
by_source true operation home token = λ e. wants (answer.UndefinedSource operation home token) e
by_source false operation home token = λ e. wants (answer.Undefined operation home token) e

pub told_so : (files : Files) (a : Answer) → a ≢ answer.NoMemory → told_end files a ≢ answer.NoMemory
told_so files (answer.Undefined operation home token) so = by_source (has_source files home) operation home token
told_so files (answer.UndefinedSource operation home token) so = so
told_so files answer.Done so = so
told_so files (answer.Ended status) so = so
told_so files answer.Usage so = so
told_so files (answer.Refused name refusal) so = so
told_so files (answer.RefusedSource name refusal) so = so
told_so files (answer.Cpp fault) so = so
told_so files (answer.LinkRefused fault) so = so
told_so files answer.StackStop so = so
told_so files answer.Spent so = so
told_so files (answer.Halted halt at) so = so
told_so files answer.ReadFault so = so
told_so files answer.WriteFault so = so
told_so files answer.StoreFault so = so
told_so files answer.NoMemory so = so
told_so files (answer.BadFile name at) so = so
told_so files (answer.BadScript at) so = so
told_so files (answer.NoFrames address) so = so
