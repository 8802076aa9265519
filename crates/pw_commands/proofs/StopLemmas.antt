-- Which answers stand in place of a value.
use Rattle.std.proofs.Common.{◌≡◌, ℕ, Result, Err, sym, subst}
use Rattle.pw_io.specs.declared.StoreError.TheVariants as store
use Rattle.pw_value.specs.declared.fault.LinkFault.TheVariants as link
use Rattle.pw_value.specs.declared.fault.What.{What}
use Rattle.pw_value.specs.declared.fault.What.TheVariants.{Modules}
use Rattle.pw_store_modules.specs.Few.{HasFaultCause}
use Rattle.pw_store_modules.specs.declared.few.ModulesFault.{ModulesFault}
use Rattle.pw_store_modules.specs.declared.few.ModulesFault.TheVariants as modules
use Rattle.pw_top_answer.specs.declared.answer.Answer.{Answer}
use Rattle.pw_top_answer.specs.declared.answer.Answer.TheVariants.{LinkRefused, StoreFault, NoMemory, BadFile}
use Rattle.pw_top_answer.specs.Outcomes.{StoreCount, modules_answer}
use Rattle.pw_commands.specs.Outcome.{IsStop, IsFileStop}

pub file_stop_stops : (answer : Answer) → IsFileStop answer → IsStop answer
file_stop_stops StoreFault h = tt
file_stop_stops NoMemory h = tt
file_stop_stops (BadFile name at) h = tt
file_stop_stops _ h = absurd h

-- too many of something is no want of memory
many_stop : (what : What) (count : ℕ) → IsStop (LinkRefused (link.TooMany what count))
many_stop what count = λ e. cc

modules_by : (fault : ModulesFault) → IsStop (modules_answer fault)
modules_by (modules.TooMany count) = many_stop Modules count
modules_by (modules.Store store.Failed) = tt
modules_by (modules.Store store.NoMemory) = tt

-- the answer where the modules are not told
pub modules_stop : (fault : ModulesFault) (answer : Answer) → answer ≡ modules_answer fault → IsStop answer
modules_stop fault answer e = subst IsStop (sym e) (modules_by fault)

count_by : (before now : ℕ) (fault : ModulesFault) → HasFaultCause before now fault → StoreCount before now (modules_answer fault)
count_by before now (modules.TooMany count) h = h
count_by before now (modules.Store store.Failed) h = h
count_by before now (modules.Store store.NoMemory) h = h

pub modules_count : (before now : ℕ) (fault : ModulesFault) (answer : Answer) → HasFaultCause before now fault → answer ≡ modules_answer fault → StoreCount before now answer
modules_count before now fault answer h e = subst (λ (a : Answer). StoreCount before now a) (sym e) (count_by before now fault h)
