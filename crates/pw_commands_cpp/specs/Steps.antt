-- Steps of the command `cpp`.
use Rattle.std.specs.Prelude.{◌≡◌, ◌≢◌, ℕ, List, Result, Ok, Err}
use Rattle.std.specs.Global.{Vec}
use Rattle.pw_cpp.specs.declared.fault.CppFault.{CppFault}
use Rattle.pw_cpp_directives.specs.declared.fault.CppKind.{CppKind}
use Rattle.pw_cpp_directives.specs.declared.fault.CppKind.TheVariants as kind
use Rattle.pw_cpp_sources.specs.Sources.{Texts}
use Rattle.pw_store_texts.specs.Outputs.{ComesBy, Output}
use Rattle.pw_top_answer.specs.declared.answer.Answer.{Answer}
use Rattle.pw_top_answer.specs.declared.answer.Answer.TheVariants.{Cpp, StoreFault, NoMemory, BadFile}
use Rattle.pw_commands_cpp.specs.Command.{cpp_fault}

-- the answers that stand in the place of an output
abbrev pub IsCppStop : Answer → Type 0
IsCppStop (Cpp fault) = fault.kind ≢ kind.NoMemory
IsCppStop StoreFault = Unit {0}
IsCppStop NoMemory = Unit {0}
IsCppStop (BadFile name at) = Unit {0}
IsCppStop _ = ⊥

-- what a source, or the answer in its place, comes to
abbrev pub IsOutputOf : Texts → List ℕ → Result (List ℕ) Answer → List ℕ → Type 0
IsOutputOf headers name (Ok text) output = ComesBy headers name text (Ok output)
IsOutputOf headers name (Err answer) output = ⊥

abbrev pub IsStopOf : Texts → List ℕ → Result (List ℕ) Answer → Answer → Type 0
IsStopOf headers name (Ok text) answer = (f : CppKind × List ℕ × ℕ) × ComesBy headers name text (Err f) × (answer ≡ Cpp (cpp_fault f))
IsStopOf headers name (Err wanted) answer = answer ≡ wanted

-- the output, or the answer in its place; a fault of the store and want of memory may come before
abbrev pub ComesToOutput : Texts → List ℕ → Result (List ℕ) Answer → Result (Vec ℕ) Answer → Type 0
ComesToOutput headers name source (Ok output) = IsOutputOf headers name source output.items
ComesToOutput headers name source (Err StoreFault) = Unit {0}
ComesToOutput headers name source (Err NoMemory) = Unit {0}
ComesToOutput headers name source (Err answer) = IsStopOf headers name source answer

-- the code's answer for an output, or for a fault in its place
abbrev pub output_or_fault : Result (Vec ℕ) CppFault → Result (Vec ℕ) Answer
output_or_fault (Ok output) = Ok output
output_or_fault (Err fault) = Err (Cpp fault)
