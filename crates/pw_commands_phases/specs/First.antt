-- What `phase1` comes to: the flow graph of a module's text and its summary.
use Rattle.std.specs.Prelude.{◌≡◌, ℕ, Bool, true, false, List, [], ◌∷◌, Option, Some, None, Result, Ok, Err}
use Rattle.std.specs.FinMap as finite
use Rattle.pw_io.specs.Files.{Files, prefix_of}
use Rattle.pw_front_end.specs.Places.{refusal_line}
use Rattle.pw_flow.specs.declared.flow.FlowModule.{FlowModule}
use Rattle.pw_flow.specs.ValidFlow.{IsValid}
use Rattle.pw_flowfile.specs.FlowFile.{IsFlowFile}
use Rattle.pw_summary.specs.declared.summary.Summary.{Summary}
use Rattle.pw_summary_file.specs.Spelling.{IsSummaryFile}
use Rattle.pw_summarise.specs.Summarises.{Summarises}
use Rattle.pw_phase_one.specs.FirstPhase.{Phase, compiled}
use Rattle.pw_opt_rules.specs.Optimised.{IsOptimisedModule}
use Rattle.pw_store_modules.specs.FileNames.{text_name, flow_name, summary_name}
use Rattle.pw_store_modules.specs.Modules.{text_read}
use Rattle.pw_store_texts.specs.Headers.{headers_of}
use Rattle.pw_store_texts.specs.Names.{source_name}
use Rattle.pw_store_texts.specs.Outputs.{ComesBy, Output}
use Rattle.pw_commands_cpp.specs.Command.{cpp_fault}
use Rattle.pw_top_answer.specs.declared.answer.Answer.{Answer}
use Rattle.pw_top_answer.specs.declared.answer.Answer.TheVariants.{Refused, RefusedSource, Cpp}
use Rattle.pw_top_answer.specs.Effects.{Effect, NamedFile, answers_alone, puts_files}
use Rattle.pw_top_answer.specs.Outcomes.{IsLineDue}
use Rattle.pw_commands.specs.Needed.{needed_bytes}

-- the bytes of the file of a flow graph's summary
pub record IsSumOf (flow : FlowModule) (sum : List ℕ) : Type 0 where
  pub summary : Summary
  pub summarises : Summarises flow summary
  pub file : IsSummaryFile sum summary

-- the bytes of the flow file of a flow graph, and of the file of its summary
pub record AreBytesOf (flow : FlowModule) (bytes sum : List ℕ) : Type 0 where
  pub lawful : IsValid flow
  pub flow_file : IsFlowFile bytes flow
  pub sum_file : IsSumOf flow sum

-- the two files, in the order in which they are put
abbrev pub two_files : List ℕ → List ℕ → List ℕ → List NamedFile
two_files name bytes sum = (flow_name name, bytes) ∷ (summary_name name, sum) ∷ []

-- the names of the files that `phase1 NAME` puts
abbrev pub phase_one_puts : List ℕ → List (List ℕ)
phase_one_puts name = flow_name name ∷ summary_name name ∷ []

-- the flow graph that is written: the module's own, or its optimised one
abbrev pub IsForm : Bool → FlowModule → FlowModule → Type 0
IsForm false flow form = form ≡ flow
IsForm true flow form = IsOptimisedModule flow form

-- the bytes of the two files of a module's flow graph
pub record AreFormBytes (optimise : Bool) (flow : FlowModule) (bytes sum : List ℕ) : Type 0 where
  pub form : FlowModule
  pub of_flow : IsForm optimise flow form
  pub bytes_of : AreBytesOf form bytes sum

-- a flow graph comes to its two files, which are put; a refusal is told
abbrev pub EffectOfPhase : List ℕ → Bool → Phase → List ℕ → Effect → Type 0
EffectOfPhase name optimise (Err refusal) input effect = effect ≡ answers_alone (Refused name refusal) input
EffectOfPhase name optimise (Ok flow) input effect =
    (bytes : List ℕ) × (sum : List ℕ) × AreFormBytes optimise flow bytes sum × (effect ≡ puts_files (two_files name bytes sum) input)

abbrev pub PhaseOneOver : List ℕ → Bool → Result (List ℕ) Answer → List ℕ → Effect → Type 0
PhaseOneOver name optimise (Err answer) input effect = effect ≡ answers_alone answer input
PhaseOneOver name optimise (Ok text) input effect = EffectOfPhase name optimise (compiled name text) input effect

-- over the text in the module's file
abbrev pub TextEffect : Files → List ℕ → Bool → List ℕ → Effect → Type 0
TextEffect files name optimise input effect = PhaseOneOver name optimise (needed_bytes files (text_name name)) input effect

-- The same of the output that the preprocessor makes of a C source, whose refusal is told as the output's.
abbrev pub EffectOfSource : List ℕ → Bool → Phase → List ℕ → Effect → Type 0
EffectOfSource name optimise (Err refusal) input effect = effect ≡ answers_alone (RefusedSource name refusal) input
EffectOfSource name optimise (Ok flow) input effect = EffectOfPhase name optimise (Ok flow) input effect

-- the output is compiled, or the preprocessor's fault is told
abbrev pub EffectOfOutput : List ℕ → Bool → Output → List ℕ → Effect → Type 0
EffectOfOutput name optimise (Ok text) input effect = EffectOfSource name optimise (compiled name text) input effect
EffectOfOutput name optimise (Err fault) input effect = effect ≡ answers_alone (Cpp (cpp_fault fault)) input

-- over the module's C source, where it has one
abbrev pub EffectBy : Files → List ℕ → Bool → Option (List ℕ) → List ℕ → Effect → Type 0
EffectBy files name optimise None input effect = TextEffect files name optimise input effect
EffectBy files name optimise (Some source) input effect = (output : Output) × ComesBy (headers_of files) name (prefix_of text_read source) output × EffectOfOutput name optimise output input effect

-- `phase1 NAME` over a store's files, with `-O` or without
abbrev pub PhaseOneEffect : Files → List ℕ → Bool → List ℕ → Effect → Type 0
PhaseOneEffect files name optimise input effect = EffectBy files name optimise (finite.get files (source_name name)) input effect

-- ---- the line on which the module is refused, where it is

abbrev pub line_in : List ℕ → Phase → Option ℕ
line_in text (Err refusal) = Some (refusal_line text refusal)
line_in text (Ok flow) = None

abbrev pub line_over : List ℕ → Result (List ℕ) Answer → Option ℕ
line_over name (Err answer) = None
line_over name (Ok text) = line_in text (compiled name text)

abbrev pub text_line : Files → List ℕ → Option ℕ
text_line files name = line_over name (needed_bytes files (text_name name))

abbrev pub output_line : List ℕ → Output → Option ℕ
output_line name (Ok text) = line_in text (compiled name text)
output_line name (Err fault) = None

abbrev pub IsLineBy : Files → List ℕ → Option (List ℕ) → Answer → Option ℕ → Type 0
IsLineBy files name None answer line = IsLineDue (text_line files name) answer line
IsLineBy files name (Some source) answer line = (output : Output) → ComesBy (headers_of files) name (prefix_of text_read source) output → IsLineDue (output_line name output) answer line

-- of a C source it is a line of the output
abbrev pub IsPhaseLine : Files → List ℕ → Answer → Option ℕ → Type 0
IsPhaseLine files name answer line = IsLineBy files name (finite.get files (source_name name)) answer line
