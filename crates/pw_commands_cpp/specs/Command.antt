-- What `cpp` comes to.
use Rattle.std.specs.Prelude.{◌≡◌, ◌≢◌, ℕ, List, [], ◌∷◌, Option, Some, None, Result, Ok, Err}
use Rattle.std.specs.FinMap as finite
use Rattle.pw_cpp.specs.declared.fault.CppFault.{CppFault}
use Rattle.pw_cpp_directives.specs.declared.fault.CppKind.{CppKind}
use Rattle.pw_cpp_directives.specs.declared.fault.CppKind.TheVariants as kind
use Rattle.pw_cpp_sources.specs.Sources.{Texts}
use Rattle.pw_io.specs.Files.{Files, prefix_of}
use Rattle.pw_store_modules.specs.FileNames.{text_name}
use Rattle.pw_store_modules.specs.Modules.{text_read}
use Rattle.pw_store_texts.specs.Headers.{headers_of}
use Rattle.pw_store_texts.specs.Names.{source_name}
use Rattle.pw_store_texts.specs.Outputs.{ComesBy, Output}
use Rattle.pw_top_answer.specs.Effects.{Effect, answers_alone, puts_files}
use Rattle.pw_top_answer.specs.declared.answer.Answer.{Answer}
use Rattle.pw_top_answer.specs.declared.answer.Answer.TheVariants.{Done, Cpp, StoreFault, NoMemory, BadFile}

-- the text of a C source, as far as texts are read, or that it is absent
abbrev pub text_in : List ℕ → Option (List ℕ) → Result (List ℕ) Answer
text_in file None = Err (BadFile file None)
text_in file (Some text) = Ok (prefix_of text_read text)

abbrev pub needed_source : Files → List ℕ → Result (List ℕ) Answer
needed_source files name = text_in (source_name name) (finite.get files (source_name name))

abbrev pub cpp_fault : CppKind × List ℕ × ℕ → CppFault
cpp_fault f = record { kind = f.0; file = f.1; line = f.2 }

-- the output is put, or the fault is told
abbrev pub effect_of : List ℕ → Output → List ℕ → Effect
effect_of name (Ok output) input = puts_files ((text_name name, output) ∷ []) input
effect_of name (Err f) input = answers_alone (Cpp (cpp_fault f)) input

abbrev pub CppOver : Texts → List ℕ → Result (List ℕ) Answer → List ℕ → Effect → Type 0
CppOver headers name (Err answer) input effect = effect ≡ answers_alone answer input
CppOver headers name (Ok text) input effect = (output : Output) × ComesBy headers name text output × (effect ≡ effect_of name output input)

-- `cpp NAME` over a store's files
abbrev pub CppEffect : Files → List ℕ → List ℕ → Effect → Type 0
CppEffect files name input effect = CppOver (headers_of files) name (needed_source files name) input effect

-- the names of the files that `cpp NAME` puts
abbrev pub cpp_puts : List ℕ → List (List ℕ)
cpp_puts name = text_name name ∷ []

-- its answers; a fault is none for want of memory
abbrev pub IsCppAnswer : Answer → Type 0
IsCppAnswer Done = Unit {0}
IsCppAnswer (Cpp fault) = fault.kind ≢ kind.NoMemory
IsCppAnswer StoreFault = Unit {0}
IsCppAnswer NoMemory = Unit {0}
IsCppAnswer (BadFile name at) = Unit {0}
IsCppAnswer _ = ⊥
