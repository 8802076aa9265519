-- What is told of a module that a build refuses: that the texts of the store are more bytes than there may be, where they are; else what
-- came of its C source, where it has one.
use Rattle.std.specs.Prelude.{◌≡◌, ◌≢◌, ℕ, Bool, true, false, if◌then◌else◌, List, Option, Some, None, IsSomeAnd, Result, Ok, Err}
use Rattle.std.specs.Global.{Vec}
use Rattle.std.specs.Option.{option_map}
use Rattle.std.specs.FinMap as finite
use Rattle.pw_cpp.specs.declared.fault.CppFault.{CppFault}
use Rattle.pw_cpp_directives.specs.declared.fault.CppKind.TheVariants as kind
use Rattle.pw_cpp_sources.specs.Sources.{Texts}
use Rattle.pw_front_end.specs.declared.refusal.Refusal.{Refusal}
use Rattle.pw_io.specs.Files.{Files, prefix_of}
use Rattle.pw_store_modules.specs.Modules.{is_module_name, text_read}
use Rattle.pw_store_texts.specs.Bytes.{is_crowded, text_bytes}
use Rattle.pw_store_texts.specs.Headers.{headers_of}
use Rattle.pw_store_texts.specs.Names.{source_name}
use Rattle.pw_store_texts.specs.Outputs.{ComesBy, Output, output_of}
use Rattle.pw_top_answer.specs.declared.answer.Answer.{Answer}
use Rattle.pw_top_answer.specs.declared.answer.Answer.TheVariants.{Refused, RefusedSource, Cpp, LinkRefused, StoreFault, NoMemory}
use Rattle.pw_value.specs.declared.fault.LinkFault.TheVariants.{TooMany}
use Rattle.pw_value.specs.declared.fault.What.TheVariants.{TextBytes}
use Rattle.pw_commands_cpp.specs.Command.{cpp_fault}

-- the C source of a module, as far as texts are read, where it has one
abbrev pub source_at : Files → List ℕ → Option (List ℕ)
source_at files name = if is_module_name name then option_map (prefix_of text_read) (finite.get files (source_name name)) else None

-- of a module that has one: the preprocessor's fault, or that its output is refused
abbrev pub told_of : List ℕ → Refusal → Output → Answer
told_of name refusal (Ok output) = RefusedSource name refusal
told_of name refusal (Err fault) = Cpp (cpp_fault fault)

abbrev pub TellsBy : Texts → List ℕ → Refusal → Option (List ℕ) → Answer → Type 0
TellsBy headers name refusal None told = told ≡ Refused name refusal
TellsBy headers name refusal (Some text) told = (output : Output) × ComesBy headers name text output × (told ≡ told_of name refusal output)

-- the bytes of the texts of a store, that there are too many
abbrev pub too_many_bytes : Files → Answer
too_many_bytes files = LinkRefused (TooMany TextBytes (text_bytes files))

-- of a refused module, where the texts are more bytes than there may be, and where they are not
abbrev pub TellsWhere : Bool → Files → List ℕ → Refusal → Answer → Type 0
TellsWhere true files name refusal told = told ≡ too_many_bytes files
TellsWhere false files name refusal told = TellsBy (headers_of files) name refusal (source_at files name) told

-- what is told over a store's files in the place of an answer
abbrev pub TellsAnswer : Files → Answer → Answer → Type 0
TellsAnswer files (Refused name refusal) told = TellsWhere (is_crowded files) files name refusal told
TellsAnswer files answer told = told ≡ answer

-- A fault of the store, and want of memory, may come in the place of a refusal. First where the bytes of the texts are not looked at.
abbrev pub TellsCompiled : Files → List ℕ → Refusal → Answer → Type 0
TellsCompiled files name refusal StoreFault = Unit {0}
TellsCompiled files name refusal NoMemory = Unit {0}
TellsCompiled files name refusal told = TellsBy (headers_of files) name refusal (source_at files name) told

abbrev pub TellsRefusal : Files → List ℕ → Refusal → Answer → Type 0
TellsRefusal files name refusal StoreFault = Unit {0}
TellsRefusal files name refusal NoMemory = Unit {0}
TellsRefusal files name refusal told = TellsAnswer files (Refused name refusal) told

abbrev pub TellsOrFails : Files → Answer → Answer → Type 0
TellsOrFails files (Refused name refusal) told = TellsRefusal files name refusal told
TellsOrFails files answer told = told ≡ answer

-- what came of a module's C source, where it has one
abbrev pub ComesOf : Files → List ℕ → Option (Result (Vec ℕ) CppFault) → Type 0
ComesOf files name None = finite.get files (source_name name) ≡ None
ComesOf files name (Some answer) = IsSomeAnd (finite.get files (source_name name)) (λ text. ComesBy (headers_of files) name (prefix_of text_read text) (output_of answer))

-- what may be told of a refusal, whatever the store tells; a fault is none for want of memory
abbrev pub IsToldOf : List ℕ → Refusal → Answer → Type 0
IsToldOf name refusal (Refused other found) = (other ≡ name) × (found ≡ refusal)
IsToldOf name refusal (RefusedSource other found) = (other ≡ name) × (found ≡ refusal)
IsToldOf name refusal (Cpp fault) = fault.kind ≢ kind.NoMemory
IsToldOf name refusal (LinkRefused fault) = (bytes : ℕ) × (fault ≡ TooMany TextBytes bytes)
IsToldOf name refusal StoreFault = Unit {0}
IsToldOf name refusal NoMemory = Unit {0}
IsToldOf name refusal told = ⊥

abbrev pub IsToldAnswer : Answer → Answer → Type 0
IsToldAnswer (Refused name refusal) told = IsToldOf name refusal told
IsToldAnswer answer told = told ≡ answer
