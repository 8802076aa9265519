-- What the preprocessor makes of a module's C source.
use Rattle.std.specs.Prelude.{ℕ, List, [], ◌∷◌, ◌++◌, Result, Ok, Err}
use Rattle.std.specs.Global.{Vec}
use Rattle.pw_cpp.specs.Answers.{PreprocessesFile}
use Rattle.pw_cpp.specs.declared.fault.CppFault.{CppFault}
use Rattle.pw_cpp_directives.specs.declared.fault.CppKind.{CppKind}
use Rattle.pw_cpp_sources.specs.Sources.{Texts}
use Rattle.pw_store_sources.specs.Names.{source_name}

-- an output, or the kind, the file and the line of the first fault
abbrev pub Output : Type 0
Output = Result (List ℕ) (CppKind × List ℕ × ℕ)

-- the headers, and behind them a module's C source
abbrev pub files_with : Texts → List ℕ → List ℕ → Texts
files_with headers name text = headers ++ (source_name name, text) ∷ []

-- the C source of the module of this name, with this text, comes to this among headers
abbrev pub ComesBy : Texts → List ℕ → List ℕ → Output → Type 0
ComesBy headers name text output = PreprocessesFile (files_with headers name text) (source_name name) output

-- what the code answers, as an output
abbrev pub output_of : Result (Vec ℕ) CppFault → Output
output_of (Ok text) = Ok text.items
output_of (Err fault) = Err (fault.kind, fault.file, fault.line)
