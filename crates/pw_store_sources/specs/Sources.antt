-- The C sources of a store, and what comes of each.
use Rattle.std.specs.Prelude.{ℕ, ◌+◌, if◌then◌else◌, List, [], ◌∷◌, Option, None}
use Rattle.std.specs.Option.{option_map}
use Rattle.std.specs.List.{filter_map}
use Rattle.std.specs.FinMap as finite
use Rattle.pw_cpp_sources.specs.Sources.{Texts}
use Rattle.pw_io.specs.Files.{Files, prefix_of}
use Rattle.pw_store_modules.specs.Modules.{stem, text_read}
use Rattle.pw_store_sources.specs.Bytes.{bytes_of}
use Rattle.pw_store_sources.specs.Headers.{headers_among, headers_of}
use Rattle.pw_store_sources.specs.Names.{is_source_file}
use Rattle.pw_store_sources.specs.Outputs.{ComesBy, Output, output_of}
use Rattle.pw_store_sources.specs.declared.compiled.Compiled.{Compiled}

-- a C source with its module's name, and its text as far as texts are read
abbrev pub source_in : Files → List ℕ → Option (List ℕ × List ℕ)
source_in files file = if is_source_file file then option_map (λ text. (stem file, prefix_of text_read text)) (finite.get files file) else None

-- the C sources among files of these names
abbrev pub sources_among : Files → List (List ℕ) → Texts
sources_among files names = filter_map (source_in files) names

abbrev pub sources_of : Files → Texts
sources_of files = sources_among files (finite.keys files)

-- the outputs of modules by their names
abbrev pub Outputs : Type 0
Outputs = List (List ℕ × Output)

-- what comes of C sources among headers, of each in its place
pub data AllCome (headers : Texts) : Texts → Outputs → Type 0 where
  none : AllCome headers [] []
  more : (name text : List ℕ) (output : Output) (sources : Texts) (outputs : Outputs) → ComesBy headers name text output → AllCome headers sources outputs
      → AllCome headers ((name, text) ∷ sources) ((name, output) ∷ outputs)

-- what comes of the C sources among files of these names, among the headers of such files
abbrev pub ComeAmong : Files → List (List ℕ) → Outputs → Type 0
ComeAmong files names outputs = AllCome (headers_among files names) (sources_among files names) outputs

-- what comes of the C sources of a store
abbrev pub StoreComes : Files → Outputs → Type 0
StoreComes files outputs = AllCome (headers_of files) (sources_of files) outputs

-- what the code has of them
abbrev pub outcome : Compiled → List ℕ × Output
outcome compiled = (compiled.name, output_of compiled.output)

-- the bytes of the C sources and headers among files of these names
abbrev pub preprocessed_bytes : Files → List (List ℕ) → ℕ
preprocessed_bytes files names = bytes_of (sources_among files names) + bytes_of (headers_among files names)
