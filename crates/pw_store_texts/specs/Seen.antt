-- The files of a store as a build sees them.
use Rattle.std.specs.Prelude.{◌≡◌, ℕ, ◌<◌, ◌≤◌, if◌then◌else◌, List, [], ◌∷◌, codes, length, map, Result, Ok, Err}
use Rattle.std.specs.Global.{Vec}
use Rattle.std.specs.FinMap as finite
use Rattle.pw_io.specs.Files.{Files}
use Rattle.pw_store_modules.specs.FileNames.{text_name}
use Rattle.pw_store_modules.specs.Modules.{Source, modules_of}
use Rattle.pw_store_modules.specs.Views.{source}
use Rattle.pw_store_modules.specs.declared.few.ModulesFault.{ModulesFault}
use Rattle.pw_store_modules.specs.declared.few.ModulesFault.TheVariants as modules
use Rattle.pw_store_modules.specs.declared.modules.Module.{Module}
use Rattle.pw_store_texts.specs.Bytes.{is_crowded}
pub use Rattle.pw_store_sources.specs.Sources.{AllCome, none, more, Outputs, StoreComes, outcome, source_in, sources_among, sources_of}
use Rattle.pw_store_sources.specs.Outputs.{Output}
use Rattle.pw_value.specs.Limits.{module_limit}

-- ---- the files as a build sees them

-- A text that no module may have: a build refuses it, and in the place of that refusal the preprocessor's fault is told.
abbrev pub refused_text : List ℕ
refused_text = codes "@"

abbrev pub seen_text : Output → List ℕ
seen_text (Ok text) = text
seen_text (Err fault) = refused_text

-- the output of each C source stands as its module's text
abbrev pub seen : Files → Outputs → Files
seen files [] = files
seen files (output ∷ outputs) = seen (finite.insert files (text_name output.0) (seen_text output.1)) outputs

-- the name of the first module; where there is none, one that a module may have
abbrev pub first_name : List Source → List ℕ
first_name [] = codes "a"
first_name (source ∷ sources) = source.0

-- the first module has a text that no module may have
abbrev pub refused : Files → Files
refused files = finite.insert files (text_name (first_name (modules_of files))) refused_text

-- Where the texts of files are more bytes than there may be, a build is to refuse the first module, and in the place of that refusal the
-- bytes are told.
abbrev pub within_bytes : Files → Files → Files
within_bytes files shown = if is_crowded files then refused shown else shown

-- the files with what comes of their C sources
abbrev pub IsPreprocessed : Files → Files → Type 0
IsPreprocessed files shown = (outputs : Outputs) × StoreComes files outputs × (shown ≡ seen files outputs)

-- these are the files as a build sees them
abbrev pub IsSeen : Files → Files → Type 0
IsSeen files shown = (outputs : Outputs) × StoreComes files outputs × (shown ≡ within_bytes files (seen files outputs))

-- What is answered of the modules of files that are such: they are told, and no more than there may be; or their count, where there are
-- more; or the store's own answer.
abbrev pub AnswersOf : (Files → Type 0) → Result (Vec Module) ModulesFault → Type 0
AnswersOf Are (Ok found) = (shown : Files) × Are shown × (map source found.items ≡ modules_of shown) × (length found.items ≤ module_limit)
AnswersOf Are (Err (modules.TooMany count)) = (shown : Files) × Are shown × (count ≡ length (modules_of shown)) × (module_limit < count)
AnswersOf Are (Err (modules.Store error)) = Unit {0}

abbrev pub AnswersPreprocessed : Files → Result (Vec Module) ModulesFault → Type 0
AnswersPreprocessed files answer = AnswersOf (IsPreprocessed files) answer

-- the same of the files as a build sees them
abbrev pub AnswersSeen : Files → Result (Vec Module) ModulesFault → Type 0
AnswersSeen files answer = AnswersOf (IsSeen files) answer
