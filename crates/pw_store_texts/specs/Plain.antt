-- The modules of a store as they stand in their files `NAME.i`.
use Rattle.std.specs.Prelude.{◌≡◌, ℕ, ◌<◌, List, [], length, map, Result, Ok, Err}
use Rattle.pw_io.specs.Files.{Files}
use Rattle.pw_store_modules.specs.Modules.{modules_of}
use Rattle.pw_store_modules.specs.Views.{source}
use Rattle.pw_store_modules.specs.declared.few.ModulesFault.{ModulesFault}
use Rattle.pw_store_modules.specs.declared.few.ModulesFault.TheVariants as modules
use Rattle.pw_store_sources.specs.Sources.{Outputs}
use Rattle.pw_store_texts.specs.Bytes.{module_bytes}
use Rattle.pw_store_texts.specs.declared.plain.Plain.{Plain}
use Rattle.pw_value.specs.Limits.{module_limit}

-- What is answered of them, where this comes of the C sources: they are told, with the bytes of those beside which no `NAME.c` stands; or,
-- where there is no C source, their count, where there are more than there may be; or the store's own answer.
abbrev pub AnswersPlain : Files → Outputs → Result Plain ModulesFault → Type 0
AnswersPlain files outputs (Ok plain) = (map source plain.modules.items ≡ modules_of files) × (plain.bytes ≡ module_bytes files (modules_of files))
AnswersPlain files outputs (Err (modules.TooMany count)) = (outputs ≡ []) × (count ≡ length (modules_of files)) × (module_limit < count)
AnswersPlain files outputs (Err (modules.Store error)) = Unit {0}
