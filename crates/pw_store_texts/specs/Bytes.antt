-- The bytes of the texts of a store together.
use Rattle.std.specs.Prelude.{ℕ, Bool, ◌&&◌, ◌||◌, if◌then◌else◌, nat_lt, List, length, sum_by, is_none}
use Rattle.std.specs.Option.{option_map_or}
use Rattle.std.specs.FinMap as finite
use Rattle.pw_cpp_sources.specs.Sources.{is_header}
use Rattle.pw_io.specs.Files.{Files, prefix_of}
use Rattle.pw_store_modules.specs.Modules.{Source, is_module_file, stem, text_read}
use Rattle.pw_store_sources.specs.Names.{is_source_file, source_name}
use Rattle.pw_value.specs.Limits.{texts_limit}

-- the text of a module, or a header: `NAME.i` is one where no `NAME.c` stands
abbrev pub is_counted : Files → List ℕ → Bool
is_counted files file = is_source_file file || (is_header file || (is_module_file file && is_none (finite.get files (source_name (stem file)))))

-- its bytes, as far as texts are read
abbrev pub bytes_in : Files → List ℕ → ℕ
bytes_in files file = if is_counted files file then option_map_or (λ text. length (prefix_of text_read text)) (finite.get files file) 0 else 0

abbrev pub bytes_among : Files → List (List ℕ) → ℕ
bytes_among files names = sum_by (bytes_in files) names

abbrev pub text_bytes : Files → ℕ
text_bytes files = bytes_among files (finite.keys files)

-- the bytes of a module's text that stands in `NAME.i`, where no `NAME.c` stands beside it
abbrev pub bytes_alone : Files → Source → ℕ
bytes_alone files source = if is_none (finite.get files (source_name source.0)) then length source.1 else 0

abbrev pub module_bytes : Files → List Source → ℕ
module_bytes files sources = sum_by (bytes_alone files) sources

-- they are more than there may be
abbrev pub is_crowded : Files → Bool
is_crowded files = nat_lt texts_limit (text_bytes files)
