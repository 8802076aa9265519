-- The headers of a store: each file whose name is that of one, in the byte order of the names.
use Rattle.std.specs.Prelude.{ℕ, if◌then◌else◌, List, Option, None}
use Rattle.std.specs.Option.{option_map}
use Rattle.std.specs.List.{filter_map}
use Rattle.std.specs.FinMap as finite
use Rattle.pw_cpp_sources.specs.Sources.{Texts, is_header}
use Rattle.pw_io.specs.Files.{Files, prefix_of}
use Rattle.pw_store_modules.specs.Modules.{text_read}

-- a header with its text, as far as texts are read
abbrev pub header_in : Files → List ℕ → Option (List ℕ × List ℕ)
header_in files file = if is_header file then option_map (λ text. (file, prefix_of text_read text)) (finite.get files file) else None

-- the headers among files of these names
abbrev pub headers_among : Files → List (List ℕ) → Texts
headers_among files names = filter_map (header_in files) names

abbrev pub headers_of : Files → Texts
headers_of files = headers_among files (finite.keys files)
