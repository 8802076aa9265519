-- How the modules are read: their files in order, and the text of each.
use Rattle.std.specs.Prelude.{ℕ, Bool, if◌then◌else◌, List, [], fold, Option, insert}
use Rattle.std.specs.Option.{option_map}
use Rattle.std.specs.List.{position_or_len, filter_map}
use Rattle.std.specs.FinMap as finite
use Rattle.pw_value.specs.Names.{is_before}
use Rattle.pw_io.specs.Files.{Files, prefix_of}
use Rattle.pw_store_modules.specs.Modules.{Source, stem, is_module_file, text_read}

-- the one module stands before the other
abbrev pub is_file_before : List ℕ → List ℕ → Bool
is_file_before file other = is_before (stem file) (stem other)

-- a file in its place among files in the order of their modules
abbrev pub placed : List (List ℕ) → List ℕ → List (List ℕ)
placed files file = insert files (position_or_len (is_file_before file) files) file

abbrev pub with_file : List (List ℕ) → List ℕ → List (List ℕ)
with_file files file = if is_module_file file then placed files file else files

-- the modules' files among these, in order
abbrev pub module_files : List (List ℕ) → List (List ℕ)
module_files names = fold with_file [] names

abbrev pub source_of : Files → List ℕ → Option Source
source_of files file = option_map (λ text. (stem file, prefix_of text_read text)) (finite.get files file)

abbrev pub sources_of : Files → List (List ℕ) → List Source
sources_of files names = filter_map (source_of files) names
