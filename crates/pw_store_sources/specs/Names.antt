-- Names of files whose bytes are texts.
use Rattle.std.specs.Prelude.{◌≡◌, ℕ, ◌-◌, Bool, true, ◌&&◌, ◌||◌, nat_le, List, ◌++◌, codes, drop, length}
use Rattle.std.specs.Str.{bytes_eq}
use Rattle.pw_cpp_sources.specs.Sources.{is_header}
use Rattle.pw_store_modules.specs.Modules.{is_module_file, is_module_name, stem}

abbrev pub source_ending : List ℕ
source_ending = codes ".c"

-- the file of a module's C source
abbrev pub source_name : List ℕ → List ℕ
source_name name = name ++ source_ending

abbrev pub is_source_file : List ℕ → Bool
is_source_file file = nat_le 2 (length file) && (bytes_eq (drop (length file - 2) file) source_ending && is_module_name (stem file))

-- a file whose bytes are a text: of a module, or a header
abbrev pub is_text_file : List ℕ → Bool
is_text_file file = is_source_file file || (is_module_file file || is_header file)

abbrev pub IsTextFile : List ℕ → Type 0
IsTextFile file = is_text_file file ≡ true
