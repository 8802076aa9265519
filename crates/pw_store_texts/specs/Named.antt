-- The names of the modules of a store: those of its files `NAME.i` and `NAME.c`.
use Rattle.std.specs.Prelude.{ℕ, Bool, ◌||◌, if◌then◌else◌, List, [], ◌∷◌, fold}
use Rattle.std.specs.FinMap as finite
use Rattle.pw_io.specs.Files.{Files}
use Rattle.pw_store_modules.specs.Modules.{Source, is_module_file, stem}
use Rattle.pw_store_sources.specs.Names.{is_source_file}
use Rattle.pw_store_texts.specs.Placing.{placed}

-- the text of a module, preprocessed or not
abbrev pub is_text_of_module : List ℕ → Bool
is_text_of_module file = is_source_file file || is_module_file file

-- with the name of a file's module, where the file is the text of one
abbrev pub with_name : Files → List ℕ → Files
with_name named file = if is_text_of_module file then finite.insert named (stem file) [] else named

-- the names of the modules of files, as a map to nothing
abbrev pub named_among : List (List ℕ) → Files
named_among files = fold with_name finite.empty files

-- the names of the modules, in byte order
abbrev pub names_of_texts : Files → List (List ℕ)
names_of_texts files = finite.keys (named_among (finite.keys files))

-- the same step over a list of modules without texts
abbrev pub with_entry : List Source → List ℕ → List Source
with_entry named file = if is_text_of_module file then placed (stem file) [] named else named
