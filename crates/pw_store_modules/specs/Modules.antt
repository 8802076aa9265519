-- The modules of a store: each file named `NAME.i` is the module NAME, and their order is that of these names.
use Rattle.std.specs.Prelude.{◌≡◌, ℕ, ◌+◌, ◌-◌, Bool, true, ◌==◌, ◌&&◌, ◌||◌, nat_le, List, length, take, drop, map, fold, Some, if◌then◌else◌}
use Rattle.std.specs.Option.{option_map, option_map_or}
use Rattle.std.specs.List.{list_all}
use Rattle.std.specs.Char.{is_ascii_alphanumeric}
use Rattle.std.specs.Str.{bytes_eq}
use Rattle.std.specs.FinMap as finite
use Rattle.pw_io.specs.Files.{Files, prefix_of}
use Rattle.pw_token.specs.Limits.{text_limit}
use Rattle.pw_store_modules.specs.FileNames.{text_ending, text_name}
use Rattle.pw_store_modules.specs.Limits.{module_name_limit}

-- bytes of a module's text that are read: one more than a text may have, so that one that is too long is seen to be
abbrev pub text_read : ℕ
text_read = text_limit + 1

-- a letter, a digit, `_` or `-`
abbrev pub is_name_byte : ℕ → Bool
is_name_byte byte = is_ascii_alphanumeric byte || ((byte == 95) || (byte == 45))

-- a module's name has letters, digits, `_` or `-`: one at least, and as many as the limit at most
abbrev pub is_module_name : List ℕ → Bool
is_module_name name = nat_le 1 (length name) && (nat_le (length name) module_name_limit && list_all is_name_byte name)

-- a file's name without its last two bytes
abbrev pub stem : List ℕ → List ℕ
stem file = take (length file - 2) file

-- the file of a module
abbrev pub is_module_file : List ℕ → Bool
is_module_file file = nat_le 2 (length file) && (bytes_eq (drop (length file - 2) file) text_ending && is_module_name (stem file))

abbrev pub IsModuleFile : List ℕ → Type 0
IsModuleFile file = is_module_file file ≡ true

-- The files hold a module of this name with this text: that of its file, as far as texts are read.
pub record HoldsModule (files : Files) (name text : List ℕ) : Type 0 where
  pub named : is_module_name name ≡ true
  pub reads : option_map (prefix_of text_read) (finite.get files (text_name name)) ≡ Some text

-- a map from the names of modules to their texts
abbrev pub Texts : Type 0
Texts = Files

-- What the modules are, said as a map from names to texts: `finite.get (module_map files) name` is `Some text` exactly
-- where `HoldsModule files name text`, which the public law `modules_are_exact` states.

-- with the module of a file, where there is one
abbrev pub with_module : Files → Texts → List ℕ → Texts
with_module files modules file =
    if is_module_file file then option_map_or (λ text. finite.insert modules (stem file) (prefix_of text_read text)) (finite.get files file) modules else modules

-- the modules of all files, by their names
unfoldable pub module_map : Files → Texts
module_map files = fold (with_module files) finite.empty (finite.keys files)

-- a module: its name, and its text as far as texts are read
abbrev pub Source : Type 0
Source = List ℕ × List ℕ

-- the modules in the byte order of their names
abbrev pub modules_of : Files → List Source
modules_of files = finite.entries (module_map files)

-- the names of the modules, in byte order
abbrev pub names_of_modules : Files → List (List ℕ)
names_of_modules files = map (λ source. source.0) (modules_of files)
