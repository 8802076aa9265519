-- A module's C source among the files of a store.
use Rattle.std.specs.Prelude.{◌≡◌, ℕ, List, Some, true}
use Rattle.std.specs.Option.{option_map}
use Rattle.std.specs.FinMap as finite
use Rattle.pw_io.specs.Files.{Files, prefix_of}
use Rattle.pw_store_modules.specs.Modules.{is_module_name, text_read}
use Rattle.pw_store_texts.specs.Headers.{headers_of}
use Rattle.pw_store_texts.specs.Names.{source_name}
use Rattle.pw_store_texts.specs.Outputs.{ComesBy, Output}

-- The files hold a C source of the module of this name with this text: that of its file, as far as texts are read.
pub record HoldsSource (files : Files) (name text : List ℕ) : Type 0 where
  pub named : is_module_name name ≡ true
  pub reads : option_map (prefix_of text_read) (finite.get files (source_name name)) ≡ Some text

-- Each C source among the files comes to an output or to a fault.
abbrev pub EachComes : Files → Type 0
EachComes files = (name text : List ℕ) → HoldsSource files name text → (output : Output) × ComesBy (headers_of files) name text output
