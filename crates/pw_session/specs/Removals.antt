-- Which files a session may remove.
use Rattle.std.specs.Prelude.{◌≡◌, ℕ, List, Option, Some, None, Contains}
use Rattle.pw_store_texts.specs.Names.{IsTextFile}
use Rattle.pw_session_script.specs.Script.{LineValue, RemoveText, first_line}
use Rattle.pw_session.specs.Session.{script_lines}

-- the line removes the file, which is a text's
abbrev pub IsRemovedBy : LineValue → List ℕ → Type 0
IsRemovedBy line name = IsTextFile name × (line ≡ RemoveText name)

-- the line that stands first in a script does
abbrev pub IsRemovedFirst : List ℕ → List ℕ → Type 0
IsRemovedFirst script name = (line : LineValue) × (later : List ℕ) × (first_line script ≡ Some (line, later)) × IsRemovedBy line name

-- a line of a script does
abbrev pub IsRemovedIn : List ℕ → List ℕ → Type 0
IsRemovedIn script name = IsTextFile name × Contains (script_lines script).lines (RemoveText name)

-- the same of what an input tells; of one that tells nothing it is only known that the file is a text's
abbrev pub MayRemoveFirst : Option (List ℕ) → List ℕ → Type 0
MayRemoveFirst None name = IsTextFile name
MayRemoveFirst (Some script) name = IsRemovedFirst script name

abbrev pub MayRemove : Option (List ℕ) → List ℕ → Type 0
MayRemove None name = IsTextFile name
MayRemove (Some script) name = IsRemovedIn script name
