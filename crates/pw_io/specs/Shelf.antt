-- Files that stand in a map in memory.
use Rattle.std.specs.Prelude.{ℕ, List, map, reverse, Vec, String, string_bytes}
use Rattle.std.specs.declared.alloc.Global.{Global}
use Rattle.std.specs.BTreeMap.{BTreeMap}
use Rattle.std.specs.FinMap as finite
use Rattle.pw_io.specs.Files.{Files}

-- a name with a file, as bytes
abbrev pub file_shown : String Global × Vec ℕ Global → List ℕ × List ℕ
file_shown entry = (string_bytes entry.0, entry.1.items)

-- the files that stand in the map
unfoldable pub files_in : BTreeMap (String Global) (Vec ℕ Global) → Files
files_in kept = finite.from_entries (map file_shown kept.entries)

-- the files of a list, where the last entry of a name counts
unfoldable pub files_of : List (String Global × Vec ℕ Global) → Files
files_of entries = finite.from_entries (reverse (map file_shown entries))
