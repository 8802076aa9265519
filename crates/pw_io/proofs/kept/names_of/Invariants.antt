-- The names so far and those that are left are all names.
use Rattle.std.proofs.Common.{◌≡◌, ◌++◌, map, string_bytes}
use Rattle.std.specs.BTreeMap as tree
use Rattle.pw_io.proofs.kept.names_of.Given as goal

abbrev pub invariant-loop-name : goal.invariant-loop-name
invariant-loop-name l = map string_bytes l.names.items ++ map string_bytes l.name-iterator ≡ map string_bytes (tree.keys l.kept)
