use Rattle.std.proofs.Common.{◌≡◌, ◌++◌, take}
use Rattle.std.specs.List.{flat_map}
use Rattle.pw_fields.specs.FieldNames.{name_index}
use Rattle.pw_files.proofs.writing.push_name_items.Given as goal

abbrev pub invariant-loop-item : goal.invariant-loop-item
invariant-loop-item l = l.out.items ≡ l.fn.out.items ++ flat_map (name_index l.names) (take l.item-index l.items)
