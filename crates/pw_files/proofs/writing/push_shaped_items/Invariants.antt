use Rattle.std.proofs.Common.{◌≡◌, ◌++◌, take, ◌<◌, get_or, List, ℕ}
use Rattle.std.specs.List.{flat_map}
use Rattle.pw_fields.specs.Fields.{FitsText}
use Rattle.pw_files.specs.Names.{shaped}
use Rattle.pw_files.proofs.writing.push_shaped_items.Given as goal

abbrev pub invariant-loop-item : goal.invariant-loop-item
invariant-loop-item l = record {
  written : l.out.items ≡ l.fn.out.items ++ flat_map (shaped l.names) (take l.item-index l.items);
  fits : (k : ℕ) → k < l.item-index → (d : List ℕ × List ℕ) → FitsText (get_or l.items k d).1;
}
