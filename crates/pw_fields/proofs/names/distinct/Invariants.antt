use Rattle.std.proofs.Common.{◌≡◌, ◌++◌, [], drop, map, ℕ, List, ◌<◌, length, get_or}
use Rattle.pw_value.specs.Names.{IsNameLength}
use Rattle.pw_fields.specs.FieldNames.{unrepeated}
use Rattle.pw_fields.proofs.names.distinct.Given as goal

abbrev pub invariant-loop-name : goal.invariant-loop-name
invariant-loop-name l = record {
  made : l.names.items ++ unrepeated l.before (map (λ name. name.now) (drop l.name-index l.sorted)) ≡ unrepeated [] (map (λ name. name.now) l.sorted);
  lengths : (k : ℕ) → k < l.name-index → (d : List ℕ) → IsNameLength (length (get_or (map (λ name. name.now) l.sorted) k d));
}
