use Rattle.std.proofs.Common.{◌≡◌, ◌≤◌, ◌+◌, drop, length}
use Rattle.std.specs.List.{flat_map}
use Rattle.pw_fields.specs.Fields.{text}
use Rattle.pw_fields.specs.FieldNames.{first_unused}
use Rattle.pw_fields.proofs.names.first_outside.Given as goal

abbrev pub invariant-loop-i : goal.invariant-loop-i
invariant-loop-i l = record {
  within : l.i ≤ length l.names;
  left : l.left ≡ length (flat_map text (drop l.i l.names)) + l.behind;
  found : l.found ≡ first_unused (drop l.i l.names) l.wanted l.behind;
}

abbrev pub decreases-loop-i : goal.decreases-loop-i
decreases-loop-i l = l.i
