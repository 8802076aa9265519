use Rattle.std.proofs.Common.{◌≡◌, ◌++◌, take}
use Rattle.std.specs.List.{flat_map}
use Rattle.pw_summary_parts.specs.Spelling.{reference}
use Rattle.pw_summary_parts.proofs.writing.push_reference_items.Given as goal

abbrev pub invariant-loop-reference : goal.invariant-loop-reference
invariant-loop-reference l = l.out.items ≡ l.fn.out.items ++ flat_map (reference l.names) (take l.reference-index l.refs)
