use Rattle.std.proofs.Common.{◌≡◌, ◌++◌, map, take}
use Rattle.pw_summary_parts.proofs.names.add_references.Given as goal

abbrev pub invariant-loop-reference : goal.invariant-loop-reference
invariant-loop-reference l = map (λ name. name.now) l.used.items ≡ map (λ name. name.now) l.fn.used.items ++ map (λ r. r.0) (take l.reference-index l.refs)
