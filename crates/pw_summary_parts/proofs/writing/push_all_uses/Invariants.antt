use Rattle.std.proofs.Common.{◌≡◌, ◌++◌, take, ◌<◌, get_or, ℕ}
use Rattle.std.specs.List.{flat_map}
use Rattle.pw_summary.specs.declared.summary.Uses.{Uses}
use Rattle.pw_summary_parts.specs.Spelling.{uses, FitsUses}
use Rattle.pw_summary_parts.proofs.writing.push_all_uses.Given as goal

abbrev pub invariant-loop-uses : goal.invariant-loop-uses
invariant-loop-uses l = record {
  written : l.out.items ≡ l.fn.out.items ++ flat_map (uses l.version l.names) (take l.uses-index l.all);
  fits : (k : ℕ) → k < l.uses-index → (d : Uses) → FitsUses (get_or l.all k d);
}
