use Rattle.std.proofs.Common.{◌≡◌, ◌++◌, map, take}
use Rattle.std.specs.List.{flat_map}
use Rattle.pw_summary_parts.specs.Spelling.{names_of_uses}
use Rattle.pw_summary_parts.proofs.names.add_all_uses.Given as goal

abbrev pub invariant-loop-uses : goal.invariant-loop-uses
invariant-loop-uses l = map (λ name. name.now) l.used.items ≡ map (λ name. name.now) l.fn.used.items ++ flat_map names_of_uses (take l.uses-index l.all)
