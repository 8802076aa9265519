use Rattle.std.proofs.Common.{◌≡◌, ◌++◌, map, take}
use Rattle.std.specs.List.{flat_map}
use Rattle.pw_list.specs.DatabaseText.{word_and_name}
use Rattle.pw_list.proofs.database.push_names.Given as goal

abbrev pub invariant-loop-own : goal.invariant-loop-own
invariant-loop-own l = l.out.items ≡ l.fn.out.items ++ flat_map (word_and_name l.word) (map (λ u. u.function.now) (take l.own-index l.uses))
