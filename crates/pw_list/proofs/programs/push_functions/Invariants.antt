use Rattle.std.proofs.Common.{◌≡◌, ◌++◌, map, drop}
use Rattle.pw_list.specs.Listing.{lines_of}
use Rattle.pw_list.proofs.programs.push_functions.Given as goal

abbrev pub invariant-loop-i : goal.invariant-loop-i
invariant-loop-i l = l.text.items ++ lines_of l.words (map (λ f. f.now) (drop l.i l.functions)) ≡ l.fn.text.items ++ lines_of l.words (map (λ f. f.now) l.functions)
