use Rattle.std.proofs.Common.{◌≡◌, ◌<◌, length}
use Rattle.std.specs.List.{AllByRecursion}
use Rattle.pw_where.specs.Calls.{marked, entries_of, text_end}
use Rattle.pw_where.proofs.entries.mark_all.Given as goal

abbrev pub invariant-loop-rest : goal.invariant-loop-rest
invariant-loop-rest l = record {
  size : length l.table.items ≡ text_end;
  within : AllByRecursion (λ f. f.address < text_end) l.rest;
  marks : marked l.table.items (entries_of l.rest) ≡ marked l.fn.table.items (entries_of l.functions);
}

abbrev pub decreases-loop-rest : goal.decreases-loop-rest
decreases-loop-rest l = length l.rest
