use Rattle.std.proofs.Common.{◌≡◌, ℕ, ◌+◌, length}
use Rattle.std.specs.Prelude.{unwrap_or, nat_eq}
use Rattle.indexmap.specs.IndexMap.{get}
use Rattle.pw_delay.specs.Placement.{sizes, mark_at}
use Rattle.pw_delay.proofs.marking.mark.Given as goal

abbrev pub invariant-loop-rest : goal.invariant-loop-rest
invariant-loop-rest l = record {
  marked : (b : ℕ) → unwrap_or (get nat_eq l.marks b) (mark_at l.long l.at l.rest b) ≡ mark_at l.long 0 l.items b;
  count : l.at + sizes l.long l.rest ≡ l.end;
}

abbrev pub decreases-loop-rest : goal.decreases-loop-rest
decreases-loop-rest l = length l.rest
