use Rattle.std.proofs.Common.{◌≡◌, drop}
use Rattle.std.specs.Prelude.{not, ◌==◌}
use Rattle.std.specs.List.{list_all}
use Rattle.pw_db_sharing.proofs.reading.is_apart.Given as goal

abbrev pub invariant-loop-other : goal.invariant-loop-other
invariant-loop-other l = list_all (λ q. not (q == l.r)) (drop l.other-index l.others) ≡ list_all (λ q. not (q == l.r)) l.others
