use Rattle.std.proofs.Common.{◌≡◌, map, drop}
use Rattle.std.specs.Prelude.{nat_lt}
use Rattle.std.specs.List.{list_all}
use Rattle.pw_db_file.proofs.reading.is_number_above.Given as goal

abbrev pub invariant-loop-web : goal.invariant-loop-web
invariant-loop-web l = list_all (λ w. nat_lt w.id l.id) (map (λ w. w.0) (drop l.web-index l.own)) ≡ list_all (λ w. nat_lt w.id l.id) (map (λ w. w.0) l.own)
