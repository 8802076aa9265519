use Rattle.std.proofs.Common.{◌≡◌, map, drop}
use Rattle.std.specs.Prelude.{not, ◌==◌}
use Rattle.std.specs.List.{list_all}
use Rattle.pw_db_file.proofs.reading.is_register_free.Given as goal

abbrev pub invariant-loop-web : goal.invariant-loop-web
invariant-loop-web l = list_all (λ w. not (w.reg == l.reg)) (map (λ w. w.0) (drop l.web-index l.own)) ≡ list_all (λ w. not (w.reg == l.reg)) (map (λ w. w.0) l.own)
