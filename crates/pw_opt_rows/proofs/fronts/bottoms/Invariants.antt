use Rattle.std.proofs.Common.{◌≡◌, All, length, replicate, vec_len}
use Rattle.pw_opt_rules.specs.declared.flat.Flat.TheVariants.{Bottom}
use Rattle.pw_opt_rows.proofs.fronts.bottoms.Given as goal

abbrev pub invariant-loop : goal.invariant-loop
invariant-loop l = record {
  each : vec_len l.rows ≡ l.counter;
  bottoms : All (λ row. (row.0 ≡ replicate (length l.places.names.items) Bottom) × (length row.1 ≡ l.places.own)) l.rows.items;
}
