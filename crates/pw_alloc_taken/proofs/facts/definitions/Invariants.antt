use Rattle.std.proofs.Common.{◌≡◌, vec_len}
use Rattle.pw_alloc_taken.specs.Makers.{AreDefinitions}
use Rattle.pw_alloc_taken.proofs.facts.definitions.Given as goal

abbrev pub invariant-loop-p : goal.invariant-loop-p
invariant-loop-p l = record {
  count : vec_len l.rows ≡ l.temps;
  each : AreDefinitions l.makers l.p l.rows.items;
}
