use Rattle.std.proofs.Common.{◌≡◌, map}
use Rattle.std.specs.String.{string_bytes}
use Rattle.std.specs.List.{range_with_len}
use Rattle.pw_gen.specs.Generator.{after, draws_before, module_of}
use Rattle.pw_gen.proofs.modules.generate.Given as goal

abbrev pub invariant-loop-k : goal.invariant-loop-k
invariant-loop-k l = record {
  made : map (λ f. (string_bytes f.0, f.1.items)) l.files.items ≡ map (module_of l.number l.modules) (range_with_len 0 l.k);
  drawn : l.state ≡ after (draws_before l.k) l.number;
}
