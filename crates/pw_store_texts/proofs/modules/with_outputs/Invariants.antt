use Rattle.std.proofs.Common.{◌≡◌, length, map}
use Rattle.std.specs.Vec.Iter.{into_iter_items, into_iter_len}
use Rattle.pw_store_modules.specs.Views.{source}
use Rattle.pw_store_texts.specs.Placing.{with_outputs}
use Rattle.pw_store_sources.specs.Sources.{outcome}
use Rattle.pw_store_texts.proofs.modules.with_outputs.Given as goal

-- the modules so far, with what is left, are all
abbrev pub invariant-loop-compiled : goal.invariant-loop-compiled
invariant-loop-compiled l =
    record {
      placed : with_outputs (map source l.all.items) (map outcome (into_iter_items l.compiled-iterator)) ≡ with_outputs (map source l.fn.modules.items) (map outcome l.fn.outputs.items);
      count : into_iter_len l.compiled-iterator ≡ length (into_iter_items l.compiled-iterator);
    }
