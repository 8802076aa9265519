use Rattle.std.proofs.Common.{◌≡◌, ◌++◌, drop, map}
use Rattle.pw_cpp_sources.specs.Sources.{texts_of}
use Rattle.pw_store_sources.specs.Sources.{AllCome, Outputs, outcome}
use Rattle.pw_store_sources.specs.Views.{named_text}
use Rattle.pw_store_sources.proofs.sources.compile_all.Given as goal

-- whatever comes of the sources that are left, comes behind what came so far; the headers are as they were
abbrev pub invariant-loop-source : goal.invariant-loop-source
invariant-loop-source l = record {
  comes : (outputs : Outputs) → AllCome (texts_of l.fn.headers.items) (drop l.source-index (map named_text l.sources)) outputs → AllCome (texts_of l.fn.headers.items) (map named_text l.sources) (map outcome l.all.items ++ outputs);
  same : l.headers.items ≡ l.fn.headers.items;
}
