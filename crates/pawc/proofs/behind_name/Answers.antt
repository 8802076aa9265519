-- The words are what the arguments have yet to give, without the first.
use Rattle.std.proofs.Common.{◌≡◌, ◌∙◌, ap}
use Rattle.std.specs.Vec.Iter.{into_iter_items, into_iter_len}
use Rattle.std.specs.Iterator.Adapters.{skip_source}
use Rattle.std.proofs.lemmas.Iterator.{items_from_collect}
use Rattle.std.proofs.lemmas.Iterator.Adapters.{YieldsList-from_skip, YieldsList-from_vec}
use Rattle.pawc.proofs.behind_name.Goals as goal

pub returns : goal.returns
returns c =
    let source : skip_source c.skip.result ≡ c.args.args = c.skip.ensures.source in
    let count = ap into_iter_len source ∙ c.args.args.rest.ok.0 in
    let all = YieldsList-from_vec {s = skip_source c.skip.result} (into_iter_items c.args.args) (ap into_iter_items source) count in
    items_from_collect _ c.collect.ensures.ran (YieldsList-from_skip {s = c.skip.result} 1 all c.skip.ensures.count)
