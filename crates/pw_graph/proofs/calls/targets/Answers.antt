use Rattle.std.proofs.Common.{◌∙◌, ◌++◌, ◌∷◌, [], List, ℕ, map, ap, sym}
use Rattle.pw_graph.specs.Making.{home, targets_from}
use Rattle.pw_graph.proofs.Steps.{targets_more, mapped_item}
use Rattle.pw_graph.proofs.calls.targets.Goals as goal

pub loop-place-preserved : goal.loop-place-preserved
loop-place-preserved c =
    let hs = map home c.args.homes.now in
    let m = mapped_item home c.args.homes.now c.loop-place.place c.index-homes-place.result c.loop-place-test.true c.index-homes-place.is in
    let h = home c.index-homes-place.result in
    c.in_ok-add_target.ensures ∙ ap (λ (ts : List (List ℕ × ℕ)). ts ++ targets_from c.args.taken.now c.loop-place.place (h ∷ [])) c.loop-place.invariant ∙ sym (targets_more c.args.taken.now hs c.loop-place.place h m.0 m.1)
