use Rattle.std.proofs.Common.{◌≡◌, ◌<◌, ◌≤◌, ◌∷◌, ◌++◌, Bool, false, List, get_or, length, map, sym, ap, subst, ◌∙◌}
use Rattle.std.proofs.lemmas.List.{take_all}
use Rattle.pw_flow.specs.Outline.{Act}
use Rattle.pw_live_held.proofs.Pointing.{calls_in, called_more}
use Rattle.pw_live_held.proofs.points.add_calls.Goals as goal

pub loop-act-init : goal.loop-act-init
loop-act-init c = c.in_ok-push.ensures.items

pub loop-act-preserved : goal.loop-act-preserved
loop-act-preserved c =
    let acts = c.args.block.now.acts in
    let k = c.loop-act.act-index in
    let a = c.act-item.result in
    let lt : k < length acts = subst (λ (xs : List Act). k < length xs) c.acts-act-items.ensures c.loop-act-test.true in
    let is : get_or acts k a ≡ a = sym (subst (λ (xs : List Act). a ≡ get_or xs k a) c.acts-act-items.ensures c.act-item.is) in
    called_more acts a k c.calls.result c.args.all.now.items c.loop-act.all.items c.push-in-loop-act.new.self.items lt is c.calls.ensures c.in_ok-push-2.ensures.items c.loop-act.invariant

pub returns : goal.returns
returns c =
    let s = c.args.block.now in
    let k = c.loop-act.act-index in
    let le : length s.acts ≤ k = subst (λ (xs : List Act). length xs ≤ k) c.acts-act-items.ensures c.loop-act-test.false in
    c.loop-act.invariant
    ∙ ap (λ (acts : List Act). c.args.all.now.items ++ false ∷ map (λ (a : Act). a.calls) acts) (take_all k s.acts le)
    ∙ ap (λ (rest : List (Bool)). c.args.all.now.items ++ rest) (sym (calls_in s))
