use Rattle.std.proofs.Common.{◌<◌, ◌∙◌, ℕ, [], ◌∷◌, ◌++◌, length, arith, ap}
use Rattle.std.proofs.lemmas.List.{get_or_read}
use Rattle.pw_live_fronts.proofs.Collecting.{named_push, unnamed}
use Rattle.pw_live_fronts.proofs.fronts.push_named.Goals as goal

pub returns-then-i-len : goal.returns-then-i-len
returns-then-i-len c = λ t. let e = c.args.exposed.now in unnamed e c.args.i t c.args.live.now.items (omega (arith, c.if-i-len.true, c.len.ensures, e.names.ok.0))

pub returns : goal.returns
returns c = λ t.
    let e = c.args.exposed.now in
    let old = c.args.live.now.items in
    let lt : c.args.i < length e.names.items = omega (arith, c.if-i-len.false, c.len.ensures, e.names.ok.0) in
    named_push e c.args.i t old c.push.new.self.items lt (c.in_ok-push.ensures.items ∙ ap (λ (n : ℕ). old ++ n ∷ []) (get_or_read e.names.items c.args.i c.index.result.now lt c.index.ensures 0))
