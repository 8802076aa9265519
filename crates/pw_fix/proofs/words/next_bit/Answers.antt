use Rattle.std.proofs.Common.{inl, inr, ◌+◌, ◌*◌, ◌/◌, ◌≤◌, arith, get_or, refl}
use Rattle.std.proofs.Math.Facts.{Fits-lt-pow}
use Rattle.std.proofs.lemmas.Bool.{cases_lt}
use Rattle.pw_fix.proofs.Bits.{lowest_held, lowest_from, none_from}
use Rattle.pw_fix.proofs.words.next_bit.Goals as goal

pub returns-then-first-ne0-clause-found : goal.returns-then-first-ne0-clause-found
returns-then-first-ne0-clause-found c =
    let ws = c.args.words.now in
    let place = c.args.from / 64 in
    let low = lowest_from ws c.args.from (get_or ws place 0) refl (Fits-lt-pow (c.type_inv.words place)) c.if-first-ne0.true in
    (low.2, low.0)

pub returns-then-first-ne0-clause-least : goal.returns-then-first-ne0-clause-least
returns-then-first-ne0-clause-least c =
    let ws = c.args.words.now in
    let place = c.args.from / 64 in
    let low = lowest_from ws c.args.from (get_or ws place 0) refl (Fits-lt-pow (c.type_inv.words place)) c.if-first-ne0.true in
    low.3

pub loop-k-init : goal.loop-k-init
loop-k-init c = λ i start to.
    let ws = c.args.words.now in
    none_from ws c.args.from (get_or ws (c.args.from / 64) 0) refl c.if-first-ne0.false i start (omega arith)

pub returns-then-word-ne0-clause-found : goal.returns-then-word-ne0-clause-found
returns-then-word-ne0-clause-found c =
    let ws = c.args.words.now in
    let k = c.loop-k.k in
    let low = lowest_held ws k (get_or ws k 0) refl (Fits-lt-pow (c.type_inv.words k)) c.if-word-ne0.true in
    (let after : c.args.from / 64 + 1 ≤ k = c.loop-k.auto.k in omega arith, low.0)

pub returns-then-word-ne0-clause-least : goal.returns-then-word-ne0-clause-least
returns-then-word-ne0-clause-least c = λ i start to.
    let ws = c.args.words.now in
    let k = c.loop-k.k in
    let low = lowest_held ws k (get_or ws k 0) refl (Fits-lt-pow (c.type_inv.words k)) c.if-word-ne0.true in
    elim (cases_lt i (k * 64)) [
      | inl before ↦ c.loop-k.invariant i start before
      | inr here ↦ low.2 i here to
    ]
