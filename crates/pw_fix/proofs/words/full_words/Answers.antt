use Rattle.std.proofs.Common.{rules, ◌≡◌, ◌-◌, ◌^◌, ◌<◌, ◌/◌, ◌%◌, ◌↔◌, replicate, subst, sym, set}
use Rattle.std.specs.Int.{div_ceil}
use Rattle.pw_fix.specs.Words.{HasBit}
use Rattle.pw_fix.proofs.Bits.{full_even, full_odd}
use Rattle.pw_fix.proofs.words.full_words.Goals as goal

pub returns-then-rest-eq0-clause-holds : goal.returns-then-rest-eq0-clause-holds
returns-then-rest-eq0-clause-holds c = λ i.
    let made : c.in_ok-words.words.items ≡ replicate (div_ceil c.args.len 64) (2 ^ 64 - 1) = search rules in
    subst (λ ws. HasBit ws i ↔ (i < c.args.len)) (sym made) (full_even c.args.len i c.if-rest-eq0.true)

pub returns-clause-holds : goal.returns-clause-holds
returns-clause-holds c = λ i.
    let made : c.in_ok-words.words.items ≡ replicate (div_ceil c.args.len 64) (2 ^ 64 - 1) = search rules in
    subst (λ ws. HasBit (set ws (c.args.len / 64) ((2 ^ 64 - 1) / 2 ^ (64 - c.args.len % 64))) i ↔ (i < c.args.len)) (sym made) (full_odd c.args.len i c.if-rest-eq0.false)
