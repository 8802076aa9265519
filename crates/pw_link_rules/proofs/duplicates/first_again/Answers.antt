use Rattle.std.proofs.Common.{◌≡◌, ◌-◌, ◌<◌, ◌≤◌, length, map, arith, true}
use Rattle.std.proofs.lemmas.List.{length-map}
use Rattle.pw_link_rules.specs.Entries.{definition}
use Rattle.pw_link_rules.proofs.Sorted.{get_mapped}
use Rattle.pw_link_rules.proofs.Twice.{none_again, first_two_at, more_others}
use Rattle.pw_link_rules.proofs.duplicates.first_again.Goals as goal

pub loop-i-init : goal.loop-i-init
loop-i-init c = λ k low. absurd (omega (arith, low))

pub loop-i-preserved : goal.loop-i-preserved
loop-i-preserved c =
    let some : 1 ≤ c.loop-i.i = c.loop-i.auto.i in
    let within : c.loop-i.i - 1 < length c.args.all.now = omega (arith, c.loop-i-test.true) in
    more_others (map definition c.args.all.now) c.loop-i.i (definition c.index-all-i.result) (definition c.index-all-i-in-loop-i.result) some
    (get_mapped definition c.args.all.now (c.loop-i.i - 1) c.index-all-i.result within c.index-all-i.is)
    (get_mapped definition c.args.all.now c.loop-i.i c.index-all-i-in-loop-i.result c.loop-i-test.true c.index-all-i-in-loop-i.is)
    (λ again. let yes : c.is_again.result ≡ true = c.is_again.ensures.1 again in let no_more = c.if-is_again.false in absurd cc)
    c.loop-i.invariant

pub returns-then-is_again : goal.returns-then-is_again
returns-then-is_again c =
    let some : 1 ≤ c.loop-i.i = c.loop-i.auto.i in
    let within : c.loop-i.i - 1 < length c.args.all.now = omega (arith, c.loop-i-test.true) in
    first_two_at (map definition c.args.all.now) c.requires c.loop-i.i (definition c.index-all-i.result) (definition c.index-all-i-in-loop-i.result) some
    (get_mapped definition c.args.all.now (c.loop-i.i - 1) c.index-all-i.result within c.index-all-i.is)
    (get_mapped definition c.args.all.now c.loop-i.i c.index-all-i-in-loop-i.result c.loop-i-test.true c.index-all-i-in-loop-i.is)
    (c.is_again.ensures.0 c.if-is_again.true) c.loop-i.invariant

pub returns : goal.returns
returns c = none_again (map definition c.args.all.now) c.requires (λ k low. c.loop-i.invariant k (omega (arith, low, length-map c.args.all.now definition, c.loop-i-test.false)))
