use Rattle.std.proofs.Common.{◌≡◌, ◌≤◌, ◌+◌, map, arith, true, false}
use Rattle.std.proofs.lemmas.List.{length-map}
use Rattle.pw_link_rules.specs.Entries.{declaration}
use Rattle.pw_link_rules.proofs.Sorted.{get_mapped}
use Rattle.pw_link_rules.proofs.Clashes.{none_behind, next_by, none_to_end, none_yet, one_further}
use Rattle.pw_link_rules.proofs.conflicts.first_against.Goals as goal

pub loop-j-init : goal.loop-j-init
loop-j-init c = none_yet (map declaration c.args.all.now) c.args.i

pub returns-then-not-is_same : goal.returns-then-not-is_same
returns-then-not-is_same c =
    let low : c.args.i + 1 ≤ c.loop-j.j = c.loop-j.auto.j in
    none_behind (map declaration c.args.all.now) c.requires.order c.args.i c.loop-j.j (declaration c.index-all-i.result) (declaration c.index-all-j.result) (omega (arith, low))
    (get_mapped declaration c.args.all.now c.args.i c.index-all-i.result c.requires.place c.index-all-i.is)
    (get_mapped declaration c.args.all.now c.loop-j.j c.index-all-j.result c.loop-j-test.true c.index-all-j.is)
    (λ e. let yes : c.is_same.result ≡ true = c.is_same.ensures.1 e in let lacks : c.is_same.result ≡ false = c.if-not-is_same.true in absurd cc) c.loop-j.invariant

pub returns-then-is_clash : goal.returns-then-is_clash
returns-then-is_clash c =
    let low : c.args.i + 1 ≤ c.loop-j.j = c.loop-j.auto.j in
    next_by (map declaration c.args.all.now) c.args.i c.loop-j.j (declaration c.index-all-i.result) (declaration c.index-all-j.result) (omega (arith, low))
    (get_mapped declaration c.args.all.now c.args.i c.index-all-i.result c.requires.place c.index-all-i.is)
    (get_mapped declaration c.args.all.now c.loop-j.j c.index-all-j.result c.loop-j-test.true c.index-all-j.is)
    (c.is_clash.ensures.0 c.if-is_clash.true) c.loop-j.invariant

pub loop-j-preserved : goal.loop-j-preserved
loop-j-preserved c =
    one_further (map declaration c.args.all.now) c.args.i c.loop-j.j (declaration c.index-all-i.result) (declaration c.index-all-j.result)
    (get_mapped declaration c.args.all.now c.args.i c.index-all-i.result c.requires.place c.index-all-i.is)
    (get_mapped declaration c.args.all.now c.loop-j.j c.index-all-j.result c.loop-j-test.true c.index-all-j.is)
    (λ e. let yes : c.is_clash.result ≡ true = c.is_clash.ensures.1 e in let lacks : c.is_clash.result ≡ false = c.if-is_clash.false in absurd cc) c.loop-j.invariant

pub returns : goal.returns
returns c = none_to_end (map declaration c.args.all.now) c.args.i (λ k low. c.loop-j.invariant k (omega (arith, low, length-map c.args.all.now declaration, c.loop-j-test.false)))
