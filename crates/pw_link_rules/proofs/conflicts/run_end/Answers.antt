use Rattle.std.proofs.Common.{◌≡◌, ◌≤◌, ◌+◌, length, map, arith, true, false, sym}
use Rattle.std.proofs.lemmas.List.{length-map}
use Rattle.pw_link_rules.specs.Entries.{declaration}
use Rattle.pw_link_rules.proofs.Sorted.{get_mapped}
use Rattle.pw_link_rules.proofs.Clashes.{run_first, run_further, run_ends, run_all}
use Rattle.pw_link_rules.proofs.conflicts.run_end.Goals as goal

pub loop-k-init : goal.loop-k-init
loop-k-init c = run_first (map declaration c.args.all.now) c.args.i

pub returns-then-not-is_twin : goal.returns-then-not-is_twin
returns-then-not-is_twin c =
    let low : c.args.i + 1 ≤ c.loop-k.k = c.loop-k.auto.k in
    run_ends (map declaration c.args.all.now) c.args.i c.loop-k.k (declaration c.index-all-i.result) (declaration c.index-all-k.result) (omega (arith, low)) (omega (arith, c.loop-k-test.true, length-map c.args.all.now declaration))
    (get_mapped declaration c.args.all.now c.args.i c.index-all-i.result c.requires c.index-all-i.is)
    (get_mapped declaration c.args.all.now c.loop-k.k c.index-all-k.result c.loop-k-test.true c.index-all-k.is)
    (λ e f. let yes : c.is_twin.result ≡ true = c.is_twin.ensures.1 (e, f) in let lacks : c.is_twin.result ≡ false = c.if-not-is_twin.true in absurd cc) c.loop-k.invariant

pub loop-k-preserved : goal.loop-k-preserved
loop-k-preserved c =
    let twins = c.is_twin.ensures.0 c.if-not-is_twin.false in
    run_further (map declaration c.args.all.now) c.args.i c.loop-k.k (declaration c.index-all-i.result) (declaration c.index-all-k.result)
    (get_mapped declaration c.args.all.now c.args.i c.index-all-i.result c.requires c.index-all-i.is)
    (get_mapped declaration c.args.all.now c.loop-k.k c.index-all-k.result c.loop-k-test.true c.index-all-k.is) twins.0 twins.1 c.loop-k.invariant

pub returns : goal.returns
returns c =
    let stop : length c.args.all.now ≤ c.loop-k.k = omega (arith, c.loop-k-test.false) in
    run_all (map declaration c.args.all.now) c.args.i (length c.args.all.now) (omega (arith, c.requires)) (sym (length-map c.args.all.now declaration)) (λ n a b le lt at_i at_n. c.loop-k.invariant n a b le (omega (arith, lt, stop)) at_i at_n)
