use Rattle.std.proofs.Common.{◌-◌, map, arith}
use Rattle.pw_link_rules.specs.Entries.{declaration}
use Rattle.pw_link_rules.proofs.Sorted.{get_mapped}
use Rattle.pw_link_rules.proofs.Clashes.{none_repeated}
use Rattle.pw_link_rules.proofs.conflicts.next_against.Goals as goal

pub returns-then-is_repeated : goal.returns-then-is_repeated
returns-then-is_repeated c =
    let same = c.is_repeated.ensures c.if-is_repeated.true in
    none_repeated (map declaration c.args.all.now) c.args.i (declaration c.index-all-i.result) (declaration c.index-all-i-then-i-gt0.result) c.if-i-gt0.true
    (get_mapped declaration c.args.all.now (c.args.i - 1) c.index-all-i.result (omega (arith, c.requires.place)) c.index-all-i.is)
    (get_mapped declaration c.args.all.now c.args.i c.index-all-i-then-i-gt0.result c.requires.place c.index-all-i-then-i-gt0.is)
    same.0 same.1 c.requires.before
