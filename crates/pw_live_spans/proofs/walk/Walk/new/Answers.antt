use Rattle.std.proofs.Common.{◌≡◌, replicate, rules}
use Rattle.std.specs.Prelude.{None}
use Rattle.pw_live_spans.proofs.Walking.{shut_all, new_none}
use Rattle.pw_live_spans.proofs.walk.Walk.new.Goals as goal

pub returns-clause-none : goal.returns-clause-none
returns-clause-none c =
    let e : c.in_ok-ends.ends.items ≡ replicate c.args.temps None = search rules in
    new_none _ c.args.temps e c.in_ok-lists.ensures.none

pub returns-clause-shut : goal.returns-clause-shut
returns-clause-shut c =
    let e : c.in_ok-ends.ends.items ≡ replicate c.args.temps None = search rules in
    shut_all c.in_ok-ends.ends.items c.args.temps e
