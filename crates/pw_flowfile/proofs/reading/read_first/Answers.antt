use Rattle.std.proofs.Common.{◌≡◌, List, [], Bool, length, map, drop, subst, sym, arith}
use Rattle.std.proofs.lemmas.List.{take_at}
use Rattle.pw_flowfile.specs.Reading.{seen_after}
use Rattle.pw_flowfile.specs.Marks.{Marks}
use Rattle.pw_flowfile.proofs.reading.read_first.Goals as goal

pub returns-clause-marked : goal.returns-clause-marked
returns-clause-marked c =
    let names = c.args.names.now in
    let start = subst (λ (flags : List Bool). Marks names [] flags) (sym c.deref_mut.ensures.value) c.in_ok-met.ensures in
    let new = c.read_globals.new.met in
    let len : length new ≡ c.in_ok-met.met.len = omega (arith, c.deref_mut.ensures.len, c.read_globals.auto.met) in
    let same = take_at new (drop (length new) c.in_ok-met.met.items) c.in_ok-met.met.len len in
    subst (λ (flags : List Bool). Marks names (seen_after [] (map (λ g. g.name) c.in_ok-globals.globals)) flags) (sym same) (c.in_ok-globals.ensures.marked [] start)
