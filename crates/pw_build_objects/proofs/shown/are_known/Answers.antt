use Rattle.std.proofs.Common.{◌⊎◌, Bor, List, map, subst}
use Rattle.std.specs.Prelude.{Contains}
use Rattle.std.specs.List.{AllByRecursion}
use Rattle.std.proofs.lemmas.List.{take_all}
use Rattle.pw_value.specs.declared.name.Name.{Name}
use Rattle.pw_build_objects.proofs.ShownLaws.{known_all, known_turn}
use Rattle.pw_build_objects.proofs.shown.are_known.Goals as goal

pub loop-name-preserved : goal.loop-name-preserved
loop-name-preserved c =
    known_turn (λ name. name.now) (λ n. Contains c.args.used.now n ⊎ Contains (map (λ global. global.now) c.args.globals.now) n) c.args.names.now c.loop-name.name-index c.name-item.result _
    c.loop-name-test.true c.name-item.is c.loop-name.invariant (c.is_known.ensures c.if-not-is_known.false)

pub returns : goal.returns
returns c = λ t.
    known_all (λ name. name.now) (λ n. Contains c.args.used.now n ⊎ Contains (map (λ global. global.now) c.args.globals.now) n) c.args.names.now
    (subst (λ (xs : List (Bor Name)). AllByRecursion (λ name. Contains c.args.used.now name.now ⊎ Contains (map (λ global. global.now) c.args.globals.now) name.now) xs)
    (take_all c.loop-name.name-index c.args.names.now c.loop-name-test.false) c.loop-name.invariant)
