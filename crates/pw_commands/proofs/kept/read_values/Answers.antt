use Rattle.std.proofs.Common.{◌++◌, arith, ◌∙◌}
use Rattle.std.specs.Prelude.{string_bytes}
use Rattle.pw_commands.proofs.NeededLemmas.{keeps_on, next_left, read_stop, read_turn}
use Rattle.pw_commands.proofs.kept.read_values.Goals as goal

pub returns-in-Err-clause-values : goal.returns-in-Err-clause-values
returns-in-Err-clause-values g c =
    let next = next_left (λ stem. string_bytes stem ++ c.args.ending.now) c.args.modules.now c.loop-stem.stem-index c.stem-item.result (omega arith) c.stem-item.is in
    read_stop g.K.Kept.stands c.in-Err.answer (g.S.Store.told c.args.store.now) (g.S.Store.told c.loop-stem.store) _ _ _ _ _
    c.loop-stem.invariant.read c.loop-stem.invariant.same (rw c.as_str.ensures.value at c.in-Err.ensures.value) next

pub loop-stem-preserved : goal.loop-stem-preserved
loop-stem-preserved g c =
    let next = next_left (λ stem. string_bytes stem ++ c.args.ending.now) c.args.modules.now c.loop-stem.stem-index c.stem-item.result (omega arith) c.stem-item.is in
    record {
      read = read_turn g.K.Kept.stands (g.S.Store.told c.args.store.now) (g.S.Store.told c.loop-stem.store) _ _ _ _ _ _
          c.loop-stem.invariant.read c.loop-stem.invariant.same (rw c.as_str.ensures.value at c.in-Ok.ensures.value) next;
      lawful = c.add_value.ensures.lawful c.loop-stem.invariant.lawful;
      same = keeps_on (g.S.Store.told c.args.store.now) (g.S.Store.told c.loop-stem.store) _ c.loop-stem.invariant.same c.add_value.ensures.same;
      count = c.in-Ok.ensures.count ∙ c.loop-stem.invariant.count;
    }
