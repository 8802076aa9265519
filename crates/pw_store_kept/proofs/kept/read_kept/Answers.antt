use Rattle.std.proofs.Common.{arith, ◌∙◌}
use Rattle.pw_store_kept.proofs.KeptLemmas.{keeps_on, kept_end, kept_turn}
use Rattle.pw_store_kept.proofs.kept.read_kept.Goals as goal

pub loop-which-preserved : goal.loop-which-preserved
loop-which-preserved g c = record {
  so_far = kept_turn (g.S.Store.told c.args.store.now) (g.S.Store.told c.loop-which.store) c.args.modules.now c.loop-which.which-index c.which-item.result _ _
      c.loop-which.invariant.so_far (omega arith) c.which-item.is c.loop-which.invariant.same c.in-Ok.ensures.object;
  lawful = c.in-Ok.ensures.lawful c.loop-which.invariant.lawful;
  same = keeps_on (g.S.Store.told c.args.store.now) (g.S.Store.told c.loop-which.store) _ c.loop-which.invariant.same c.add_kept.ensures.same;
  count = c.in-Ok.ensures.cause ∙ c.loop-which.invariant.count;
}

pub returns-clause-objects : goal.returns-clause-objects
returns-clause-objects g c =
    kept_end (g.S.Store.told c.args.store.now) c.args.modules.now c.loop-which.which-index c.loop-which.kept.items c.loop-which.invariant.so_far (omega arith)
