use Rattle.std.proofs.Common.{◌++◌}
use Rattle.pw_store_modules.specs.FileNames.{flow_ending, summary_ending}
use Rattle.pw_commands_phases.proofs.PutLemmas.{both_put, one_failed}
use Rattle.pw_commands_phases.proofs.texts.put_made.Goals as goal

pub returns-in-Done-clause-put : goal.returns-in-Done-clause-put
returns-in-Done-clause-put g c =
    both_put (g.S.Store.told c.args.store.now) _ _ (c.args.name.now ++ flow_ending, c.args.made.now.flow.items) (c.args.name.now ++ summary_ending, c.args.made.now.sum.items) c.put_bytes-in-Done.result
    (rw c.deref.ensures.value at c.in-Done.ensures.put) (rw c.deref-in-Done.ensures.value at c.put_bytes-in-Done.ensures.put)

pub returns-in_default : goal.returns-in_default
returns-in_default g c = record {
  put =
      one_failed (g.S.Store.told c.args.store.now) _ (c.args.name.now ++ flow_ending, c.args.made.now.flow.items) (c.args.name.now ++ summary_ending, c.args.made.now.sum.items) c.put_bytes.result
      c.put_bytes.ensures.answer c.in_default.not-Done (rw c.deref.ensures.value at c.put_bytes.ensures.put);
  answer = c.put_bytes.ensures.answer;
  count = c.put_bytes.ensures.count;
}
