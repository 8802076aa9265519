use Rattle.pw_commands_interp.proofs.ToldLemmas.{did_stored, did_told, line_told}
use Rattle.pw_commands_interp.proofs.interpreting.interpret_modules.Goals as goal

pub returns-in-Ok-clause-did : goal.returns-in-Ok-clause-did
returns-in-Ok-clause-did g c =
    did_told (g.S.Store.told c.args.store.now) _ c.in-Ok.names.items c.args.opts.now (g.I.Source.rest c.args.input.now) _ (g.O.Sink.taken c.args.out.now) _ c.interpret_seen.result.answer c.told_reply.result.answer c.in-Ok.ensures.names
    c.in-Ok.ensures.same (rw c.deref.ensures.value at c.told_reply.ensures.told) c.interpret_seen.ensures.did

pub returns-in-Ok-clause-line : goal.returns-in-Ok-clause-line
returns-in-Ok-clause-line g c =
    line_told (g.S.Store.told c.args.store.now) _ c.interpret_seen.result.answer c.told_reply.result.answer c.interpret_seen.result.line c.told_reply.result.line c.in-Ok.ensures.same c.told_reply.ensures.any c.told_reply.ensures.line
    c.interpret_seen.ensures.line

pub returns-in-Err-clause-did : goal.returns-in-Err-clause-did
returns-in-Err-clause-did g c = did_stored (g.S.Store.told c.args.store.now) c.args.opts.now (g.I.Source.rest c.args.input.now) (g.O.Sink.taken c.args.out.now) c.in-Err.error c.from.result c.from.ensures
