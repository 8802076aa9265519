use Rattle.pw_interp_todo.specs.declared.flow.Entry.TheVariants as E
use Rattle.pw_interp_entries.proofs.Turning.{top_is}
use Rattle.pw_interp_entries.proofs.loops.back.Goals as goal

pub returns : goal.returns
returns c e n s = top_is c.args.s E.Front e n s
