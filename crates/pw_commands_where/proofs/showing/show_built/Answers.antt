use Rattle.pw_commands_where.proofs.LookLemmas.{looks_at_nothing}
use Rattle.pw_commands_where.proofs.WhereLemmas.{made_objects}
use Rattle.pw_commands_where.proofs.showing.show_built.Goals as goal

pub frames-requires : goal.frames-requires
frames-requires g c = made_objects c.args.objects.now c.requires.objects

pub show_known-requires-clause-known : goal.show_known-requires-clause-known
show_known-requires-clause-known g c = rw c.as_slice.ensures c.in-Ok.ensures.value

pub show_known-requires-clause-lawful : goal.show_known-requires-clause-lawful
show_known-requires-clause-lawful g c = rw c.as_slice.ensures c.in-Ok.ensures.lawful

pub returns-in-Err-clause-looks : goal.returns-in-Err-clause-looks
returns-in-Err-clause-looks g c = looks_at_nothing c.args.image.now c.args.objects.now c.args.call c.args.budget (g.I.Source.rest c.args.input.now) (g.O.Sink.taken c.args.out.now)
