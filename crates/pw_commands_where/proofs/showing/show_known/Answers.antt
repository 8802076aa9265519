use Rattle.std.specs.declared.alloc.AllocError.{AllocError}
use Rattle.pw_commands_where.proofs.LookLemmas.{Laws, look_is, look_reads, looks_told, looks_unlooked, not_written}
use Rattle.pw_commands_where.proofs.showing.show_known.Goals as goal

pub told-requires : goal.told-requires
told-requires g c = not_written AllocError c.in-Ok.look c.in-Ok.ensures.unwritten

pub returns-in-Ok-clause-looks : goal.returns-in-Ok-clause-looks
returns-in-Ok-clause-looks g c =
    let laws : Laws = record {
      image = c.images_and_files_are_one_to_one.ensures.one_image;
      frames = c.objects_have_one_list_of_frames.ensures;
      call = c.a_run_has_one_call.ensures.state;
      apart = c.a_run_comes_or_passes.ensures;
      sight = c.a_call_shows_one_thing.ensures;
      some = c.a_call_shows_something.ensures;
      sum = c.runs_add_up.ensures.sum;
    } in
    looks_told laws c.args.image.now c.args.objects.now c.args.known.now c.args.call c.args.budget (g.I.Source.rest c.args.input.now) (g.I.Source.rest c.look_at_call.new.input) (g.O.Sink.taken c.args.out.now) (g.O.Sink.taken c.told.new.out)
    c.in-Ok.look c.told.result c.requires.image c.requires.known c.requires.lawful c.requires.first c.told.ensures.tells c.told.ensures.output c.in-Ok.ensures.look

pub returns-in-Ok-clause-read : goal.returns-in-Ok-clause-read
returns-in-Ok-clause-read g c = look_reads AllocError _ _ c.in-Ok.look c.told.result c.told.ensures.tells c.in-Ok.ensures.read

pub returns-in-Ok-clause-answer : goal.returns-in-Ok-clause-answer
returns-in-Ok-clause-answer g c = look_is c.in-Ok.look c.told.result c.told.ensures.tells

pub returns-in-Err-clause-looks : goal.returns-in-Err-clause-looks
returns-in-Err-clause-looks g c =
    let laws : Laws = record {
      image = c.images_and_files_are_one_to_one.ensures.one_image;
      frames = c.objects_have_one_list_of_frames.ensures;
      call = c.a_run_has_one_call.ensures.state;
      apart = c.a_run_comes_or_passes.ensures;
      sight = c.a_call_shows_one_thing.ensures;
      some = c.a_call_shows_something.ensures;
      sum = c.runs_add_up.ensures.sum;
    } in
    looks_unlooked laws c.args.image.now c.args.objects.now c.args.known.now c.args.call c.args.budget (g.I.Source.rest c.args.input.now) (g.I.Source.rest c.look_at_call.new.input) (g.O.Sink.taken c.args.out.now)
    c.requires.image c.requires.known c.in-Err.ensures.memory
