use Rattle.pw_link.specs.Linking.{linked}
use Rattle.pw_where.specs.Looks.{entries_in}
use Rattle.pw_law_selection.specs.Following.{IsGiven}
use Rattle.pw_law_told.proofs.Roomless.{LawsBelow, the_call}
use Rattle.pw_law_told.proofs.Rooms.{frames_are}
use Rattle.pw_law_told.proofs.Values.{kept_layers, start_fits}
use Rattle.pw_law_told.proofs.laws.calls_are_those_of_the_program.Goals as goal

pub returns : goal.returns
returns c = λ p q d functions objects input k step s f things built bytes direction places free_direction free_places defined reached pause.
    let image = linked objects q.stack in
    let program = built.implements.program in
    let layers = kept_layers c.places_fit_their_rooms.ensures c.maps_have_frames.ensures c.placement_keeps_runs.ensures c.sound_directives_guard.ensures c.selection_keeps_runs.ensures c.linking_keeps_runs.ensures p q d functions objects input built bytes direction places in
    let given : IsGiven q d functions layers.linking.addresses input = record {
      program = program;
      directives = built.database.directives;
      guarded = c.sound_directives_guard.ensures q d functions built.database built.sound built.serve;
      serve = built.serve;
      frames = frames_are c.maps_have_frames.ensures q d functions objects built.frames program built.serve built.made;
      fits = start_fits c.places_fit_their_rooms.ensures c.maps_have_frames.ensures p q d functions objects built;
      lawful = layers.linking.lawful;
      bytes = bytes;
    } in
    let laws : LawsBelow = record {
      through = c.refinement_goes_through.ensures;
      stages = c.stages_have_the_calls.ensures;
      calls = c.calls_are_those_of_the_source.ensures;
      alike = c.graphs_are_refused_alike.ensures;
      noted = c.refused_calls_are_noted.ensures;
      longer = c.longer_runs_note_more.ensures;
      roomier = c.roomier_runs_note_more.ensures;
    } in
    let entries = c.linked_programs_have_their_entries.ensures q d functions objects program built.names built.serve built.made built.fits in
    let holds = c.layers_hold.ensures p q d functions objects input layers in
    the_call laws p q d functions objects input layers (entries_in image objects) k step s entries reached f things pause given free_direction free_places (built.implements.progress input bytes) holds.places defined
