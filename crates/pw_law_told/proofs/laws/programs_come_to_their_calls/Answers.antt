use Rattle.std.specs.Prelude.{ℕ, ◌≡◌, ◌+◌, ◌≤◌, List}
use Rattle.std.proofs.Common.{arith, ap}
use Rattle.pw_value.specs.ProgramNames.{start_name}
use Rattle.pw_link.specs.Linking.{linked}
use Rattle.pw_run_languages.specs.LinkingLaws.{frame_in}
use Rattle.pw_where.specs.Looks.{entries_in}
use Rattle.pw_law_told.specs.Told.{world_of}
use Rattle.pw_law_told.proofs.Pauses.{never_full}
use Rattle.pw_law_told.proofs.Roomless.{LawsBelow, comes_to}
use Rattle.pw_law_told.proofs.Values.{kept_layers, start_fits}
use Rattle.pw_law_told.proofs.laws.programs_come_to_their_calls.Goals as goal

pub returns : goal.returns
returns c = λ p q d functions objects input k step s built bytes direction places defined reached.
    let image = linked objects q.stack in
    let program = built.implements.program in
    let layers = kept_layers c.places_fit_their_rooms.ensures c.maps_have_frames.ensures c.placement_keeps_runs.ensures c.sound_directives_guard.ensures c.selection_keeps_runs.ensures c.linking_keeps_runs.ensures p q d functions objects input built bytes direction places in
    let laws : LawsBelow = record {
      through = c.refinement_goes_through.ensures;
      stages = c.stages_have_the_calls.ensures;
      calls = c.calls_are_those_of_the_source.ensures;
      alike = c.graphs_are_refused_alike.ensures;
      noted = c.refused_calls_are_noted.ensures;
      longer = c.longer_runs_note_more.ensures;
      roomier = c.roomier_runs_note_more.ensures;
    } in
    let entries = c.linked_programs_have_their_entries.ensures q d functions objects program built.names built.serve built.made built.fits in
    let holds = c.layers_hold.ensures p q d functions objects input layers in
    let mapped = c.maps_have_frames.ensures q d functions objects program built.serve built.made in
    let start = start_fits c.places_fit_their_rooms.ensures c.maps_have_frames.ensures p q d functions objects built in
    let same : q.frame_of start_name ≡ frame_in image start_name = ap (λ (F : List ℕ → ℕ). F start_name) built.frames in
    let fits : frame_in image start_name + 0 ≤ q.stack = omega (arith, start, same) in
    comes_to laws p q d functions objects input layers (entries_in image objects) k step s entries reached holds.places defined
    (λ n t is. c.refused_calls_come_next.ensures (world_of p (frame_in image) q.stack) input n t mapped.library (never_full q.stack (frame_in image start_name + 0) fits) is)
