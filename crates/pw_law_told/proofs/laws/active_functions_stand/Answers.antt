use Rattle.std.specs.Prelude.{ℕ, suc, ◌≡◌, ◌%◌, List, map}
use Rattle.std.specs.List.{AllByRecursion, flat_map}
use Rattle.std.proofs.Common.{arith, subst, sym, ap, refl, ◌∙◌}
use Rattle.pw_files.proofs.Standing.{contains_by, each_by}
use Rattle.pw_machine.specs.Core.{Core}
use Rattle.pw_machine.specs.Start.{image_start}
use Rattle.pw_link.specs.Linking.{linked}
use Rattle.pw_run_languages.specs.Calls.{FollowsCalls}
use Rattle.pw_run_languages.specs.FlowRun.{flow_run}
use Rattle.pw_run_languages.specs.LawfulPrograms.{graph_of}
use Rattle.pw_run_languages.specs.LineRun.{LineFn}
use Rattle.pw_run_languages.specs.LinkingLaws.{frame_in, map_of}
use Rattle.pw_run_languages.specs.MachineRun.{Call, Map, active_as, noted}
use Rattle.pw_run_languages.specs.Standing.{Active}
use Rattle.pw_alloc.specs.ValidPlaces.{IsLocated}
use Rattle.pw_alloc.specs.declared.located.Located.{Located}
use Rattle.pw_debug.specs.Walk.{seen, start_of}
use Rattle.pw_debug_frames.specs.Frames.{frame_info}
use Rattle.pw_where.specs.Looks.{entries_in}
use Rattle.pw_law_where.specs.Counting.{AreEntriesOf}
use Rattle.pw_law_walk.specs.Chains.{Callers, StandsInMemory}
use Rattle.pw_law_link_run.specs.Steps.{map_in}
use Rattle.pw_law_link_run.specs.Simulating.{calls_behind}
use Rattle.pw_law_linked.specs.Given.{IsGiven}
use Rattle.pw_law_linked.specs.Settings.{linked_setting}
use Rattle.pw_law_linked.proofs.Linked.{all_of}
use Rattle.pw_law_room.specs.Room.{HadRoom}
use Rattle.pw_law_source.specs.Lowering.{MomentKept}
use Rattle.pw_law_layers.proofs.Roomless.{stages_kept}
use Rattle.pw_law_told.proofs.Far.{lines_pass, source_far}
use Rattle.pw_law_told.proofs.Follows.{calls_follow, calls_have_room}
use Rattle.pw_law_told.proofs.Rooms.{frames_are}
use Rattle.pw_law_told.proofs.Values.{all_mapped, begins, between, callers_fit, callers_same, first_is, frames_fit, kept_layers, maps_same, names_differ, noted_here, start_fits}
use Rattle.pw_law_told.proofs.laws.active_functions_stand.Goals as goal

pub returns : goal.returns
returns c = λ p q d functions objects input k step s object kind built located bytes direction places defined reached call.
    let image = linked objects q.stack in
    let x = linked_setting q functions objects input in
    let program = built.implements.program in
    let given : IsGiven q d functions objects = record { program = program; apart = built.names; directives = built.database.directives; serve = built.serve; made = built.made; fits = built.fits } in
    let place = c.given_programs_are_in_place.ensures q d functions objects input given (c.given_programs_are_in_memory.ensures q d functions objects input given bytes) in
    let links = c.linked_programs_are_linked.ensures q functions objects input place.sites place.lawful place.starts place.distinct place.ready place.code place.own in
    let framed = c.linked_programs_are_framed.ensures q functions objects input place.distinct place.sparing place.frames place.own place.globals in
    let met = c.framed_steps_are_met.ensures x links (c.library_is_there.ensures.library x framed place.behind) (c.library_is_there.ensures.routines x framed place.behind) framed in
    let first = c.images_start_as_lines.ensures x image.memory place.first input refl place.named place.entry place.base place.small place.memory in
    let layers = kept_layers c.places_fit_their_rooms.ensures c.maps_have_frames.ensures c.placement_keeps_runs.ensures c.sound_directives_guard.ensures c.selection_keeps_runs.ensures c.linking_keeps_runs.ensures p q d functions objects input built bytes direction places in
    let both = between c.places_fit_their_rooms.ensures c.maps_have_frames.ensures c.placement_keeps_runs.ensures c.sound_directives_guard.ensures c.selection_keeps_runs.ensures p q d functions objects input built bytes x.addresses met.0 place.addresses in
    let low = stages_kept (MomentKept q) p (frame_in image) q.stack input (flow_run q input) layers.lowering in
    let pass = lines_pass p q d functions x.addresses met.0 (frame_in image) q.stack input step low direction places both.selection both.placement (source_far p (frame_in image) q.stack input (suc step) (defined (suc step))) in
    let maps = maps_same q functions objects input in
    let entries = c.linked_programs_have_their_entries.ensures q d functions objects program built.names built.serve built.made built.fits in
    let e = c.calls_are_entered.ensures x framed met.0 input (entries_in image objects) k step pass.at s links (subst (λ (m : Map). AreEntriesOf (entries_in image objects) m) (sym maps) entries) (met.1 input place.first first) reached pass.passed in
    let m = e.state in
    let stand = (pass.links e.at m e.within e.is).at_call (begins x m e.enters.entered) in
    let follows = noted_here (FollowsCalls (graph_of q)) (map_of q functions image) (image_start image.memory) input step s (calls_follow p q d functions objects input layers defined step) reached.goes in
    let here : FollowsCalls (graph_of q) (noted (map_in x) x.start e.step).log =
    subst (λ (i : ℕ). FollowsCalls (graph_of q) (noted (map_in x) x.start i).log) (sym e.step_is)
    (subst (λ (m : Map). FollowsCalls (graph_of q) (noted m x.start step).log) (sym maps) follows) in
    let others = names_differ x m e.step e.simulates (c.noted_calls_are_its_own.ensures (map_in x) x.start e.step)
    (c.only_the_first_is_start.ensures (graph_of q) (noted (map_in x) x.start e.step).log (λ caller. c.start_is_not_called.ensures q caller program) here) in
    let looks = seen s.core.memory image.functions (map frame_info functions) object kind in
    let bottom = e.first place.first place.named in
    let first_function = first_is m.frame.function m.frame.stack m.callers ∙ ap (λ (f : LineFn × ℕ). f.0) bottom in
    let walked = c.active_functions_are_callers.ensures x framed looks m place.first e.step links place.addresses.data_above
    (λ h caller. c.return_addresses_are_known.ensures q d functions objects input h given caller) (all_of (λ f. IsLocated f.located) functions located)
    e.simulates (ap (λ (core : Core). core.memory) (sym e.core)) e.enters.entered e.level stand place.named first_function others in
    let own = map_of q functions image in
    let same = callers_same x m e.step step k own s.core e.simulates maps e.step_is call in
    let list : flat_map (active_as (map_in x)) (calls_behind x m.callers) ≡ flat_map (active_as own) call.callers =
    ap (λ (n : Map). flat_map (active_as n) (calls_behind x e.state.callers)) maps ∙ ap (λ (calls : List Call). flat_map (active_as own) calls) same in
    let callers : Callers looks (start_of s.core).stack (start_of s.core).link (flat_map (active_as own) call.callers) =
    subst (λ (actives : List Active). Callers looks (start_of s.core).stack (start_of s.core).link actives) list
    (subst (λ (core : Core). Callers looks (start_of core).stack (start_of core).link (flat_map (active_as (map_in x)) (calls_behind x m.callers))) e.core walked) in
    let frames = frames_are c.maps_have_frames.ensures q d functions objects built.frames program built.serve built.made in
    let start = start_fits c.places_fit_their_rooms.ensures c.maps_have_frames.ensures p q d functions objects built in
    let roomy = noted_here (HadRoom q) own (image_start image.memory) input step s (calls_have_room c.active_calls_have_room.ensures p q d functions objects input layers start frames.library defined step) reached.goes in
    let fits = callers_fit q own k s.core (noted own x.start step) call (c.noted_calls_are_its_own.ensures own x.start step) roomy in
    let sized = all_of (λ f. q.frame_of f.located.body.name ≡ f.located.frame) functions (each_by (λ (l : Located). q.frame_of l.body.name ≡ l.frame) functions (λ l has. frames.defined l (contains_by l functions has))) in
    let room = frames_fit q x sized m.callers e.simulates.callers call.callers same fits in
    let even = all_of (λ f. f.located.frame % 8 ≡ 0) functions (all_mapped IsLocated (λ (l : Located). l.frame % 8 ≡ 0) c.frames_are_even.ensures functions located) in
    let whole = place.addresses.base_aligned in
    let limit = place.addresses.stack in
    let memory = place.addresses.memory in
    let inside = c.active_frames_stand.ensures x m.frame.function place.first m.frame.stack m.callers links place.addresses.data_above (omega (arith, whole)) even e.simulates.callers e.level.chain bottom (omega (arith, room, limit, memory)) in
    record { callers = callers; inside = subst (λ (actives : List Active). AllByRecursion StandsInMemory actives) list inside }
