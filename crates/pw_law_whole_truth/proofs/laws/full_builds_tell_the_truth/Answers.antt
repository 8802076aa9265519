use Rattle.std.specs.Prelude.{◌≡◌, List, map}
use Rattle.std.proofs.Common.{subst, sym, ◌∙◌}
use Rattle.pw_debug.specs.declared.info.FrameInfo.{FrameInfo}
use Rattle.pw_debug_frames.specs.Frames.{frame_info}
use Rattle.pw_run_languages.specs.Programs.{functions_of}
use Rattle.pw_law_selection.proofs.Given.{function_valid}
use Rattle.pw_db_sound.specs.CallGraphs.{Graph}
use Rattle.pw_db_sound.specs.Sound.{Sound}
use Rattle.pw_law_layers.specs.Whole.{IsBuilt, image_of, roomless}
use Rattle.pw_law_truth.specs.Truth.{ShowsTruth}
use Rattle.pw_law_whole.specs.Programs.{flow_of, flows_in, functions_under}
use Rattle.pw_law_whole_truth.proofs.Globals.{forms_globals, lowered_globals}
use Rattle.pw_law_whole_truth.proofs.Places.{all_located}
use Rattle.pw_law_layers.proofs.Roomless.{program_stays}
use Rattle.pw_law_whole_truth.proofs.Roomless.{roomless_graph}
use Rattle.pw_law_whole_truth.proofs.Texts.{made_of}
use Rattle.pw_law_whole_truth.proofs.laws.full_builds_tell_the_truth.Goals as goal

pub returns : goal.returns
returns c = λ texts opts parts p frames k budget input build of_texts plain limits are bytes defined.
    let whole = c.full_builds_are_whole.ensures texts opts parts p build of_texts plain limits in
    let a = whole.analysed c.lowering_keeps_runs.ensures in
    let q = flows_in whole.forms parts opts.stack in
    let db = parts.database in
    let functions = functions_under whole.forms parts opts.stack in
    let program = a.implements.program in
    let s = c.databases_serve.ensures q whole.summaries opts.colours db a.linked a.few a.database a.alike in
    let built : IsBuilt p q db functions parts.objects =
    record { implements = a.implements; frames = a.frames; names = a.names; enough = a.enough; database = s.database; sound = s.sound; serve = a.serve; made = a.made; fits = a.fits } in
    let direction = c.direction_keeps.ensures q db input program s.database s.sound in
    let places = c.places_keep.ensures q db functions input program s.database s.sound a.serve in
    let free_program = program_stays q program in
    let free_sound = subst (λ (g : Graph). Sound g db) (sym (roomless_graph q)) s.sound in
    let free_direction = c.direction_keeps.ensures (roomless q) db input free_program s.database free_sound in
    let free_places = c.places_keep.ensures (roomless q) db functions input free_program s.database free_sound a.serve in
    let located = all_located db s.database.directives c.allocation_is_lawful.ensures (functions_of q) (λ g there. function_valid q program g there) in
    let globals = forms_globals opts.optimise (map flow_of p.modules) whole.forms whole.of_program ∙ lowered_globals p.modules in
    let made = made_of c.phase_one_is_exact.ensures c.optimised_forms_are_one.ensures texts opts parts p whole.forms build of_texts whole.of_program in
    let known : frames ≡ map frame_info functions = c.built_objects_have_their_frames.ensures db whole.forms parts.objects parts.fresh frames s.database made are in
    subst (λ (fs : List FrameInfo). ShowsTruth p (image_of parts.objects opts.stack) parts.objects fs k budget input) (sym known)
    (c.lines_say_true.ensures p q db functions parts.objects input k budget built located bytes direction places free_direction free_places globals defined)
