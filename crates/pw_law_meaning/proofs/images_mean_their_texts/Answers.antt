use Rattle.pw_store_modules.specs.Modules.{module_map}
use Rattle.pw_link.specs.Linking.{linked}
use Rattle.pw_machine.specs.Start.{image_start}
use Rattle.pw_run_languages.specs.LinkingLaws.{frame_in}
use Rattle.pw_law_meaning.specs.Meaning.{runs_of}
use Rattle.pw_law_meaning.proofs.Outcomes.{images_alone}
use Rattle.pw_law_meaning.proofs.images_mean_their_texts.Goals as goal

pub returns : goal.returns
returns c = λ files opts full are.
    images_alone (module_map files) opts
    (λ image builds.
    let texts = module_map files in
    let parts = builds.0 in
    let plain = c.modules_of_files_have_plain_names.ensures files in
    let program = c.full_builds_have_a_program.ensures.program texts opts parts builds.1 in
    let holds = c.full_builds_hold.ensures texts opts parts program.0 builds.1 program.1 plain are in
    let value = linked parts.objects opts.stack in
    let whole = c.full_builds_are_whole.ensures texts opts parts program.0 builds.1 program.1 plain are in
    record {
      program = program.0;
      of_texts = program.1;
      contents = record { names = builds.2.0; value = value };
      file = builds.2.1;
      sense = λ input bytes bound. c.source_is_never_wrong.ensures program.0 (frame_in value) opts.stack input whole.checked whole.whole.accepted bytes bound;
      agree = λ input bytes. (holds.holds input bytes).holds.agree;
      tells = λ input bytes budget bound more meaningful.
          c.stops_are_those_of_the_source.ensures (runs_of program.0 value opts.stack input) (image_start value.memory) input (holds.holds input bytes).holds.agree budget bound more meaningful;
      fit = c.frames_of_full_builds_fit.ensures texts opts parts program.0 builds.1 program.1 plain are;
      forms = holds.forms;
      of_program = holds.of_program;
      summaries = holds.summaries;
      summarise = holds.summarise;
      traffic = λ input bytes defined. (holds.holds input bytes).traffic defined;
      database = parts.database;
      directives = holds.database;
      registers = λ input bytes defined. (holds.holds input bytes).registers defined;
      places = λ input bytes. (holds.holds input bytes).holds.places;
    })
    full
