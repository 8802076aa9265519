use Rattle.pw_law_whole.specs.FromLayers.Whole.{image_of}
use Rattle.pw_law_whole.specs.Programs.{flows_in, functions_under}
use Rattle.pw_law_sharing.proofs.full_builds_share_registers_safely.Goals as goal

pub returns : goal.returns
returns c = λ texts opts parts p build is plain limits.
    let whole = c.full_builds_are_whole.ensures texts opts parts p build is plain limits in
    let holds = c.full_builds_hold.ensures texts opts parts p build is plain limits in
    let analysed = whole.analysed c.lowering_keeps_runs.ensures in
    let q = flows_in whole.forms parts opts.stack in
    let serves = c.databases_serve.ensures q whole.summaries opts.colours parts.database analysed.linked analysed.few analysed.database analysed.alike in
    record {
      forms = whole.forms;
      of_program = whole.of_program;
      summaries = whole.summaries;
      summarise = whole.summarise;
      database = analysed.database;
      made = analysed.made;
      callers = c.callers_hold_nothing_there.ensures q parts.database (functions_under whole.forms parts opts.stack) serves.database serves.sound analysed.serve;
      roots = λ input bytes defined.
          c.roots_keep_registers.ensures whole.summaries opts.colours parts.database (image_of parts.objects opts.stack) input analysed.linked analysed.few analysed.database ((holds.holds input bytes).registers defined);
    }
