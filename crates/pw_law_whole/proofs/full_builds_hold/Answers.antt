use Rattle.pw_law_whole.specs.Programs.{flows_in, functions_under}
use Rattle.pw_law_whole.proofs.full_builds_hold.Goals as goal

pub returns : goal.returns
returns c = λ texts opts parts p build is plain limits.
    let whole = c.full_builds_are_whole.ensures texts opts parts p build is plain limits in
    let analysed = whole.analysed c.lowering_keeps_runs.ensures in
    let q = flows_in whole.forms parts opts.stack in
    record {
      forms = whole.forms;
      of_program = whole.of_program;
      summaries = whole.summaries;
      summarise = whole.summarise;
      database = analysed.database;
      holds = λ input bytes. c.layers_give_all.ensures c.selection_keeps_runs.ensures p q whole.summaries opts.colours parts.database (functions_under whole.forms parts opts.stack) parts.objects input analysed bytes;
    }
