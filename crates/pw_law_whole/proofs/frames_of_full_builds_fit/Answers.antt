use Rattle.pw_law_whole.specs.Programs.{flows_in, functions_under}
use Rattle.pw_law_whole.proofs.frames_of_full_builds_fit.Goals as goal

pub returns : goal.returns
returns c = λ texts opts parts p built of_texts plain limits.
    let whole = c.full_builds_are_whole.ensures texts opts parts p built of_texts plain limits in
    c.frames_are_within_rooms.ensures p (flows_in whole.forms parts opts.stack) parts.database (functions_under whole.forms parts opts.stack) parts.objects whole.laid_out
