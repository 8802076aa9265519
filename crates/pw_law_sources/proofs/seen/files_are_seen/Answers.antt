use Rattle.pw_law_sources.proofs.ShownLemmas.{is_shown, shown_by}
use Rattle.pw_law_sources.proofs.SourceLemmas.{all_come, seen_comes}
use Rattle.pw_law_sources.proofs.seen.files_are_seen.Goals as goal

pub returns : goal.returns
returns c = λ files. (
  seen_comes c.names.ensures.exact files,
  (λ comes. let all = all_come files comes in (shown_by files all.0, is_shown files all.0 all.1)),
)
