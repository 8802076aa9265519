use Rattle.pw_law_session.proofs.SeenLemmas.{leaves_seen}
use Rattle.pw_law_session.proofs.HistoryLemmas.{history_full}
use Rattle.pw_law_session.proofs.history.histories_build_in_full.Goals as goal

pub returns : goal.returns
returns c = history_full (record {
  full = c.builds_are_full.ensures;
  leaves = λ told opts outcome keeps h. leaves_seen (record { object = c.built_files_are_seen.ensures.object; database = c.built_files_are_seen.ensures.database; image = c.built_files_are_seen.ensures.image }) c.builds_leave_genuine_objects.ensures told opts outcome h.0 h.1 keeps h.2;
  texts = c.texts_are_no_objects.ensures;
  insertion = c.other_files.ensures.insertion;
  removal = c.other_files.ensures.removal;
})
