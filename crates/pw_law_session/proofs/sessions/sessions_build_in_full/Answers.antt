use Rattle.pw_session.specs.FromBuildFiles.Full.{image_of}
use Rattle.pw_law_session.proofs.SeenLemmas.{keeps_seen, leaves_seen, whole_seen}
use Rattle.pw_law_session.proofs.FullLemmas.{session_in_full}
use Rattle.pw_law_session.proofs.sessions.sessions_build_in_full.Goals as goal

pub returns : goal.returns
returns c = session_in_full (record {
  whole = whole_seen (record { object = c.built_files_are_seen.ensures.object; database = c.built_files_are_seen.ensures.database; image = c.built_files_are_seen.ensures.image }) c.a_build_leaves_the_whole_program.ensures;
  leaves = leaves_seen (record { object = c.built_files_are_seen.ensures.object; database = c.built_files_are_seen.ensures.database; image = c.built_files_are_seen.ensures.image }) c.builds_leave_genuine_objects.ensures;
  full = λ files opts comes shown are is keeps b. let full = c.genuine_objects_give_the_full_image.ensures shown opts comes (keeps_seen (record { object = c.built_files_are_seen.ensures.object; database = c.built_files_are_seen.ensures.database; image = c.built_files_are_seen.ensures.image }) files shown is keeps) b in (full, c.images_mean_their_texts.ensures shown opts (image_of comes) are full);
  texts = c.texts_are_no_objects.ensures;
  insertion = c.other_files.ensures.insertion;
  removal = c.other_files.ensures.removal;
})
