use Rattle.pw_session.specs.FromBuildFiles.Full.{image_of}
use Rattle.pw_law_session.proofs.BenchLemmas.{bench_in_full}
use Rattle.pw_law_session.proofs.sessions.bench_builds_in_full.Goals as goal

pub returns : goal.returns
returns c =
    bench_in_full (record { object = c.built_files_are_seen.ensures.object; database = c.built_files_are_seen.ensures.database; image = c.built_files_are_seen.ensures.image })
    (λ files opts comes are keeps b. let full = c.genuine_objects_give_the_full_image.ensures files opts comes keeps b in (full, c.images_mean_their_texts.ensures files opts (image_of comes) are full))
    c.other_files.ensures.insertion
