use Rattle.pw_session.specs.FromBuildFiles.Full.{image_of}
use Rattle.pw_law_session.proofs.SeenLemmas.{whole_seen}
use Rattle.pw_law_session.proofs.WholeLemmas.{in_full}
use Rattle.pw_law_session.proofs.builds.builds_are_full.Goals as goal

pub returns : goal.returns
returns c = λ told opts comes are keeps h.
    in_full opts
    (record {
      beside = record { object = c.built_files_are_seen.ensures.object; database = c.built_files_are_seen.ensures.database; image = c.built_files_are_seen.ensures.image };
      whole = λ t outcome shown is k b. whole_seen (record { object = c.built_files_are_seen.ensures.object; database = c.built_files_are_seen.ensures.database; image = c.built_files_are_seen.ensures.image }) c.a_build_leaves_the_whole_program.ensures t opts outcome shown is k b;
      full = λ files r k b. let full = c.genuine_objects_give_the_full_image.ensures files opts r k b in (full, c.images_mean_their_texts.ensures files opts (image_of r) are full);
      one = λ texts a b x y. c.texts_have_one_image.ensures texts opts a b are.colours x y;
    })
    told comes keeps h
