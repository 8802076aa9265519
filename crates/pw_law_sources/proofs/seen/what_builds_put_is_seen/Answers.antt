use Rattle.pw_law_sources.proofs.PutLemmas.{all_seen, put_seen}
use Rattle.pw_law_sources.proofs.seen.what_builds_put_is_seen.Goals as goal

pub returns-clause-one : goal.returns-clause-one
returns-clause-one c = put_seen (record {
  inserted = c.other_files.ensures.inserted;
  insertion = c.other_files.ensures.insertion;
  no_object = c.texts_are_not_built.ensures.object;
  no_database = c.texts_are_not_built.ensures.database;
  no_image = c.texts_are_not_built.ensures.image;
  exact = c.modules_are_exact.ensures.exact;
  beside = record { object = c.built_files_are_seen.ensures.object; database = c.built_files_are_seen.ensures.database; image = c.built_files_are_seen.ensures.image };
})

pub returns-clause-all : goal.returns-clause-all
returns-clause-all c = all_seen (record {
  inserted = c.other_files.ensures.inserted;
  insertion = c.other_files.ensures.insertion;
  no_object = c.texts_are_not_built.ensures.object;
  no_database = c.texts_are_not_built.ensures.database;
  no_image = c.texts_are_not_built.ensures.image;
  exact = c.modules_are_exact.ensures.exact;
  beside = record { object = c.built_files_are_seen.ensures.object; database = c.built_files_are_seen.ensures.database; image = c.built_files_are_seen.ensures.image };
})
