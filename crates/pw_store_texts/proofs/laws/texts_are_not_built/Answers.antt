use Rattle.pw_store_texts.proofs.EndingLemmas.{no-database, no-image, no-object}
use Rattle.pw_store_texts.proofs.laws.texts_are_not_built.Goals as goal

pub returns-clause-object : goal.returns-clause-object
returns-clause-object c = no-object

pub returns-clause-database : goal.returns-clause-database
returns-clause-database c = no-database

pub returns-clause-image : goal.returns-clause-image
returns-clause-image c = no-image
