use Rattle.pw_store_modules.specs.FileNames.{database_name, image_name, object_name}
use Rattle.pw_store_texts.proofs.EndingLemmas.{database-no-text, image-no-text, object-no-text}
use Rattle.pw_store_texts.proofs.SeenLemmas.{seen-beside}
use Rattle.pw_store_texts.proofs.laws.built_files_are_seen.Goals as goal

pub returns-clause-object : goal.returns-clause-object
returns-clause-object c = λ files shown name is. seen-beside c.other_files.ensures.insertion files shown (object_name name) (object-no-text name) is

pub returns-clause-database : goal.returns-clause-database
returns-clause-database c = λ files shown is. seen-beside c.other_files.ensures.insertion files shown database_name database-no-text is

pub returns-clause-image : goal.returns-clause-image
returns-clause-image c = λ files shown is. seen-beside c.other_files.ensures.insertion files shown image_name image-no-text is
