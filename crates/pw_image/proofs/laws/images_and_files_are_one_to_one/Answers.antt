use Rattle.pw_image.proofs.ImageLaws as laws
use Rattle.pw_image.proofs.laws.images_and_files_are_one_to_one.Goals as goal

pub returns-clause-one_image : goal.returns-clause-one_image
returns-clause-one_image c = laws.one_image

pub returns-clause-one_file : goal.returns-clause-one_file
returns-clause-one_file c = laws.one_file
