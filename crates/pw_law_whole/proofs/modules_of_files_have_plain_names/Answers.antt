use Rattle.pw_law_whole.proofs.Names.{plain_modules}
use Rattle.pw_law_whole.proofs.modules_of_files_have_plain_names.Goals as goal

pub returns : goal.returns
returns c = plain_modules c.modules_are_exact.ensures.exact
