use Rattle.pw_files.proofs.Standing.{has_by}
use Rattle.pw_run_languages.specs.Programs.{names_of}
use Rattle.pw_law_direction.proofs.Numbers.{function_fine}
use Rattle.pw_law_direction.proofs.directed.taken_functions_are_fine.Goals as goal

pub returns : goal.returns
returns c = λ p f taken there. function_fine p f taken (has_by f (names_of p) there)
