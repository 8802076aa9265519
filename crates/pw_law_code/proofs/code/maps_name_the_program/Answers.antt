use Rattle.pw_law_code.proofs.Addresses.{map_names_functions, map_names_globals}
use Rattle.pw_law_code.proofs.code.maps_name_the_program.Goals as goal

pub returns-clause-functions : goal.returns-clause-functions
returns-clause-functions c = map_names_functions

pub returns-clause-globals : goal.returns-clause-globals
returns-clause-globals c = map_names_globals
