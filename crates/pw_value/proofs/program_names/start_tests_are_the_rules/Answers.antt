use Rattle.pw_value.proofs.StartLaws.{place_forth, place_back, start_forth, start_back}
use Rattle.pw_value.proofs.program_names.start_tests_are_the_rules.Goals as goal

pub returns-clause-place : goal.returns-clause-place
returns-clause-place c start name = (place_forth start name, place_back start name)

pub returns-clause-module : goal.returns-clause-module
returns-clause-module c functions globals = (start_forth functions globals, start_back functions globals)
