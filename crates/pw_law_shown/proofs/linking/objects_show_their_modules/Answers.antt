use Rattle.pw_law_shown.proofs.Modules.{shows_module}
use Rattle.pw_law_shown.proofs.Programs.{linked_by}
use Rattle.pw_law_shown.proofs.linking.objects_show_their_modules.Goals as goal

pub returns-clause-made : goal.returns-clause-made
returns-clause-made c = λ program flow s o valid of made. shows_module flow s valid of program o made

pub returns-clause-linked : goal.returns-clause-linked
returns-clause-linked c = λ flows ss objects valid declares sums shown. linked_by flows ss objects valid declares sums shown
