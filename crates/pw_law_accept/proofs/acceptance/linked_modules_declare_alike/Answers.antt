use Rattle.pw_files.proofs.Standing.{contains_by}
use Rattle.pw_law_accept.proofs.Checked.{known_module}
use Rattle.pw_law_accept.proofs.Programs.{declare_alike}
use Rattle.pw_law_accept.proofs.acceptance.linked_modules_declare_alike.Goals as goal

pub returns : goal.returns
returns g = λ p frame_of stack checked linked. declare_alike p frame_of stack
    (λ m h. known_module g.words_spell_what_they_are.ensures g.accepted_names_are_identifiers.ensures.declared g.accepted_names_are_identifiers.ensures.functions
    g.accepted_functions_are_typed.ensures.typed g.accepted_names_are_declared.ensures.functions g.accepted_names_are_declared.ensures.objects m (checked m (contains_by m p.modules h)))
    linked
