use Rattle.pw_law_accept.specs.Linked.{AreLinked}
use Rattle.pw_law_source.specs.Lowering.{flow_program}
use Rattle.pw_law_accept.proofs.acceptance.checked_is_accepted.Goals as goal

pub returns : goal.returns
returns g = λ p frame_of stack objects checked plain rising room show links.
    let linked : AreLinked (flow_program p frame_of stack).modules = record { objects = objects; show = show; links = links } in
    record {
      accepted = record {
        typed = g.linked_modules_are_well_typed.ensures p frame_of stack checked plain rising linked;
        program = g.linked_modules_make_a_program.ensures p frame_of stack checked plain rising room linked;
        alike = g.linked_modules_declare_alike.ensures p frame_of stack checked linked;
      };
      parts = g.checked_initialisers_have_parts.ensures p checked;
      formed = g.checked_functions_are_formed.ensures p checked;
      inside = g.linked_addresses_lead_inside.ensures p frame_of stack checked linked;
      names = g.linked_names_are_apart.ensures p frame_of stack checked linked;
    }
