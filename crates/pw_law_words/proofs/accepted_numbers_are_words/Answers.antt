use Rattle.pw_law_words.proofs.Offsets.{objects_words}
use Rattle.pw_law_words.proofs.accepted_numbers_are_words.Goals as goal

pub returns : goal.returns
returns g = λ tree m short checked. record {
  functions = g.accepted_bodies_have_words.ensures tree m short checked;
  objects = objects_words m (g.accepted_objects_have_sizes.ensures tree m checked (g.accepted_strings_are_short.ensures tree m short checked)) (g.accepted_addresses_lead_inside.ensures.lead tree m checked);
}
