use Rattle.pw_law_resolved.proofs.Whole.{resolved_program}
use Rattle.pw_law_resolved.proofs.accepted_programs_are_resolved.Goals as goal

pub returns : goal.returns
returns g = resolved_program (record {
  strings = g.strings_of_texts.ensures;
  words = g.accepted_bodies_have_words.ensures;
  bounded = g.accepted_bodies_are_bounded.ensures;
  named = g.operations_name_all.ensures;
}) g.accepted_locals_are_in_scope.ensures
