use Rattle.std.proofs.lemmas.List.Elements.{All-from_recursion}
use Rattle.pw_types.specs.TypedModules.{WellTyped}
use Rattle.pw_files.proofs.Standing.{each_by, contains_by}
use Rattle.pw_cmean.specs.Worlds.{ProgramModule}
use Rattle.pw_law_accept.proofs.acceptance.linked_modules_are_well_typed.Goals as goal

pub returns : goal.returns
returns g = λ p frame_of stack checked plain rising linked. record {
  modules = All-from_recursion (λ (m : ProgramModule). WellTyped m.tree) p.modules (each_by (λ (m : ProgramModule). WellTyped m.tree) p.modules (λ m h.
      let there = contains_by m p.modules h in
      let is = checked m there in
      g.accepted_texts_are_well_typed.ensures is.syntax m.tree is.parsed.well_formed (g.strings_of_texts.ensures is.text is.tokens is.syntax is.lexed is.parsed) is.is));
  functions = g.linked_functions_agree.ensures p frame_of stack checked plain rising linked;
}
