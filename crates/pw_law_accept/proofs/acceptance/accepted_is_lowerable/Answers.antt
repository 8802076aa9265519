use Rattle.std.proofs.Common.{map}
use Rattle.std.proofs.lemmas.List.Elements.{All-contains}
use Rattle.pw_files.proofs.Standing.{contains_by}
use Rattle.pw_types.specs.TypedModules.{WellTyped}
use Rattle.pw_flow.specs.declared.flow.FlowGlobal.{FlowGlobal}
use Rattle.pw_run_languages.specs.Programs.{globals_of, names_of}
use Rattle.pw_law_source.specs.Lowering.{flow_program}
use Rattle.pw_law_accept.proofs.Checked.{known_module}
use Rattle.pw_law_accept.proofs.Inside.{all_inside, distinct_right}
use Rattle.pw_law_accept.proofs.acceptance.accepted_is_lowerable.Goals as goal

pub returns : goal.returns
returns g = λ p frame_of stack checked accepted. record {
  accepted = accepted;
  formed = g.checked_functions_are_formed.ensures p checked;
  inside = all_inside p frame_of stack
      (λ m h.
      known_module g.words_spell_what_they_are.ensures g.accepted_names_are_identifiers.ensures.declared g.accepted_names_are_identifiers.ensures.functions
      g.accepted_functions_are_typed.ensures.typed g.accepted_names_are_declared.ensures.functions g.accepted_names_are_declared.ensures.objects m (checked m (contains_by m p.modules h)))
      (distinct_right (names_of (flow_program p frame_of stack)) (map (λ (g : FlowGlobal). g.name) (globals_of (flow_program p frame_of stack))) accepted.program.names)
      accepted.alike
      (λ m h. All-contains (λ m. WellTyped m.tree) p.modules m accepted.typed.modules (contains_by m p.modules h))
      (λ m h. let is = checked m (contains_by m p.modules h) in g.accepted_addresses_lead_inside.ensures.lead is.syntax m.tree is.is)
      (λ m h. let is = checked m (contains_by m p.modules h) in g.accepted_addresses_lead_inside.ensures.whole is.syntax m.tree is.is);
  within = λ m there.
      let is = checked m there in
      let formed = is.parsed.well_formed in
      let spelt = g.words_spell_what_they_are.ensures is.text is.tokens is.syntax is.lexed is.parsed in
      let short = g.strings_of_texts.ensures is.text is.tokens is.syntax is.lexed is.parsed in
      record {
        records = g.accepted_records_are_within.ensures is.syntax m.tree formed is.is;
        declared = g.accepted_names_are_identifiers.ensures.declared is.syntax m.tree formed spelt is.is;
        functions = λ k d below. record {
          name = g.accepted_names_are_identifiers.ensures.functions is.syntax m.tree formed spelt is.is k d below;
          params = g.accepted_functions_keep_limits.ensures.params is.syntax m.tree formed is.is k d below;
          locals = g.accepted_locals_are_copied.ensures is.syntax m.tree formed is.is k d below;
          body = g.accepted_bodies_keep_limits.ensures is.syntax m.tree short is.is k d below;
          parts = g.accepted_initialisers_have_parts.ensures is.syntax m.tree formed is.is k d below;
          room = g.accepted_functions_keep_limits.ensures.room is.syntax m.tree formed is.is k d below;
        };
      };
}
