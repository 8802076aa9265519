use Rattle.std.proofs.Common.{map}
use Rattle.pw_files.proofs.Standing.{contains_by}
use Rattle.pw_flow.specs.declared.flow.FlowGlobal.{FlowGlobal}
use Rattle.pw_run_languages.specs.Programs.{globals_of, names_of}
use Rattle.pw_law_source.specs.Lowering.{flow_program}
use Rattle.pw_law_accept.proofs.Checked.{known_module}
use Rattle.pw_law_accept.proofs.Inside.{all_inside, distinct_right}
use Rattle.pw_law_accept.proofs.Programs.{names_distinct}
use Rattle.pw_law_accept.proofs.acceptance.linked_addresses_lead_inside.Goals as goal

pub returns : goal.returns
returns g = λ p frame_of stack checked linked. all_inside p frame_of stack
    (λ m h. known_module g.words_spell_what_they_are.ensures g.accepted_names_are_identifiers.ensures.declared g.accepted_names_are_identifiers.ensures.functions
    g.accepted_functions_are_typed.ensures.typed g.accepted_names_are_declared.ensures.functions g.accepted_names_are_declared.ensures.objects m (checked m (contains_by m p.modules h)))
    (distinct_right (names_of (flow_program p frame_of stack)) (map (λ (g : FlowGlobal). g.name) (globals_of (flow_program p frame_of stack)))
    (names_distinct p frame_of stack
    (λ m h. known_module g.words_spell_what_they_are.ensures g.accepted_names_are_identifiers.ensures.declared g.accepted_names_are_identifiers.ensures.functions
    g.accepted_functions_are_typed.ensures.typed g.accepted_names_are_declared.ensures.functions g.accepted_names_are_declared.ensures.objects m (checked m (contains_by m p.modules h)))
    linked))
    (g.linked_modules_declare_alike.ensures p frame_of stack checked linked)
    (λ m h.
    let there = contains_by m p.modules h in
    let is = checked m there in
    g.accepted_texts_are_well_typed.ensures is.syntax m.tree is.parsed.well_formed (g.strings_of_texts.ensures is.text is.tokens is.syntax is.lexed is.parsed) is.is)
    (λ m h. let is = checked m (contains_by m p.modules h) in g.accepted_addresses_lead_inside.ensures.lead is.syntax m.tree is.is)
    (λ m h. let is = checked m (contains_by m p.modules h) in g.accepted_addresses_lead_inside.ensures.whole is.syntax m.tree is.is)
