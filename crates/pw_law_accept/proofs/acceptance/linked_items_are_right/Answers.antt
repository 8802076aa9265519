use Rattle.pw_value.specs.ProgramNames.{IsOrdinary}
use Rattle.pw_flow.specs.FlowGraph.{named_in}
use Rattle.pw_run_languages.specs.Programs.{globals_of}
use Rattle.pw_lower.specs.Modules.{lowered}
use Rattle.pw_law_source.specs.Lowering.{flow_program}
use Rattle.pw_files.proofs.Standing.{has_by, has_each, contains_by}
use Rattle.pw_law_accept.proofs.Checked.{known_module}
use Rattle.pw_law_accept.proofs.References.{all_items}
use Rattle.pw_law_accept.proofs.acceptance.linked_items_are_right.Goals as goal

pub returns : goal.returns
returns g = λ p frame_of stack checked plain rising linked v there. all_items p frame_of stack
    (λ m h. known_module g.words_spell_what_they_are.ensures g.accepted_names_are_identifiers.ensures.declared g.accepted_names_are_identifiers.ensures.functions
    g.accepted_functions_are_typed.ensures.typed g.accepted_names_are_declared.ensures.functions g.accepted_names_are_declared.ensures.objects m (checked m (contains_by m p.modules h)))
    linked (λ m h. plain m (contains_by m p.modules h)) rising
    (λ m h.
    let there = contains_by m p.modules h in
    let is = checked m there in
    g.accepted_texts_are_well_typed.ensures is.syntax m.tree is.parsed.well_formed (g.strings_of_texts.ensures is.text is.tokens is.syntax is.lexed is.parsed) is.is)
    (λ m h name k.
    let there = contains_by m p.modules h in
    let is = checked m there in
    let typed = g.accepted_texts_are_well_typed.ensures is.syntax m.tree is.parsed.well_formed (g.strings_of_texts.ensures is.text is.tokens is.syntax is.lexed is.parsed) is.is in
    let valid = g.modules_are_lawful.ensures m.name m.tree typed (g.linked_modules_are_within.ensures p frame_of stack checked linked m there) in
    has_each IsOrdinary (named_in (lowered m.name m.tree)) name valid.parts.ordinary k)
    (λ m h. let is = checked m (contains_by m p.modules h) in g.accepted_addresses_lead_inside.ensures.lead is.syntax m.tree is.is)
    v (has_by v (globals_of (flow_program p frame_of stack)) there)
