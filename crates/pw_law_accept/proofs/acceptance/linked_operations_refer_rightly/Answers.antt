use Rattle.pw_value.specs.ProgramNames.{IsOrdinary}
use Rattle.pw_types.specs.TypedModules.{IsStatement}
use Rattle.std.specs.Prelude.{false}
use Rattle.pw_flow.specs.FlowGraph.{named_in}
use Rattle.pw_run_languages.specs.Programs.{functions_of}
use Rattle.pw_run_languages.specs.LawfulPrograms.{ops_of}
use Rattle.pw_lower.specs.Modules.{lowered}
use Rattle.pw_law_source.specs.Lowering.{flow_program}
use Rattle.pw_law_checked.specs.Words.{WordsInStatement}
use Rattle.pw_law_checked.specs.Designators.{StatementNamesObjects}
use Rattle.pw_law_checked.specs.OwnNames.{with_objects}
use Rattle.pw_files.proofs.Standing.{has_by, has_each, contains_by}
use Rattle.pw_law_accept.proofs.Checked.{known_module}
use Rattle.pw_law_accept.proofs.Modules.{all_has}
use Rattle.pw_law_accept.proofs.References.{ops_right}
use Rattle.pw_law_accept.proofs.acceptance.linked_operations_refer_rightly.Goals as goal

pub returns : goal.returns
returns g = λ p frame_of stack checked plain rising linked f o there here. ops_right p frame_of stack
    (λ m h. known_module g.words_spell_what_they_are.ensures g.accepted_names_are_identifiers.ensures.declared g.accepted_names_are_identifiers.ensures.functions
    g.accepted_functions_are_typed.ensures.typed g.accepted_names_are_declared.ensures.functions g.accepted_names_are_declared.ensures.objects m (checked m (contains_by m p.modules h)))
    linked (λ m h. plain m (contains_by m p.modules h)) rising
    (λ m h.
    let there = contains_by m p.modules h in
    let is = checked m there in
    g.accepted_texts_are_well_typed.ensures is.syntax m.tree is.parsed.well_formed (g.strings_of_texts.ensures is.text is.tokens is.syntax is.lexed is.parsed) is.is)
    (λ m h name k.
    let there = contains_by m p.modules h in
    let is = checked m there in
    let typed = g.accepted_texts_are_well_typed.ensures is.syntax m.tree is.parsed.well_formed (g.strings_of_texts.ensures is.text is.tokens is.syntax is.lexed is.parsed) is.is in
    let valid = g.modules_are_lawful.ensures m.name m.tree typed (g.linked_modules_are_within.ensures p frame_of stack checked linked m there) in
    has_each IsOrdinary (named_in (lowered m.name m.tree)) name valid.parts.ordinary k)
    (λ m h e k.
    let there = contains_by m p.modules h in
    let is = checked m there in
    let stated = all_has (λ f. WordsInStatement f.body → IsStatement (with_objects m.tree) f false false f.params f.body) m.tree.functions e
    (g.accepted_functions_are_no_objects.ensures is.syntax m.tree is.parsed.well_formed (g.words_spell_what_they_are.ensures is.text is.tokens is.syntax is.lexed is.parsed) is.is) k in
    let names = all_has (λ f. StatementNamesObjects f.body) m.tree.functions e (g.accepted_names_of_objects_are_no_functions.ensures is.syntax m.tree is.is) k in
    let numbers = all_has (λ f. WordsInStatement f.body) m.tree.functions e (g.accepted_bodies_have_words.ensures is.syntax m.tree (g.strings_of_texts.ensures is.text is.tokens is.syntax is.lexed is.parsed) is.is) k in
    g.lowered_functions_refer_rightly.ensures m.name (with_objects m.tree) e (stated numbers) names)
    f o (has_by f (functions_of (flow_program p frame_of stack)) there) (has_by o (ops_of f) here)
