use Rattle.std.specs.FinMap as finite
use Rattle.std.specs.Prelude.{map}
use Rattle.pw_law_shown.specs.Alike.{DeclaresMain}
use Rattle.pw_law_whole.proofs.Texts.{flows_are, flows_each, completes_with}
use Rattle.pw_law_whole.specs.Programs.{flow_of}
use Rattle.pw_law_whole.proofs.Parts.{whole_with}
use Rattle.pw_law_whole.proofs.full_builds_are_whole.Goals as goal

pub returns : goal.returns
returns c = λ texts opts parts p built of_texts.
    whole_with (record {
      rooms = c.lowered_have_rooms.ensures;
      implement = c.lowering_implements.ensures;
      accepted_shapes = c.accepted_programs_have_shapes.ensures;
      same = c.summaries_say_the_same.ensures;
      serve = c.temporaries_serve_programs.ensures;
      databases = c.databases_are_lawful.ensures;
      one = c.directives_are_one.ensures;
      accepted = c.checked_is_accepted.ensures;
      alike = c.flow_graphs_and_summaries_are_refused_alike.ensures.linked;
      less = c.modules_that_show_less_stay_linked.ensures;
      lawful_forms = c.forms_keep_what_modules_have.ensures.lawful;
      forms = record {
        runs = c.optimisation_keeps_runs.ensures;
        rooms = c.optimisation_keeps_rooms.ensures;
        programs = c.optimisation_keeps_programs.ensures;
        shows = c.optimisation_shows_no_more.ensures;
      };
    })
    texts opts parts p
    (flows_each c.phase_one_is_exact.ensures DeclaresMain c.flow_graphs_declare_main.ensures (finite.entries texts) p.modules of_texts)
    (completes_with (finite.entries texts) (map flow_of p.modules) opts parts
    (flows_are c.phase_one_is_exact.ensures (finite.entries texts) p.modules of_texts) built)
    of_texts
