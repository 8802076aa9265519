use Rattle.pw_law_analysis.proofs.Joined.{joined}
use Rattle.pw_law_analysis.proofs.owed.all_laws_compose.Goals as goal

pub returns : goal.returns
returns c =
    joined c.layers_compose.ensures c.analyses_compose.ensures
    (record { functions = c.maps_name_the_program.ensures.functions; globals = c.maps_name_the_program.ensures.globals })
    c.traces_tell_what_is_noted.ensures.traffic
