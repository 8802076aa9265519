use Rattle.std.proofs.Common.{sym, ap, ◌∙◌}
use Rattle.pw_check_init.specs.Views.{view_around, view_outer, view_reading}
use Rattle.pw_check_state.proofs.PlaceLemmas.{reverse_push}
use Rattle.pw_check_init_parts.proofs.WalkLemmas.{ok_then}
use Rattle.pw_check_init.proofs.ReadingLemmas.{outward_pop}
use Rattle.pw_check_init.proofs.readings.outward.Goals as goal

pub returns-in-Some : goal.returns-in-Some
returns-in-Some c =
    ok_then c.behind_list.result c.behind_list.ensures
    (λ after e. e ∙ sym (outward_pop c.args.types.now (view_reading c.args.x) (view_around c.in-Some.around) (view_outer c.pop.new.self.items)
    (ap view_outer c.in-Some.ensures.items ∙ reverse_push view_around c.pop.new.self.items c.in-Some.around)))
