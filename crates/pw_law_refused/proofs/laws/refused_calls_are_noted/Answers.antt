use Rattle.pw_law_selection.proofs.Calling.{CallLaws}
use Rattle.pw_law_selection.proofs.Given.{functions_fine}
use Rattle.pw_law_refused.proofs.Noted.{notes_refused}
use Rattle.pw_law_refused.proofs.laws.refused_calls_are_noted.Goals as goal

pub returns : goal.returns
returns c = λ p d functions w scratch input n m u given at refused.
    let stand = c.functions_stand_in_blocks.ensures p functions input n m (λ x there. (functions_fine p given.program d given.directives functions given.serve given.frames x there).lawful) at in
    let call : CallLaws = record {
      kept = record { saved = c.kept_registers_are_saved.ensures; leave = c.operations_leave_as_found.ensures };
      enter = c.functions_enter_as_found.ensures;
      back = c.functions_return_as_found.ensures;
    } in
    notes_refused p d functions w scratch input given c.pointers_are_known.ensures.known c.starts_are_followed.ensures c.steps_are_followed.ensures
    (record {
      reach = c.calls_are_reached.ensures;
      enter = c.functions_are_entered.ensures;
      go_in = c.functions_go_in.ensures.inside;
      clear = c.functions_go_in.ensures.clear;
      refused = c.calls_are_noted_alike.ensures.refused;
      stacked = c.whole_states_go_on.ensures.stacked;
      values = c.waiting_functions_stay.ensures.values;
      goes_behind = c.functions_come_back.ensures.links;
      links = c.passages_come.ensures.links;
      whole = c.states_amid_go_on.ensures.whole;
      places = c.frames_are_laid_out.ensures.places;
      sizes = c.frames_are_laid_out.ensures.sizes;
      entered = c.entered_frames_are_known.ensures;
      noted = c.active_calls_are_noted.ensures;
      never = c.calls_alone_stop.ensures.webs;
      call = call;
    }) c.calls_are_noted_alike.ensures.called n m u at stand.0 stand.1.0 refused
