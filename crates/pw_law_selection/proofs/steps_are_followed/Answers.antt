use Rattle.pw_law_selection.proofs.Calling.{CallLaws}
use Rattle.pw_law_selection.proofs.Stepping.{steps_are_followed}
use Rattle.pw_law_selection.proofs.steps_are_followed.Goals as goal

pub returns : goal.returns
returns c =
    let call : CallLaws = record {
      kept = record { saved = c.kept_registers_are_saved.ensures; leave = c.operations_leave_as_found.ensures };
      enter = c.functions_enter_as_found.ensures;
      back = c.functions_return_as_found.ensures;
    } in
    steps_are_followed (record {
      step = record {
        next = c.states_amid_go_on.ensures.operation;
        lines = c.states_amid_go_on.ensures.lines;
        amid = c.states_amid_go_on.ensures.whole;
        whole = c.states_amid_go_on.ensures.amid;
        ends = c.block_ends_go_on.ensures;
        operations = c.operations_do.ensures;
        shape = c.operations_keep_shape.ensures;
        never = c.calls_alone_stop.ensures.operations;
        ends_never = c.calls_alone_stop.ensures.ends;
        places = c.frames_are_laid_out.ensures.places;
        sizes = c.frames_are_laid_out.ensures.sizes;
        kept = call.kept;
        come = c.passages_come.ensures.come;
      };
      back = record {
        reach = c.returns_are_reached.ensures;
        back = c.functions_come_back.ensures.back;
        goes_behind = c.functions_come_back.ensures.links;
        answers = c.answers_are_taken.ensures;
        links = c.passages_come.ensures.links;
        whole = c.states_amid_go_on.ensures.whole;
        never = c.calls_alone_stop.ensures.ends;
        places = c.frames_are_laid_out.ensures.places;
        sizes = c.frames_are_laid_out.ensures.sizes;
        call = call;
        words = c.registers_hold_words.ensures;
      };
      calling = record {
        reach = c.calls_are_reached.ensures;
        enter = c.functions_are_entered.ensures;
        go_in = c.functions_go_in.ensures.inside;
        clear = c.functions_go_in.ensures.clear;
        refused = c.calls_are_noted_alike.ensures.refused;
        stacked = c.whole_states_go_on.ensures.stacked;
        values = c.waiting_functions_stay.ensures.values;
        goes_behind = c.functions_come_back.ensures.links;
        links = c.passages_come.ensures.links;
        whole = c.states_amid_go_on.ensures.whole;
        places = c.frames_are_laid_out.ensures.places;
        sizes = c.frames_are_laid_out.ensures.sizes;
        entered = c.entered_frames_are_known.ensures;
        noted = c.active_calls_are_noted.ensures;
        never = c.calls_alone_stop.ensures.webs;
        call = call;
      };
      library = c.library_does_alike.ensures;
      answers = c.answers_are_taken.ensures;
      words = c.registers_hold_words.ensures;
      stand = c.functions_stand_in_blocks.ensures;
      slots = c.pointers_are_known.ensures.slots;
    })
