use Rattle.pw_law_selection.proofs.Starting.{starts_are_followed}
use Rattle.pw_law_selection.proofs.starts_are_followed.Goals as goal

pub returns : goal.returns
returns c = starts_are_followed (record {
  start = c.runs_start.ensures.start;
  go_in = c.functions_go_in.ensures.inside;
  never = c.calls_alone_stop.ensures.webs;
  places = c.frames_are_laid_out.ensures.places;
  sizes = c.frames_are_laid_out.ensures.sizes;
  call = record {
    kept = record { saved = c.kept_registers_are_saved.ensures; leave = c.operations_leave_as_found.ensures };
    enter = c.functions_enter_as_found.ensures;
    back = c.functions_return_as_found.ensures;
  };
})
