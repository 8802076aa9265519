use Rattle.pw_law_select_start.proofs.Globals.{memory_held}
use Rattle.pw_law_select_start.proofs.Starting.{starts_of_runs}
use Rattle.pw_law_select_start.proofs.runs_start.Goals as goal

pub returns-clause-start : goal.returns-clause-start
returns-clause-start c = starts_of_runs (record {
  begins = c.functions_begin.ensures;
  alike = c.globals_stand_in_words.ensures.alike;
  straight = c.straight_words_run.ensures.lines;
  pass = c.rows_pass.ensures.straight;
  new = c.bytes_stand.ensures.new;
  old = c.bytes_stand.ensures.old;
  known = c.start_bytes_are_known.ensures;
  frames = c.entered_frames_are_known.ensures;
})

pub returns-clause-memory : goal.returns-clause-memory
returns-clause-memory c = memory_held
