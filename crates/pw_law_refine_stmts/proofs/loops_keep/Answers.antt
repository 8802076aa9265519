use Rattle.pw_law_refine_stmts.proofs.Laws.{Laws}
use Rattle.pw_law_refine_stmts.proofs.Whiles.{while-loop-keeps, do-loop-keeps, while-keeps, do-keeps}
use Rattle.pw_law_refine_stmts.proofs.Fors.{for-loop-keeps, for-keeps}
use Rattle.pw_law_refine_stmts.proofs.loops_keep.Goals as goal

all : goal.After-values_have_types → Laws
all c = record {
  more = c.machines_step_on.ensures.steps;
  rise = c.machines_step_on.ensures.events;
  fresh = c.operations_step.ensures.fresh;
  lasts = c.stretches_last.ensures.lasts;
  later = c.later_code_keeps.ensures.expressions;
  grows = c.later_code_keeps.ensures.statements;
  contain = c.graphs_contain_the_parts.ensures.expressions;
  contains = c.graphs_contain_the_parts.ensures.statements;
  alike = c.expressions_spread.ensures.labels;
  results = c.results_are_new.ensures;
  ends = c.statements_end.ensures.ends;
  labels = c.statements_end.ensures.labels;
  ranges = c.functions_stay_in_range.ensures;
  lists = c.parts_are_set.ensures.lists;
  labelled = c.parts_are_set.ensures.labelled;
  blocks = c.parts_are_set.ensures.blocks;
  ifs = c.parts_are_set.ensures.ifs;
  arms = c.parts_are_set.ensures.arms;
  loops = c.parts_are_set.ensures.loops;
  switches = c.parts_are_set.ensures.switches;
  types = c.values_have_types.ensures.expressions;
}

pub returns-clause-while_tops : goal.returns-clause-while_tops
returns-clause-while_tops c = while-loop-keeps (all c)

pub returns-clause-do_tops : goal.returns-clause-do_tops
returns-clause-do_tops c = do-loop-keeps (all c)

pub returns-clause-for_tops : goal.returns-clause-for_tops
returns-clause-for_tops c = for-loop-keeps (all c)

pub returns-clause-whiles : goal.returns-clause-whiles
returns-clause-whiles c = while-keeps (all c)

pub returns-clause-dos : goal.returns-clause-dos
returns-clause-dos c = do-keeps (all c)

pub returns-clause-fors : goal.returns-clause-fors
returns-clause-fors c = for-keeps (all c)
