use Rattle.pw_law_refine_stmts.proofs.Laws.{Laws}
use Rattle.pw_law_refine_stmts.proofs.Simple.{empty-keeps, evaluate-keeps, goto-keeps, break-keeps, continue-keeps, return-keeps}
use Rattle.pw_law_refine_stmts.proofs.simple_statements_keep.Goals as goal

all : goal.After-values_have_types → Laws
all c = record {
  more = c.machines_step_on.ensures.steps;
  rise = c.machines_step_on.ensures.events;
  fresh = c.operations_step.ensures.fresh;
  lasts = c.stretches_last.ensures.lasts;
  later = c.later_code_keeps.ensures.expressions;
  grows = c.later_code_keeps.ensures.statements;
  contain = c.graphs_contain_the_parts.ensures.expressions;
  contains = c.graphs_contain_the_parts.ensures.statements;
  alike = c.expressions_spread.ensures.labels;
  results = c.results_are_new.ensures;
  ends = c.statements_end.ensures.ends;
  labels = c.statements_end.ensures.labels;
  ranges = c.functions_stay_in_range.ensures;
  lists = c.parts_are_set.ensures.lists;
  labelled = c.parts_are_set.ensures.labelled;
  blocks = c.parts_are_set.ensures.blocks;
  ifs = c.parts_are_set.ensures.ifs;
  arms = c.parts_are_set.ensures.arms;
  loops = c.parts_are_set.ensures.loops;
  switches = c.parts_are_set.ensures.switches;
  types = c.values_have_types.ensures.expressions;
}

pub returns-clause-empty : goal.returns-clause-empty
returns-clause-empty c = empty-keeps

pub returns-clause-evaluations : goal.returns-clause-evaluations
returns-clause-evaluations c = evaluate-keeps (all c)

pub returns-clause-gotos : goal.returns-clause-gotos
returns-clause-gotos c = goto-keeps

pub returns-clause-breaks : goal.returns-clause-breaks
returns-clause-breaks c = break-keeps

pub returns-clause-continues : goal.returns-clause-continues
returns-clause-continues c = continue-keeps

pub returns-clause-results : goal.returns-clause-results
returns-clause-results c = return-keeps (all c)
