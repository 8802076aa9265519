use Rattle.pw_law_refine_stmts.proofs.Laws.{Laws}
use Rattle.pw_law_refine_stmts.proofs.Arms.{no-arm-keeps, else-keeps, arm-keeps}
use Rattle.pw_law_refine_stmts.proofs.Taking.{arms-take-up}
use Rattle.pw_law_refine_stmts.proofs.All.{if-keeps}
use Rattle.pw_law_refine_stmts.proofs.arms_keep.Goals as goal

all : goal.After-values_have_types → Laws
all c = record {
  more = c.machines_step_on.ensures.steps;
  rise = c.machines_step_on.ensures.events;
  fresh = c.operations_step.ensures.fresh;
  lasts = c.stretches_last.ensures.lasts;
  later = c.later_code_keeps.ensures.expressions;
  grows = c.later_code_keeps.ensures.statements;
  contain = c.graphs_contain_the_parts.ensures.expressions;
  contains = c.graphs_contain_the_parts.ensures.statements;
  alike = c.expressions_spread.ensures.labels;
  results = c.results_are_new.ensures;
  ends = c.statements_end.ensures.ends;
  labels = c.statements_end.ensures.labels;
  ranges = c.functions_stay_in_range.ensures;
  lists = c.parts_are_set.ensures.lists;
  labelled = c.parts_are_set.ensures.labelled;
  blocks = c.parts_are_set.ensures.blocks;
  ifs = c.parts_are_set.ensures.ifs;
  arms = c.parts_are_set.ensures.arms;
  loops = c.parts_are_set.ensures.loops;
  switches = c.parts_are_set.ensures.switches;
  types = c.values_have_types.ensures.expressions;
}

pub returns-clause-none : goal.returns-clause-none
returns-clause-none c = no-arm-keeps

pub returns-clause-last : goal.returns-clause-last
returns-clause-last c = else-keeps

pub returns-clause-arms : goal.returns-clause-arms
returns-clause-arms c = arm-keeps (all c)

pub returns-clause-taken_up : goal.returns-clause-taken_up
returns-clause-taken_up c = arms-take-up (all c)

pub returns-clause-ifs : goal.returns-clause-ifs
returns-clause-ifs c = if-keeps (all c)
