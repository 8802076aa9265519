use Rattle.pw_law_refine_forms.proofs.Laws.{Laws}
use Rattle.pw_law_refine_forms.proofs.Truths.{not-keeps}
use Rattle.pw_law_refine_forms.proofs.Logic.{and-keeps, or-keeps}
use Rattle.pw_law_refine_forms.proofs.Cond.{cond-keeps}
use Rattle.pw_law_refine_forms.proofs.Compare.{comparison-keeps}
use Rattle.pw_law_refine_forms.proofs.Conditions.{conditions}
use Rattle.pw_law_refine_forms.proofs.tests_keep.Goals as goal

all : goal.After-ranges_of_bytes → Laws
all c = record {
  more = c.machines_step_on.ensures.steps;
  rise = c.machines_step_on.ensures.events;
  next = c.operations_step.ensures.next;
  obey = c.operations_step.ensures.step;
  put = c.operations_step.ensures.put;
  fresh = c.operations_step.ensures.fresh;
  lasts = c.stretches_last.ensures.lasts;
  stands = c.stretches_last.ensures.stands;
  later = c.later_code_keeps.ensures.expressions;
  contain = c.graphs_contain_the_parts.ensures.expressions;
  results = c.results_are_new.ensures;
  below = c.locals_come_first.ensures.below;
  assigned = c.locals_come_first.ensures.assigned;
  back = record {
    number = λ n width sign h. c.decoding_gives_back.ensures.number n width sign h;
    pointer = c.pointers_give_back.ensures.pointer;
    part = c.ranges_of_bytes.ensures.read_part;
    written = c.ranges_of_bytes.ensures.written_part;
  };
  types = c.values_have_types.ensures.expressions;
  places = c.values_have_types.ensures.places;
}

pub returns-clause-negations : goal.returns-clause-negations
returns-clause-negations c = not-keeps (all c)

pub returns-clause-conjunctions : goal.returns-clause-conjunctions
returns-clause-conjunctions c = and-keeps (all c)

pub returns-clause-disjunctions : goal.returns-clause-disjunctions
returns-clause-disjunctions c = or-keeps (all c)

pub returns-clause-conditionals : goal.returns-clause-conditionals
returns-clause-conditionals c = cond-keeps (all c)

pub returns-clause-comparisons : goal.returns-clause-comparisons
returns-clause-comparisons c = comparison-keeps (all c)

pub returns-clause-conditions : goal.returns-clause-conditions
returns-clause-conditions c = λ bound keeps. conditions (all c) c.functions_stay_in_range.ensures bound keeps
