use Rattle.pw_law_refine_forms.proofs.Laws.{Laws}
use Rattle.pw_law_refine_exprs.proofs.Laws.{NameLaws}
use Rattle.pw_law_refine_exprs.proofs.Returned.{returned-later}
use Rattle.pw_law_refine_exprs.proofs.ByName.{call-keeps}
use Rattle.pw_law_refine_exprs.proofs.ByValue.{call-value-keeps}
use Rattle.pw_law_refine_exprs.proofs.calls_are_expressions.Goals as goal

all : goal.After-ranges_of_bytes → Laws
all c = record {
  more = c.machines_step_on.ensures.steps;
  rise = c.machines_step_on.ensures.events;
  next = c.operations_step.ensures.next;
  obey = c.operations_step.ensures.step;
  put = c.operations_step.ensures.put;
  fresh = c.operations_step.ensures.fresh;
  lasts = c.stretches_last.ensures.lasts;
  stands = c.stretches_last.ensures.stands;
  later = c.later_code_keeps.ensures.expressions;
  contain = c.graphs_contain_the_parts.ensures.expressions;
  results = c.results_are_new.ensures;
  below = c.locals_come_first.ensures.below;
  assigned = c.locals_come_first.ensures.assigned;
  back = record {
    number = λ n width sign h. c.decoding_gives_back.ensures.number n width sign h;
    pointer = c.pointers_give_back.ensures.pointer;
    part = c.ranges_of_bytes.ensures.read_part;
    written = c.ranges_of_bytes.ensures.written_part;
  };
  types = c.values_have_types.ensures.expressions;
  places = c.values_have_types.ensures.places;
}

names : goal.After-ranges_of_bytes → NameLaws
names c = record {
  number = c.names_have_one_number.ensures.functions;
  object = c.names_have_one_number.ensures.objects;
  found = c.functions_are_found.ensures.names;
  numbered = c.functions_are_found.ensures.numbers;
  own = c.functions_are_found.ensures.own;
}

pub returns-clause-returned : goal.returns-clause-returned
returns-clause-returned c = returned-later (all c)

pub returns-clause-names : goal.returns-clause-names
returns-clause-names c = call-keeps (all c)

pub returns-clause-values : goal.returns-clause-values
returns-clause-values c = call-value-keeps (all c) (names c)
