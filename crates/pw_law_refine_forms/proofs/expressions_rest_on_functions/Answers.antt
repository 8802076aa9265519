use Rattle.pw_law_refine_forms.proofs.Laws.{Laws}
use Rattle.pw_law_refine_forms.proofs.Numbers.{NumberLaws}
use Rattle.pw_law_refine_forms.proofs.AllForms.{FormLaws, every, every-place, every-address}
use Rattle.pw_law_refine_forms.proofs.expressions_rest_on_functions.Goals as goal

all : goal.After-ranges_of_bytes → Laws
all c = record {
  more = c.machines_step_on.ensures.steps;
  rise = c.machines_step_on.ensures.events;
  next = c.operations_step.ensures.next;
  obey = c.operations_step.ensures.step;
  put = c.operations_step.ensures.put;
  fresh = c.operations_step.ensures.fresh;
  lasts = c.stretches_last.ensures.lasts;
  stands = c.stretches_last.ensures.stands;
  later = c.later_code_keeps.ensures.expressions;
  contain = c.graphs_contain_the_parts.ensures.expressions;
  results = c.results_are_new.ensures;
  below = c.locals_come_first.ensures.below;
  assigned = c.locals_come_first.ensures.assigned;
  back = record {
    number = λ n width sign h. c.decoding_gives_back.ensures.number n width sign h;
    pointer = c.pointers_give_back.ensures.pointer;
    part = c.ranges_of_bytes.ensures.read_part;
    written = c.ranges_of_bytes.ensures.written_part;
  };
  types = c.values_have_types.ensures.expressions;
  places = c.values_have_types.ensures.places;
}

nums : goal.After-ranges_of_bytes → NumberLaws
nums c = record { binary = c.operators_agree.ensures.binary; conversions = c.conversions_agree.ensures }

forms : goal.After-ranges_of_bytes → FormLaws
forms c = record {
  numbers = c.forms_keep.ensures.numbers;
  commas = c.forms_keep.ensures.commas;
  plus = c.forms_keep.ensures.plus;
  minus = c.forms_keep.ensures.minus;
  complement = c.forms_keep.ensures.complement;
  casts = c.forms_keep.ensures.casts;
  binary = c.forms_keep.ensures.binary;
}

pub returns-clause-values : goal.returns-clause-values
returns-clause-values c = every (all c) (nums c) (forms c)

pub returns-clause-places : goal.returns-clause-places
returns-clause-places c = λ bound fs x numbers spots a. every-place (all c) (nums c) (forms c) bound fs a x numbers spots

pub returns-clause-addresses : goal.returns-clause-addresses
returns-clause-addresses c = λ bound fs x numbers spots a. every-address (all c) (nums c) (forms c) bound fs a x numbers spots
