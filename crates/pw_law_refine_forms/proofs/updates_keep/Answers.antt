use Rattle.pw_law_refine_forms.proofs.Laws.{Laws}
use Rattle.pw_law_refine_forms.proofs.Numbers.{NumberLaws}
use Rattle.pw_law_refine_forms.proofs.Steps.{compound-keeps, step-keeps}
use Rattle.pw_law_refine_forms.proofs.PointerUpdates.{pointer-compound-keeps, pointer-step-keeps}
use Rattle.pw_law_refine_forms.proofs.Copies.{record-assign-keeps, record-assign-address}
use Rattle.pw_law_refine_forms.proofs.updates_keep.Goals as goal

all : goal.After-ranges_of_bytes → Laws
all c = record {
  more = c.machines_step_on.ensures.steps;
  rise = c.machines_step_on.ensures.events;
  next = c.operations_step.ensures.next;
  obey = c.operations_step.ensures.step;
  put = c.operations_step.ensures.put;
  fresh = c.operations_step.ensures.fresh;
  lasts = c.stretches_last.ensures.lasts;
  stands = c.stretches_last.ensures.stands;
  later = c.later_code_keeps.ensures.expressions;
  contain = c.graphs_contain_the_parts.ensures.expressions;
  results = c.results_are_new.ensures;
  below = c.locals_come_first.ensures.below;
  assigned = c.locals_come_first.ensures.assigned;
  back = record {
    number = λ n width sign h. c.decoding_gives_back.ensures.number n width sign h;
    pointer = c.pointers_give_back.ensures.pointer;
    part = c.ranges_of_bytes.ensures.read_part;
    written = c.ranges_of_bytes.ensures.written_part;
  };
  types = c.values_have_types.ensures.expressions;
  places = c.values_have_types.ensures.places;
}

nums : goal.After-ranges_of_bytes → NumberLaws
nums c = record { binary = c.operators_agree.ensures.binary; conversions = c.conversions_agree.ensures }

pub returns-clause-compounds : goal.returns-clause-compounds
returns-clause-compounds c = compound-keeps (all c) (nums c)

pub returns-clause-steps : goal.returns-clause-steps
returns-clause-steps c = step-keeps (all c) (nums c)

pub returns-clause-pointer_compounds : goal.returns-clause-pointer_compounds
returns-clause-pointer_compounds c = pointer-compound-keeps (all c)

pub returns-clause-pointer_steps : goal.returns-clause-pointer_steps
returns-clause-pointer_steps c = pointer-step-keeps (all c)

pub returns-clause-records : goal.returns-clause-records
returns-clause-records c = record-assign-keeps (all c)

pub returns-clause-record_places : goal.returns-clause-record_places
returns-clause-record_places c = record-assign-address (all c)
