use Rattle.pw_law_refine_forms.proofs.Laws.{Laws}
use Rattle.pw_law_refine_forms.proofs.Access.{reads, writes, writes-through, kept-stays}
use Rattle.pw_law_refine_forms.proofs.accesses_keep.Goals as goal

all : goal.After-ranges_of_bytes → Laws
all c = record {
  more = c.machines_step_on.ensures.steps;
  rise = c.machines_step_on.ensures.events;
  next = c.operations_step.ensures.next;
  obey = c.operations_step.ensures.step;
  put = c.operations_step.ensures.put;
  fresh = c.operations_step.ensures.fresh;
  lasts = c.stretches_last.ensures.lasts;
  stands = c.stretches_last.ensures.stands;
  later = c.later_code_keeps.ensures.expressions;
  contain = c.graphs_contain_the_parts.ensures.expressions;
  results = c.results_are_new.ensures;
  below = c.locals_come_first.ensures.below;
  assigned = c.locals_come_first.ensures.assigned;
  back = record {
    number = λ n width sign h. c.decoding_gives_back.ensures.number n width sign h;
    pointer = c.pointers_give_back.ensures.pointer;
    part = c.ranges_of_bytes.ensures.read_part;
    written = c.ranges_of_bytes.ensures.written_part;
  };
  types = c.values_have_types.ensures.expressions;
  places = c.values_have_types.ensures.places;
}

pub returns-clause-reads : goal.returns-clause-reads
returns-clause-reads c = reads (all c)

pub returns-clause-writes : goal.returns-clause-writes
returns-clause-writes c = writes (all c)

pub returns-clause-through : goal.returns-clause-through
returns-clause-through c = writes-through (all c)

pub returns-clause-kept : goal.returns-clause-kept
returns-clause-kept c = kept-stays (all c)
