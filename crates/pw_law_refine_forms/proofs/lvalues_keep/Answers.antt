use Rattle.pw_law_refine_forms.proofs.Laws.{Laws}
use Rattle.pw_law_refine_forms.proofs.Loads.{local-keeps, deref-keeps}
use Rattle.pw_law_refine_forms.proofs.Lvalues.{local-lvalue, deref-lvalue, local-suited, deref-suited}
use Rattle.pw_law_refine_forms.proofs.Assign.{assign-keeps}
use Rattle.pw_law_refine_forms.proofs.Symbols.{global-lvalue, global-suited, global-keeps}
use Rattle.pw_law_refine_forms.proofs.lvalues_keep.Goals as goal

all : goal.After-ranges_of_bytes → Laws
all c = record {
  more = c.machines_step_on.ensures.steps;
  rise = c.machines_step_on.ensures.events;
  next = c.operations_step.ensures.next;
  obey = c.operations_step.ensures.step;
  put = c.operations_step.ensures.put;
  fresh = c.operations_step.ensures.fresh;
  lasts = c.stretches_last.ensures.lasts;
  stands = c.stretches_last.ensures.stands;
  later = c.later_code_keeps.ensures.expressions;
  contain = c.graphs_contain_the_parts.ensures.expressions;
  results = c.results_are_new.ensures;
  below = c.locals_come_first.ensures.below;
  assigned = c.locals_come_first.ensures.assigned;
  back = record {
    number = λ n width sign h. c.decoding_gives_back.ensures.number n width sign h;
    pointer = c.pointers_give_back.ensures.pointer;
    part = c.ranges_of_bytes.ensures.read_part;
    written = c.ranges_of_bytes.ensures.written_part;
  };
  types = c.values_have_types.ensures.expressions;
  places = c.values_have_types.ensures.places;
}

pub returns-clause-local_places : goal.returns-clause-local_places
returns-clause-local_places c = local-lvalue (all c)

pub returns-clause-local_targets : goal.returns-clause-local_targets
returns-clause-local_targets c = λ t ty k x d active typed slots lvalue scalar. local-suited x t ty k d typed

pub returns-clause-locals : goal.returns-clause-locals
returns-clause-locals c = local-keeps (all c)

pub returns-clause-deref_places : goal.returns-clause-deref_places
returns-clause-deref_places c = deref-lvalue (all c)

pub returns-clause-deref_targets : goal.returns-clause-deref_targets
returns-clause-deref_targets c = λ t ty a x d active typed slots lvalue scalar. deref-suited (all c) x t ty a d typed slots

pub returns-clause-derefs : goal.returns-clause-derefs
returns-clause-derefs c = deref-keeps (all c)

pub returns-clause-assignments : goal.returns-clause-assignments
returns-clause-assignments c = assign-keeps (all c)

pub returns-clause-global_places : goal.returns-clause-global_places
returns-clause-global_places c = global-lvalue

pub returns-clause-global_targets : goal.returns-clause-global_targets
returns-clause-global_targets c = λ t ty symbol x d active typed slots lvalue scalar. global-suited x t ty symbol d active typed

pub returns-clause-globals : goal.returns-clause-globals
returns-clause-globals c = global-keeps (all c)
