use Rattle.pw_law_refine_forms.proofs.Laws.{Laws}
use Rattle.pw_law_refine_forms.proofs.Addresses.{local-address, deref-address, comma-address, cond-address, decay-keeps, address-of-local, address-of-deref}
use Rattle.pw_law_refine_forms.proofs.Strings.{string-address, global-address, address-of-global, address-of-string}
use Rattle.pw_law_refine_forms.proofs.Arguments.{arguments-keep}
use Rattle.pw_law_refine_forms.proofs.addresses_keep.Goals as goal

all : goal.After-ranges_of_bytes → Laws
all c = record {
  more = c.machines_step_on.ensures.steps;
  rise = c.machines_step_on.ensures.events;
  next = c.operations_step.ensures.next;
  obey = c.operations_step.ensures.step;
  put = c.operations_step.ensures.put;
  fresh = c.operations_step.ensures.fresh;
  lasts = c.stretches_last.ensures.lasts;
  stands = c.stretches_last.ensures.stands;
  later = c.later_code_keeps.ensures.expressions;
  contain = c.graphs_contain_the_parts.ensures.expressions;
  results = c.results_are_new.ensures;
  below = c.locals_come_first.ensures.below;
  assigned = c.locals_come_first.ensures.assigned;
  back = record {
    number = λ n width sign h. c.decoding_gives_back.ensures.number n width sign h;
    pointer = c.pointers_give_back.ensures.pointer;
    part = c.ranges_of_bytes.ensures.read_part;
    written = c.ranges_of_bytes.ensures.written_part;
  };
  types = c.values_have_types.ensures.expressions;
  places = c.values_have_types.ensures.places;
}

pub returns-clause-locals : goal.returns-clause-locals
returns-clause-locals c = local-address (all c)

pub returns-clause-derefs : goal.returns-clause-derefs
returns-clause-derefs c = deref-address (all c)

pub returns-clause-commas : goal.returns-clause-commas
returns-clause-commas c = comma-address (all c)

pub returns-clause-conditionals : goal.returns-clause-conditionals
returns-clause-conditionals c = cond-address (all c)

pub returns-clause-decays : goal.returns-clause-decays
returns-clause-decays c = decay-keeps (all c)

pub returns-clause-of_locals : goal.returns-clause-of_locals
returns-clause-of_locals c = address-of-local (all c)

pub returns-clause-of_derefs : goal.returns-clause-of_derefs
returns-clause-of_derefs c = address-of-deref (all c)

pub returns-clause-arguments : goal.returns-clause-arguments
returns-clause-arguments c = arguments-keep (all c)

pub returns-clause-strings : goal.returns-clause-strings
returns-clause-strings c = string-address (all c)

pub returns-clause-globals : goal.returns-clause-globals
returns-clause-globals c = global-address (all c)

pub returns-clause-of_globals : goal.returns-clause-of_globals
returns-clause-of_globals c = address-of-global (all c)

pub returns-clause-of_strings : goal.returns-clause-of_strings
returns-clause-of_strings c = address-of-string (all c)
