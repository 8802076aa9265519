use Rattle.std.proofs.Common.{arith}
use Rattle.pw_build_objects.proofs.OneAnswer.{Laws, one_answer, one_count}
use Rattle.pw_build_objects.proofs.laws.flow_graphs_have_one_answer.Goals as goal

pub returns : goal.returns
returns c =
    let laws : Laws = record {
      summary = c.a_module_has_one_summary.ensures;
      form = c.optimised_forms_are_one.ensures;
      lawful_form = c.forms_keep_what_modules_have.ensures.lawful;
      lawful = λ ss colours d few all is. c.databases_are_lawful.ensures ss colours d (omega (arith, few)) all is;
      database = c.databases_are_one.ensures;
      directives = c.directives_are_one.ensures;
      object = c.a_module_has_one_object.ensures;
      not_both = c.modules_have_one_answer.ensures.not_both;
      one_fault = c.modules_have_one_answer.ensures.one_fault;
      objects_not_both = c.objects_have_one_answer.ensures.not_both;
      objects_one_fault = c.objects_have_one_answer.ensures.one_fault;
    } in
    record { answer = one_answer laws; count = one_count laws }
