use Rattle.std.proofs.Common.{true, rules}
use Rattle.pw_build_objects.proofs.RoomLaws.{no_rule_broken}
use Rattle.pw_build_objects.proofs.forms.prepare_optimised.Goals as goal

pub analyse_flows-requires-clause-lawful : goal.analyse_flows-requires-clause-lawful
analyse_flows-requires-clause-lawful c =
    rw c.deref.ensures.value (c.forms_keep_what_modules_have.ensures.lawful true c.args.flows.now c.in_ok-forms.forms.items c.in_ok-forms.ensures c.requires.lawful)

pub returns-in_err-analysed-clause-refused : goal.returns-in_err-analysed-clause-refused
returns-in_err-analysed-clause-refused c =
    no_rule_broken c.modules_have_one_answer.ensures.not_both c.forms_keep_what_modules_have.ensures.rules true c.args.flows.now c.in_ok-forms.forms.items c.from_residual-in_err-analysed.result c.in_err-analysed.field-0.0
    (first_of (search (rules, c.from_residual-in_err-analysed.ensures), cc (c.from_residual-in_err-analysed.ensures)))
    c.in_ok-forms.ensures c.requires.lawful c.in_ok-look_at_rules.ensures.keep (rw c.deref.ensures.value at c.in_err-analysed.ensures.refused)

pub returns-clause-prepared : goal.returns-clause-prepared
returns-clause-prepared c = record {
  rules = c.in_ok-look_at_rules.ensures.keep;
  of_flows = c.in_ok-forms.ensures;
  lawful = c.forms_keep_what_modules_have.ensures.lawful true c.args.flows.now c.in_ok-forms.forms.items c.in_ok-forms.ensures c.requires.lawful;
  summaries = rw c.deref.ensures.value at c.in_ok-analysed.ensures.summaries;
  database = rw c.deref.ensures.value at c.in_ok-analysed.ensures.database;
  lawful_database = c.in_ok-analysed.ensures.lawful;
}
