use Rattle.pw_law_complete.proofs.Parts.{forms_exist, parts_exist, summaries_exist}
use Rattle.pw_law_complete.proofs.programs_have_parts.Goals as goal

pub returns : goal.returns
returns c = parts_exist (record {
  forms = forms_exist c.modules_have_optimised_forms.ensures;
  summaries = summaries_exist c.modules_have_summaries.ensures.one;
  lawful = c.forms_keep_what_modules_have.ensures.lawful;
  rules = c.forms_keep_what_modules_have.ensures.rules;
  names = c.modules_have_summaries.ensures.names;
  database = c.programs_have_databases.ensures;
  objects = c.programs_have_objects.ensures;
  one = record { files = c.flow_graphs_and_files_are_one_to_one.ensures.one_file; payloads = c.one_list_is_stored.ensures.one_payload };
})
