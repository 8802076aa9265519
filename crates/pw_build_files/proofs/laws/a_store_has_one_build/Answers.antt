use Rattle.pw_build_files.proofs.OutcomeLaws.{one_build}
use Rattle.pw_build_files.proofs.laws.a_store_has_one_build.Goals as goal

pub returns : goal.returns
returns c = one_build (record {
  build = c.modules_have_one_build.ensures.answer;
  database = c.databases_and_files_are_one_to_one.ensures.one_new_file;
  image = c.images_and_files_are_one_to_one.ensures.one_file;
  object = c.objects_and_files_are_one_to_one.ensures.one_file;
})
