use Rattle.pw_store_texts.specs.Headers.{headers_of}
use Rattle.pw_store_texts.specs.Names.{source_name}
use Rattle.pw_store_texts.specs.Outputs.{files_with}
use Rattle.pw_commands_cpp.proofs.laws.a_source_has_one_output.Goals as goal

pub returns : goal.returns
returns c = λ files name text output other h k. c.one_output.ensures (files_with (headers_of files) name text) (source_name name) output other h k
