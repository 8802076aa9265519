use Rattle.pw_store_texts.proofs.SeenLemmas.{come-one}
use Rattle.pw_store_sources.specs.Headers.{headers_of}
use Rattle.pw_store_sources.specs.Sources.{sources_of}
use Rattle.pw_store_texts.proofs.laws.sources_come_to_one.Goals as goal

pub returns : goal.returns
returns c = λ files outputs others h k. come-one c.one_output.ensures (headers_of files) (sources_of files) outputs others h k
