use Rattle.pw_store_texts.proofs.BytesLemmas.{none_beside, source_beside}
use Rattle.std.specs.Prelude.{string_bytes}
use Rattle.pw_store_texts.proofs.bytes.is_alone.Goals as goal

pub returns-in-Ok : goal.returns-in-Ok
returns-in-Ok c = λ files e. source_beside c.names.ensures.exact files c.args.names.now (string_bytes c.in_ok-source.source) c.args.name.now _ e c.in_ok-source.ensures c.in-Ok.ensures.bound c.in-Ok.ensures.position

pub returns : goal.returns
returns c = λ files e. none_beside c.names.ensures.exact c.names.ensures.order files c.args.names.now (string_bytes c.in_ok-source.source) c.args.name.now _ e c.in_ok-source.ensures c.in-Err.ensures.position
