use Rattle.std.proofs.Common.{◌∙◌}
use Rattle.std.proofs.lemmas.Option.{IfSome_then}
use Rattle.std.specs.FinMap as finite
use Rattle.pw_store_modules.specs.Modules.{stem, text_read}
use Rattle.pw_store_modules.proofs.ReadingLemmas.{read_and_cut}
use Rattle.pw_store_modules.proofs.sources.read_source.Goals as goal

pub returns-in-Ok-clause-read : goal.returns-in-Ok-clause-read
returns-in-Ok-clause-read g c =
    IfSome_then (g.S.Store.told c.args.store.now) (rw c.in-Some.is at c.in_ok-text.ensures.file)
    (λ told read. read_and_cut text_read (finite.get told.files c.args.file.now) c.in-Some.text.items c.truncate.new.self.items c.in-Ok.name (stem c.args.file.now) read c.truncate.ensures.items (c.in-Ok.ensures ∙ c.stem.ensures))
