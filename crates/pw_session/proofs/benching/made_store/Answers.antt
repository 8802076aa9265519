use Rattle.std.proofs.Common.{◌≡◌, ◌∙◌, ap, subst, []}
use Rattle.std.specs.Prelude.{IfOk}
use Rattle.pw_io.specs.Files.{Files}
use Rattle.pw_io.specs.Shelf.{files_of}
use Rattle.pw_session.proofs.BenchLemmas.{files_made}
use Rattle.pw_session.proofs.benching.made_store.Goals as goal

pub returns : goal.returns
returns c =
    subst (λ (f : Files). IfOk c.new.result (λ store. store ≡ record { files = f; puts = [] })) (ap files_of c.deref.ensures.value ∙ files_made c.args.number c.args.modules c.in_ok-files.files.items c.in_ok-files.ensures) c.new.ensures
