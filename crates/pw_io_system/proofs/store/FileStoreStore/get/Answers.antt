use Rattle.pw_io_system.proofs.Fronts.{front_read}
use Rattle.pw_io_system.proofs.store.FileStoreStore.get.Goals as goal

pub returns-in-Ok-front-clause-file : goal.returns-in-Ok-front-clause-file
returns-in-Ok-front-clause-file g c =
    front_read _ _ _ _ c.in-Ok-front.bytes c.in-Ok.ensures.file c.in-Ok-front.ensures.bytes
