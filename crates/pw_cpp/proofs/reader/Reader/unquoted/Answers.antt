use Rattle.std.proofs.Common.{Ok, ap, inr}
use Rattle.pw_cpp.specs.Files.{Stops}
use Rattle.pw_cpp.proofs.Including.{unlexed-unquoted}
use Rattle.pw_cpp.proofs.reader.Reader.unquoted.Goals as goal

pub returns-in-Ok : goal.returns-in-Ok
returns-in-Ok c = inr (Ok c.in-Ok.field-0, c.in-Ok.ensures.lexes, (λ f. ap (Stops f.name) c.faulty.ensures))

pub returns : goal.returns
returns c = unlexed-unquoted c.args.text.now c.args.hash c.args.behind c.in-Err.fault c.in-Err.ensures.lexes
