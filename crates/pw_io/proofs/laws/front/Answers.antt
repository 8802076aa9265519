-- What `take` says.
use Rattle.std.proofs.lemmas.List.{take_all, length-take}
use Rattle.pw_io.specs.Files.{prefix_of}
use Rattle.pw_io.proofs.laws.front.Goals as goal

pub returns-clause-whole : goal.returns-clause-whole
unfolding prefix_of
returns-clause-whole c = λ most bytes h. take_all most bytes h

pub returns-clause-length : goal.returns-clause-length
unfolding prefix_of
returns-clause-length c = λ most bytes. length-take most bytes
