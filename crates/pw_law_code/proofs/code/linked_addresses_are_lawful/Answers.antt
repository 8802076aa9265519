use Rattle.pw_law_code.proofs.Addresses.{addresses_are_lawful}
use Rattle.pw_law_code.proofs.code.linked_addresses_are_lawful.Goals as goal

pub returns : goal.returns
returns c = addresses_are_lawful
