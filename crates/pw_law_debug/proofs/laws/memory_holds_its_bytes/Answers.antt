use Rattle.pw_law_debug.proofs.Numbers.{holds_bytes}
use Rattle.pw_law_debug.proofs.laws.memory_holds_its_bytes.Goals as goal

pub returns : goal.returns
returns c = holds_bytes
