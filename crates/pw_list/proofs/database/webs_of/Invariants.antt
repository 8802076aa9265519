use Rattle.std.proofs.Common.{◌≡◌, map, take}
use Rattle.std.specs.FinMap as finite
use Rattle.pw_list.specs.DatabaseText.{webs_by_number}
use Rattle.pw_list.specs.Gathering.{entry_view}
use Rattle.pw_list.proofs.database.webs_of.Given as goal

abbrev pub invariant-loop-function : goal.invariant-loop-function
invariant-loop-function l = map entry_view l.webs.entries ≡ finite.entries (webs_by_number (take l.function-index l.functions))
