use Rattle.std.proofs.Common.{◌≡◌, take}
use Rattle.pw_webs.specs.Walking.{AreEntries}
use Rattle.pw_webs.proofs.parts.entries.Given as goal

abbrev pub invariant-loop-place : goal.invariant-loop-place
invariant-loop-place l = record { same : l.found.len ≡ l.region.len; entries : AreEntries l.callers l.region (take l.place-index l.members) l.found }
