use Rattle.std.proofs.Common.{◌≡◌, take}
use Rattle.pw_db.proofs.choosing.copy_webs.Given as goal

abbrev pub invariant-loop-web : goal.invariant-loop-web
invariant-loop-web l = l.copies ≡ take l.web-index l.webs
