use Rattle.std.proofs.Common.{map}
use Rattle.pw_store_modules.specs.Views.{source}
use Rattle.pw_store_texts.proofs.PlaceLemmas.{StandBefore}
use Rattle.pw_store_texts.proofs.place.place_of.Given as goal

-- the modules so far stand before the name
abbrev pub invariant-loop-i : goal.invariant-loop-i
invariant-loop-i l = StandBefore (map source l.modules) l.name l.i
