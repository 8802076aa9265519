use Rattle.std.proofs.Common.{◌≡◌, drop}
use Rattle.std.specs.Prelude.{slice_get}
use Rattle.pw_interp_calls.specs.Functions.{defined_in}
use Rattle.pw_interp_calls.proofs.world.defined_at.Given as goal

abbrev pub invariant-loop-part : goal.invariant-loop-part
invariant-loop-part l = slice_get (defined_in l.parts) l.place ≡ slice_get (defined_in (drop l.part-index l.parts)) l.left
