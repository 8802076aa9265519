use Rattle.std.proofs.Common.{◌≡◌, ◌++◌, length}
use Rattle.std.specs.List.{AllByRecursion}
use Rattle.pw_flow.specs.ValidFlow.{IsFunction}
use Rattle.pw_db.specs.Database.{IsDirectives}
use Rattle.pw_debug.specs.Knowing.{IsFrame}
use Rattle.pw_debug_frames.specs.Frames.{frames_in}
use Rattle.pw_debug_frames.proofs.knowing.add_known.Given as goal

-- what is known of the functions that are left goes behind the rest
abbrev pub invariant-loop-rest : goal.invariant-loop-rest
invariant-loop-rest l = record {
  functions : AllByRecursion IsFunction l.rest;
  directives : AllByRecursion (λ d. IsDirectives d.1) l.directives;
  lawful : AllByRecursion IsFrame l.frames;
  value : l.frames ++ frames_in l.rest l.directives ≡ l.fn.frames ++ frames_in l.functions l.fn.directives;
}

abbrev pub decreases-loop-rest : goal.decreases-loop-rest
decreases-loop-rest l = length l.rest
