use Rattle.std.proofs.Common.{List, ◌++◌, length}
use Rattle.std.specs.List.{AllByRecursion}
use Rattle.pw_debug.specs.Knowing.{IsFrame}
use Rattle.pw_debug.specs.declared.info.FrameInfo.{FrameInfo}
use Rattle.pw_debug_frames.specs.Frames.{AreFrames, IsMade}
use Rattle.pw_debug_frames.proofs.knowing.frames.Given as goal

abbrev pub invariant-loop-rest : goal.invariant-loop-rest
invariant-loop-rest l = record {
  made : AllByRecursion IsMade l.rest;
  lawful : AllByRecursion IsFrame l.frames;
  value : (behind : List FrameInfo) → AreFrames l.rest behind → AreFrames l.objects (l.frames ++ behind);
}

abbrev pub decreases-loop-rest : goal.decreases-loop-rest
decreases-loop-rest l = length l.rest
