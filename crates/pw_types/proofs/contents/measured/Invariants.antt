use Rattle.std.proofs.Common.{◌*◌, ◌^◌, ◌≤◌, take}
use Rattle.pw_types.specs.Records.{layouts_of}
use Rattle.pw_types.specs.Views.{view_members}
use Rattle.pw_types.proofs.MeasureLemmas.{Measured}
use Rattle.pw_types.proofs.contents.measured.Given as goal

abbrev pub invariant-loop-member : goal.invariant-loop-member
invariant-loop-member l =
    Measured (layouts_of l.types (view_members (take l.member-index l.members))) l.offsets.items l.end l.largest l.align
    × (l.end ≤ l.member-index * 2 ^ 33)
