use Rattle.std.proofs.Common.{◌≡◌, map, take}
use Rattle.std.specs.List.{sum_by}
use Rattle.pw_link.specs.Layout.{standing_from}
use Rattle.pw_flow.specs.ValidFlow.{global_room}
use Rattle.pw_link.specs.Views.{standing_view}
use Rattle.pw_link.proofs.data.at_offsets.Given as goal

abbrev pub invariant-loop-global : goal.invariant-loop-global
invariant-loop-global l = (l.offset ≡ sum_by global_room (map (λ g. g.now) (take l.global-index l.globals)))
    × (map standing_view l.stood.items ≡ standing_from 0 (map (λ g. g.now) (take l.global-index l.globals)))
