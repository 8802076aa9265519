use Rattle.std.proofs.Common.{arith}
use Rattle.pw_types.proofs.MeasureLemmas.{Measured-take_more, object_type-at}
use Rattle.pw_types.proofs.contents.measured.Goals as goal

pub loop-member-preserved : goal.loop-member-preserved
loop-member-preserved c = (
  Measured-take_more
      c.args.types.now c.args.members.now c.loop-member.member-index c.member-item.result c.member_layout-layout.result
      c.loop-member.offsets.items c.push.new.self.items c.loop-member.end c.loop-member.largest c.loop-member.align
      c.round_up-offset.result c.from.result c.max-largest.result c.max-align.result c.clip.result
      c.loop-member-test.true c.member-item.is c.member_layout-layout.ensures.value c.loop-member.invariant.0
      c.round_up-offset.ensures.value c.clip.ensures c.in_ok-push.ensures.items c.from.ensures
      c.max-largest.ensures c.max-align.ensures,
  omega (arith, c.loop-member.invariant.1, c.round_up-offset.ensures.near),
)

pub member_layout-layout-requires : goal.member_layout-layout-requires
member_layout-layout-requires c =
    object_type-at c.args.types.now c.args.members.now c.loop-member.member-index c.member-item.result c.loop-member-test.true c.member-item.is c.requires
