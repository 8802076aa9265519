use Rattle.std.proofs.Common.{◌∙◌, Some, None, Ok, refl, ap, length, arith, length-append}
use Rattle.pw_session_script.proofs.ReadingLemmas.{head_ends, head_long, head_start, head_turn, head_unended, part_start, part_turn, takes_so, unended_count, unended_short}
use Rattle.pw_session_script.proofs.reading.next_head.Goals as goal

pub loop-place-init : goal.loop-place-init
loop-place-init g c = record {
  so_far = head_start (g.I.Source.rest c.args.input.now) c.new-head.result.items c.new-head.ensures.items;
  size = ap length c.new-head.ensures.items;
  part = part_start (g.I.Source.rest c.args.input.now);
  count = refl;
}

pub loop-place-preserved : goal.loop-place-preserved
loop-place-preserved g c =
    let takes = takes_so (g.I.Source.rest c.loop-place.input) (g.I.Source.rest c.next.new.self) c.in_ok-byte.field-0 (Some c.in-Some.byte) c.in-Some.is c.in_ok-byte.ensures.rest in
    let longer = ap length c.in_ok-push_byte.ensures ∙ length-append c.loop-place.head.items _ in
    record {
      so_far = head_turn (g.I.Source.rest c.args.input.now) (g.I.Source.rest c.loop-place.input) (g.I.Source.rest c.next.new.self) c.loop-place.head.items c.push_byte.new.bytes.items c.loop-place._place c.in-Some.byte
          c.loop-place.invariant.so_far takes c.if-byte-eq10.false c.loop-place-test.true c.in_ok-push_byte.ensures;
      size = omega (arith, longer, c.loop-place.invariant.size);
      part = part_turn (g.I.Source.rest c.args.input.now) (g.I.Source.rest c.loop-place.input) (g.I.Source.rest c.next.new.self) (Ok c.in_ok-byte.field-0) c.loop-place.invariant.part c.in_ok-byte.ensures.rest;
      count = c.in_ok-byte.ensures.cause ∙ c.loop-place.invariant.count;
    }

pub returns-then-byte-eq10-clause-head : goal.returns-then-byte-eq10-clause-head
returns-then-byte-eq10-clause-head g c =
    head_ends (g.I.Source.rest c.args.input.now) (g.I.Source.rest c.loop-place.input) (g.I.Source.rest c.next.new.self) c.loop-place.head.items c.loop-place._place c.loop-place.head c.loop-place.invariant.so_far
    (takes_so (g.I.Source.rest c.loop-place.input) (g.I.Source.rest c.next.new.self) c.in_ok-byte.field-0 (Some 10) (c.in-Some.is ∙ ap Some c.if-byte-eq10.true) c.in_ok-byte.ensures.rest) c.loop-place-test.true refl

pub returns-then-byte-eq10-clause-short : goal.returns-then-byte-eq10-clause-short
returns-then-byte-eq10-clause-short g c = omega (arith, c.loop-place.invariant.size, c.loop-place-test.true)

pub returns-then-byte-eq10-clause-part : goal.returns-then-byte-eq10-clause-part
returns-then-byte-eq10-clause-part g c =
    part_turn (g.I.Source.rest c.args.input.now) (g.I.Source.rest c.loop-place.input) (g.I.Source.rest c.next.new.self) (Ok c.in_ok-byte.field-0) c.loop-place.invariant.part c.in_ok-byte.ensures.rest

pub returns-in_err-push_byte-clause-part : goal.returns-in_err-push_byte-clause-part
returns-in_err-push_byte-clause-part g c =
    part_turn (g.I.Source.rest c.args.input.now) (g.I.Source.rest c.loop-place.input) (g.I.Source.rest c.next.new.self) (Ok c.in_ok-byte.field-0) c.loop-place.invariant.part c.in_ok-byte.ensures.rest

pub returns-in_default-clause-head : goal.returns-in_default-clause-head
returns-in_default-clause-head g c =
    head_unended (g.I.Source.rest c.args.input.now) (g.I.Source.rest c.loop-place.input) (g.I.Source.rest c.next.new.self) c.loop-place.head.items c.loop-place._place (length c.deref.result.now) c.unended.result c.loop-place.invariant.so_far
    (takes_so (g.I.Source.rest c.loop-place.input) (g.I.Source.rest c.next.new.self) c.in_ok-byte.field-0 None c.in_default.is c.in_ok-byte.ensures.rest) c.unended.ensures (ap length c.deref.ensures.value)

pub returns-in_default-clause-short : goal.returns-in_default-clause-short
returns-in_default-clause-short g c = unended_short (length c.deref.result.now) c.unended.result c.unended.ensures

pub returns-in_default-clause-part : goal.returns-in_default-clause-part
returns-in_default-clause-part g c =
    part_turn (g.I.Source.rest c.args.input.now) (g.I.Source.rest c.loop-place.input) (g.I.Source.rest c.next.new.self) (Ok c.in_ok-byte.field-0) c.loop-place.invariant.part c.in_ok-byte.ensures.rest

pub returns-in_default-clause-count : goal.returns-in_default-clause-count
returns-in_default-clause-count g c = unended_count (length c.deref.result.now) _ _ c.unended.result c.unended.ensures (c.in_ok-byte.ensures.cause ∙ c.loop-place.invariant.count)

pub returns-clause-head : goal.returns-clause-head
returns-clause-head g c = head_long (g.I.Source.rest c.args.input.now) (g.I.Source.rest c.loop-place.input) c.loop-place.head.items c.loop-place._place c.loop-place.invariant.so_far (omega arith)
