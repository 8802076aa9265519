use Rattle.std.proofs.Common.{Some, Ok, refl, ◌∙◌}
use Rattle.pw_session_script.proofs.ReadingLemmas.{content_start, content_turn, part_start, part_turn, takes_so}
use Rattle.pw_session_script.proofs.reading.content.Goals as goal

pub loop-place-init : goal.loop-place-init
loop-place-init g c = record {
  so_far = content_start c.args.count (g.I.Source.rest c.args.input.now) c.new-bytes.result.items c.new-bytes.ensures.items;
  part = part_start (g.I.Source.rest c.args.input.now);
  count = refl;
}

pub loop-place-preserved : goal.loop-place-preserved
loop-place-preserved g c =
    let takes = takes_so (g.I.Source.rest c.loop-place.input) (g.I.Source.rest c.next.new.self) c.in_ok-byte.field-0 (Some c.in-Some.byte) c.in-Some.is c.in_ok-byte.ensures.rest in
    record {
      so_far = content_turn c.args.count (g.I.Source.rest c.args.input.now) (g.I.Source.rest c.loop-place.input) (g.I.Source.rest c.next.new.self) c.loop-place.bytes.items c.push_byte.new.bytes.items c.loop-place._place c.in-Some.byte
          c.loop-place.invariant.so_far takes c.loop-place-test.true c.in_ok-push_byte.ensures;
      part = part_turn (g.I.Source.rest c.args.input.now) (g.I.Source.rest c.loop-place.input) (g.I.Source.rest c.next.new.self) (Ok c.in_ok-byte.field-0) c.loop-place.invariant.part c.in_ok-byte.ensures.rest;
      count = c.in_ok-byte.ensures.cause ∙ c.loop-place.invariant.count;
    }

pub returns-in_default-clause-part : goal.returns-in_default-clause-part
returns-in_default-clause-part g c =
    part_turn (g.I.Source.rest c.args.input.now) (g.I.Source.rest c.loop-place.input) (g.I.Source.rest c.next.new.self) (Ok c.in_ok-byte.field-0) c.loop-place.invariant.part c.in_ok-byte.ensures.rest

pub returns-in_err-push_byte-clause-part : goal.returns-in_err-push_byte-clause-part
returns-in_err-push_byte-clause-part g c =
    part_turn (g.I.Source.rest c.args.input.now) (g.I.Source.rest c.loop-place.input) (g.I.Source.rest c.next.new.self) (Ok c.in_ok-byte.field-0) c.loop-place.invariant.part c.in_ok-byte.ensures.rest

pub returns-in_default-2-clause-part : goal.returns-in_default-2-clause-part
returns-in_default-2-clause-part g c =
    part_turn (g.I.Source.rest c.args.input.now) (g.I.Source.rest c.loop-place.input) (g.I.Source.rest c.next-2.new.self) (Ok c.in_ok-last.field-0) c.loop-place.invariant.part c.in_ok-last.ensures.rest

pub returns-then-last-eq10-clause-part : goal.returns-then-last-eq10-clause-part
returns-then-last-eq10-clause-part g c =
    part_turn (g.I.Source.rest c.args.input.now) (g.I.Source.rest c.loop-place.input) (g.I.Source.rest c.next-2.new.self) (Ok c.in_ok-last.field-0) c.loop-place.invariant.part c.in_ok-last.ensures.rest

pub returns-else-last-eq10-clause-part : goal.returns-else-last-eq10-clause-part
returns-else-last-eq10-clause-part g c =
    part_turn (g.I.Source.rest c.args.input.now) (g.I.Source.rest c.loop-place.input) (g.I.Source.rest c.next-2.new.self) (Ok c.in_ok-last.field-0) c.loop-place.invariant.part c.in_ok-last.ensures.rest
