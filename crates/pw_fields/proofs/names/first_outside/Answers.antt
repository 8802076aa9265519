use Rattle.std.proofs.Common.{◌-◌, length, arith, ◌∙◌, ap}
use Rattle.pw_fields.proofs.NameTables.{further, outside, part_of_table, found_among}
use Rattle.pw_fields.proofs.names.first_outside.Goals as goal

pub overflow_add-left-in-loop-i : goal.overflow_add-left-in-loop-i
overflow_add-left-in-loop-i c =
    omega (
      arith,
      ap length c.as_bytes.ensures.bytes,
      c.requires.room,
      part_of_table c.args.names.now (c.loop-i.i - 1),
      further c.args.names.now c.args.behind c.loop-i.i c.loop-i.left c.index-names-i.result c.loop-i-test.true c.loop-i.invariant.within c.index-names-i.is c.loop-i.invariant.left,
    )

pub loop-i-preserved-then-is_none : goal.loop-i-preserved-then-is_none
loop-i-preserved-then-is_none c = record {
  within = omega arith;
  left = rw c.as_bytes.ensures.bytes (further c.args.names.now c.args.behind c.loop-i.i c.loop-i.left c.index-names-i.result c.loop-i-test.true c.loop-i.invariant.within c.index-names-i.is c.loop-i.invariant.left);
  found = rw c.as_bytes.ensures.bytes (outside c.args.names.now c.args.wanted.now c.args.behind c.loop-i.i c.loop-i.left c.index-names-i.result c.loop-i.found _ c.loop-i-test.true c.loop-i.invariant.within c.index-names-i.is c.loop-i.invariant.left c.loop-i.invariant.found
      (found_among c.args.wanted.now c.index-names-i.result c.find_name.result c.find_name.ensures.found c.find_name.ensures.none ∙ c.if-is_none.ensures));
}

pub loop-i-preserved : goal.loop-i-preserved
loop-i-preserved c = record {
  within = omega arith;
  left = rw c.as_bytes.ensures.bytes (further c.args.names.now c.args.behind c.loop-i.i c.loop-i.left c.index-names-i.result c.loop-i-test.true c.loop-i.invariant.within c.index-names-i.is c.loop-i.invariant.left);
  found = outside c.args.names.now c.args.wanted.now c.args.behind c.loop-i.i c.loop-i.left c.index-names-i.result c.loop-i.found _ c.loop-i-test.true c.loop-i.invariant.within c.index-names-i.is c.loop-i.invariant.left c.loop-i.invariant.found
      (found_among c.args.wanted.now c.index-names-i.result c.find_name.result c.find_name.ensures.found c.find_name.ensures.none ∙ c.if-is_none.ensures);
}
