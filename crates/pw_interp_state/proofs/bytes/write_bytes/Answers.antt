use Rattle.std.proofs.Common.{◌≤◌, ◌+◌, length, sym, ◌∙◌, arith}
use Rattle.std.proofs.lemmas.List.{set_past}
use Rattle.pw_value.specs.declared.value.Byte.TheVariants.{Undefined}
use Rattle.pw_interp_state.proofs.ObjectLemmas.{with_bytes_step}
use Rattle.pw_interp_state.proofs.bytes.write_bytes.Goals as goal
use Rattle.pw_interp_state.proofs.bytes.write_bytes.Goals.{then-at-bytes, else-at-bytes}

pub loop-i-preserved : goal.loop-i-preserved
loop-i-preserved c = elim c.if-at-bytes.branch [
  | then-at-bytes w ↦ rw w.bytes-is (sym (with_bytes_step c.args.new.now c.loop-i.i c.args.offset c.loop-i.bytes Undefined c.loop-i-test.true) ∙ c.loop-i.invariant)
  | else-at-bytes w ↦
      let past : length c.loop-i.bytes ≤ c.args.offset + c.loop-i.i = omega arith in
      rw w.bytes-is (rw (set_past c.loop-i.bytes (c.args.offset + c.loop-i.i) _ past) at (sym (with_bytes_step c.args.new.now c.loop-i.i c.args.offset c.loop-i.bytes Undefined c.loop-i-test.true)) ∙ c.loop-i.invariant)
]
