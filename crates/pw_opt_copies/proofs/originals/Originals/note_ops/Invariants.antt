use Rattle.std.proofs.Common.{◌≡◌, All, length, take, true}
use Rattle.pw_opt_copies.specs.Originals.{is_noted}
use Rattle.pw_opt_copies.proofs.Noting.{Keeps}
use Rattle.pw_opt_copies.proofs.originals.Originals.note_ops.Given as goal

abbrev pub invariant-loop-op : goal.invariant-loop-op
invariant-loop-op l = record {
  long : length l.self ≡ length l.fn.self;
  keeps : Keeps l.fn.self l.self;
  noted : All (λ o. is_noted l.self o ≡ true) (take l.op-index l.ops);
}
