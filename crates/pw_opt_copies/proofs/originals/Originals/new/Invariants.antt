use Rattle.std.proofs.Common.{◌≡◌, All, length, take}
use Rattle.pw_opt_rows.specs.Outflows.{AreAbout}
use Rattle.pw_opt_copies.specs.Originals.{is_noted}
use Rattle.pw_opt_copies.proofs.originals.Originals.new.Given as goal

abbrev pub invariant-loop-block : goal.invariant-loop-block
invariant-loop-block l = record {
  long : length l.originals ≡ l.f.temps;
  about : All (AreAbout (is_noted l.originals)) (take l.block-index l.f.blocks);
}
