use Rattle.std.proofs.Common.{◌≡◌, map, take}
use Rattle.pw_opt_rules.specs.Copies.{original}
use Rattle.pw_opt_rows.specs.Seeing.{seen_by}
use Rattle.pw_opt_rewrite.proofs.operands.originals.Given as goal

abbrev pub invariant-loop-a : goal.invariant-loop-a
invariant-loop-a l = l.new ≡ map (original (seen_by l.view l.row)) (take l.a-index l.args)
