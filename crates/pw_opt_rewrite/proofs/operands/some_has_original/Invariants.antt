use Rattle.std.proofs.Common.{◌≡◌, map, take}
use Rattle.pw_opt_rules.specs.Copies.{original}
use Rattle.pw_opt_rows.specs.Seeing.{seen_by}
use Rattle.pw_opt_rewrite.proofs.operands.some_has_original.Given as goal

abbrev pub invariant-loop-a : goal.invariant-loop-a
invariant-loop-a l = take l.a-index l.args ≡ map (original (seen_by l.view l.row)) (take l.a-index l.args)
