use Rattle.std.proofs.Common.{◌≡◌, ◌∙◌, false, sym, arith}
use Rattle.std.specs.Prelude.{bytes_eq}
use Rattle.pw_cpp_sets.proofs.Nodes.{found-later}
use Rattle.pw_cpp_sets.proofs.sets.is_in.Goals as goal

pub loop-node-preserved : goal.loop-node-preserved
loop-node-preserved c =
    let made = c.in-Some.ensures in
    let differs : bytes_eq c.args.name.now c.in-Some.node.name.now ≡ false = cc in (
      omega (arith, made.before, c.loop-node.invariant.0),
      sym (found-later c.args.nodes.now c.loop-node.number c.in-Some.node made c.args.name.now differs) ∙ c.loop-node.invariant.1,
    )
