use Rattle.std.proofs.Common.{ap, length, arith}
use Rattle.pw_cpp_sets.proofs.Nodes.{set-within}
use Rattle.pw_cpp_sets.proofs.sets.Sets.contains.Goals as goal

pub is_in-requires-clause-known : goal.is_in-requires-clause-known
is_in-requires-clause-known c =
    omega (arith, set-within c.self.inside.nodes.items c.args.self.now c.args.set c.self.view_is c.requires, ap length c.deref.ensures.value)
