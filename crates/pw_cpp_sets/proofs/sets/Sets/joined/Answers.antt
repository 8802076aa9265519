use Rattle.std.proofs.Common.{ap, length, arith}
use Rattle.pw_cpp_sets.proofs.Nodes.{set-within}
use Rattle.pw_cpp_sets.proofs.sets.Sets.joined.Goals as goal

pub names_of-requires-clause-known : goal.names_of-requires-clause-known
names_of-requires-clause-known c =
    omega (arith, set-within c.self.inside.nodes.items c.args.self.now c.args.one c.self.view_is c.requires.one, ap length c.deref.ensures.value)
