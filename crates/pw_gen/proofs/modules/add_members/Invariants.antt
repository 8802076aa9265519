use Rattle.std.proofs.Common.{◌≡◌, ◌++◌, ◌*◌}
use Rattle.pw_gen.specs.Generator.{after, members}
use Rattle.pw_gen.proofs.modules.add_members.Given as goal

abbrev pub invariant-loop-j : goal.invariant-loop-j
invariant-loop-j l = record {
  added : l.out.items ≡ l.fn.out.items ++ members l.count l.k l.j l.fn.state;
  drawn : l.state ≡ after (3 * l.j) l.fn.state;
}
