use Rattle.std.proofs.Common.{◌≡◌, ◌∙◌, ◌++◌, ap, map, arith}
use Rattle.pw_cpp_sets.specs.Sets.{set_at, sets_of, shared}
use Rattle.pw_cpp_sets.proofs.Nodes.{names-all, said, shared-step}
use Rattle.pw_cpp_sets.proofs.sets.names_shared.Goals as goal

pub loop-node-preserved : goal.loop-node-preserved
loop-node-preserved c =
    let nodes = c.args.nodes.now in
    let other = set_at (sets_of nodes) c.args.other in
    let made = c.in-Some.ensures in (
      omega (arith, made.before, c.loop-node.invariant.0),
      ap (λ x. map said x ++ shared (set_at (sets_of nodes) c.in-Some.node.rest) other) c.in_ok-push_wanted.ensures
          ∙ shared-step nodes c.loop-node.number c.in-Some.node made c.loop-node.names.items other c.is_in-wanted.result c.is_in-wanted.ensures
          ∙ c.loop-node.invariant.1,
    )

pub returns : goal.returns
returns c =
    let nodes = c.args.nodes.now in
    let other = set_at (sets_of nodes) c.args.other in
    names-all c.loop-node.names.items (shared (set_at (sets_of nodes) c.loop-node.number) other) (shared (set_at (sets_of nodes) c.args.one) other) c.loop-node.invariant.1
    (ap (λ x. shared x other) c.in_default.ensures)
