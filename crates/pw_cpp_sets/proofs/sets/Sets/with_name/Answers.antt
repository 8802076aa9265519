use Rattle.std.proofs.Common.{◌∙◌}
use Rattle.pw_cpp_sets.specs.declared.sets.Node.{Node}
use Rattle.pw_cpp_sets.proofs.Nodes.{behind-with, keeps-with, number-with}
use Rattle.pw_cpp_sets.proofs.sets.Sets.with_name.Goals as goal

pub invariant_of-self-2 : goal.invariant_of-self-2
invariant_of-self-2 c =
    let node : Node = record { name = c.args.name; rest = c.args.set } in
    behind-with c.self.inside.nodes.items c.push.new.self.items c.args.self.now node c.self.view_is c.in_ok-push.ensures.items c.self.invariant c.requires

pub returns : goal.returns
returns c =
    let node : Node = record { name = c.args.name; rest = c.args.set } in
    record {
      keeps = keeps-with c.self.inside.nodes.items c.push.new.self.items c.args.self.now node c.self.view_is c.in_ok-push.ensures.items;
      number =
          number-with c.self.inside.nodes.items c.push.new.self.items c.args.self.now node c.self.view_is c.in_ok-push.ensures.items c.len.result
          (c.len.ensures ∙ c.push.new.self.ok.0);
    }
