use Rattle.std.proofs.Common.{◌<◌, length, true, false, sym, subst, ◌∙◌, inl, inr}
use Rattle.std.specs.Prelude.{Contains}
use Rattle.std.proofs.Math.Logic.{∥∥₁_map}
use Rattle.std.proofs.Math.ListN.{length-set}
use Rattle.std.proofs.lemmas.Bool.{cases_eq}
use Rattle.pw_fix.proofs.Places.{set_cases, slice_get-set_other, Contains-cons_cases, Contains-cons, Contains-head}
use Rattle.pw_fix.proofs.worklist.Worklist.pop.Goals as goal
use Rattle.pw_fix.proofs.worklist.Worklist.pop.Goals.{In_ok-node}

-- the node that is taken is a node of the graph
here : (c : In_ok-node) → c.in_ok-node.node < length c.args.self.now.waits.items
here c = c.args.self.now.within c.in_ok-node.node (subst (λ ys. Contains ys c.in_ok-node.node) (sym c.in_ok-node.ensures.items) (Contains-head c.in_ok-node.node c.pop_front.new.self.items))

pub index_mut-requires : goal.index_mut-requires
index_mut-requires c = rw c.args.self.now.waits.ok.0 (here (goal.at.index_mut-requires c).In_ok-node)

pub invariant_of-self-2 : goal.invariant_of-self-2
invariant_of-self-2 c =
    let old = c.args.self.now in
    let node = c.in_ok-node.node in
    let rest = c.pop_front.new.self.items in
    let e = c.in_ok-node.ensures.items in
    record {
      within = λ n h. rw (length-set old.waits.items node false) (old.within n (subst (λ ys. Contains ys n) (sym e) (Contains-cons node rest n h)));
      marked = λ n h. elim (set_cases old.waits.items node n false true h) [
        | inl k ↦ cc
        | inr k ↦ ∥∥₁_map (old.marked n k.1) (λ was. elim (Contains-cons_cases node rest n (subst (λ ys. Contains ys n) e was)) [
          | inl same ↦ absurd (k.0 (sym same))
          | inr still ↦ still
        ])
      ];
    }

pub returns-clause-node : goal.returns-clause-node
returns-clause-node c = rw c.args.self.now.waits.ok.0 (here (goal.at.returns-clause-node c).In_ok-node)

pub returns-clause-kept : goal.returns-clause-kept
returns-clause-kept c = λ n h. elim (cases_eq n c.in_ok-node.node) [
  | inl same ↦ inl same
  | inr other ↦ inr (slice_get-set_other c.args.self.now.waits.items c.in_ok-node.node n false other ∙ h)
]
