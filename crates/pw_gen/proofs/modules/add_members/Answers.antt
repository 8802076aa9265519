use Rattle.std.proofs.Common.{ℕ, List, ◌++◌, ap, sym, ◌∙◌, append_assoc}
use Rattle.std.proofs.lemmas.List.{append-nil}
use Rattle.pw_gen.specs.Generator.{after, member, members}
use Rattle.pw_gen.proofs.Steps.{no_members, nothing_drawn, one_member_more, three_more}
use Rattle.pw_gen.proofs.modules.add_members.Goals as goal

pub loop-j-init : goal.loop-j-init
loop-j-init c = record {
  added = sym (ap (λ (xs : List ℕ). c.args.out.now.items ++ xs) (no_members c.args.count c.args.k c.args.state.now) ∙ append-nil c.args.out.now.items);
  drawn = nothing_drawn c.args.state.now;
}

pub loop-j-preserved : goal.loop-j-preserved
loop-j-preserved c =
    let j = c.loop-j.j in
    let start = c.args.state.now in
    let out = c.args.out.now.items in
    record {
      added = c.in_ok-add_member.ensures.added ∙ ap (λ (xs : List ℕ). xs ++ member c.args.count c.args.k j c.loop-j.state) c.loop-j.invariant.added
          ∙ append_assoc out (members c.args.count c.args.k j start) (member c.args.count c.args.k j c.loop-j.state)
          ∙ ap (λ (s : ℕ). out ++ (members c.args.count c.args.k j start ++ member c.args.count c.args.k j s)) c.loop-j.invariant.drawn
          ∙ ap (λ (xs : List ℕ). out ++ xs) (sym (one_member_more c.args.count c.args.k j start));
      drawn = c.in_ok-add_member.ensures.state ∙ ap (after 3) c.loop-j.invariant.drawn ∙ three_more j start;
    }
