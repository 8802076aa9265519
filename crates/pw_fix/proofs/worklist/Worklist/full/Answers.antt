use Rattle.std.proofs.Common.{rules, ◌≡◌, ◌<◌, [], ◌∷◌, length, true, replicate, Some, sym, subst, arith, ap, ◌∙◌, inl, inr}
use Rattle.std.specs.Prelude.{Contains, slice_get}
use Rattle.std.proofs.lemmas.Bool.{cases_lt}
use Rattle.std.proofs.lemmas.Grind.{merely}
use Rattle.std.proofs.lemmas.List.Elements.{Contains-push_cases, Contains-push, Contains-append_left}
use Rattle.std.proofs.lemmas.Option.{slice_get-get_or, slice_get_within}
use Rattle.std.proofs.Math.ListN.{length-replicate, get_or-replicate}
use Rattle.pw_fix.proofs.worklist.Worklist.full.Goals as goal

pub loop-node-preserved : goal.loop-node-preserved
loop-node-preserved c =
    let xs = c.loop-node.queue.items in
    let e = c.in_ok-push_back.ensures.items in
    record {
      below = λ n h. elim (Contains-push_cases xs c.loop-node.node n (subst (λ ys. Contains ys n) e h)) [
        | inl old ↦ let b : n < c.loop-node.node = c.loop-node.invariant.below n old in omega arith
        | inr new ↦ omega arith
      ];
      all = λ n h. subst (λ ys. Contains ys n) (sym e) (elim (cases_lt n c.loop-node.node) [
        | inl old ↦ Contains-append_left xs (c.loop-node.node ∷ []) n (c.loop-node.invariant.all n old)
        | inr new ↦ let same : n ≡ c.loop-node.node = omega arith in rw same (Contains-push xs c.loop-node.node)
      ]);
    }

pub invariant_of-result : goal.invariant_of-result
invariant_of-result c =
    let e : c.in_ok-waits.waits.items ≡ replicate c.args.nodes true = search rules in
    let long : length c.in_ok-waits.waits.items ≡ c.args.nodes = rw e (length-replicate c.args.nodes true) in
    record {
      within = λ n h. let b : n < c.loop-node.node = c.loop-node.invariant.below n h in rw long (omega arith);
      marked = λ n h.
          let b : n < length c.in_ok-waits.waits.items = slice_get_within c.in_ok-waits.waits.items n true h in
          let b' : n < c.args.nodes = rw long at b in
          merely (c.loop-node.invariant.all n (omega arith));
    }

pub returns-clause-all : goal.returns-clause-all
returns-clause-all c = λ n h.
    let e : c.in_ok-waits.waits.items ≡ replicate c.args.nodes true = search rules in
    let long : n < length (replicate c.args.nodes true) = rw (length-replicate c.args.nodes true) h in
    subst (λ xs. slice_get xs n ≡ Some true) (sym e) (slice_get-get_or (replicate c.args.nodes true) n true long ∙ ap Some (get_or-replicate c.args.nodes n true true h))
