use Rattle.std.proofs.Common.{rules, ◌≡◌, ◌<◌, [], ◌∷◌, length, true, sym, subst, ◌∙◌, inl, inr, vec_len}
use Rattle.std.specs.Prelude.{Contains}
use Rattle.std.proofs.Math.Logic.{∥∥₁_map}
use Rattle.std.proofs.Math.ListN.{length-set}
use Rattle.std.proofs.lemmas.Bool.{cases_eq}
use Rattle.std.proofs.lemmas.Grind.{merely}
use Rattle.std.proofs.lemmas.List.Elements.{Contains-push_cases, Contains-push, Contains-append_left}
use Rattle.std.proofs.lemmas.Option.{slice_get_read}
use Rattle.pw_fix.proofs.Places.{set_cases, slice_get-set_same, slice_get-set_other}
use Rattle.pw_fix.proofs.worklist.Worklist.push.Goals as goal

pub invariant_of-self : goal.invariant_of-self
invariant_of-self c =
    let e = c.in_err-push_back.ensures.items in
    record {
      within = λ n h. c.args.self.now.within n (subst (λ ys. Contains ys n) e h);
      marked = λ n h. ∥∥₁_map (c.args.self.now.marked n h) (λ k. subst (λ ys. Contains ys n) (sym e) k);
    }

pub invariant_of-self-then-not-index : goal.invariant_of-self-then-not-index
invariant_of-self-then-not-index c =
    let e = c.in_ok-push_back.ensures.items in
    let old = c.args.self.now in
    let long : vec_len old.waits ≡ length old.waits.items = old.waits.ok.0 in
    let here : c.args.node < length old.waits.items = rw (← long) c.requires in
    record {
      within = λ n h. rw (length-set old.waits.items c.args.node true) (elim (Contains-push_cases old.queue.items c.args.node n (subst (λ ys. Contains ys n) e h)) [
        | inl k ↦ old.within n k
        | inr new ↦ rw (← new) here
      ]);
      marked = λ n h. elim (set_cases old.waits.items c.args.node n true true h) [
        | inl k ↦ merely (subst (λ ys. Contains ys n) (sym e) (rw k.0 (Contains-push old.queue.items c.args.node)))
        | inr k ↦ ∥∥₁_map (old.marked n k.1) (λ was. subst (λ ys. Contains ys n) (sym e) (Contains-append_left old.queue.items (c.args.node ∷ []) n was))
      ];
    }

pub returns-in_ok-push_back-clause-waits : goal.returns-in_ok-push_back-clause-waits
returns-in_ok-push_back-clause-waits c =
    let old = c.args.self.now in
    let long : vec_len old.waits ≡ length old.waits.items = old.waits.ok.0 in
    slice_get-set_same old.waits.items c.args.node true (rw (← long) c.requires)

pub returns-in_ok-push_back-clause-kept : goal.returns-in_ok-push_back-clause-kept
returns-in_ok-push_back-clause-kept c = λ n h.
    let old = c.args.self.now in
    let long : vec_len old.waits ≡ length old.waits.items = old.waits.ok.0 in
    elim (cases_eq n c.args.node) [
      | inl same ↦ rw same (slice_get-set_same old.waits.items c.args.node true (rw (← long) c.requires))
      | inr other ↦ slice_get-set_other old.waits.items c.args.node n true other ∙ h
    ]

pub returns-else-not-index-clause-waits : goal.returns-else-not-index-clause-waits
returns-else-not-index-clause-waits c =
    let w = c.args.self.now.waits in
    slice_get_read w.items (vec_len w) c.args.node true w.ok.0 c.requires (search (rules, c.index.ensures, c.if-not-index.false))
