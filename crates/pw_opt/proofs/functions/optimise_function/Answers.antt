use Rattle.std.proofs.Common.{◌*◌, ◌≤◌, length, sym, subst, inl, inr, true}
use Rattle.std.proofs.lemmas.Bool.{cases_Bool, cases_lt}
use Rattle.pw_flow.specs.declared.flow.FlowFn.{FlowFn}
use Rattle.pw_opt_rules.specs.Constants.{constants}
use Rattle.pw_opt_rules.specs.Copies.{copies}
use Rattle.pw_opt_rules.specs.Optimised.{optimise_limit, IsOptimised, stays, steps}
use Rattle.pw_opt_rows.specs.Outflows.{HasWays}
use Rattle.pw_opt_rewrite.specs.Within.{IsRewrittenWithin}
use Rattle.pw_opt_copies.specs.Originals.{may_copy}
use Rattle.pw_opt.proofs.Sound.{lawful_sound, sound_ways, sound_copies, sound_outline, folded_sound, copied_sound}
use Rattle.pw_opt.proofs.Homes.{places_stay}
use Rattle.pw_opt.proofs.Listing.{is_rewritten}
use Rattle.pw_opt.proofs.functions.optimise_function.Goals as goal

pub returns-then-not-is_small : goal.returns-then-not-is_small
returns-then-not-is_small c =
    let m = c.args.quiet.now.flow.now in
    let f = c.args.f.now in
    subst (IsOptimised m f) (sym c.in_ok-same.ensures) (elim (cases_lt optimise_limit (f.temps * length f.blocks)) [
      | inl large ↦ stays large
      | inr small ↦ absurd (let one = c.is_small.ensures.1 small in let other = c.if-not-is_small.true in cc)
    ])

pub rewrite-requires-clause-ways : goal.rewrite-requires-clause-ways
rewrite-requires-clause-ways c = subst (λ (g : FlowFn). HasWays g.blocks) (sym c.in_ok-same.ensures) (sound_ways c.args.f.now (lawful_sound c.args.f.now c.requires))

pub new-requires : goal.new-requires
new-requires c =
    let folded = c.in_ok-folded.folded in
    let from = subst (λ (g : FlowFn). IsRewrittenWithin constants (λ _ _. true) g folded) c.in_ok-same.ensures c.in_ok-folded.ensures in
    sound_copies folded (folded_sound c.args.f.now folded c.requires from)

pub rewrite-requires-2-clause-ways : goal.rewrite-requires-2-clause-ways
rewrite-requires-2-clause-ways c =
    let folded = c.in_ok-folded.folded in
    let from = subst (λ (g : FlowFn). IsRewrittenWithin constants (λ _ _. true) g folded) c.in_ok-same.ensures c.in_ok-folded.ensures in
    sound_ways folded (folded_sound c.args.f.now folded c.requires from)

pub rewrite-requires-clause-places : goal.rewrite-requires-clause-places
rewrite-requires-clause-places c = c.in_ok-places.ensures

pub rewrite-requires-2-clause-places : goal.rewrite-requires-2-clause-places
rewrite-requires-2-clause-places c = places_stay (λ _ _. true) c.in_ok-same.same c.in_ok-folded.folded c.in_ok-places.places.places.items c.in_ok-places.ensures c.in_ok-folded.ensures

pub remove_dead-requires : goal.remove_dead-requires
remove_dead-requires c =
    let folded = c.in_ok-folded.folded in
    let from = subst (λ (g : FlowFn). IsRewrittenWithin constants (λ _ _. true) g folded) c.in_ok-same.ensures c.in_ok-folded.ensures in
    sound_outline c.in_ok-copied.copied
    (copied_sound c.in_ok-originals.originals folded c.in_ok-copied.copied (folded_sound c.args.f.now folded c.requires from)
    c.in_ok-originals.ensures.temps c.in_ok-originals.ensures.about c.in_ok-copied.ensures)

pub returns : goal.returns
returns c =
    let m = c.args.quiet.now.flow.now in
    let f = c.args.f.now in
    let folded = c.in_ok-folded.folded in
    let copied = c.in_ok-copied.copied in
    let from = subst (λ (g : FlowFn). IsRewrittenWithin constants (λ _ _. true) g folded) c.in_ok-same.ensures c.in_ok-folded.ensures in
    let small : f.temps * length f.blocks ≤ optimise_limit = elim (cases_Bool c.is_small.result) [
      | inl is ↦ c.is_small.ensures.0 is
      | inr none ↦ absurd (let other = c.if-not-is_small.false in cc)
    ] in
    subst (IsOptimised m f) (sym c.in_ok-live.ensures)
    (steps folded copied small (is_rewritten constants (λ _ _. true) f folded from) (is_rewritten copies (may_copy c.in_ok-originals.originals) folded copied c.in_ok-copied.ensures))
