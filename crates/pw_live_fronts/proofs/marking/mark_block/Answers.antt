use Rattle.std.proofs.Common.{◌≡◌, ◌⊎◌, ◌<◌, ◌≤◌, ◌∙◌, ℕ, List, All, get_or, length, refl, subst, sym, take, vec_len}
use Rattle.std.specs.Prelude.{◌↔◌}
use Rattle.std.proofs.lemmas.List.Elements.{All-from_recursion}
use Rattle.pw_fix.specs.Table.{HoldsAt}
use Rattle.pw_flow.specs.Outline.{Act}
use Rattle.pw_live_fronts.specs.Exposing.{IsRead}
use Rattle.pw_live_fronts.proofs.MarkSteps.{nothing_used, nothing_defined, uses_step, defines_step, defined_so_far, uses_end, defines_end}
use Rattle.pw_live_fronts.proofs.marking.mark_block.Goals as goal

pub loop-act-init : goal.loop-act-init
loop-act-init c = record {
  uses_count = refl;
  uses_len = refl;
  defines_count = refl;
  defines_len = refl;
  used = nothing_used c.args.exposed.now c.args.node (HoldsAt c.args.uses.now);
  defined = nothing_defined c.args.exposed.now c.args.node (HoldsAt c.args.defines.now);
}

pub loop-act-preserved : goal.loop-act-preserved
loop-act-preserved c =
    let e = c.args.exposed.now in
    let acts = c.args.block.now.acts in
    let k = c.loop-act.act-index in
    let a = c.act-item.result in
    let node = c.args.node in
    let lt : k < length acts = subst (λ (xs : List Act). k < length xs) c.acts-act-items.ensures c.loop-act-test.true in
    let is : get_or acts k a ≡ a = sym (subst (λ (xs : List Act). a ≡ get_or xs k a) c.acts-act-items.ensures c.act-item.is) in
    record {
      uses_count = c.mark_act.ensures.uses_count ∙ c.loop-act.invariant.uses_count;
      uses_len = c.mark_act.ensures.uses_len ∙ c.loop-act.invariant.uses_len;
      defines_count = c.mark_act.ensures.defines_count ∙ c.loop-act.invariant.defines_count;
      defines_len = c.mark_act.ensures.defines_len ∙ c.loop-act.invariant.defines_len;
      used = uses_step e acts k node a (HoldsAt c.mark_act.new.uses) (HoldsAt c.loop-act.uses) (HoldsAt c.args.uses.now) (HoldsAt c.loop-act.defines node) lt is
          c.mark_act.ensures.used c.loop-act.invariant.used
          (defined_so_far e (take k acts) node (HoldsAt c.loop-act.defines) (HoldsAt c.args.defines.now) c.loop-act.invariant.defined c.requires.empty);
      defined = defines_step e acts k node a (HoldsAt c.mark_act.new.defines) (HoldsAt c.loop-act.defines) (HoldsAt c.args.defines.now) lt is
          c.mark_act.ensures.defined c.loop-act.invariant.defined;
    }

pub mark_uses-requires-clause-temps : goal.mark_uses-requires-clause-temps
mark_uses-requires-clause-temps c =
    let n = vec_len c.args.exposed.now.numbers in
    subst (λ (ts : List ℕ). All (λ t. t < n) ts) (sym c.uses.ensures) (All-from_recursion (λ t. t < n) c.args.block.now.uses c.requires.block.uses)

pub returns-clause-used : goal.returns-clause-used
returns-clause-used c =
    let e = c.args.exposed.now in
    let s = c.args.block.now in
    let k = c.loop-act.act-index in
    let node = c.args.node in
    let le : length s.acts ≤ k = subst (λ (xs : List Act). length xs ≤ k) c.acts-act-items.ensures c.loop-act-test.false in
    let now = subst (λ (ts : List ℕ). (m i : ℕ) → HoldsAt c.mark_uses.new.uses m i ↔ (HoldsAt c.loop-act.uses m i ⊎ ((m ≡ node) × IsRead e ts i × ¬ HoldsAt c.loop-act.defines node i))) c.uses.ensures c.mark_uses.ensures.holds in
    uses_end e s k node (HoldsAt c.mark_uses.new.uses) (HoldsAt c.loop-act.uses) (HoldsAt c.args.uses.now) (HoldsAt c.loop-act.defines node) le now c.loop-act.invariant.used
    (defined_so_far e (take k s.acts) node (HoldsAt c.loop-act.defines) (HoldsAt c.args.defines.now) c.loop-act.invariant.defined c.requires.empty)

pub returns-clause-defined : goal.returns-clause-defined
returns-clause-defined c =
    let s = c.args.block.now in
    let k = c.loop-act.act-index in
    let le : length s.acts ≤ k = subst (λ (xs : List Act). length xs ≤ k) c.acts-act-items.ensures c.loop-act-test.false in
    defines_end c.args.exposed.now s k c.args.node (HoldsAt c.loop-act.defines) (HoldsAt c.args.defines.now) le c.loop-act.invariant.defined
