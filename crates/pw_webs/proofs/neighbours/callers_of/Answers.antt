use Rattle.std.proofs.Common.{◌≡◌, ◌⊎◌, ◌+◌, ◌<◌, ◌∙◌, ℕ, List, All, ap, arith, length, refl, subst, sym, vec_len}
use Rattle.std.specs.Prelude.{Some, slice_get, Contains, ◌↔◌}
use Rattle.std.proofs.lemmas.Option.{slice_get_read}
use Rattle.pw_fix.proofs.Places.{all_written}
use Rattle.pw_webs.specs.Walking.{Leads}
use Rattle.pw_webs.proofs.WalkLaws.{row_below}
use Rattle.pw_webs.proofs.Beside.{callers_put, callers_end}
use Rattle.pw_webs.proofs.neighbours.callers_of.Goals as goal

pub add_caller-requires : goal.add_caller-requires
add_caller-requires c =
    let calls = c.args.calls.now in
    let i = c.loop-caller.caller in
    let row = c.index-calls-caller.result in
    let there = slice_get_read calls (length calls) i row refl c.loop-caller-test.true c.index-calls-caller.is in
    let size : length c.deref_mut.result.now ≡ length calls = ap length c.deref_mut.ensures.value ∙ c.loop-caller.invariant.count in
    subst (λ (r : List ℕ). All (λ b. b < length c.deref_mut.result.now) r) (sym c.as_slice.ensures) (row_below calls i (length c.deref_mut.result.now) row c.requires.steps (omega (arith, size)) there)

pub loop-caller-preserved : goal.loop-caller-preserved
loop-caller-preserved c =
    let calls = c.args.calls.now in
    let i = c.loop-caller.caller in
    let rows = c.loop-caller.rows in
    let new = c.add_caller.new.rows in
    let row = c.index-calls-caller.result in
    let there = slice_get_read calls (length calls) i row refl c.loop-caller-test.true c.index-calls-caller.is in
    let read = subst (λ (r : List ℕ). slice_get calls i ≡ Some r) (sym c.as_slice.ensures) there in
    let long : length new ≡ vec_len rows = c.add_caller.auto.rows ∙ c.deref_mut.ensures.len in
    let written = all_written (vec_len rows) new rows.items long (sym rows.ok.0) in
    let after = subst (λ (rs : List (List ℕ)). (a b : ℕ) → Leads new a b ↔ (Leads rs a b ⊎ (Contains c.as_slice.result.now a × (b ≡ i)))) c.deref_mut.ensures.value c.in_ok-add_caller.ensures in
    record {
      count = ap length written ∙ long ∙ rows.ok.0 ∙ c.loop-caller.invariant.count;
      callers = subst (λ (rs : List (List ℕ)). (a b : ℕ) → Leads rs a b ↔ ((b < i + 1) × Leads calls b a)) (sym written) (callers_put calls rows.items new i c.as_slice.result.now read c.loop-caller.invariant.callers after);
    }

pub returns-clause-callers : goal.returns-clause-callers
returns-clause-callers c = callers_end c.args.calls.now c.loop-caller.rows.items c.loop-caller.caller c.loop-caller-test.false c.loop-caller.invariant.callers
