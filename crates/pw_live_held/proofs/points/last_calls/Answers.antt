use Rattle.std.proofs.Common.{◌+◌, ◌∷◌, [], ◌∙◌, ℕ, List, length, ap, arith}
use Rattle.std.specs.Prelude.{Option}
use Rattle.std.proofs.lemmas.List.{length-append}
use Rattle.std.proofs.lemmas.Option.{slice_get-get_or}
use Rattle.pw_live_held.proofs.Calling.{none_yet, lasts_more}
use Rattle.pw_live_held.proofs.points.last_calls.Goals as goal

pub loop-p-init : goal.loop-p-init
loop-p-init c =
    record {
      high = omega arith;
      long = ap (λ (xs : List (Option ℕ)). length xs) c.new-lasts.ensures.items;
      each = none_yet c.args.all.now c.new-lasts.result.items c.new-lasts.ensures.items;
      last = λ q low high _. omega (arith, high);
    }

pub loop-p-preserved : goal.loop-p-preserved
loop-p-preserved c =
    let calls = c.args.all.now in
    let p = c.loop-p.p in
    let here = c.last_call-here.result in
    let long = c.loop-p.invariant.long in
    let now = c.last_call-here.ensures calls (slice_get-get_or calls p _ c.loop-p-test.true) c.loop-p.invariant.last in
    let lt = c.loop-p-test.true in
    record {
      high = omega (arith, lt);
      long = ap (λ (xs : List (Option ℕ)). length xs) c.in_ok-push.ensures.items ∙ length-append c.loop-p.lasts.items (here ∷ []) ∙ ap (λ (n : ℕ). n + 1) long;
      each = lasts_more calls c.loop-p.lasts.items c.push.new.self.items p here long c.in_ok-push.ensures.items now c.loop-p.invariant.each;
      last = now;
    }

pub returns : goal.returns
returns c =
    let past = c.loop-p-test.false in
    let high = c.loop-p.invariant.high in
    let long = c.loop-p.invariant.long in
    record { long = omega (arith, long, past, high); each = c.loop-p.invariant.each }
