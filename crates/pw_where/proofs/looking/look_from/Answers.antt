use Rattle.std.proofs.Common.{List, Bool, ℕ, sym, subst}
use Rattle.std.specs.Prelude.{IfSome, OnErr}
use Rattle.pw_where.specs.declared.looking.Look.{Look}
use Rattle.pw_where.specs.Calls.{Tells}
use Rattle.pw_where.specs.Looks.{LooksAs, LeavesUnlooked}
use Rattle.pw_where.proofs.Reaching.{ends_at, looks_at, memory_at, on_err}
use Rattle.pw_where.proofs.Lists.{some_map}
use Rattle.pw_where.proofs.looking.look_from.Goals as goal

pub returns-in_err-told-in-AtCall-clause-memory : goal.returns-in_err-told-in-AtCall-clause-memory
returns-in_err-told-in-AtCall-clause-memory g c = λ image is_plan is_loaded.
    let o = g.I.Source.rest c.args.input.now in
    let rest = g.I.Source.rest c.run_to_call.new.input in
    let unlooked : List ℕ → Type 0 = λ input. LeavesUnlooked image c.args.objects.now c.args.call c.args.budget input rest in
    some_map unlooked (λ input. OnErr c.from_residual.result (unlooked input)) o (λ input h. on_err (unlooked input) c.from_residual.result h)
    (memory_at image c.args.objects.now c.args.call c.args.budget c.args.plan.now c.args.machine.now c.run_to_call.new.machine.core o rest is_plan is_loaded
    (λ entries tells. c.in-AtCall.ensures.reaches entries (subst (λ (t : List Bool). Tells t entries) (sym c.deref.ensures.value) tells)))

pub returns-in_ok-told-in-AtCall-clause-look : goal.returns-in_ok-told-in-AtCall-clause-look
returns-in_ok-told-in-AtCall-clause-look g c = λ image is_plan is_loaded.
    let o = g.I.Source.rest c.args.input.now in
    let rest = g.I.Source.rest c.run_to_call.new.input in
    let told = c.in_ok-told-in-AtCall.told in
    subst (λ (l : Look). IfSome o (λ input. LooksAs image c.args.objects.now c.args.frames.now c.args.call c.args.budget input l rest)) (sym c.look_of.ensures)
    (looks_at image c.args.objects.now c.args.call c.args.budget c.args.plan.now c.args.machine.now c.run_to_call.new.machine.core o rest is_plan is_loaded c.args.frames.now told
    (λ entries tells. c.in-AtCall.ensures.reaches entries (subst (λ (t : List Bool). Tells t entries) (sym c.deref.ensures.value) tells))
    (c.in_ok-told-in-AtCall.ensures image is_plan))

pub returns-in-StoppedBefore-clause-look : goal.returns-in-StoppedBefore-clause-look
returns-in-StoppedBefore-clause-look g c = λ image is_plan is_loaded.
    ends_at image c.args.objects.now c.args.call c.args.budget c.args.plan.now c.args.machine.now c.run_to_call.new.machine.core (g.I.Source.rest c.args.input.now) (g.I.Source.rest c.run_to_call.new.input) is_plan is_loaded c.in-StoppedBefore.stop
    (λ entries tells. c.in-StoppedBefore.ensures.reaches entries (subst (λ (t : List Bool). Tells t entries) (sym c.deref.ensures.value) tells))
