use Rattle.std.proofs.Common.{◌≡◌, ◌-◌, [], ◌∷◌, ◌++◌, ap, ◌∙◌, arith}
use Rattle.std.specs.Prelude.{is_ok}
use Rattle.std.proofs.lemmas.Result.{err_from_is_err_and}
use Rattle.pw_fields.specs.Fields.{repeated}
use Rattle.pw_fields.proofs.FieldLoops.{repeat_goes_on, repeat_ends, repeat_is_done, with_nothing}
use Rattle.pw_flow_ops.specs.Reading.{below_at}
use Rattle.pw_flow_ops.proofs.parts.check_temps.Goals as goal

pub loop-init : goal.loop-init
loop-init c =
    let e : c.args.count - 0 ≡ c.args.count = omega arith in
    ([], with_nothing _ ∙ ap (λ n. repeated (below_at c.args.temps) n c.args.bytes.now) e)

pub loop-preserved : goal.loop-preserved
loop-preserved c = (
  c.loop.invariant.0 ++ c.in_ok-after.field-0-0 ∷ [],
  repeat_goes_on (below_at c.args.temps) c.loop.invariant.0 c.args.count c.loop.counter c.loop.rest.now c.in_ok-after.field-0-0 c.in_ok-after.after.now _ c.loop-test.true c.in_ok-after.ensures.found c.loop.invariant.1,
)

pub returns-in_err-after-clause-fault : goal.returns-in_err-after-clause-fault
returns-in_err-after-clause-fault c =
    let p = err_from_is_err_and c.from_residual.result c.from_residual.ensures.1 in
    rw (p.1, p.2) (repeat_ends (below_at c.args.temps) c.in_err-after.field-0.0 c.loop.invariant.0 c.args.count c.loop.counter c.loop.rest.now _ c.loop-test.true c.in_err-after.ensures.found c.loop.invariant.1)

pub returns-clause-lawful : goal.returns-clause-lawful
returns-clause-lawful c =
    ap is_ok (repeat_is_done (below_at c.args.temps) c.loop.invariant.0 c.args.count c.loop.counter c.loop.rest.now _ c.loop-test.false c.loop.invariant.1)
