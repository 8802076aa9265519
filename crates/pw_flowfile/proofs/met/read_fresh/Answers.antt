use Rattle.std.proofs.Common.{ℕ, List, ap, ◌∙◌, Ok, Result}
use Rattle.std.proofs.lemmas.Result.{err_from_is_err_and}
use Rattle.pw_flowfile.proofs.MarkLaws.{fresh_fails, fresh_met, fresh_new, marked, same_at}
use Rattle.pw_flowfile.proofs.met.read_fresh.Goals as goal

pub returns-in_err-number-clause-found : goal.returns-in_err-number-clause-found
returns-in_err-number-clause-found c = λ seen marks.
    let p = err_from_is_err_and c.from_residual.result c.from_residual.ensures.1 in
    rw (p.1, p.2) (fresh_fails c.args.names.now seen c.args.bytes.now c.in_err-number.field-0.0 c.in_err-number.ensures.found)

pub returns-then-met-index-clause-found : goal.returns-then-met-index-clause-found
returns-then-met-index-clause-found c = λ seen marks.
    fresh_met c.args.names.now seen c.args.met.now c.args.bytes.now c.in_ok-number.number c.in_ok-number.rest.now marks c.in_ok-number.ensures.below c.if-met-index.true c.in_ok-number.ensures.found

pub returns-clause-found : goal.returns-clause-found
returns-clause-found c = λ seen marks.
    let at = same_at c.args.names.now c.in_ok-number.number c.index-names-index.result c.in_ok-number.ensures.below c.index-names-index.is in
    let found : List ℕ → Result (List ℕ × List ℕ) ℕ = λ n. Ok (n, c.in_ok-number.rest.now) in
    fresh_new c.args.names.now seen c.args.met.now c.args.bytes.now c.in_ok-number.number c.in_ok-number.rest.now marks c.in_ok-number.ensures.below c.if-met-index.false c.in_ok-number.ensures.found ∙ ap found at

pub returns-clause-marked : goal.returns-clause-marked
returns-clause-marked c = λ seen rising marks.
    marked c.args.names.now seen c.args.met.now rising marks c.in_ok-number.number c.in_ok-number.ensures.below c.index-names-index.result c.index-names-index.is
