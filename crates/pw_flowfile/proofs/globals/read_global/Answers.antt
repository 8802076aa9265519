use Rattle.std.proofs.Common.{◌∷◌, ℕ, List, subst, sym}
use Rattle.std.proofs.lemmas.Result.{err_from_is_err_and, IfOk-weaker}
use Rattle.pw_value.specs.declared.program_names.StartName.TheVariants.{Refused}
use Rattle.pw_flowfile.specs.Reading.{fresh_at, global_body_at, global_at}
use Rattle.pw_flowfile.specs.Marks.{Marks}
use Rattle.pw_flowfile.proofs.MarkLaws.{then_fails, then_found}
use Rattle.pw_flowfile.proofs.globals.read_global.Goals as goal

pub returns-in_err-name-clause-found : goal.returns-in_err-name-clause-found
unfolding global_at
returns-in_err-name-clause-found c = λ seen marks.
    let p = err_from_is_err_and c.from_residual.result c.from_residual.ensures.1 in
    rw (p.1, p.2) (then_fails (fresh_at c.args.names.now seen) (λ name. global_body_at Refused c.args.names.now name) c.args.bytes.now c.in_err-name.field-0.0 (c.in_err-name.ensures.found seen marks))

pub returns-clause-found : goal.returns-clause-found
unfolding global_at
returns-clause-found c = λ seen marks.
    rw (then_found (fresh_at c.args.names.now seen) (λ name. global_body_at Refused c.args.names.now name) c.args.bytes.now c.in_ok-name.name.now c.in_ok-name.rest.now (c.in_ok-name.ensures.found seen marks)) c.read_global_body.ensures.found

pub returns-clause-marked : goal.returns-clause-marked
returns-clause-marked c =
    IfOk-weaker c.read_global_body.result _ _ (λ x h seen rising marks. subst (λ (name : List ℕ). Marks c.args.names.now (name ∷ seen) c.read_fresh.new.met) (sym h) (c.in_ok-name.ensures.marked seen rising marks)) c.read_global_body.ensures.named
