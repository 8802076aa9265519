use Rattle.std.proofs.Common.{Bool, sym, subst}
use Rattle.std.specs.Prelude.{IfOk}
use Rattle.pw_build_objects.specs.Preparing.{IsPrepared}
use Rattle.pw_build_objects.proofs.forms.prepare.Goals as goal

pub returns-then-opts-clause-prepared : goal.returns-then-opts-clause-prepared
returns-then-opts-clause-prepared c =
    subst (λ (o : Bool). IfOk c.prepare_optimised.result (IsPrepared c.args.flows.items o c.args.opts.now.colours)) (sym c.if-opts.true) (rw c.deref.ensures.value at c.prepare_optimised.ensures.prepared)

pub returns-else-opts-clause-prepared : goal.returns-else-opts-clause-prepared
returns-else-opts-clause-prepared c =
    subst (λ (o : Bool). IfOk c.prepare_plain.result (IsPrepared c.args.flows.items o c.args.opts.now.colours)) (sym c.if-opts.false) c.prepare_plain.ensures.prepared
