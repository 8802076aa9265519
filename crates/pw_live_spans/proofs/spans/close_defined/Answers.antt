use Rattle.std.proofs.Common.{◌<◌, ℕ, sym, subst, ◌∙◌, vec_len}
use Rattle.std.specs.Prelude.{Option, IfSome}
use Rattle.pw_live_spans.specs.Walking.{IsOpen}
use Rattle.pw_live_spans.proofs.Steps.{defined_here, defined_none}
use Rattle.pw_live_spans.proofs.spans.close_defined.Goals as goal

pub close_span-requires : goal.close_span-requires
close_span-requires c = subst (λ (o : Option ℕ). IfSome o (λ t. t < vec_len c.args.walk.now.ends)) (sym c.defines.ensures ∙ c.in-Some.is) c.requires.act.defines

pub returns-in_ok-close_span-in-Some-clause-opens : goal.returns-in_ok-close_span-in-Some-clause-opens
returns-in_ok-close_span-in-Some-clause-opens c =
    defined_here c.args.act.now.defines c.in-Some.t (IsOpen c.close_span.new.self) (IsOpen c.args.walk.now) (sym c.defines.ensures ∙ c.in-Some.is) c.in_ok-close_span-in-Some.ensures.opens

pub returns-in-None-clause-opens : goal.returns-in-None-clause-opens
returns-in-None-clause-opens c = defined_none c.args.act.now.defines (IsOpen c.args.walk.now) (sym c.defines.ensures ∙ c.in-None.is)
