use Rattle.std.proofs.Common.{◌∙◌, ℕ, sym, subst}
use Rattle.pw_alloc_taken.specs.Makers.{AreBelow}
use Rattle.pw_alloc_taken.proofs.Defining.{definitions_none, definitions_all}
use Rattle.pw_alloc_taken.proofs.facts.definitions.Goals as goal

pub loop-p-init : goal.loop-p-init
loop-p-init c = record { count = c.in_ok-rows.ensures.count; each = definitions_none c.args.makers.now c.in_ok-rows.rows.items c.in_ok-rows.ensures.none }

pub put_point-requires : goal.put_point-requires
put_point-requires c = record {
  point = c.loop-p-test.true;
  makers = subst (λ (n : ℕ). AreBelow n c.args.makers.now) (sym c.loop-p.invariant.count) c.requires;
  before = c.loop-p.invariant.each;
}

pub loop-p-preserved : goal.loop-p-preserved
loop-p-preserved c = record { count = c.put_point.ensures.count ∙ c.loop-p.invariant.count; each = c.in_ok-put_point.ensures.after }

pub returns-clause-each : goal.returns-clause-each
returns-clause-each c = definitions_all c.args.makers.now c.loop-p.rows.items c.loop-p.p c.loop-p-test.false c.loop-p.invariant.each
