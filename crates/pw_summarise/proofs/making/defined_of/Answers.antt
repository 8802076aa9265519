use Rattle.std.proofs.Common.{List, map, refl, sym, subst}
use Rattle.pw_flow.specs.declared.flow.FlowGlobal.{FlowGlobal}
use Rattle.pw_flow.specs.ValidFlow.{AreDistinct}
use Rattle.pw_summarise.specs.Summarises.{global_entry}
use Rattle.pw_summarise.proofs.MakingLaws.{globals_differ}
use Rattle.pw_summarise.proofs.making.defined_of.Goals as goal

pub globals_of-requires : goal.globals_of-requires
globals_of-requires c = subst (λ (gs : List FlowGlobal). AreDistinct (map (λ g. g.0) (map global_entry gs))) (sym c.as_slice.ensures) (globals_differ c.args.flow.now c.requires)

pub returns : goal.returns
returns c = record {
  globals = rw c.as_slice.ensures at c.in_ok-globals.ensures;
  functions = c.in_ok-functions.ensures;
  declared = refl;
}
