use Rattle.std.proofs.Common.{ap, ◌∙◌, sym, subst}
use Rattle.pw_live_fronts.specs.Blocks.{IsOutline}
use Rattle.pw_live_needs.specs.Needs.{need}
use Rattle.pw_summarise.specs.Summarises.{called, in_function}
use Rattle.pw_summarise.proofs.Orders.{table_ordered}
use Rattle.pw_summarise.proofs.uses.uses_of.Goals as goal

pub need-requires : goal.need-requires
need-requires c = subst IsOutline (sym c.in_ok-outline.ensures) (c.outlines_are_lawful.ensures c.args.function.now c.requires)

pub returns : goal.returns
returns c = record {
  calls = table_ordered c.in_ok-function_names.field-0 (in_function called c.args.function.now) c.in_ok-function_names.ensures;
  shapes = c.in_ok-called_shapes.ensures;
  refs = c.in_ok-references.ensures;
  need = c.in_ok-need.ensures ∙ ap need c.in_ok-outline.ensures;
}
