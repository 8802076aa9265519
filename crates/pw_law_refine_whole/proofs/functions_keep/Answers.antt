use Rattle.pw_law_refine_whole.proofs.Functions.{functions-keep}
use Rattle.pw_law_refine_whole.proofs.functions_keep.Goals as goal

pub returns : goal.returns
returns c = functions-keep (record {
  more = c.machines_step_on.ensures.steps;
  rise = c.machines_step_on.ensures.events;
  fresh = c.operations_step.ensures.fresh;
  lasts = c.stretches_last.ensures.lasts;
  stands = c.stretches_last.ensures.stands;
  through = c.accesses_keep.ensures.through;
  kept = c.accesses_keep.ensures.kept;
  parameters = c.slots_stand.ensures.parameters;
  contain = c.graphs_contain_the_parts.ensures.statements;
  bodies = c.parts_are_set.ensures.bodies;
  ends = c.functions_end.ensures;
  locals = c.locals_keep.ensures.functions;
})
