use Rattle.pw_law_refine_whole.proofs.Parts.{parts-keep}
use Rattle.pw_law_refine_whole.proofs.all_parts_keep.Goals as goal

pub returns : goal.returns
returns c = parts-keep (record {
  values = c.expressions_rest_on_calls.ensures.values;
  lvalues = c.expressions_rest_on_calls.ensures.lvalues;
  addresses = c.expressions_rest_on_calls.ensures.addresses;
  arguments = c.expressions_rest_on_calls.ensures.arguments;
  conditions = c.expressions_rest_on_calls.ensures.conditions;
  locals = c.locals_keep.ensures.blocks;
  by_value = c.initialisers_keep.ensures.values;
  by_bytes = c.initialisers_keep.ensures.bytes;
  statements = c.statements_keep.ensures;
  functions = c.functions_keep.ensures;
  none = c.calls_keep.ensures.none;
  next = c.calls_keep.ensures.next;
})
