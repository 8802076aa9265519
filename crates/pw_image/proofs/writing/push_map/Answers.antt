use Rattle.pw_image.proofs.WritingLemmas.{functions_stand, globals_stand, table_is}
use Rattle.pw_image.proofs.writing.push_map.Goals as goal

pub push_functions-requires : goal.push_functions-requires
push_functions-requires c = record {
  table = table_is _ _ c.requires.count c.requires.table;
  stand = rw c.as_slice.ensures (functions_stand c.args.names.now c.args.image.now c.requires.table);
}

pub push_globals-requires : goal.push_globals-requires
push_globals-requires c = record {
  table = table_is _ _ c.requires.count c.requires.table;
  stand = rw c.as_slice-2.ensures (globals_stand c.args.names.now c.args.image.now c.requires.table);
}
