use Rattle.pw_law_select_ops.proofs.Accessing.{web_loads_follow, web_stores_follow}
use Rattle.pw_law_select_ops.proofs.webs_do.Goals as goal

pub returns-clause-loaded : goal.returns-clause-loaded
returns-clause-loaded c = web_loads_follow c.actions_go_by_registers.ensures.targets (record {
  words = record {
    quotient = c.results_are_words.ensures.quotient;
    remainder = c.results_are_words.ensures.remainder;
    shift = c.results_are_words.ensures.shift;
  };
  lines = c.straight_words_run.ensures.lines;
  none = c.results_are_placed.ensures.none;
  one = c.results_are_placed.ensures.one;
  two = c.results_are_placed.ensures.two;
  unary = c.rows_compute.ensures.unary;
  extension = c.rows_compute.ensures.extension;
  binary = c.rows_compute.ensures.binary;
  copy = c.registers_get_words.ensures.copy;
  constant = c.registers_get_words.ensures.constant;
  address = c.registers_get_words.ensures.address;
  frame = c.registers_get_words.ensures.frame;
  temporaries = c.places_stand.ensures.temporaries;
  results = c.places_stand.ensures.results;
  webs = c.places_stand.ensures.webs;
  pointers = c.places_stand.ensures.pointers;
  objects = c.objects_stand.ensures;
  straight = c.rows_pass.ensures.straight;
  compose = c.rows_pass.ensures.compose;
}) (record {
  byte = c.numbers_are_stored.ensures.byte;
  bounded = c.numbers_are_stored.ensures.bounded;
  bytes = c.numbers_are_stored.ensures.bytes;
  stored = c.scalars_stand.ensures.stored;
  loaded = c.scalars_stand.ensures.loaded;
  part = c.bytes_stand.ensures.part;
  load = c.scalars_move.ensures.loaded;
  store = c.scalars_move.ensures.stored;
  read = c.scalars_move.ensures.read;
  write = c.scalars_move.ensures.written;
  one = c.scalars_move.ensures.one;
  two = c.scalars_move.ensures.two;
})

pub returns-clause-stored : goal.returns-clause-stored
returns-clause-stored c = web_stores_follow c.actions_go_by_registers.ensures.targets (record {
  words = record {
    quotient = c.results_are_words.ensures.quotient;
    remainder = c.results_are_words.ensures.remainder;
    shift = c.results_are_words.ensures.shift;
  };
  lines = c.straight_words_run.ensures.lines;
  none = c.results_are_placed.ensures.none;
  one = c.results_are_placed.ensures.one;
  two = c.results_are_placed.ensures.two;
  unary = c.rows_compute.ensures.unary;
  extension = c.rows_compute.ensures.extension;
  binary = c.rows_compute.ensures.binary;
  copy = c.registers_get_words.ensures.copy;
  constant = c.registers_get_words.ensures.constant;
  address = c.registers_get_words.ensures.address;
  frame = c.registers_get_words.ensures.frame;
  temporaries = c.places_stand.ensures.temporaries;
  results = c.places_stand.ensures.results;
  webs = c.places_stand.ensures.webs;
  pointers = c.places_stand.ensures.pointers;
  objects = c.objects_stand.ensures;
  straight = c.rows_pass.ensures.straight;
  compose = c.rows_pass.ensures.compose;
}) (record {
  byte = c.numbers_are_stored.ensures.byte;
  bounded = c.numbers_are_stored.ensures.bounded;
  bytes = c.numbers_are_stored.ensures.bytes;
  stored = c.scalars_stand.ensures.stored;
  loaded = c.scalars_stand.ensures.loaded;
  part = c.bytes_stand.ensures.part;
  load = c.scalars_move.ensures.loaded;
  store = c.scalars_move.ensures.stored;
  read = c.scalars_move.ensures.read;
  write = c.scalars_move.ensures.written;
  one = c.scalars_move.ensures.one;
  two = c.scalars_move.ensures.two;
})
