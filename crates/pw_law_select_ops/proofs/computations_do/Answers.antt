use Rattle.pw_law_select_ops.proofs.Computing.{computations_follow}
use Rattle.pw_law_select_ops.proofs.computations_do.Goals as goal

pub returns : goal.returns
returns c = computations_follow (record {
  words = record {
    quotient = c.results_are_words.ensures.quotient;
    remainder = c.results_are_words.ensures.remainder;
    shift = c.results_are_words.ensures.shift;
  };
  lines = c.straight_words_run.ensures.lines;
  none = c.results_are_placed.ensures.none;
  one = c.results_are_placed.ensures.one;
  two = c.results_are_placed.ensures.two;
  unary = c.rows_compute.ensures.unary;
  extension = c.rows_compute.ensures.extension;
  binary = c.rows_compute.ensures.binary;
  copy = c.registers_get_words.ensures.copy;
  constant = c.registers_get_words.ensures.constant;
  address = c.registers_get_words.ensures.address;
  frame = c.registers_get_words.ensures.frame;
  temporaries = c.places_stand.ensures.temporaries;
  results = c.places_stand.ensures.results;
  webs = c.places_stand.ensures.webs;
  pointers = c.places_stand.ensures.pointers;
  objects = c.objects_stand.ensures;
  straight = c.rows_pass.ensures.straight;
  compose = c.rows_pass.ensures.compose;
})
