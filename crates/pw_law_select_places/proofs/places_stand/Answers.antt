use Rattle.pw_law_select_places.proofs.Memory.{MemoryLaws}
use Rattle.pw_law_select_places.proofs.Places.{has_place, result_stands, web_register_stands, pointer_small}
use Rattle.pw_law_select_places.proofs.places_stand.Goals as goal

pub returns-clause-temporaries : goal.returns-clause-temporaries
returns-clause-temporaries c = λ lines w site m core t served stands less.
    has_place (record {
      read = c.numbers_are_stored.ensures.read;
      byte = c.numbers_are_stored.ensures.byte;
      number = c.numbers_are_stored.ensures.number;
      bounded = c.numbers_are_stored.ensures.bounded;
      bytes = c.numbers_are_stored.ensures.bytes;
      new = c.bytes_stand.ensures.new;
      old = c.bytes_stand.ensures.old;
    }) lines w site m core served stands t less

pub returns-clause-results : goal.returns-clause-results
returns-clause-results c = λ lines w site m core e t n v served stands less h small placed.
    result_stands (record {
      read = c.numbers_are_stored.ensures.read;
      byte = c.numbers_are_stored.ensures.byte;
      number = c.numbers_are_stored.ensures.number;
      bounded = c.numbers_are_stored.ensures.bounded;
      bytes = c.numbers_are_stored.ensures.bytes;
      new = c.bytes_stand.ensures.new;
      old = c.bytes_stand.ensures.old;
    }) lines w site m core served stands e t n v less h small placed

pub returns-clause-webs : goal.returns-clause-webs
returns-clause-webs c = λ lines w site m core e r n v served stands is web h small placed.
    web_register_stands (record {
      read = c.numbers_are_stored.ensures.read;
      byte = c.numbers_are_stored.ensures.byte;
      number = c.numbers_are_stored.ensures.number;
      bounded = c.numbers_are_stored.ensures.bounded;
      bytes = c.numbers_are_stored.ensures.bytes;
      new = c.bytes_stand.ensures.new;
      old = c.bytes_stand.ensures.old;
    }) lines w site m core e r n v served stands is web h small placed

pub returns-clause-pointers : goal.returns-clause-pointers
returns-clause-pointers c = pointer_small
