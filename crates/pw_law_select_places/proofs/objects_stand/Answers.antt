use Rattle.pw_law_select_places.proofs.Memory.{MemoryLaws}
use Rattle.pw_law_select_places.proofs.Objects.{written_stands}
use Rattle.pw_law_select_places.proofs.objects_stand.Goals as goal

pub returns : goal.returns
returns c = written_stands (record {
  read = c.numbers_are_stored.ensures.read;
  byte = c.numbers_are_stored.ensures.byte;
  number = c.numbers_are_stored.ensures.number;
  bounded = c.numbers_are_stored.ensures.bounded;
  bytes = c.numbers_are_stored.ensures.bytes;
  new = c.bytes_stand.ensures.new;
  old = c.bytes_stand.ensures.old;
})
