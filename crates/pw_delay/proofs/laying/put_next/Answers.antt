use Rattle.pw_delay.specs.Marks.{begins}
use Rattle.pw_delay.proofs.LayingLaws.{next_length, next_words}
use Rattle.pw_delay.proofs.laying.put_next.Goals as goal

pub returns : goal.returns
returns c = record {
  words = λ rest. next_words c.args.long (begins c.args.blocks.now) c.args.code.now c.put_item.new.code c.args.item.now rest c.in_ok-put_item.ensures;
  count = next_length c.args.long (begins c.args.blocks.now) c.args.code.now c.put_item.new.code c.args.item.now c.in_ok-put_item.ensures;
}
