use Rattle.std.proofs.Common.{arith}
use Rattle.pw_pages.proofs.InWords.{with_byte_is}
use Rattle.pw_pages.proofs.parts.with_byte_in.Goals as goal

pub overflow_add-result : goal.overflow_add-result
overflow_add-result c = omega (arith, (with_byte_is c.args.word c.args.place c.args.value c.ranges.word.fits c.requires).fits)

pub returns : goal.returns
returns c = (with_byte_is c.args.word c.args.place c.args.value c.ranges.word.fits c.requires).bytes
