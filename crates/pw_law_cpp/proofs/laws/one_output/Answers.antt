use Rattle.pw_cpp_sources.specs.Sources.{digits_of, source_of, spans_of}
use Rattle.pw_law_cpp.proofs.OneAnswer.{one-answer}
use Rattle.pw_law_cpp.proofs.laws.one_output.Goals as goal

pub returns : goal.returns
returns c = λ files name answer other h k.
    one-answer
    (record {
      head = c.one_head.ensures;
      lexes = c.one_line.ensures;
      space = c.one_end.ensures.space;
      rest = c.one_end.ensures.rest;
      line = c.one_end.ensures.line;
      reading = c.one_reading.ensures;
      outcome = c.one_outcome.ensures;
      effect = c.one_effect.ensures;
    })
    (source_of files) (spans_of files) digits_of name answer other h k
