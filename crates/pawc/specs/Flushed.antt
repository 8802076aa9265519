-- The answer behind the flush of the output, and the line that is told then.
use Rattle.std.specs.Prelude.{ℕ, ◌≡◌, if◌then◌else◌, true, List, [], None, Result, Ok, Err}
use Rattle.pw_io.specs.declared.Failed.{Failed}
use Rattle.pw_top_answer.specs.Answers.{is_untold, line_text}
use Rattle.pw_top_answer.specs.declared.answer.Answer.{Answer}
use Rattle.pw_top_answer.specs.declared.answer.Answer.TheVariants.{WriteFault}

-- Where what was kept back of the output cannot be written, an answer that no line told is a write fault.
abbrev pub after_flush : Answer → Result (Unit {0}) Failed → Answer
after_flush answer (Ok done) = answer
after_flush answer (Err fault) = if is_untold answer then WriteFault else answer

-- This fault is told then, and nothing otherwise.
abbrev pub line_after_flush : Answer → Result (Unit {0}) Failed → List ℕ
line_after_flush answer (Ok done) = []
line_after_flush answer (Err fault) = if is_untold answer then line_text None WriteFault else []

abbrev pub IsUntold : Answer → Type 0
IsUntold answer = is_untold answer ≡ true
