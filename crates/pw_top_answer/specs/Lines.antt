-- The bytes of a line.
use Rattle.std.specs.Prelude.{ℕ, List}
use Rattle.pw_top_answer.specs.declared.line.Line.{Line}
use Rattle.pw_top_answer.specs.declared.line.Line.TheVariants.{Fixed, Made}

abbrev pub line_bytes : Line → List ℕ
line_bytes (Fixed text) = text.now
line_bytes (Made text) = text.items
