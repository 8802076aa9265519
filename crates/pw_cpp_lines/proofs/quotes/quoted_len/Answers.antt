use Rattle.std.proofs.Common.{◌≡◌, ◌+◌, false, drop}
use Rattle.std.proofs.lemmas.List.{take_rest}
use Rattle.std.specs.Prelude.{Err}
use Rattle.pw_cpp_lines.specs.Passing.{quoted}
use Rattle.pw_cpp_lines.proofs.ClosingQuotes.{none-closes}
use Rattle.pw_cpp_lines.proofs.quotes.quoted_len.Goals as goal

pub returns-in-Err-clause-unclosed : goal.returns-in-Err-clause-unclosed
returns-in-Err-clause-unclosed c =
    let text = c.args.text.now in
    let at = c.args.at in
    let same : quoted c.args.quote false 0 1 (drop (at + 1) text) ≡ Err c.in-Err.before = cc (take_rest text (at + 1), c.in-Err.ensures.value) in
    none-closes text c.args.quote at c.in-Err.before c.requires.other same
