use Rattle.std.proofs.Common.{◌≡◌, true, sym, ap, ◌∙◌}
use Rattle.pw_top_words.specs.CommandLine.{is_numeral}
use Rattle.pw_top_words.proofs.Numerals.{parsed}
use Rattle.pw_top_words.proofs.numbers.number_in.Goals as goal

pub returns-in_default-3-clause-read : goal.returns-in_default-3-clause-read
returns-in_default-3-clause-read c =
    let numeral : is_numeral c.args.text.now ≡ true = ap is_numeral (sym c.as_bytes.ensures.value) ∙ sym c.is_numeral.ensures ∙ c.if-not-is_numeral.false in
    let made = parsed c.args.text.now c.parse.result numeral c.parse.ensures.value.0 in
    let failed = c.in_default.is in
    absurd cc
