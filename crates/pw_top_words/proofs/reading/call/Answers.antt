use Rattle.std.proofs.Common.{◌≡◌, Some, None, option_map, sym, ap, ◌∙◌}
use Rattle.pw_top_words.specs.CommandLine.{plain_word}
use Rattle.pw_top_words.proofs.Said.{module_said, call_missing, call_said}
use Rattle.pw_top_words.proofs.reading.call.Goals as goal

pub returns-in_default-clause-read : goal.returns-in_default-clause-read
returns-in_default-clause-read c = λ parts same.
    let none : None ≡ plain_word parts = ap (option_map (λ s. s.now)) (sym c.in_default.is) ∙ c.get_str.ensures ∙ module_said parts c.args.matches.now same in
    call_missing parts none

pub returns-in-Some-number_in-clause-read : goal.returns-in-Some-number_in-clause-read
returns-in-Some-number_in-clause-read c = λ parts same.
    let some : Some c.in-Some.text.now ≡ plain_word parts = ap (option_map (λ s. s.now)) (sym c.in-Some.is) ∙ c.get_str.ensures ∙ module_said parts c.args.matches.now same in
    call_said parts c.in-Some.text.now some ∙ sym c.in-Some-number_in.ensures.read

pub returns-in-None-clause-read : goal.returns-in-None-clause-read
returns-in-None-clause-read c = λ parts same.
    let some : Some c.in-Some.text.now ≡ plain_word parts = ap (option_map (λ s. s.now)) (sym c.in-Some.is) ∙ c.get_str.ensures ∙ module_said parts c.args.matches.now same in
    call_said parts c.in-Some.text.now some ∙ sym c.in-None.ensures.read
