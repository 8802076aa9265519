use Rattle.std.proofs.Common.{◌≡◌, Some, None, option_map, true, false, sym, ap, ◌∙◌}
use Rattle.pw_store_modules.specs.Modules.{is_module_name}
use Rattle.pw_top_switch.specs.Switch.{Text}
use Rattle.pw_top_words.specs.CommandLine.{plain_word}
use Rattle.pw_top_words.proofs.Said.{module_found, module_missing, module_refused, module_said, names_a_module}
use Rattle.pw_top_words.proofs.reading.module.Goals as goal

pub returns-in_default-clause-read : goal.returns-in_default-clause-read
returns-in_default-clause-read c = λ parts same.
    let none : None ≡ plain_word parts = ap (option_map (λ s. s.now)) (sym c.in_default.is) ∙ c.get_str.ensures ∙ module_said parts c.args.matches.now same in
    module_missing parts none

pub returns-then-not-is_module_name-clause-read : goal.returns-then-not-is_module_name-clause-read
returns-then-not-is_module_name-clause-read c = λ parts same.
    let some : Some c.in-Some.name.now ≡ plain_word parts = ap (option_map (λ s. s.now)) (sym c.in-Some.is) ∙ c.get_str.ensures ∙ module_said parts c.args.matches.now same in
    let bad : is_module_name c.in-Some.name.now ≡ false = ap is_module_name (sym c.as_bytes.ensures.value) ∙ sym c.is_module_name.ensures ∙ c.if-not-is_module_name.true in
    module_refused parts c.in-Some.name.now some bad

pub returns-in-Ok-clause-read : goal.returns-in-Ok-clause-read
returns-in-Ok-clause-read c = λ parts same.
    let some : Some c.in-Some.name.now ≡ plain_word parts = ap (option_map (λ s. s.now)) (sym c.in-Some.is) ∙ c.get_str.ensures ∙ module_said parts c.args.matches.now same in
    let good : is_module_name c.in-Some.name.now ≡ true = ap is_module_name (sym c.as_bytes.ensures.value) ∙ sym c.is_module_name.ensures ∙ c.if-not-is_module_name.false in
    module_found parts c.in-Some.name.now some good ∙ ap (λ (n : Text). Some n) (sym (c.in-Ok.ensures.holds ∙ c.as_bytes-2.ensures.value))

pub returns-in-Ok-clause-usage : goal.returns-in-Ok-clause-usage
returns-in-Ok-clause-usage c = λ parts same none.
    let some : Some c.in-Some.name.now ≡ plain_word parts = ap (option_map (λ s. s.now)) (sym c.in-Some.is) ∙ c.get_str.ensures ∙ module_said parts c.args.matches.now same in
    let good : is_module_name c.in-Some.name.now ≡ true = ap is_module_name (sym c.as_bytes.ensures.value) ∙ sym c.is_module_name.ensures ∙ c.if-not-is_module_name.false in
    absurd (names_a_module parts c.in-Some.name.now some good none)

pub returns-in-Err-NoMemory-clause-usage : goal.returns-in-Err-NoMemory-clause-usage
returns-in-Err-NoMemory-clause-usage c = λ parts same none.
    let some : Some c.in-Some.name.now ≡ plain_word parts = ap (option_map (λ s. s.now)) (sym c.in-Some.is) ∙ c.get_str.ensures ∙ module_said parts c.args.matches.now same in
    let good : is_module_name c.in-Some.name.now ≡ true = ap is_module_name (sym c.as_bytes.ensures.value) ∙ sym c.is_module_name.ensures ∙ c.if-not-is_module_name.false in
    absurd (names_a_module parts c.in-Some.name.now some good none)
