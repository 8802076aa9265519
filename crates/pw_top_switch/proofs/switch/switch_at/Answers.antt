use Rattle.std.proofs.Common.{◌≡◌, ◌≤◌, true, false, length, map, string_bytes, ap, ◌∙◌, arith}
use Rattle.std.specs.Prelude.{codes, not, ◌&&◌}
use Rattle.std.specs.Str.{bytes_eq}
use Rattle.std.proofs.lemmas.List.{length-map}
use Rattle.pw_top_switch.specs.Switch.{Text, switch}
use Rattle.pw_top_switch.proofs.Switches.{ends_here, next_is_value, next_word, none_left, stands_here, starts_so, told_by, word_passed}
use Rattle.pw_top_switch.proofs.switch.switch_at.Goals as goal

pub loop-at-init : goal.loop-at-init
loop-at-init c = starts_so (map string_bytes c.args.words.now)

pub returns-then-ends_options-clause-place : goal.returns-then-ends_options-clause-place
returns-then-ends_options-clause-place c =
    let words = map string_bytes c.args.words.now in
    let word = string_bytes c.index-words-at.result in
    let value = c.loop-at.is_value in
    ends_here words c.loop-at.at word value c.loop-at.invariant
    (next_word c.args.words.now c.loop-at.at c.index-words-at.result c.loop-at-test.true c.index-words-at.is)
    (told_by (λ (t : Text). not value && bytes_eq t (codes "--")) word c.as_str-word.result.now c.ends_options.result true c.as_str-word.ensures.value c.ends_options.ensures c.if-ends_options.true)

pub returns-then-is_switch-clause-place : goal.returns-then-is_switch-clause-place
returns-then-is_switch-clause-place c =
    let words = map string_bytes c.args.words.now in
    let word = string_bytes c.index-words-at.result in
    let value = c.loop-at.is_value in
    stands_here words c.loop-at.at word value c.loop-at.invariant
    (next_word c.args.words.now c.loop-at.at c.index-words-at.result c.loop-at-test.true c.index-words-at.is)
    (told_by (λ (t : Text). not value && bytes_eq t (codes "--")) word c.as_str-word.result.now c.ends_options.result false c.as_str-word.ensures.value c.ends_options.ensures c.if-ends_options.false)
    (told_by (λ (t : Text). not value && bytes_eq t switch) word c.as_str-word.result.now c.is_switch.result true c.as_str-word.ensures.value c.is_switch.ensures c.if-is_switch.true)

pub loop-at-preserved : goal.loop-at-preserved
loop-at-preserved c =
    let words = map string_bytes c.args.words.now in
    let word = string_bytes c.index-words-at.result in
    let value = c.loop-at.is_value in
    word_passed words c.loop-at.at word value c.is_next_value-is_value.result c.loop-at.invariant
    (next_word c.args.words.now c.loop-at.at c.index-words-at.result c.loop-at-test.true c.index-words-at.is)
    (told_by (λ (t : Text). not value && bytes_eq t (codes "--")) word c.as_str-word.result.now c.ends_options.result false c.as_str-word.ensures.value c.ends_options.ensures c.if-ends_options.false)
    (told_by (λ (t : Text). not value && bytes_eq t switch) word c.as_str-word.result.now c.is_switch.result false c.as_str-word.ensures.value c.is_switch.ensures c.if-is_switch.false)
    (c.is_next_value-is_value.ensures ∙ ap (next_is_value value) c.as_str-word.ensures.value)

pub returns-clause-place : goal.returns-clause-place
returns-clause-place c =
    let words = map string_bytes c.args.words.now in
    let size : length words ≡ length c.args.words.now = length-map c.args.words.now string_bytes in
    let over : length words ≤ c.loop-at.at = let past = c.loop-at-test.false in omega (arith, past, size) in
    none_left words c.loop-at.at c.loop-at.is_value over c.loop-at.invariant
