use Rattle.std.proofs.Common.{◌≡◌, false, eqb, slice_index, ap, arith, sym, ◌∙◌}
use Rattle.std.proofs.lemmas.Bool.Decides.{nat_tests}
use Rattle.pw_token.proofs.FirstLaws.{IsOther, point-longest, character-longest, text-longest, mark-longest}
use Rattle.pw_token.specs.Bytes.{is_in, is_nondigit}
use Rattle.pw_token.specs.Pieces.{Found, longer}
use Rattle.pw_token.specs.Scanning.{floating_len}
use Rattle.pw_token.specs.declared.bytes.Class.TheVariants.{Digit}
use Rattle.pw_token.specs.declared.token.TokenKind.TheVariants.{Identifier, Floating, Character, Text, Mark}
use Rattle.pw_token.proofs.piece.other_at.Goals as goal

pub returns-in-46-clause-value : goal.returns-in-46-clause-value
returns-in-46-clause-value c =
    let text = c.args.text.now in
    let nothing : Found = (Identifier, 0) in
    c.longer.ensures
    ∙ ap (λ x. longer x (Mark, c.mark_len.result)) (c.longer-floating.ensures ∙ ap (λ n. longer nothing (Floating, n)) c.floating_len.ensures.value)
    ∙ ap (λ n. longer (longer nothing (Floating, floating_len text)) (Mark, n)) c.mark_len.ensures.value
    ∙ sym (point-longest text (sym c.requires.first ∙ c.in-46.is))

pub returns-in-39-clause-value : goal.returns-in-39-clause-value
returns-in-39-clause-value c =
    let nothing : Found = (Identifier, 0) in
    c.longer-in-39.ensures ∙ ap (λ n. longer nothing (Character, n)) c.literal_len.ensures.value ∙ sym (character-longest c.args.text.now (sym c.requires.first ∙ c.in-39.is))

pub returns-in-34-clause-value : goal.returns-in-34-clause-value
returns-in-34-clause-value c =
    let nothing : Found = (Identifier, 0) in
    c.longer-in-34.ensures ∙ ap (λ n. longer nothing (Text, n)) c.literal_len-in-34.ensures.value ∙ sym (text-longest c.args.text.now (sym c.requires.first ∙ c.in-34.is))

pub returns-in_default-clause-value : goal.returns-in_default-clause-value
returns-in_default-clause-value c =
    let text = c.args.text.now in
    let nothing : Found = (Identifier, 0) in
    let other : IsOther (slice_index text 0) = record { no_letter = sym (ap is_nondigit c.requires.first) ∙ c.requires.no_letter; no_digit = sym (ap (is_in Digit) c.requires.first) ∙ c.requires.no_digit } in
    let no_point : eqb (slice_index text 0) 46 ≡ false = grind (arith, nat_tests) in
    let no_quote : eqb (slice_index text 0) 39 ≡ false = grind (arith, nat_tests) in
    let no_quotes : eqb (slice_index text 0) 34 ≡ false = grind (arith, nat_tests) in
    c.longer-in_default.ensures ∙ ap (λ n. longer nothing (Mark, n)) c.mark_len-in_default.ensures.value ∙ sym (mark-longest text other no_point no_quote no_quotes)
