use Rattle.std.proofs.Common.{◌≡◌, true, false, eqb, slice_index, ap, arith, sym, ◌∙◌}
use Rattle.std.proofs.lemmas.Bool.Decides.{nat_tests}
use Rattle.pw_token.proofs.FirstLaws.{letter-longest, word-longest, digit-longest}
use Rattle.pw_token.specs.Bytes.{is_in, is_nondigit}
use Rattle.pw_token.specs.Pieces.{Found, longer, word_at}
use Rattle.pw_token.specs.Scanning.{integer_len}
use Rattle.pw_token.specs.declared.bytes.Class.TheVariants.{Digit}
use Rattle.pw_token.specs.declared.token.TokenKind.TheVariants.{Identifier, Number, Floating, Wide}
use Rattle.pw_token.proofs.piece.longest_at.Goals as goal

pub returns-then-first-eq76-clause-value : goal.returns-then-first-eq76-clause-value
returns-then-first-eq76-clause-value c =
    let text = c.args.text.now in
    let letter : is_nondigit (slice_index text 0) ≡ true = sym (c.is_nondigit.ensures ∙ ap is_nondigit c.byte_at-first.ensures.value) ∙ c.if-is_nondigit.true in
    c.longer.ensures ∙ ap (λ x. longer x (Wide, c.wide_len.result)) c.word_at-word.ensures.value ∙ ap (λ n. longer (word_at text) (Wide, n)) c.wide_len.ensures.value ∙ sym (letter-longest text letter)

pub returns-else-first-eq76-clause-value : goal.returns-else-first-eq76-clause-value
returns-else-first-eq76-clause-value c =
    let text = c.args.text.now in
    let letter : is_nondigit (slice_index text 0) ≡ true = sym (c.is_nondigit.ensures ∙ ap is_nondigit c.byte_at-first.ensures.value) ∙ c.if-is_nondigit.true in
    let no_l : eqb (slice_index text 0) 76 ≡ false = grind (arith, nat_tests) in
    c.word_at-word.ensures.value ∙ sym (word-longest text letter no_l)

pub returns-then-is_in-clause-value : goal.returns-then-is_in-clause-value
returns-then-is_in-clause-value c =
    let text = c.args.text.now in
    let nothing : Found = (Identifier, 0) in
    let digit : is_in Digit (slice_index text 0) ≡ true = sym (c.is_in.ensures ∙ ap (is_in Digit) c.byte_at-first.ensures.value) ∙ c.if-is_in.true in
    c.longer-then-is_in.ensures
    ∙ ap (λ x. longer x (Floating, c.floating_len.result)) (c.longer-number.ensures ∙ ap (λ n. longer nothing (Number, n)) c.integer_len.ensures.value)
    ∙ ap (λ n. longer (longer nothing (Number, integer_len text)) (Floating, n)) c.floating_len.ensures.value ∙ sym (digit-longest text digit)
