-- The text in the place of a fault has no tokens.
use Rattle.std.proofs.Common.{◌≡◌, ℕ, ◌≤◌, List, length, Err, refl, ap, ◌∙◌, arith}
use Rattle.pw_token.specs.Pieces.{longest_at, token_at, piece_at}
use Rattle.pw_token.specs.Scanning.{integer_suffix_len, digits_len, integer_len, exponent_len, fraction_len, scaled_len, floating_len, literal_len, wide_len, comment_len}
use Rattle.pw_token.specs.Words.{keyword_of, mark_of, is_keyword, is_mark}
use Rattle.pw_token.specs.declared.token.LexFault.{LexFault}
use Rattle.pw_token.specs.declared.token.LexFault.TheVariants.{Bad}
use Rattle.pw_front_end.specs.Fronts.{by_lexing, front_end_of}
use Rattle.pw_front_end.specs.Lexed.{LexAnswer, lexed, lexed_from}
use Rattle.pw_front_end.specs.declared.refusal.Refusal.TheVariants.{Lex}
use Rattle.pw_io.specs.Files.{prefix_of}
use Rattle.pw_store_modules.specs.Modules.{text_read}
use Rattle.pw_store_texts.specs.Seen.{refused_text}
use Rattle.pw_build_files.specs.FromBuild.FirstPhase.{by_front_end, compiled}

no_tokens : lexed refused_text ≡ Err (Bad 0)
unfolding lexed lexed_from longest_at token_at piece_at integer_suffix_len digits_len integer_len exponent_len fraction_len scaled_len floating_len literal_len wide_len comment_len keyword_of mark_of is_keyword is_mark
no_tokens = refl

by_lexer : (name text : List ℕ) (fault : LexFault) → lexed text ≡ Err fault → compiled name text ≡ Err (Lex fault)
unfolding compiled front_end_of
by_lexer name text fault e = ap (λ (answer : LexAnswer). by_front_end name (by_lexing text answer)) e

pub text_refused : ((most : ℕ) (bytes : List ℕ) → length bytes ≤ most → prefix_of most bytes ≡ bytes) → (name : List ℕ) → compiled name (prefix_of text_read refused_text) ≡ Err (Lex (Bad 0))
text_refused whole name =
    let short : length refused_text ≤ text_read = omega arith in
    ap (compiled name) (whole text_read refused_text short) ∙ by_lexer name refused_text (Bad 0) no_tokens
