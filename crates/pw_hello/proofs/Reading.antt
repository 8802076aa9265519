-- The tokens of the text, and its tree, by computation.
use Rattle.std.specs.Prelude.{◌≡◌, ℕ, List, [], ◌∷◌, Ok, refl}
use Rattle.std.proofs.Common.{arith}
use Rattle.pw_token.specs.Pieces.{longest_at, token_at, piece_at}
use Rattle.pw_token.specs.Scanning.{integer_suffix_len, digits_len, integer_len, exponent_len, fraction_len, scaled_len, floating_len, literal_len, wide_len, comment_len}
use Rattle.pw_token.specs.Words.{keyword_of, mark_of, is_keyword, is_mark}
use Rattle.pw_token.specs.declared.token.Token.{Token}
use Rattle.pw_token.specs.declared.token.TokenKind.TheVariants.{Identifier, Keyword, Number, Character, Mark}
use Rattle.pw_tree.specs.Grammar.{spelled_all}
use Rattle.pw_tree.specs.Numbering.{NumberedModule, Numbered, NumberedPostfixes, NumberedArguments, NumberedSpecifiers, NumberedDeclarator, NumberedCore, NumberedSuffixes, NumberedParameters, NumberedStmt, NumberedBlock, NumberedStmts}
use Rattle.pw_tree.specs.Spelling.{spell_expr, spell_postfixes, spell_arguments, spell_specifiers, spell_declarator, spell_core, spell_suffixes, spell_parameters, spell_stmt, spell_block, spell_stmts, spelling}
use Rattle.pw_tree.specs.Scopes.{after_expr, after_postfixes, after_arguments, after_specifiers, after_declarator, after_core, after_suffixes, after_stmt}
use Rattle.pw_tree.specs.WellFormed.{WellFormedModule, WellFormed, WellFormedPostfixes, WellFormedArguments, WellFormedSpecifiers, WellFormedDeclarator, WellFormedCore, WellFormedSuffixes, WellFormedParameters, WellFormedStmt, WellFormedBlock, WellFormedStmts}
use Rattle.pw_token.specs.Nesting.{nests_of}
use Rattle.pw_token.specs.Tokenization.{Lexes}
use Rattle.pw_front_end.specs.First.{NonePasses}
use Rattle.pw_front_end.specs.Fronts.{HasTree, has_feature, is_deep}
use Rattle.pw_hello.specs.Hello.{hello_syntax, hello_text}
use Rattle.pw_front_end.specs.Lexed.{lexed, lexed_from}

pub hello_tokens : List Token
hello_tokens =
    record { kind = Keyword; at = 0; len = 3 }
    ∷ record { kind = Identifier; at = 4; len = 7 }
    ∷ record { kind = Mark; at = 11; len = 1 }
    ∷ record { kind = Keyword; at = 12; len = 3 }
    ∷ record { kind = Identifier; at = 16; len = 1 }
    ∷ record { kind = Mark; at = 17; len = 1 }
    ∷ record { kind = Mark; at = 18; len = 1 }
    ∷ record { kind = Keyword; at = 20; len = 3 }
    ∷ record { kind = Identifier; at = 24; len = 4 }
    ∷ record { kind = Mark; at = 28; len = 1 }
    ∷ record { kind = Keyword; at = 29; len = 4 }
    ∷ record { kind = Mark; at = 33; len = 1 }
    ∷ record { kind = Mark; at = 35; len = 1 }
    ∷ record { kind = Identifier; at = 37; len = 7 }
    ∷ record { kind = Mark; at = 44; len = 1 }
    ∷ record { kind = Character; at = 45; len = 3 }
    ∷ record { kind = Mark; at = 48; len = 1 }
    ∷ record { kind = Mark; at = 49; len = 1 }
    ∷ record { kind = Identifier; at = 51; len = 7 }
    ∷ record { kind = Mark; at = 58; len = 1 }
    ∷ record { kind = Character; at = 59; len = 3 }
    ∷ record { kind = Mark; at = 62; len = 1 }
    ∷ record { kind = Mark; at = 63; len = 1 }
    ∷ record { kind = Keyword; at = 65; len = 6 }
    ∷ record { kind = Number; at = 72; len = 1 }
    ∷ record { kind = Mark; at = 73; len = 1 }
    ∷ record { kind = Mark; at = 75; len = 1 }
    ∷ []

all_of_lexing : ℕ ≡ ℕ
unfolding hello_tokens lexed lexed_from longest_at token_at piece_at integer_suffix_len digits_len integer_len exponent_len fraction_len scaled_len floating_len literal_len wide_len comment_len keyword_of mark_of is_keyword is_mark
all_of_lexing = refl

pub hello_is_lexed : lexed hello_text ≡ Ok hello_tokens
unfolding all_of_lexing
hello_is_lexed = refl

all_of_trees : ℕ ≡ ℕ
unfolding hello_tokens Numbered NumberedPostfixes NumberedArguments NumberedSpecifiers NumberedDeclarator NumberedCore NumberedSuffixes NumberedParameters NumberedStmt NumberedBlock NumberedStmts spell_expr spell_postfixes spell_arguments spell_specifiers spell_declarator spell_core spell_suffixes spell_parameters spell_stmt spell_block spell_stmts after_expr after_postfixes after_arguments after_specifiers after_declarator after_core after_suffixes after_stmt WellFormed WellFormedPostfixes WellFormedArguments WellFormedSpecifiers WellFormedDeclarator WellFormedCore WellFormedSuffixes WellFormedParameters WellFormedStmt WellFormedBlock WellFormedStmts
all_of_trees = refl

pub hello_spells : spelling hello_syntax ≡ spelled_all hello_text hello_tokens
unfolding all_of_trees keyword_of mark_of
hello_spells = refl

pub hello_numbered : NumberedModule hello_syntax
unfolding all_of_trees
hello_numbered = (((refl, tt), ((tt, refl, (refl, ((refl, tt), (tt, refl, tt), tt), tt)), tt, tt)), (((refl, tt), (tt, refl, (refl, ((refl, tt), (tt, tt, tt), tt), tt)), tt, (refl, tt, ((refl, (refl, (refl, tt), tt)), ((refl, (refl, (refl, tt), tt)), ((refl, refl), tt))))), tt))

pub hello_well_formed : WellFormedModule hello_syntax
unfolding all_of_trees
hello_well_formed = (tt, ((tt, tt, ((refl, ((tt, tt, (refl, tt), tt), tt)), tt, tt)), ((tt, (refl, ((tt, tt, (tt, tt), tt), tt)), tt, (tt, ((omega arith, refl, tt, ((omega arith, tt, tt), tt)), ((omega arith, refl, tt, ((omega arith, tt, tt), tt)), (tt, tt))))), tt)))

-- no token is left out, and none is nested too deep
pub hello_supported : NonePasses (has_feature hello_text) hello_tokens
unfolding hello_tokens keyword_of mark_of
hello_supported = (refl, (refl, (refl, (refl, (refl, (refl, (refl, (refl, (refl, (refl, (refl, (refl, (refl, (refl, (refl, (refl, (refl, (refl, (refl, (refl, (refl, (refl, (refl, (refl, (refl, (refl, (refl, tt)))))))))))))))))))))))))))

pub hello_shallow : NonePasses is_deep (nests_of hello_text hello_tokens)
unfolding hello_tokens keyword_of mark_of
hello_shallow = (refl, (refl, (refl, (refl, (refl, (refl, (refl, (refl, (refl, (refl, (refl, (refl, (refl, (refl, (refl, (refl, (refl, (refl, (refl, (refl, (refl, (refl, (refl, (refl, (refl, (refl, (refl, tt)))))))))))))))))))))))))))

pub hello_read : Lexes hello_text (Ok hello_tokens) → HasTree hello_text hello_syntax
hello_read lexed = record {
  tokens = hello_tokens;
  shallow = record { supported = record { lexed = lexed; supported = hello_supported }; shallow = hello_shallow };
  reads = record { well_formed = hello_well_formed; numbered = hello_numbered; spells = hello_spells };
}
