-- Primary expressions and type names are read (6.3.1, 6.5.5).
use Rattle.std.proofs.Common.{◌≡◌, ℕ, zero, suc, ◌+◌, ◌<◌, ◌≤◌, false, List, [], ◌∷◌, length, Ok, arith, refl, sym, ap, ◌∙◌}
use Rattle.pw_tree.specs.Levels.{level}
use Rattle.pw_tree.specs.Numbering.{past_expr, past_specifiers, past_declarator, NumberedStrings, Numbered, NumberedSpecifiers, NumberedDeclarator}
use Rattle.pw_tree.specs.Scopes.{has_type, after_expr, after_specifiers, after_declarator, Env}
use Rattle.pw_tree.specs.Spelling.{identifier, spell_strings, spell_expr, spell_specifiers, spell_declarator}
use Rattle.pw_tree.specs.Symbols.{Symbol, Sign}
use Rattle.pw_tree.specs.Trees.{Word, Expr, Identifier, Number, Floating, Character, Wide, Strings, Paren, Postfix, Unary, SizeofType, Cast, Chain, Conditional, Assign, Specifiers, NoSpecifier, Storage, Qualified, Basic, TypedefName, RecordTag, Record, EnumTag, Enum, Declarator}
use Rattle.pw_tree.specs.WellFormed.{NotEmpty, HasPostfix, HasSpecifier, HasMember, HasMemberDeclarator, HasEnumerator, HasParameter, HasInit, NotTypedef, NoneTypedef, MayDeclare, NoStorage, IsSomething, begins_with_typedef, MayEnclose, operand_level, WellFormed, WellFormedPostfixes, WellFormedArguments, WellFormedOperations, WellFormedSpecifiers, WellFormedMembers, WellFormedMemberDeclarators, WellFormedEnumerators, WellFormedDeclarator, WellFormedCore, WellFormedSuffixes, WellFormedParameters, WellFormedOptional, WellFormedInit, WellFormedInits, WellFormedInitializer, WellFormedInitDeclarators, WellFormedDecl, WellFormedDecls, WellFormedLabel, WellFormedLabels, NotLabeled, NotIf, ends_open, alternative_ends_open, MayPrecede, WellFormedStmt, WellFormedAlternative, WellFormedBlock, WellFormedStmts, in_function, WellFormedFunction, WellFormedExternal, WellFormedExternals, WellFormedModule}
use Rattle.pw_tree.specs.WellFormed as tree
use Rattle.pw_token.specs.declared.symbol.Mark.TheVariants as m
use Rattle.pw_parse_grammar.specs.declared.place.Place.TheVariants.{Nameless}
use Rattle.pw_parse_grammar.specs.Input.{ahead, step, same_mark, sees, ◌<$>◌, expect, ordinary_by, repeat, turn_of}
use Rattle.pw_parse_grammar.specs.Parts.{Parts}
use Rattle.pw_parse_grammar.specs.Expressions.{string, strings, some_specifiers, type_name, enclosed_type_name, parenthesized, primary}
use Rattle.pw_parse_grammar.specs.Tests.{is_empty}
use Rattle.pw_parse_grammar.proofs.Trees.Base.{at, same, is_typedef, turns_enough, no_turns, some_more, some_last}
use Rattle.pw_parse_grammar.proofs.Trees.Follow.{Follow, head, is_text, no_string}
use Rattle.pw_parse_grammar.proofs.Trees.Heads.{declarator-ends}
use Rattle.pw_parse_grammar.proofs.Written.Knows.{Knows, level_at_most}
use Rattle.pw_parse_grammar.proofs.Trees.Lengths.{length-expr, length-specifiers}

pub not_empty : (ss : Specifiers) → HasSpecifier ss → is_empty ss ≡ false
not_empty NoSpecifier h = absurd h
not_empty (Storage n c ss) h = refl
not_empty (Qualified n q ss) h = refl
not_empty (Basic n b ss) h = refl
not_empty (TypedefName w ss) h = refl
not_empty (RecordTag n r tag ss) h = refl
not_empty (Record n r tag ms ss) h = refl
not_empty (EnumTag n tag ss) h = refl
not_empty (Enum n tag es ss) h = refl

-- ---- string literals

strings-turns : (count : ℕ) (env : Env) (ws : List Word) (z : List Symbol) (n i : ℕ) → NumberedStrings n ws → is_text (head z) ≡ false → length (spell_strings ws z) < count → i ≡ n
    → repeat (turn_of [] <$> string) count (at env (spell_strings ws z) i) ≡ Ok (ws, at env z (n + length (spell_strings ws [])))
unfolding string ahead step
strings-turns zero env ws z n i num follow enough at_n = no_turns enough
strings-turns (suc count) env [] z n i num follow enough at_n =
    some_last [] string count (at env z i) (at env z i) (rw (no_string (head z) follow) refl) ∙ same env z refl (omega (arith, at_n))
strings-turns (suc count) env (w ∷ ws) z n i num follow enough at_n =
    some_more [] string count (at env (spell_strings (w ∷ ws) z) i) (at env (spell_strings ws z) (i + 1)) (at env z (n + 1 + length (spell_strings ws []))) (λ more. record { token = i; text = w.text } ∷ more) ws
    refl (strings-turns count env ws z (n + 1) (i + 1) num.1 follow (omega (arith, enough)) (omega (arith, at_n)))
    ∙ same env z (ap (λ v. record { token = v; text = w.text } ∷ ws) (at_n ∙ sym num.0)) (omega arith)

pub strings-read : (env : Env) (ws : List Word) (z : List Symbol) (n i : ℕ) → NumberedStrings n ws → is_text (head z) ≡ false → i ≡ n
    → strings (at env (spell_strings ws z) i) ≡ Ok (ws, at env z (n + length (spell_strings ws [])))
unfolding strings
strings-read env ws z n i num follow at_n = strings-turns _ env ws z n i num follow (turns_enough (spell_strings ws z)) at_n

-- ---- with what the parts read

module _ (d : ℕ) (parts : Parts) (known : Knows d parts) where
  pub whole : (env : Env) (e : Expr) (z : List Symbol) (n i : ℕ) → WellFormed env e → Numbered n e → Follow 16 z → length (spell_expr e z) < d → i ≡ n
      → parts.expr 16 (at env (spell_expr e z) i) ≡ Ok (e, at (after_expr env e) z (past_expr n e))
  whole env e z n i w num follow short at_n = known.expr 16 (omega arith) env e z n i w num (level_at_most e) follow short at_n

  -- a type name in parentheses
  pub type_name-read : (env : Env) (ss : Specifiers) (x : Declarator) (z : List Symbol) (n i : ℕ) → HasSpecifier ss → NoStorage ss → WellFormedSpecifiers env false ss
      → WellFormedDeclarator (after_specifiers env ss) (has_type ss) tree.Nameless x → NumberedSpecifiers n ss → NumberedDeclarator (past_specifiers n ss) x
      → length (spell_specifiers ss (spell_declarator x (Sign m.CloseParen ∷ z))) < d → i + 1 ≡ n
      → enclosed_type_name parts (at env (Sign m.OpenParen ∷ spell_specifiers ss (spell_declarator x (Sign m.CloseParen ∷ z))) i) ≡ Ok ((ss, x), at (after_declarator (after_specifiers env ss) x) z (past_declarator (past_specifiers n ss) x + 1))
  unfolding enclosed_type_name type_name some_specifiers expect sees ahead step same_mark
  type_name-read env ss x z n i has none w v num numd short at_n =
      rw (known.specifiers false env ss (spell_declarator x (Sign m.CloseParen ∷ z)) n (i + 1) w none num (declarator-ends false (has_type ss) Nameless (after_specifiers env ss) x (Sign m.CloseParen ∷ z) v refl) short at_n)
      (rw (not_empty ss has)
      (rw (known.declarator Nameless (has_type ss) (after_specifiers env ss) x (Sign m.CloseParen ∷ z) (past_specifiers n ss) (past_specifiers n ss) v numd refl (omega (arith, short, length-specifiers ss (spell_declarator x (Sign m.CloseParen ∷ z)))) refl) refl))

  -- ---- 6.3.1

  paren-read : (env : Env) (t : ℕ) (e : Expr) (z : List Symbol) (n i : ℕ) → WellFormed env e → (t ≡ n) → Numbered (n + 1) e → length (spell_expr e (Sign m.CloseParen ∷ z)) < d → i ≡ n
      → parenthesized parts (at env (Sign m.OpenParen ∷ spell_expr e (Sign m.CloseParen ∷ z)) i) ≡ Ok (Paren t e, at (after_expr env e) z (n + 1 + length (spell_expr e (Sign m.CloseParen ∷ []))))
  unfolding parenthesized step ahead expect sees same_mark
  paren-read env t e z n i w token num short at_n =
      rw (whole env e (Sign m.CloseParen ∷ z) (n + 1) (i + 1) w num (omega arith) short (omega (arith, at_n)))
      (same (after_expr env e) z (ap (λ v. Paren v e) (at_n ∙ sym token)) (omega (arith, length-expr e (Sign m.CloseParen ∷ []))))

  pub primary-read : (env : Env) (e : Expr) (z : List Symbol) (n i : ℕ) → WellFormed env e → Numbered n e → level e ≤ 0 → is_text (head z) ≡ false → length (spell_expr e z) ≤ d → i ≡ n
      → primary parts (at env (spell_expr e z) i) ≡ Ok (e, at (after_expr env e) z (past_expr n e))
  unfolding primary ahead step spell_expr WellFormed Numbered after_expr ordinary_by
  primary-read env (Identifier w) z n i h num l follow short at_n =
      rw (is_typedef env (identifier w ∷ z) i w.text ∙ h) (same env z (ap (λ v. Identifier (record { token = v; text = w.text })) (at_n ∙ sym num)) (omega (arith, at_n)))
  primary-read env (Number w) z n i h num l follow short at_n = same env z (ap (λ v. Number (record { token = v; text = w.text })) (at_n ∙ sym num)) (omega (arith, at_n))
  primary-read env (Floating w) z n i h num l follow short at_n = same env z (ap (λ v. Floating (record { token = v; text = w.text })) (at_n ∙ sym num)) (omega (arith, at_n))
  primary-read env (Character w) z n i h num l follow short at_n = same env z (ap (λ v. Character (record { token = v; text = w.text })) (at_n ∙ sym num)) (omega (arith, at_n))
  primary-read env (Wide w) z n i h num l follow short at_n = same env z (ap (λ v. Wide (record { token = v; text = w.text })) (at_n ∙ sym num)) (omega (arith, at_n))
  primary-read env (Strings []) z n i h num l follow short at_n = absurd h
  primary-read env (Strings (w ∷ ws)) z n i h num l follow short at_n = rw (strings-read env (w ∷ ws) z n i num follow at_n) refl
  primary-read env (Paren t e) z n i h num l follow short at_n =
      paren-read env t e z n i h num.0 num.1 (omega (arith, short)) at_n ∙ same (after_expr env e) z refl (omega arith)
  primary-read env (Postfix e ps) z n i h num l follow short at_n = absurd (omega (arith, l))
  primary-read env (Unary t op e) z n i h num l follow short at_n = absurd (omega (arith, l))
  primary-read env (SizeofType t ss x) z n i h num l follow short at_n = absurd (omega (arith, l))
  primary-read env (Cast t ss x e) z n i h num l follow short at_n = absurd (omega (arith, l))
  primary-read env (Chain e ops) z n i h num l follow short at_n = absurd (omega (arith, h.0, l))
  primary-read env (Conditional t c a b) z n i h num l follow short at_n = absurd (omega (arith, l))
  primary-read env (Assign t op a b) z n i h num l follow short at_n = absurd (omega (arith, l))
