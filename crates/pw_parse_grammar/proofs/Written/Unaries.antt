-- Unary expressions and casts are read (6.3.3, 6.3.4).
use Rattle.std.proofs.Common.{◌≡◌, ℕ, ◌+◌, ◌<◌, ◌≤◌, true, false, List, [], ◌∷◌, length, Ok, arith, refl, sym, ap, ◌∙◌}
use Rattle.pw_tree.specs.Levels.{level}
use Rattle.pw_tree.specs.Numbering.{past_expr, past_specifiers, past_declarator, Numbered, NumberedSpecifiers, NumberedDeclarator}
use Rattle.pw_tree.specs.Scopes.{has_type, after_expr, after_postfixes, after_specifiers, after_declarator, Env}
use Rattle.pw_tree.specs.Spelling.{spell_expr, spell_postfixes, spell_specifiers, spell_declarator}
use Rattle.pw_tree.specs.Symbols.{Symbol, Reserved, Sign, unary_symbol}
use Rattle.pw_tree.specs.Trees.{Expr, Identifier, Number, Floating, Character, Wide, Strings, Paren, Postfix, Unary, SizeofType, Cast, Chain, Conditional, Assign, Postfixes, NoPostfix, Index, Call, Select, Step, Specifiers, Declarator}
use Rattle.pw_tree.specs.WellFormed.{NotEmpty, HasPostfix, HasSpecifier, HasMember, HasMemberDeclarator, HasEnumerator, HasParameter, HasInit, NotTypedef, NoneTypedef, MayDeclare, NoStorage, IsSomething, begins_with_typedef, MayEnclose, operand_level, WellFormed, WellFormedPostfixes, WellFormedArguments, WellFormedOperations, WellFormedSpecifiers, WellFormedMembers, WellFormedMemberDeclarators, WellFormedEnumerators, WellFormedDeclarator, WellFormedCore, WellFormedSuffixes, WellFormedParameters, WellFormedOptional, WellFormedInit, WellFormedInits, WellFormedInitializer, WellFormedInitDeclarators, WellFormedDecl, WellFormedDecls, WellFormedLabel, WellFormedLabels, NotLabeled, NotIf, ends_open, alternative_ends_open, MayPrecede, WellFormedStmt, WellFormedAlternative, WellFormedBlock, WellFormedStmts, in_function, WellFormedFunction, WellFormedExternal, WellFormedExternals, WellFormedModule}
use Rattle.pw_tree.specs.WellFormed as tree
use Rattle.pw_tree.specs.declared.operator.UnaryOperator.{UnaryOperator}
use Rattle.pw_tree.specs.declared.operator.UnaryOperator.TheVariants as unary
use Rattle.pw_token.specs.declared.symbol.Keyword.TheVariants as k
use Rattle.pw_token.specs.declared.symbol.Mark.TheVariants as m
use Rattle.pw_parse_grammar.specs.Input.{ahead, step, same_mark, sees}
use Rattle.pw_parse_grammar.specs.Parts.{Parts}
use Rattle.pw_parse_grammar.specs.Expressions.{with_postfixes, postfix_expr, operated, operated_or_postfix, size, unary_expr, cast_to, cast_expr}
use Rattle.pw_parse_grammar.specs.Tests.{opens_type_name}
use Rattle.pw_parse_grammar.proofs.Trees.Base.{at, same}
use Rattle.pw_parse_grammar.proofs.Trees.Follow.{head, joins, above_unary}
use Rattle.pw_parse_grammar.proofs.Trees.Heads.{expr-no_cast, specifiers-begin, chain_above}
use Rattle.pw_parse_grammar.proofs.Written.Knows.{Knows}
use Rattle.pw_parse_grammar.proofs.Trees.Lengths.{length-expr, length-specifiers, length-declarator}
use Rattle.pw_parse_grammar.proofs.Written.Postfixes.{postfix-read}
use Rattle.pw_parse_grammar.proofs.Written.Primaries.{type_name-read}

with-postfixes : (e : Expr) (ps : Postfixes) → HasPostfix ps → with_postfixes e ps ≡ Postfix e ps
with-postfixes e NoPostfix h = absurd h
with-postfixes e (Index t x ps) h = refl
with-postfixes e (Call t es ps) h = refl
with-postfixes e (Select t a w ps) h = refl
with-postfixes e (Step t op ps) h = refl

module _ (d : ℕ) (parts : Parts) (known : Knows d parts) where
  unary-is_postfix : (env : Env) (e : Expr) (z : List Symbol) (i : ℕ) → WellFormed env e → level e ≤ 0 → unary_expr parts (at env (spell_expr e z) i) ≡ postfix_expr parts (at env (spell_expr e z) i)
  unfolding spell_expr WellFormed unary_expr operated_or_postfix ahead
  unary-is_postfix env (Identifier w) z i h l = refl
  unary-is_postfix env (Number w) z i h l = refl
  unary-is_postfix env (Floating w) z i h l = refl
  unary-is_postfix env (Character w) z i h l = refl
  unary-is_postfix env (Wide w) z i h l = refl
  unary-is_postfix env (Strings []) z i h l = absurd h
  unary-is_postfix env (Strings (w ∷ ws)) z i h l = refl
  unary-is_postfix env (Paren t e) z i h l = refl
  unary-is_postfix env (Postfix e ps) z i h l = absurd (omega (arith, l))
  unary-is_postfix env (Unary t op e) z i h l = absurd (omega (arith, l))
  unary-is_postfix env (SizeofType t ss x) z i h l = absurd (omega (arith, l))
  unary-is_postfix env (Cast t ss x e) z i h l = absurd (omega (arith, l))
  unary-is_postfix env (Chain e ops) z i h l = absurd (omega (arith, l, h.0))
  unary-is_postfix env (Conditional t c a b) z i h l = absurd (omega (arith, l))
  unary-is_postfix env (Assign t op a b) z i h l = absurd (omega (arith, l))

  primary-as_unary : (env : Env) (e : Expr) (z : List Symbol) (n i : ℕ) → WellFormed env e → Numbered n e → level e ≤ 0 → 2 < joins (head z) → length (spell_expr e z) ≤ d → i ≡ n
      → unary_expr parts (at env (spell_expr e z) i) ≡ Ok (e, at (after_expr env e) z (past_expr n e))
  unfolding spell_expr WellFormed Numbered after_expr
  primary-as_unary env e z n i h num l follow short at_n =
      unary-is_postfix env e z i h l ∙ postfix-read d parts known env e NoPostfix z n i h tt num tt l follow short at_n ∙ same (after_expr env e) z refl (omega arith)

  -- ---- 6.3.3

  operated-read : (op : UnaryOperator) (env : Env) (s : Symbol) (e : Expr) (z : List Symbol) (n i : ℕ) → WellFormed env e → Numbered (n + 1) e → level e ≤ operand_level op → 2 < joins (head z) → length (spell_expr e z) < d → i ≡ n
      → operated parts op (at env (s ∷ spell_expr e z) i) ≡ Ok (Unary i op e, at (after_expr env e) z (past_expr (n + 1) e))
  unfolding operated step
  operated-read op env s e z n i h num l follow short at_n =
      rw (known.expr (operand_level op) (above_one op) env e z (n + 1) (i + 1) h num l (below op) short (omega (arith, at_n))) refl
    where
      above_one : (op : UnaryOperator) → 2 ≤ operand_level op
      above_one unary.Address = omega arith
      above_one unary.Dereference = omega arith
      above_one unary.Plus = omega arith
      above_one unary.Minus = omega arith
      above_one unary.Complement = omega arith
      above_one unary.Not = omega arith
      above_one unary.Increment = omega arith
      above_one unary.Decrement = omega arith
      above_one unary.Sizeof = omega arith

      below : (op : UnaryOperator) → operand_level op < joins (head z)
      below unary.Address = above_unary (head z) follow
      below unary.Dereference = above_unary (head z) follow
      below unary.Plus = above_unary (head z) follow
      below unary.Minus = above_unary (head z) follow
      below unary.Complement = above_unary (head z) follow
      below unary.Not = above_unary (head z) follow
      below unary.Increment = follow
      below unary.Decrement = follow
      below unary.Sizeof = follow

  size-read : (env : Env) (e : Expr) (z : List Symbol) (n i : ℕ) → WellFormed env e → Numbered (n + 1) e → level e ≤ 2 → 2 < joins (head z) → length (spell_expr e z) < d → i ≡ n
      → size parts (at env (Reserved k.Sizeof ∷ spell_expr e z) i) ≡ Ok (Unary i unary.Sizeof e, at (after_expr env e) z (past_expr (n + 1) e))
  unfolding size step
  size-read env e z n i h num l follow short at_n =
      rw (expr-no_cast env e z (i + 1) h l)
      (rw (known.expr 2 (omega arith) env e z (n + 1) (i + 1) h num l follow short (omega (arith, at_n))) refl)

  -- a type name stands in the parentheses
  opens-type : (env : Env) (ss : Specifiers) (z : List Symbol) (i : ℕ) → HasSpecifier ss → NoStorage ss → WellFormedSpecifiers env false ss
      → opens_type_name (at env (Sign m.OpenParen ∷ spell_specifiers ss z) i) ≡ true
  unfolding opens_type_name sees ahead step same_mark
  opens-type env ss z i has none w = specifiers-begin false env ss z (Sign m.OpenParen ∷ spell_specifiers ss z) i has none w

  size-of_type : (env : Env) (ss : Specifiers) (x : Declarator) (z : List Symbol) (n i : ℕ) → HasSpecifier ss → NoStorage ss → WellFormedSpecifiers env false ss
      → WellFormedDeclarator (after_specifiers env ss) (has_type ss) tree.Nameless x → NumberedSpecifiers (n + 2) ss → NumberedDeclarator (past_specifiers (n + 2) ss) x
      → length (spell_specifiers ss (spell_declarator x (Sign m.CloseParen ∷ z))) < d → i ≡ n
      → size parts (at env (Reserved k.Sizeof ∷ Sign m.OpenParen ∷ spell_specifiers ss (spell_declarator x (Sign m.CloseParen ∷ z))) i)
      ≡ Ok (SizeofType i ss x, at (after_declarator (after_specifiers env ss) x) z (past_declarator (past_specifiers (n + 2) ss) x + 1))
  unfolding size step
  size-of_type env ss x z n i has none w v num numd short at_n =
      rw (opens-type env ss (spell_declarator x (Sign m.CloseParen ∷ z)) (i + 1) has none w)
      (rw (type_name-read d parts known env ss x z (n + 2) (i + 1) has none w v num numd short (omega (arith, at_n))) refl)

  pub unary-read : (env : Env) (e : Expr) (z : List Symbol) (n i : ℕ) → WellFormed env e → Numbered n e → level e ≤ 2 → 2 < joins (head z) → length (spell_expr e z) ≤ d → i ≡ n
      → unary_expr parts (at env (spell_expr e z) i) ≡ Ok (e, at (after_expr env e) z (past_expr n e))
  unfolding spell_expr WellFormed Numbered after_expr unary_expr operated_or_postfix ahead
  unary-read env (Identifier w) z n i h num l follow short at_n = primary-as_unary env (Identifier w) z n i h num (omega arith) follow short at_n
  unary-read env (Number w) z n i h num l follow short at_n = primary-as_unary env (Number w) z n i h num (omega arith) follow short at_n
  unary-read env (Floating w) z n i h num l follow short at_n = primary-as_unary env (Floating w) z n i h num (omega arith) follow short at_n
  unary-read env (Character w) z n i h num l follow short at_n = primary-as_unary env (Character w) z n i h num (omega arith) follow short at_n
  unary-read env (Wide w) z n i h num l follow short at_n = primary-as_unary env (Wide w) z n i h num (omega arith) follow short at_n
  unary-read env (Strings ws) z n i h num l follow short at_n = primary-as_unary env (Strings ws) z n i h num (omega arith) follow short at_n
  unary-read env (Paren t e) z n i h num l follow short at_n = primary-as_unary env (Paren t e) z n i h num (omega arith) follow short at_n
  unary-read env (Postfix e ps) z n i h num l follow short at_n =
      unary-is_postfix env e (spell_postfixes ps z) i h.1 h.0
      ∙ postfix-read d parts known env e ps z n i h.1 h.3 num.0 num.1 h.0 follow short at_n
      ∙ same (after_postfixes (after_expr env e) ps) z (with-postfixes e ps h.2) (omega (arith, length-expr e (spell_postfixes ps [])))
  unary-read env (Unary t unary.Address e) z n i h num l follow short at_n =
      operated-read unary.Address env (unary_symbol unary.Address) e z n i h.1 num.1 h.0 follow (omega (arith, short)) at_n ∙ same (after_expr env e) z (ap (λ v. Unary v unary.Address e) (at_n ∙ sym num.0)) (omega arith)
  unary-read env (Unary t unary.Dereference e) z n i h num l follow short at_n =
      operated-read unary.Dereference env (unary_symbol unary.Dereference) e z n i h.1 num.1 h.0 follow (omega (arith, short)) at_n ∙ same (after_expr env e) z (ap (λ v. Unary v unary.Dereference e) (at_n ∙ sym num.0)) (omega arith)
  unary-read env (Unary t unary.Plus e) z n i h num l follow short at_n =
      operated-read unary.Plus env (unary_symbol unary.Plus) e z n i h.1 num.1 h.0 follow (omega (arith, short)) at_n ∙ same (after_expr env e) z (ap (λ v. Unary v unary.Plus e) (at_n ∙ sym num.0)) (omega arith)
  unary-read env (Unary t unary.Minus e) z n i h num l follow short at_n =
      operated-read unary.Minus env (unary_symbol unary.Minus) e z n i h.1 num.1 h.0 follow (omega (arith, short)) at_n ∙ same (after_expr env e) z (ap (λ v. Unary v unary.Minus e) (at_n ∙ sym num.0)) (omega arith)
  unary-read env (Unary t unary.Complement e) z n i h num l follow short at_n =
      operated-read unary.Complement env (unary_symbol unary.Complement) e z n i h.1 num.1 h.0 follow (omega (arith, short)) at_n ∙ same (after_expr env e) z (ap (λ v. Unary v unary.Complement e) (at_n ∙ sym num.0)) (omega arith)
  unary-read env (Unary t unary.Not e) z n i h num l follow short at_n =
      operated-read unary.Not env (unary_symbol unary.Not) e z n i h.1 num.1 h.0 follow (omega (arith, short)) at_n ∙ same (after_expr env e) z (ap (λ v. Unary v unary.Not e) (at_n ∙ sym num.0)) (omega arith)
  unary-read env (Unary t unary.Increment e) z n i h num l follow short at_n =
      operated-read unary.Increment env (unary_symbol unary.Increment) e z n i h.1 num.1 h.0 follow (omega (arith, short)) at_n ∙ same (after_expr env e) z (ap (λ v. Unary v unary.Increment e) (at_n ∙ sym num.0)) (omega arith)
  unary-read env (Unary t unary.Decrement e) z n i h num l follow short at_n =
      operated-read unary.Decrement env (unary_symbol unary.Decrement) e z n i h.1 num.1 h.0 follow (omega (arith, short)) at_n ∙ same (after_expr env e) z (ap (λ v. Unary v unary.Decrement e) (at_n ∙ sym num.0)) (omega arith)
  unary-read env (Unary t unary.Sizeof e) z n i h num l follow short at_n =
      size-read env e z n i h.1 num.1 h.0 follow (omega (arith, short)) at_n ∙ same (after_expr env e) z (ap (λ v. Unary v unary.Sizeof e) (at_n ∙ sym num.0)) (omega arith)
  unary-read env (SizeofType t ss x) z n i h num l follow short at_n =
      size-of_type env ss x z n i h.0 h.1 h.2 h.3 num.1 num.2 (omega (arith, short)) at_n
      ∙ same (after_declarator (after_specifiers env ss) x) z (ap (λ v. SizeofType v ss x) (at_n ∙ sym num.0))
      (omega (arith, length-specifiers ss (spell_declarator x (Sign m.CloseParen ∷ [])), length-declarator x (Sign m.CloseParen ∷ [])))
  unary-read env (Cast t ss x e) z n i h num l follow short at_n = absurd (omega (arith, l))
  unary-read env (Chain e ops) z n i h num l follow short at_n = absurd (chain_above e ops h.0 (omega (arith, l)))
  unary-read env (Conditional t c a b) z n i h num l follow short at_n = absurd (omega (arith, l))
  unary-read env (Assign t op a b) z n i h num l follow short at_n = absurd (omega (arith, l))

  -- ---- 6.3.4

  cast-other : (env : Env) (e : Expr) (z : List Symbol) (n i : ℕ) → WellFormed env e → Numbered n e → level e ≤ 2 → 2 < joins (head z) → length (spell_expr e z) ≤ d → i ≡ n
      → cast_expr parts (at env (spell_expr e z) i) ≡ Ok (e, at (after_expr env e) z (past_expr n e))
  unfolding cast_expr
  cast-other env e z n i h num l follow short at_n = rw (expr-no_cast env e z i h l) (unary-read env e z n i h num l follow short at_n)

  cast-to : (env : Env) (ss : Specifiers) (x : Declarator) (e : Expr) (z : List Symbol) (n i : ℕ) → HasSpecifier ss → NoStorage ss → WellFormedSpecifiers env false ss
      → WellFormedDeclarator (after_specifiers env ss) (has_type ss) tree.Nameless x → level e ≤ 3 → WellFormed (after_declarator (after_specifiers env ss) x) e
      → NumberedSpecifiers (n + 1) ss → NumberedDeclarator (past_specifiers (n + 1) ss) x → Numbered (past_declarator (past_specifiers (n + 1) ss) x + 1) e
      → 2 < joins (head z) → length (spell_specifiers ss (spell_declarator x (Sign m.CloseParen ∷ spell_expr e z))) < d → i ≡ n
      → cast_expr parts (at env (Sign m.OpenParen ∷ spell_specifiers ss (spell_declarator x (Sign m.CloseParen ∷ spell_expr e z))) i)
      ≡ Ok (Cast i ss x e, at (after_expr (after_declarator (after_specifiers env ss) x) e) z (past_expr (past_declarator (past_specifiers (n + 1) ss) x + 1) e))
  unfolding cast_expr cast_to
  cast-to env ss x e z n i has none w v l h num numd nume follow short at_n =
      rw (opens-type env ss (spell_declarator x (Sign m.CloseParen ∷ spell_expr e z)) i has none w)
      (rw (type_name-read d parts known env ss x (spell_expr e z) (n + 1) i has none w v num numd short (omega (arith, at_n)))
      (rw (known.expr 3 (omega arith) (after_declarator (after_specifiers env ss) x) e z (past_declarator (past_specifiers (n + 1) ss) x + 1) (past_declarator (past_specifiers (n + 1) ss) x + 1) h nume l (above_unary (head z) follow)
      (omega (arith, short, length-specifiers ss (spell_declarator x (Sign m.CloseParen ∷ spell_expr e z)), length-declarator x (Sign m.CloseParen ∷ spell_expr e z))) refl) refl))

  pub cast-read : (env : Env) (e : Expr) (z : List Symbol) (n i : ℕ) → WellFormed env e → Numbered n e → level e ≤ 3 → 2 < joins (head z) → length (spell_expr e z) ≤ d → i ≡ n
      → cast_expr parts (at env (spell_expr e z) i) ≡ Ok (e, at (after_expr env e) z (past_expr n e))
  unfolding spell_expr WellFormed Numbered after_expr
  cast-read env (Identifier w) z n i h num l follow short at_n = cast-other env (Identifier w) z n i h num (omega arith) follow short at_n
  cast-read env (Number w) z n i h num l follow short at_n = cast-other env (Number w) z n i h num (omega arith) follow short at_n
  cast-read env (Floating w) z n i h num l follow short at_n = cast-other env (Floating w) z n i h num (omega arith) follow short at_n
  cast-read env (Character w) z n i h num l follow short at_n = cast-other env (Character w) z n i h num (omega arith) follow short at_n
  cast-read env (Wide w) z n i h num l follow short at_n = cast-other env (Wide w) z n i h num (omega arith) follow short at_n
  cast-read env (Strings ws) z n i h num l follow short at_n = cast-other env (Strings ws) z n i h num (omega arith) follow short at_n
  cast-read env (Paren t e) z n i h num l follow short at_n = cast-other env (Paren t e) z n i h num (omega arith) follow short at_n
  cast-read env (Postfix e ps) z n i h num l follow short at_n = cast-other env (Postfix e ps) z n i h num (omega arith) follow short at_n
  cast-read env (Unary t op e) z n i h num l follow short at_n = cast-other env (Unary t op e) z n i h num (omega arith) follow short at_n
  cast-read env (SizeofType t ss x) z n i h num l follow short at_n = cast-other env (SizeofType t ss x) z n i h num (omega arith) follow short at_n
  cast-read env (Cast t ss x e) z n i h num l follow short at_n =
      cast-to env ss x e z n i h.0 h.1 h.2 h.3 h.4 h.5 num.1 num.2 num.3 follow (omega (arith, short)) at_n
      ∙ same (after_expr (after_declarator (after_specifiers env ss) x) e) z (ap (λ v. Cast v ss x e) (at_n ∙ sym num.0))
      (omega (arith, length-specifiers ss (spell_declarator x (Sign m.CloseParen ∷ spell_expr e [])), length-declarator x (Sign m.CloseParen ∷ spell_expr e [])))
  cast-read env (Chain e ops) z n i h num l follow short at_n = absurd (chain_above e ops h.0 l)
  cast-read env (Conditional t c a b) z n i h num l follow short at_n = absurd (omega (arith, l))
  cast-read env (Assign t op a b) z n i h num l follow short at_n = absurd (omega (arith, l))
