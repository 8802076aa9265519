-- Unary expressions and casts that are read are trees (6.3.3, 6.3.4).
use Rattle.std.proofs.Common.{◌≡◌, ℕ, ◌≤◌, [], ◌∷◌, Option, Some, None, arith, refl, subst}
use Rattle.pw_tree.specs.Numbering.{past_specifiers, Numbered, NumberedSpecifiers, NumberedDeclarator}
use Rattle.pw_tree.specs.Scopes.{after_expr, after_specifiers, after_declarator, Env}
use Rattle.pw_tree.specs.Spelling.{spell_expr, spell_declarator}
use Rattle.pw_tree.specs.Symbols.{Symbol, Reserved, Sign, unary_symbol}
use Rattle.pw_tree.specs.Trees.{Expr, Unary, SizeofType, Cast, Specifiers, Declarator}
use Rattle.pw_tree.specs.WellFormed.{operand_level, WellFormed}
use Rattle.pw_tree.specs.declared.operator.UnaryOperator.{UnaryOperator}
use Rattle.pw_tree.specs.declared.operator.UnaryOperator.TheVariants as unary
use Rattle.pw_token.specs.declared.symbol.Keyword.TheVariants as k
use Rattle.pw_token.specs.declared.symbol.Mark.TheVariants as m
use Rattle.pw_parse_grammar.specs.Input.{Input, ahead, step, Parser, ◌>>=◌, pure, ◌<$>◌}
use Rattle.pw_parse_grammar.specs.Parts.{Parts}
use Rattle.pw_parse_grammar.specs.Expressions.{postfix_expr, operated, size, operated_or_postfix, unary_by, unary_expr, cast_to, cast_expr, enclosed_type_name}
use Rattle.pw_parse_grammar.specs.Tests.{opens_type_name}
use Rattle.pw_parse_grammar.proofs.Trees.Base.{names_of}
use Rattle.pw_parse_grammar.proofs.Sound.Base.{Post, bind, weaken, choose_parser, Reads, both, token}
use Rattle.pw_parse_grammar.proofs.Trees.Lengths.{length-specifiers}
use Rattle.pw_parse_grammar.proofs.Sound.Parts.{IsExpr, SoundExpr, Sound}
use Rattle.pw_parse_grammar.proofs.Sound.Primaries.{IsEnclosed, enclosed-sound}
use Rattle.pw_parse_grammar.proofs.Sound.Postfixes.{postfix-sound}

-- an expression of a level is one of a greater level
pub lifted : (k l : ℕ) (env : Env) (i : Input) (e : Expr) (j : Input) → k ≤ l → IsExpr k env i e j → IsExpr l env i e j
lifted k l env i e j h q = record { reads = q.reads; holds = q.holds; low = omega (arith, h, q.low); numbered = q.numbered }

pub lift-sound : (k l : ℕ) (p : Parser Expr) → k ≤ l → SoundExpr k p → SoundExpr l p
lift-sound k l p h f env i names = weaken _ (p i) (f env i names) (λ e j q. lifted k l env i e j h q)

module _ (parts : Parts) (sound : Sound parts) where
  -- ---- 6.3.3

  pub two_or_more : (op : UnaryOperator) → 2 ≤ operand_level op
  two_or_more unary.Address = omega arith
  two_or_more unary.Dereference = omega arith
  two_or_more unary.Plus = omega arith
  two_or_more unary.Minus = omega arith
  two_or_more unary.Complement = omega arith
  two_or_more unary.Not = omega arith
  two_or_more unary.Increment = omega arith
  two_or_more unary.Decrement = omega arith
  two_or_more unary.Sizeof = omega arith

  operated-sound : (op : UnaryOperator) (env : Env) (i : Input) → ahead i ≡ Some (unary_symbol op) → i.names ≡ names_of env → Post (IsExpr 2 env i) (operated parts op i)
  unfolding operated spell_expr after_expr WellFormed Numbered
  operated-sound op env i h names =
      let opening = token i env (unary_symbol op) h names in
      bind _ (parts.expr (operand_level op) (step i)) (λ e. pure (Unary i.next op e)) (sound.expr (operand_level op) (two_or_more op) env (step i) opening.names) (λ e j q.
      record {
        reads = both opening q.reads;
        holds = (q.low, q.holds);
        low = omega arith;
        numbered = (refl, subst (λ v. Numbered v e) opening.next q.numbered);
      })

  -- the size of a type
  size_of_type : (env : Env) (i : Input) (named : Specifiers × Declarator) (end : Input) → Reads i (step i) env (λ z. Reserved k.Sizeof ∷ z) → IsEnclosed parts sound env (step i) named end
      → IsExpr 2 env i (SizeofType i.next named.0 named.1) end
  unfolding spell_expr after_expr WellFormed Numbered
  size_of_type env i named end opening q =
      record {
        reads = both opening (both q.opening (both q.name.reads q.closing));
        holds = (q.name.has, q.name.none, q.name.specifiers, q.name.declarator);
        low = omega arith;
        numbered = (
          refl,
          subst (λ v. NumberedSpecifiers v named.0) (omega (arith, opening.next, q.opening.next)) q.name.numbered,
          subst (λ v. NumberedDeclarator (past_specifiers v named.0) named.1) (omega (arith, opening.next, q.opening.next)) q.name.behind,
        );
      }

  size_of_expr : (env : Env) (i : Input) (e : Expr) (end : Input) → Reads i (step i) env (λ z. Reserved k.Sizeof ∷ z) → IsExpr 2 env (step i) e end
      → IsExpr 2 env i (Unary i.next unary.Sizeof e) end
  unfolding spell_expr after_expr WellFormed Numbered
  size_of_expr env i e end opening q =
      record {
        reads = both opening q.reads;
        holds = (q.low, q.holds);
        low = omega arith;
        numbered = (refl, subst (λ v. Numbered v e) opening.next q.numbered);
      }

  size-sound : (env : Env) (i : Input) → ahead i ≡ Some (Reserved k.Sizeof) → i.names ≡ names_of env → Post (IsExpr 2 env i) (size parts i)
  unfolding size
  size-sound env i h names =
      let opening = token i env (Reserved k.Sizeof) h names in
      choose_parser _ (opens_type_name (step i)) (enclosed_type_name parts >>= λ named. pure (SizeofType i.next named.0 named.1)) (Unary i.next unary.Sizeof <$> parts.expr 2) (step i)
      (λ _. bind _ (enclosed_type_name parts (step i)) (λ named. pure (SizeofType i.next named.0 named.1)) (enclosed-sound parts sound env (step i) opening.names) (λ named k q. size_of_type env i named k opening q))
      (λ _. bind _ (parts.expr 2 (step i)) (λ e. pure (Unary i.next unary.Sizeof e)) (sound.expr 2 (omega arith) env (step i) opening.names) (λ e k q. size_of_expr env i e k opening q))

  as_unary : SoundExpr 2 (postfix_expr parts)
  as_unary = lift-sound 1 2 (postfix_expr parts) (omega arith) (postfix-sound parts sound)

  unary-by : (env : Env) (i : Input) → i.names ≡ names_of env → (s : Option Symbol) → ahead i ≡ s → Post (IsExpr 2 env i) (unary_by parts s i)
  unfolding operated_or_postfix
  unary-by env i names (Some (Sign m.Ampersand)) h = operated-sound unary.Address env i h names
  unary-by env i names (Some (Sign m.Star)) h = operated-sound unary.Dereference env i h names
  unary-by env i names (Some (Sign m.Plus)) h = operated-sound unary.Plus env i h names
  unary-by env i names (Some (Sign m.Minus)) h = operated-sound unary.Minus env i h names
  unary-by env i names (Some (Sign m.Tilde)) h = operated-sound unary.Complement env i h names
  unary-by env i names (Some (Sign m.Exclamation)) h = operated-sound unary.Not env i h names
  unary-by env i names (Some (Sign m.Increment)) h = operated-sound unary.Increment env i h names
  unary-by env i names (Some (Sign m.Decrement)) h = operated-sound unary.Decrement env i h names
  unary-by env i names (Some (Reserved k.Sizeof)) h = size-sound env i h names
  unary-by env i names None h = as_unary env i names
  unary-by env i names (Some _) h = as_unary env i names

  pub unary-sound : SoundExpr 2 (unary_expr parts)
  unfolding unary_expr
  unary-sound env i names = unary-by env i names (ahead i) refl

  -- ---- 6.3.4

  cast_to-whole : (env : Env) (i : Input) (named : Specifiers × Declarator) (j : Input) (e : Expr) (k : Input) → IsEnclosed parts sound env i named j → IsExpr 3 (after_declarator (after_specifiers env named.0) named.1) j e k
      → IsExpr 3 env i (Cast i.next named.0 named.1 e) k
  unfolding spell_expr after_expr WellFormed Numbered
  cast_to-whole env i named j e k q r =
      record {
        reads = both q.opening (both q.name.reads (both q.closing r.reads));
        holds = (q.name.has, q.name.none, q.name.specifiers, q.name.declarator, r.low, r.holds);
        low = omega arith;
        numbered = (
          refl,
          subst (λ v. NumberedSpecifiers v named.0) q.opening.next q.name.numbered,
          subst (λ v. NumberedDeclarator (past_specifiers v named.0) named.1) q.opening.next q.name.behind,
          subst (λ v. Numbered v e) (omega (arith, q.opening.next, q.name.reads.next, q.closing.next, length-specifiers named.0 (spell_declarator named.1 []))) r.numbered,
        );
      }

  cast_to-sound : SoundExpr 3 (cast_to parts)
  unfolding cast_to
  cast_to-sound env i names =
      bind _ (enclosed_type_name parts i) (λ named. parts.expr 3 >>= λ e. pure (Cast i.next named.0 named.1 e)) (enclosed-sound parts sound env i names) (λ named j q.
      bind _ (parts.expr 3 j) (λ e. pure (Cast i.next named.0 named.1 e)) (sound.expr 3 (omega arith) (after_declarator (after_specifiers env named.0) named.1) j q.closing.names) (λ e k r.
      cast_to-whole env i named j e k q r))

  pub cast-sound : SoundExpr 3 (cast_expr parts)
  unfolding cast_expr
  cast-sound env i names = choose_parser _ (opens_type_name i) (cast_to parts) (unary_expr parts) i
      (λ _. cast_to-sound env i names)
      (λ _. lift-sound 2 3 (unary_expr parts) (omega arith) unary-sound env i names)
