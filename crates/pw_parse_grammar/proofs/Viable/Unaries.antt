-- Faults in unary expressions and casts (6.3.3, 6.3.4).
use Rattle.std.proofs.Common.{◌≡◌, ℕ, suc, ◌<◌, ◌≤◌, length, Option, Some, None, arith, refl}
use Rattle.pw_tree.specs.Scopes.{Env, after_declarator, after_specifiers}
use Rattle.pw_tree.specs.Spelling.{spell_expr}
use Rattle.pw_tree.specs.Symbols.{Symbol, Reserved, Sign, unary_symbol}
use Rattle.pw_tree.specs.Trees.{Expr, Unary, SizeofType, Cast, Specifiers, Declarator}
use Rattle.pw_tree.specs.WellFormed.{operand_level, WellFormed}
use Rattle.pw_tree.specs.declared.operator.UnaryOperator.{UnaryOperator}
use Rattle.pw_tree.specs.declared.operator.UnaryOperator.TheVariants as unary
use Rattle.pw_token.specs.declared.symbol.Keyword.TheVariants as k
use Rattle.pw_token.specs.declared.symbol.Mark.TheVariants as m
use Rattle.pw_parse_grammar.specs.Input.{Input, ahead, step, Parser, ◌>>=◌, pure, ◌<$>◌}
use Rattle.pw_parse_grammar.specs.Parts.{Parts}
use Rattle.pw_parse_grammar.specs.Expressions.{postfix_expr, operated, size, operated_or_postfix, unary_by, unary_expr, cast_to, cast_expr, enclosed_type_name}
use Rattle.pw_parse_grammar.specs.Tests.{opens_type_name}
use Rattle.pw_parse_grammar.proofs.Trees.Base.{names_of}
use Rattle.pw_parse_grammar.proofs.Sound.Base.{both, token}
use Rattle.pw_parse_grammar.proofs.Sound.Parts.{Sound}
use Rattle.pw_parse_grammar.proofs.Sound.Primaries.{enclosed-sound}
use Rattle.pw_parse_grammar.proofs.Sound.Unaries.{two_or_more}
use Rattle.pw_parse_grammar.proofs.Viable.Base.{Fails, bind-fails, map-fails, weaken-fails, choose-fails, Begins, Viable, embed, as_part, counted}
use Rattle.pw_parse_grammar.proofs.Viable.Parts.{zero_expr, exprs, ViableExpr, ViableParts}
use Rattle.pw_parse_grammar.proofs.Viable.Primaries.{type_names, enclosed_names, enclosed-fails}
use Rattle.pw_parse_grammar.proofs.Viable.Postfixes.{postfix-fails}

-- what begins an expression of a level begins one of a greater level
pub raised : (k l : ℕ) (env : Env) (i e : Input) → k ≤ l → Viable (exprs k) env i e → Viable (exprs l) env i e
raised k l env i e h v = as_part v (λ x q. record { thing = x; holds = (q.0, omega (arith, h, q.1)); spells = λ z. (z, refl) })

pub raise-fails : (d k l : ℕ) (p : Parser Expr) → k ≤ l → ViableExpr d k p → ViableExpr d l p
raise-fails d k l p h f env i names below = weaken-fails _ (p i) (f env i names below) (λ e v. raised k l env i e h v)

module _ (parts : Parts) (sound : Sound parts) (d : ℕ) (viable : ViableParts d parts) where
  -- ---- 6.3.3

  operated-fails : (op : UnaryOperator) (env : Env) (i : Input) → ahead i ≡ Some (unary_symbol op) → i.names ≡ names_of env → length i.rest < suc d → Fails (Viable (exprs 2) env i) (operated parts op i)
  unfolding operated spell_expr WellFormed
  operated-fails op env i h names below =
      let opening = token i env (unary_symbol op) h names in
      map-fails _ (Unary i.next op) (parts.expr (operand_level op) (step i)) (weaken-fails _ (parts.expr (operand_level op) (step i)) (viable.expr (operand_level op) (two_or_more parts sound op) env (step i) opening.names (omega (arith, below, counted opening)))
      (λ e v. embed opening v (λ x q. record { thing = Unary i.next op x; holds = ((q.1, q.0), omega arith); spells = λ z. (z, refl) })))

  size-fails : (env : Env) (i : Input) → ahead i ≡ Some (Reserved k.Sizeof) → i.names ≡ names_of env → length i.rest < suc d → Fails (Viable (exprs 2) env i) (size parts i)
  unfolding size spell_expr WellFormed
  size-fails env i h names below =
      let opening = token i env (Reserved k.Sizeof) h names in
      choose-fails _ _ (opens_type_name (step i)) (enclosed_type_name parts >>= λ named. pure (SizeofType i.next named.0 named.1)) (Unary i.next unary.Sizeof <$> parts.expr 2) (step i)
      (λ _. map-fails _ (λ named. SizeofType i.next named.0 named.1) (enclosed_type_name parts (step i)) (weaken-fails _ (enclosed_type_name parts (step i)) (enclosed-fails parts sound d viable env (step i) opening.names (omega (arith, below, counted opening)))
      (λ e v. embed opening v (λ named q. record { thing = SizeofType i.next named.0 named.1; holds = (q, omega arith); spells = λ z. (z, refl) }))))
      (λ _. map-fails _ (Unary i.next unary.Sizeof) (parts.expr 2 (step i)) (weaken-fails _ (parts.expr 2 (step i)) (viable.expr 2 (omega arith) env (step i) opening.names (omega (arith, below, counted opening)))
      (λ e v. embed opening v (λ x q. record { thing = Unary i.next unary.Sizeof x; holds = ((q.1, q.0), omega arith); spells = λ z. (z, refl) }))))

  as_unary : ViableExpr (suc d) 2 (postfix_expr parts)
  as_unary = raise-fails (suc d) 1 2 (postfix_expr parts) (omega arith) (postfix-fails parts sound d viable)

  unary-by : (env : Env) (i : Input) → i.names ≡ names_of env → length i.rest < suc d → (s : Option Symbol) → ahead i ≡ s → Fails (Viable (exprs 2) env i) (unary_by parts s i)
  unfolding operated_or_postfix
  unary-by env i names below (Some (Sign m.Ampersand)) h = operated-fails unary.Address env i h names below
  unary-by env i names below (Some (Sign m.Star)) h = operated-fails unary.Dereference env i h names below
  unary-by env i names below (Some (Sign m.Plus)) h = operated-fails unary.Plus env i h names below
  unary-by env i names below (Some (Sign m.Minus)) h = operated-fails unary.Minus env i h names below
  unary-by env i names below (Some (Sign m.Tilde)) h = operated-fails unary.Complement env i h names below
  unary-by env i names below (Some (Sign m.Exclamation)) h = operated-fails unary.Not env i h names below
  unary-by env i names below (Some (Sign m.Increment)) h = operated-fails unary.Increment env i h names below
  unary-by env i names below (Some (Sign m.Decrement)) h = operated-fails unary.Decrement env i h names below
  unary-by env i names below (Some (Reserved k.Sizeof)) h = size-fails env i h names below
  unary-by env i names below None h = as_unary env i names below
  unary-by env i names below (Some _) h = as_unary env i names below

  pub unary-fails : ViableExpr (suc d) 2 (unary_expr parts)
  unfolding unary_expr
  unary-fails env i names below = unary-by env i names below (ahead i) refl

  -- ---- 6.3.4

  cast_to-fails : ViableExpr (suc d) 3 (cast_to parts)
  unfolding cast_to spell_expr WellFormed
  cast_to-fails env i names below =
      bind-fails _ _ (enclosed_type_name parts i) _ (enclosed-sound parts sound env i names) (enclosed-fails parts sound d viable env i names below)
      (λ e v. as_part v (λ named q. of_zero named q))
      (λ named j q. let all = both q.opening (both q.name.reads q.closing) in
      map-fails _ (Cast i.next named.0 named.1) (parts.expr 3 j) (weaken-fails _ (parts.expr 3 j) (viable.expr 3 (omega arith) (after_declarator (after_specifiers env named.0) named.1) j q.closing.names (omega (arith, below, counted all)))
      (λ e v. embed all v (λ x r. of named x (q.name.has, q.name.none, q.name.specifiers, q.name.declarator) r))))
    where
      of : (named : Specifiers × Declarator) (x : Expr) → type_names.holds env named → (exprs 3).holds (after_declarator (after_specifiers env named.0) named.1) x → Begins (exprs 3) env (λ z. enclosed_names.put named (spell_expr x z))
      of named x q r = record { thing = Cast i.next named.0 named.1 x; holds = ((q.0, q.1, q.2, q.3, r.1, r.0), omega arith); spells = λ z. (z, refl) }

      of_zero : (named : Specifiers × Declarator) → type_names.holds env named → Begins (exprs 3) env (enclosed_names.put named)
      of_zero named q = record { thing = Cast i.next named.0 named.1 zero_expr; holds = ((q.0, q.1, q.2, q.3, omega arith, tt), omega arith); spells = λ z. (spell_expr zero_expr z, refl) }

  pub cast-fails : ViableExpr (suc d) 3 (cast_expr parts)
  unfolding cast_expr
  cast-fails env i names below = choose-fails _ _ (opens_type_name i) (cast_to parts) (unary_expr parts) i
      (λ _. cast_to-fails env i names below)
      (λ _. raise-fails (suc d) 2 3 (unary_expr parts) (omega arith) unary-fails env i names below)
