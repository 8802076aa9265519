-- Postfix expressions are read (6.3.2).
use Rattle.std.proofs.Common.{◌≡◌, ℕ, zero, suc, ◌+◌, ◌<◌, ◌≤◌, true, false, List, [], ◌∷◌, length, map, Some, Ok, arith, refl, sym, ap, ◌∙◌}
use Rattle.pw_tree.specs.Levels.{level}
use Rattle.pw_tree.specs.Numbering.{past_expr, past_postfixes, past_arguments, Numbered, NumberedPostfixes, NumberedArguments}
use Rattle.pw_tree.specs.Scopes.{after_expr, after_postfixes, after_arguments, Env}
use Rattle.pw_tree.specs.Spelling.{spell_expr, spell_postfixes, spell_arguments}
use Rattle.pw_tree.specs.Symbols.{Symbol, Sign}
use Rattle.pw_tree.specs.Trees.{Expr, Postfixes, NoPostfix, Index, Call, Select, Step, Arguments, NoArgument, Argument}
use Rattle.pw_tree.specs.WellFormed.{WellFormed, WellFormedPostfixes, WellFormedArguments}
use Rattle.pw_tree.specs.declared.operator.Access.TheVariants as access
use Rattle.pw_tree.specs.declared.operator.StepOperator.TheVariants as stepping
use Rattle.pw_token.specs.declared.symbol.Mark.TheVariants as m
use Rattle.pw_parse_grammar.specs.Input.{ahead, step, same_mark, sees, ◌<$>◌, expect, identifier_by, repeat, turn_of, unless_comma}
use Rattle.pw_parse_grammar.specs.Parts.{Parts}
use Rattle.pw_parse_grammar.specs.Expressions.{with_postfixes, argument, some_arguments, arguments, index, call, select, step_behind, postfix_operation, postfixes, postfix_expr}
use Rattle.pw_parse_grammar.proofs.Trees.Base.{at, same, turns_enough, no_turns, some_more, some_last, item_turn, item_more, item_last, comma_more, comma_last}
use Rattle.pw_parse_grammar.proofs.Trees.Follow.{Follow, head, joins, is_text, no_text, no_postfix, no_comma}
use Rattle.pw_parse_grammar.proofs.Trees.Heads.{expr-begins, expr-no_close_paren}
use Rattle.pw_parse_grammar.proofs.Written.Knows.{Knows}
use Rattle.pw_parse_grammar.proofs.Trees.Lengths.{length-expr, length-arguments}
use Rattle.pw_parse_grammar.proofs.Written.Primaries.{whole, primary-read}

module _ (d : ℕ) (parts : Parts) (known : Knows d parts) where
  -- ---- arguments

  arguments-follow : (es : Arguments) (z : List Symbol) → Follow 16 z → Follow 15 (spell_arguments false es z)
  unfolding spell_expr
  arguments-follow NoArgument z h = omega (arith, h)
  arguments-follow (Argument e es) z h = omega arith

  arguments-turns : (count : ℕ) (env : Env) (e : Expr) (es : Arguments) (z : List Symbol) (n i : ℕ) → WellFormedArguments env (Argument e es) → Numbered n e → NumberedArguments false (past_expr n e) es
      → Follow 16 z → length (spell_expr e (spell_arguments false es z)) < count → length (spell_expr e (spell_arguments false es z)) < d → i ≡ n
      → repeat (item_turn (argument parts) (unless_comma NoArgument)) count (at env (spell_expr e (spell_arguments false es z)) i)
      ≡ Ok (Argument e es, at (after_arguments (after_expr env e) es) z (past_arguments false (past_expr n e) es))
  unfolding spell_expr WellFormed Numbered after_expr argument
  arguments-turns zero env e es z n i w num nums follow enough short at_n = no_turns enough
  arguments-turns (suc count) env e NoArgument z n i w num nums follow enough short at_n =
      item_last (argument parts) (unless_comma NoArgument) count (at env (spell_expr e z) i) (at (after_expr env e) z (past_expr n e)) (at (after_expr env e) z (past_expr n e)) (Argument e) NoArgument
      (rw (known.expr 15 (omega arith) env e z n i w.1 num w.0 (omega (arith, follow)) short at_n) refl)
      (comma_last NoArgument (after_expr env e) z (past_expr n e) (no_comma (head z) follow))
      ∙ same (after_expr env e) z refl (omega arith)
  arguments-turns (suc count) env e (Argument f es) z n i w num nums follow enough short at_n =
      item_more (argument parts) (unless_comma NoArgument) count (at env (spell_expr e (Sign m.Comma ∷ spell_expr f (spell_arguments false es z))) i)
      (at (after_expr env e) (Sign m.Comma ∷ spell_expr f (spell_arguments false es z)) (past_expr n e)) (at (after_expr env e) (spell_expr f (spell_arguments false es z)) (past_expr n e + 1))
      (at (after_arguments (after_expr (after_expr env e) f) es) z (past_arguments false (past_expr (past_expr n e + 1) f) es)) (Argument e) (Argument f es)
      (rw (known.expr 15 (omega arith) env e (Sign m.Comma ∷ spell_expr f (spell_arguments false es z)) n i w.1 num w.0 (omega arith) short at_n) refl)
      (comma_more NoArgument (after_expr env e) (spell_expr f (spell_arguments false es z)) (past_expr n e))
      (arguments-turns count (after_expr env e) f es z (past_expr n e + 1) (past_expr n e + 1) w.2 nums.0 nums.1 follow
      (omega (arith, enough, length-expr e (Sign m.Comma ∷ spell_expr f (spell_arguments false es z)))) (omega (arith, short, length-expr e (Sign m.Comma ∷ spell_expr f (spell_arguments false es z)))) refl)
      ∙ same (after_arguments (after_expr (after_expr env e) f) es) z refl (omega (arith, length-expr f (spell_arguments false es [])))

  -- arguments up to the `)`
  arguments-read : (env : Env) (es : Arguments) (z : List Symbol) (n i : ℕ) → WellFormedArguments env es → NumberedArguments true n es → length (spell_arguments true es (Sign m.CloseParen ∷ z)) < d → i ≡ n
      → arguments parts (at env (spell_arguments true es (Sign m.CloseParen ∷ z)) i) ≡ Ok (es, at (after_arguments env es) (Sign m.CloseParen ∷ z) (past_arguments true n es))
  unfolding spell_expr WellFormed Numbered after_expr arguments some_arguments sees ahead same_mark
  arguments-read env NoArgument z n i w num short at_n = same env (Sign m.CloseParen ∷ z) refl (omega (arith, at_n))
  arguments-read env (Argument e es) z n i w num short at_n =
      rw (expr-no_close_paren env (head (spell_expr e (spell_arguments false es (Sign m.CloseParen ∷ z)))) (expr-begins env e (spell_arguments false es (Sign m.CloseParen ∷ z)) w.1))
      (arguments-turns _ env e es (Sign m.CloseParen ∷ z) n i w num.0 num.1 (omega arith) (turns_enough (spell_expr e (spell_arguments false es (Sign m.CloseParen ∷ z)))) short at_n
      ∙ same (after_arguments (after_expr env e) es) (Sign m.CloseParen ∷ z) refl (omega (arith, length-expr e (spell_arguments false es []))))

  -- ---- 6.3.2

  index-read : (env : Env) (e : Expr) (z : List Symbol) (n i : ℕ) → WellFormed env e → Numbered (n + 1) e → length (spell_expr e (Sign m.CloseBracket ∷ z)) < d → i ≡ n
      → index parts (at env (Sign m.OpenBracket ∷ spell_expr e (Sign m.CloseBracket ∷ z)) i) ≡ Ok (Index i e, at (after_expr env e) z (past_expr (n + 1) e + 1))
  unfolding index step ahead expect sees same_mark
  index-read env e z n i w num short at_n = rw (whole d parts known env e (Sign m.CloseBracket ∷ z) (n + 1) (i + 1) w num (omega arith) short (omega (arith, at_n))) refl

  call-read : (env : Env) (es : Arguments) (z : List Symbol) (n i : ℕ) → WellFormedArguments env es → NumberedArguments true (n + 1) es → length (spell_arguments true es (Sign m.CloseParen ∷ z)) < d → i ≡ n
      → call parts (at env (Sign m.OpenParen ∷ spell_arguments true es (Sign m.CloseParen ∷ z)) i) ≡ Ok (Call i es, at (after_arguments env es) z (past_arguments true (n + 1) es + 1))
  unfolding call step ahead expect sees same_mark
  call-read env es z n i w num short at_n = rw (arguments-read env es z (n + 1) (i + 1) w num short (omega (arith, at_n))) refl

  postfixes-turns : (count : ℕ) (env : Env) (ps : Postfixes) (z : List Symbol) (n i : ℕ) → WellFormedPostfixes env ps → NumberedPostfixes n ps → 2 < joins (head z)
      → length (spell_postfixes ps z) < count → length (spell_postfixes ps z) ≤ d → i ≡ n
      → repeat (turn_of NoPostfix <$> postfix_operation parts) count (at env (spell_postfixes ps z) i) ≡ Ok (ps, at (after_postfixes env ps) z (past_postfixes n ps))
  unfolding spell_expr WellFormed Numbered after_expr postfix_operation ahead step select step_behind identifier_by
  postfixes-turns zero env ps z n i w num follow enough short at_n = no_turns enough
  postfixes-turns (suc count) env NoPostfix z n i w num follow enough short at_n =
      some_last NoPostfix (postfix_operation parts) count (at env z i) (at env z i) (rw (no_postfix parts (head z) follow) refl) ∙ same env z refl (omega (arith, at_n))
  postfixes-turns (suc count) env (Index t e ps) z n i w num follow enough short at_n =
      let long = length-expr e (Sign m.CloseBracket ∷ spell_postfixes ps z) in
      some_more NoPostfix (postfix_operation parts) count (at env (spell_postfixes (Index t e ps) z) i) (at (after_expr env e) (spell_postfixes ps z) (past_expr (n + 1) e + 1))
      (at (after_postfixes (after_expr env e) ps) z (past_postfixes (past_expr (n + 1) e + 1) ps)) (Index i e) ps
      (rw (index-read env e (spell_postfixes ps z) n i w.0 num.1 (omega (arith, short)) at_n) refl)
      (postfixes-turns count (after_expr env e) ps z (past_expr (n + 1) e + 1) (past_expr (n + 1) e + 1) w.1 num.2 follow (omega (arith, enough, long)) (omega (arith, short, long)) refl)
      ∙ same (after_postfixes (after_expr env e) ps) z (ap (λ v. Index v e ps) (at_n ∙ sym num.0)) (omega (arith, length-expr e (Sign m.CloseBracket ∷ spell_postfixes ps [])))
  postfixes-turns (suc count) env (Call t es ps) z n i w num follow enough short at_n =
      let long = length-arguments true es (Sign m.CloseParen ∷ spell_postfixes ps z) in
      some_more NoPostfix (postfix_operation parts) count (at env (spell_postfixes (Call t es ps) z) i) (at (after_arguments env es) (spell_postfixes ps z) (past_arguments true (n + 1) es + 1))
      (at (after_postfixes (after_arguments env es) ps) z (past_postfixes (past_arguments true (n + 1) es + 1) ps)) (Call i es) ps
      (rw (call-read env es (spell_postfixes ps z) n i w.0 num.1 (omega (arith, short)) at_n) refl)
      (postfixes-turns count (after_arguments env es) ps z (past_arguments true (n + 1) es + 1) (past_arguments true (n + 1) es + 1) w.1 num.2 follow (omega (arith, enough, long)) (omega (arith, short, long)) refl)
      ∙ same (after_postfixes (after_arguments env es) ps) z (ap (λ v. Call v es ps) (at_n ∙ sym num.0)) (omega (arith, length-arguments true es (Sign m.CloseParen ∷ spell_postfixes ps [])))
  postfixes-turns (suc count) env (Select t access.Dot x ps) z n i w num follow enough short at_n =
      some_more NoPostfix (postfix_operation parts) count (at env (spell_postfixes (Select t access.Dot x ps) z) i) (at env (spell_postfixes ps z) (i + 1 + 1))
      (at (after_postfixes env ps) z (past_postfixes (n + 2) ps)) (Select i access.Dot (record { token = i + 1; text = x.text })) ps refl
      (postfixes-turns count env ps z (n + 2) (i + 1 + 1) w num.2 follow (omega (arith, enough)) (omega (arith, short)) (omega (arith, at_n)))
      ∙ same (after_postfixes env ps) z (ap (λ v. Select v access.Dot (record { token = i + 1; text = x.text }) ps) (at_n ∙ sym num.0) ∙ ap (λ v. Select t access.Dot (record { token = v; text = x.text }) ps) (omega (arith, at_n, num.1))) (omega arith)
  postfixes-turns (suc count) env (Select t access.Arrow x ps) z n i w num follow enough short at_n =
      some_more NoPostfix (postfix_operation parts) count (at env (spell_postfixes (Select t access.Arrow x ps) z) i) (at env (spell_postfixes ps z) (i + 1 + 1))
      (at (after_postfixes env ps) z (past_postfixes (n + 2) ps)) (Select i access.Arrow (record { token = i + 1; text = x.text })) ps refl
      (postfixes-turns count env ps z (n + 2) (i + 1 + 1) w num.2 follow (omega (arith, enough)) (omega (arith, short)) (omega (arith, at_n)))
      ∙ same (after_postfixes env ps) z (ap (λ v. Select v access.Arrow (record { token = i + 1; text = x.text }) ps) (at_n ∙ sym num.0) ∙ ap (λ v. Select t access.Arrow (record { token = v; text = x.text }) ps) (omega (arith, at_n, num.1))) (omega arith)
  postfixes-turns (suc count) env (Step t stepping.Increment ps) z n i w num follow enough short at_n =
      some_more NoPostfix (postfix_operation parts) count (at env (spell_postfixes (Step t stepping.Increment ps) z) i) (at env (spell_postfixes ps z) (i + 1))
      (at (after_postfixes env ps) z (past_postfixes (n + 1) ps)) (Step i stepping.Increment) ps refl
      (postfixes-turns count env ps z (n + 1) (i + 1) w num.1 follow (omega (arith, enough)) (omega (arith, short)) (omega (arith, at_n)))
      ∙ same (after_postfixes env ps) z (ap (λ v. Step v stepping.Increment ps) (at_n ∙ sym num.0)) (omega arith)
  postfixes-turns (suc count) env (Step t stepping.Decrement ps) z n i w num follow enough short at_n =
      some_more NoPostfix (postfix_operation parts) count (at env (spell_postfixes (Step t stepping.Decrement ps) z) i) (at env (spell_postfixes ps z) (i + 1))
      (at (after_postfixes env ps) z (past_postfixes (n + 1) ps)) (Step i stepping.Decrement) ps refl
      (postfixes-turns count env ps z (n + 1) (i + 1) w num.1 follow (omega (arith, enough)) (omega (arith, short)) (omega (arith, at_n)))
      ∙ same (after_postfixes env ps) z (ap (λ v. Step v stepping.Decrement ps) (at_n ∙ sym num.0)) (omega arith)

  postfixes-text : (ps : Postfixes) (z : List Symbol) → 2 < joins (head z) → is_text (head (spell_postfixes ps z)) ≡ false
  unfolding spell_expr
  postfixes-text NoPostfix z h = no_text (head z) h
  postfixes-text (Index t e ps) z h = refl
  postfixes-text (Call t es ps) z h = refl
  postfixes-text (Select t access.Dot w ps) z h = refl
  postfixes-text (Select t access.Arrow w ps) z h = refl
  postfixes-text (Step t stepping.Increment ps) z h = refl
  postfixes-text (Step t stepping.Decrement ps) z h = refl

  pub postfix-read : (env : Env) (e : Expr) (ps : Postfixes) (z : List Symbol) (n i : ℕ) → WellFormed env e → WellFormedPostfixes (after_expr env e) ps → Numbered n e → NumberedPostfixes (past_expr n e) ps
      → level e ≤ 0 → 2 < joins (head z) → length (spell_expr e (spell_postfixes ps z)) ≤ d → i ≡ n
      → postfix_expr parts (at env (spell_expr e (spell_postfixes ps z)) i) ≡ Ok (with_postfixes e ps, at (after_postfixes (after_expr env e) ps) z (past_postfixes (past_expr n e) ps))
  unfolding postfix_expr postfixes
  postfix-read env e ps z n i w ws num nums l follow short at_n =
      rw (primary-read d parts known env e (spell_postfixes ps z) n i w num l (postfixes-text ps z follow) short at_n)
      (rw (postfixes-turns (length (map Some (spell_postfixes ps z)) + 1) (after_expr env e) ps z (past_expr n e) (past_expr n e) ws nums follow (turns_enough (spell_postfixes ps z)) (omega (arith, short, length-expr e (spell_postfixes ps z))) refl) refl)
