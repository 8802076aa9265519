-- An expression reads a `(` and an ordinary name that stand at its beginning, and specifiers a typedef name.
use Rattle.std.proofs.Common.{◌≡◌, ℕ, zero, suc, ◌+◌, ◌-◌, ◌≤◌, Bool, true, false, nat_le, List, ◌∷◌, length, Option, Some, arith}
use Rattle.pw_tree.specs.Levels.{cast, unary, comma}
use Rattle.pw_tree.specs.Symbols.{Symbol, Sign, Identifier}
use Rattle.pw_token.specs.declared.symbol.Mark.TheVariants as m
use Rattle.pw_parse_grammar.specs.Expressions.{enclosed_type_name, parenthesized, primary, postfix_expr, operated_or_postfix, unary_expr, cast_to, cast_expr, above_cast, expr_of}
use Rattle.pw_parse_grammar.specs.Input.{Binding, ahead, step, same_mark, sees, expect, ordinary, ordinary_by, is_typedef_name, turns}
use Rattle.pw_parse_grammar.specs.Parts.{Parts}
use Rattle.pw_parse_grammar.specs.Specifiers.{specifier, specifiers_from, specifiers_of}
use Rattle.pw_parse_grammar.specs.Tests.{opens_type_name}
use Rattle.pw_parse_grammar.proofs.Trees.Base.{no_turns}
use Rattle.pw_parse_grammar.proofs.Progress.Specifiers.{specifiers_behind-left, specifiers_from-left}
use Rattle.pw_parse_grammar.proofs.Progress.Base.{Left, ForwardParts, forward-rules, left-bind, left-answer, left-parser-if}
use Rattle.pw_parse_grammar.proofs.Progress.Expressions.{type_name-left, postfixes-left, goes_on-left}
use Rattle.pw_parse_grammar.proofs.Local.Base.{input}

ordinary-name : (names : List Binding) (n : ℕ) (x : List ℕ) (t : List (Option Symbol)) → is_typedef_name (input names t n) x ≡ false → Left (length t) (ordinary (input names (Some (Identifier x) ∷ t) n))
unfolding ahead step ordinary_by is_typedef_name
ordinary-name names n x t h = rw h (left-answer (omega arith))

module _ (parts : Parts) (part : ForwardParts parts) where
  pub enclosed-paren : (names : List Binding) (n : ℕ) (t : List (Option Symbol)) → Left (length t) (enclosed_type_name parts (input names (Some (Sign m.OpenParen) ∷ t) n))
  unfolding enclosed_type_name expect sees ahead step same_mark
  enclosed-paren names n t = let h : length t ≤ length t = omega arith in search (forward-rules, h, type_name-left parts part)

  pub cast_to-paren : (names : List Binding) (n : ℕ) (t : List (Option Symbol)) → Left (length t) (cast_to parts (input names (Some (Sign m.OpenParen) ∷ t) n))
  unfolding cast_to
  cast_to-paren names n t = left-bind (enclosed-paren names n t) (λ v j h. search (forward-rules, part.expr))

  pub unary-paren : (names : List Binding) (n : ℕ) (t : List (Option Symbol)) → Left (length t) (unary_expr parts (input names (Some (Sign m.OpenParen) ∷ t) n))
  unfolding unary_expr operated_or_postfix postfix_expr primary parenthesized ahead step
  unary-paren names n t = left-bind (left-bind (part.expr comma (length t) (input names t (n + 1)) (omega arith)) (λ e j h. search forward-rules)) (λ e j h. search (forward-rules, postfixes-left parts part))

  pub cast_expr-paren : (names : List Binding) (n : ℕ) (t : List (Option Symbol)) → Left (length t) (cast_expr parts (input names (Some (Sign m.OpenParen) ∷ t) n))
  unfolding cast_expr
  cast_expr-paren names n t = search (forward-rules, cast_to-paren, unary-paren)

  unary-name : (names : List Binding) (n : ℕ) (x : List ℕ) (t : List (Option Symbol)) → is_typedef_name (input names t n) x ≡ false → Left (length t) (unary_expr parts (input names (Some (Identifier x) ∷ t) n))
  unfolding unary_expr postfix_expr primary ahead
  unary-name names n x t h = left-bind (left-bind (ordinary-name names n x t h) (λ e j h. search forward-rules)) (λ e j h. search (forward-rules, postfixes-left parts part))

  cast_expr-name : (names : List Binding) (n : ℕ) (x : List ℕ) (t : List (Option Symbol)) → is_typedef_name (input names t n) x ≡ false → Left (length t) (cast_expr parts (input names (Some (Identifier x) ∷ t) n))
  unfolding cast_expr opens_type_name sees ahead
  cast_expr-name names n x t h = unary-name names n x t h

  above_cast-paren : (k : ℕ) (names : List Binding) (n : ℕ) (t : List (Option Symbol)) → Left (length t) (above_cast parts k (input names (Some (Sign m.OpenParen) ∷ t) n))
  unfolding above_cast
  above_cast-paren zero names n t = cast_expr-paren names n t
  above_cast-paren (suc k) names n t = left-bind (above_cast-paren k names n t) (λ e j h. goes_on-left parts part (k + 4) e (length t) j h)

  above_cast-name : (k : ℕ) (names : List Binding) (n : ℕ) (x : List ℕ) (t : List (Option Symbol)) → is_typedef_name (input names t n) x ≡ false → Left (length t) (above_cast parts k (input names (Some (Identifier x) ∷ t) n))
  unfolding above_cast
  above_cast-name zero names n x t h = cast_expr-name names n x t h
  above_cast-name (suc k) names n x t h = left-bind (above_cast-name k names n x t h) (λ e j h. goes_on-left parts part (k + 4) e (length t) j h)

  pub expr_of-paren : (level : ℕ) (names : List Binding) (n : ℕ) (t : List (Option Symbol)) → Left (length t) (expr_of parts level (input names (Some (Sign m.OpenParen) ∷ t) n))
  unfolding expr_of
  expr_of-paren level names n t = left-parser-if (nat_le level unary) (unary_expr parts) (above_cast parts (level - cast)) (input names (Some (Sign m.OpenParen) ∷ t) n) (unary-paren names n t) (above_cast-paren (level - cast) names n t)

  pub expr_of-name : (level : ℕ) (names : List Binding) (n : ℕ) (x : List ℕ) (t : List (Option Symbol)) → is_typedef_name (input names t n) x ≡ false → Left (length t) (expr_of parts level (input names (Some (Identifier x) ∷ t) n))
  unfolding expr_of
  expr_of-name level names n x t h = left-parser-if (nat_le level unary) (unary_expr parts) (above_cast parts (level - cast)) (input names (Some (Identifier x) ∷ t) n) (unary-name names n x t h) (above_cast-name (level - cast) names n x t h)

  specifiers_from-typed : (storage : Bool) (k : ℕ) → 1 ≤ k → (names : List Binding) (n : ℕ) (x : List ℕ) (t : List (Option Symbol)) → is_typedef_name (input names t n) x ≡ true → Left (length t) (specifiers_from parts storage k false (input names (Some (Identifier x) ∷ t) n))
  unfolding specifiers_from specifier ahead step is_typedef_name
  specifiers_from-typed storage zero c names n x t e = no_turns c
  specifiers_from-typed storage (suc k) c names n x t e =
      left-bind (rw e (left-answer (omega arith))) (λ o j h. specifiers_behind-left (specifiers_from parts storage k) (specifiers_from-left parts part storage k) false o (length t) j h)

  -- specifiers read a typedef name that stands at their beginning
  pub specifiers_of-typed : (storage : Bool) (names : List Binding) (n : ℕ) (x : List ℕ) (t : List (Option Symbol)) → is_typedef_name (input names t n) x ≡ true → Left (length t) (specifiers_of parts storage (input names (Some (Identifier x) ∷ t) n))
  unfolding specifiers_of
  specifiers_of-typed storage names n x t e = specifiers_from-typed storage (turns (input names (Some (Identifier x) ∷ t) n)) (omega arith) names n x t e
