-- What may stand behind an expression of a level: no token that goes on with it.
use Rattle.std.proofs.Common.{◌≡◌, ℕ, ◌<◌, ◌==◌, Bool, true, false, if◌then◌else◌, List, map, Option, Some, None, arith, refl, sym, ap}
use Rattle.std.proofs.lemmas.Bool.{eqb-true}
use Rattle.pw_tree.specs.Levels.{binary_level}
use Rattle.pw_tree.specs.Symbols as symbol
use Rattle.pw_tree.specs.Symbols.{Symbol, Reserved, Sign}
use Rattle.pw_tree.specs.declared.operator.AssignOperator.{AssignOperator}
use Rattle.pw_tree.specs.declared.operator.BinaryOperator.{BinaryOperator}
use Rattle.pw_token.specs.declared.symbol.Mark.{Mark}
use Rattle.pw_token.specs.declared.symbol.Mark.TheVariants as m
use Rattle.pw_parse_grammar.specs.Expressions.{string_by, postfix_by}
use Rattle.pw_parse_grammar.specs.Input.{first_of_rest, is_mark, same_mark, pure}
use Rattle.pw_parse_grammar.specs.Parts.{Parts}
use Rattle.pw_parse_grammar.proofs.Trees.Base.{true_is_not_false}
use Rattle.pw_parse_grammar.specs.Tests.{binary_operator, of_level, operator_at, assign_operator, assigns}

-- the first token
abbrev pub head : List Symbol → Option Symbol
head tokens = first_of_rest (map Some tokens)

abbrev pub of_binary : Option BinaryOperator → ℕ → ℕ
of_binary (Some op) other = binary_level op
of_binary None other = other

abbrev pub of_assign : Option AssignOperator → ℕ → ℕ
of_assign (Some op) other = 15
of_assign None other = other

abbrev pub other_joins : Mark → ℕ
other_joins m.OpenBracket = 1
other_joins m.OpenParen = 1
other_joins m.Dot = 1
other_joins m.Arrow = 1
other_joins m.Increment = 1
other_joins m.Decrement = 1
other_joins m.Question = 14
other_joins _ = 17

-- the least level that goes on with a token, and 17 where none does
abbrev pub joins : Option Symbol → ℕ
joins (Some (symbol.Text s)) = 1
joins (Some (Sign s)) = of_binary (binary_operator s) (of_assign (assign_operator s) (other_joins s))
joins _ = 17

abbrev pub Follow : ℕ → List Symbol → Type 0
Follow k tokens = k < joins (head tokens)

no_level : (l k : ℕ) → k < l → (l == k) ≡ false
no_level l k h = by (l == k) refl
  where
    no : l ≡ k → ⊥
    no e = omega (arith, h, e)

    by : (b : Bool) → (l == k) ≡ b → b ≡ false
    by false e = refl
    by true e = absurd (no (eqb-true l k e))

-- an expression of level k does not go on by an operator
pub no_operator : (o : Option Symbol) (k : ℕ) → k < joins o → operator_at k o ≡ None
no_operator (Some (Sign s)) k h = by (binary_operator s) h
  where
    by : (o : Option BinaryOperator) → k < of_binary o (of_assign (assign_operator s) (other_joins s)) → of_level k o ≡ None
    by None h = refl
    by (Some op) h = ap (λ b. if b then Some op else None) (no_level (binary_level op) k h)
no_operator None k h = refl
no_operator (Some _) k h = refl

not_below : (a b : ℕ) → b < a → a < b → ⊥
not_below a b h k = omega (arith, h, k)

not_same : (a : ℕ) → a < a → ⊥
not_same a h = omega (arith, h)

-- a string literal
abbrev pub is_text : Option Symbol → Bool
is_text (Some (symbol.Text s)) = true
is_text _ = false

pub no_text : (o : Option Symbol) → 2 < joins o → is_text o ≡ false
no_text (Some (symbol.Text s)) h = absurd (not_below 2 1 (omega arith) h)
no_text None h = refl
no_text (Some _) h = refl

pub no_string : (o : Option Symbol) → is_text o ≡ false → string_by o ≡ pure None
no_string (Some (symbol.Text s)) h = true_is_not_false (sym h)
no_string None h = refl
no_string (Some _) h = refl

pub no_comma : (o : Option Symbol) → 16 < joins o → is_mark m.Comma o ≡ false
unfolding same_mark
no_comma (Some (Sign m.Comma)) h = absurd (not_same 16 h)
no_comma None h = refl
no_comma (Some _) h = refl

pub no_question : (o : Option Symbol) → 14 < joins o → is_mark m.Question o ≡ false
unfolding same_mark
no_question (Some (Sign m.Question)) h = absurd (not_same 14 h)
no_question None h = refl
no_question (Some _) h = refl

pub no_postfix : (parts : Parts) (o : Option Symbol) → 2 < joins o → postfix_by parts o ≡ pure None
no_postfix parts (Some (Sign m.OpenBracket)) h = absurd (not_below 2 1 (omega arith) h)
no_postfix parts (Some (Sign m.OpenParen)) h = absurd (not_below 2 1 (omega arith) h)
no_postfix parts (Some (Sign m.Dot)) h = absurd (not_below 2 1 (omega arith) h)
no_postfix parts (Some (Sign m.Arrow)) h = absurd (not_below 2 1 (omega arith) h)
no_postfix parts (Some (Sign m.Increment)) h = absurd (not_below 2 1 (omega arith) h)
no_postfix parts (Some (Sign m.Decrement)) h = absurd (not_below 2 1 (omega arith) h)
no_postfix parts None h = refl
no_postfix parts (Some _) h = refl

pub no_assignment : (o : Option Symbol) → 15 < joins o → assigns o ≡ None
no_assignment (Some (Sign m.Equal)) h = absurd (not_same 15 h)
no_assignment (Some (Sign m.StarEqual)) h = absurd (not_same 15 h)
no_assignment (Some (Sign m.SlashEqual)) h = absurd (not_same 15 h)
no_assignment (Some (Sign m.PercentEqual)) h = absurd (not_same 15 h)
no_assignment (Some (Sign m.PlusEqual)) h = absurd (not_same 15 h)
no_assignment (Some (Sign m.MinusEqual)) h = absurd (not_same 15 h)
no_assignment (Some (Sign m.LeftShiftEqual)) h = absurd (not_same 15 h)
no_assignment (Some (Sign m.RightShiftEqual)) h = absurd (not_same 15 h)
no_assignment (Some (Sign m.AmpersandEqual)) h = absurd (not_same 15 h)
no_assignment (Some (Sign m.CaretEqual)) h = absurd (not_same 15 h)
no_assignment (Some (Sign m.BarEqual)) h = absurd (not_same 15 h)
no_assignment None h = refl
no_assignment (Some (Sign _)) h = refl
no_assignment (Some _) h = refl

-- no token goes on with casts alone
pub above_unary : (o : Option Symbol) → 2 < joins o → 3 < joins o
above_unary (Some (symbol.Text s)) h = absurd (not_below 2 1 (omega arith) h)
above_unary (Some (Sign m.OpenBracket)) h = absurd (not_below 2 1 (omega arith) h)
above_unary (Some (Sign m.OpenParen)) h = absurd (not_below 2 1 (omega arith) h)
above_unary (Some (Sign m.Dot)) h = absurd (not_below 2 1 (omega arith) h)
above_unary (Some (Sign m.Arrow)) h = absurd (not_below 2 1 (omega arith) h)
above_unary (Some (Sign m.Increment)) h = absurd (not_below 2 1 (omega arith) h)
above_unary (Some (Sign m.Decrement)) h = absurd (not_below 2 1 (omega arith) h)
above_unary (Some _) h = omega arith
above_unary None h = omega arith
