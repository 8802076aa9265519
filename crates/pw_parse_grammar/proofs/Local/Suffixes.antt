-- Pointers, parameters and what stands behind a declarator's core, in two texts that are one up to a place (6.5.4).
use Rattle.std.proofs.Common.{ℕ, suc, ◌+◌, Bool, true, false, if◌then◌else◌, List, [], ◌∷◌, length, Option, Some, None, arith}
use Rattle.pw_tree.specs.Symbols.{Symbol, Sign, Identifier}
use Rattle.pw_tree.specs.Trees.{NoSuffix, Parameters, NoParameter}
use Rattle.pw_tree.specs.declared.expr.Qualifier.{Qualifier}
use Rattle.pw_token.specs.declared.symbol.Mark.TheVariants as m
use Rattle.pw_parse_grammar.specs.Declarators.{qualifier_by, qualifier, qualifiers, starred, pointer, pointers, declare_name, name_in_list, names_in_list, parameters_end, array, parameter, parameters, prototype, identifiers, listed_by, listed, parameter_list, suffix_by, suffix, suffixes}
use Rattle.pw_parse_grammar.specs.Input.{Binding, Outcome, Parser, ◌<$>◌, pure, eat, ahead, step, is_mark, sees, past}
use Rattle.pw_parse_grammar.specs.Parts.{Parts}
use Rattle.pw_parse_grammar.specs.Tests.{qualifier_word, begins_specifier}
use Rattle.pw_parse_grammar.proofs.Progress.Base.{forward-rules}
use Rattle.pw_parse_grammar.proofs.Progress.Declarators.{qualifier-left, starred-left, pointer-left, declare_name-left, name_in_list-left, parameters_end-left, array-left, parameter-left, prototype-left, listed-left, parameter_list-left, suffix-left}
use Rattle.pw_parse_grammar.proofs.Local.Base.{input, Near, gone, more, Agree, passed, answers, faults, fault-at, Local, wider, local-rules, agree-bind, agree-eaten-if, asked, eaten, eaten-answer, peeked}
use Rattle.pw_parse_grammar.proofs.Local.Tests.{begins_specifier-steady}
use Rattle.pw_parse_grammar.proofs.Local.Lists.{item_bound, end_bound, while-local, items-local, comma-local}
use Rattle.pw_parse_grammar.proofs.Local.Parts.{LocalParts, narrow, expr-at, declarator-at}
use Rattle.pw_parse_grammar.proofs.Local.Expressions.{some_specifiers-local}

-- ---- pointers

qualifier-by-item : (r w : List (Option Symbol)) (d : ℕ) (q : Option Qualifier) (s : Option Symbol) (names : List Binding) (n : ℕ) (t t' : List (Option Symbol)) → Near r w d t t'
    → Agree r w (item_bound d) (qualifier_by q (input names (s ∷ t) n)) (qualifier_by q (input names (s ∷ t') n))
unfolding step
qualifier-by-item r w d None s names n t t' h = answers (more s h)
qualifier-by-item r w d (Some q) s names n t t' h = answers h

qualifier-item : (r w : List (Option Symbol)) (d : ℕ) → Local r w (suc d) (item_bound d) qualifier qualifier
unfolding qualifier ahead
qualifier-item r w d names n t t' gone = passed (qualifier-left (length r) (input names r n) (omega arith))
qualifier-item r w d names n t t' (more s h) = qualifier-by-item r w d (qualifier_word s) s names n _ _ h

qualifiers-local : (r w : List (Option Symbol)) (d : ℕ) → Local r w d (λ _. d) qualifiers qualifiers
unfolding qualifiers
qualifiers-local r w d = while-local r w [] qualifier qualifier qualifier-left d (λ j c. qualifier-item r w j)

starred-strict : (r w : List (Option Symbol)) (d : ℕ) → Local r w (suc d) (λ _. d) starred starred
unfolding starred step
starred-strict r w d names n t t' gone = passed (starred-left (length r) (input names r n) (omega arith))
starred-strict r w d names n t t' (more s h) = agree-bind r w d _ (qualifiers-local r w d names (n + 1) _ _ h) (λ qs names n t t' h. answers h) (λ qs n i h. search forward-rules)

pointer-item : (r w : List (Option Symbol)) (d : ℕ) → Local r w (suc d) (item_bound d) pointer pointer
unfolding pointer sees ahead
pointer-item r w d names n t t' gone = passed (pointer-left (length r) (input names r n) (omega arith))
pointer-item r w d names n t t' (more s h) = search (local-rules, more, agree-bind r w d, starred-strict r w d)

pub pointers-local : (r w : List (Option Symbol)) (d : ℕ) → Local r w d (λ _. d) pointers pointers
unfolding pointers
pointers-local r w d = while-local r w [] pointer pointer pointer-left d (λ j c. pointer-item r w j)

-- ---- lists of names and parameters

pub declare_name-local : (r w : List (Option Symbol)) (d : ℕ) (x : Option (List ℕ)) (is_typedef : Bool) → Local r w d (λ _. d) (declare_name x is_typedef) (declare_name x is_typedef)
declare_name-local r w d None is_typedef names n t t' h = answers h
declare_name-local r w d (Some x) is_typedef names n t t' h = answers h

name_in_list-local : (r w : List (Option Symbol)) (d : ℕ) → Local r w d (λ _. d) name_in_list name_in_list
unfolding name_in_list
name_in_list-local r w d names n t t' h = search (local-rules, agree-bind r w d)

names_in_list-local : (r w : List (Option Symbol)) (d : ℕ) → Local r w d (λ _. d) names_in_list names_in_list
unfolding names_in_list
names_in_list-local r w d = comma-local r w ([], []) name_in_list name_in_list name_in_list-left d (λ j c. name_in_list-local r w (suc j))

pub agree-end : {r w : List (Option Symbol)} {L : Type 0} {j : ℕ} {o o' : Outcome (Option L)} → Agree r w (λ _. j) o o' → Agree r w (end_bound j) o o'
agree-end (passed l) = passed l
agree-end (answers {v = None} h) = answers h
agree-end (answers {v = Some l} h) = answers (wider h)
agree-end (faults h) = faults h

abbrev dots : Parser (Option (Parameters × Bool))
dots = (λ dots. if dots then Some (NoParameter, true) else None) <$> eat m.Ellipsis

dots-local : (r w : List (Option Symbol)) (d : ℕ) → Local r w d (λ _. d) dots dots
dots-local r w d = eaten-answer r w d m.Ellipsis (Some (NoParameter, true)) None

parameters_end-item : (r w : List (Option Symbol)) (d : ℕ) → Local r w (suc d) (end_bound d) parameters_end parameters_end
unfolding parameters_end sees ahead step past
parameters_end-item r w d names n t t' gone = passed (parameters_end-left (length r) (input names r n) (omega arith))
parameters_end-item r w d names n t t' (more {t = u} {t' = u'} s h) =
    agree-eaten-if (is_mark m.Comma s) dots (pure (Some (NoParameter, false))) dots (pure (Some (NoParameter, false))) (input names (s ∷ u) n) (input names u (n + 1)) (input names (s ∷ u') n) (input names u' (n + 1))
    (agree-end (dots-local r w d names (n + 1) u u' h)) (answers (more s h))

module _ (r w : List (Option Symbol)) (d : ℕ) (parts parts' : Parts) (g : LocalParts r w d parts parts') where
  parameter-local : Local r w d (λ _. d) (parameter parts) (parameter parts')
  unfolding parameter
  parameter-local names n t t' h = agree-bind r w d _ (some_specifiers-local r w d parts parts' g true names n t t' h)
      (λ ss names n t t' h. search (local-rules, agree-bind r w d, declarator-at g, declare_name-local r w d, declare_name-left))
      (λ ss n i h. search (forward-rules, g.left.declarator, declare_name-left))

  array-strict : Local r w (suc d) (λ _. d) (array parts) (array parts')
  unfolding array step
  array-strict names n t t' gone = passed (array-left parts g.left (length r) (input names r n) (omega arith))
  array-strict names n t t' (more s h) = search (local-rules, agree-bind r w d, eaten r w d m.CloseBracket, expr-at g, g.left.expr) depth 9 fits 4000

  identifiers-local : (k : ℕ) → Local r w d (λ _. d) (identifiers parts k) (identifiers parts' k)
  unfolding identifiers
  identifiers-local k names n t t' h = search (local-rules, agree-bind r w d, names_in_list-local r w d)

  listed-by-local : (named : Bool) (k : ℕ) (s : Option Symbol) → Local r w d (λ _. d) (listed_by parts named k s) (listed_by parts' named k s)
  listed-by-local named k (Some (Identifier x)) names n t t' h = search (local-rules, fault-at r w d, identifiers-local)
  listed-by-local named k None names n t t' h = faults h
  listed-by-local named k (Some _) names n t t' h = faults h

  listed-local : (named : Bool) (k : ℕ) → Local r w d (λ _. d) (listed parts named k) (listed parts' named k)
  unfolding listed
  listed-local named k = peeked r w d (listed_by parts named k) (listed_by parts' named k) (listed-by-local named k) (listed-left parts g.left named k)

module _ (r w : List (Option Symbol)) (d : ℕ) (parts parts' : Parts) (g : LocalParts r w d parts parts') where
  parameters-local : Local r w d (λ _. d) (parameters parts) (parameters parts')
  unfolding parameters
  parameters-local = items-local r w (parameter parts) (parameter parts') parameters_end parameters_end (parameter-left parts g.left) parameters_end-left d (λ j c. parameter-local r w (suc j) parts parts' (narrow (suc j) c g)) (λ j c. parameters_end-item r w j)

  prototype-local : (k : ℕ) → Local r w d (λ _. d) (prototype parts k) (prototype parts' k)
  unfolding prototype
  prototype-local k names n t t' h = agree-bind r w d _ (parameters-local names n t t' h) (λ ps names n t t' h. search (local-rules, agree-bind r w d)) (λ ps n i h. search forward-rules)

  parameter_list-strict : (named : Bool) → Local r w (suc d) (λ _. d) (parameter_list parts named) (parameter_list parts' named)
  unfolding parameter_list step
  parameter_list-strict named names n t t' gone = passed (parameter_list-left parts g.left named (length r) (input names r n) (omega arith))
  parameter_list-strict named names n t t' (more s h) = search (local-rules, agree-bind r w d, eaten r w d m.CloseParen, asked r w d (begins_specifier true) (begins_specifier-steady true), prototype-local, listed-local r w d parts parts' g, prototype-left parts g.left, listed-left parts g.left) depth 9 fits 4000

  suffix-by-item : (named : Bool) (s : Option Symbol) (names : List Binding) (n : ℕ) (t t' : List (Option Symbol)) → Near r w d t t'
      → Agree r w (item_bound d) (suffix_by parts named s (input names (s ∷ t) n)) (suffix_by parts' named s (input names (s ∷ t') n))
  suffix-by-item named (Some (Sign m.OpenBracket)) names n t t' h = search (local-rules, more, agree-bind r w d, array-strict r w d parts parts' g)
  suffix-by-item named (Some (Sign m.OpenParen)) names n t t' h = search (local-rules, more, agree-bind r w d, parameter_list-strict)
  suffix-by-item named None names n t t' h = answers (more None h)
  suffix-by-item named (Some s) names n t t' h = answers (more (Some s) h)

  suffix-item : (named : Bool) → Local r w (suc d) (item_bound d) (suffix parts named) (suffix parts' named)
  unfolding suffix ahead
  suffix-item named names n t t' gone = passed (suffix-left parts g.left named (length r) (input names r n) (omega arith))
  suffix-item named names n t t' (more s h) = suffix-by-item named s names n _ _ h

module _ (r w : List (Option Symbol)) (d : ℕ) (parts parts' : Parts) (g : LocalParts r w d parts parts') where
  pub suffixes-local : (named : Bool) → Local r w (suc d) (λ _. suc d) (suffixes parts named) (suffixes parts' named)
  unfolding suffixes
  suffixes-local named = while-local r w (NoSuffix, None) (suffix parts named) (suffix parts' named) (suffix-left parts g.left named) (suc d) (λ j c. suffix-item r w j parts parts' (narrow j (omega (arith, c)) g) named)
