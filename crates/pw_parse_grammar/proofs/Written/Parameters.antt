-- Lists of parameters are read (6.5.4.3).
use Rattle.std.proofs.Common.{◌≡◌, ℕ, zero, suc, ◌+◌, ◌<◌, Bool, true, false, List, [], ◌∷◌, length, map, Option, Some, None, Ok, arith, refl, ◌∙◌}
use Rattle.pw_tree.specs.Numbering.{past_specifiers, past_declarator, past_parameters, Numbered, NumberedSpecifiers, NumberedDeclarator, NumberedParameters}
use Rattle.pw_tree.specs.Scopes.{has_type, name_of, declare_name, after_specifiers, after_declarator, after_parameter, after_parameters, Env}
use Rattle.pw_tree.specs.Spelling.{spell_expr, spell_specifiers, spell_declarator, spell_parameters}
use Rattle.pw_tree.specs.Symbols.{Symbol, Sign}
use Rattle.pw_tree.specs.Trees.{Word, Specifiers, Declarator, Parameters, NoParameter, Parameter}
use Rattle.pw_tree.specs.WellFormed.{NotEmpty, HasPostfix, HasSpecifier, HasMember, HasMemberDeclarator, HasEnumerator, HasParameter, HasInit, NotTypedef, NoneTypedef, MayDeclare, NoStorage, IsSomething, begins_with_typedef, MayEnclose, operand_level, WellFormed, WellFormedPostfixes, WellFormedArguments, WellFormedOperations, WellFormedSpecifiers, WellFormedMembers, WellFormedMemberDeclarators, WellFormedEnumerators, WellFormedDeclarator, WellFormedCore, WellFormedSuffixes, WellFormedParameters, WellFormedOptional, WellFormedInit, WellFormedInits, WellFormedInitializer, WellFormedInitDeclarators, WellFormedDecl, WellFormedDecls, WellFormedLabel, WellFormedLabels, NotLabeled, NotIf, ends_open, alternative_ends_open, MayPrecede, WellFormedStmt, WellFormedAlternative, WellFormedBlock, WellFormedStmts, in_function, WellFormedFunction, WellFormedExternal, WellFormedExternals, WellFormedModule}
use Rattle.pw_tree.specs.WellFormed as tree
use Rattle.pw_token.specs.declared.symbol.Mark.TheVariants as m
use Rattle.pw_parse_grammar.specs.declared.place.Place.TheVariants.{Either}
use Rattle.pw_parse_grammar.specs.Input.{ahead, step, same_mark, is_mark, sees, past, expect, repeat}
use Rattle.pw_parse_grammar.specs.Parts.{Parts}
use Rattle.pw_parse_grammar.specs.Expressions.{some_specifiers}
use Rattle.pw_parse_grammar.specs.Declarators as rules
use Rattle.pw_parse_grammar.specs.Declarators.{Behind, suffixed, parameter, parameters, parameters_end, prototype, prototype_of}
use Rattle.pw_parse_grammar.proofs.Trees.Base.{at, same, names_of, turns_enough, no_turns, item_turn, item_more, item_last, left, entered}
use Rattle.pw_parse_grammar.proofs.Trees.Follow.{head}
use Rattle.pw_parse_grammar.proofs.Trees.Heads.{declarator-ends, specifiers-begin}
use Rattle.pw_parse_grammar.proofs.Written.Knows.{Knows, joins_declarator, ends_specifiers, text_of}
use Rattle.pw_parse_grammar.proofs.Trees.Lengths.{length-specifiers, length-declarator}
use Rattle.pw_parse_grammar.proofs.Written.Members.{type-no_mark}
use Rattle.pw_parse_grammar.proofs.Written.Primaries.{not_empty}
use Rattle.pw_parse_grammar.proofs.Trees.Spreads.{spreads-parameters}

-- a name is declared
pub declare-read : (is_typedef : Bool) (w : Option Word) (env : Env) (z : List Symbol) (n : ℕ) → rules.declare_name (text_of w) is_typedef (at env z n) ≡ Ok (tt, at (declare_name is_typedef w env) z n)
declare-read is_typedef None env z n = refl
declare-read is_typedef (Some w) env z n = refl

-- what stands behind parameters
abbrev pub dots : Bool → List Symbol → List Symbol
dots true z = Sign m.Comma ∷ Sign m.Ellipsis ∷ Sign m.CloseParen ∷ z
dots false z = Sign m.CloseParen ∷ z

abbrev pub dots_count : Bool → ℕ
dots_count true = 2
dots_count false = 0

parameters-behind : (ps : Parameters) (variadic : Bool) (z : List Symbol) → joins_declarator Either (head (spell_parameters false ps (dots variadic z))) ≡ false
unfolding spell_expr
parameters-behind NoParameter true z = refl
parameters-behind NoParameter false z = refl
parameters-behind (Parameter ss x ps) variadic z = refl

parameters-ends : (ps : Parameters) (variadic typed : Bool) (env : Env) (z : List Symbol) → ends_specifiers true typed env (head (spell_parameters false ps (dots variadic z))) ≡ true
unfolding spell_expr
parameters-ends NoParameter true typed env z = refl
parameters-ends NoParameter false typed env z = refl
parameters-ends (Parameter ss x ps) variadic typed env z = refl

module _ (d : ℕ) (parts : Parts) (known : Knows d parts) where
  parameter-read : (env : Env) (ss : Specifiers) (x : Declarator) (z : List Symbol) (n i : ℕ) → HasSpecifier ss → WellFormedSpecifiers env false ss → WellFormedDeclarator (after_specifiers env ss) (has_type ss) tree.Either x
      → NumberedSpecifiers n ss → NumberedDeclarator (past_specifiers n ss) x → joins_declarator Either (head z) ≡ false → ends_specifiers true (has_type ss) (after_specifiers env ss) (head z) ≡ true
      → length (spell_specifiers ss (spell_declarator x z)) < d → i ≡ n
      → parameter parts (at env (spell_specifiers ss (spell_declarator x z)) i) ≡ Ok ((λ more. (Parameter ss x more.0, more.1)), at (after_parameter env ss x) z (past_declarator (past_specifiers n ss) x))
  unfolding parameter some_specifiers
  parameter-read env ss x z n i has w v num numd follow ends short at_n =
      rw (known.specifiers true env ss (spell_declarator x z) n i w tt num (declarator-ends true (has_type ss) Either (after_specifiers env ss) x z v ends) short at_n)
      (rw (not_empty ss has)
      (rw (known.declarator Either (has_type ss) (after_specifiers env ss) x z (past_specifiers n ss) (past_specifiers n ss) v numd follow (omega (arith, short, length-specifiers ss (spell_declarator x z))) refl)
      (rw (declare-read false (name_of x) (after_declarator (after_specifiers env ss) x) z (past_declarator (past_specifiers n ss) x)) refl)))

  end-last : (variadic : Bool) (env : Env) (z : List Symbol) (n : ℕ) → parameters_end (at env (dots variadic z) n) ≡ Ok (Some (NoParameter, variadic), at env (Sign m.CloseParen ∷ z) (n + dots_count variadic))
  unfolding parameters_end sees past ahead step same_mark
  end-last true env z n = same env (Sign m.CloseParen ∷ z) refl (omega arith)
  end-last false env z n = same env (Sign m.CloseParen ∷ z) refl (omega arith)

  end-more : (env : Env) (z : List Symbol) (n : ℕ) → is_mark m.Ellipsis (head z) ≡ false → parameters_end (at env (Sign m.Comma ∷ z) n) ≡ Ok (None, at env z (n + 1))
  unfolding parameters_end sees past ahead step same_mark
  end-more env z n h = rw h refl

  parameters-turns : (count : ℕ) (variadic : Bool) (env : Env) (ss : Specifiers) (x : Declarator) (ps : Parameters) (z : List Symbol) (n i : ℕ) → WellFormedParameters env (Parameter ss x ps) → NumberedParameters true n (Parameter ss x ps)
      → length (spell_parameters true (Parameter ss x ps) (dots variadic z)) < count → length (spell_parameters true (Parameter ss x ps) (dots variadic z)) < d → i ≡ n
      → repeat (item_turn (parameter parts) parameters_end) count (at env (spell_parameters true (Parameter ss x ps) (dots variadic z)) i)
      ≡ Ok ((Parameter ss x ps, variadic), at (after_parameters env (Parameter ss x ps)) (Sign m.CloseParen ∷ z) (past_parameters true n (Parameter ss x ps) + dots_count variadic))
  unfolding spell_expr WellFormed Numbered
  parameters-turns zero variadic env ss x ps z n i w num enough short at_n = no_turns enough
  parameters-turns (suc count) variadic env ss x NoParameter z n i w num enough short at_n =
      let text = dots variadic z in
      item_last (parameter parts) parameters_end count (at env (spell_specifiers ss (spell_declarator x text)) i) (at (after_parameter env ss x) text (past_declarator (past_specifiers n ss) x))
      (at (after_parameter env ss x) (Sign m.CloseParen ∷ z) (past_declarator (past_specifiers n ss) x + dots_count variadic)) (λ more. (Parameter ss x more.0, more.1)) (NoParameter, variadic)
      (parameter-read env ss x text n i w.0 w.1 w.2 num.0 num.1 (parameters-behind NoParameter variadic z) (parameters-ends NoParameter variadic (has_type ss) (after_specifiers env ss) z) short at_n)
      (end-last variadic (after_parameter env ss x) z (past_declarator (past_specifiers n ss) x))
      ∙ same (after_parameter env ss x) (Sign m.CloseParen ∷ z) refl (omega (arith, length-specifiers ss (spell_declarator x []), length-declarator x []))
  parameters-turns (suc count) variadic env ss x (Parameter rr y ps) z n i w num enough short at_n =
      let inner = after_parameter env ss x in
      let more = spell_parameters true (Parameter rr y ps) (dots variadic z) in
      let behind = past_declarator (past_specifiers n ss) x in
      item_more (parameter parts) parameters_end count (at env (spell_specifiers ss (spell_declarator x (Sign m.Comma ∷ more))) i) (at inner (Sign m.Comma ∷ more) behind) (at inner more (behind + 1))
      (at (after_parameters inner (Parameter rr y ps)) (Sign m.CloseParen ∷ z) (past_parameters true (behind + 1) (Parameter rr y ps) + dots_count variadic)) (λ more. (Parameter ss x more.0, more.1)) (Parameter rr y ps, variadic)
      (parameter-read env ss x (Sign m.Comma ∷ more) n i w.0 w.1 w.2 num.0 num.1 refl refl short at_n)
      (end-more inner more behind (type-no_mark m.Ellipsis true (at inner more 0) (head more) (specifiers-begin true inner rr (spell_declarator y (spell_parameters false ps (dots variadic z))) more 0 w.3.0 tt w.3.1)))
      (parameters-turns count variadic inner rr y ps z (behind + 1) (behind + 1) w.3 num.2 (omega (arith, enough, length-specifiers ss (spell_declarator x (Sign m.Comma ∷ more)), length-declarator x (Sign m.Comma ∷ more))) (omega (arith, short, length-specifiers ss (spell_declarator x (Sign m.Comma ∷ more)), length-declarator x (Sign m.Comma ∷ more))) refl)
      ∙ same (after_parameters inner (Parameter rr y ps)) (Sign m.CloseParen ∷ z) refl
      (omega (arith, length-specifiers ss (spell_declarator x (Sign m.Comma ∷ spell_parameters true (Parameter rr y ps) [])), length-declarator x (Sign m.Comma ∷ spell_parameters true (Parameter rr y ps) [])))

  -- a list of parameters, and what it declares
  pub prototype-read : (variadic : Bool) (env : Env) (t : ℕ) (ss : Specifiers) (x : Declarator) (ps : Parameters) (z : List Symbol) (n i : ℕ) → WellFormedParameters env (Parameter ss x ps) → NumberedParameters true n (Parameter ss x ps)
      → length (spell_parameters true (Parameter ss x ps) (dots variadic z)) < d → i ≡ n
      → prototype parts t (at env (spell_parameters true (Parameter ss x ps) (dots variadic z)) i)
      ≡ Ok (suffixed (prototype_of t (Parameter ss x ps, variadic)) (names_of (after_parameters [] (Parameter ss x ps))), at env z (past_parameters true n (Parameter ss x ps) + dots_count variadic + 1))
  unfolding prototype parameters expect sees ahead step same_mark
  prototype-read variadic env t ss x ps z n i w num short at_n =
      rw (parameters-turns (length (map Some (spell_parameters true (Parameter ss x ps) (dots variadic z))) + 1) variadic env ss x ps z n i w num (turns_enough (spell_parameters true (Parameter ss x ps) (dots variadic z))) short at_n)
      (rw (spreads-parameters [] env (Parameter ss x ps)) (rw (left (after_parameters [] (Parameter ss x ps)) env) (rw (entered (after_parameters [] (Parameter ss x ps)) env) refl)))
