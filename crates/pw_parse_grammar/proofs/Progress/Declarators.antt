-- Declarators do not go back (6.5.4, 6.5.5).
use Rattle.std.proofs.Common.{ℕ, Bool, List, [], Option, Some, None}
use Rattle.pw_tree.specs.Symbols.{Symbol, Sign, Identifier}
use Rattle.pw_tree.specs.Trees.{NoSuffix}
use Rattle.pw_tree.specs.declared.expr.Qualifier.{Qualifier}
use Rattle.pw_token.specs.declared.symbol.Mark.TheVariants as m
use Rattle.pw_parse_grammar.specs.declared.place.Place.{Place}
use Rattle.pw_parse_grammar.specs.declared.place.Place.TheVariants.{Named, Nameless, Either}
use Rattle.pw_parse_grammar.specs.Declarators.{qualifier_by, qualifier, qualifiers, starred, pointer, pointers, declare_name, name_in_list, names_in_list, parameters_end, may_be_absent, array, parameter, parameters, prototype, identifiers, listed_by, listed, parameter_list, suffix_by, suffix, suffixes, enclosed, core_by, core, declarator_of}
use Rattle.pw_parse_grammar.specs.Input.{ahead, unless_comma}
use Rattle.pw_parse_grammar.specs.Parts.{Parts}
use Rattle.pw_parse_grammar.specs.Tests.{qualifier_word}
use Rattle.pw_parse_grammar.proofs.Progress.Base.{Forward, ForwardParts, forward-rules, while-left, one_or_more-left, unless_comma-left}
use Rattle.pw_parse_grammar.proofs.Progress.Expressions.{some_specifiers-left}

qualifier-by-left : (q : Option Qualifier) → Forward (qualifier_by q)
qualifier-by-left None n i h = search forward-rules
qualifier-by-left (Some q) n i h = search forward-rules

pub qualifier-left : Forward qualifier
unfolding qualifier
qualifier-left n i h = qualifier-by-left (qualifier_word (ahead i)) n i h

pub qualifiers-left : Forward qualifiers
unfolding qualifiers
qualifiers-left = while-left [] qualifier qualifier-left

pub starred-left : Forward starred
unfolding starred
starred-left n i h = search (forward-rules, qualifiers-left)

pub pointer-left : Forward pointer
unfolding pointer
pointer-left n i h = search (forward-rules, starred-left)

pub pointers-left : Forward pointers
unfolding pointers
pointers-left = while-left [] pointer pointer-left

pub declare_name-left : (x : Option (List ℕ)) (is_typedef : Bool) → Forward (declare_name x is_typedef)
declare_name-left None is_typedef n i h = search forward-rules
declare_name-left (Some x) is_typedef n i h = search forward-rules

pub name_in_list-left : Forward name_in_list
unfolding name_in_list
name_in_list-left n i h = search forward-rules

pub names_in_list-left : Forward names_in_list
unfolding names_in_list
names_in_list-left = one_or_more-left name_in_list (unless_comma ([], [])) name_in_list-left (unless_comma-left ([], []))

pub parameters_end-left : Forward parameters_end
unfolding parameters_end
parameters_end-left n i h = search forward-rules

pub may_be_absent-left : (place : Place) → Forward (may_be_absent place)
may_be_absent-left Named n i h = search forward-rules
may_be_absent-left Nameless n i h = search forward-rules
may_be_absent-left Either n i h = search forward-rules

module _ (parts : Parts) (part : ForwardParts parts) where
  pub array-left : Forward (array parts)
  unfolding array
  array-left n i h = search (forward-rules, part.expr)

  pub parameter-left : Forward (parameter parts)
  unfolding parameter
  parameter-left n i h = search (forward-rules, some_specifiers-left parts part, part.declarator, declare_name-left)

  pub parameters-left : Forward (parameters parts)
  unfolding parameters
  parameters-left = one_or_more-left (parameter parts) parameters_end parameter-left parameters_end-left

  pub prototype-left : (t : ℕ) → Forward (prototype parts t)
  unfolding prototype
  prototype-left t n i h = search (forward-rules, parameters-left)

  pub identifiers-left : (t : ℕ) → Forward (identifiers parts t)
  unfolding identifiers
  identifiers-left t n i h = search (forward-rules, names_in_list-left)

  pub listed-by-left : (named : Bool) (t : ℕ) (s : Option Symbol) → Forward (listed_by parts named t s)
  listed-by-left named t (Some (Identifier x)) n i h = search (forward-rules, identifiers-left)
  listed-by-left named t None n i h = search forward-rules
  listed-by-left named t (Some _) n i h = search forward-rules

  pub listed-left : (named : Bool) (t : ℕ) → Forward (listed parts named t)
  unfolding listed
  listed-left named t n i h = listed-by-left named t (ahead i) n i h

  pub parameter_list-left : (named : Bool) → Forward (parameter_list parts named)
  unfolding parameter_list
  parameter_list-left named n i h = search (forward-rules, prototype-left, listed-left)

  pub suffix-by-left : (named : Bool) (s : Option Symbol) → Forward (suffix_by parts named s)
  suffix-by-left named (Some (Sign m.OpenBracket)) n i h = search (forward-rules, array-left)
  suffix-by-left named (Some (Sign m.OpenParen)) n i h = search (forward-rules, parameter_list-left)
  suffix-by-left named None n i h = search forward-rules
  suffix-by-left named (Some _) n i h = search forward-rules

  pub suffix-left : (named : Bool) → Forward (suffix parts named)
  unfolding suffix
  suffix-left named n i h = suffix-by-left named (ahead i) n i h

  pub suffixes-left : (named : Bool) → Forward (suffixes parts named)
  unfolding suffixes
  suffixes-left named = while-left (NoSuffix, None) (suffix parts named) (suffix-left named)

  pub enclosed-left : (place : Place) (typed : Bool) → Forward (enclosed parts place typed)
  unfolding enclosed
  enclosed-left place typed n i h = search (forward-rules, part.declarator)

  pub core-by-left : (place : Place) (typed : Bool) (s : Option Symbol) → Forward (core_by parts place typed s)
  core-by-left place typed (Some (Identifier x)) n i h = search (forward-rules, may_be_absent-left)
  core-by-left place typed (Some (Sign m.OpenParen)) n i h = search (forward-rules, enclosed-left)
  core-by-left place typed None n i h = may_be_absent-left place n i h
  core-by-left place typed (Some _) n i h = may_be_absent-left place n i h

  pub core-left : (place : Place) (typed : Bool) → Forward (core parts place typed)
  unfolding core
  core-left place typed n i h = core-by-left place typed (ahead i) n i h

  pub declarator_of-left : (place : Place) (typed : Bool) → Forward (declarator_of parts place typed)
  unfolding declarator_of
  declarator_of-left place typed n i h = search (forward-rules, pointers-left, core-left, suffixes-left)
