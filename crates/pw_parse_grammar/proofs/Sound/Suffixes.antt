-- Suffixes of declarators that are read are trees (6.5.4.2, 6.5.4.3).
use Rattle.std.proofs.Common.{◌≡◌, Bool, true, false, if◌then◌else◌, List, [], ◌∷◌, length, Option, Some, None, take, drop, arith, refl, ap, subst}
use Rattle.pw_tree.specs.Numbering.{NumberedIdentifiers, Numbered, NumberedSuffixes, NumberedParameters}
use Rattle.pw_tree.specs.Scopes.{after_expr, after_suffixes, after_parameters, Env}
use Rattle.pw_tree.specs.Spelling.{spell_expr, spell_suffixes}
use Rattle.pw_tree.specs.Symbols as symbol
use Rattle.pw_tree.specs.Symbols.{Symbol, Reserved, Sign, unary_symbol, binary_mark, assign_mark, access_mark, step_mark}
use Rattle.pw_tree.specs.Trees.{Expr, NoSuffix, Array, OpenArray, Prototype, Identifiers, Parameters, NoParameter}
use Rattle.pw_tree.specs.WellFormed.{WellFormed, WellFormedSuffixes}
use Rattle.pw_token.specs.declared.symbol.Mark.TheVariants as m
use Rattle.pw_parse_grammar.specs.Input.{Input, first_of_rest, ahead, is_none_left, at_end, step_to, step, same_mark, same_keyword, is_mark, is_keyword, sees, sees_keyword, or_false, Outcome, Parser, and_then, ◌>>=◌, ◌>>◌, pure, ◌<$>◌, fault, asks, peek, here, skip, take_number, word, past, past_keyword, eat, eat_keyword, expect, expect_keyword, identifier_by, ordinary_by, ordinary, declare_all, leave, since, turns, go_on, repeat, list_of, turn_of, while_some, turn_with, one_or_more, unless_comma, Binding}
use Rattle.pw_parse_grammar.specs.Input as input
use Rattle.pw_parse_grammar.specs.Parts.{Parts}
use Rattle.pw_parse_grammar.specs.Input as input
use Rattle.pw_parse_grammar.specs.Declarators.{Names, Behind, suffixed, prototype_of, names_in_list, array, parameters, prototype, identifiers, listed_by, listed, parameter_list, suffix_by, suffix, suffixes}
use Rattle.pw_parse_grammar.specs.Tests.{begins_specifier}
use Rattle.pw_parse_grammar.proofs.Trees.Base.{names_of}
use Rattle.pw_parse_grammar.proofs.Written.Knows.{behind_suffixes}
use Rattle.pw_parse_grammar.proofs.Trees.Lengths.{length-parameters}
use Rattle.pw_parse_grammar.proofs.Sound.Base.{Post, bind, choose_parser, Reads, nothing, both, token, expected, eaten}
use Rattle.pw_parse_grammar.proofs.Sound.Lists.{IsItem, Before, while-sound}
use Rattle.pw_parse_grammar.proofs.Sound.Parts.{IsExpr, Sound}
use Rattle.pw_parse_grammar.proofs.Sound.Pointers.{IsNames, names_in_list-sound}
use Rattle.pw_parse_grammar.proofs.Sound.Parameters.{around_parameters, scoped, IsParameters, parameters-sound}

-- ---- suffixes

-- suffixes from i to j
pub record IsSuffixes (named : Bool) (env : Env) (i : Input) (b : Behind) (j : Input) : Type 0 where
  pub reads : Reads i j (after_suffixes env b.0) (spell_suffixes b.0)
  pub holds : WellFormedSuffixes env named b.0
  pub numbered : NumberedSuffixes i.next b.0
  pub declares : b.1 ≡ behind_suffixes b.0

-- a suffix before others
abbrev pub IsSuffix : Bool → Env → Input → (Behind → Behind) → Input → Type 0
IsSuffix named = Before (IsSuffixes named)

module _ (parts : Parts) (sound : Sound parts) where
  open_array-suffix : (named : Bool) (env : Env) (i x j : Input) → Reads i x env (λ z. Sign m.OpenBracket ∷ z) → Reads x j env (λ z. Sign m.CloseBracket ∷ z) → IsSuffix named env i (suffixed (OpenArray i.next) []) j
  unfolding spell_expr after_expr WellFormed Numbered suffixed
  open_array-suffix named env i x j t c = (
    env,
    c.names,
    λ b end r. record {
      reads = both t (both c r.reads);
      holds = r.holds;
      numbered = (refl, subst (λ v. NumberedSuffixes v b.0) (omega (arith, t.next, c.next)) r.numbered);
      declares = refl;
    },
  )

  array-suffix : (named : Bool) (env : Env) (i x y j : Input) (e : Expr) → Reads i x env (λ z. Sign m.OpenBracket ∷ z) → IsExpr 14 env x e y → Reads y j (after_expr env e) (λ z. Sign m.CloseBracket ∷ z) → IsSuffix named env i (suffixed (Array i.next e) []) j
  unfolding spell_expr after_expr WellFormed Numbered suffixed
  array-suffix named env i x y j e t q c = (
    after_expr env e,
    c.names,
    λ b end r. record {
      reads = both t (both q.reads (both c r.reads));
      holds = (q.low, q.holds, r.holds);
      numbered = (refl, subst (λ v. Numbered v e) t.next q.numbered, subst (λ v. NumberedSuffixes v b.0) (omega (arith, t.next, q.reads.next, c.next)) r.numbered);
      declares = refl;
    },
  )

  array-sound : (named : Bool) (env : Env) (i : Input) → ahead i ≡ Some (Sign m.OpenBracket) → i.names ≡ names_of env → Post (IsSuffix named env i) (array parts i)
  unfolding array
  array-sound named env i h names =
      let t = token i env (Sign m.OpenBracket) h names in
      eaten _ (step i) env m.CloseBracket (pure (suffixed (OpenArray i.next) [])) (parts.expr 14 >>= λ e. expect m.CloseBracket >> pure (suffixed (Array i.next e) [])) t.names
      (λ j c. open_array-suffix named env i (step i) j t c)
      (λ _. bind _ (parts.expr 14 (step i)) (λ e. expect m.CloseBracket >> pure (suffixed (Array i.next e) [])) (sound.expr 14 (omega arith) env (step i) t.names) (λ e y q.
      expected _ y (after_expr env e) m.CloseBracket (pure (suffixed (Array i.next e) [])) q.reads.names (λ j c. array-suffix named env i (step i) y j e t q c)))

  empty-suffix : (named : Bool) (env : Env) (i x j : Input) → Reads i x env (λ z. Sign m.OpenParen ∷ z) → Reads x j env (λ z. Sign m.CloseParen ∷ z) → IsSuffix named env i (suffixed (Prototype i.next NoParameter) []) j
  unfolding spell_expr after_expr WellFormed Numbered suffixed
  empty-suffix named env i x j t c = (
    env,
    c.names,
    λ b end r. record {
      reads = both t (both c r.reads);
      holds = (tt, r.holds);
      numbered = (refl, tt, subst (λ v. NumberedSuffixes v b.0) (omega (arith, t.next, c.next)) r.numbered);
      declares = refl;
    },
  )

  prototype-suffix : (named : Bool) (env : Env) (i x y j : Input) (ps : Parameters) (variadic : Bool) (bindings : List Binding) → Reads i x env (λ z. Sign m.OpenParen ∷ z) → IsParameters env x (ps, variadic) y → Reads y j env (λ z. Sign m.CloseParen ∷ z)
      → bindings ≡ names_of (after_parameters [] ps) → IsSuffix named env i (suffixed (prototype_of i.next (ps, variadic)) bindings) j
  unfolding spell_expr after_expr WellFormed Numbered suffixed
  prototype-suffix named env i x y j ps true bindings t q c e = (
    env,
    c.names,
    λ b end r. record {
      reads = both t (both q.reads (both c r.reads));
      holds = (q.has, q.holds, r.holds);
      numbered = (
        refl,
        subst (λ v. NumberedParameters true v ps) t.next q.numbered,
        subst (λ v. NumberedSuffixes v b.0) (omega (arith, t.next, q.reads.next, c.next, length-parameters true ps (Sign m.Comma ∷ Sign m.Ellipsis ∷ []))) r.numbered,
      );
      declares = ap Some e;
    },
  )
  prototype-suffix named env i x y j ps false bindings t q c e = (
    env,
    c.names,
    λ b end r. record {
      reads = both t (both q.reads (both c r.reads));
      holds = (q.holds, r.holds);
      numbered = (
        refl,
        subst (λ v. NumberedParameters true v ps) t.next q.numbered,
        subst (λ v. NumberedSuffixes v b.0) (omega (arith, t.next, q.reads.next, c.next)) r.numbered,
      );
      declares = ap Some e;
    },
  )

  prototype-sound : (named : Bool) (env : Env) (i : Input) → Reads i (step i) env (λ z. Sign m.OpenParen ∷ z) → Post (IsSuffix named env i) (prototype parts i.next (step i))
  unfolding prototype
  prototype-sound named env i t =
      let outer = length (step i).names in
      bind _ (parameters parts (step i)) (λ ps. input.since outer >>= λ inner. expect m.CloseParen >> (input.leave outer >> pure (suffixed (prototype_of i.next ps) inner))) (parameters-sound parts sound env (step i) t.names) (λ ps y q.
      expected _ y (after_parameters env ps.0) m.CloseParen (input.leave outer >> pure (suffixed (prototype_of i.next ps) (drop outer y.names))) q.reads.names (λ j c.
      let around = around_parameters env ps.0 (step i).names j.names t.names c.names in
      let declares = around_parameters env ps.0 (step i).names y.names t.names q.reads.names in
      prototype-suffix named env i (step i) y (record j { names = take outer j.names }) ps.0 ps.1 (drop outer y.names) t q (scoped (take outer j.names) c around.0) declares.1))

  identifiers-suffix : (env : Env) (i x y j : Input) (ns : Names) → Reads i x env (λ z. Sign m.OpenParen ∷ z) → IsNames env x ns y → Reads y j env (λ z. Sign m.CloseParen ∷ z) → IsSuffix true env i (suffixed (Identifiers i.next ns.0) ns.1) j
  unfolding spell_expr after_expr WellFormed Numbered suffixed
  identifiers-suffix env i x y j ns t q c = (
    env,
    c.names,
    λ b end r. record {
      reads = both t (both q.reads (both c r.reads));
      holds = (refl, q.has, q.none, r.holds);
      numbered = (refl, subst (λ v. NumberedIdentifiers true v ns.0) t.next q.numbered, subst (λ v. NumberedSuffixes v b.0) (omega (arith, t.next, q.reads.next, c.next)) r.numbered);
      declares = ap Some q.declares;
    },
  )

  identifiers-sound : (env : Env) (i : Input) → Reads i (step i) env (λ z. Sign m.OpenParen ∷ z) → Post (IsSuffix true env i) (identifiers parts i.next (step i))
  unfolding identifiers
  identifiers-sound env i t =
      bind _ (names_in_list (step i)) (λ ws. expect m.CloseParen >> pure (suffixed (Identifiers i.next ws.0) ws.1)) (names_in_list-sound env (step i) t.names) (λ ws y q.
      expected _ y env m.CloseParen (pure (suffixed (Identifiers i.next ws.0) ws.1)) q.reads.names (λ j c. identifiers-suffix env i (step i) y j ws t q c))

  listed-by : (named : Bool) (env : Env) (i : Input) → Reads i (step i) env (λ z. Sign m.OpenParen ∷ z) → (s : Option Symbol) → Post (IsSuffix named env i) (listed_by parts named i.next s (step i))
  listed-by true env i t (Some (symbol.Identifier x)) = identifiers-sound env i t
  listed-by false env i t (Some (symbol.Identifier x)) = tt
  listed-by named env i t None = tt
  listed-by named env i t (Some _) = tt

  list-sound : (named : Bool) (env : Env) (i : Input) → ahead i ≡ Some (Sign m.OpenParen) → i.names ≡ names_of env → Post (IsSuffix named env i) (parameter_list parts named i)
  unfolding parameter_list listed
  list-sound named env i h names =
      let t = token i env (Sign m.OpenParen) h names in
      eaten _ (step i) env m.CloseParen (pure (suffixed (Prototype i.next NoParameter) [])) (input.asks (begins_specifier true) >>= λ typed. if typed then prototype parts i.next else listed parts named i.next) t.names
      (λ j c. empty-suffix named env i (step i) j t c)
      (λ _. choose_parser _ (begins_specifier true (step i)) (prototype parts i.next) (listed parts named i.next) (step i)
      (λ _. prototype-sound named env i t)
      (λ _. listed-by named env i t (ahead (step i))))

  no_suffix : (named : Bool) (env : Env) (i : Input) → i.names ≡ names_of env → IsSuffixes named env i (NoSuffix, None) i
  unfolding spell_expr after_expr WellFormed Numbered suffixed
  no_suffix named env i names = record { reads = nothing i env names; holds = tt; numbered = tt; declares = refl }

  suffix-by : (named : Bool) (env : Env) (i : Input) → i.names ≡ names_of env → (s : Option Symbol) → ahead i ≡ s → Post (IsItem (IsSuffixes named) (NoSuffix, None) env i) (suffix_by parts named s i)
  suffix-by named env i names (Some (Sign m.OpenBracket)) h = bind _ (array parts i) (λ f. pure (Some f)) (array-sound named env i h names) (λ f j q. q)
  suffix-by named env i names (Some (Sign m.OpenParen)) h = bind _ (parameter_list parts named i) (λ f. pure (Some f)) (list-sound named env i h names) (λ f j q. q)
  suffix-by named env i names None h = no_suffix named env i names
  suffix-by named env i names (Some _) h = no_suffix named env i names

  suffix-sound : (named : Bool) (env : Env) (i : Input) → i.names ≡ names_of env → Post (IsItem (IsSuffixes named) (NoSuffix, None) env i) (suffix parts named i)
  unfolding suffix
  suffix-sound named env i names = suffix-by named env i names (ahead i) refl

  pub suffixes-sound : (named : Bool) (env : Env) (i : Input) → i.names ≡ names_of env → Post (IsSuffixes named env i) (suffixes parts named i)
  unfolding suffixes
  suffixes-sound named env i names = while-sound (IsSuffixes named) (NoSuffix, None) (suffix parts named) (suffix-sound named) env i names
