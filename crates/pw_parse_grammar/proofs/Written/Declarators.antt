-- Declarators are read (6.5.4, 6.5.5).
use Rattle.std.proofs.Common.{◌≡◌, ℕ, zero, suc, ◌+◌, ◌<◌, ◌≤◌, Bool, true, false, not, ◌||◌, is_some, List, [], ◌∷◌, length, Option, Some, None, Ok, arith, refl, sym, ap, ◌∙◌, subst}
use Rattle.pw_tree.specs.Levels.{level}
use Rattle.pw_tree.specs.Numbering.{past_identifiers, past_pointers, past_expr, past_declarator, past_core, past_suffixes, past_parameters, NumberedIdentifiers, Numbered, NumberedDeclarator, NumberedCore, NumberedSuffixes, NumberedParameters}
use Rattle.pw_tree.specs.Scopes.{name_of, name_in, after_expr, after_declarator, after_core, after_suffixes, after_parameters, Env}
use Rattle.pw_tree.specs.Spelling.{identifier, spell_identifiers, spell_expr, spell_declarator, spell_core, spell_suffixes, spell_parameters}
use Rattle.pw_tree.specs.Symbols as symbol
use Rattle.pw_tree.specs.Symbols.{Symbol, Reserved, Sign, unary_symbol, binary_mark, assign_mark, access_mark, step_mark}
use Rattle.pw_tree.specs.Trees.{Word, Expr, Specifiers, Declarator, Declaring, Core, Absent, Name, Enclosed, Suffixes, NoSuffix, Array, OpenArray, Prototype, Variadic, Identifiers, Parameters, NoParameter, Parameter}
use Rattle.pw_tree.specs.WellFormed.{is_named, has_name, NoneTypedef, IsSomething, MayEnclose, WellFormed, WellFormedDeclarator, WellFormedCore, WellFormedSuffixes, WellFormedParameters}
use Rattle.pw_token.specs.declared.symbol.Keyword.TheVariants as k
use Rattle.pw_token.specs.declared.symbol.Mark.TheVariants as m
use Rattle.pw_parse_grammar.specs.declared.place.Place.{Place}
use Rattle.pw_parse_grammar.specs.declared.place.Place.TheVariants.{Named, Nameless, Either}
use Rattle.pw_parse_grammar.specs.Input.{Input, ahead, step, same_mark, is_mark, sees, Parser, pure, ◌<$>◌, past, expect, repeat, turn_of, Turn}
use Rattle.pw_parse_grammar.specs.Parts.{Parts}
use Rattle.pw_parse_grammar.specs.Declarators.{Behind, suffixed, array, parameter_list, prototype_of, identifiers, listed, suffix, suffix_by, suffixes, Cored, may_be_enclosed, enclosed, absent, core, core_by, declarator_of}
use Rattle.pw_parse_grammar.specs.Tests.{begins_specifier, opens_parameters, qualifier_word}
use Rattle.pw_parse_grammar.proofs.Trees.Base.{at, same, names_of, is_typedef, turns_enough, no_turns, true_is_not_false, some_more, some_last}
use Rattle.pw_parse_grammar.proofs.Trees.Follow.{head}
use Rattle.pw_parse_grammar.proofs.Trees.Heads.{expr-begins, expr-no_close_bracket, specifiers-begin}
use Rattle.pw_parse_grammar.proofs.Written.Knows.{Knows, ReadsDeclarator, joins_declarator, text_of, bindings_of, behind_suffixes, behind_core, place_of}
use Rattle.pw_parse_grammar.proofs.Trees.Lengths.{length-expr, length-pointers, length-core, length-declarator, length-parameters, length-identifiers}
use Rattle.pw_parse_grammar.proofs.Written.Members.{type-no_mark}
use Rattle.pw_parse_grammar.proofs.Written.Parameters.{dots, dots_count, prototype-read}
use Rattle.pw_parse_grammar.proofs.Written.Pointers.{pointers-read, names-read}

not-false : (b : Bool) → (false || not b) ≡ true → b ≡ false
not-false true h = true_is_not_false h
not-false false h = refl

-- a name that is there
mutual
  declarator-named : (x : Declarator) → is_some (text_of (name_of x)) ≡ is_named x
  declarator-named (Declaring ps c fs) = core-named c

  pub core-named : (c : Core) → is_some (text_of (name_in c)) ≡ has_name c
  core-named Absent = refl
  core-named (Name w) = refl
  core-named (Enclosed t x) = declarator-named x

no-suffix : (parts : Parts) (named : Bool) (place : Place) (o : Option Symbol) → joins_declarator place o ≡ false → suffix_by parts named o ≡ pure None
no-suffix parts named place (Some (Sign m.OpenBracket)) h = true_is_not_false (sym h)
no-suffix parts named place (Some (Sign m.OpenParen)) h = true_is_not_false (sym h)
no-suffix parts named place (Some _) h = refl
no-suffix parts named place None h = refl

-- a declaration's declarator, which needs a name
abbrev is_named_place : Place → Bool
is_named_place Named = true
is_named_place Nameless = false
is_named_place Either = false

module _ (d : ℕ) (parts : Parts) (known : Knows d parts) where
  abbrev suffix_turn : Bool → Parser (Turn Behind)
  suffix_turn named = turn_of (NoSuffix, None) <$> suffix parts named

  -- ---- 6.5.4.2, 6.5.4.3

  array-read : (env : Env) (e : Expr) (z : List Symbol) (n i : ℕ) → level e ≤ 14 → WellFormed env e → Numbered (n + 1) e → length (spell_expr e (Sign m.CloseBracket ∷ z)) < d → i ≡ n
      → array parts (at env (Sign m.OpenBracket ∷ spell_expr e (Sign m.CloseBracket ∷ z)) i) ≡ Ok (suffixed (Array i e) [], at (after_expr env e) z (past_expr (n + 1) e + 1))
  unfolding array expect sees past ahead step same_mark
  array-read env e z n i l w num short at_n =
      rw (expr-no_close_bracket env (head (spell_expr e (Sign m.CloseBracket ∷ z))) (expr-begins env e (Sign m.CloseBracket ∷ z) w))
      (rw (known.expr 14 (omega arith) env e (Sign m.CloseBracket ∷ z) (n + 1) (i + 1) w num l (omega arith) short (omega (arith, at_n))) refl)

  list-read : (variadic : Bool) (named : Bool) (env : Env) (ss : Specifiers) (x : Declarator) (ps : Parameters) (z : List Symbol) (n i : ℕ) → WellFormedParameters env (Parameter ss x ps) → NumberedParameters true (n + 1) (Parameter ss x ps)
      → length (spell_parameters true (Parameter ss x ps) (dots variadic z)) < d → i ≡ n
      → parameter_list parts named (at env (Sign m.OpenParen ∷ spell_parameters true (Parameter ss x ps) (dots variadic z)) i)
      ≡ Ok (suffixed (prototype_of i (Parameter ss x ps, variadic)) (names_of (after_parameters [] (Parameter ss x ps))), at env z (past_parameters true (n + 1) (Parameter ss x ps) + dots_count variadic + 1))
  unfolding parameter_list sees past ahead step begins_specifier spell_expr WellFormed
  list-read variadic named env ss x ps z n i w num short at_n =
      let text = spell_parameters true (Parameter ss x ps) (dots variadic z) in
      let begins = specifiers-begin true env ss (spell_declarator x (spell_parameters false ps (dots variadic z))) text (i + 1) w.0 tt w.1 in
      rw (type-no_mark m.CloseParen true (at env text (i + 1)) (head text) begins)
      (rw begins (prototype-read d parts known variadic env i ss x ps z (n + 1) (i + 1) w num short (omega (arith, at_n))))

  empty-list : (named : Bool) (env : Env) (z : List Symbol) (i : ℕ) → parameter_list parts named (at env (Sign m.OpenParen ∷ Sign m.CloseParen ∷ z) i) ≡ Ok (suffixed (Prototype i NoParameter) [], at env z (i + 1 + 1))
  unfolding parameter_list sees past ahead step same_mark
  empty-list named env z i = refl

  identifiers-read : (env : Env) (w : Word) (ws : List Word) (z : List Symbol) (n i : ℕ) → NoneTypedef env (w ∷ ws) → NumberedIdentifiers true (n + 1) (w ∷ ws) → i ≡ n
      → parameter_list parts true (at env (Sign m.OpenParen ∷ spell_identifiers true (w ∷ ws) (Sign m.CloseParen ∷ z)) i) ≡ Ok (suffixed (Identifiers i (w ∷ ws)) (bindings_of (w ∷ ws)), at env z (past_identifiers true (n + 1) (w ∷ ws) + 1))
  unfolding parameter_list listed identifiers expect sees past ahead step same_mark begins_specifier
  identifiers-read env w ws z n i none num at_n =
      rw (is_typedef env (spell_identifiers true (w ∷ ws) (Sign m.CloseParen ∷ z)) (i + 1) w.text ∙ none.0)
      (rw (names-read env (w ∷ ws) z (n + 1) (i + 1) tt none num (omega (arith, at_n))) refl)

  open-read : (named : Bool) (env : Env) (z : List Symbol) (i : ℕ) → suffix parts named (at env (Sign m.OpenBracket ∷ Sign m.CloseBracket ∷ z) i) ≡ Ok (Some (suffixed (OpenArray i) []), at env z (i + 1 + 1))
  unfolding suffix array sees past ahead step same_mark
  open-read named env z i = refl

  suffixes-turns : (count : ℕ) (place : Place) (named : Bool) (env : Env) (fs : Suffixes) (z : List Symbol) (n i : ℕ) → WellFormedSuffixes env named fs → NumberedSuffixes n fs → joins_declarator place (head z) ≡ false
      → length (spell_suffixes fs z) < count → length (spell_suffixes fs z) ≤ d → i ≡ n
      → repeat (suffix_turn named) count (at env (spell_suffixes fs z) i) ≡ Ok ((fs, behind_suffixes fs), at (after_suffixes env fs) z (past_suffixes n fs))
  unfolding spell_expr WellFormed Numbered after_expr suffix suffixed ahead
  suffixes-turns zero place named env fs z n i w num follow enough short at_n = no_turns enough
  suffixes-turns (suc count) place named env NoSuffix z n i w num follow enough short at_n =
      some_last (NoSuffix, None) (suffix parts named) count (at env z i) (at env z i) (rw (no-suffix parts named place (head z) follow) refl) ∙ same env z refl (omega (arith, at_n))
  suffixes-turns (suc count) place named env (Array t e fs) z n i w num follow enough short at_n =
      let long = length-expr e (Sign m.CloseBracket ∷ spell_suffixes fs z) in
      let behind = past_expr (n + 1) e + 1 in
      some_more (NoSuffix, None) (suffix parts named) count (at env (spell_suffixes (Array t e fs) z) i) (at (after_expr env e) (spell_suffixes fs z) behind) (at (after_suffixes (after_expr env e) fs) z (past_suffixes behind fs)) (suffixed (Array i e) []) (fs, behind_suffixes fs)
      (rw (array-read env e (spell_suffixes fs z) n i w.0 w.1 num.1 (omega (arith, short)) at_n) refl)
      (suffixes-turns count place named (after_expr env e) fs z behind behind w.2 num.2 follow (omega (arith, enough, long)) (omega (arith, short, long)) refl)
      ∙ same (after_suffixes (after_expr env e) fs) z (ap (λ v. (Array v e fs, Some [])) (at_n ∙ sym num.0)) (omega (arith, length-expr e (Sign m.CloseBracket ∷ spell_suffixes fs [])))
  suffixes-turns (suc count) place named env (OpenArray t fs) z n i w num follow enough short at_n =
      some_more (NoSuffix, None) (suffix parts named) count (at env (spell_suffixes (OpenArray t fs) z) i) (at env (spell_suffixes fs z) (i + 1 + 1)) (at (after_suffixes env fs) z (past_suffixes (n + 2) fs)) (suffixed (OpenArray i) []) (fs, behind_suffixes fs)
      (open-read named env (spell_suffixes fs z) i)
      (suffixes-turns count place named env fs z (n + 2) (i + 1 + 1) w num.1 follow (omega (arith, enough)) (omega (arith, short)) (omega (arith, at_n)))
      ∙ same (after_suffixes env fs) z (ap (λ v. (OpenArray v fs, Some [])) (at_n ∙ sym num.0)) (omega arith)
  suffixes-turns (suc count) place named env (Prototype t NoParameter fs) z n i w num follow enough short at_n =
      some_more (NoSuffix, None) (suffix parts named) count (at env (spell_suffixes (Prototype t NoParameter fs) z) i) (at env (spell_suffixes fs z) (i + 1 + 1)) (at (after_suffixes env fs) z (past_suffixes (n + 2) fs)) (suffixed (Prototype i NoParameter) []) (fs, behind_suffixes fs)
      (rw (empty-list named env (spell_suffixes fs z) i) refl)
      (suffixes-turns count place named env fs z (n + 2) (i + 1 + 1) w.1 (subst (λ v. NumberedSuffixes v fs) (two n) num.2) follow (omega (arith, enough)) (omega (arith, short)) (omega (arith, at_n)))
      ∙ same (after_suffixes env fs) z (ap (λ v. (Prototype v NoParameter fs, Some [])) (at_n ∙ sym num.0)) (omega arith)
    where
      two : (n : ℕ) → n + 1 + 0 + 1 ≡ n + 2
      two n = omega arith
  suffixes-turns (suc count) place named env (Prototype t (Parameter ss x ps) fs) z n i w num follow enough short at_n =
      let long = length-parameters true (Parameter ss x ps) (Sign m.CloseParen ∷ spell_suffixes fs z) in
      let behind = past_parameters true (n + 1) (Parameter ss x ps) + 1 in
      some_more (NoSuffix, None) (suffix parts named) count (at env (spell_suffixes (Prototype t (Parameter ss x ps) fs) z) i) (at env (spell_suffixes fs z) (past_parameters true (n + 1) (Parameter ss x ps) + 0 + 1)) (at (after_suffixes env fs) z (past_suffixes behind fs))
      (suffixed (prototype_of i (Parameter ss x ps, false)) (names_of (after_parameters [] (Parameter ss x ps)))) (fs, behind_suffixes fs)
      (rw (list-read false named env ss x ps (spell_suffixes fs z) n i w.0 num.1 (omega (arith, short)) at_n) refl)
      (suffixes-turns count place named env fs z behind (past_parameters true (n + 1) (Parameter ss x ps) + 0 + 1) w.1 num.2 follow (omega (arith, enough, long)) (omega (arith, short, long)) (omega arith))
      ∙ same (after_suffixes env fs) z (ap (λ v. (Prototype v (Parameter ss x ps) fs, Some (names_of (after_parameters [] (Parameter ss x ps))))) (at_n ∙ sym num.0)) (omega (arith, length-parameters true (Parameter ss x ps) (Sign m.CloseParen ∷ spell_suffixes fs [])))
  suffixes-turns (suc count) place named env (Variadic t NoParameter fs) z n i w num follow enough short at_n = absurd w.0
  suffixes-turns (suc count) place named env (Variadic t (Parameter ss x ps) fs) z n i w num follow enough short at_n =
      let long = length-parameters true (Parameter ss x ps) (Sign m.Comma ∷ Sign m.Ellipsis ∷ Sign m.CloseParen ∷ spell_suffixes fs z) in
      let behind = past_parameters true (n + 1) (Parameter ss x ps) + 3 in
      some_more (NoSuffix, None) (suffix parts named) count (at env (spell_suffixes (Variadic t (Parameter ss x ps) fs) z) i) (at env (spell_suffixes fs z) (past_parameters true (n + 1) (Parameter ss x ps) + 2 + 1)) (at (after_suffixes env fs) z (past_suffixes behind fs))
      (suffixed (prototype_of i (Parameter ss x ps, true)) (names_of (after_parameters [] (Parameter ss x ps)))) (fs, behind_suffixes fs)
      (rw (list-read true named env ss x ps (spell_suffixes fs z) n i w.1 num.1 (omega (arith, short)) at_n) refl)
      (suffixes-turns count place named env fs z behind (past_parameters true (n + 1) (Parameter ss x ps) + 2 + 1) w.2 num.2 follow (omega (arith, enough, long)) (omega (arith, short, long)) (omega arith))
      ∙ same (after_suffixes env fs) z (ap (λ v. (Variadic v (Parameter ss x ps) fs, Some (names_of (after_parameters [] (Parameter ss x ps))))) (at_n ∙ sym num.0)) (omega (arith, length-parameters true (Parameter ss x ps) (Sign m.Comma ∷ Sign m.Ellipsis ∷ Sign m.CloseParen ∷ spell_suffixes fs [])))
  suffixes-turns (suc count) place named env (Identifiers t [] fs) z n i w num follow enough short at_n = absurd w.1
  suffixes-turns (suc count) place false env (Identifiers t (x ∷ ws) fs) z n i w num follow enough short at_n = true_is_not_false w.0
  suffixes-turns (suc count) place true env (Identifiers t (x ∷ ws) fs) z n i w num follow enough short at_n =
      let long = length-identifiers true (x ∷ ws) (Sign m.CloseParen ∷ spell_suffixes fs z) in
      let behind = past_identifiers true (n + 1) (x ∷ ws) + 1 in
      some_more (NoSuffix, None) (suffix parts true) count (at env (spell_suffixes (Identifiers t (x ∷ ws) fs) z) i) (at env (spell_suffixes fs z) behind) (at (after_suffixes env fs) z (past_suffixes behind fs)) (suffixed (Identifiers i (x ∷ ws)) (bindings_of (x ∷ ws))) (fs, behind_suffixes fs)
      (rw (identifiers-read env x ws (spell_suffixes fs z) n i w.2 num.1 at_n) refl)
      (suffixes-turns count place true env fs z behind behind w.3 num.2 follow (omega (arith, enough, long)) (omega (arith, short, long)) refl)
      ∙ same (after_suffixes env fs) z (ap (λ v. (Identifiers v (x ∷ ws) fs, Some (bindings_of (x ∷ ws)))) (at_n ∙ sym num.0)) (omega (arith, length-identifiers true (x ∷ ws) (Sign m.CloseParen ∷ spell_suffixes fs [])))

  suffixes-read : (place : Place) (named : Bool) (env : Env) (fs : Suffixes) (z : List Symbol) (n i : ℕ) → WellFormedSuffixes env named fs → NumberedSuffixes n fs → joins_declarator place (head z) ≡ false → length (spell_suffixes fs z) ≤ d → i ≡ n
      → suffixes parts named (at env (spell_suffixes fs z) i) ≡ Ok ((fs, behind_suffixes fs), at (after_suffixes env fs) z (past_suffixes n fs))
  unfolding suffixes
  suffixes-read place named env fs z n i w num follow short at_n = suffixes-turns _ place named env fs z n i w num follow (turns_enough (spell_suffixes fs z)) short at_n

  -- ---- 6.5.4, 6.5.5

  abbrev cored : Core → Cored
  cored c = record { core = c; name = text_of (name_in c); behind = behind_core c }

  -- a declarator in parentheses is no list of parameters
  enclosed-opens : (place : Place) (typed : Bool) (env : Env) (x : Declarator) (z : List Symbol) (n : ℕ) → IsSomething x → MayEnclose env (place_of place) x → WellFormedDeclarator env typed (place_of place) x → is_named_place place ≡ false
      → opens_parameters (at env (Sign m.OpenParen ∷ spell_declarator x z) n) ≡ false
  unfolding opens_parameters sees ahead step same_mark spell_expr WellFormed
  enclosed-opens place typed env (Declaring (p ∷ ps) c fs) z n some may w named = refl
  enclosed-opens place typed env (Declaring [] Absent NoSuffix) z n some may w named = absurd some
  enclosed-opens place typed env (Declaring [] Absent (Array t e fs)) z n some may w named = refl
  enclosed-opens place typed env (Declaring [] Absent (OpenArray t fs)) z n some may w named = refl
  enclosed-opens place typed env (Declaring [] Absent (Prototype t ps fs)) z n some may w named = refl
  enclosed-opens place typed env (Declaring [] Absent (Variadic t ps fs)) z n some may w named = refl
  enclosed-opens place typed env (Declaring [] Absent (Identifiers t ws fs)) z n some may w named = refl
  enclosed-opens Named typed env (Declaring [] (Name w) fs) z n some may h named = true_is_not_false (sym named)
  enclosed-opens Nameless typed env (Declaring [] (Name w) fs) z n some may h named = absurd h.0
  enclosed-opens Either typed env (Declaring [] (Name w) fs) z n some may h named = is_typedef env (Sign m.OpenParen ∷ identifier w ∷ spell_suffixes fs z) n w.text ∙ may
  enclosed-opens place typed env (Declaring [] (Enclosed t x) fs) z n some may w named = refl

  enclosed-begins : (place : Place) (typed : Bool) (env : Env) (x : Declarator) (z : List Symbol) (n : ℕ) → IsSomething x → WellFormedDeclarator env typed (place_of place) x → may_be_enclosed place typed (at env (spell_declarator x z) n) ≡ true
  unfolding may_be_enclosed ahead spell_expr WellFormed
  enclosed-begins Named typed env (Declaring (p ∷ ps) c fs) z n some w = refl
  enclosed-begins Named typed env (Declaring [] Absent fs) z n some w = absurd w.0
  enclosed-begins Named typed env (Declaring [] (Name x) fs) z n some w = rw (is_typedef env (identifier x ∷ spell_suffixes fs z) n x.text) w.0
  enclosed-begins Named typed env (Declaring [] (Enclosed t x) fs) z n some w = refl
  enclosed-begins Nameless typed env (Declaring (p ∷ ps) c fs) z n some w = refl
  enclosed-begins Nameless typed env (Declaring [] Absent NoSuffix) z n some w = absurd some
  enclosed-begins Nameless typed env (Declaring [] Absent (Array t e fs)) z n some w = refl
  enclosed-begins Nameless typed env (Declaring [] Absent (OpenArray t fs)) z n some w = refl
  enclosed-begins Nameless typed env (Declaring [] Absent (Prototype t ps fs)) z n some w = refl
  enclosed-begins Nameless typed env (Declaring [] Absent (Variadic t ps fs)) z n some w = refl
  enclosed-begins Nameless typed env (Declaring [] Absent (Identifiers t ws fs)) z n some w = refl
  enclosed-begins Nameless typed env (Declaring [] (Enclosed t x) fs) z n some w = refl
  enclosed-begins Nameless typed env (Declaring [] (Name x) fs) z n some w = absurd w.0
  enclosed-begins Either typed env (Declaring (p ∷ ps) c fs) z n some w = refl
  enclosed-begins Either typed env (Declaring [] Absent NoSuffix) z n some w = absurd some
  enclosed-begins Either typed env (Declaring [] Absent (Array t e fs)) z n some w = refl
  enclosed-begins Either typed env (Declaring [] Absent (OpenArray t fs)) z n some w = refl
  enclosed-begins Either typed env (Declaring [] Absent (Prototype t ps fs)) z n some w = refl
  enclosed-begins Either typed env (Declaring [] Absent (Variadic t ps fs)) z n some w = refl
  enclosed-begins Either typed env (Declaring [] Absent (Identifiers t ws fs)) z n some w = refl
  enclosed-begins Either typed env (Declaring [] (Enclosed t x) fs) z n some w = refl
  enclosed-begins Either typed env (Declaring [] (Name x) fs) z n some w = rw (is_typedef env (identifier x ∷ spell_suffixes fs z) n x.text) w.0

  core-absent : (place : Place) (typed : Bool) (o : Option Symbol) (i : Input) → is_named_place place ≡ false → joins_declarator place o ≡ false → core_by parts place typed o i ≡ Ok (absent, i)
  core-absent Named typed o i named h = true_is_not_false (sym named)
  core-absent Nameless typed (Some (Sign m.OpenParen)) i named h = true_is_not_false (sym h)
  core-absent Nameless typed (Some (symbol.Identifier x)) i named h = true_is_not_false (sym h)
  core-absent Nameless typed (Some _) i named h = refl
  core-absent Nameless typed None i named h = refl
  core-absent Either typed (Some (Sign m.OpenParen)) i named h = true_is_not_false (sym h)
  core-absent Either typed (Some (symbol.Identifier x)) i named h = true_is_not_false (sym h)
  core-absent Either typed (Some _) i named h = refl
  core-absent Either typed None i named h = refl

  close-follow : (place : Place) → joins_declarator place (Some (Sign m.CloseParen)) ≡ false
  close-follow Named = refl
  close-follow Nameless = refl
  close-follow Either = refl

  enclosed-read : (place : Place) (typed : Bool) (env : Env) (x : Declarator) (z : List Symbol) (n i : ℕ) → IsSomething x → WellFormedDeclarator env typed (place_of place) x → NumberedDeclarator (n + 1) x
      → length (spell_declarator x (Sign m.CloseParen ∷ z)) < d → i ≡ n
      → enclosed parts place typed (at env (Sign m.OpenParen ∷ spell_declarator x (Sign m.CloseParen ∷ z)) i) ≡ Ok (cored (Enclosed i x), at (after_declarator env x) z (past_declarator (n + 1) x + 1))
  unfolding enclosed expect sees ahead step same_mark
  enclosed-read place typed env x z n i some w num short at_n =
      rw (enclosed-begins place typed env x (Sign m.CloseParen ∷ z) (i + 1) some w)
      (rw (known.declarator place typed env x (Sign m.CloseParen ∷ z) (n + 1) (i + 1) w num (close-follow place) short (omega (arith, at_n))) refl)

  core-enclosed : (place : Place) (typed : Bool) (env : Env) (x : Declarator) (z : List Symbol) (n i : ℕ) → IsSomething x → MayEnclose env (place_of place) x → WellFormedDeclarator env typed (place_of place) x → NumberedDeclarator (n + 1) x
      → length (spell_declarator x (Sign m.CloseParen ∷ z)) < d → i ≡ n
      → core parts place typed (at env (Sign m.OpenParen ∷ spell_declarator x (Sign m.CloseParen ∷ z)) i) ≡ Ok (cored (Enclosed i x), at (after_declarator env x) z (past_declarator (n + 1) x + 1))
  unfolding core ahead
  core-enclosed Named typed env x z n i some may w num short at_n = enclosed-read Named typed env x z n i some w num short at_n
  core-enclosed Nameless typed env x z n i some may w num short at_n =
      rw (enclosed-opens Nameless typed env x (Sign m.CloseParen ∷ z) i some may w refl) (enclosed-read Nameless typed env x z n i some w num short at_n)
  core-enclosed Either typed env x z n i some may w num short at_n =
      rw (enclosed-opens Either typed env x (Sign m.CloseParen ∷ z) i some may w refl) (enclosed-read Either typed env x z n i some w num short at_n)

  -- a list of parameters stands where a declarator's name may be absent
  list-opens : (env : Env) (ss : Specifiers) (x : Declarator) (ps : Parameters) (z : List Symbol) (i : ℕ) → WellFormedParameters env (Parameter ss x ps)
      → opens_parameters (at env (Sign m.OpenParen ∷ spell_parameters true (Parameter ss x ps) z) i) ≡ true
  unfolding opens_parameters sees ahead step spell_expr WellFormed
  list-opens env ss x ps z i w =
      let text = spell_parameters true (Parameter ss x ps) z in
      let begins = specifiers-begin true env ss (spell_declarator x (spell_parameters false ps z)) (Sign m.OpenParen ∷ text) i w.0 tt w.1 in
      rw (type-no_mark m.CloseParen true (at env (Sign m.OpenParen ∷ text) i) (head text) begins) begins

  empty-opens : (env : Env) (z : List Symbol) (i : ℕ) → opens_parameters (at env (Sign m.OpenParen ∷ Sign m.CloseParen ∷ z) i) ≡ true
  unfolding opens_parameters sees ahead step same_mark
  empty-opens env z i = refl

  core-none : (place : Place) (typed : Bool) (env : Env) (fs : Suffixes) (z : List Symbol) (i : ℕ) → is_named_place place ≡ false → WellFormedSuffixes env false fs → joins_declarator place (head z) ≡ false
      → core parts place typed (at env (spell_suffixes fs z) i) ≡ Ok (cored Absent, at env (spell_suffixes fs z) i)
  unfolding core ahead spell_expr WellFormed
  core-none place typed env NoSuffix z i named w follow = core-absent place typed (head z) (at env z i) named follow
  core-none Nameless typed env (Array t e fs) z i named w follow = refl
  core-none Nameless typed env (OpenArray t fs) z i named w follow = refl
  core-none Nameless typed env (Prototype t NoParameter fs) z i named w follow = rw (empty-opens env (spell_suffixes fs z) i) refl
  core-none Nameless typed env (Prototype t (Parameter ss x ps) fs) z i named w follow = rw (list-opens env ss x ps (Sign m.CloseParen ∷ spell_suffixes fs z) i w.0) refl
  core-none Nameless typed env (Variadic t NoParameter fs) z i named w follow = absurd w.0
  core-none Nameless typed env (Variadic t (Parameter ss x ps) fs) z i named w follow = rw (list-opens env ss x ps (Sign m.Comma ∷ Sign m.Ellipsis ∷ Sign m.CloseParen ∷ spell_suffixes fs z) i w.1) refl
  core-none Nameless typed env (Identifiers t ws fs) z i named w follow = true_is_not_false w.0
  core-none Either typed env (Array t e fs) z i named w follow = refl
  core-none Either typed env (OpenArray t fs) z i named w follow = refl
  core-none Either typed env (Prototype t NoParameter fs) z i named w follow = rw (empty-opens env (spell_suffixes fs z) i) refl
  core-none Either typed env (Prototype t (Parameter ss x ps) fs) z i named w follow = rw (list-opens env ss x ps (Sign m.CloseParen ∷ spell_suffixes fs z) i w.0) refl
  core-none Either typed env (Variadic t NoParameter fs) z i named w follow = absurd w.0
  core-none Either typed env (Variadic t (Parameter ss x ps) fs) z i named w follow = rw (list-opens env ss x ps (Sign m.Comma ∷ Sign m.Ellipsis ∷ Sign m.CloseParen ∷ spell_suffixes fs z) i w.1) refl
  core-none Either typed env (Identifiers t ws fs) z i named w follow = true_is_not_false w.0
  core-none Named typed env (Array t e fs) z i named w follow = true_is_not_false (sym named)
  core-none Named typed env (OpenArray t fs) z i named w follow = true_is_not_false (sym named)
  core-none Named typed env (Prototype t ps fs) z i named w follow = true_is_not_false (sym named)
  core-none Named typed env (Variadic t ps fs) z i named w follow = true_is_not_false (sym named)
  core-none Named typed env (Identifiers t ws fs) z i named w follow = true_is_not_false (sym named)

  core-read : (place : Place) (typed : Bool) (env : Env) (c : Core) (fs : Suffixes) (z : List Symbol) (n i : ℕ) → WellFormedCore env typed (place_of place) c → WellFormedSuffixes (after_core env c) (has_name c) fs
      → NumberedCore n c → joins_declarator place (head z) ≡ false → length (spell_core c (spell_suffixes fs z)) ≤ d → i ≡ n
      → core parts place typed (at env (spell_core c (spell_suffixes fs z)) i) ≡ Ok (cored c, at (after_core env c) (spell_suffixes fs z) (past_core n c))
  unfolding core ahead step spell_expr WellFormed Numbered after_expr
  core-read Named typed env Absent fs z n i w v num follow short at_n = absurd w
  core-read Nameless typed env Absent fs z n i w v num follow short at_n = core-none Nameless typed env fs z i refl v follow ∙ same env (spell_suffixes fs z) refl (omega (arith, at_n))
  core-read Either typed env Absent fs z n i w v num follow short at_n = core-none Either typed env fs z i refl v follow ∙ same env (spell_suffixes fs z) refl (omega (arith, at_n))
  core-read Nameless typed env (Name x) fs z n i w v num follow short at_n = absurd w
  core-read Named typed env (Name x) fs z n i w v num follow short at_n =
      rw (is_typedef env (identifier x ∷ spell_suffixes fs z) i x.text) (rw w (same env (spell_suffixes fs z) (ap (λ v. cored (Name (record { token = v; text = x.text }))) (at_n ∙ sym num)) (omega (arith, at_n))))
  core-read Either typed env (Name x) fs z n i w v num follow short at_n =
      rw (is_typedef env (identifier x ∷ spell_suffixes fs z) i x.text) (rw w (same env (spell_suffixes fs z) (ap (λ v. cored (Name (record { token = v; text = x.text }))) (at_n ∙ sym num)) (omega (arith, at_n))))
  core-read place typed env (Enclosed t x) fs z n i w v num follow short at_n =
      core-enclosed place typed env x (spell_suffixes fs z) n i w.0 w.1 w.2 num.1 (omega (arith, short)) at_n
      ∙ same (after_declarator env x) (spell_suffixes fs z) (ap (λ v. cored (Enclosed v x)) (at_n ∙ sym num.0)) (omega (arith, length-declarator x (Sign m.CloseParen ∷ [])))

  no-pointer : (place : Place) (o : Option Symbol) → is_named_place place ≡ false → joins_declarator place o ≡ false → (is_mark m.Star o ≡ false) × (qualifier_word o ≡ None)
  unfolding same_mark
  no-pointer Named o named h = true_is_not_false (sym named)
  no-pointer Nameless (Some (Sign m.Star)) named h = true_is_not_false (sym h)
  no-pointer Nameless (Some (Reserved k.Const)) named h = true_is_not_false (sym h)
  no-pointer Nameless (Some (Reserved k.Volatile)) named h = true_is_not_false (sym h)
  no-pointer Nameless (Some _) named h = (refl, refl)
  no-pointer Nameless None named h = (refl, refl)
  no-pointer Either (Some (Sign m.Star)) named h = true_is_not_false (sym h)
  no-pointer Either (Some (Reserved k.Const)) named h = true_is_not_false (sym h)
  no-pointer Either (Some (Reserved k.Volatile)) named h = true_is_not_false (sym h)
  no-pointer Either (Some _) named h = (refl, refl)
  no-pointer Either None named h = (refl, refl)

  core-no_pointer : (place : Place) (typed : Bool) (env : Env) (c : Core) (fs : Suffixes) (z : List Symbol) → WellFormedCore env typed (place_of place) c → joins_declarator place (head z) ≡ false
      → (is_mark m.Star (head (spell_core c (spell_suffixes fs z))) ≡ false) × (qualifier_word (head (spell_core c (spell_suffixes fs z))) ≡ None)
  unfolding spell_expr WellFormed same_mark
  core-no_pointer place typed env (Name x) fs z w h = (refl, refl)
  core-no_pointer place typed env (Enclosed t x) fs z w h = (refl, refl)
  core-no_pointer Named typed env Absent fs z w h = absurd w
  core-no_pointer Nameless typed env Absent NoSuffix z w h = no-pointer Nameless (head z) refl h
  core-no_pointer Either typed env Absent NoSuffix z w h = no-pointer Either (head z) refl h
  core-no_pointer Nameless typed env Absent (Array t e fs) z w h = (refl, refl)
  core-no_pointer Nameless typed env Absent (OpenArray t fs) z w h = (refl, refl)
  core-no_pointer Nameless typed env Absent (Prototype t ps fs) z w h = (refl, refl)
  core-no_pointer Nameless typed env Absent (Variadic t ps fs) z w h = (refl, refl)
  core-no_pointer Nameless typed env Absent (Identifiers t ws fs) z w h = (refl, refl)
  core-no_pointer Either typed env Absent (Array t e fs) z w h = (refl, refl)
  core-no_pointer Either typed env Absent (OpenArray t fs) z w h = (refl, refl)
  core-no_pointer Either typed env Absent (Prototype t ps fs) z w h = (refl, refl)
  core-no_pointer Either typed env Absent (Variadic t ps fs) z w h = (refl, refl)
  core-no_pointer Either typed env Absent (Identifiers t ws fs) z w h = (refl, refl)

  pub declarator_of-read : ReadsDeclarator (suc d) (declarator_of parts)
  unfolding declarator_of spell_expr WellFormed Numbered after_expr
  declarator_of-read place typed env (Declaring ps c fs) z n i w num follow short at_n =
      let none = core-no_pointer place typed env c fs z w.0 follow in
      rw (pointers-read env ps (spell_core c (spell_suffixes fs z)) n i num.0 none.0 none.1 at_n)
      (rw (core-read place typed env c fs z (past_pointers n ps) (past_pointers n ps) w.0 w.1 num.1 follow (omega (arith, short, length-pointers ps (spell_core c (spell_suffixes fs z)))) refl)
      (rw (core-named c)
      (rw (suffixes-read place (has_name c) (after_core env c) fs z (past_core (past_pointers n ps) c) (past_core (past_pointers n ps) c) w.1 num.2 follow
      (omega (arith, short, length-pointers ps (spell_core c (spell_suffixes fs z)), length-core c (spell_suffixes fs z))) refl)
      (same (after_suffixes (after_core env c) fs) z refl (omega (arith, length-pointers ps (spell_core c (spell_suffixes fs [])), length-core c (spell_suffixes fs [])))))))
