-- Pointers and lists of identifiers are read (6.5.4.1, 6.5.4.3).
use Rattle.std.proofs.Common.{◌≡◌, ℕ, zero, suc, ◌+◌, ◌<◌, true, false, List, [], ◌∷◌, length, map, Some, None, Ok, arith, refl, sym, ap, ◌∙◌}
use Rattle.pw_tree.specs.Numbering.{past_identifiers, past_pointers, NumberedIdentifiers, NumberedPointers}
use Rattle.pw_tree.specs.Scopes.{Env}
use Rattle.pw_tree.specs.Spelling.{identifier, spell_identifiers, spell_qualifiers, spell_pointers}
use Rattle.pw_tree.specs.Symbols.{Symbol, Sign}
use Rattle.pw_tree.specs.Trees.{Word, Pointer}
use Rattle.pw_tree.specs.WellFormed.{NotEmpty, NotTypedef, NoneTypedef}
use Rattle.pw_token.specs.declared.symbol.Mark.TheVariants as m
use Rattle.pw_parse_grammar.specs.Input.{ahead, step, same_mark, is_mark, sees, Parser, ◌<$>◌, ordinary_by, repeat, turn_of, unless_comma, Turn}
use Rattle.pw_tree.specs.declared.expr.Qualifier.{Qualifier}
use Rattle.pw_tree.specs.declared.expr.Qualifier.TheVariants as qualifier_kind
use Rattle.pw_parse_grammar.specs.Declarators.{qualifier, qualifiers, starred, pointer, pointers, Names, name_in_list, names_in_list}
use Rattle.pw_parse_grammar.specs.Tests.{qualifier_word}
use Rattle.pw_parse_grammar.proofs.Trees.Base.{at, same, is_typedef, turns_enough, no_turns, some_more, some_last, item_turn, item_more, item_last, comma_more, comma_last}
use Rattle.pw_parse_grammar.proofs.Trees.Follow.{head}
use Rattle.pw_parse_grammar.proofs.Written.Knows.{bindings_of}
use Rattle.pw_parse_grammar.proofs.Trees.Lengths.{length-qualifiers}

-- ---- 6.5.4.1

qualifiers-turns : (count : ℕ) (env : Env) (qs : List Qualifier) (z : List Symbol) (i : ℕ) → qualifier_word (head z) ≡ None → length (spell_qualifiers qs z) < count
    → repeat (turn_of [] <$> qualifier) count (at env (spell_qualifiers qs z) i) ≡ Ok (qs, at env z (i + length qs))
unfolding qualifier ahead step
qualifiers-turns zero env qs z i follow enough = no_turns enough
qualifiers-turns (suc count) env [] z i follow enough = some_last [] qualifier count (at env z i) (at env z i) (rw follow refl) ∙ same env z refl (omega arith)
qualifiers-turns (suc count) env (qualifier_kind.Const ∷ qs) z i follow enough =
    some_more [] qualifier count (at env (spell_qualifiers (qualifier_kind.Const ∷ qs) z) i) (at env (spell_qualifiers qs z) (i + 1)) (at env z (i + 1 + length qs)) (λ more. qualifier_kind.Const ∷ more) qs refl
    (qualifiers-turns count env qs z (i + 1) follow (omega (arith, enough)))
    ∙ same env z refl (omega arith)
qualifiers-turns (suc count) env (qualifier_kind.Volatile ∷ qs) z i follow enough =
    some_more [] qualifier count (at env (spell_qualifiers (qualifier_kind.Volatile ∷ qs) z) i) (at env (spell_qualifiers qs z) (i + 1)) (at env z (i + 1 + length qs)) (λ more. qualifier_kind.Volatile ∷ more) qs refl
    (qualifiers-turns count env qs z (i + 1) follow (omega (arith, enough)))
    ∙ same env z refl (omega arith)

starred-read : (env : Env) (qs : List Qualifier) (z : List Symbol) (i : ℕ) → qualifier_word (head z) ≡ None
    → starred (at env (Sign m.Star ∷ spell_qualifiers qs z) i) ≡ Ok (record { token = i; qualifiers = qs }, at env z (i + 1 + length qs))
unfolding starred qualifiers step
starred-read env qs z i follow = rw (qualifiers-turns (length (map Some (spell_qualifiers qs z)) + 1) env qs z (i + 1) follow (turns_enough (spell_qualifiers qs z))) refl

qualifiers-count : (qs : List Qualifier) → length (spell_qualifiers qs []) ≡ length qs
qualifiers-count [] = refl
qualifiers-count (q ∷ qs) = omega (arith, qualifiers-count qs)

-- behind pointers stands neither `*` nor a qualifier
pointers-follow : (ps : List Pointer) (z : List Symbol) → qualifier_word (head z) ≡ None → qualifier_word (head (spell_pointers ps z)) ≡ None
pointers-follow [] z h = h
pointers-follow (p ∷ ps) z h = refl

pointers-turns : (count : ℕ) (env : Env) (ps : List Pointer) (z : List Symbol) (n i : ℕ) → NumberedPointers n ps → is_mark m.Star (head z) ≡ false → qualifier_word (head z) ≡ None → length (spell_pointers ps z) < count → i ≡ n
    → repeat (turn_of [] <$> pointer) count (at env (spell_pointers ps z) i) ≡ Ok (ps, at env z (past_pointers n ps))
unfolding pointer sees ahead same_mark
pointers-turns zero env ps z n i num star follow enough at_n = no_turns enough
pointers-turns (suc count) env [] z n i num star follow enough at_n = some_last [] pointer count (at env z i) (at env z i) (rw star refl) ∙ same env z refl (omega (arith, at_n))
pointers-turns (suc count) env (p ∷ ps) z n i num star follow enough at_n =
    some_more [] pointer count (at env (spell_pointers (p ∷ ps) z) i) (at env (spell_pointers ps z) (i + 1 + length p.qualifiers)) (at env z (past_pointers (n + 1 + length p.qualifiers) ps)) (λ more. record { token = i; qualifiers = p.qualifiers } ∷ more) ps
    (rw (starred-read env p.qualifiers (spell_pointers ps z) i (pointers-follow ps z follow)) refl)
    (pointers-turns count env ps z (n + 1 + length p.qualifiers) (i + 1 + length p.qualifiers) num.1 star follow (omega (arith, enough, length-qualifiers p.qualifiers (spell_pointers ps z))) (omega (arith, at_n)))
    ∙ same env z (ap (λ v. record { token = v; qualifiers = p.qualifiers } ∷ ps) (at_n ∙ sym num.0)) (omega (arith, length-qualifiers p.qualifiers (spell_pointers ps []), qualifiers-count p.qualifiers))

pub pointers-read : (env : Env) (ps : List Pointer) (z : List Symbol) (n i : ℕ) → NumberedPointers n ps → is_mark m.Star (head z) ≡ false → qualifier_word (head z) ≡ None → i ≡ n
    → pointers (at env (spell_pointers ps z) i) ≡ Ok (ps, at env z (past_pointers n ps))
unfolding pointers
pointers-read env ps z n i num star follow at_n = pointers-turns _ env ps z n i num star follow (turns_enough (spell_pointers ps z)) at_n

-- ---- lists of identifiers

abbrev names_turn : Parser (Turn Names)
names_turn = item_turn name_in_list (unless_comma ([], []))

name-read : (env : Env) (w : Word) (z : List Symbol) (i : ℕ) → NotTypedef env w
    → name_in_list (at env (identifier w ∷ z) i) ≡ Ok ((λ more. (record { token = i; text = w.text } ∷ more.0, (w.text, false) ∷ more.1)), at env z (i + 1))
unfolding name_in_list ordinary_by ahead step
name-read env w z i h = rw (is_typedef env (identifier w ∷ z) i w.text ∙ h) refl

names-turns : (count : ℕ) (env : Env) (w : Word) (ws : List Word) (z : List Symbol) (n i : ℕ) → NoneTypedef env (w ∷ ws) → NumberedIdentifiers true n (w ∷ ws) → length (spell_identifiers true (w ∷ ws) (Sign m.CloseParen ∷ z)) < count → i ≡ n
    → repeat names_turn count (at env (spell_identifiers true (w ∷ ws) (Sign m.CloseParen ∷ z)) i) ≡ Ok ((w ∷ ws, bindings_of (w ∷ ws)), at env (Sign m.CloseParen ∷ z) (past_identifiers true n (w ∷ ws)))
unfolding same_mark
names-turns zero env w ws z n i none num enough at_n = no_turns enough
names-turns (suc count) env w [] z n i none num enough at_n =
    item_last name_in_list (unless_comma ([], [])) count (at env (identifier w ∷ Sign m.CloseParen ∷ z) i) (at env (Sign m.CloseParen ∷ z) (i + 1)) (at env (Sign m.CloseParen ∷ z) (i + 1))
    (λ more. (record { token = i; text = w.text } ∷ more.0, (w.text, false) ∷ more.1)) ([], []) (name-read env w (Sign m.CloseParen ∷ z) i none.0) (comma_last ([], []) env (Sign m.CloseParen ∷ z) (i + 1) refl)
    ∙ same env (Sign m.CloseParen ∷ z) (ap (λ v. (record { token = v; text = w.text } ∷ [], (w.text, false) ∷ [])) (at_n ∙ sym num.0)) (omega (arith, at_n))
names-turns (suc count) env w (x ∷ ws) z n i none num enough at_n =
    let more = spell_identifiers true (x ∷ ws) (Sign m.CloseParen ∷ z) in
    item_more name_in_list (unless_comma ([], [])) count (at env (identifier w ∷ Sign m.Comma ∷ more) i) (at env (Sign m.Comma ∷ more) (i + 1)) (at env more (i + 1 + 1)) (at env (Sign m.CloseParen ∷ z) (past_identifiers true (n + 1 + 1) (x ∷ ws)))
    (λ more. (record { token = i; text = w.text } ∷ more.0, (w.text, false) ∷ more.1)) (x ∷ ws, bindings_of (x ∷ ws)) (name-read env w (Sign m.Comma ∷ more) i none.0) (comma_more ([], []) env more (i + 1))
    (names-turns count env x ws z (n + 1 + 1) (i + 1 + 1) none.1 num.1 (omega (arith, enough)) (omega (arith, at_n)))
    ∙ same env (Sign m.CloseParen ∷ z) (ap (λ v. (record { token = v; text = w.text } ∷ x ∷ ws, bindings_of (w ∷ x ∷ ws))) (at_n ∙ sym num.0)) (omega arith)

pub names-read : (env : Env) (ws : List Word) (z : List Symbol) (n i : ℕ) → NotEmpty ws → NoneTypedef env ws → NumberedIdentifiers true n ws → i ≡ n
    → names_in_list (at env (spell_identifiers true ws (Sign m.CloseParen ∷ z)) i) ≡ Ok ((ws, bindings_of ws), at env (Sign m.CloseParen ∷ z) (past_identifiers true n ws))
unfolding names_in_list
names-read env [] z n i has none num at_n = absurd has
names-read env (w ∷ ws) z n i has none num at_n = names-turns _ env w ws z n i none num (turns_enough (spell_identifiers true (w ∷ ws) (Sign m.CloseParen ∷ z))) at_n
