-- Lists of specifiers are read (6.5.1 to 6.5.3).
use Rattle.std.proofs.Common.{◌≡◌, ℕ, zero, suc, ◌+◌, ◌<◌, ◌≤◌, Bool, true, false, not, ◌||◌, ◌&&◌, if◌then◌else◌, List, [], ◌∷◌, length, map, Option, Some, None, Ok, arith, refl, sym, ap, ◌∙◌}
use Rattle.pw_tree.specs.Numbering.{past_tag, past_specifiers, past_members, past_enumerators, NumberedTag, Numbered, NumberedSpecifiers, NumberedMembers, NumberedEnumerators}
use Rattle.pw_tree.specs.Scopes.{is_typedef_name, has_type, after_expr, after_specifiers, after_members, after_enumerators, Env}
use Rattle.pw_tree.specs.Spelling.{identifier, spell_tag, spell_expr, spell_specifiers, spell_members, spell_enumerators}
use Rattle.pw_tree.specs.Symbols as symbol
use Rattle.pw_tree.specs.Symbols.{Symbol, Reserved, Sign, unary_symbol, binary_mark, assign_mark, access_mark, step_mark}
use Rattle.pw_tree.specs.Trees.{Word, Specifiers, NoSpecifier, Storage, Qualified, Basic, TypedefName, RecordTag, Record, EnumTag, Enum, Members, Enumerators}
use Rattle.pw_tree.specs.WellFormed.{NoStorage, HasMember, HasEnumerator, WellFormed, WellFormedSpecifiers, WellFormedMembers, WellFormedEnumerators}
use Rattle.pw_token.specs.declared.symbol.Keyword.TheVariants as k
use Rattle.pw_token.specs.declared.symbol.Mark.TheVariants as m
use Rattle.pw_parse_grammar.specs.Input.{Input, ahead, step, same_mark, is_mark, sees, Outcome, pure, past}
use Rattle.pw_parse_grammar.specs.Parts.{Parts}
use Rattle.pw_tree.specs.declared.expr.BasicType.{BasicType}
use Rattle.pw_tree.specs.declared.expr.BasicType.TheVariants as basic
use Rattle.pw_tree.specs.declared.expr.Qualifier.{Qualifier}
use Rattle.pw_tree.specs.declared.expr.Qualifier.TheVariants as qualifier
use Rattle.pw_tree.specs.declared.expr.RecordKind.{RecordKind}
use Rattle.pw_tree.specs.declared.expr.RecordKind.TheVariants as record_kind
use Rattle.pw_tree.specs.declared.expr.StorageClass.{StorageClass}
use Rattle.pw_tree.specs.declared.expr.StorageClass.TheVariants as storage_class
use Rattle.pw_tree.specs.Symbols.{storage_word, qualifier_word, basic_word, record_word}
use Rattle.pw_parse_grammar.specs.declared.word.SpecifierWord.{SpecifierWord}
use Rattle.pw_parse_grammar.specs.declared.word.SpecifierWord.TheVariants as word_kind
use Rattle.pw_parse_grammar.specs.Specifiers.{tag, record_specifier, enum_specifier, specifier_at, specifier_by, specifier, specifiers_from, specifiers_of}
use Rattle.pw_parse_grammar.specs.Tests.{specifier_word, word_begins}
use Rattle.pw_parse_grammar.proofs.Trees.Base.{at, same, is_typedef, turns_enough, no_turns, true_is_not_false}
use Rattle.pw_parse_grammar.proofs.Trees.Follow.{head}
use Rattle.pw_parse_grammar.proofs.Written.Knows.{Knows, ReadsSpecifiers, ends_specifiers, MayHold}
use Rattle.pw_parse_grammar.proofs.Trees.Lengths.{length-tag, length-members, length-enumerators}
use Rattle.pw_parse_grammar.proofs.Written.Members.{members-read, enumerators-read}

storage-found : (c : StorageClass) → specifier_word (storage_word c) ≡ Some (word_kind.Storage c)
storage-found storage_class.Typedef = refl
storage-found storage_class.Extern = refl
storage-found storage_class.Static = refl
storage-found storage_class.Auto = refl
storage-found storage_class.Register = refl

qualifier-found : (q : Qualifier) → specifier_word (qualifier_word q) ≡ Some (word_kind.Qualified q)
qualifier-found qualifier.Const = refl
qualifier-found qualifier.Volatile = refl

basic-found : (b : BasicType) → specifier_word (basic_word b) ≡ Some (word_kind.Basic b)
basic-found basic.Void = refl
basic-found basic.Char = refl
basic-found basic.Short = refl
basic-found basic.Int = refl
basic-found basic.Long = refl
basic-found basic.Float = refl
basic-found basic.Double = refl
basic-found basic.Signed = refl
basic-found basic.Unsigned = refl

record-found : (r : RecordKind) → specifier_word (record_word r) ≡ Some (word_kind.Record r)
record-found record_kind.Struct = refl
record-found record_kind.Union = refl

or-true : (b : Bool) → (b || true) ≡ true
or-true true = refl
or-true false = refl

or-false : (b : Bool) → (b || false) ≡ b
or-false true = refl
or-false false = refl

not-true : {A : Type 0} → not true ≡ true → A
not-true h = true_is_not_false h

-- the rest of a list holds no more than the list may
held : (storage : Bool) (ss rest : Specifiers) → (NoStorage ss → NoStorage rest) → MayHold storage ss → MayHold storage rest
held true ss rest f h = h
held false ss rest f h = f h

-- no `{` stands behind a tag with no list
no_brace : (storage typed : Bool) (env : Env) (o : Option Symbol) → ends_specifiers storage typed env o ≡ true → is_mark m.OpenBrace o ≡ false
unfolding same_mark
no_brace storage typed env (Some (Sign m.OpenBrace)) h = true_is_not_false h
no_brace storage typed env (Some _) h = refl
no_brace storage typed env None h = refl

behind-tag : (storage typed : Bool) (env : Env) (ss : Specifiers) (z : List Symbol) → ends_specifiers storage typed (after_specifiers env ss) (head z) ≡ true → is_mark m.OpenBrace (head (spell_specifiers ss z)) ≡ false
unfolding spell_expr same_mark after_expr
behind-tag storage typed env NoSpecifier z h = no_brace storage typed env (head z) h
behind-tag storage typed env (Storage t c ss) z h = refl
behind-tag storage typed env (Qualified t q ss) z h = refl
behind-tag storage typed env (Basic t b ss) z h = refl
behind-tag storage typed env (TypedefName w ss) z h = refl
behind-tag storage typed env (RecordTag t r x ss) z h = refl
behind-tag storage typed env (Record t r x ms ss) z h = refl
behind-tag storage typed env (EnumTag t x ss) z h = refl
behind-tag storage typed env (Enum t x es ss) z h = refl

tag-read : (env : Env) (x : Option Word) (z : List Symbol) (n i : ℕ) → NumberedTag n x → i ≡ n → tag (at env (spell_tag x (Sign m.OpenBrace ∷ z)) i) ≡ Ok (x, at env (Sign m.OpenBrace ∷ z) (past_tag n x))
unfolding tag ahead step
tag-read env None z n i num at_n = same env (Sign m.OpenBrace ∷ z) refl (omega (arith, at_n))
tag-read env (Some w) z n i num at_n = same env (Sign m.OpenBrace ∷ z) (ap (λ v. Some (record { token = v; text = w.text })) (at_n ∙ sym num)) (omega (arith, at_n))

module _ (d : ℕ) (parts : Parts) (known : Knows d parts) where
  -- ---- one specifier

  record-read : (env : Env) (r : RecordKind) (s : Symbol) (x : Option Word) (ms : Members) (z : List Symbol) (n i : ℕ) → HasMember ms → WellFormedMembers env ms → NumberedTag (n + 1) x → NumberedMembers (past_tag (n + 1) x + 1) ms
      → length (spell_members ms (Sign m.CloseBrace ∷ z)) < d → i ≡ n
      → record_specifier parts r (at env (s ∷ spell_tag x (Sign m.OpenBrace ∷ spell_members ms (Sign m.CloseBrace ∷ z))) i) ≡ Ok (Record i r x ms, at (after_members env ms) z (past_members (past_tag (n + 1) x + 1) ms + 1))
  unfolding record_specifier sees past ahead step same_mark
  record-read env r s x ms z n i has w num numm short at_n =
      rw (tag-read env x (spell_members ms (Sign m.CloseBrace ∷ z)) (n + 1) (i + 1) num (omega (arith, at_n)))
      (rw (members-read d parts known env ms z (past_tag (n + 1) x + 1) (past_tag (n + 1) x + 1) has w numm short refl) refl)

  enum-read : (env : Env) (s : Symbol) (x : Option Word) (es : Enumerators) (z : List Symbol) (n i : ℕ) → HasEnumerator es → WellFormedEnumerators env es → NumberedTag (n + 1) x → NumberedEnumerators true (past_tag (n + 1) x + 1) es
      → length (spell_enumerators true es (Sign m.CloseBrace ∷ z)) < d → i ≡ n
      → enum_specifier parts (at env (s ∷ spell_tag x (Sign m.OpenBrace ∷ spell_enumerators true es (Sign m.CloseBrace ∷ z))) i) ≡ Ok (Enum i x es, at (after_enumerators env es) z (past_enumerators true (past_tag (n + 1) x + 1) es + 1))
  unfolding enum_specifier sees past ahead step same_mark
  enum-read env s x es z n i has w num nume short at_n =
      rw (tag-read env x (spell_enumerators true es (Sign m.CloseBrace ∷ z)) (n + 1) (i + 1) num (omega (arith, at_n)))
      (rw (enumerators-read d parts known env es z (past_tag (n + 1) x + 1) (past_tag (n + 1) x + 1) has w nume short refl) refl)

  record_tag-read : (env : Env) (r : RecordKind) (s : Symbol) (w : Word) (z : List Symbol) (i : ℕ) → is_mark m.OpenBrace (head z) ≡ false
      → record_specifier parts r (at env (s ∷ identifier w ∷ z) i) ≡ Ok (RecordTag i r (record { token = i + 1; text = w.text }), at env z (i + 1 + 1))
  unfolding record_specifier tag sees past ahead step
  record_tag-read env r s w z i h = rw h refl

  enum_tag-read : (env : Env) (s : Symbol) (w : Word) (z : List Symbol) (i : ℕ) → is_mark m.OpenBrace (head z) ≡ false
      → enum_specifier parts (at env (s ∷ identifier w ∷ z) i) ≡ Ok (EnumTag i (record { token = i + 1; text = w.text }), at env z (i + 1 + 1))
  unfolding enum_specifier tag sees past ahead step
  enum_tag-read env s w z i h = rw h refl

  -- no specifier stands where the list ends
  none-word : (storage : Bool) (o : Option SpecifierWord) (i : Input) → not (word_begins storage o) ≡ true → specifier_at parts storage o i ≡ Ok (None, i)
  unfolding specifier_at
  none-word storage None i h = refl
  none-word true (Some (word_kind.Storage c)) i h = not-true h
  none-word false (Some (word_kind.Storage c)) i h = refl
  none-word storage (Some (word_kind.Qualified q)) i h = not-true h
  none-word storage (Some (word_kind.Basic b)) i h = not-true h
  none-word storage (Some (word_kind.Record r)) i h = not-true h
  none-word storage (Some word_kind.Enum) i h = not-true h

  none-name : (typed b : Bool) (w : Input → Outcome (Option (Specifiers → Specifiers))) (i : Input) → (typed || not b) ≡ true → (if not typed && b then w else pure None) i ≡ Ok (None, i)
  none-name true b w i h = refl
  none-name false true w i h = true_is_not_false h
  none-name false false w i h = refl

  specifier-none : (storage typed : Bool) (env : Env) (tokens : List Symbol) (n : ℕ) → ends_specifiers storage typed env (head tokens) ≡ true → specifier parts storage typed (at env tokens n) ≡ Ok (None, at env tokens n)
  unfolding specifier specifier_at ahead
  specifier-none storage typed env tokens n h = by (head tokens) h
    where
      by : (o : Option Symbol) → ends_specifiers storage typed env o ≡ true → specifier_by parts storage typed o (at env tokens n) ≡ Ok (None, at env tokens n)
      by None h = refl
      by (Some (Reserved w)) h = none-word storage (specifier_word w) (at env tokens n) h
      by (Some (symbol.Identifier x)) h = rw (is_typedef env tokens n x) (none-name typed (is_typedef_name env x) _ (at env tokens n) h)
      by (Some _) h = refl

  -- a specifier, and the rest of the list
  specifiers-step : (storage typed typed' : Bool) (count : ℕ) (i j k : Input) (first : Specifiers → Specifiers) (ss : Specifiers) → (typed || has_type (first NoSpecifier)) ≡ typed' → specifier parts storage typed i ≡ Ok (Some first, j)
      → specifiers_from parts storage count typed' j ≡ Ok (ss, k) → specifiers_from parts storage (suc count) typed i ≡ Ok (first ss, k)
  unfolding specifiers_from
  specifiers-step storage typed typed' count i j k first ss is e f = rw e (rw is (rw f refl))

  specifiers-turns : (count : ℕ) (storage typed : Bool) (env : Env) (ss : Specifiers) (z : List Symbol) (n i : ℕ) → WellFormedSpecifiers env typed ss → MayHold storage ss → NumberedSpecifiers n ss
      → ends_specifiers storage (typed || has_type ss) (after_specifiers env ss) (head z) ≡ true → length (spell_specifiers ss z) < count → length (spell_specifiers ss z) ≤ d → i ≡ n
      → specifiers_from parts storage count typed (at env (spell_specifiers ss z) i) ≡ Ok (ss, at (after_specifiers env ss) z (past_specifiers n ss))
  unfolding specifiers_from specifier specifier_at ahead step spell_expr WellFormed Numbered after_expr
  specifiers-turns zero storage typed env ss z n i w may num ends enough short at_n = no_turns enough
  specifiers-turns (suc count) storage typed env NoSpecifier z n i w may num ends enough short at_n =
      rw (specifier-none storage typed env z i (rw (or-false typed) at ends)) (same env z refl (omega (arith, at_n)))
  specifiers-turns (suc count) false typed env (Storage t c ss) z n i w may num ends enough short at_n = absurd may
  specifiers-turns (suc count) true typed env (Storage t c ss) z n i w may num ends enough short at_n =
      specifiers-step true typed typed count (at env (spell_specifiers (Storage t c ss) z) i) (at env (spell_specifiers ss z) (i + 1)) (at (after_specifiers env ss) z (past_specifiers (n + 1) ss)) (Storage i c) ss (or-false typed)
      (rw (storage-found c) refl) (specifiers-turns count true typed env ss z (n + 1) (i + 1) w tt num.1 ends (omega (arith, enough)) (omega (arith, short)) (omega (arith, at_n)))
      ∙ same (after_specifiers env ss) z (ap (λ v. Storage v c ss) (at_n ∙ sym num.0)) (omega arith)
  specifiers-turns (suc count) storage typed env (Qualified t q ss) z n i w may num ends enough short at_n =
      specifiers-step storage typed typed count (at env (spell_specifiers (Qualified t q ss) z) i) (at env (spell_specifiers ss z) (i + 1)) (at (after_specifiers env ss) z (past_specifiers (n + 1) ss)) (Qualified i q) ss (or-false typed)
      (rw (qualifier-found q) refl) (specifiers-turns count storage typed env ss z (n + 1) (i + 1) w (held storage (Qualified t q ss) ss (λ h. h) may) num.1 ends (omega (arith, enough)) (omega (arith, short)) (omega (arith, at_n)))
      ∙ same (after_specifiers env ss) z (ap (λ v. Qualified v q ss) (at_n ∙ sym num.0)) (omega arith)
  specifiers-turns (suc count) storage typed env (Basic t b ss) z n i w may num ends enough short at_n =
      specifiers-step storage typed true count (at env (spell_specifiers (Basic t b ss) z) i) (at env (spell_specifiers ss z) (i + 1)) (at (after_specifiers env ss) z (past_specifiers (n + 1) ss)) (Basic i b) ss (or-true typed)
      (rw (basic-found b) refl) (specifiers-turns count storage true env ss z (n + 1) (i + 1) w (held storage (Basic t b ss) ss (λ h. h) may) num.1 (rw (or-true typed) at ends) (omega (arith, enough)) (omega (arith, short)) (omega (arith, at_n)))
      ∙ same (after_specifiers env ss) z (ap (λ v. Basic v b ss) (at_n ∙ sym num.0)) (omega arith)
  specifiers-turns (suc count) storage typed env (TypedefName x ss) z n i w may num ends enough short at_n =
      specifiers-step storage typed true count (at env (spell_specifiers (TypedefName x ss) z) i) (at env (spell_specifiers ss z) (i + 1)) (at (after_specifiers env ss) z (past_specifiers (n + 1) ss)) (TypedefName (record { token = i; text = x.text })) ss (or-true typed)
      (rw (is_typedef env (spell_specifiers (TypedefName x ss) z) i x.text ∙ w.1) (rw w.0 refl)) (specifiers-turns count storage true env ss z (n + 1) (i + 1) w.2 (held storage (TypedefName x ss) ss (λ h. h) may) num.1 (rw (or-true typed) at ends) (omega (arith, enough)) (omega (arith, short)) (omega (arith, at_n)))
      ∙ same (after_specifiers env ss) z (ap (λ v. TypedefName (record { token = v; text = x.text }) ss) (at_n ∙ sym num.0)) (omega arith)
  specifiers-turns (suc count) storage typed env (RecordTag t r x ss) z n i w may num ends enough short at_n =
      specifiers-step storage typed true count (at env (spell_specifiers (RecordTag t r x ss) z) i) (at env (spell_specifiers ss z) (i + 1 + 1)) (at (after_specifiers env ss) z (past_specifiers (n + 2) ss)) (RecordTag i r (record { token = i + 1; text = x.text })) ss (or-true typed)
      (rw (record-found r) (rw (record_tag-read env r (Reserved (record_word r)) x (spell_specifiers ss z) i (behind-tag storage (typed || true) env ss z ends)) refl))
      (specifiers-turns count storage true env ss z (n + 2) (i + 1 + 1) w (held storage (RecordTag t r x ss) ss (λ h. h) may) num.2 (rw (or-true typed) at ends) (omega (arith, enough)) (omega (arith, short)) (omega (arith, at_n)))
      ∙ same (after_specifiers env ss) z (ap (λ v. RecordTag v r (record { token = i + 1; text = x.text }) ss) (at_n ∙ sym num.0) ∙ ap (λ v. RecordTag t r (record { token = v; text = x.text }) ss) (omega (arith, at_n, num.1))) (omega arith)
  specifiers-turns (suc count) storage typed env (EnumTag t x ss) z n i w may num ends enough short at_n =
      specifiers-step storage typed true count (at env (spell_specifiers (EnumTag t x ss) z) i) (at env (spell_specifiers ss z) (i + 1 + 1)) (at (after_specifiers env ss) z (past_specifiers (n + 2) ss)) (EnumTag i (record { token = i + 1; text = x.text })) ss (or-true typed)
      (rw (enum_tag-read env (Reserved k.Enum) x (spell_specifiers ss z) i (behind-tag storage (typed || true) env ss z ends)) refl)
      (specifiers-turns count storage true env ss z (n + 2) (i + 1 + 1) w (held storage (EnumTag t x ss) ss (λ h. h) may) num.2 (rw (or-true typed) at ends) (omega (arith, enough)) (omega (arith, short)) (omega (arith, at_n)))
      ∙ same (after_specifiers env ss) z (ap (λ v. EnumTag v (record { token = i + 1; text = x.text }) ss) (at_n ∙ sym num.0) ∙ ap (λ v. EnumTag t (record { token = v; text = x.text }) ss) (omega (arith, at_n, num.1))) (omega arith)
  specifiers-turns (suc count) storage typed env (Record t r x ms ss) z n i w may num ends enough short at_n =
      let inner = after_members env ms in
      let text = spell_members ms (Sign m.CloseBrace ∷ spell_specifiers ss z) in
      let behind = past_members (past_tag (n + 1) x + 1) ms + 1 in
      specifiers-step storage typed true count (at env (spell_specifiers (Record t r x ms ss) z) i) (at inner (spell_specifiers ss z) behind) (at (after_specifiers inner ss) z (past_specifiers behind ss)) (Record i r x ms) ss (or-true typed)
      (rw (record-found r) (rw (record-read env r (Reserved (record_word r)) x ms (spell_specifiers ss z) n i w.0 w.1 num.1 num.2 (omega (arith, short, length-tag x (Sign m.OpenBrace ∷ text))) at_n) refl))
      (specifiers-turns count storage true inner ss z behind behind w.2 (held storage (Record t r x ms ss) ss (λ h. h) may) num.3 (rw (or-true typed) at ends)
      (omega (arith, enough, length-tag x (Sign m.OpenBrace ∷ text), length-members ms (Sign m.CloseBrace ∷ spell_specifiers ss z))) (omega (arith, short, length-tag x (Sign m.OpenBrace ∷ text), length-members ms (Sign m.CloseBrace ∷ spell_specifiers ss z))) refl)
      ∙ same (after_specifiers inner ss) z (ap (λ v. Record v r x ms ss) (at_n ∙ sym num.0))
      (omega (arith, length-tag x (Sign m.OpenBrace ∷ spell_members ms (Sign m.CloseBrace ∷ spell_specifiers ss [])), length-members ms (Sign m.CloseBrace ∷ spell_specifiers ss [])))
  specifiers-turns (suc count) storage typed env (Enum t x es ss) z n i w may num ends enough short at_n =
      let inner = after_enumerators env es in
      let text = spell_enumerators true es (Sign m.CloseBrace ∷ spell_specifiers ss z) in
      let behind = past_enumerators true (past_tag (n + 1) x + 1) es + 1 in
      specifiers-step storage typed true count (at env (spell_specifiers (Enum t x es ss) z) i) (at inner (spell_specifiers ss z) behind) (at (after_specifiers inner ss) z (past_specifiers behind ss)) (Enum i x es) ss (or-true typed)
      (rw (enum-read env (Reserved k.Enum) x es (spell_specifiers ss z) n i w.0 w.1 num.1 num.2 (omega (arith, short, length-tag x (Sign m.OpenBrace ∷ text))) at_n) refl)
      (specifiers-turns count storage true inner ss z behind behind w.2 (held storage (Enum t x es ss) ss (λ h. h) may) num.3 (rw (or-true typed) at ends)
      (omega (arith, enough, length-tag x (Sign m.OpenBrace ∷ text), length-enumerators true es (Sign m.CloseBrace ∷ spell_specifiers ss z))) (omega (arith, short, length-tag x (Sign m.OpenBrace ∷ text), length-enumerators true es (Sign m.CloseBrace ∷ spell_specifiers ss z))) refl)
      ∙ same (after_specifiers inner ss) z (ap (λ v. Enum v x es ss) (at_n ∙ sym num.0))
      (omega (arith, length-tag x (Sign m.OpenBrace ∷ spell_enumerators true es (Sign m.CloseBrace ∷ spell_specifiers ss [])), length-enumerators true es (Sign m.CloseBrace ∷ spell_specifiers ss [])))

  pub specifiers_of-read : ReadsSpecifiers (suc d) (specifiers_of parts)
  unfolding specifiers_of
  specifiers_of-read storage env ss z n i w may num ends short at_n =
      specifiers-turns (length (map Some (spell_specifiers ss z)) + 1) storage false env ss z n i w may num ends (turns_enough (spell_specifiers ss z)) (omega (arith, short)) at_n
