-- Faults in suffixes of declarators (6.5.4.2, 6.5.4.3).
use Rattle.std.proofs.Common.{◌≡◌, ℕ, suc, ◌<◌, ◌≤◌, Bool, true, false, if◌then◌else◌, List, [], ◌∷◌, length, Option, Some, None, take, drop, arith, refl}
use Rattle.pw_tree.specs.Levels.{level}
use Rattle.pw_tree.specs.Scopes.{Env, after_expr, after_parameters}
use Rattle.pw_tree.specs.Spelling.{spell_expr, spell_suffixes, spell_parameters, spell_identifiers}
use Rattle.pw_tree.specs.Symbols as symbol
use Rattle.pw_tree.specs.Symbols.{Symbol, Sign}
use Rattle.pw_tree.specs.Trees.{Word, Expr, Suffixes, NoSuffix, Array, OpenArray, Prototype, Variadic, Identifiers, Parameters, NoParameter}
use Rattle.pw_tree.specs.WellFormed.{NotEmpty, NoneTypedef, HasParameter, WellFormed, WellFormedSuffixes, WellFormedParameters}
use Rattle.pw_token.specs.declared.symbol.Mark.TheVariants as m
use Rattle.pw_parse_grammar.specs.Input.{Input, ahead, step, Parser, ◌>>=◌, ◌>>◌, pure, ◌<$>◌, expect}
use Rattle.pw_parse_grammar.specs.Input as input
use Rattle.pw_parse_grammar.specs.Parts.{Parts}
use Rattle.pw_parse_grammar.specs.Declarators.{Behind, suffixed, prototype_of, names_in_list, array, parameters, prototype, identifiers, listed_by, listed, parameter_list, suffix_by, suffix, suffixes}
use Rattle.pw_parse_grammar.specs.Tests.{begins_specifier}
use Rattle.pw_parse_grammar.proofs.Trees.Base.{names_of}
use Rattle.pw_parse_grammar.proofs.Sound.Base.{Reads, both, token}
use Rattle.pw_parse_grammar.proofs.Sound.Parts.{Sound}
use Rattle.pw_parse_grammar.proofs.Sound.Pointers.{names_in_list-sound}
use Rattle.pw_parse_grammar.proofs.Sound.Parameters.{around_parameters, scoped, dotted, parameters-sound}
use Rattle.pw_parse_grammar.proofs.Viable.Base.{Does, Fails, bind-fails, choose-fails, expected-fails, eaten-fails, Form, Begins, Viable, missing, embed, counted}
use Rattle.pw_parse_grammar.proofs.Viable.Lists.{GoesOn, AfterItem, more_behind, found, while-fails}
use Rattle.pw_parse_grammar.proofs.Viable.Parts.{ViableParts}
use Rattle.pw_parse_grammar.proofs.Viable.Pointers.{names_in_list-fails}
use Rattle.pw_parse_grammar.proofs.Viable.Parameters.{parameters-fails}

-- suffixes, behind a name where the flag says so
abbrev pub suffix_lists : Bool → Form Suffixes
suffix_lists named = record { holds = λ env ss. WellFormedSuffixes env named ss; put = spell_suffixes }

prototype-before : (n : ℕ) (named variadic : Bool) (env : Env) (ps : Parameters) (ss : Suffixes) → WellFormedParameters env ps → HasParameter ps → WellFormedSuffixes env named ss
    → Begins (suffix_lists named) env (λ z. Sign m.OpenParen ∷ spell_parameters true ps (dotted variadic (Sign m.CloseParen ∷ spell_suffixes ss z)))
unfolding spell_expr WellFormed
prototype-before n named true env ps ss h has r = record { thing = Variadic n ps ss; holds = (has, h, r); spells = λ z. (z, refl) }
prototype-before n named false env ps ss h has r = record { thing = Prototype n ps ss; holds = (h, r); spells = λ z. (z, refl) }

prototype-closes : (n : ℕ) (named variadic : Bool) (env : Env) (ps : Parameters) → WellFormedParameters env ps → HasParameter ps → Begins (suffix_lists named) env (λ z. Sign m.OpenParen ∷ spell_parameters true ps (dotted variadic z))
unfolding spell_expr WellFormed
prototype-closes n named true env ps h has = record { thing = Variadic n ps NoSuffix; holds = (has, h, tt); spells = λ z. (Sign m.CloseParen ∷ z, refl) }
prototype-closes n named false env ps h has = record { thing = Prototype n ps NoSuffix; holds = (h, tt); spells = λ z. (Sign m.CloseParen ∷ z, refl) }

module _ (parts : Parts) (sound : Sound parts) (d : ℕ) (viable : ViableParts d parts) where
  abbrev Goes : Bool → Env → Input → Parser (Behind → Behind) → Input → Type 0
  Goes named env i p j = Does (λ f k. GoesOn (Viable (suffix_lists named)) env i k) (Viable (suffix_lists named) env i) (p j)

  array-fails : (named : Bool) (env : Env) (i : Input) → ahead i ≡ Some (Sign m.OpenBracket) → i.names ≡ names_of env → length i.rest < suc d → Goes named env i (array parts) i
  unfolding array spell_expr WellFormed
  array-fails named env i h names below =
      let t = token i env (Sign m.OpenBracket) h names in
      eaten-fails _ _ (step i) env m.CloseBracket (pure (suffixed (OpenArray i.next) [])) (parts.expr 14 >>= λ e. expect m.CloseBracket >> pure (suffixed (Array i.next e) [])) t.names
      (λ j c. more_behind (both t c) (omega (arith, counted t, counted c)) (λ ss r. record { thing = OpenArray i.next ss; holds = r; spells = λ z. (z, refl) }))
      (λ _. bind-fails _ _ (parts.expr 14 (step i)) _ (sound.expr 14 (omega arith) env (step i) t.names) (viable.expr 14 (omega arith) env (step i) t.names (omega (arith, below, counted t)))
      (λ e v. embed t v (λ x q. closes x q.0 q.1))
      (λ e y q. expected-fails _ _ y (after_expr env e) m.CloseBracket (pure (suffixed (Array i.next e) [])) q.reads.names (missing (both t q.reads) (closes e q.holds q.low))
      (λ j c. more_behind (both t (both q.reads c)) (omega (arith, counted t, counted q.reads, counted c)) (λ ss r. record { thing = Array i.next e ss; holds = (q.low, q.holds, r); spells = λ z. (z, refl) }))))
    where
      closes : (e : Expr) → WellFormed env e → level e ≤ 14 → Begins (suffix_lists named) env (λ z. Sign m.OpenBracket ∷ spell_expr e z)
      closes e h low = record { thing = Array i.next e NoSuffix; holds = (low, h, tt); spells = λ z. (Sign m.CloseBracket ∷ z, refl) }

  prototype-fails : (named : Bool) (env : Env) (i : Input) → Reads i (step i) env (λ z. Sign m.OpenParen ∷ z) → length i.rest < suc d → Goes named env i (prototype parts i.next) (step i)
  unfolding prototype
  prototype-fails named env i t below =
      let outer = length (step i).names in
      bind-fails _ _ (parameters parts (step i)) _ (parameters-sound parts sound env (step i) t.names) (parameters-fails parts sound d viable env (step i) t.names (omega (arith, below, counted t)))
      (λ e v. embed t v (λ ps h. prototype-closes i.next named false env ps h.0 h.1))
      (λ ps y q. expected-fails _ _ y (after_parameters env ps.0) m.CloseParen (input.leave outer >> pure (suffixed (prototype_of i.next ps) (drop outer y.names))) q.reads.names
      (missing (both t q.reads) (prototype-closes i.next named ps.1 env ps.0 q.holds q.has))
      (λ j c. let around = around_parameters env ps.0 (step i).names j.names t.names c.names in
      more_behind (both t (both q.reads (scoped (take outer j.names) c around.0))) (omega (arith, counted t, counted q.reads, counted c)) (λ ss r.
      prototype-before i.next named ps.1 env ps.0 ss q.holds q.has r)))

  identifiers-fails : (env : Env) (i : Input) → Reads i (step i) env (λ z. Sign m.OpenParen ∷ z) → Goes true env i (identifiers parts i.next) (step i)
  unfolding identifiers spell_expr WellFormed
  identifiers-fails env i t =
      bind-fails _ _ (names_in_list (step i)) _ (names_in_list-sound env (step i) t.names) (names_in_list-fails env (step i) t.names)
      (λ e v. embed t v (λ ws h. closes ws h.1 h.0))
      (λ ws y q. expected-fails _ _ y env m.CloseParen (pure (suffixed (Identifiers i.next ws.0) ws.1)) q.reads.names (missing (both t q.reads) (closes ws.0 q.has q.none))
      (λ j c. more_behind (both t (both q.reads c)) (omega (arith, counted t, counted q.reads, counted c)) (λ ss r.
      record { thing = Identifiers i.next ws.0 ss; holds = (refl, q.has, q.none, r); spells = λ z. (z, refl) })))
    where
      closes : (ws : List Word) → NotEmpty ws → NoneTypedef env ws → Begins (suffix_lists true) env (λ z. Sign m.OpenParen ∷ spell_identifiers true ws z)
      closes ws has none = record { thing = Identifiers i.next ws NoSuffix; holds = (refl, has, none, tt); spells = λ z. (Sign m.CloseParen ∷ z, refl) }

  -- neither parameters nor identifiers behind the `(`
  unlisted : (named : Bool) (env : Env) (i : Input) → Reads i (step i) env (λ z. Sign m.OpenParen ∷ z) → Viable (suffix_lists named) env i (step i)
  unfolding spell_expr WellFormed
  unlisted named env i t = missing t (record { thing = Prototype i.next NoParameter NoSuffix; holds = (tt, tt); spells = λ z. (Sign m.CloseParen ∷ z, refl) })

  listed-by : (named : Bool) (env : Env) (i : Input) → Reads i (step i) env (λ z. Sign m.OpenParen ∷ z) → (s : Option Symbol) → Goes named env i (listed_by parts named i.next s) (step i)
  listed-by true env i t (Some (symbol.Identifier x)) = identifiers-fails env i t
  listed-by false env i t (Some (symbol.Identifier x)) = unlisted false env i t
  listed-by named env i t None = unlisted named env i t
  listed-by named env i t (Some _) = unlisted named env i t

  list-fails : (named : Bool) (env : Env) (i : Input) → ahead i ≡ Some (Sign m.OpenParen) → i.names ≡ names_of env → length i.rest < suc d → Goes named env i (parameter_list parts named) i
  unfolding parameter_list listed spell_expr WellFormed
  list-fails named env i h names below =
      let t = token i env (Sign m.OpenParen) h names in
      eaten-fails _ _ (step i) env m.CloseParen (pure (suffixed (Prototype i.next NoParameter) [])) (input.asks (begins_specifier true) >>= λ typed. if typed then prototype parts i.next else listed parts named i.next) t.names
      (λ j c. more_behind (both t c) (omega (arith, counted t, counted c)) (λ ss r. record { thing = Prototype i.next NoParameter ss; holds = (tt, r); spells = λ z. (z, refl) }))
      (λ _. choose-fails _ _ (begins_specifier true (step i)) (prototype parts i.next) (listed parts named i.next) (step i)
      (λ _. prototype-fails named env i t below)
      (λ _. listed-by named env i t (ahead (step i))))

  suffix-by : (named : Bool) (env : Env) (i : Input) → i.names ≡ names_of env → length i.rest < suc d → (s : Option Symbol) → ahead i ≡ s → Does (AfterItem (Viable (suffix_lists named)) env i) (Viable (suffix_lists named) env i) (suffix_by parts named s i)
  suffix-by named env i names below (Some (Sign m.OpenBracket)) h = found (Viable (suffix_lists named)) env i (array parts) (array-fails named env i h names below)
  suffix-by named env i names below (Some (Sign m.OpenParen)) h = found (Viable (suffix_lists named)) env i (parameter_list parts named) (list-fails named env i h names below)
  suffix-by named env i names below None h = tt
  suffix-by named env i names below (Some _) h = tt

  pub suffixes-fails : (named : Bool) (env : Env) (i : Input) → i.names ≡ names_of env → length i.rest < suc d → Fails (Viable (suffix_lists named) env i) (suffixes parts named i)
  unfolding suffixes suffix
  suffixes-fails named env i names below = while-fails (Viable (suffix_lists named)) (suc d) (NoSuffix, None) (suffix parts named) (λ env i names below. suffix-by named env i names below (ahead i) refl) env i names below
