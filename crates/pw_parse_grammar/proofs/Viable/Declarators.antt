-- Faults in declarators (6.5.4, 6.5.5).
use Rattle.std.proofs.Common.{◌≡◌, ℕ, suc, ◌<◌, Bool, true, false, List, [], ◌∷◌, ◌++◌, length, map, Option, Some, None, arith, refl, sym, ap, ◌∙◌, subst}
use Rattle.std.specs.Option.{option_or}
use Rattle.std.specs.Prelude.{is_some}
use Rattle.pw_tree.specs.Scopes.{Env, after_declarator, after_core}
use Rattle.pw_tree.specs.Spelling.{spell_expr, spell_declarator, spell_core}
use Rattle.pw_tree.specs.Symbols as symbol
use Rattle.pw_tree.specs.Symbols.{Symbol, Sign}
use Rattle.pw_tree.specs.Trees.{Declarator, Declaring, Core, Absent, Name, Enclosed, NoSuffix, Array, OpenArray, Prototype, Variadic, Identifiers}
use Rattle.pw_tree.specs.WellFormed.{IsSomething, begins_with_typedef, MayEnclose, WellFormed, WellFormedDeclarator, WellFormedCore, WellFormedSuffixes}
use Rattle.pw_token.specs.declared.symbol.Mark.TheVariants as m
use Rattle.pw_parse_grammar.specs.declared.place.Place.{Place}
use Rattle.pw_parse_grammar.specs.declared.place.Place.TheVariants.{Named, Nameless, Either}
use Rattle.pw_parse_grammar.specs.Input.{Input, first_of_rest, ahead, step, sees, ◌>>=◌, ◌>>◌, pure, ◌<$>◌, fault, word, expect}
use Rattle.pw_parse_grammar.specs.Parts.{Parts}
use Rattle.pw_parse_grammar.specs.Declarators.{spells_name, may_be_enclosed, absent, name_core, may_be_absent, pointers, suffixes, enclosed, core_by, core, declarator_of}
use Rattle.pw_parse_grammar.specs.Tests.{opens_parameters, symbol_begins_specifier}
use Rattle.pw_parse_grammar.proofs.Trees.Base.{names_of}
use Rattle.pw_parse_grammar.proofs.Written.Knows.{place_of}
use Rattle.pw_parse_grammar.proofs.Written.Declarators.{core-named}
use Rattle.pw_parse_grammar.proofs.Sound.Base.{Reads, both, token}
use Rattle.pw_parse_grammar.proofs.Sound.Parts.{Sound}
use Rattle.pw_parse_grammar.proofs.Sound.Pointers.{pointers-sound}
use Rattle.pw_parse_grammar.proofs.Sound.Declarators.{typedef_is, core-sound, or_right}
use Rattle.pw_parse_grammar.proofs.Viable.Base.{Does, Fails, bind-fails, map-fails, weaken-fails, choose-fails, expected-fails, Form, Begins, Viable, missing, embed, counted}
use Rattle.pw_parse_grammar.proofs.Viable.Base as viable
use Rattle.pw_parse_grammar.proofs.Viable.Parts.{fresh, fresh_may, declarators, ViableDeclarator, ViableParts}
use Rattle.pw_parse_grammar.proofs.Viable.Things.{instead, anything}
use Rattle.pw_parse_grammar.proofs.Viable.Pointers.{pointers-fails}
use Rattle.pw_parse_grammar.proofs.Viable.Suffixes.{suffixes-fails}

abbrev pub cores : Place → Bool → Form Core
cores place typed = record { holds = λ env c. WellFormedCore env typed (place_of place) c; put = spell_core }

absent-fails : (place : Place) (typed : Bool) (env : Env) (i : Input) → Fails (Viable (cores place typed) env i) (may_be_absent place i)
unfolding WellFormed
absent-fails Named typed env i = viable.absent (cores Named typed) i (Name (fresh env)) (fresh_may env typed)
absent-fails Nameless typed env i = tt
absent-fails Either typed env i = tt

-- ---- declarators in parentheses

-- declarators that may stand in parentheses
abbrev enclosable : Place → Bool → Form Declarator
enclosable place typed = record { holds = λ env x. IsSomething x × MayEnclose env (place_of place) x × WellFormedDeclarator env typed (place_of place) x; put = spell_declarator }

-- a name, or `*`
abbrev some_enclosable : Place → Env → Declarator
some_enclosable Named env = Declaring [] (Name (fresh env)) NoSuffix
some_enclosable Nameless env = Declaring (record { token = 0; qualifiers = [] } ∷ []) Absent NoSuffix
some_enclosable Either env = Declaring (record { token = 0; qualifiers = [] } ∷ []) Absent NoSuffix

some_enclosable-holds : (place : Place) (typed : Bool) (env : Env) → (enclosable place typed).holds env (some_enclosable place env)
unfolding WellFormed
some_enclosable-holds Named typed env = (tt, tt, (fresh_may env typed, tt))
some_enclosable-holds Nameless typed env = (tt, tt, (tt, tt))
some_enclosable-holds Either typed env = (tt, refl, (tt, tt))

no_token : (s : Symbol) (more : List Symbol) → [] ≡ s ∷ more → ⊥
no_token s more h = cc

-- a declarator that has tokens
something : (x : Declarator) (s : Symbol) (more : List Symbol) → spell_declarator x [] ≡ s ∷ more → IsSomething x
unfolding spell_expr
something (Declaring [] Absent NoSuffix) s more h = no_token s more h
something (Declaring (p ∷ ps) c fs) s more h = tt
something (Declaring [] (Name n) fs) s more h = tt
something (Declaring [] (Enclosed t x) fs) s more h = tt
something (Declaring [] Absent (Array t e fs)) s more h = tt
something (Declaring [] Absent (OpenArray t fs)) s more h = tt
something (Declaring [] Absent (Prototype t ps fs)) s more h = tt
something (Declaring [] Absent (Variadic t ps fs)) s more h = tt
something (Declaring [] Absent (Identifiers t ws fs)) s more h = tt

abbrev first_symbol : List Symbol → Option Symbol
first_symbol [] = None
first_symbol (s ∷ more) = Some s

-- in a parameter a typedef name does not begin what is enclosed
no_typedef : (env : Env) (i : Input) (x : Declarator) (s : Symbol) (more : List Symbol) → spell_declarator x [] ≡ s ∷ more → i.names ≡ names_of env → symbol_begins_specifier true i (Some s) ≡ false → begins_with_typedef env x ≡ false
unfolding spell_expr
no_typedef env i (Declaring [] (Name w) fs) s more e names h = sym (typedef_is env i w.text names) ∙ ap (symbol_begins_specifier true i) (ap first_symbol e) ∙ h
no_typedef env i (Declaring (p ∷ ps) c fs) s more e names h = refl
no_typedef env i (Declaring [] Absent fs) s more e names h = refl
no_typedef env i (Declaring [] (Enclosed t x) fs) s more e names h = refl

-- what begins a declarator in parentheses begins one that may stand there
enclosed-begins : (place : Place) (typed : Bool) (env : Env) (i e : Input) → ((x : Declarator) (s : Symbol) (more : List Symbol) → spell_declarator x [] ≡ s ∷ more → ahead i ≡ Some s → MayEnclose env (place_of place) x)
    → Viable (declarators place typed) env i e → Viable (enclosable place typed) env i e
unfolding ahead
enclosed-begins place typed env i e may v = by (v.front []) refl
  where
    by : (front : List Symbol) → v.front [] ≡ front → Viable (enclosable place typed) env i e
    by [] h = anything v h (some_enclosable place env) (some_enclosable-holds place typed env)
    by (s ∷ more) h =
        let x = v.begins.thing in
        let spelled = v.begins.spells [] in
        let is : spell_declarator x [] ≡ s ∷ more ++ spelled.0 = spelled.1 ∙ v.plain spelled.0 ∙ ap (λ u. u ++ spelled.0) h in
        instead v (record {
          thing = x;
          holds = (something x s (more ++ spelled.0) is, may x s (more ++ spelled.0) is (ap first_of_rest (v.text ∙ ap (λ u. map Some u ++ e.rest) h)), v.begins.holds);
          spells = v.begins.spells;
        })

module _ (parts : Parts) (sound : Sound parts) (d : ℕ) (known : ViableParts d parts) where
  enclosed-fails : (place : Place) (typed : Bool) (env : Env) (i : Input) → ahead i ≡ Some (Sign m.OpenParen) → i.names ≡ names_of env → length i.rest < suc d
      → ((x : Declarator) (s : Symbol) (more : List Symbol) → spell_declarator x [] ≡ s ∷ more → ahead (step i) ≡ Some s → MayEnclose env (place_of place) x)
      → Fails (Viable (cores place typed) env i) (enclosed parts place typed i)
  unfolding enclosed spell_expr WellFormed
  enclosed-fails place typed env i h names below may =
      let t = token i env (Sign m.OpenParen) h names in
      choose-fails _ _ (may_be_enclosed place typed (step i)) (parts.declarator place typed >>= λ d. expect m.CloseParen >> pure (record { core = Enclosed i.next d.tree; name = d.name; behind = d.behind })) fault (step i)
      (λ begins. bind-fails _ _ (parts.declarator place typed (step i)) (λ d. expect m.CloseParen >> pure (record { core = Enclosed i.next d.tree; name = d.name; behind = d.behind })) (sound.declarator place typed env (step i) t.names)
      (known.declarator place typed env (step i) t.names (omega (arith, below, counted t)))
      (whole t)
      (λ x j q. expected-fails _ _ j (after_declarator env x.tree) m.CloseParen _ q.reads.names (whole t j (missing q.reads (record { thing = x.tree; holds = q.holds; spells = λ z. (z, refl) }))) (λ k c. tt)))
      (λ _. closed t (step i) (viable.absent (enclosable place typed) (step i) (some_enclosable place env) (some_enclosable-holds place typed env)))
    where
      closed : Reads i (step i) env (λ z. Sign m.OpenParen ∷ z) → (e : Input) → Viable (enclosable place typed) env (step i) e → Viable (cores place typed) env i e
      closed t e v = embed t v (λ x q. record { thing = Enclosed i.next x; holds = q; spells = λ z. (Sign m.CloseParen ∷ z, refl) })

      whole : Reads i (step i) env (λ z. Sign m.OpenParen ∷ z) → (e : Input) → Viable (declarators place typed) env (step i) e → Viable (cores place typed) env i e
      whole t e v = closed t e (enclosed-begins place typed env (step i) e may v)

  paren-fails : (place : Place) (typed : Bool) (env : Env) (i : Input) → ahead i ≡ Some (Sign m.OpenParen) → i.names ≡ names_of env → length i.rest < suc d → Fails (Viable (cores place typed) env i) (core_by parts place typed (Some (Sign m.OpenParen)) i)
  unfolding opens_parameters
  paren-fails Named typed env i h names below = enclosed-fails Named typed env i h names below (λ x s more e f. tt)
  paren-fails Nameless typed env i h names below = choose-fails _ _ (opens_parameters i) (pure absent) (enclosed parts Nameless typed) i (λ _. tt) (λ _. enclosed-fails Nameless typed env i h names below (λ x s more e f. tt))
  paren-fails Either typed env i h names below = choose-fails _ _ (opens_parameters i) (pure absent) (enclosed parts Either typed) i
      (λ _. tt)
      (λ none. enclosed-fails Either typed env i h names below (λ x s more e f.
      no_typedef env i x s more e names (sym (ap (symbol_begins_specifier true i) f) ∙ or_right parts sound (sees m.CloseParen (step i)) (symbol_begins_specifier true i (ahead (step i))) none)))

  core-by : (place : Place) (typed : Bool) (env : Env) (i : Input) → i.names ≡ names_of env → length i.rest < suc d → (s : Option Symbol) → ahead i ≡ s → Fails (Viable (cores place typed) env i) (core_by parts place typed s i)
  core-by place typed env i names below (Some (symbol.Identifier x)) h = choose-fails _ _ (spells_name place typed i x) (name_core <$> word x) (may_be_absent place) i (λ _. tt) (λ _. absent-fails place typed env i)
  core-by place typed env i names below (Some (Sign m.OpenParen)) h = paren-fails place typed env i h names below
  core-by place typed env i names below None h = absent-fails place typed env i
  core-by place typed env i names below (Some _) h = absent-fails place typed env i

  pub declarator_of-fails : (place : Place) (typed : Bool) → ViableDeclarator (suc d) place typed (declarator_of parts place typed)
  unfolding declarator_of core spell_expr WellFormed
  declarator_of-fails place typed env i names below =
      bind-fails _ _ (pointers i) _ (pointers-sound env i names) (pointers-fails (Viable (declarators place typed) env i) env i names) (λ e v. v) (λ ps x q.
      bind-fails _ _ (core parts place typed x) _ (core-sound parts sound place typed env x q.reads.names) (core-by place typed env x q.reads.names (omega (arith, below, counted q.reads)) (ahead x) refl)
      (λ e v. embed q.reads v (λ c h. record { thing = Declaring ps c NoSuffix; holds = (h, tt); spells = λ z. (z, refl) }))
      (λ c y r. map-fails _ (λ fs. record { tree = Declaring ps c.core fs.0; name = c.name; behind = option_or c.behind fs.1 }) (suffixes parts (is_some c.name) y)
      (weaken-fails _ (suffixes parts (is_some c.name) y) (suffixes-fails parts sound d known (is_some c.name) (after_core env c.core) y r.reads.names (omega (arith, below, counted q.reads, counted r.reads)))
      (λ e v. embed (both q.reads r.reads) v (λ ss h. record {
        thing = Declaring ps c.core ss;
        holds = (r.holds, subst (λ v. WellFormedSuffixes (after_core env c.core) v ss) (ap is_some r.name ∙ core-named c.core) h);
        spells = λ z. (z, refl);
      })))))
