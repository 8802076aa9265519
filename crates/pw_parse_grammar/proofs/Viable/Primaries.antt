-- Faults in type names and primary expressions (6.3.1, 6.5.5).
use Rattle.std.proofs.Common.{◌≡◌, ℕ, suc, ◌<◌, Bool, true, false, if◌then◌else◌, [], ◌∷◌, length, Option, Some, None, Err, arith, refl}
use Rattle.pw_tree.specs.Scopes.{Env, has_type, after_expr, after_specifiers, after_declarator}
use Rattle.pw_tree.specs.Spelling.{spell_expr, spell_specifiers, spell_declarator}
use Rattle.pw_tree.specs.Symbols as symbol
use Rattle.pw_tree.specs.Symbols.{Symbol, Reserved, Sign}
use Rattle.pw_tree.specs.Trees.{Expr, Identifier, Strings, Paren, Specifiers, NoSpecifier, Storage, Qualified, Basic, TypedefName, RecordTag, Record, EnumTag, Enum, Declarator, Declaring, Absent, NoSuffix}
use Rattle.pw_tree.specs.WellFormed.{HasSpecifier, NoStorage, WellFormed, WellFormedSpecifiers, WellFormedDeclarator}
use Rattle.pw_tree.specs.WellFormed as tree
use Rattle.pw_token.specs.declared.symbol.Mark.TheVariants as m
use Rattle.pw_parse_grammar.specs.declared.place.Place.TheVariants.{Nameless}
use Rattle.pw_parse_grammar.specs.Input.{Input, ahead, step, Parser, ◌>>=◌, ◌>>◌, pure, ◌<$>◌, fault, word, expect, identifier_by, ordinary_by, ordinary, turns}
use Rattle.pw_parse_grammar.specs.Input as input
use Rattle.pw_parse_grammar.specs.Parts.{Parts}
use Rattle.pw_parse_grammar.specs.Expressions.{string_by, string, strings, some_specifiers, type_name, enclosed_type_name, parenthesized, primary_by, primary}
use Rattle.pw_parse_grammar.specs.Tests.{is_empty}
use Rattle.pw_parse_grammar.proofs.Trees.Base.{names_of}
use Rattle.pw_parse_grammar.proofs.Sound.Base.{both, token}
use Rattle.pw_parse_grammar.proofs.Sound.Parts.{IsSpecifiers, Sound}
use Rattle.pw_parse_grammar.proofs.Sound.Primaries.{some_specifiers-sound, type_name-sound}
use Rattle.pw_parse_grammar.proofs.Viable.Base.{Does, Fails, bind-fails, map-fails, weaken-fails, expected-fails, Form, Begins, Viable, missing, embed, as_part, absent, counted}
use Rattle.pw_parse_grammar.proofs.Viable.Lists.{AfterItem, while-fails}
use Rattle.pw_parse_grammar.proofs.Viable.Parts.{zero_expr, int, some_declarator-holds, exprs, specifier_lists, ViableExpr, ViableParts}

-- ---- words

-- A word that is missing is missing where it was to stand.
pub ordinary-fails : (V : Input → Type 0) (i : Input) → V i → Fails V (ordinary i)
unfolding ordinary_by
ordinary-fails V i v = by (ahead i)
  where
    by : (s : Option Symbol) → Fails V (ordinary_by s i)
    by (Some (symbol.Identifier x)) = choose (input.is_typedef_name i x)
      where
        choose : (b : Bool) → Fails V (if b then Err i else word x i)
        choose true = v
        choose false = tt
    by None = v
    by (Some _) = v

pub identifier-fails : (V : Input → Type 0) (i : Input) → V i → Fails V (input.identifier i)
unfolding identifier_by
identifier-fails V i v = by (ahead i)
  where
    by : (s : Option Symbol) → Fails V (identifier_by s i)
    by (Some (symbol.Identifier x)) = tt
    by None = v
    by (Some _) = v

-- String literals are read without a fault.
string-fails : (env : Env) (i : Input) → i.names ≡ names_of env → Does (AfterItem (λ env i e. ⊥) env i) (λ e. ⊥) (string i)
unfolding string
string-fails env i names = by (ahead i) refl
  where
    by : (s : Option Symbol) → ahead i ≡ s → Does (AfterItem (λ env i e. ⊥) env i) (λ e. ⊥) (string_by s i)
    by (Some (symbol.Text s)) h =
        let t = token i env (symbol.Text s) h names in
        record { inner = env; names = t.names; shorter = omega (arith, counted t); rest = λ e v. v }
    by None h = tt
    by (Some _) h = tt

pub strings-fails : (V : Input → Type 0) (env : Env) (i : Input) → i.names ≡ names_of env → Fails V (strings i)
unfolding strings
strings-fails V env i names = weaken-fails V (strings i) (while-fails (λ env i e. ⊥) (turns i) [] string (λ env i names below. string-fails env i names) env i names (omega arith)) (λ e v. absurd v)

-- ---- type names

abbrev pub type_names : Form (Specifiers × Declarator)
type_names = record {
  holds = λ env named. HasSpecifier named.0 × NoStorage named.0 × WellFormedSpecifiers env false named.0 × WellFormedDeclarator (after_specifiers env named.0) (has_type named.0) tree.Nameless named.1;
  put = λ named z. spell_specifiers named.0 (spell_declarator named.1 z);
}

-- type names in parentheses
abbrev pub enclosed_names : Form (Specifiers × Declarator)
enclosed_names = record { holds = type_names.holds; put = λ named z. Sign m.OpenParen ∷ type_names.put named (Sign m.CloseParen ∷ z) }

-- an abstract declarator that is empty
abbrev pub nothing_declared : Declarator
nothing_declared = Declaring [] Absent NoSuffix

int-holds : (storage : Bool) (env : Env) → (specifier_lists storage false).holds env int
unfolding WellFormed
int-holds true env = (tt, tt, tt)
int-holds false env = (tt, tt, tt)

module _ (parts : Parts) (sound : Sound parts) (d : ℕ) (viable : ViableParts d parts) where
  pub some_specifiers-fails : (storage : Bool) (env : Env) (i : Input) → i.names ≡ names_of env → length i.rest < d → Fails (Viable (specifier_lists storage false) env i) (some_specifiers parts storage i)
  unfolding some_specifiers spell_expr
  some_specifiers-fails storage env i names below =
      bind-fails _ _ (parts.specifiers storage i) (λ ss. if is_empty ss then fault else pure ss) (sound.specifiers storage env i names) (viable.specifiers storage env i names below) (λ e v. v) by
    where
      by : (ss : Specifiers) (j : Input) → IsSpecifiers storage env i ss j → Fails (Viable (specifier_lists storage false) env i) ((if is_empty ss then fault else pure ss) j)
      by NoSpecifier j q = missing q.reads (record { thing = int; holds = int-holds storage env; spells = λ z. (spell_specifiers int z, refl) })
      by (Storage n c ss) j q = tt
      by (Qualified n c ss) j q = tt
      by (Basic n c ss) j q = tt
      by (TypedefName w ss) j q = tt
      by (RecordTag n r w ss) j q = tt
      by (Record n r w ms ss) j q = tt
      by (EnumTag n w ss) j q = tt
      by (Enum n w es ss) j q = tt

  -- specifiers, and an empty declarator behind them
  only_specifiers : (env : Env) (ss : Specifiers) → (specifier_lists false false).holds env ss → Begins type_names env (spell_specifiers ss)
  unfolding spell_expr
  only_specifiers env ss h = record {
    thing = (ss, nothing_declared);
    holds = (h.2, h.1, h.0, some_declarator-holds Nameless (has_type ss) (after_specifiers env ss));
    spells = λ z. (z, refl);
  }

  type_name-fails : (env : Env) (i : Input) → i.names ≡ names_of env → length i.rest < d → Fails (Viable type_names env i) (type_name parts i)
  unfolding type_name
  type_name-fails env i names below =
      bind-fails _ _ (some_specifiers parts false i) (λ ss. parts.declarator Nameless (has_type ss) >>= λ d. pure (ss, d.tree)) (some_specifiers-sound parts sound false env i names) (some_specifiers-fails false env i names below)
      (λ e v. as_part v (only_specifiers env))
      (λ ss j q. map-fails _ (λ d. (ss, d.tree)) (parts.declarator Nameless (has_type ss) j) (weaken-fails _ (parts.declarator Nameless (has_type ss) j) (viable.declarator Nameless (has_type ss) (after_specifiers env ss) j q.0.reads.names (omega (arith, below, counted q.0.reads)))
      (λ e v. embed q.0.reads v (λ x h. record { thing = (ss, x); holds = (q.1, q.0.may, q.0.holds, h); spells = λ z. (z, refl) }))))

  pub enclosed-fails : (env : Env) (i : Input) → i.names ≡ names_of env → length i.rest < suc d → Fails (Viable enclosed_names env i) (enclosed_type_name parts i)
  unfolding enclosed_type_name
  enclosed-fails env i names below =
      expected-fails _ _ i env m.OpenParen (type_name parts >>= λ named. expect m.CloseParen >> pure named) names
      (absent enclosed_names i (int, nothing_declared) ((int-holds false env).2, (int-holds false env).1, (int-holds false env).0, some_declarator-holds Nameless true (after_specifiers env int)))
      (λ inner opening. bind-fails _ _ (type_name parts inner) (λ named. expect m.CloseParen >> pure named) (type_name-sound parts sound env inner opening.names) (type_name-fails env inner opening.names (omega (arith, below, counted opening)))
      (λ e v. embed opening v (λ named h. closes named h))
      (λ named behind q. expected-fails _ _ behind (after_declarator (after_specifiers env named.0) named.1) m.CloseParen (pure named) q.reads.names
      (missing (both opening q.reads) (closes named (q.has, q.none, q.specifiers, q.declarator)))
      (λ j closing. tt)))
    where
      closes : (named : Specifiers × Declarator) → type_names.holds env named → Begins enclosed_names env (λ z. Sign m.OpenParen ∷ type_names.put named z)
      closes named h = record { thing = named; holds = h; spells = λ z. (Sign m.CloseParen ∷ z, refl) }

  -- ---- 6.3.1

  parenthesized-fails : (env : Env) (i : Input) → ahead i ≡ Some (Sign m.OpenParen) → i.names ≡ names_of env → length i.rest < suc d → Fails (Viable (exprs 0) env i) (parenthesized parts i)
  unfolding parenthesized spell_expr WellFormed
  parenthesized-fails env i h names below =
      let opening = token i env (Sign m.OpenParen) h names in
      bind-fails _ _ (parts.expr 16 (step i)) (λ e. expect m.CloseParen >> pure (Paren i.next e)) (sound.expr 16 (omega arith) env (step i) opening.names) (viable.expr 16 (omega arith) env (step i) opening.names (omega (arith, below, counted opening)))
      (λ e v. embed opening v (λ x h. closes x h.0))
      (λ e j q. expected-fails _ _ j (after_expr env e) m.CloseParen (pure (Paren i.next e)) q.reads.names (missing (both opening q.reads) (closes e q.holds)) (λ k closing. tt))
    where
      closes : (e : Expr) → WellFormed env e → Begins (exprs 0) env (λ z. Sign m.OpenParen ∷ spell_expr e z)
      closes e h = record { thing = Paren i.next e; holds = (h, omega arith); spells = λ z. (Sign m.CloseParen ∷ z, refl) }

  pub none-expr : (k : ℕ) (env : Env) (i : Input) → Viable (exprs k) env i i
  unfolding WellFormed
  none-expr k env i = absent (exprs k) i zero_expr (tt, omega arith)

  primary-by : (env : Env) (i : Input) → i.names ≡ names_of env → length i.rest < suc d → (s : Option Symbol) → ahead i ≡ s → Fails (Viable (exprs 0) env i) (primary_by parts s i)
  primary-by env i names below (Some (symbol.Identifier s)) h = map-fails _ Identifier (ordinary i) (ordinary-fails _ i (none-expr 0 env i))
  primary-by env i names below (Some (symbol.Number s)) h = tt
  primary-by env i names below (Some (symbol.Floating s)) h = tt
  primary-by env i names below (Some (symbol.Character s)) h = tt
  primary-by env i names below (Some (symbol.Wide s)) h = tt
  primary-by env i names below (Some (symbol.Text s)) h = map-fails _ Strings (strings i) (strings-fails _ env i names)
  primary-by env i names below (Some (Sign m.OpenParen)) h = parenthesized-fails env i h names below
  primary-by env i names below None h = none-expr 0 env i
  primary-by env i names below (Some _) h = none-expr 0 env i

  pub primary-fails : ViableExpr (suc d) 0 (primary parts)
  unfolding primary
  primary-fails env i names below = primary-by env i names below (ahead i) refl
