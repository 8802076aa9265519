-- Faults in lists of identifiers; pointers are read without one (6.5.4.1, 6.5.4.3).
use Rattle.std.proofs.Common.{◌≡◌, true, false, List, [], ◌∷◌, Option, Some, None, arith, refl, ap}
use Rattle.pw_tree.specs.Scopes.{Env}
use Rattle.pw_tree.specs.Spelling.{identifier, spell_identifiers}
use Rattle.pw_tree.specs.Symbols.{Symbol, Reserved, Sign}
use Rattle.pw_tree.specs.Trees.{Word}
use Rattle.pw_tree.specs.WellFormed.{NotEmpty, NoneTypedef}
use Rattle.pw_token.specs.declared.symbol.Keyword.TheVariants as k
use Rattle.pw_token.specs.declared.symbol.Mark.TheVariants as m
use Rattle.pw_parse_grammar.specs.Input.{Input, ahead, step, sees, pure, ◌<$>◌, ordinary, turns}
use Rattle.pw_parse_grammar.specs.Tests as tests
use Rattle.pw_parse_grammar.specs.Declarators.{qualifier_by, qualifier, qualifiers, starred, pointer, pointers, name_in_list, names_in_list}
use Rattle.pw_parse_grammar.proofs.Trees.Base.{names_of}
use Rattle.pw_parse_grammar.proofs.Sound.Base.{Reads, token, sign}
use Rattle.pw_parse_grammar.proofs.Sound.Primaries.{ordinary-sound}
use Rattle.pw_parse_grammar.proofs.Sound.Pointers.{qualifiers-sound}
use Rattle.pw_parse_grammar.proofs.Viable.Base.{Does, Fails, bind-fails, bind-does, weaken-fails, choose-fails, Form, Viable, absent, counted}
use Rattle.pw_parse_grammar.proofs.Viable.Lists.{GoesOn, Listed, AfterItem, more_listed, while-fails, comma-fails}
use Rattle.pw_parse_grammar.proofs.Viable.Parts.{fresh, fresh_is_none}
use Rattle.pw_parse_grammar.proofs.Viable.Primaries.{ordinary-fails}

-- ---- 6.5.4.1

abbrev Never : Env → Input → Input → Type 0
Never env i e = ⊥

qualifier-fails : (env : Env) (i : Input) → i.names ≡ names_of env → Does (AfterItem Never env i) (λ e. ⊥) (qualifier i)
unfolding qualifier
qualifier-fails env i names = by (ahead i) refl
  where
    by : (s : Option Symbol) → ahead i ≡ s → Does (AfterItem Never env i) (λ e. ⊥) (qualifier_by (tests.qualifier_word s) i)
    by (Some (Reserved k.Const)) h =
        let t = token i env (Reserved k.Const) h names in
        record { inner = env; names = t.names; shorter = omega (arith, counted t); rest = λ e v. v }
    by (Some (Reserved k.Volatile)) h =
        let t = token i env (Reserved k.Volatile) h names in
        record { inner = env; names = t.names; shorter = omega (arith, counted t); rest = λ e v. v }
    by None h = tt
    by (Some _) h = tt

qualifiers-fails : (env : Env) (i : Input) → i.names ≡ names_of env → Fails (λ e. ⊥) (qualifiers i)
unfolding qualifiers
qualifiers-fails env i names = while-fails Never (turns i) [] qualifier (λ env i names below. qualifier-fails env i names) env i names (omega arith)

pointer-fails : (env : Env) (i : Input) → i.names ≡ names_of env → Does (AfterItem Never env i) (λ e. ⊥) (pointer i)
unfolding pointer starred
pointer-fails env i names = choose-fails _ _ (sees m.Star i) ((λ p. Some (λ more. p ∷ more)) <$> starred) (pure None) i
    (λ h. bind-does _ _ (starred i) (λ p. pure (Some (λ more. p ∷ more))) (star (sign i env m.Star h names)) (λ e v. v) (λ p j q. q))
    (λ _. tt)
  where
    star : Reads i (step i) env (λ z. Sign m.Star ∷ z) → Does (λ p j. GoesOn Never env i j) (λ e. ⊥) (starred i)
    star t = bind-fails _ _ (qualifiers (step i)) _ (qualifiers-sound env (step i) t.names) (qualifiers-fails env (step i) t.names) (λ e v. v) (λ qs j q.
        record { inner = env; names = q.names; shorter = omega (arith, counted t, counted q); rest = λ e v. v })

pub pointers-fails : (V : Input → Type 0) (env : Env) (i : Input) → i.names ≡ names_of env → Fails V (pointers i)
unfolding pointers
pointers-fails V env i names = weaken-fails V (pointers i) (while-fails Never (turns i) [] pointer (λ env i names below. pointer-fails env i names) env i names (omega arith)) (λ e v. absurd v)

-- ---- lists of identifiers

-- identifiers, one or more
abbrev pub name_lists : Form (List Word)
name_lists = record { holds = λ env ws. NoneTypedef env ws × NotEmpty ws; put = spell_identifiers true }

names-comma : (ws : List Word) → NotEmpty ws → (z : List Symbol) → spell_identifiers false ws z ≡ Sign m.Comma ∷ spell_identifiers true ws z
names-comma [] h z = absurd h
names-comma (w ∷ ws) h z = refl

name_in_list-fails : (env : Env) (i : Input) → i.names ≡ names_of env → Does (λ f j. Listed (Viable name_lists) env i j) (Viable name_lists env i) (name_in_list i)
unfolding name_in_list
name_in_list-fails env i names =
    bind-fails _ _ (ordinary i) _ (ordinary-sound env i names) (ordinary-fails _ i (absent name_lists i (fresh env ∷ []) ((fresh_is_none env, tt), tt))) (λ e v. v) (λ w j q.
    more_listed q.reads (λ ws r. record { thing = w ∷ ws; holds = ((q.plain, r.0), tt); spells = λ z. (z, ap (λ v. identifier w ∷ v) (names-comma ws r.1 z)) }))

pub names_in_list-fails : (env : Env) (i : Input) → i.names ≡ names_of env → Fails (Viable name_lists env i) (names_in_list i)
unfolding names_in_list
names_in_list-fails env i names = comma-fails (Viable name_lists) (turns i) ([], []) name_in_list (λ env i names below. name_in_list-fails env i names) env i names (omega arith)
