-- Pointers and lists of identifiers that are read are trees (6.5.4.1, 6.5.4.3).
use Rattle.std.proofs.Common.{◌≡◌, ℕ, suc, ◌+◌, true, false, List, [], ◌∷◌, length, Option, Some, None, arith, refl, sym, ap, ◌∙◌, subst}
use Rattle.pw_tree.specs.Numbering.{NumberedIdentifiers, NumberedPointers}
use Rattle.pw_tree.specs.Scopes.{Env}
use Rattle.pw_tree.specs.Spelling.{spell_identifiers, spell_qualifiers, spell_pointers}
use Rattle.pw_tree.specs.Symbols.{Symbol, Reserved, Sign}
use Rattle.pw_tree.specs.Trees.{Word, Pointer}
use Rattle.pw_tree.specs.WellFormed.{NotEmpty, NoneTypedef}
use Rattle.pw_token.specs.declared.symbol.Keyword.TheVariants as k
use Rattle.pw_token.specs.declared.symbol.Mark.TheVariants as m
use Rattle.pw_parse_grammar.specs.Input.{Input, ahead, step, sees, pure, ◌<$>◌, ordinary}
use Rattle.pw_tree.specs.Symbols.{qualifier_word}
use Rattle.pw_tree.specs.declared.expr.Qualifier.{Qualifier}
use Rattle.pw_parse_grammar.specs.Tests as tests
use Rattle.pw_parse_grammar.specs.Declarators.{qualifier_by, qualifier, qualifiers, starred, pointer, pointers, Names, name_in_list, names_in_list}
use Rattle.pw_parse_grammar.proofs.Trees.Base.{names_of}
use Rattle.pw_parse_grammar.proofs.Written.Knows.{bindings_of}
use Rattle.pw_parse_grammar.proofs.Sound.Base.{Post, bind, choose_parser, Reads, nothing, both, token, sign}
use Rattle.pw_parse_grammar.proofs.Sound.Lists.{IsItem, Before, IsListed, while-sound, comma-sound}
use Rattle.pw_parse_grammar.proofs.Sound.Primaries.{IsOrdinary, ordinary-sound}

-- ---- 6.5.4.1

no_qualifier : (q : Qualifier) → None ≡ Some q → ⊥
no_qualifier q h = cc

abbrev symbol_in : Option Symbol → Option Qualifier → Option Symbol
symbol_in s None = s
symbol_in s (Some q) = Some (Reserved (qualifier_word q))

qualifier_stays : (s : Option Symbol) → symbol_in s (tests.qualifier_word s) ≡ s
qualifier_stays (Some (Reserved k.Const)) = refl
qualifier_stays (Some (Reserved k.Volatile)) = refl
qualifier_stays None = refl
qualifier_stays (Some _) = refl

abbrev pub IsQualifiers : Env → Input → List Qualifier → Input → Type 0
IsQualifiers env i qs j = Reads i j env (spell_qualifiers qs)

qualifier-by : (env : Env) (i : Input) → i.names ≡ names_of env → (o : Option Qualifier) → tests.qualifier_word (ahead i) ≡ o → Post (IsItem IsQualifiers [] env i) (qualifier_by o i)
qualifier-by env i names None h = nothing i env names
qualifier-by env i names (Some q) h =
    let t = token i env (Reserved (qualifier_word q)) (sym (qualifier_stays (ahead i)) ∙ ap (symbol_in (ahead i)) h) names in
    (env, t.names, λ qs k r. both t r)

qualifier-sound : (env : Env) (i : Input) → i.names ≡ names_of env → Post (IsItem IsQualifiers [] env i) (qualifier i)
unfolding qualifier
qualifier-sound env i names = qualifier-by env i names (tests.qualifier_word (ahead i)) refl

pub qualifiers-sound : (env : Env) (i : Input) → i.names ≡ names_of env → Post (IsQualifiers env i) (qualifiers i)
unfolding qualifiers
qualifiers-sound env i names = while-sound IsQualifiers [] qualifier qualifier-sound env i names

qualifiers_count : (qs : List Qualifier) → length (spell_qualifiers qs []) ≡ length qs
qualifiers_count [] = refl
qualifiers_count (q ∷ qs) = ap suc (qualifiers_count qs)

-- pointers from i to j
pub record IsPointers (env : Env) (i : Input) (ps : List Pointer) (j : Input) : Type 0 where
  pub reads : Reads i j env (spell_pointers ps)
  pub numbered : NumberedPointers i.next ps

pointer-before : (env : Env) (i x : Input) (qs : List Qualifier) → Reads i (step i) env (λ z. Sign m.Star ∷ z) → IsQualifiers env (step i) qs x → Before IsPointers env i (λ more. record { token = i.next; qualifiers = qs } ∷ more) x
pointer-before env i x qs t q = (
  env,
  q.names,
  λ ps k r. record {
    reads = both t (both q r.reads);
    numbered = (refl, subst (λ v. NumberedPointers v ps) (omega (arith, t.next, q.next, qualifiers_count qs)) r.numbered);
  },
)

pointer-sound : (env : Env) (i : Input) → i.names ≡ names_of env → Post (IsItem IsPointers [] env i) (pointer i)
unfolding pointer starred
pointer-sound env i names = choose_parser _ (sees m.Star i) ((λ p. Some (λ more. p ∷ more)) <$> starred) (pure None) i
    (λ h. let t = sign i env m.Star h names in
    bind _ (starred i) (λ p. pure (Some (λ more. p ∷ more)))
    (bind (λ p x. Before IsPointers env i (λ more. p ∷ more) x) (qualifiers (step i)) (λ qs. pure (record { token = i.next; qualifiers = qs })) (qualifiers-sound env (step i) t.names) (λ qs x q. pointer-before env i x qs t q))
    (λ p x q. q))
    (λ _. record { reads = nothing i env names; numbered = tt })

pub pointers-sound : (env : Env) (i : Input) → i.names ≡ names_of env → Post (IsPointers env i) (pointers i)
unfolding pointers
pointers-sound env i names = while-sound IsPointers [] pointer pointer-sound env i names

-- ---- lists of identifiers

-- identifiers from i on, one or more, behind the comma before them
pub record IsNames (env : Env) (i : Input) (ns : Names) (j : Input) : Type 0 where
  pub reads : Reads i j env (spell_identifiers true ns.0)
  pub none : NoneTypedef env ns.0
  pub has : NotEmpty ns.0
  pub numbered : NumberedIdentifiers true i.next ns.0
  pub declares : ns.1 ≡ bindings_of ns.0
  -- with a comma before them
  pub commas : (k : Input) (inner : Env) → Reads k i inner (λ z. Sign m.Comma ∷ z) → Reads k j env (spell_identifiers false ns.0) × NumberedIdentifiers false k.next ns.0

name-listed : (env : Env) (i j : Input) (w : Word) → IsOrdinary env i w j → IsListed IsNames ([], []) env i (λ more. (w ∷ more.0, (w.text, false) ∷ more.1)) j
name-listed env i j w q =
    let past : (n : ℕ) → i.next ≡ n → j.next ≡ n + 1 = λ n f. omega (arith, q.reads.next, f) in
    record {
      inner = env;
      names = q.reads.names;
      last = record {
        reads = q.reads;
        none = (q.plain, tt);
        has = tt;
        numbered = (q.numbered, tt);
        declares = refl;
        commas = λ k inner c. (both c q.reads, (q.numbered ∙ c.next, tt));
      };
      more = λ k c ns end r.
          let rest = r.commas j env c in
          record {
            reads = both q.reads rest.0;
            none = (q.plain, r.none);
            has = tt;
            numbered = (q.numbered, subst (λ v. NumberedIdentifiers false v ns.0) (past i.next refl) rest.1);
            declares = ap (λ v. (w.text, false) ∷ v) r.declares;
            commas = λ h inner f. (both f (both q.reads rest.0), (q.numbered ∙ f.next, subst (λ v. NumberedIdentifiers false v ns.0) (past (h.next + 1) f.next) rest.1));
          };
    }

name_in_list-sound : (env : Env) (i : Input) → i.names ≡ names_of env → Post (IsListed IsNames ([], []) env i) (name_in_list i)
unfolding name_in_list
name_in_list-sound env i names = bind _ (ordinary i) (λ w. pure (λ more. (w ∷ more.0, (w.text, false) ∷ more.1))) (ordinary-sound env i names) (λ w j q. name-listed env i j w q)

pub names_in_list-sound : (env : Env) (i : Input) → i.names ≡ names_of env → Post (IsNames env i) (names_in_list i)
unfolding names_in_list
names_in_list-sound env i names = comma-sound IsNames ([], []) name_in_list name_in_list-sound env i names
