-- The rules of declarations, as the code joins them: a declaration, or a declarator, behind what those before it gave.
use Rattle.std.proofs.Common.{◌≡◌, ◌<◌, Ok, Option, None, Some, is_some, List, [], ◌∷◌, ◌++◌, length, append_assoc, refl, ap, sym, ◌∙◌, arith}
use Rattle.std.proofs.lemmas.List.{append-nil, map-append}
use Rattle.pw_tree.specs.Trees as S
use Rattle.pw_tree.specs.Views.{view_decl, view_decls, view_init_declarator, view_init_declarators, view_initializer}
use Rattle.pw_tree.specs.declared.decl.Decl.{Decl}
use Rattle.pw_tree.specs.declared.decl.InitDeclarator.{InitDeclarator}
use Rattle.pw_tree.specs.declared.decl.Initializer.{Initializer}
use Rattle.pw_types.specs.TypeTrees.{QType}
use Rattle.pw_types.specs.TypedTrees as T
use Rattle.pw_typed.specs.Views.{view_initialiser, view_initialisers}
use Rattle.pw_typed.specs.declared.tree.Initialiser.{Initialiser}
use Rattle.pw_check_walk.specs.Walks.{Walk, Done, bind, outcome}
use Rattle.pw_check_walk.proofs.CallLaws.{bind_assoc}
use Rattle.pw_check_rules.specs.Derivations.{built, spot_of}
use Rattle.pw_check_rules.specs.Leaves.{first_of_list}
use Rattle.pw_check_rules.specs.Limits.{Spot}
use Rattle.pw_check_rules.specs.Phrases.{declarator_rule}
use Rattle.pw_check_rules.specs.SpecifierLists.{Specified}
use Rattle.pw_check_rules.specs.States.{State, is_file_scope}
use Rattle.pw_check_rules.specs.Declarations.{bare_rule, decl_rule, declarators_rule, declare_rule, decls_rule, init_declarator_rule, init_declarators_rule, name_of, name_rule, sort_of, specified_rule, storage_rule}
use Rattle.pw_check_init_parts.proofs.WalkLemmas.{bind_end, same_behind}
use Rattle.pw_check_decl.specs.Parts.{decl_behind, declarator_behind, named_rule}

pub initialisers_append : (xs ys : List Initialiser) → view_initialisers (xs ++ ys) ≡ view_initialisers xs ++ view_initialisers ys
initialisers_append xs ys = map-append view_initialiser xs ys

-- what a list gives behind what was given before
module _ {I S : Type 0} where
  abbrev behind : List I → List I × S → Walk (List I × S)
  behind before r = Done (before ++ r.0, r.1)

  moved : (w : Walk (List I × S)) (before more : List I) → bind (bind w (behind more)) (behind before) ≡ bind w (behind (before ++ more))
  unfolding bind
  moved w before more =
      bind_assoc w (behind more) (behind before)
      ∙ same_behind w (λ u. behind before (more ++ u.0, u.1)) (behind (before ++ more)) (λ u. ap (λ all. Done (all, u.1)) (sym (append_assoc before more u.0)))

  gathered : (one : Walk (List I × S)) (rest : S → Walk (List I × S)) (before : List I)
      → bind (bind one (λ t. bind (rest t.1) (behind t.0))) (behind before) ≡ bind (bind one (behind before)) (λ t. bind (rest t.1) (behind t.0))
  unfolding bind
  gathered one rest before =
      bind_assoc one (λ t. bind (rest t.1) (behind t.0)) (behind before)
      ∙ same_behind one (λ t. bind (bind (rest t.1) (behind t.0)) (behind before)) (λ t. bind (rest t.1) (behind (before ++ t.0))) (λ t. moved (rest t.1) before t.0)
      ∙ sym (bind_assoc one (behind before) (λ t. bind (rest t.1) (behind t.0)))

-- ---- declarators

module _ (b : Specified) where
  abbrev pub over_declarators : List InitDeclarator → List T.Initialiser → State → Walk (List T.Initialiser × State)
  over_declarators ds before s = bind (init_declarators_rule b (view_init_declarators ds) s) (λ r. Done (before ++ r.0, r.1))

  abbrev pub one_declarator : InitDeclarator → List InitDeclarator → List T.Initialiser → State → Walk (List T.Initialiser × State)
  one_declarator d rest before s = declarator_behind b (view_init_declarator d) before s

  pub declarators_split : (d : InitDeclarator) (rest : List InitDeclarator) (before : List T.Initialiser) (s : State)
      → over_declarators (d ∷ rest) before s ≡ bind (one_declarator d rest before s) (λ t. over_declarators rest t.0 t.1)
  unfolding init_declarators_rule declarator_behind
  declarators_split d rest before s =
      gathered (init_declarator_rule b (view_init_declarator d) s) (init_declarators_rule b (view_init_declarators rest)) before

  pub declarators_over : (before : List T.Initialiser) (s : State) → outcome (over_declarators [] before s) ≡ Ok (before, s)
  unfolding bind outcome init_declarators_rule
  declarators_over before s = ap (λ all. Ok (all, s)) (append-nil before)

  pub declarators_begun : (ds : List InitDeclarator) (s : State) → outcome (init_declarators_rule b (view_init_declarators ds) s) ≡ outcome (over_declarators ds [] s)
  declarators_begun ds s = ap outcome (sym (bind_end (init_declarators_rule b (view_init_declarators ds) s)))

  pub declarator_joined : (d : S.InitDeclarator) (before : List T.Initialiser) (s : State)
      → declarator_behind b d before s ≡ bind (init_declarator_rule b d s) (λ r. Done (before ++ r.0, r.1))
  unfolding declarator_behind
  declarator_joined d before s = refl

  pub init_joined : (d : S.InitDeclarator) (s : State)
      → init_declarator_rule b d s
      ≡ bind (declarator_rule d.declarator s) (λ c. bind (built (spot_of c.0.name b.first b.tag) c.0.derivations b.ty c.1)
      (λ q. named_rule b (spot_of c.0.name b.first b.tag) (name_of c.0) q.0 d.initializer q.1))
  unfolding bind init_declarator_rule named_rule
  init_joined d s = refl

  pub named_joined : (spot : Spot) (w : S.Word) (q : QType) (i : Option S.Initializer) (s : State)
      → named_rule b spot w q i s
      ≡ bind (name_rule (sort_of (is_file_scope s) b q) spot w (is_some i) b q s) (λ t. declare_rule (sort_of (is_file_scope s) b q) w b spot q i t.1)
  unfolding bind named_rule
  named_joined spot w q i s = refl

pub initializer_shown : (o : Option Initializer) → is_some (view_initializer o) ≡ is_some o
initializer_shown None = refl
initializer_shown (Some i) = refl

-- ---- declarations

abbrev pub over_decls : List Decl → List T.Initialiser → State → Walk (List T.Initialiser × State)
over_decls ds before s = bind (decls_rule (view_decls ds) s) (λ r. Done (before ++ r.0, r.1))

abbrev pub one_decl : Decl → List Decl → List T.Initialiser → State → Walk (List T.Initialiser × State)
one_decl d rest before s = decl_behind (view_decl d) before s

pub decls_split : (d : Decl) (rest : List Decl) (before : List T.Initialiser) (s : State)
    → over_decls (d ∷ rest) before s ≡ bind (one_decl d rest before s) (λ t. over_decls rest t.0 t.1)
unfolding decls_rule decl_behind
decls_split d rest before s = gathered (decl_rule (view_decl d) s) (decls_rule (view_decls rest)) before

pub decls_over : (before : List T.Initialiser) (s : State) → outcome (over_decls [] before s) ≡ Ok (before, s)
unfolding bind outcome decls_rule
decls_over before s = ap (λ all. Ok (all, s)) (append-nil before)

pub decls_begun : (ds : List Decl) (s : State) → outcome (decls_rule (view_decls ds) s) ≡ outcome (over_decls ds [] s)
decls_begun ds s = ap outcome (sym (bind_end (decls_rule (view_decls ds) s)))

pub decl_joined : (d : S.Decl) (before : List T.Initialiser) (s : State)
    → decl_behind d before s ≡ bind (decl_rule d s) (λ r. Done (before ++ r.0, r.1))
unfolding decl_behind
decl_joined d before s = refl

-- ---- specifiers with declarators

pub some_declared : (ss : S.Specifiers) (ds : List InitDeclarator) (s : State) → 0 < length ds
    → declarators_rule ss (view_init_declarators ds) s
    ≡ bind (specified_rule ss (first_of_list ss) s) (λ b. bind (storage_rule b.0 b.1) (λ t. init_declarators_rule b.0 (view_init_declarators ds) t.1))
unfolding declarators_rule
some_declared ss [] s some = absurd (omega arith)
some_declared ss (d ∷ ds) s some = refl

pub none_declared : (ss : S.Specifiers) (ds : List InitDeclarator) (s : State) → length ds ≡ 0
    → declarators_rule ss (view_init_declarators ds) s ≡ bare_rule ss s
unfolding declarators_rule
none_declared ss [] s none = refl
none_declared ss (d ∷ ds) s none = absurd (omega arith)
