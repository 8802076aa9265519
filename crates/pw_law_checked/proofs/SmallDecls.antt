-- Whole declarations: what a declaration adds keeps the limit on sizes, and that on arguments (ISO C90 5.2.4.1).
use Rattle.std.specs.Prelude.{ℕ, ◌≡◌, Bool, true, false, Option, None, Some, List, [], ◌∷◌, ◌++◌, refl}
use Rattle.std.specs.List.{AllByRecursion}
use Rattle.std.proofs.Common.{ap, sym, subst, ◌∙◌}
use Rattle.pw_tree.specs.Trees.{Word, Decl, InitDeclarator, Specifiers}
use Rattle.pw_tree.specs.Trees as S
use Rattle.pw_tree.specs.Spelling.{spell_specifiers, spell_declarator, spell_initializer, spell_init_declarators, spell_decl, spell_decls}
use Rattle.pw_tree.specs.Symbols.{Symbol}
use Rattle.pw_types.specs.declared.record.RecordKind.{RecordKind}
use Rattle.pw_types.specs.TypeTrees.{type_of, RecordValue}
use Rattle.pw_types.specs.TypedTrees.{Initialiser}
use Rattle.pw_flow.proofs.Lists.{all_append}
use Rattle.pw_law_checked.specs.Bounded.{IsBoundedIn}
use Rattle.pw_check_walk.specs.Causes.{needs, DeclaresSomething}
use Rattle.pw_check_walk.specs.Walks.{Walk, Done, bind, meets}
use Rattle.pw_check_rules.specs.Declarations.{sort_of, name_of, init_declarator_rule, init_declarators_rule, storage_rule, declares_something, specified_rule, bare_rule, declarators_rule, decl_rule, decls_rule}
use Rattle.pw_check_rules.specs.Derivations.{spot_of}
use Rattle.pw_check_rules.specs.Leaves.{new_tag, reference_by, alone_by, alone_rule, record_kind, first_of_list}
use Rattle.pw_check_rules.specs.SpecifierLists.{Specified, nothing_gathered}
use Rattle.pw_check_rules.specs.States.{State, BodyState, is_file_scope, tag_here}
use Rattle.pw_check_rules.specs.declared.names.Tag.{Tag}
use Rattle.pw_law_checked.specs.Lawful.{IsLawful, IsLawfulType, Extends}
use Rattle.pw_law_checked.proofs.Walking.{Post, post_bind, post_weaken, post_both}
use Rattle.pw_law_checked.proofs.Types.{lawful_later, extends_trans, extends_same}
use Rattle.pw_law_checked.proofs.Sound.{Sound}
use Rattle.pw_law_checked.proofs.States.{Grows}
use Rattle.pw_law_checked.proofs.Leaves.{GoodSpecified}
use Rattle.pw_law_checked.proofs.Phrases.{later_type}
use Rattle.pw_law_checked.proofs.Keeping.{After}
use Rattle.pw_law_checked.proofs.Declarations.{sort_fits}
use Rattle.pw_law_checked.proofs.Adding.{Adds, Declaring, init_declarator_declares, init_declarators_declare, specified_all, bare_runs, decl_declares, decls_declare}
use Rattle.pw_law_checked.proofs.LabelLaws.{asked_post}
use Rattle.pw_law_checked.proofs.Spelled.{AreShort, separated_rest, specifiers_rest, declarator_rest, initializer_rest, decl_rest}
use Rattle.pw_law_checked.proofs.Still.{Still, specified_still, declared_storage_still}
use Rattle.pw_law_checked.proofs.SmallLeaves.{Keeping, IsReady, Reaches}
use Rattle.pw_law_checked.proofs.SmallPhrases.{Set, set_still, then_set, from_declarator, declarator_set, specifiers_set, built_here, new_tag_keeping, reference_by_keeping}
use Rattle.pw_law_checked.proofs.SmallLinkage.{AreNarrowed, places_so, narrowed_grows}
use Rattle.pw_law_checked.proofs.SmallGlobals.{Declared}
use Rattle.pw_law_checked.proofs.SmallNames.{name_declared}

-- ---- states

-- a state in which all is known
abbrev pub Holds : State → Type 0
Holds s = IsReady s × (Sound None s × AreNarrowed s)

pub holds_grows : {s t : State} → IsReady t → Grows s t → Holds s → Holds t
holds_grows {s} {t} ready g h = (ready, (g.sound None h.1.0, narrowed_grows {s = s} {t = t} (places_so s h.1.0) g h.1.1))

holds_declared : {s : State} (r : List Initialiser × State) → Declaring s r → Declared r → Holds s → Holds r.1
holds_declared {s} r x g h = ((x.0, g.0.0), (x.1.sound h.1.0, g.0.1))

-- how the state goes on within a function
pub record Onward (s t : State) : Type 0 where
  pub extends : Extends s.types.records t.types.records
  pub result : t.body.result ≡ s.body.result

pub onward_same : (s : State) → Onward s s
onward_same s = record { extends = extends_same s.types.records; result = refl }

pub onward_trans : {s t u : State} → Onward s t → Onward t u → Onward s u
onward_trans {s} {t} {u} a b = record { extends = extends_trans a.extends b.extends; result = b.result ∙ a.result }

pub onward_grows : {s t : State} → Grows s t → Onward s t
onward_grows g = record { extends = g.extends; result = ap (λ (b : BodyState). b.result) g.body }

pub onward_adds : {s t : State} → After s t → Adds s t → Onward s t
onward_adds x a = record { extends = x.extends; result = ap (λ (b : BodyState). b.result) a.steady }

pub reaches_on : {s t : State} {r : List RecordValue} → Onward s t → Reaches t r → Reaches s r
reaches_on {s} {t} {r} o c = (c.0, extends_trans o.extends c.1)

-- ---- declarators

init_declarator_declared : (b : Specified) (d : InitDeclarator) (z : List Symbol) (sh : AreShort (spell_declarator d.declarator (spell_initializer d.initializer z))) (s : State) → Holds s → GoodSpecified s b → Post (init_declarator_rule b d s) Declared
unfolding init_declarator_rule
init_declarator_declared b d z sh s h known =
    from_declarator d.declarator s _ Declared h.0.0 (declarator_set d.declarator _ sh s h.0) (λ r m g c.
    post_bind _ _ (λ u. (u.1 ≡ r.1) × IsLawfulType r.1.types.records (type_of u.0)) Declared (built_here r.1 b r.0 (spot_of r.0.name b.first b.tag) m.0 (later_type b.ty g known) c) (λ u j.
    let k : Holds u.1 = subst Holds (sym j.0) (holds_grows {s = s} {t = r.1} m g h) in
    asked_post u.1 (sort_of (is_file_scope u.1) b u.0) _ Declared
    (name_declared (sort_of (is_file_scope u.1) b u.0) (spot_of r.0.name b.first b.tag) (name_of r.0) b u.0 d.initializer z (declarator_rest d.declarator _ sh) u.1 k.0 (subst (λ t. IsLawfulType t.types.records (type_of u.0)) (sym j.0) j.1) (sort_fits (is_file_scope u.1) b u.0) k.1.0 k.1.1)))

-- one declaration and then others
then_declared : (s : State) (w : Walk (List Initialiser × State)) (next : State → Walk (List Initialiser × State)) → Holds s → Post w (Declaring s) → Post w Declared
    → ((r : State) → Holds r → After s r → Post (next r) (Declaring r)) → ((r : State) → Holds r → After s r → Post (next r) Declared) → Post (bind w (λ r. bind (next r.1) (λ u. Done (r.0 ++ u.0, u.1)))) Declared
unfolding bind
then_declared s w next h x y j k =
    post_bind w (λ r. bind (next r.1) (λ u. Done (r.0 ++ u.0, u.1))) (λ r. Declaring s r × Declared r) Declared (post_both w (Declaring s) Declared x y) (λ r g.
    let here : Holds r.1 = holds_declared {s = s} r g.0 g.1 h in
    post_bind (next r.1) (λ u. Done (r.0 ++ u.0, u.1)) (λ u. Declaring r.1 u × Declared u) Declared (post_both (next r.1) (Declaring r.1) Declared (j r.1 here g.0.1) (k r.1 here g.0.1))
    (λ u f. (f.1.0, λ z c. all_append (IsBoundedIn z) r.0 u.0 (g.1.1 z (reaches_on {s = r.1} {t = u.1} (onward_adds f.0.1 f.0.2.0) c)) (f.1.1 z c))))

init_declarators_declared : (lead : Bool) (ds : List InitDeclarator) (z : List Symbol) → AreShort (spell_init_declarators lead ds z) → (b : Specified) (s : State) → Holds s → GoodSpecified s b → Post (init_declarators_rule b ds s) Declared
unfolding init_declarators_rule
init_declarators_declared lead [] z sh b s h known = ((h.0.1, h.1.1), λ r c. tt)
init_declarators_declared lead (d ∷ rest) z sh b s h known =
    let own = separated_rest lead _ sh in
    then_declared s (init_declarator_rule b d s) (init_declarators_rule b rest) h (init_declarator_declares s b d h.0.0 known) (init_declarator_declared b d _ own s h known)
    (λ r k x. init_declarators_declare rest r b k.0.0 (lawful_later s.types.records r.types.records x.extends (type_of b.ty) known))
    (λ r k x. init_declarators_declared false rest z (initializer_rest d.initializer _ (declarator_rest d.declarator _ own)) b r k (lawful_later s.types.records r.types.records x.extends (type_of b.ty) known))

-- ---- specifiers

specified_set : (specifiers : Specifiers) (z : List Symbol) (sh : AreShort (spell_specifiers specifiers z)) (first : ℕ) (s : State) → IsReady s → Post (specified_rule specifiers first s) Set
unfolding specified_rule
specified_set specifiers z sh first s l = then_set _ _ (specifiers_set specifiers z sh first nothing_gathered s l) (λ r k. set_still r.1 _ k (specified_still first r.0 r.1))

abbrev pub Specifies : State → Specified × State → Type 0
Specifies s r = (IsLawful r.1 × Grows s r.1 × GoodSpecified r.1 r.0) × IsReady r.1

pub specified_made : (specifiers : Specifiers) (z : List Symbol) (sh : AreShort (spell_specifiers specifiers z)) (first : ℕ) (s : State) → IsReady s → Post (specified_rule specifiers first s) (Specifies s)
specified_made specifiers z sh first s l =
    post_both (specified_rule specifiers first s) (λ r. IsLawful r.1 × Grows s r.1 × GoodSpecified r.1 r.0) Set (specified_all s specifiers first l.0) (specified_set specifiers z sh first s l)

-- ---- a declaration of a tag alone

alone_by_keeping : (kind : RecordKind) (w : Word) (o : Option Tag) (s : State) → IsReady s → Post (alone_by kind w o s) (λ r. Keeping r.1)
unfolding alone_by
alone_by_keeping kind w None s l = post_bind (new_tag kind w s) _ (λ r. Keeping r.1) (λ r. Keeping r.1) (new_tag_keeping kind w s l) (λ r g. g)
alone_by_keeping kind w (Some tag) s l = post_bind (reference_by kind w (Some tag) s) _ (λ r. Keeping r.1) (λ r. Keeping r.1) (reference_by_keeping kind w (Some tag) s l) (λ r g. g)

alone_keeping : (kind : RecordKind) (w : Word) (s : State) → IsReady s → Post (alone_rule kind w s) (λ r. Keeping r.1)
unfolding alone_rule bind
alone_keeping kind w s l = alone_by_keeping kind w (tag_here s w.text) s l

bare_listed : (specifiers : Specifiers) (z : List Symbol) (sh : AreShort (spell_specifiers specifiers z)) (s : State) → IsReady s
    → Post {A = List Initialiser × State} (bind (specified_rule specifiers (first_of_list specifiers) s) (λ t. bind (bind (storage_rule t.0 t.1) (λ u. meets (needs DeclaresSomething t.0.first (declares_something specifiers) ∷ []) u.1)) (λ u. Done ([], u.1)))) (λ r. Keeping r.1)
unfolding storage_rule bind
bare_listed specifiers z sh s l =
    post_bind (specified_rule specifiers (first_of_list specifiers) s) _ Set (λ r. Keeping r.1) (specified_set specifiers z sh (first_of_list specifiers) s l) (λ r k met more. k.1)

bare_keeping : (specifiers : Specifiers) (z : List Symbol) (sh : AreShort (spell_specifiers specifiers z)) (s : State) → IsReady s → Post (bare_rule specifiers s) (λ r. Keeping r.1)
unfolding bare_rule
bare_keeping (S.RecordTag t kind w S.NoSpecifier) z sh s l = post_bind (alone_rule (record_kind kind) w s) _ (λ r. Keeping r.1) (λ r. Keeping r.1) (alone_keeping (record_kind kind) w s l) (λ r g. g)
bare_keeping specifiers z sh s l = bare_listed specifiers z sh s l

bare_declared : (specifiers : Specifiers) (z : List Symbol) (sh : AreShort (spell_specifiers specifiers z)) (s : State) → Holds s → Post (bare_rule specifiers s) Declared
bare_declared specifiers z sh s h =
    post_weaken (bare_rule specifiers s) (λ r. (IsLawful r.1 × Grows s r.1 × (r.0 ≡ [])) × Keeping r.1) Declared
    (post_both (bare_rule specifiers s) (λ r. IsLawful r.1 × Grows s r.1 × (r.0 ≡ [])) (λ r. Keeping r.1) (bare_runs s specifiers h.0.0) (bare_keeping specifiers z sh s h.0))
    (λ r g. ((g.1, narrowed_grows {s = s} {t = r.1} (places_so s h.1.0) g.0.1 h.1.1), λ x c. subst (AllByRecursion (IsBoundedIn x)) (sym g.0.2) tt))

-- ---- declarations

declarators_declared : (specifiers : Specifiers) (ds : List InitDeclarator) (z : List Symbol) → AreShort (spell_specifiers specifiers (spell_init_declarators true ds z)) → (s : State) → Holds s → Post (declarators_rule specifiers ds s) Declared
unfolding declarators_rule
declarators_declared specifiers [] z sh s h = bare_declared specifiers _ sh s h
declarators_declared specifiers (d ∷ rest) z sh s h =
    post_bind _ _ (Specifies s) Declared (specified_made specifiers _ sh (first_of_list specifiers) s h.0) (λ r g.
    post_bind _ _ (Still r.1) Declared (declared_storage_still r.0 r.1) (λ u e.
    init_declarators_declared true (d ∷ rest) z (specifiers_rest specifiers _ sh) r.0 u.1 (subst Holds (sym e) (holds_grows {s = s} {t = r.1} g.1 g.0.1 h)) (subst (λ t. GoodSpecified t r.0) (sym e) g.0.2)))

pub decl_declared : (d : Decl) (z : List Symbol) → AreShort (spell_decl d z) → (s : State) → Holds s → Post (decl_rule d s) Declared
unfolding decl_rule
decl_declared d z sh s h = declarators_declared d.specifiers d.declarators _ sh s h

pub decls_declared : (ds : List Decl) (z : List Symbol) → AreShort (spell_decls ds z) → (s : State) → Holds s → Post (decls_rule ds s) Declared
unfolding decls_rule
decls_declared [] z sh s h = ((h.0.1, h.1.1), λ r c. tt)
decls_declared (d ∷ rest) z sh s h =
    then_declared s (decl_rule d s) (decls_rule rest) h (decl_declares d s h.0.0) (decl_declared d _ sh s h) (λ r k x. decls_declare rest r k.0.0) (λ r k x. decls_declared rest z (decl_rest d _ sh) r k)
