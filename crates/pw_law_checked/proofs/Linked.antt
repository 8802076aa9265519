-- Each name with linkage is one that the tree declares.
use Rattle.std.specs.Prelude.{ℕ, zero, suc, ◌≡◌, Bool, true, false, Option, None, Some, is_some, List, [], ◌∷◌, ◌++◌, if◌then◌else◌, slice_get, refl}
use Rattle.std.specs.List.{AllByRecursion}
use Rattle.std.specs.Option.{option_map_or}
use Rattle.std.proofs.Common.{arith, sym, subst}
use Rattle.std.proofs.lemmas.Bool.Decides.{nat_tests}
use Rattle.pw_law_lower.specs.Within.{IsLetter, AreLetters}
use Rattle.pw_token.specs.Bytes.{is_in, is_nondigit, AllIn}
use Rattle.pw_token.specs.Spelling.{IsWord}
use Rattle.pw_token.specs.declared.bytes.Class.TheVariants as class
use Rattle.pw_tree.specs.FirstTokens.{first_of_expr}
use Rattle.pw_tree.specs.Trees.{Word, Expr, Initializer, Init, InitDeclarator, Decl, Declarator, Core, Specifiers, Stmt, Alternative, Block, Stmts, Label, External}
use Rattle.pw_tree.specs.Trees as S
use Rattle.pw_tree.specs.Words.{WordsSpell, WordsSpellDeclarator, WordsSpellCore, WordsSpellInitDeclarators, WordsSpellDecl, WordsSpellDecls, WordsSpellStmt, WordsSpellAlternative, WordsSpellBlock, WordsSpellStmts, WordsSpellExternal, WordsSpellExternals}
use Rattle.pw_types.specs.TypeTrees.{QType, type_of}
use Rattle.pw_types.specs.TypedTrees.{Expression, Initialiser, Statement}
use Rattle.pw_check_walk.specs.Walks.{Walk, Done, bind}
use Rattle.pw_check_rules.specs.Declarations.{Sort, ATypedef, AFunction, AGlobal, AnExtern, AStatic, ALocal, asking_of, name_rule, name_of, global_rule, fitting_rule, completed_rule, static_rule, bytes_rule, single_rule, local_initialiser, local_rule, declare_rule, init_declarator_rule, init_declarators_rule, bare_rule, specified_rule, storage_rule, declarators_rule, decl_rule, decls_rule, context_of, is_tentative, declares_something}
use Rattle.pw_check_rules.specs.Derivations.{spot_of}
use Rattle.pw_check_rules.specs.Functions.{measured_rule, body_rule, function_rule}
use Rattle.pw_check_rules.specs.Initialisers.{object_rule, is_by_bytes}
use Rattle.pw_check_rules.specs.Leaves.{alone_by, alone_rule, record_kind, first_of_list, new_tag, new_record, reference_by}
use Rattle.pw_check_rules.specs.Limits.{Spot}
use Rattle.pw_check_rules.specs.Linkage.{Asking, AsBefore, note_linked, linked_before, linked_again, linked_anew, place_for, declare_linked, change_linked, slot_for, has_slot, define_tentatively, define_object, define_function, initialise_linked, named_type}
use Rattle.pw_check_rules.specs.Modules.{external_rule, externals_rule}
use Rattle.pw_check_rules.specs.Operators.{value_rule}
use Rattle.pw_check_rules.specs.SpecifierLists.{Specified, specified, nothing_gathered}
use Rattle.pw_check_rules.specs.declared.names.Slot.TheVariants as slot
use Rattle.pw_check_rules.specs.declared.names.Tag.{Tag}
use Rattle.pw_check_rules.specs.declared.names.Tag.TheVariants as G
use Rattle.pw_check_rules.specs.Phrases.{declarator_rule, core_rule, expr_rule}
use Rattle.pw_check_rules.specs.States.{State, Rule, LinkedName, put_at, put_linked, add_linked, add_slot, linked_at, scoped, one_deeper, tag_here}
use Rattle.pw_check_rules.specs.Statements.{new_label, case_rule, inside_switch, default_rule, name_label_rule, label_rule, labels_rule, whole_rule, optional_rule, condition_rule, optional_condition, switch_rule, in_switch, in_loop, return_rule, stmt_rule, alternative_rule, block_rule, stmts_rule}
use Rattle.pw_law_checked.proofs.Bare.{bare_post}
use Rattle.pw_law_checked.proofs.Walking.{Post, post_bind, post_weaken, post_both, after_any}
use Rattle.pw_law_checked.proofs.Lists.{some_same, never_some}
use Rattle.pw_law_checked.proofs.Keeping.{here_linked, named_before}
use Rattle.pw_law_checked.proofs.Still.{built_still, declared_storage_still}
use Rattle.pw_law_checked.proofs.Quiet.{Same, then_same, still_same, expr_same, specifiers_same, declarator_same, object_same}

-- ---- lists of names with linkage

abbrev pub AreNamed : List LinkedName → Type 0
AreNamed ls = AllByRecursion (λ l. AreLetters l.name) ls

abbrev pub Named : {A : Type 0} → A × State → Type 0
Named r = AreNamed r.1.types.linked

put_named : (n : ℕ) (x : LinkedName) (xs : List LinkedName) → AreLetters x.name → AreNamed xs → AreNamed (put_at n x xs)
put_named n x [] h all = tt
put_named zero x (y ∷ xs) h all = (h, all.1)
put_named (suc n) x (y ∷ xs) h all = (all.0, put_named n x xs h all.1)

more_named : (xs : List LinkedName) (x : LinkedName) → AreNamed xs → AreLetters x.name → AreNamed (xs ++ x ∷ [])
more_named [] x all h = (h, tt)
more_named (y ∷ xs) x all h = (all.0, more_named xs x all.1 h)

pub at_all : {X : Type 0} (P : X → Type 0) (xs : List X) (i : ℕ) (x : X) → slice_get xs i ≡ Some x → AllByRecursion P xs → P x
at_all P [] i x e all = never_some e
at_all P (y ∷ xs) zero x e all = subst P (some_same e) all.0
at_all P (y ∷ xs) (suc i) x e all = at_all P xs i x e all.1

pub at_named : (xs : List LinkedName) (i : ℕ) (x : LinkedName) → slice_get xs i ≡ Some x → AreNamed xs → AreLetters x.name
at_named xs i x e all = at_all (λ (l : LinkedName). AreLetters l.name) xs i x e all

named_so : {A : Type 0} (s : State) (w : Walk (A × State)) → AreNamed s.types.linked → Post w (Same s) → Post w Named
named_so s w all h = post_weaken w (Same s) Named h (λ r e. subst AreNamed (sym e) all)

-- what declares nothing, and then another rule
named_then : {A B : Type 0} (s : State) (w : Walk (A × State)) (next : A × State → Walk (B × State)) → AreNamed s.types.linked → Post w (Same s)
    → ((r : A × State) → AreNamed r.1.types.linked → Post (next r) Named) → Post (bind w next) Named
named_then {A} {B} s w next all h k = post_bind w next (Same s) Named h (λ r e. k r (subst AreNamed (sym e) all))

-- one rule and then another
both_named : {A B : Type 0} (w : Walk (A × State)) (next : A × State → Walk (B × State)) → Post w Named → ((r : A × State) → AreNamed r.1.types.linked → Post (next r) Named) → Post (bind w next) Named
both_named w next h k = post_bind w next Named Named h k

-- ---- declarations of names

note_named : (s : State) (name : List ℕ) (internal : Bool) (ty : QType) (token : ℕ) (tag : Option ℕ) → AreNamed s.types.linked → AreLetters name → AreNamed (note_linked name internal ty token tag s).types.linked
note_named s name internal ty token tag all h = by (linked_before s name) refl
  where
    by : (o : Option LinkedName) → linked_before s name ≡ o → AreNamed (option_map_or (λ l. put_linked (place_for s name) (linked_again ty l) s) o (add_linked (linked_anew name internal ty token tag) s)).types.linked
    by None e = more_named s.types.linked (linked_anew name internal ty token tag) all h
    by (Some l) e = put_named (place_for s name) (linked_again ty l) s.types.linked (subst AreLetters (sym (named_before s name l e)) h) all

change_named : (s : State) (place : ℕ) (f : LinkedName → LinkedName) → ((l : LinkedName) → (f l).name ≡ l.name) → AreNamed s.types.linked → AreNamed (change_linked place f s).types.linked
change_named s place f same all = by (linked_at s place) refl
  where
    by : (o : Option LinkedName) → linked_at s place ≡ o → AreNamed (option_map_or (λ l. put_linked place (f l) s) o s).types.linked
    by None e = all
    by (Some l) e = put_named place (f l) s.types.linked (subst AreLetters (sym (same l)) (at_named s.types.linked place l e all)) all

slot_same : (s : State) (place : ℕ) → (slot_for place s).types.linked ≡ s.types.linked
slot_same s place = by (has_slot s place)
  where
    by : (b : Bool) → (if b then s else add_slot (slot.Named place) s).types.linked ≡ s.types.linked
    by true = refl
    by false = refl

defined_named : (s : State) (place : ℕ) → AreNamed s.types.linked → AreNamed (define_object place s).types.linked
defined_named s place all = change_named (slot_for place s) place (λ l. record l { defined = true }) (λ l. refl) (subst AreNamed (sym (slot_same s place)) all)

tentative_named : (s : State) (place : ℕ) (b : Bool) → AreNamed s.types.linked → AreNamed (if b then define_tentatively place s else s).types.linked
tentative_named s place true all = change_named (slot_for place s) place (λ l. record l { tentative = true }) (λ l. refl) (subst AreNamed (sym (slot_same s place)) all)
tentative_named s place false all = all

declare_named : (name : List ℕ) (token : ℕ) (tag : Option ℕ) (asking : Asking) (ty : QType) (s : State) → AreNamed s.types.linked → AreLetters name → Post (declare_linked name token tag asking ty s) Named
unfolding declare_linked bind
declare_named name token tag asking ty s all h = subst AreNamed (sym (here_linked (note_linked name _ ty token tag s) name (place_for s name) ty)) (note_named s name _ ty token tag all h)

-- a point changes nothing
met_same : (p : Rattle.pw_check_walk.specs.Causes.Point) (s : State) → Post (Rattle.pw_check_walk.specs.Walks.meets p s) (Same s)
met_same p s = λ met. refl

-- a declarator's name
nondigit_letter : (b : ℕ) → is_nondigit b ≡ true → IsLetter b
nondigit_letter b h = grind (arith, nat_tests)

word_letter : (b : ℕ) → is_in class.Word b ≡ true → IsLetter b
word_letter b h = grind (arith, nat_tests)

letters : (s : List ℕ) → AllIn class.Word s → AreLetters s
letters [] h = tt
letters (b ∷ s) h = (word_letter b h.0, letters s h.1)

word_letters : (s : List ℕ) → IsWord s → AreLetters s
word_letters [] h = absurd h
word_letters (b ∷ s) h = (nondigit_letter b h.0, letters s h.1)

mutual
  unfolding declarator_rule WordsSpell

  declarator_named : (d : Declarator) (s : State) → WordsSpellDeclarator d → Post (declarator_rule d s) (λ r. AreLetters (name_of r.0).text)
  declarator_named (S.Declaring ps core suffixes) s h =
      post_bind _ _ (λ r. AreLetters (name_of r.0).text) (λ r. AreLetters (name_of r.0).text) (core_named core s h.0) (λ r k.
      after_any _ _ (λ u. AreLetters (name_of u.0).text) (λ u. k))

  core_named : (core : Core) (s : State) → WordsSpellCore core → Post (core_rule core s) (λ r. AreLetters (name_of r.0).text)
  core_named S.Absent s h = tt
  core_named (S.Name w) s h = word_letters w.text h.0
  core_named (S.Enclosed t d) s h = declarator_named d s h

global_named : (w : Word) (b : Specified) (spot : Spot) (q : QType) (i : Option Initializer) (s : State) → AreNamed s.types.linked → AreLetters w.text → Post (global_rule w b spot q i s) Named
unfolding global_rule fitting_rule bind
global_named w b spot q None s all h =
    both_named (declare_linked w.text w.token b.tag (asking_of AGlobal b) q s) _ (declare_named w.text w.token b.tag (asking_of AGlobal b) q s all h) (λ r k. tentative_named r.1 r.0 (is_tentative b) k)
global_named w b spot q (Some i) s all h =
    both_named (declare_linked w.text w.token b.tag (asking_of AGlobal b) q s) _ (declare_named w.text w.token b.tag (asking_of AGlobal b) q s all h) (λ r k.
    named_then (define_object r.0 r.1) (object_rule (context_of w true 0) (named_type (define_object r.0 r.1) w.text q) i.init (define_object r.0 r.1)) _ (defined_named r.1 r.0 k)
    (object_same (context_of w true 0) (named_type (define_object r.0 r.1) w.text q) i.init (define_object r.0 r.1)) (λ o j met.
    subst AreNamed (sym (here_linked (initialise_linked r.0 o.0.ty o.0.filled.items o.1) w.text r.0 o.0.ty))
    (change_named o.1 r.0 (λ l. record l { ty = Rattle.pw_check_rules.specs.Compatible.composite l.ty o.0.ty; items = o.0.filled.items }) (λ l. refl) j)))

static_same : (w : Word) (q : QType) (i : Option Initializer) (s : State) → Post (static_rule w q i s) (Same s)
unfolding static_rule completed_rule bind
static_same w q None s = refl
static_same w q (Some i) s = post_bind (object_rule _ q i.init _) _ (Same s) (Same s) (object_same _ q i.init _) (λ r e met. e)

local_initialiser_same : (bytes : Bool) (w : Word) (k : ℕ) (q : QType) (i : Init) (s : State) → Post (local_initialiser bytes w k q i s) (Same s)
unfolding local_initialiser bytes_rule single_rule completed_rule bind
local_initialiser_same true w k q i s = post_bind (object_rule _ q i _) _ (Same s) (Same s) (object_same _ q i _) (λ r e met. e)
local_initialiser_same false w k q i s = post_bind (object_rule _ q i s) _ (Same s) (Same s) (object_same _ q i s) (λ r e. e)

local_same : (w : Word) (b : Specified) (q : QType) (i : Option Initializer) (s : State) → Post (local_rule w b q i s) (Same s)
unfolding local_rule bind
local_same w b q None s = refl
local_same w b q (Some i) s = post_bind (local_initialiser (is_by_bytes (type_of q) i.init) w _ q i.init _) _ (Same s) (Same s) (local_initialiser_same (is_by_bytes (type_of q) i.init) w _ q i.init _) (λ r e. e)

declare_all : (sort : Sort) (w : Word) (b : Specified) (spot : Spot) (q : QType) (i : Option Initializer) (s : State) → AreNamed s.types.linked → AreLetters w.text → Post (declare_rule sort w b spot q i s) Named
unfolding declare_rule bind
declare_all ATypedef w b spot q i s all h = all
declare_all AFunction w b spot q i s all h = both_named (declare_linked w.text w.token b.tag (asking_of AFunction b) q s) _ (declare_named w.text w.token b.tag (asking_of AFunction b) q s all h) (λ r k. k)
declare_all AGlobal w b spot q i s all h = global_named w b spot q i s all h
declare_all AnExtern w b spot q i s all h = both_named (declare_linked w.text w.token b.tag AsBefore q s) _ (declare_named w.text w.token b.tag AsBefore q s all h) (λ r k. k)
declare_all AStatic w b spot q i s all h = named_so s (static_rule w q i s) all (static_same w q i s)
declare_all ALocal w b spot q i s all h = named_so s (local_rule w b q i s) all (local_same w b q i s)

name_same : (sort : Sort) (spot : Spot) (w : Word) (initialised : Bool) (b : Specified) (q : QType) (s : State) → Post (name_rule sort spot w initialised b q s) (Same s)
unfolding name_rule bind
name_same sort spot w initialised b q s = λ met. refl

-- what a declarator says, where it declares nothing itself
declared_named : {B : Type 0} (d : Declarator) (s : State) (next : Rattle.pw_check_rules.specs.Derivations.Declared × State → Walk (B × State)) → WordsSpellDeclarator d → AreNamed s.types.linked
    → ((c : Rattle.pw_check_rules.specs.Derivations.Declared × State) → AreNamed c.1.types.linked → AreLetters (name_of c.0).text → Post (next c) Named) → Post (bind (declarator_rule d s) next) Named
declared_named d s next h all k =
    post_bind (declarator_rule d s) next (λ c. Same s c × AreLetters (name_of c.0).text) Named
    (post_both (declarator_rule d s) (Same s) (λ c. AreLetters (name_of c.0).text) (declarator_same d s) (declarator_named d s h)) (λ c j. k c (subst AreNamed (sym j.0) all) j.1)

init_declarator_named : (b : Specified) (d : InitDeclarator) (s : State) → WordsSpellDeclarator d.declarator → AreNamed s.types.linked → Post (init_declarator_rule b d s) Named
unfolding init_declarator_rule
init_declarator_named b d s h all =
    declared_named d.declarator s _ h all (λ c all1 named.
    named_then c.1 _ _ all1 (still_same c.1 _ (built_still (spot_of c.0.name b.first b.tag) c.0.derivations b.ty c.1)) (λ q all2.
    named_then q.1 _ _ all2 refl (λ sort all3.
    named_then sort.1 _ _ all3 (name_same sort.0 _ (name_of c.0) (is_some d.initializer) b q.0 sort.1) (λ n all4.
    declare_all sort.0 (name_of c.0) b _ q.0 d.initializer n.1 all4 named))))

init_declarators_named : (b : Specified) (ds : List InitDeclarator) (s : State) → WordsSpellInitDeclarators ds → AreNamed s.types.linked → Post (init_declarators_rule b ds s) Named
unfolding init_declarators_rule
init_declarators_named b [] s h all = all
init_declarators_named b (d ∷ rest) s h all = both_named _ _ (init_declarator_named b d s h.0 all) (λ r all1. both_named _ _ (init_declarators_named b rest r.1 h.2 all1) (λ u all2. all2))

specified_all_same : (specifiers : Specifiers) (first : ℕ) (s : State) → Post (specified_rule specifiers first s) (Same s)
unfolding specified_rule specified
specified_all_same specifiers first s = then_same s _ _ (specifiers_same specifiers first nothing_gathered s) (λ r. then_same r.1 _ _ (λ met. refl) (λ u. refl))

alone_by_same : (kind : Rattle.pw_types.specs.declared.record.RecordKind.RecordKind) (w : Word) (o : Option Tag) (s : State) → Post (alone_by kind w o s) (Same s)
unfolding alone_by reference_by new_tag new_record bind
alone_by_same kind w None s = λ met. refl
alone_by_same kind w (Some (G.Record n)) s = λ met. refl
alone_by_same kind w (Some G.Enumeration) s = tt

alone_same : (kind : Rattle.pw_types.specs.declared.record.RecordKind.RecordKind) (w : Word) (s : State) → Post (alone_rule kind w s) (Same s)
unfolding alone_rule bind
alone_same kind w s = alone_by_same kind w (tag_here s w.text) s

bare_listed : (specifiers : Specifiers) (s : State)
    → Post {A = List Initialiser × State} (bind (specified_rule specifiers (first_of_list specifiers) s) (λ t. bind (bind (storage_rule t.0 t.1) (λ u. Rattle.pw_check_walk.specs.Walks.meets (Rattle.pw_check_walk.specs.Causes.needs Rattle.pw_check_walk.specs.Causes.DeclaresSomething t.0.first (declares_something specifiers) ∷ []) u.1)) (λ u. Done ([], u.1)))) (Same s)
bare_listed specifiers s =
    then_same s _ _ (specified_all_same specifiers (first_of_list specifiers) s) (λ t. then_same t.1 _ _ (then_same t.1 _ _ (still_same t.1 _ (declared_storage_still t.0 t.1)) (λ u met. refl)) (λ u. refl))

bare_same : (specifiers : Specifiers) (s : State) → Post (bare_rule specifiers s) (Same s)
unfolding bare_rule
bare_same (S.RecordTag t kind w S.NoSpecifier) s = then_same s _ _ (alone_same (record_kind kind) w s) (λ r. refl)
bare_same specifiers s = bare_listed specifiers s

declarators_named : (specifiers : Specifiers) (ds : List InitDeclarator) (s : State) → WordsSpellInitDeclarators ds → AreNamed s.types.linked → Post (declarators_rule specifiers ds s) Named
unfolding declarators_rule
declarators_named specifiers [] s h all = named_so s (bare_rule specifiers s) all (bare_same specifiers s)
declarators_named specifiers (d ∷ rest) s h all =
    named_then s _ _ all (specified_all_same specifiers (first_of_list specifiers) s) (λ b all1.
    named_then b.1 _ _ all1 (still_same b.1 _ (declared_storage_still b.0 b.1)) (λ u all2. init_declarators_named b.0 (d ∷ rest) u.1 h all2))

decl_named : (d : Decl) (s : State) → WordsSpellDecl d → AreNamed s.types.linked → Post (decl_rule d s) Named
unfolding decl_rule
decl_named d s h all = declarators_named d.specifiers d.declarators s h.1 all

decls_named : (ds : List Decl) (s : State) → WordsSpellDecls ds → AreNamed s.types.linked → Post (decls_rule ds s) Named
unfolding decls_rule
decls_named [] s h all = all
decls_named (d ∷ rest) s h all = both_named _ _ (decl_named d s h.0 all) (λ r all1. both_named _ _ (decls_named rest r.1 h.1 all1) (λ u all2. all2))

-- ---- statements

whole_same : (e : Expr) (s : State) → Post (whole_rule e s) (Same s)
unfolding whole_rule value_rule
whole_same e s = then_same s _ _ (expr_same e s) (λ r. then_same r.1 _ _ (λ met. refl) (λ u. refl))

whole_then : (e : Expr) (s : State) → Post {A = Statement × State} (bind (expr_rule e s) (λ a. bind (value_rule a.0 a.1) (λ x. Done (Rattle.pw_types.specs.TypedTrees.Evaluate (first_of_expr e) x.0, x.1)))) (Same s)
unfolding value_rule
whole_then e s = then_same s _ _ (expr_same e s) (λ r. then_same r.1 _ _ (then_same r.1 _ _ (λ met. refl) (λ u. refl)) (λ u. refl))

optional_same : (o : Option Expr) (s : State) → Post (optional_rule o s) (Same s)
unfolding optional_rule
optional_same None s = refl
optional_same (Some e) s = then_same s _ _ (whole_same e s) (λ r. refl)

condition_same : (t : ℕ) (e : Expr) (s : State) → Post (condition_rule t e s) (Same s)
unfolding condition_rule bind
condition_same t e s = then_same s (whole_rule e s) _ (whole_same e s) (λ r met. refl)

optional_condition_same : (t : ℕ) (o : Option Expr) (s : State) → Post (optional_condition t o s) (Same s)
unfolding optional_condition bind
optional_condition_same t o s = then_same s (optional_rule o s) _ (optional_same o s) (λ r met. refl)

switch_same : (t : ℕ) (e : Expr) (s : State) → Post (switch_rule t e s) (Same s)
unfolding switch_rule bind
switch_same t e s = then_same s (whole_rule e s) _ (whole_same e s) (λ r met. refl)

label_same : (l : Label) (s : State) → Post (label_rule l s) (Same s)
unfolding label_rule inside_switch case_rule default_rule name_label_rule new_label value_rule bind
label_same (S.CaseLabel t e) s = λ met. then_same s (expr_rule e s) _ (expr_same e s) (λ r met2 met3. refl)
label_same (S.DefaultLabel t) s = λ met. refl
label_same (S.NameLabel w) s = λ met. refl

labels_same : (ls : List Label) (s : State) → Post (labels_rule ls s) (Same s)
unfolding labels_rule
labels_same [] s = refl
labels_same (l ∷ rest) s = then_same s _ _ (label_same l s) (λ r. then_same r.1 _ _ (labels_same rest r.1) (λ u. refl))

return_same : (t : ℕ) (e : Option Expr) (s : State) → Post (return_rule t e s) (Same s)
unfolding return_rule bind
return_same t None s = refl
return_same t (Some e) s = then_same s (whole_rule e s) _ (whole_same e s) (λ r met. refl)

scoped_named : {A : Type 0} (inside : Rule A) (s : State) → AreNamed s.types.linked → ((t : State) → AreNamed t.types.linked → Post (inside t) Named) → Post (scoped inside s) Named
unfolding scoped bind
scoped_named inside s all h = both_named (inside (one_deeper s)) _ (h (one_deeper s) all) (λ r k. k)

in_loop_named : (body : Rule Statement) (s : State) → AreNamed s.types.linked → ((t : State) → AreNamed t.types.linked → Post (body t) Named) → Post (in_loop body s) Named
unfolding in_loop bind
in_loop_named body s all h = both_named (body _) _ (h _ all) (λ r k. k)

in_switch_named : (e : Expression) (body : Rule Statement) (s : State) → AreNamed s.types.linked → ((t : State) → AreNamed t.types.linked → Post (body t) Named) → Post (in_switch e body s) Named
unfolding in_switch bind
in_switch_named e body s all h = both_named (body _) _ (h _ all) (λ r k. k)

mutual
  unfolding stmt_rule WordsSpellStmt

  stmt_named : (st : Stmt) (s : State) → WordsSpellStmt st → AreNamed s.types.linked → Post (stmt_rule st s) Named
  stmt_named (S.Compound b) s h all = scoped_named (block_rule b) s all (λ t k. block_named b t h k)
  stmt_named (S.Expression e) s h all = named_so s _ all (whole_then e s)
  stmt_named (S.Labeled ls st) s h all = named_then s _ _ all (labels_same ls s) (λ r k. both_named _ _ (stmt_named st r.1 h.1 k) (λ u j. j))
  stmt_named (S.If t c st a) s h all =
      named_then s _ _ all (condition_same t c s) (λ r k.
      both_named _ _ (stmt_named st r.1 h.1 k) (λ u j.
      both_named _ _ (alternative_named a u.1 h.2 j) (λ v i. i)))
  stmt_named (S.Switch t e st) s h all =
      named_then s _ _ all (switch_same t e s) (λ r k.
      both_named _ _ (in_switch_named r.0 (stmt_rule st) r.1 k (λ v i. stmt_named st v h.1 i)) (λ u j. j))
  stmt_named (S.While t e st) s h all =
      named_then s _ _ all (condition_same t e s) (λ r k. both_named _ _ (in_loop_named (stmt_rule st) r.1 k (λ v i. stmt_named st v h.1 i)) (λ u j. j))
  stmt_named (S.Do t st e) s h all =
      both_named _ _ (in_loop_named (stmt_rule st) s all (λ v i. stmt_named st v h.0 i)) (λ r k. named_then r.1 _ _ k (condition_same t e r.1) (λ u j. j))
  stmt_named (S.For t a b c st) s h all =
      named_then s _ _ all (optional_same a s) (λ r k.
      named_then r.1 _ _ k (optional_condition_same t b r.1) (λ u j.
      named_then u.1 _ _ j (optional_same c u.1) (λ v i.
      both_named _ _ (in_loop_named (stmt_rule st) v.1 i (λ x y. stmt_named st x h.3 y)) (λ x y. y))))
  stmt_named (S.Return t e) s h all = named_so s (return_rule t e s) all (return_same t e s)
  stmt_named st s h all = bare_post Named st refl s (λ b. all)

  alternative_named : (a : Alternative) (s : State) → WordsSpellAlternative a → AreNamed s.types.linked → Post (alternative_rule a s) Named
  alternative_named S.NoElse s h all = all
  alternative_named (S.Otherwise st) s h all = both_named _ _ (stmt_named st s h all) (λ r k. k)
  alternative_named (S.ElseIf t c st a) s h all =
      named_then s _ _ all (condition_same t c s) (λ r k.
      both_named _ _ (stmt_named st r.1 h.1 k) (λ u j.
      both_named _ _ (alternative_named a u.1 h.2 j) (λ v i. i)))

  block_named : (b : Block) (s : State) → WordsSpellBlock b → AreNamed s.types.linked → Post (block_rule b s) Named
  block_named (S.Braced t ds ss) s h all =
      named_then s _ _ all refl (λ r k.
      both_named _ _ (decls_named ds r.1 h.0 k) (λ u j.
      named_then u.1 _ _ j refl (λ v i.
      both_named _ _ (stmts_named ss v.1 h.1 i) (λ x y. y))))

  stmts_named : (ss : Stmts) (s : State) → WordsSpellStmts ss → AreNamed s.types.linked → Post (stmts_rule ss s) Named
  stmts_named S.NoStmt s h all = all
  stmts_named (S.Next st rest) s h all = both_named _ _ (stmt_named st s h.0 all) (λ r k. both_named _ _ (stmts_named rest r.1 h.1 k) (λ u j. j))

-- ---- functions and modules

body_named : (w : Word) (place : ℕ) (q : QType) (b : Rattle.pw_check_rules.specs.Derivations.Bindings) (block : Block) (s : State) → WordsSpellBlock block → AreNamed s.types.linked → Post (body_rule w place q b block s) Named
unfolding body_rule measured_rule bind
body_named w place q b block s h all = both_named (block_rule block _) _ (block_named block _ h all) (λ r k met. k)

external_named : (x : External) (s : State) → WordsSpellExternal x → AreNamed s.types.linked → Post (external_rule x s) Named
unfolding external_rule function_rule
external_named (S.Definition f) s h all =
    named_then s _ _ all (specified_all_same f.specifiers _ s) (λ b all1.
    declared_named f.declarator b.1 _ h.1 all1 (λ c all2 named.
    named_then c.1 _ _ all2 (still_same c.1 _ (built_still (spot_of c.0.name b.0.first b.0.tag) c.0.derivations b.0.ty c.1)) (λ q all3.
    named_then q.1 _ _ all3 refl (λ p all4.
    both_named _ _ (named_then p.1 _ _ all4 (met_same p.0 p.1) (λ m all5. declare_named (name_of c.0).text (name_of c.0).token b.0.tag _ q.0 m.1 all5 named)) (λ e all6.
    named_then (define_function e.0 e.1) _ _ (change_named e.1 e.0 (λ l. record l { defined = true }) (λ l. refl) all6) refl (λ d all7.
    body_named (name_of c.0) e.0 q.0 _ f.body d.1 h.3 all7))))))
external_named (S.Declaration d) s h all = both_named _ _ (decl_named d s h all) (λ r k. k)

pub externals_named : (xs : List External) (s : State) → WordsSpellExternals xs → AreNamed s.types.linked → Post (externals_rule xs s) Named
unfolding externals_rule
externals_named [] s h all = all
externals_named (x ∷ rest) s h all = both_named _ _ (external_named x s h.0 all) (λ r k. externals_named rest r.1 h.1 k)
