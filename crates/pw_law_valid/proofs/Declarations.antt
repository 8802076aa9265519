-- Declarations make no more objects without a name than they have tokens: one for each declarator at most, and those of its
-- initialiser. The first declarator has the end of the declaration, each other one its comma.
use Rattle.std.specs.Prelude.{ℕ, suc, ◌≡◌, ◌+◌, ◌≤◌, Bool, true, false, Option, None, Some, List, [], ◌∷◌, ◌++◌, length, refl, unwrap_or, not, is_some, if◌then◌else◌}
use Rattle.std.specs.Option.{option_map_or}
use Rattle.std.proofs.Common.{arith, ap, ◌∙◌}
use Rattle.pw_tree.specs.Trees.{Word, Decl, InitDeclarator, Initializer, Init, Specifiers}
use Rattle.pw_tree.specs.Trees as S
use Rattle.pw_tree.specs.Spelling.{spell_specifiers, spell_declarator, spell_init, spell_initializer, spell_init_declarators, spell_decl, spell_decls}
use Rattle.pw_tree.specs.Symbols.{Symbol}
use Rattle.pw_types.specs.declared.record.RecordKind.{RecordKind}
use Rattle.pw_types.specs.TypeTrees.{QType, type_of}
use Rattle.pw_types.specs.TypedTrees.{Initialiser}
use Rattle.pw_check_walk.specs.Causes.{needs, DeclaresSomething}
use Rattle.pw_check_walk.specs.Walks.{Walk, Done, bind, meets}
use Rattle.pw_check_rules.specs.Declarations.{Sort, ATypedef, AFunction, AGlobal, AnExtern, AStatic, ALocal, sort_of, asking_of, name_of, name_rule, hidden_of, local_of, is_tentative, completed_rule, fitting_rule, context_of, global_rule, static_rule, bytes_rule, single_rule, local_initialiser, local_rule, declare_rule, init_declarator_rule, init_declarators_rule, storage_rule, declares_something, specified_rule, bare_rule, declarators_rule, decl_rule, decls_rule}
use Rattle.pw_check_rules.specs.Derivations.{built, spot_of}
use Rattle.pw_check_rules.specs.Initialisers.{object_rule, is_by_bytes}
use Rattle.pw_check_rules.specs.Kinds.{is_const_object}
use Rattle.pw_check_rules.specs.Leaves.{new_tag, reference_by, alone_by, alone_rule, record_kind, first_of_list}
use Rattle.pw_check_rules.specs.Limits.{Spot}
use Rattle.pw_check_rules.specs.Linkage.{Asking, AsBefore, declare_linked, note_linked, note_here, type_here, place_for, linked_before, linked_again, linked_anew, is_internal_by, change_linked, slot_for, has_slot, define_tentatively, define_object, initialise_linked, named_type}
use Rattle.pw_check_rules.specs.Phrases.{declarator_rule}
use Rattle.pw_check_rules.specs.SpecifierLists.{Specified, nothing_gathered, is_register}
use Rattle.pw_check_rules.specs.States.{State, TypeName, StaticObject, LocalObject, Linked, LinkedName, HiddenObject, is_file_scope, tag_here, linked_at, add_hidden, put_at, put_linked, add_linked, add_slot, put_entity, enter, entry_here, entity_here, next_hidden, add_local, next_local}
use Rattle.pw_check_rules.specs.declared.names.Entry.{Entry}
use Rattle.pw_check_rules.specs.declared.names.Slot.TheVariants as slot
use Rattle.pw_check_rules.specs.declared.names.Tag.{Tag}
use Rattle.pw_law_checked.proofs.Walking.{Post, post_bind, post_weaken}
use Rattle.pw_law_checked.proofs.Lists.{length_put}
use Rattle.pw_law_checked.proofs.Still.{Still, specified_still, built_still, declared_storage_still}
use Rattle.pw_law_checked.proofs.LabelLaws.{asked_post}
use Rattle.pw_law_valid.proofs.Spending.{Spends, Same, stays, then_spends, still_spends, same_spends, wider_spends, token_before, token_behind, with_lead, item_before, no_item}
use Rattle.pw_law_valid.proofs.Phrases.{one_more, then_same, specifiers_spends, declarator_spends, left_same}
use Rattle.pw_law_checked.proofs.Untouched.{new_tag_untouched, reference_by_untouched}
use Rattle.pw_law_valid.proofs.Initialisers.{object_spends}

-- ---- names with linkage

noted_same : (name : List ℕ) (internal : Bool) (ty : QType) (token : ℕ) (tag : Option ℕ) (s : State) → (note_linked name internal ty token tag s).made.hidden ≡ s.made.hidden
noted_same name internal ty token tag s = by (linked_before s name)
  where
    by : (o : Option LinkedName) → (option_map_or (λ l. put_linked (place_for s name) (linked_again ty l) s) o (add_linked (linked_anew name internal ty token tag) s)).made.hidden ≡ s.made.hidden
    by None = refl
    by (Some l) = refl

here_same : (name : List ℕ) (place : ℕ) (ty : QType) (s : State) → (note_here name place ty s).made.hidden ≡ s.made.hidden
here_same name place ty s = by (entry_here s name)
  where
    by : (o : Option Entry) → (option_map_or (λ e. put_entity e.place (Linked place (type_here ty (unwrap_or (entity_here s name) (TypeName ty)))) s) o (enter name (Linked place ty) s)).made.hidden ≡ s.made.hidden
    by None = refl
    by (Some e) = refl

pub declared_same : (name : List ℕ) (token : ℕ) (tag : Option ℕ) (asking : Asking) (ty : QType) (s : State) → Post (declare_linked name token tag asking ty s) (Same s)
unfolding declare_linked bind
declared_same name token tag asking ty s =
    here_same name (place_for s name) ty (note_linked name (is_internal_by s name asking) ty token tag s) ∙ noted_same name (is_internal_by s name asking) ty token tag s

pub changed_same : (place : ℕ) (f : LinkedName → LinkedName) (s : State) → (change_linked place f s).made.hidden ≡ s.made.hidden
changed_same place f s = by (linked_at s place)
  where
    by : (o : Option LinkedName) → (option_map_or (λ l. put_linked place (f l) s) o s).made.hidden ≡ s.made.hidden
    by None = refl
    by (Some l) = refl

slot_same : (place : ℕ) (s : State) → (slot_for place s).made.hidden ≡ s.made.hidden
slot_same place s = by (has_slot s place)
  where
    by : (b : Bool) → (if b then s else add_slot (slot.Named place) s).made.hidden ≡ s.made.hidden
    by true = refl
    by false = refl

defined_same : (place : ℕ) (s : State) → (define_object place s).made.hidden ≡ s.made.hidden
defined_same place s = changed_same place (λ l. record l { defined = true }) (slot_for place s) ∙ slot_same place s

tentative_same : (b : Bool) (place : ℕ) (s : State) → (if b then define_tentatively place s else s).made.hidden ≡ s.made.hidden
tentative_same true place s = changed_same place (λ l. record l { tentative = true }) (slot_for place s) ∙ slot_same place s
tentative_same false place s = refl

-- a change of the state that leaves the objects without a name
pub changed_spends : {B : Type 0} (before behind : ℕ) (s t : State) (w : Walk (B × State)) → t.made.hidden ≡ s.made.hidden → Post w (Spends before behind t) → Post w (Spends before behind s)
changed_spends {B} before behind s t w e h = post_weaken w (Spends before behind t) (Spends before behind s) h (λ r k. from (next_hidden s) (next_hidden t) (next_hidden r.1) (ap (λ (xs : List HiddenObject). length xs) e) k)
  where
    from : (x y u : ℕ) → y ≡ x → u + behind ≤ y + before → u + behind ≤ x + before
    from x y u e k = omega (arith, e, k)

-- ---- objects

one_left : (x n : ℕ) → x + n ≤ x + suc n
one_left x n = omega arith

level : (x y n : ℕ) → y ≡ x → y + n ≤ x + n
level x y n e = omega (arith, e)

global_spends : (w : Word) (b : Specified) (spot : Spot) (q : QType) (o : Option Initializer) (z : List Symbol) (s : State) → Post (global_rule w b spot q o s) (Spends (length (spell_initializer o z)) (length z) s)
unfolding global_rule fitting_rule bind
global_spends w b spot q None z s =
    then_spends (length z) (length z) (length z) s (declare_linked w.text w.token b.tag (asking_of AGlobal b) q s) _ (same_spends (length z) s _ (declared_same w.text w.token b.tag (asking_of AGlobal b) q s)) (λ r.
    level (next_hidden r.1) _ (length z) (ap (λ (xs : List HiddenObject). length xs) (tentative_same (is_tentative b) r.0 r.1)))
global_spends w b spot q (Some i) z s =
    let n = suc (length (spell_init i.init z)) in
    then_spends n n (length z) s (declare_linked w.text w.token b.tag (asking_of AGlobal b) q s) _
    (same_spends n s _ (declared_same w.text w.token b.tag (asking_of AGlobal b) q s)) (λ r.
    let t = define_object r.0 r.1 in
    changed_spends n (length z) r.1 t _ (defined_same r.0 r.1)
    (then_spends n (length z) (length z) t (object_rule (context_of w true 0) (named_type t w.text q) i.init t) _ (object_spends (context_of w true 0) (named_type t w.text q) i.init z t) (λ o met.
    level (next_hidden o.1) _ (length z) (ap (λ (xs : List HiddenObject). length xs) (here_same w.text r.0 o.0.ty (initialise_linked r.0 o.0.ty o.0.filled.items o.1) ∙ changed_same r.0 _ o.1)))))

-- one object more, which is given its bytes later
made_spends : {A : Type 0} (before behind : ℕ) (x : HiddenObject) (s t : State) (w : Walk (A × State)) → t.made.hidden ≡ s.made.hidden ++ x ∷ [] → Post w (Spends before behind t) → Post w (Spends (suc before) behind s)
made_spends {A} before behind x s t w e h =
    post_weaken w (Spends before behind t) (Spends (suc before) behind s) h (λ r k. from (next_hidden r.1) (next_hidden t) (ap (λ (xs : List HiddenObject). length xs) e) (one_more s.made.hidden x before) k)
  where
    from : (u y : ℕ) → y ≡ length (s.made.hidden ++ x ∷ []) → length (s.made.hidden ++ x ∷ []) + before ≤ length s.made.hidden + suc before → u + behind ≤ y + before → u + behind ≤ length s.made.hidden + suc before
    from u y e g k = omega (arith, e, g, k)

put_spends : (n k : ℕ) (x : HiddenObject) (xs : List HiddenObject) → length (put_at k x xs) + n ≤ length xs + n
put_spends n k x xs = let e : length (put_at k x xs) ≡ length xs = length_put k x xs in omega (arith, e)

static_spends : (w : Word) (q : QType) (o : Option Initializer) (z : List Symbol) (s : State) → Post (static_rule w q o s) (Spends (suc (length (spell_initializer o z))) (length z) s)
unfolding static_rule completed_rule bind
static_spends w q None z s = one_more s.made.hidden (hidden_of q [] (not (is_const_object q))) (length z)
static_spends w q (Some i) z s =
    let n = suc (length (spell_init i.init z)) in
    let x = hidden_of q [] (not (is_const_object q)) in
    let t = enter w.text (StaticObject (next_hidden s) q) (add_hidden x s) in
    made_spends n (length z) x s t _ refl
    (then_spends n (length z) (length z) t (object_rule (context_of w true (next_hidden s)) q i.init t) _ (object_spends (context_of w true (next_hidden s)) q i.init z t) (λ r met. put_spends (length z) (next_hidden s) _ r.1.made.hidden))

initialiser_spends : (b : Bool) (w : Word) (k : ℕ) (q : QType) (i : Init) (z : List Symbol) (s : State) → Post (local_initialiser b w k q i s) (Spends (suc (suc (length (spell_init i z)))) (length z) s)
unfolding local_initialiser bytes_rule single_rule completed_rule bind
initialiser_spends true w k q i z s =
    let n = suc (length (spell_init i z)) in
    let x = hidden_of q [] false in
    let t = add_hidden x s in
    made_spends n (length z) x s t _ refl
    (then_spends n (length z) (length z) t (object_rule (context_of w true (next_hidden s)) q i t) _ (object_spends (context_of w true (next_hidden s)) q i z t) (λ r met. put_spends (length z) (next_hidden s) _ r.1.made.hidden))
initialiser_spends false w k q i z s =
    token_before (suc (length (spell_init i z))) (length z) s _
    (then_spends (suc (length (spell_init i z))) (length z) (length z) s (object_rule (context_of w false 0) q i s) _ (object_spends (context_of w false 0) q i z s) (λ r. stays (next_hidden r.1) (length z)))

local_spends : (w : Word) (b : Specified) (q : QType) (o : Option Initializer) (z : List Symbol) (s : State) → Post (local_rule w b q o s) (Spends (suc (length (spell_initializer o z))) (length z) s)
unfolding local_rule bind
local_spends w b q None z s = one_left (next_hidden s) (length z)
local_spends w b q (Some i) z s =
    let n = suc (suc (length (spell_init i.init z))) in
    let t = enter w.text (LocalObject (next_local s) q (is_register b.storage)) (add_local (local_of w q) s) in
    then_spends n (length z) (length z) t (local_initialiser (is_by_bytes (type_of q) i.init) w (next_local s) q i.init t) _
    (initialiser_spends (is_by_bytes (type_of q) i.init) w (next_local s) q i.init z t) (λ r. stays (next_hidden r.1) (length z))

-- ---- declarations

-- what cannot have an initialiser: a typedef name, a function, and what a block declares `extern`
abbrev MayHave : Sort → Bool → Type 0
MayHave ATypedef initialised = initialised ≡ false
MayHave AFunction initialised = initialised ≡ false
MayHave AnExtern initialised = initialised ≡ false
MayHave AGlobal initialised = Unit {0}
MayHave AStatic initialised = Unit {0}
MayHave ALocal initialised = Unit {0}

unset : (b : Bool) → not (not b) ≡ false → b ≡ false
unset true e = absurd cc
unset false e = refl

name_asks : (sort : Sort) (spot : Spot) (w : Word) (initialised : Bool) (b : Specified) (q : QType) (s : State) → Post (name_rule sort spot w initialised b q s) (λ r. Still s r × MayHave sort initialised)
unfolding name_rule bind
name_asks ATypedef spot w initialised b q s = λ met. (refl, unset initialised met.1.0)
name_asks AFunction spot w initialised b q s = λ met. (refl, unset initialised met.1.1.1.1.0)
name_asks AnExtern spot w initialised b q s = λ met. (refl, unset initialised met.1.1.1.0)
name_asks AGlobal spot w initialised b q s = λ met. (refl, tt)
name_asks AStatic spot w initialised b q s = λ met. (refl, tt)
name_asks ALocal spot w initialised b q s = λ met. (refl, tt)

never : true ≡ false → ⊥
never e = cc

linked_spends : (name : List ℕ) (token : ℕ) (tag : Option ℕ) (asking : Asking) (q : QType) (n : ℕ) (s : State)
    → Post {A = List Initialiser × State} (bind (declare_linked name token tag asking q s) (λ r. Done ([], r.1))) (Spends (suc n) n s)
linked_spends name token tag asking q n s =
    token_before n n s _ (then_spends n n n s (declare_linked name token tag asking q s) _ (same_spends n s _ (declared_same name token tag asking q s)) (λ r. stays (next_hidden r.1) n))

declare_spends : (sort : Sort) (w : Word) (b : Specified) (spot : Spot) (q : QType) (o : Option Initializer) (z : List Symbol) (s : State) → MayHave sort (is_some o) → Post (declare_rule sort w b spot q o s) (Spends (suc (length (spell_initializer o z))) (length z) s)
unfolding declare_rule bind
declare_spends ATypedef w b spot q None z s h = one_left (next_hidden s) (length z)
declare_spends ATypedef w b spot q (Some i) z s h = absurd (never h)
declare_spends AFunction w b spot q None z s h = linked_spends w.text w.token b.tag (asking_of AFunction b) q (length z) s
declare_spends AFunction w b spot q (Some i) z s h = absurd (never h)
declare_spends AnExtern w b spot q None z s h = linked_spends w.text w.token b.tag AsBefore q (length z) s
declare_spends AnExtern w b spot q (Some i) z s h = absurd (never h)
declare_spends AGlobal w b spot q o z s h = token_before (length (spell_initializer o z)) (length z) s _ (global_spends w b spot q o z s)
declare_spends AStatic w b spot q o z s h = static_spends w q o z s
declare_spends ALocal w b spot q o z s h = local_spends w b q o z s

both_more : {A : Type 0} (before behind : ℕ) (s : State) (w : Walk (A × State)) → Post w (Spends before behind s) → Post w (Spends (suc before) (suc behind) s)
both_more {A} before behind s w h = wider_spends before behind (suc before) (suc behind) s w (omega arith) h

pub both_less : {A : Type 0} (before behind : ℕ) (s : State) (w : Walk (A × State)) → Post w (Spends (suc before) (suc behind) s) → Post w (Spends before behind s)
both_less {A} before behind s w h = wider_spends (suc before) (suc behind) before behind s w (omega arith) h

init_declarator_spends : (b : Specified) (d : InitDeclarator) (z : List Symbol) (s : State) → Post (init_declarator_rule b d s) (Spends (suc (length (spell_declarator d.declarator (spell_initializer d.initializer z)))) (length z) s)
unfolding init_declarator_rule
init_declarator_spends b d z s =
    let n = suc (length (spell_initializer d.initializer z)) in
    then_spends (suc (length (spell_declarator d.declarator (spell_initializer d.initializer z)))) n (length z) s (declarator_rule d.declarator s) _
    (both_more (length (spell_declarator d.declarator (spell_initializer d.initializer z))) (length (spell_initializer d.initializer z)) s _ (declarator_spends d.declarator (spell_initializer d.initializer z) s)) (λ c.
    then_spends n n (length z) c.1 (built (spot_of c.0.name b.first b.tag) c.0.derivations b.ty c.1) _ (still_spends n c.1 _ (built_still (spot_of c.0.name b.first b.tag) c.0.derivations b.ty c.1)) (λ q.
    asked_post q.1 (sort_of (is_file_scope q.1) b q.0) _ (Spends n (length z) q.1)
    (post_bind (name_rule (sort_of (is_file_scope q.1) b q.0) (spot_of c.0.name b.first b.tag) (name_of c.0) (is_some d.initializer) b q.0 q.1) _
    (λ r. Still q.1 r × MayHave (sort_of (is_file_scope q.1) b q.0) (is_some d.initializer)) (Spends n (length z) q.1)
    (name_asks (sort_of (is_file_scope q.1) b q.0) (spot_of c.0.name b.first b.tag) (name_of c.0) (is_some d.initializer) b q.0 q.1) (λ r h.
    changed_spends n (length z) q.1 r.1 _ (ap (λ (t : State). t.made.hidden) h.0)
    (declare_spends (sort_of (is_file_scope q.1) b q.0) (name_of c.0) b (spot_of c.0.name b.first b.tag) q.0 d.initializer z r.1 h.1)))))

init_declarators_spends : (first : Bool) (b : Specified) (ds : List InitDeclarator) (z : List Symbol) (s : State) → Post (init_declarators_rule b ds s) (Spends (with_lead first (length (spell_init_declarators first ds z))) (length z) s)
unfolding init_declarators_rule
init_declarators_spends first b [] z s = no_item first (next_hidden s) (length z)
init_declarators_spends first b (d ∷ rest) z s =
    item_before _ first _ s _ (then_spends _ _ _ s _ _ (init_declarator_spends b d (spell_init_declarators false rest z) s) (λ r. then_spends _ _ _ r.1 _ _ (init_declarators_spends false b rest z r.1) (λ u. stays (next_hidden u.1) (length z))))

pub specified_spends : (specifiers : Specifiers) (z : List Symbol) (first : ℕ) (s : State) → Post (specified_rule specifiers first s) (Spends (length (spell_specifiers specifiers z)) (length z) s)
unfolding specified_rule
specified_spends specifiers z first s = then_spends _ _ _ s _ _ (specifiers_spends specifiers z first nothing_gathered s) (λ r. still_spends _ r.1 _ (specified_still first r.0 r.1))

alone_by_same : (kind : RecordKind) (w : Word) (o : Option Tag) (s : State) → Post (alone_by kind w o s) (Same s)
unfolding alone_by
alone_by_same kind w None s = then_same s (new_tag kind w s) _ (left_same s _ (new_tag_untouched kind w s)) (λ r. refl)
alone_by_same kind w (Some tag) s = then_same s (reference_by kind w (Some tag) s) _ (left_same s _ (reference_by_untouched kind w (Some tag) s)) (λ r. refl)

alone_same : (kind : RecordKind) (w : Word) (s : State) → Post (alone_rule kind w s) (Same s)
unfolding alone_rule bind
alone_same kind w s = alone_by_same kind w (tag_here s w.text) s

bare_listed : (specifiers : Specifiers) (z : List Symbol) (s : State)
    → Post {A = List Initialiser × State} (bind (specified_rule specifiers (first_of_list specifiers) s) (λ t. bind (bind (storage_rule t.0 t.1) (λ u. meets (needs DeclaresSomething t.0.first (declares_something specifiers) ∷ []) u.1)) (λ u. Done ([], u.1)))) (Spends (length (spell_specifiers specifiers z)) (length z) s)
unfolding storage_rule bind
bare_listed specifiers z s =
    then_spends (length (spell_specifiers specifiers z)) (length z) (length z) s (specified_rule specifiers (first_of_list specifiers) s) _ (specified_spends specifiers z (first_of_list specifiers) s) (λ r met more. stays (next_hidden r.1) (length z))

bare_spends : (specifiers : Specifiers) (z : List Symbol) (s : State) → Post (bare_rule specifiers s) (Spends (length (spell_specifiers specifiers z)) (length z) s)
unfolding bare_rule spell_specifiers
bare_spends (S.RecordTag t kind w S.NoSpecifier) z s =
    token_before (suc (length z)) (length z) s _ (token_before (length z) (length z) s _
    (then_spends (length z) (length z) (length z) s (alone_rule (record_kind kind) w s) _ (same_spends (length z) s _ (alone_same (record_kind kind) w s)) (λ r. stays (next_hidden r.1) (length z))))
bare_spends specifiers z s = bare_listed specifiers z s

declarators_spends : (specifiers : Specifiers) (ds : List InitDeclarator) (x : Symbol) (z : List Symbol) (s : State) → Post (declarators_rule specifiers ds s) (Spends (length (spell_specifiers specifiers (spell_init_declarators true ds (x ∷ z)))) (length z) s)
unfolding declarators_rule
declarators_spends specifiers [] x z s = token_behind (length (spell_specifiers specifiers (x ∷ z))) (length z) s _ (bare_spends specifiers (x ∷ z) s)
declarators_spends specifiers (d ∷ rest) x z s =
    let n = length (spell_init_declarators true (d ∷ rest) (x ∷ z)) in
    then_spends (length (spell_specifiers specifiers (spell_init_declarators true (d ∷ rest) (x ∷ z)))) n (length z) s (specified_rule specifiers (first_of_list specifiers) s) _
    (specified_spends specifiers (spell_init_declarators true (d ∷ rest) (x ∷ z)) (first_of_list specifiers) s) (λ r.
    then_spends n n (length z) r.1 (storage_rule r.0 r.1) _ (still_spends n r.1 _ (declared_storage_still r.0 r.1)) (λ u.
    both_less n (length z) u.1 _ (init_declarators_spends true r.0 (d ∷ rest) (x ∷ z) u.1)))

pub decl_spends : (d : Decl) (z : List Symbol) (s : State) → Post (decl_rule d s) (Spends (length (spell_decl d z)) (length z) s)
unfolding decl_rule
decl_spends d z s = declarators_spends d.specifiers d.declarators _ z s

pub decls_spends : (ds : List Decl) (z : List Symbol) (s : State) → Post (decls_rule ds s) (Spends (length (spell_decls ds z)) (length z) s)
unfolding decls_rule
decls_spends [] z s = stays (next_hidden s) (length z)
decls_spends (d ∷ rest) z s = then_spends _ _ _ s _ _ (decl_spends d (spell_decls rest z) s) (λ r. then_spends _ _ _ r.1 _ _ (decls_spends rest z r.1) (λ u. stays (next_hidden u.1) (length z)))
