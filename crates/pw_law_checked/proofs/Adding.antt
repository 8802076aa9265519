-- Declarations: what they add to a function is locals, and each initialiser is for one of those.
use Rattle.std.specs.Prelude.{ℕ, zero, suc, ◌≡◌, ◌<◌, ◌≤◌, ◌⊎◌, ◌==◌, Bool, true, false, not, Option, None, Some, is_some, unwrap_or, List, [], ◌∷◌, ◌++◌, length, slice_get, if◌then◌else◌, All, Contains, refl}
use Rattle.std.specs.Option.{option_map_or}
use Rattle.std.proofs.Common.{arith, ap, sym, subst, ◌∙◌, inl, inr}
use Rattle.std.proofs.lemmas.List.Elements.{All-nil, All-cons, All-head, All-tail, All-append, All-weaker}
use Rattle.std.proofs.lemmas.Option.{slice_get-get_or}
use Rattle.pw_tree.specs.Trees.{Word, Decl, InitDeclarator, Initializer, Init, Specifiers}
use Rattle.pw_tree.specs.Trees as S
use Rattle.pw_types.specs.declared.record.RecordKind.{RecordKind}
use Rattle.pw_types.specs.TypeTrees.{QType, type_of}
use Rattle.pw_types.specs.TypedTrees.{Hidden, Expression, Initialiser, LocalValue, GlobalValue, ModuleValue}
use Rattle.pw_types.specs.TypedTrees as T
use Rattle.pw_types.specs.WellTyped.{IsTyped, type_in}
use Rattle.pw_check_walk.specs.Causes.{needs, DeclaresSomething}
use Rattle.pw_check_walk.specs.Walks.{Walk, Done, bind, meets}
use Rattle.pw_check_rules.specs.Declarations.{Sort, ATypedef, AFunction, AGlobal, AnExtern, AStatic, ALocal, sort_of, asking_of, name_rule, hidden_of, local_of, is_tentative, completed_rule, fitting_rule, context_of, global_rule, static_rule, first_part, bytes_rule, single_rule, local_initialiser, local_rule, declare_rule, name_of, place_here, init_declarator_rule, init_declarators_rule, storage_rule, declares_something, specified_rule, bare_rule, declarators_rule, decl_rule, decls_rule}
use Rattle.pw_check_rules.specs.Derivations.{spot_of}
use Rattle.pw_check_rules.specs.Initialisers.{object_rule, is_by_bytes}
use Rattle.pw_check_rules.specs.Kinds.{is_const_object, is_function}
use Rattle.pw_check_rules.specs.Leaves.{alone_by, alone_rule, record_kind, first_of_list}
use Rattle.pw_check_rules.specs.Limits.{Spot}
use Rattle.pw_check_rules.specs.Linkage.{Asking, AsBefore, declare_linked, note_linked, note_here, linked_before, place_for, linked_again, linked_anew, is_internal_by, type_here, change_linked, slot_for, has_slot, define_tentatively, define_object, initialise_linked, named_type}
use Rattle.pw_check_rules.specs.SpecifierLists.{Specified, nothing_gathered, is_typedef, is_extern, is_static, is_register}
use Rattle.pw_check_rules.specs.States.{State, BodyState, LinkedName, Entity, TypeName, LocalObject, StaticObject, Linked, HiddenObject, is_file_scope, add_hidden, put_hidden, add_local, put_entity, put_linked, add_linked, add_slot, enter, put_at, next_hidden, next_local, entry_here, entity_here, linked_at, tag_here}
use Rattle.pw_check_rules.specs.declared.names.Entry.{Entry}
use Rattle.pw_check_rules.specs.declared.names.Slot.TheVariants as slot
use Rattle.pw_check_rules.specs.declared.names.Tag.{Tag}
use Rattle.pw_law_checked.specs.Lawful.{IsLawful, IsLawfulType, IsObjectLike, IsLawfulTag, Extends, StandsFor, Denotes}
use Rattle.pw_law_checked.specs.Words.{HasWords}
use Rattle.pw_law_checked.proofs.Walking.{Post, post_bind, post_weaken, post_both}
use Rattle.pw_law_checked.proofs.Lists.{Longer, some_same, get_append, get_last, get_within, put_same, put_either, length_put}
use Rattle.pw_law_checked.proofs.Types.{no, lawful_later}
use Rattle.pw_law_checked.proofs.States.{Runs, goes_on, Grows, grows_same, grows_trans, stands_back, IsAny, Raises, raises_so}
use Rattle.pw_law_checked.proofs.Changes.{hidden_added, hidden_grows, entered}
use Rattle.pw_law_checked.proofs.Leaves.{Nothing, GoodType, GoodGathered, GoodSpecified, GoodDeclared, GoodReference, Fresh, specified_runs, built_runs, reference_by_runs, new_tag_runs, tag_here_lawful}
use Rattle.pw_law_checked.proofs.Phrases.{specifiers_post, declarator_post}
use Rattle.pw_law_checked.proofs.Locals.{IsPlaced, ArePlaced, placed_longer, longer_put, longer_same, grows_placed, entered_placed, put_placed, place_of_new, local_entered, local_completed, local_placed, completed_placed}
use Rattle.pw_law_checked.proofs.Filling.{IsTypedAs, AreTypedAs, object_runs, runs_whatever}
use Rattle.pw_law_checked.proofs.Sound.{Sound}
use Rattle.pw_law_checked.proofs.Backward.{Names, names_back}
use Rattle.pw_law_checked.proofs.Keeping.{After, Goes, around, defined_kept, Anything}
use Rattle.pw_law_checked.proofs.Declaring.{declared_lawful, refilled_sound}
use Rattle.pw_law_checked.proofs.Composite.{Covers, covers_same}
use Rattle.pw_law_checked.proofs.Initialisers.{object_keeps, covers_stays}
use Rattle.pw_law_checked.proofs.Declarations.{Fits, sort_fits, init_declarator_goes, init_declarators_goes, decl_goes, decls_goes}

-- ---- what a module's end has of a state

-- the hidden object of the number has the type
abbrev pub IsOwned : ModuleValue → ℕ → QType → Type 0
IsOwned m k ty = (g : GlobalValue) × Contains m.globals g × (g.name ≡ Hidden k) × (g.ty ≡ ty)

-- what the state knows of objects and locals, the module and the function have at their ends
pub record Final (t : State) (m : ModuleValue) (locals : List LocalValue) : Type 0 where
  pub names : Names t m
  pub owned : (k : ℕ) (h : HiddenObject) → slice_get t.made.hidden k ≡ Some h → IsOwned m k h.ty
  pub locals_are : Longer t.body.locals locals

-- its names have their entities and locals, its parts agree, and it is in no operand of `sizeof`
pub record IsReady (s : State) : Type 0 where
  pub placed : ArePlaced s
  pub counting : s.made.counting ≡ true
  pub sound : Sound None s

-- what a later state denotes, an earlier one denotes
pub final_back : {s t : State} {m : ModuleValue} {locals : List LocalValue} → After s t → IsReady s → Longer s.body.locals t.body.locals → Longer s.made.hidden t.made.hidden
    → Final t m locals → Final s m locals
final_back {s} {t} {m} {locals} a ready more hidden f = record {
  names = names_back m a ready.sound f.names;
  owned = λ k h e. f.owned k h (hidden k h e);
  locals_are = λ i x e. f.locals_are i x (more i x e);
}

placed_locals : (s : State) (locals : List LocalValue) → ArePlaced s → Longer s.body.locals locals → (i : ℕ) (e : List ℕ × Entry) (k : ℕ) (q : QType) (register : Bool)
    → slice_get s.scopes.ordinary i ≡ Some e → slice_get s.scopes.entities e.1.place ≡ Some (LocalObject k q register) → Rattle.pw_law_checked.specs.Lawful.HasLocal locals k q
placed_locals s locals p more i e k q register h f =
    let x = p i e h in
    (placed_longer s.body.locals locals more e.1.depth (LocalObject k q register) (subst (IsPlaced s.body.locals e.1.depth) (some_same (sym x.1 ∙ f)) x.2)).0

pub denotes_final : (s : State) (m : ModuleValue) (locals : List LocalValue) → Names s m → ArePlaced s → s.made.counting ≡ true → Longer s.body.locals locals → Denotes s m locals
denotes_final s m locals n p c more = record {
  counting = c;
  records = n.records;
  strings = n.strings;
  entities = n.entities;
  locals_are = placed_locals s locals p more;
}

-- ---- what declarations add

abbrev with_locals : List LocalValue → BodyState → BodyState
with_locals locals b = record b { locals = locals }

pub record Adds (s t : State) : Type 0 where
  pub placed : ArePlaced s → ArePlaced t
  pub depth : t.scopes.depth ≡ s.scopes.depth
  pub locals : Longer s.body.locals t.body.locals
  pub counting : t.made.counting ≡ s.made.counting
  pub hidden : Longer s.made.hidden t.made.hidden
  pub steady : t.body ≡ record s.body { locals = t.body.locals }

pub adds_same : (s : State) → Adds s s
adds_same s = record { placed = λ p. p; depth = refl; locals = longer_same s.body.locals; counting = refl; hidden = longer_same s.made.hidden; steady = refl }

pub adds_trans : {s t u : State} → Adds s t → Adds t u → Adds s u
adds_trans {s} {t} {u} a b = record {
  placed = λ p. b.placed (a.placed p);
  depth = b.depth ∙ a.depth;
  locals = λ i x e. b.locals i x (a.locals i x e);
  counting = b.counting ∙ a.counting;
  hidden = λ i x e. b.hidden i x (a.hidden i x e);
  steady = b.steady ∙ ap (with_locals u.body.locals) a.steady;
}

pub adds_grows : {s t : State} → Grows s t → Adds s t
adds_grows {s} {t} g = record {
  placed = grows_placed g;
  depth = g.depth;
  locals = λ i x e. subst (λ b. slice_get b.locals i ≡ Some x) (sym g.body) e;
  counting = g.counting;
  hidden = g.hidden;
  steady = subst (λ b. b ≡ record s.body { locals = b.locals }) (sym g.body) refl;
}

pub ready_adds : {s t : State} → After s t → Adds s t → IsReady s → IsReady t
ready_adds {s} {t} x a r = record { placed = a.placed r.placed; counting = a.counting ∙ r.counting; sound = x.sound r.sound }

-- a rule that only grows, and then one that adds
grows_first : {A B : Type 0} {s : State} (w : Walk (A × State)) (next : A × State → Walk (B × State)) (Good : State → A → Type 0) (P : B → State → Type 0) → Runs s w Good
    → ((r : A × State) → IsLawful r.1 → Grows s r.1 → Good r.1 r.0 → Post (next r) (λ u. Adds r.1 u.1 × P u.0 u.1)) → Post (bind w next) (λ u. Adds s u.1 × P u.0 u.1)
grows_first {A} {B} {s} w next Good P h k =
    post_bind w next (λ r. IsLawful r.1 × Grows s r.1 × Good r.1 r.0) (λ u. Adds s u.1 × P u.0 u.1) h
    (λ r g. post_weaken (next r) (λ u. Adds r.1 u.1 × P u.0 u.1) (λ u. Adds s u.1 × P u.0 u.1) (k r g.0 g.1 g.2) (λ u f. (adds_trans (adds_grows g.1) f.0, f.1)))

-- ---- names with linkage

linked_put_adds : (s : State) (place : ℕ) (x : LinkedName) → Adds s (put_linked place x s)
linked_put_adds s place x = record { placed = λ p. p; depth = refl; locals = longer_same s.body.locals; counting = refl; hidden = longer_same s.made.hidden; steady = refl }

noted_adds : (s : State) (name : List ℕ) (internal : Bool) (q : QType) (token : ℕ) (tag : Option ℕ) → Adds s (note_linked name internal q token tag s)
noted_adds s name internal q token tag = by (linked_before s name)
  where
    by : (o : Option LinkedName) → Adds s (option_map_or (λ x. put_linked (place_for s name) (linked_again q x) s) o (add_linked (linked_anew name internal q token tag) s))
    by None = record { placed = λ p. p; depth = refl; locals = longer_same s.body.locals; counting = refl; hidden = longer_same s.made.hidden; steady = refl }
    by (Some x) = linked_put_adds s (place_for s name) (linked_again q x)

here_adds : (s : State) (name : List ℕ) (place : ℕ) (q : QType) → Adds s (note_here name place q s)
here_adds s name place q = by (entry_here s name)
  where
    by : (o : Option Entry) → Adds s (option_map_or (λ (e : Entry). put_entity e.place (Linked place (type_here q (unwrap_or (entity_here s name) (TypeName q)))) s) o (enter name (Linked place q) s))
    by None = record { placed = λ p. entered_placed s name (Linked place q) p tt; depth = refl; locals = longer_same s.body.locals; counting = refl; hidden = longer_same s.made.hidden; steady = refl }
    by (Some e) = record {
      placed = λ p. put_placed s e.place (Linked place (type_here q (unwrap_or (entity_here s name) (TypeName q)))) p (λ d. tt);
      depth = refl;
      locals = longer_same s.body.locals;
      counting = refl;
      hidden = longer_same s.made.hidden;
      steady = refl;
    }

abbrev pub noted_state : State → List ℕ → ℕ → Option ℕ → Asking → QType → State
noted_state s name token tag asking q = note_here name (place_for s name) q (note_linked name (is_internal_by s name asking) q token tag s)

pub declared_adds : (s : State) (name : List ℕ) (token : ℕ) (tag : Option ℕ) (asking : Asking) (q : QType) → Adds s (noted_state s name token tag asking q)
declared_adds s name token tag asking q =
    adds_trans (noted_adds s name (is_internal_by s name asking) q token tag) (here_adds (note_linked name (is_internal_by s name asking) q token tag s) name (place_for s name) q)

pub changed_adds : (s : State) (place : ℕ) (f : LinkedName → LinkedName) → Adds s (change_linked place f s)
changed_adds s place f = by (linked_at s place)
  where
    by : (o : Option LinkedName) → Adds s (option_map_or (λ x. put_linked place (f x) s) o s)
    by None = adds_same s
    by (Some x) = linked_put_adds s place (f x)

slot_adds : (s : State) (place : ℕ) → Adds s (slot_for place s)
slot_adds s place = by (has_slot s place)
  where
    by : (b : Bool) → Adds s (if b then s else add_slot (slot.Named place) s)
    by true = adds_same s
    by false = record { placed = λ p. p; depth = refl; locals = longer_same s.body.locals; counting = refl; hidden = longer_same s.made.hidden; steady = refl }

tentative_adds : (s : State) (place : ℕ) (b : Bool) → Adds s (if b then define_tentatively place s else s)
tentative_adds s place true = adds_trans (slot_adds s place) (changed_adds (slot_for place s) place (λ x. record x { tentative = true }))
tentative_adds s place false = adds_same s

defined_adds : (s : State) (place : ℕ) → Adds s (define_object place s)
defined_adds s place = adds_trans (slot_adds s place) (changed_adds (slot_for place s) place (λ x. record x { defined = true }))

-- declarations that have no initialisers of locals
abbrev AddsNone : State → List Initialiser × State → Type 0
AddsNone s r = Adds s r.1 × (r.0 ≡ [])

global_adds : (s : State) (w : Word) (b : Specified) (spot : Spot) (q : QType) (i : Option Initializer) → IsLawful s → IsLawfulType s.types.records (type_of q) → Post (global_rule w b spot q i s) (AddsNone s)
unfolding global_rule declare_linked fitting_rule bind
global_adds s w b spot q None l h = (
  adds_trans (declared_adds s w.text w.token b.tag (asking_of AGlobal b) q) (tentative_adds (noted_state s w.text w.token b.tag (asking_of AGlobal b) q) (place_for s w.text) (is_tentative b)),
  refl,
)
global_adds s w b spot q (Some i) l h =
    let at : State = noted_state s w.text w.token b.tag (asking_of AGlobal b) q in
    let lawful : IsLawful (noted_state s w.text w.token b.tag (asking_of AGlobal b) q) = declared_lawful s w.text w.token b.tag (asking_of AGlobal b) q l h in
    post_bind (object_rule (context_of w true 0) (named_type (define_object (place_for s w.text) (noted_state s w.text w.token b.tag (asking_of AGlobal b) q)) w.text q) i.init (define_object (place_for s w.text) (noted_state s w.text w.token b.tag (asking_of AGlobal b) q)))
    _ (λ r. IsLawful r.1 × Grows (define_object (place_for s w.text) (noted_state s w.text w.token b.tag (asking_of AGlobal b) q)) r.1 × Unit {0}) (AddsNone s)
    (runs_whatever _ _ _ (object_runs (define_object (place_for s w.text) (noted_state s w.text w.token b.tag (asking_of AGlobal b) q)) (context_of w true 0) (named_type (define_object (place_for s w.text) (noted_state s w.text w.token b.tag (asking_of AGlobal b) q)) w.text q) i.init (defined_kept at (place_for s w.text) lawful).0))
    (λ r g met. (
      adds_trans (declared_adds s w.text w.token b.tag (asking_of AGlobal b) q)
          (adds_trans (defined_adds at (place_for s w.text))
          (adds_trans (adds_grows g.1)
          (adds_trans (changed_adds r.1 (place_for s w.text) (λ x. record x { ty = Rattle.pw_check_rules.specs.Compatible.composite x.ty r.0.ty; items = r.0.filled.items }))
          (here_adds (initialise_linked (place_for s w.text) r.0.ty r.0.filled.items r.1) w.text (place_for s w.text) r.0.ty)))),
      refl,
    ))

-- ---- static locals

static_adds : (s : State) (w : Word) (q : QType) (i : Option Initializer) → IsLawful s → IsObjectLike s.types.records q → Post (static_rule w q i s) (AddsNone s)
unfolding static_rule completed_rule bind
static_adds s w q None l h = (
  record {
    placed = λ p. entered_placed (add_hidden (hidden_of q [] (not (is_const_object q))) s) w.text (StaticObject (next_hidden s) q) p tt;
    depth = refl;
    locals = longer_same s.body.locals;
    counting = refl;
    hidden = λ k x e. get_append s.made.hidden (hidden_of q [] (not (is_const_object q)) ∷ []) k x e;
    steady = refl;
  },
  refl,
)
static_adds s w q (Some i) l h =
    let at : State = enter w.text (StaticObject (next_hidden s) q) (add_hidden (hidden_of q [] (not (is_const_object q))) s) in
    post_bind (object_rule (context_of w true (next_hidden s)) q i.init (enter w.text (StaticObject (next_hidden s) q) (add_hidden (hidden_of q [] (not (is_const_object q))) s)))
    _ (λ r. IsLawful r.1 × Grows (enter w.text (StaticObject (next_hidden s) q) (add_hidden (hidden_of q [] (not (is_const_object q))) s)) r.1 × Unit {0}) (AddsNone s)
    (runs_whatever _ _ _
    (object_runs (enter w.text (StaticObject (next_hidden s) q) (add_hidden (hidden_of q [] (not (is_const_object q))) s)) (context_of w true (next_hidden s)) q i.init
    (entered (add_hidden (hidden_of q [] (not (is_const_object q))) s) w.text (StaticObject (next_hidden s) q) (hidden_added s (hidden_of q [] (not (is_const_object q))) l) h)))
    (λ r g met. (
      record {
        placed = λ p.
            put_placed r.1 (place_here at w.text) (StaticObject (next_hidden s) r.0.ty)
            (grows_placed g.1 (entered_placed (add_hidden (hidden_of q [] (not (is_const_object q))) s) w.text (StaticObject (next_hidden s) q) p tt)) (λ d. tt);
        depth = g.1.depth;
        locals = λ k x e. subst (λ b. slice_get b.locals k ≡ Some x) (sym g.1.body) e;
        counting = g.1.counting;
        hidden = longer_put s.made.hidden r.1.made.hidden (hidden_of r.0.ty r.0.filled.items (not (is_const_object q)))
            (λ k x e. g.1.hidden k x (get_append s.made.hidden (hidden_of q [] (not (is_const_object q)) ∷ []) k x e));
        steady = subst (λ b. b ≡ record s.body { locals = b.locals }) (sym g.1.body) refl;
      },
      refl,
    ))

-- ---- initialisers of locals

-- an initialiser of the local at the place, which gets this type
abbrev Makes : State → ℕ → QType → QType → Initialiser → Type 0
Makes t k q ty (T.Value j e) = (j ≡ k) × (ty ≡ q) × IsTypedAs t (type_of q) e
Makes t k q ty (T.Bytes j h parts) = (j ≡ k) × ((x : HiddenObject) × (slice_get t.made.hidden h ≡ Some x) × (x.ty ≡ ty))

hidden_put_grows : {s u : State} (x y : HiddenObject) → slice_get u.made.hidden (length s.made.hidden) ≡ Some y → Covers x.ty y.ty → Raises s u → Raises s (put_hidden (length s.made.hidden) x u)
hidden_put_grows {s} {u} x y at covers g = record {
  here = g.here;
  sound = λ p h. refilled_sound p u (length s.made.hidden) x y at covers (g.sound p h);
  extends = g.extends;
  begun = g.begun;
  linked = g.linked;
  entities = g.entities;
  depth = g.depth;
  more = g.more;
  ordinary = g.ordinary;
  deep = g.deep;
  entered = g.entered;
  hidden = longer_put s.made.hidden u.made.hidden x g.hidden;
  objects = λ k h e. inr tt;
  counting = g.counting;
  body = g.body;
  functions = g.functions;
}

-- what makes objects of any sort
abbrev Prepares : State → Walk ((QType × List Initialiser) × State) → (State → QType × List Initialiser → Type 0) → Type 0
Prepares s w Good = Post w (λ r. IsLawful r.1 × Raises s r.1 × Good r.1 r.0)

bytes_runs : (s : State) (w : Word) (k : ℕ) (q : QType) (i : Init) → IsLawful s → Prepares s (bytes_rule w k q i s) (λ t r. All (Makes t k q r.0) r.1)
unfolding bytes_rule completed_rule bind
bytes_runs s w k q i l =
    post_bind (object_rule (context_of w true (next_hidden s)) q i (add_hidden (hidden_of q [] false) s))
    _ (λ r. (IsLawful r.1 × Grows (add_hidden (hidden_of q [] false) s) r.1 × Unit {0}) × (IsLawful r.1 × After (add_hidden (hidden_of q [] false) s) r.1 × Covers r.0.ty q))
    (λ r. IsLawful r.1 × Raises s r.1 × All (Makes r.1 k q r.0.0) r.0.1)
    (post_both _ _ _ (runs_whatever _ _ _ (object_runs (add_hidden (hidden_of q [] false) s) (context_of w true (next_hidden s)) q i (hidden_added s (hidden_of q [] false) l)))
    (object_keeps (λ x t. Covers t q) (covers_stays q) (add_hidden (hidden_of q [] false) s) (context_of w true (next_hidden s)) q i (hidden_added s (hidden_of q [] false) l) (covers_same q)))
    (λ r both met.
    let g = both.0 in (
      (around r.1 (put_hidden (next_hidden s) (hidden_of r.0.ty r.0.filled.items false) r.1).made r.1.body g.0 refl).0,
      hidden_put_grows (hidden_of r.0.ty r.0.filled.items false) (hidden_of q [] false)
          (g.1.hidden (next_hidden s) (hidden_of q [] false) (get_last s.made.hidden (hidden_of q [] false))) both.1.2 (grows_trans (hidden_grows IsAny s (hidden_of q [] false) tt) (raises_so g.1)),
      All-cons (Makes (put_hidden (next_hidden s) (hidden_of r.0.ty r.0.filled.items false) r.1) k q r.0.ty) (T.Bytes k (next_hidden s) r.0.filled.parts) [] (
        refl,
        (
          hidden_of r.0.ty r.0.filled.items false,
          put_same (next_hidden s) (hidden_of r.0.ty r.0.filled.items false) r.1.made.hidden
              (get_within r.1.made.hidden (next_hidden s) (hidden_of q [] false) (g.1.hidden (next_hidden s) (hidden_of q [] false) (get_last s.made.hidden (hidden_of q [] false)))),
          refl,
        ),
      ) (All-nil (Makes (put_hidden (next_hidden s) (hidden_of r.0.ty r.0.filled.items false) r.1) k q r.0.ty)),
    ))

first_made : (t : State) (k : ℕ) (q : QType) (es : List Expression) → AreTypedAs t (type_of q) es → All (Makes t k q q) (first_part es [] (λ e. T.Value k e))
first_made t k q [] h = All-nil (Makes t k q q)
first_made t k q (e ∷ es) h = All-cons (Makes t k q q) (T.Value k e) [] (refl, refl, h 0 e refl) (All-nil (Makes t k q q))

single_runs : (s : State) (w : Word) (k : ℕ) (q : QType) (i : Init) → IsLawful s → is_by_bytes (type_of q) i ≡ false → IsLawfulType s.types.records (type_of q)
    → Prepares s (single_rule w k q i s) (λ t r. All (Makes t k q r.0) r.1)
unfolding single_rule bind
single_runs s w k q i l single lawful =
    post_bind (object_rule (context_of w false 0) q i s)
    _ (λ r. IsLawful r.1 × Grows s r.1 × (is_by_bytes (type_of q) i ≡ false → IsLawfulType s.types.records (type_of q) → AreTypedAs r.1 (type_of q) r.0.filled.parts))
    (λ r. IsLawful r.1 × Raises s r.1 × All (Makes r.1 k q r.0.0) r.0.1)
    (object_runs s (context_of w false 0) q i l) (λ r g. (g.0, raises_so g.1, first_made r.1 k q r.0.filled.parts (g.2 single lawful)))

initialiser_runs : (s : State) (b : Bool) (w : Word) (k : ℕ) (q : QType) (i : Init) → IsLawful s → is_by_bytes (type_of q) i ≡ b → IsLawfulType s.types.records (type_of q)
    → Prepares s (local_initialiser b w k q i s) (λ t r. All (Makes t k q r.0) r.1)
unfolding local_initialiser
initialiser_runs s true w k q i l e lawful = bytes_runs s w k q i l
initialiser_runs s false w k q i l e lawful = single_runs s w k q i l e lawful

-- ---- locals

-- an initialiser of one of the locals from a place up to another
abbrev pub Starts : ModuleValue → List LocalValue → ℕ → ℕ → Initialiser → Type 0
Starts m locals first end (T.Value k e) =
    (first ≤ k) × (k < end) × IsTyped m locals e × ((l : LocalValue) × (slice_get locals k ≡ Some l) × (type_in e ≡ type_of l.ty))
Starts m locals first end (T.Bytes k hidden parts) =
    (first ≤ k) × (k < end)
    × ((l : LocalValue) × (g : GlobalValue) × (slice_get locals k ≡ Some l) × Contains m.globals g × (g.name ≡ Hidden hidden) × (type_of g.ty ≡ type_of l.ty))

-- the initialisers of the locals that are declared from one state to another
abbrev pub Declares : State → State → List Initialiser → Type 0
Declares s t is = (m : ModuleValue) (locals : List LocalValue) → Final t m locals → IsReady s → All HasWords is
    → All (Starts m locals (length s.body.locals) (length t.body.locals)) is

-- what changes with the local's type tells of no object and no function
names_uncompleted : (s u : State) (name : List ℕ) (l new : LocalValue) (register : Bool) (m : ModuleValue) → Raises (local_entered s name l register) u
    → Names (local_completed s (length s.scopes.entities) new register u) m → Names u m
names_uncompleted s u name l new register m g n = record {
  records = n.records;
  strings = n.strings;
  entities = λ k e h. by k e h (put_either (length s.scopes.entities) (LocalObject (length s.body.locals) new.ty register) u.scopes.entities k);
}
  where
    there : slice_get u.scopes.entities (length s.scopes.entities) ≡ Some (LocalObject (length s.body.locals) l.ty register)
    there = g.entities (length s.scopes.entities) (LocalObject (length s.body.locals) l.ty register) (get_last s.scopes.entities (LocalObject (length s.body.locals) l.ty register))

    by : (k : ℕ) (e : Entity) → slice_get u.scopes.entities k ≡ Some e
        → ((k ≡ length s.scopes.entities) × (slice_get (put_at (length s.scopes.entities) (LocalObject (length s.body.locals) new.ty register) u.scopes.entities) k ≡ Some (LocalObject (length s.body.locals) new.ty register)))
        ⊎ (slice_get (put_at (length s.scopes.entities) (LocalObject (length s.body.locals) new.ty register) u.scopes.entities) k ≡ slice_get u.scopes.entities k) → StandsFor u m e
    by k e h (inl f) = subst (StandsFor u m) (some_same (sym there ∙ subst (λ j. slice_get u.scopes.entities j ≡ Some e) f.0 h)) tt
    by k e h (inr f) = stands_back u (local_completed s (length s.scopes.entities) new register u) m refl e (n.entities k e (f ∙ h))

put_itself : {X : Type 0} (n : ℕ) (x : X) (xs : List X) → slice_get xs n ≡ Some x → put_at n x xs ≡ xs
put_itself n x [] e = refl
put_itself zero x (y ∷ xs) e = ap (λ z. z ∷ xs) (some_same (sym e))
put_itself (suc n) x (y ∷ xs) e = ap (λ zs. y ∷ zs) (put_itself n x xs e)

completed_starts : (s u : State) (w : Word) (q ty : QType) (register : Bool) (i : Initialiser) → 0 < s.scopes.depth → ArePlaced s → s.made.counting ≡ true → Raises (local_entered s w.text (local_of w q) register) u
    → (m : ModuleValue) (locals : List LocalValue) → Final (local_completed s (length s.scopes.entities) (local_of w ty) register u) m locals → Makes u (length s.body.locals) q ty i → HasWords i
    → Starts m locals (length s.body.locals) (length (put_at (length s.body.locals) (local_of w ty) u.body.locals)) i
completed_starts s u w q ty register i inner p c g m locals f made words = by i made words
  where
    held : slice_get u.body.locals (length s.body.locals) ≡ Some (local_of w q)
    held = subst (λ b. slice_get b.locals (length s.body.locals) ≡ Some (local_of w q)) (sym g.body) (get_last s.body.locals (local_of w q))

    within : length s.body.locals < length (put_at (length s.body.locals) (local_of w ty) u.body.locals)
    within = subst (λ n. length s.body.locals < n) (sym (length_put (length s.body.locals) (local_of w ty) u.body.locals)) (get_within u.body.locals (length s.body.locals) (local_of w q) held)

    there : slice_get locals (length s.body.locals) ≡ Some (local_of w ty)
    there = f.locals_are (length s.body.locals) (local_of w ty)
        (put_same (length s.body.locals) (local_of w ty) u.body.locals (get_within u.body.locals (length s.body.locals) (local_of w q) held))

    longer : ty ≡ q → Longer u.body.locals locals
    longer same j x e =
        f.locals_are j x
        (subst (λ xs. slice_get xs j ≡ Some x) (sym (put_itself (length s.body.locals) (local_of w ty) u.body.locals (held ∙ ap (λ y. Some (local_of w y)) (sym same)))) e)

    denotes : ty ≡ q → Denotes u m locals
    denotes same =
        denotes_final u m locals (names_uncompleted s u w.text (local_of w q) (local_of w ty) register m g f.names)
        (grows_placed g (local_placed s w.text (local_of w q) register inner p)) (g.counting ∙ c) (longer same)

    by : (j : Initialiser) → Makes u (length s.body.locals) q ty j → HasWords j → Starts m locals (length s.body.locals) (length (put_at (length s.body.locals) (local_of w ty) u.body.locals)) j
    by (T.Value k e) h a =
        let x = h.2 m locals (denotes h.1) a in (
          (let same : k ≡ length s.body.locals = h.0 in omega (arith, same)),
          (let same : k ≡ length s.body.locals = h.0 in let n = within in omega (arith, same, n)),
          x.0,
          (local_of w ty, subst (λ n. slice_get locals n ≡ Some (local_of w ty)) (sym h.0) there, x.1 ∙ ap type_of (sym h.1)),
        )
    by (T.Bytes k hidden parts) h a =
        let o = f.owned hidden h.1.0 h.1.1 in (
          (let same : k ≡ length s.body.locals = h.0 in omega (arith, same)),
          (let same : k ≡ length s.body.locals = h.0 in let n = within in omega (arith, same, n)),
          (local_of w ty, o.0, subst (λ n. slice_get locals n ≡ Some (local_of w ty)) (sym h.0) there, o.1, o.2, ap type_of (o.3 ∙ h.1.2)),
        )

-- what holds of each holds of each by something more
all_more : {X : Type 0} (P A Q : X → Type 0) → ((x : X) → P x → A x → Q x) → (xs : List X) → All P xs → All A xs → All Q xs
all_more P A Q f [] h k = All-nil Q
all_more P A Q f (x ∷ xs) h k = All-cons Q x xs (f x (All-head P x xs h) (All-head A x xs k)) (all_more P A Q f xs (All-tail P x xs h) (All-tail A x xs k))

abbrev pub AddsLocals : State → List Initialiser × State → Type 0
AddsLocals s r = Adds s r.1 × Declares s r.1 r.0

local_adds : (s : State) (w : Word) (b : Specified) (q : QType) (i : Option Initializer) → 0 < s.scopes.depth → IsLawful s → IsObjectLike s.types.records q → Post (local_rule w b q i s) (AddsLocals s)
unfolding local_rule bind
local_adds s w b q None inner l h = (
  record {
    placed = λ p. local_placed s w.text (local_of w q) (is_register b.storage) inner p;
    depth = refl;
    locals = λ k x e. get_append s.body.locals (local_of w q ∷ []) k x e;
    counting = refl;
    hidden = longer_same s.made.hidden;
    steady = refl;
  },
  λ m locals f ready words. All-nil (Starts m locals (length s.body.locals) (length (s.body.locals ++ local_of w q ∷ []))),
)
local_adds s w b q (Some i) inner l h =
    let at : State = local_entered s w.text (local_of w q) (is_register b.storage) in
    post_bind (local_initialiser (is_by_bytes (type_of q) i.init) w (next_local s) q i.init (local_entered s w.text (local_of w q) (is_register b.storage)))
    _ (λ r. IsLawful r.1 × Raises (local_entered s w.text (local_of w q) (is_register b.storage)) r.1 × All (Makes r.1 (length s.body.locals) q r.0.0) r.0.1) (AddsLocals s)
    (initialiser_runs (local_entered s w.text (local_of w q) (is_register b.storage)) (is_by_bytes (type_of q) i.init) w (next_local s) q i.init
    (entered (add_local (local_of w q) s) w.text (LocalObject (length s.body.locals) q (is_register b.storage)) (around s s.made (add_local (local_of w q) s).body l refl).0 h) refl h.lawful)
    (λ r g.
    let place : place_here at w.text ≡ length s.scopes.entities = place_of_new (add_local (local_of w q) s) w.text (LocalObject (length s.body.locals) q (is_register b.storage)) in
    subst (λ n. AddsLocals s (r.0.1, local_completed s n (local_of w r.0.0) (is_register b.storage) r.1)) (sym place) (
      record {
        placed = λ p. completed_placed s r.1 w.text (local_of w q) (local_of w r.0.0) (is_register b.storage) inner p g.1;
        depth = g.1.depth;
        locals = longer_put s.body.locals r.1.body.locals (local_of w r.0.0)
            (λ k x e. subst (λ y. slice_get y.locals k ≡ Some x) (sym g.1.body) (get_append s.body.locals (local_of w q ∷ []) k x e));
        counting = g.1.counting;
        hidden = g.1.hidden;
        steady = ap (with_locals (put_at (length s.body.locals) (local_of w r.0.0) r.1.body.locals)) g.1.body;
      },
      λ m locals f ready words. all_more (Makes r.1 (length s.body.locals) q r.0.0) HasWords (Starts m locals (length s.body.locals) (length (put_at (length s.body.locals) (local_of w r.0.0) r.1.body.locals)))
          (λ x made has. completed_starts s r.1 w q r.0.0 (is_register b.storage) x inner ready.placed ready.counting g.1 m locals f made has) r.0.1 g.2 words,
    ))

-- ---- what is declared

-- nothing is said of no initialisers
none_declared : {s : State} {r : List Initialiser × State} → AddsNone s r → AddsLocals s r
none_declared {s} {r} h =
    (h.0, λ m locals f ready words. subst (λ is. All (Starts m locals (length s.body.locals) (length r.1.body.locals)) is) (sym h.1) (All-nil (Starts m locals (length s.body.locals) (length r.1.body.locals))))

adds_none : (s : State) (w : Walk (List Initialiser × State)) → Post w (AddsNone s) → Post w (AddsLocals s)
adds_none s w h = post_weaken w (AddsNone s) (AddsLocals s) h (λ r g. none_declared {s = s} {r = r} g)

-- a local is declared in a scope inside the file's
abbrev IsInner : Sort → State → Type 0
IsInner ALocal s = 0 < s.scopes.depth
IsInner _ s = Unit {0}

sort_inner : (s : State) (b : Specified) (q : QType) → IsInner (sort_of (is_file_scope s) b q) s
sort_inner s b q = by (is_typedef b.storage) (is_function (type_of q)) (is_file_scope s) refl (is_extern b.storage) (is_static b.storage)
  where
    by : (x y z : Bool) → is_file_scope s ≡ z → (e t : Bool)
        → IsInner (if x then ATypedef else if y then AFunction else if z then AGlobal else if e then AnExtern else if t then AStatic else ALocal) s
    by true y z h e t = tt
    by false true z h e t = tt
    by false false true h e t = tt
    by false false false h true t = tt
    by false false false h false true = tt
    by false false false h false false = positive s.scopes.depth h
      where
        positive : (n : ℕ) → (n == 0) ≡ false → 0 < n
        positive zero k = no (sym k)
        positive (suc n) k = omega arith

declare_adds : (s : State) (sort : Sort) (w : Word) (b : Specified) (spot : Spot) (q : QType) (i : Option Initializer) → IsLawful s → IsLawfulType s.types.records (type_of q) → Fits sort q → IsInner sort s
    → Post (declare_rule sort w b spot q i s) (AddsLocals s)
unfolding declare_rule declare_linked bind
declare_adds s ATypedef w b spot q i l h f inner =
    none_declared {s = s} (record { placed = λ p. entered_placed s w.text (TypeName q) p tt; depth = refl; locals = longer_same s.body.locals; counting = refl; hidden = longer_same s.made.hidden; steady = refl }, refl)
declare_adds s AFunction w b spot q i l h f inner = none_declared {s = s} (declared_adds s w.text w.token b.tag (asking_of AFunction b) q, refl)
declare_adds s AGlobal w b spot q i l h f inner = adds_none s (global_rule w b spot q i s) (global_adds s w b spot q i l h)
declare_adds s AnExtern w b spot q i l h f inner = none_declared {s = s} (declared_adds s w.text w.token b.tag AsBefore q, refl)
declare_adds s AStatic w b spot q i l h f inner = adds_none s (static_rule w q i s) (static_adds s w q i l (record { lawful = h; object = f }))
declare_adds s ALocal w b spot q i l h f inner = local_adds s w b q i inner l (record { lawful = h; object = f })

-- ---- declarations

declares_later : {s u t : State} (is : List Initialiser) → Grows s u → Declares u t is → Declares s t is
declares_later {s} {u} {t} is g h m locals f ready words =
    subst (λ b. All (Starts m locals (length b.locals) (length t.body.locals)) is) g.body (h m locals f (record { placed = grows_placed g ready.placed; counting = g.counting ∙ ready.counting; sound = g.sound None ready.sound }) words)

-- rules that only grow, and then one that adds
then_adds : {A : Type 0} {s : State} (w : Walk (A × State)) (next : A × State → Walk (List Initialiser × State)) (Good : State → A → Type 0) → Runs s w Good
    → ((r : A × State) → IsLawful r.1 → Grows s r.1 → Good r.1 r.0 → Post (next r) (AddsLocals r.1)) → Post (bind w next) (AddsLocals s)
then_adds {A} {s} w next Good h k =
    post_bind w next (λ r. IsLawful r.1 × Grows s r.1 × Good r.1 r.0) (AddsLocals s) h
    (λ r g. post_weaken (next r) (AddsLocals r.1) (AddsLocals s) (k r g.0 g.1 g.2)
    (λ u f. (adds_trans (adds_grows g.1) f.0, declares_later {s = s} {u = r.1} {t = u.1} u.0 g.1 f.1)))

asked_adds : {A : Type 0} (s : State) (a : A) (next : A × State → Walk (List Initialiser × State)) → Post (next (a, s)) (AddsLocals s) → Post (bind (Done (a, s)) next) (AddsLocals s)
unfolding bind
asked_adds s a next h = h

named_adds : (u : State) (sort : Sort) (spot : Spot) (w : Word) (b : Specified) (q : QType) (i : Option Initializer) → IsLawful u → IsLawfulType u.types.records (type_of q) → Fits sort q → IsInner sort u
    → Post (bind (name_rule sort spot w (is_some i) b q u) (λ v. declare_rule sort w b spot q i v.1)) (AddsLocals u)
unfolding name_rule bind
named_adds u sort spot w b q i n j f inner = λ met. declare_adds u sort w b spot q i n j f inner

init_declarator_adds : (s : State) (b : Specified) (d : InitDeclarator) → IsLawful s → GoodSpecified s b → Post (init_declarator_rule b d s) (AddsLocals s)
unfolding init_declarator_rule
init_declarator_adds s b d l h =
    then_adds _ _ GoodDeclared (declarator_post d.declarator s l) (λ r m x k.
    then_adds _ _ GoodType (built_runs r.1 (spot_of r.0.name b.first b.tag) r.0.derivations b.ty m k.0 (lawful_later s.types.records r.1.types.records x.extends (type_of b.ty) h)) (λ u n y j.
    asked_adds u.1 (sort_of (is_file_scope u.1) b u.0) _
    (named_adds u.1 (sort_of (is_file_scope u.1) b u.0) (spot_of r.0.name b.first b.tag) (name_of r.0) b u.0 d.initializer n j (sort_fits (is_file_scope u.1) b u.0) (sort_inner u.1 b u.0))))

-- what a declaration comes to: a lawful state, behind the one before, and what it adds
abbrev pub Declaring : State → List Initialiser × State → Type 0
Declaring s r = IsLawful r.1 × After s r.1 × AddsLocals s r

declaring : (s : State) (w : Walk (List Initialiser × State)) → Goes s w Anything → Post w (AddsLocals s) → Post w (Declaring s)
declaring s w h k =
    post_weaken w (λ r. (IsLawful r.1 × After s r.1 × Unit {0}) × AddsLocals s r) (Declaring s) (post_both w (λ r. IsLawful r.1 × After s r.1 × Unit {0}) (AddsLocals s) h k)
    (λ r g. (g.0.0, g.0.1, g.1))

pub longer_length : {X : Type 0} (xs ys : List X) → Longer xs ys → length xs ≤ length ys
longer_length [] ys h = omega arith
longer_length (x ∷ xs) ys h =
    let k : length xs < length ys = get_within ys (length xs) _ (h (length xs) _ (slice_get-get_or (x ∷ xs) (length xs) x (omega arith))) in omega (arith, k)

starts_wider : (m : ModuleValue) (locals : List LocalValue) (a b c d : ℕ) → a ≤ b → c ≤ d → (i : Initialiser) → Starts m locals b c i → Starts m locals a d i
starts_wider m locals a b c d before behind (T.Value k e) h = (
  (let x : b ≤ k = h.0 in omega (arith, x, before)),
  (let x : k < c = h.1 in omega (arith, x, behind)),
  h.2,
  h.3,
)
starts_wider m locals a b c d before behind (T.Bytes k hidden parts) h = (
  (let x : b ≤ k = h.0 in omega (arith, x, before)),
  (let x : k < c = h.1 in omega (arith, x, behind)),
  h.2,
)

wider : (m : ModuleValue) (locals : List LocalValue) (a b c d : ℕ) → a ≤ b → c ≤ d → (is : List Initialiser) → All (Starts m locals b c) is → All (Starts m locals a d) is
wider m locals a b c d before behind is h = All-weaker (Starts m locals b c) (Starts m locals a d) (starts_wider m locals a b c d before behind) is h

front_all : {X : Type 0} (P : X → Type 0) (xs ys : List X) → All P (xs ++ ys) → All P xs
front_all P [] ys h = All-nil P
front_all P (x ∷ xs) ys h = All-cons P x xs (All-head P x (xs ++ ys) h) (front_all P xs ys (All-tail P x (xs ++ ys) h))

back_all : {X : Type 0} (P : X → Type 0) (xs ys : List X) → All P (xs ++ ys) → All P ys
back_all P [] ys h = h
back_all P (x ∷ xs) ys h = back_all P xs ys (All-tail P x (xs ++ ys) h)

-- one declaration and then others
declares_both : (s r u : State) (is more : List Initialiser) → After s r → Adds s r → Declares s r is → After r u → Adds r u → Declares r u more → Declares s u (is ++ more)
declares_both s r u is more z a h x b k m locals f ready words =
    let next : IsReady r = ready_adds z a ready in
    let early : length s.body.locals ≤ length r.body.locals = longer_length s.body.locals r.body.locals a.locals in
    let late : length r.body.locals ≤ length u.body.locals = longer_length r.body.locals u.body.locals b.locals in
    All-append (Starts m locals (length s.body.locals) (length u.body.locals)) is more
    (wider m locals (length s.body.locals) (length s.body.locals) (length r.body.locals) (length u.body.locals) (omega arith) late is
    (h m locals (final_back x next b.locals b.hidden f) ready (front_all HasWords is more words)))
    (wider m locals (length s.body.locals) (length r.body.locals) (length u.body.locals) (length u.body.locals) early (omega arith) more
    (k m locals f next (back_all HasWords is more words)))

then_declares : (s : State) (w : Walk (List Initialiser × State)) (next : State → Walk (List Initialiser × State)) → Post w (Declaring s)
    → ((r : State) (is : List Initialiser) → IsLawful r → After s r → Post (next r) (Declaring r))
    → Post (bind w (λ r. bind (next r.1) (λ u. Done (r.0 ++ u.0, u.1)))) (AddsLocals s)
unfolding bind
then_declares s w next h k =
    post_bind w (λ r. bind (next r.1) (λ u. Done (r.0 ++ u.0, u.1))) (Declaring s) (AddsLocals s) h
    (λ r g. post_bind (next r.1) (λ u. Done (r.0 ++ u.0, u.1)) (Declaring r.1) (AddsLocals s) (k r.1 r.0 g.0 g.1)
    (λ u f. (adds_trans g.2.0 f.2.0, declares_both s r.1 u.1 r.0 u.0 g.1 g.2.0 g.2.1 f.1 f.2.0 f.2.1)))

init_declarators_adds : (ds : List InitDeclarator) (s : State) (b : Specified) → IsLawful s → GoodSpecified s b → Post (init_declarators_rule b ds s) (AddsLocals s)
unfolding init_declarators_rule
init_declarators_adds [] s b l h = none_declared {s = s} (adds_same s, refl)
init_declarators_adds (d ∷ rest) s b l h =
    then_declares s (init_declarator_rule b d s) (init_declarators_rule b rest)
    (declaring s (init_declarator_rule b d s) (init_declarator_goes s b d l h) (init_declarator_adds s b d l h))
    (λ r is m x.
    let k = lawful_later s.types.records r.types.records x.extends (type_of b.ty) h in
    declaring r (init_declarators_rule b rest r) (init_declarators_goes rest r b m k) (init_declarators_adds rest r b m k))

pub init_declarator_declares : (s : State) (b : Specified) (d : InitDeclarator) → IsLawful s → GoodSpecified s b → Post (init_declarator_rule b d s) (Declaring s)
init_declarator_declares s b d l h = declaring s (init_declarator_rule b d s) (init_declarator_goes s b d l h) (init_declarator_adds s b d l h)

pub init_declarators_declare : (ds : List InitDeclarator) (s : State) (b : Specified) → IsLawful s → GoodSpecified s b → Post (init_declarators_rule b ds s) (Declaring s)
init_declarators_declare ds s b l h = declaring s (init_declarators_rule b ds s) (init_declarators_goes ds s b l h) (init_declarators_adds ds s b l h)

pub specified_all : (s : State) (specifiers : Specifiers) (first : ℕ) → IsLawful s → Runs s (specified_rule specifiers first s) GoodSpecified
unfolding specified_rule
specified_all s specifiers first l =
    goes_on _ _ GoodGathered GoodSpecified (specifiers_post specifiers first nothing_gathered s l tt) (λ r m g h. specified_runs r.1 first r.0 m h)

alone_by_runs : (s : State) (kind : RecordKind) (w : Word) (o : Option Tag) → IsLawful s → ((tag : Tag) → o ≡ Some tag → IsLawfulTag s.types.records tag) → Runs s (alone_by kind w o s) Nothing
unfolding alone_by
alone_by_runs s kind w None l h = goes_on _ _ (Fresh kind s) Nothing (new_tag_runs s kind w l) (λ r m g k. (m, grows_same r.1, tt))
alone_by_runs s kind w (Some tag) l h = goes_on _ _ GoodReference Nothing (reference_by_runs s kind w (Some tag) l h) (λ r m g k. (m, grows_same r.1, tt))

alone_runs : (s : State) (kind : RecordKind) (w : Word) → IsLawful s → Runs s (alone_rule kind w s) Nothing
unfolding alone_rule bind
alone_runs s kind w l = alone_by_runs s kind w (tag_here s w.text) l (λ tag e. tag_here_lawful s w.text tag l e)

listed_runs : (s : State) (specifiers : Specifiers) → IsLawful s
    → Runs {A = List Initialiser} s (bind (specified_rule specifiers (first_of_list specifiers) s) (λ t. bind (bind (storage_rule t.0 t.1) (λ u. meets (needs DeclaresSomething t.0.first (declares_something specifiers) ∷ []) u.1)) (λ u. Done ([], u.1)))) (λ t is. is ≡ [])
unfolding storage_rule bind
listed_runs s specifiers l =
    goes_on (specified_rule specifiers (first_of_list specifiers) s) _ GoodSpecified (λ t is. is ≡ []) (specified_all s specifiers (first_of_list specifiers) l) (λ r m g h met more. (m, grows_same r.1, refl))

pub bare_runs : (s : State) (specifiers : Specifiers) → IsLawful s → Runs s (bare_rule specifiers s) (λ t is. is ≡ [])
unfolding bare_rule
bare_runs s (S.RecordTag t kind w S.NoSpecifier) l = goes_on _ _ Nothing (λ t is. is ≡ []) (alone_runs s (record_kind kind) w l) (λ r m g h. (m, grows_same r.1, refl))
bare_runs s specifiers l = listed_runs s specifiers l

bare_adds : (s : State) (specifiers : Specifiers) → IsLawful s → Post (bare_rule specifiers s) (AddsLocals s)
bare_adds s specifiers l =
    post_weaken (bare_rule specifiers s) (λ r. IsLawful r.1 × Grows s r.1 × (r.0 ≡ [])) (AddsLocals s) (bare_runs s specifiers l) (λ r g. none_declared {s = s} {r = r} (adds_grows g.1, g.2))

storage_runs : (s : State) (b : Specified) → IsLawful s → Runs s (storage_rule b s) Nothing
unfolding storage_rule bind
storage_runs s b l = λ met. (l, grows_same s, tt)

declarators_adds : (s : State) (specifiers : Specifiers) (ds : List InitDeclarator) → IsLawful s → Post (declarators_rule specifiers ds s) (AddsLocals s)
unfolding declarators_rule
declarators_adds s specifiers [] l = bare_adds s specifiers l
declarators_adds s specifiers (d ∷ rest) l =
    then_adds _ _ GoodSpecified (specified_all s specifiers (first_of_list specifiers) l) (λ r m x h.
    then_adds _ _ Nothing (storage_runs r.1 r.0 m) (λ u n y k.
    init_declarators_adds (d ∷ rest) u.1 r.0 n (lawful_later r.1.types.records u.1.types.records y.extends (type_of r.0.ty) h)))

decl_adds : (s : State) (d : Decl) → IsLawful s → Post (decl_rule d s) (AddsLocals s)
unfolding decl_rule
decl_adds s d l = declarators_adds s d.specifiers d.declarators l

decls_adds : (ds : List Decl) (s : State) → IsLawful s → Post (decls_rule ds s) (AddsLocals s)
unfolding decls_rule
decls_adds [] s l = none_declared {s = s} (adds_same s, refl)
decls_adds (d ∷ rest) s l =
    then_declares s (decl_rule d s) (decls_rule rest) (declaring s (decl_rule d s) (decl_goes s d l) (decl_adds s d l))
    (λ r is m x. declaring r (decls_rule rest r) (decls_goes rest r m) (decls_adds rest r m))

pub decls_declare : (ds : List Decl) (s : State) → IsLawful s → Post (decls_rule ds s) (Declaring s)
decls_declare ds s l = declaring s (decls_rule ds s) (decls_goes ds s l) (decls_adds ds s l)

pub decl_declares : (d : Decl) (s : State) → IsLawful s → Post (decl_rule d s) (Declaring s)
decl_declares d s l = declaring s (decl_rule d s) (decl_goes s d l) (decl_adds s d l)
