-- Declarations of objects with linkage that are initialised, and of every sort: the types of names keep the limits (ISO C90 5.2.4.1).
use Rattle.std.specs.Prelude.{ℕ, ◌≡◌, ◌⊎◌, ◌==◌, Bool, true, false, Option, None, Some, is_some, option_and_then, unwrap_or, List, slice_get, length, if◌then◌else◌, refl}
use Rattle.std.specs.Option.{option_map_or}
use Rattle.std.proofs.lemmas.Bool.{eq-eqb}
use Rattle.std.proofs.lemmas.Slice.Eq.{bytes_eq-Decides}
use Rattle.std.proofs.Common.{ap, sym, subst, ◌∙◌, inl, inr}
use Rattle.pw_tree.specs.Trees.{Word, Initializer}
use Rattle.pw_tree.specs.Spelling.{spell_initializer}
use Rattle.pw_tree.specs.Symbols.{Symbol}
use Rattle.pw_types.specs.TypeTrees.{QType, type_of}
use Rattle.pw_types.specs.TypedTrees.{PlacedItem}
use Rattle.pw_check_walk.specs.Walks.{bind}
use Rattle.pw_check_rules.specs.Compatible.{compatible, composite}
use Rattle.pw_check_rules.specs.Declarations.{asking_of, Sort, ATypedef, AFunction, AGlobal, AnExtern, AStatic, ALocal, sort_point, name_rule, declare_rule, context_of, global_rule, fitting_rule, is_tentative}
use Rattle.pw_check_rules.specs.Initialisers.{object_rule}
use Rattle.pw_check_rules.specs.Limits.{Spot}
use Rattle.pw_check_rules.specs.Linkage.{Asking, AsBefore, note_here, note_linked, is_internal_by, place_for, define_object, initialise_linked, named_type, type_now, type_here, declare_linked, is_linked, linked_before, linked_again, linked_anew}
use Rattle.pw_check_rules.specs.SpecifierLists.{Specified}
use Rattle.pw_check_rules.specs.declared.names.Entry.{Entry}
use Rattle.pw_check_rules.specs.States.{State, ScopeState, LinkedName, Entity, TypeName, Linked, enter, put_at, put_entity, put_linked, add_linked, entity_at, entity_here, entry_here, entry_of, if_here, start}
use Rattle.pw_law_checked.specs.Lawful.{IsLawful, IsLawfulType}
use Rattle.pw_law_checked.proofs.Walking.{Post, AreMet, post_bind, post_both, truth, met_left, met_right}
use Rattle.pw_law_checked.proofs.Lists.{some_same, get_last, get_within, put_same, put_either, visible_more}
use Rattle.pw_law_checked.proofs.Sound.{Sound}
use Rattle.pw_law_checked.proofs.States.{Grows}
use Rattle.pw_law_checked.proofs.Initialisers.{IsLawfully}
use Rattle.pw_law_checked.proofs.Keeping.{Knows, defined_kept}
use Rattle.pw_law_checked.proofs.Declaring.{Linkable, mapped, declared_knows, defined_scopes, visible_named}
use Rattle.pw_law_checked.proofs.Declarations.{Fits}
use Rattle.pw_law_checked.proofs.Spelled.{AreShort}
use Rattle.pw_law_checked.proofs.Sizes.{IsKeptFrom, within_kept}
use Rattle.pw_law_checked.proofs.SmallLeaves.{Keeping, IsReady}
use Rattle.pw_law_checked.proofs.SmallPhrases.{entered_keeping}
use Rattle.pw_law_checked.proofs.SmallDeclarations.{ObjectRead, object_read}
use Rattle.pw_law_checked.proofs.Wider.{Wider, wider_composite, wider_second, wider_composites}
use Rattle.pw_law_checked.proofs.SmallLinkage.{AreNarrowed, HavePlaces, places_so, put_narrows, narrowed_on, narrowed_grows, narrowed_entered, found_here, note_small, declare_small}
use Rattle.pw_law_checked.proofs.SmallGlobals.{Declared, places_entered, defined_small, tentative_small, local_declared, static_declared}

-- ---- where a name that is declared stands

-- in this scope, with linkage, by its place
pub record HereIn (c : ScopeState) (name : List ℕ) (place : ℕ) : Type 0 where
  pub entry : Entry
  pub here : entry_here (record start { scopes = c }) name ≡ Some entry
  pub type : QType
  pub there : slice_get c.entities entry.place ≡ Some (Linked place type)

abbrev PlacesIn : ScopeState → Type 0
PlacesIn c = (i : ℕ) (e : List ℕ × Entry) → slice_get c.ordinary i ≡ Some e → (x : Entity) × (slice_get c.entities e.1.place ≡ Some x)

entry_entered : (s : State) (name : List ℕ) (x : Entity) → entry_here (enter name x s) name ≡ Some (record { place = length s.scopes.entities; depth = s.scopes.depth })
entry_entered s name x =
    ap (option_and_then (if_here s.scopes.depth))
    (visible_more s.scopes.ordinary name (record { place = length s.scopes.entities; depth = s.scopes.depth }) name
    ∙ ap (λ b. if b then Some (record { place = length s.scopes.entities; depth = s.scopes.depth }) else entry_of s name) ((bytes_eq-Decides name name).1 refl))
    ∙ ap (λ b. if b then Some (record { place = length s.scopes.entities; depth = s.scopes.depth }) else None) (eq-eqb s.scopes.depth s.scopes.depth refl)

entry_there : (s : State) (name : List ℕ) (e : Entry) → HavePlaces s → entry_here s name ≡ Some e → (x : Entity) × (slice_get s.scopes.entities e.place ≡ Some x)
entry_there s name e places h = by (entry_of s name) refl h
  where
    tested : (f : Entry) (b : Bool) → ((x : Entity) × (slice_get s.scopes.entities f.place ≡ Some x)) → (if b then Some f else None) ≡ Some e → (x : Entity) × (slice_get s.scopes.entities e.place ≡ Some x)
    tested f true k g = subst (λ (y : Entry). (x : Entity) × (slice_get s.scopes.entities y.place ≡ Some x)) (some_same g) k
    tested f false k g = Rattle.pw_law_checked.proofs.Lists.never_some g

    by : (o : Option Entry) → entry_of s name ≡ o → option_and_then (if_here s.scopes.depth) o ≡ Some e → (x : Entity) × (slice_get s.scopes.entities e.place ≡ Some x)
    by None f g = Rattle.pw_law_checked.proofs.Lists.never_some g
    by (Some y) f g = let v = visible_named s.scopes.ordinary name y f in tested y (y.depth == s.scopes.depth) (places v.0 (name, y) v.1) g

places_put : (s : State) (place : ℕ) (x : Entity) → HavePlaces s → HavePlaces (put_entity place x s)
places_put s place x h i e at = by (put_either place x s.scopes.entities e.1.place)
  where
    by : ((e.1.place ≡ place) × (slice_get (put_at place x s.scopes.entities) e.1.place ≡ Some x)) ⊎ (slice_get (put_at place x s.scopes.entities) e.1.place ≡ slice_get s.scopes.entities e.1.place)
        → (y : Entity) × (slice_get (put_at place x s.scopes.entities) e.1.place ≡ Some y)
    by (inl f) = (x, f.1)
    by (inr f) = let y = h i e at in (y.0, f ∙ y.1)

note_at : (s : State) (name : List ℕ) (place : ℕ) (ty : QType) → HavePlaces s → HavePlaces (note_here name place ty s) × HereIn (note_here name place ty s).scopes name place
note_at s name place ty places = by (entry_here s name) refl
  where
    q : QType
    q = type_here ty (unwrap_or (entity_here s name) (TypeName ty))

    by : (o : Option Entry) → entry_here s name ≡ o
        → HavePlaces (option_map_or (λ (e : Entry). put_entity e.place (Linked place (type_here ty (unwrap_or (entity_here s name) (TypeName ty)))) s) o (enter name (Linked place ty) s))
        × HereIn (option_map_or (λ (e : Entry). put_entity e.place (Linked place (type_here ty (unwrap_or (entity_here s name) (TypeName ty)))) s) o (enter name (Linked place ty) s)).scopes name place
    by None e = (
      places_entered s name (Linked place ty) places,
      record { entry = record { place = length s.scopes.entities; depth = s.scopes.depth }; here = entry_entered s name (Linked place ty); type = ty; there = get_last s.scopes.entities (Linked place ty) },
    )
    by (Some y) e =
        let x = entry_there s name y places e in
        (places_put s y.place (Linked place q) places, record { entry = y; here = e; type = q; there = put_same y.place (Linked place q) s.scopes.entities (get_within s.scopes.entities y.place x.0 x.1) })

declared_at : (name : List ℕ) (token : ℕ) (tag : Option ℕ) (asking : Asking) (ty : QType) (s : State) → HavePlaces s → Post (declare_linked name token tag asking ty s) (λ r. HavePlaces r.1 × HereIn r.1.scopes name r.0)
unfolding declare_linked bind
declared_at name token tag asking ty s places = note_at (note_linked name (is_internal_by s name asking) ty token tag s) name (place_for s name) ty (noted (linked_before s name))
  where
    noted : (o : Option LinkedName) → HavePlaces (option_map_or (λ l. put_linked (place_for s name) (linked_again ty l) s) o (add_linked (linked_anew name (is_internal_by s name asking) ty token tag) s))
    noted None = places
    noted (Some l) = places

-- ---- an object with its initialiser

initialised : (u : State) (name : List ℕ) (place : ℕ) (ty t : QType) (items : List PlacedItem) (l : LinkedName) → Keeping u → HavePlaces u → AreNarrowed u → slice_get u.types.linked place ≡ Some l → entity_here u name ≡ Some (Linked place t)
    → Wider l.ty t → compatible l.ty ty ≡ true → IsKeptFrom u.types.records (type_of ty) → Keeping (note_here name place ty (initialise_linked place ty items u)) × AreNarrowed (note_here name place ty (initialise_linked place ty items u))
initialised u name place ty t items l keep places narrowed at here wide alike k =
    subst (λ o. Keeping (note_here name place ty (option_map_or (λ (x : LinkedName). put_linked place (record x { ty = composite x.ty ty; items = items }) u) o u)) × AreNarrowed (note_here name place ty (option_map_or (λ (x : LinkedName). put_linked place (record x { ty = composite x.ty ty; items = items }) u) o u)))
    (sym at)
    (note_small (put_linked place (record l { ty = composite l.ty ty; items = items }) u) name place ty (record { entities = keep.entities; members = keep.members; strings = keep.strings }) places
    (λ i e x f there. narrowed_on u.types.linked (put_at place (record l { ty = composite l.ty ty; items = items }) u.types.linked) (put_narrows place l (record l { ty = composite l.ty ty; items = items }) u.types.linked at (wider_composite l.ty ty)) x (narrowed i e x f there))
    (record {
      linked = record l { ty = composite l.ty ty; items = items };
      there = put_same place (record l { ty = composite l.ty ty; items = items }) u.types.linked (get_within u.types.linked place l at);
      narrow = wider_second l.ty ty alike;
      before = λ n q e.
          let same : t ≡ q = linked_same (some_same (sym here ∙ e)) in
          subst (λ z. (compatible z ty ≡ true) × Wider (composite l.ty ty) (composite z ty)) same (wide ty alike, wider_composites l.ty t ty wide alike);
    }) k)
  where
    type_in_entity : Entity → QType → QType
    type_in_entity (Linked n q) z = q
    type_in_entity _ z = z

    linked_same : {n m : ℕ} {p q : QType} → Linked n p ≡ Linked m q → p ≡ q
    linked_same {n} {m} {p} {q} e = ap (λ x. type_in_entity x p) e

global_declared : (w : Word) (b : Specified) (spot : Spot) (q : QType) (i : Option Initializer) (z : List Symbol) (sh : AreShort (spell_initializer i z)) (s : State) → IsReady s → IsLawfulType s.types.records (type_of q) → IsKeptFrom s.types.records (type_of q) → Sound None s → AreNarrowed s
    → Linkable s w.text q → Post (global_rule w b spot q i s) Declared
unfolding global_rule fitting_rule bind
global_declared w b spot q None z sh s l lawful kept sound narrowed link =
    post_bind (declare_linked w.text w.token b.tag (asking_of AGlobal b) q s) _ (λ r. Keeping r.1 × AreNarrowed r.1) Declared (declare_small w.text w.token b.tag (asking_of AGlobal b) q s l.0 l.1 sound narrowed link kept)
    (λ r g. (tentative_small (is_tentative b) r.1 r.0 g.0 g.1, λ x c. tt))
global_declared w b spot q (Some i) z sh s l lawful kept sound narrowed link =
    post_bind (declare_linked w.text w.token b.tag (asking_of AGlobal b) q s) _ (λ r. (IsLawful r.1 × Knows s r.1) × ((Keeping r.1 × AreNarrowed r.1) × (HavePlaces r.1 × HereIn r.1.scopes w.text r.0))) Declared
    (post_both (declare_linked w.text w.token b.tag (asking_of AGlobal b) q s) (λ r. IsLawful r.1 × Knows s r.1) (λ r. (Keeping r.1 × AreNarrowed r.1) × (HavePlaces r.1 × HereIn r.1.scopes w.text r.0))
    (declared_knows s w.text w.token b.tag (asking_of AGlobal b) q l.0 lawful)
    (post_both (declare_linked w.text w.token b.tag (asking_of AGlobal b) q s) (λ r. Keeping r.1 × AreNarrowed r.1) (λ r. HavePlaces r.1 × HereIn r.1.scopes w.text r.0)
    (declare_small w.text w.token b.tag (asking_of AGlobal b) q s l.0 l.1 sound narrowed link kept) (declared_at w.text w.token b.tag (asking_of AGlobal b) q s (places_so s sound)))) (λ r g.
    let small = defined_small r.1 r.0 g.1.0.0 g.1.0.1 in
    let ready : IsReady (define_object r.0 r.1) = ((defined_kept r.1 r.0 g.0.0).0, small.0) in
    let places : HavePlaces (define_object r.0 r.1) = subst PlacesIn (sym (defined_scopes r.1 r.0)) g.1.1.0 in
    let h : HereIn (define_object r.0 r.1).scopes w.text r.0 = subst (λ c. HereIn c w.text r.0) (sym (defined_scopes r.1 r.0)) g.1.1.1 in
    let here : entity_here (define_object r.0 r.1) w.text ≡ Some (Linked r.0 h.type) = ap (option_and_then (entity_at (define_object r.0 r.1))) h.here ∙ h.there in
    let same : named_type (define_object r.0 r.1) w.text q ≡ h.type = ap (λ o. option_map_or (type_now q) o q) here in
    post_bind (object_rule (context_of w true 0) (named_type (define_object r.0 r.1) w.text q) i.init (define_object r.0 r.1)) _ (ObjectRead (define_object r.0 r.1)) Declared
    (object_read (context_of w true 0) (named_type (define_object r.0 r.1) w.text q) i.init z sh.1 (define_object r.0 r.1) ready
    (subst (IsLawfully (define_object r.0 r.1).types.records) (sym same) (ready.0.entities h.entry.place (Linked r.0 h.type) h.there))) (λ o j met.
    let grown : Grows (define_object r.0 r.1) o.1 = j.0.1 in
    let now : entity_here o.1 w.text ≡ Some (Linked r.0 h.type) = ap (option_and_then (entity_at o.1)) (grown.here w.text h.entry h.here) ∙ grown.entities h.entry.place (Linked r.0 h.type) h.there in
    let wide : AreNarrowed o.1 = narrowed_grows {s = define_object r.0 r.1} {t = o.1} places grown small.1 in
    let f = found_here o.1 w.text (Linked r.0 h.type) now in
    let known = wide f.index (w.text, f.entry) (Linked r.0 h.type) f.listed f.there in
    let alike : compatible known.0.ty o.0.ty ≡ true = sym (ap (λ x. option_map_or (λ (y : LinkedName). compatible y.ty o.0.ty) x true) known.1) ∙ truth _ met.0 in (
      initialised o.1 w.text r.0 o.0.ty h.type o.0.filled.items known.0 j.1.0.1 (places_grow (define_object r.0 r.1) o.1 places grown) wide known.1 now known.2 alike (within_kept o.1.types.records w.token o.0.ty j.1.1 met.1),
      λ x c. tt,
    )))
  where
    places_grow : (s t : State) → HavePlaces s → Grows s t → HavePlaces t
    places_grow s t h g i e at = by (Rattle.pw_law_checked.proofs.Lists.get_either s.scopes.ordinary g.more i e (subst (λ xs. slice_get xs i ≡ Some e) g.ordinary at))
      where
        by : (slice_get s.scopes.ordinary i ≡ Some e) ⊎ ((j : ℕ) × (slice_get g.more j ≡ Some e)) → (x : Entity) × (slice_get t.scopes.entities e.1.place ≡ Some x)
        by (inl f) = let y = h i e f in (y.0, g.entities e.1.place y.0 y.1)
        by (inr f) = let y = g.entered f.0 e f.1 in (y.0, y.1)

-- ---- every sort

declare_declared : (sort : Sort) (w : Word) (b : Specified) (spot : Spot) (q : QType) (i : Option Initializer) (z : List Symbol) (sh : AreShort (spell_initializer i z)) (s : State) → IsReady s → IsLawfulType s.types.records (type_of q) → Fits sort q → IsKeptFrom s.types.records (type_of q)
    → Sound None s → AreNarrowed s → AreMet (sort_point s sort spot w (is_some i) b q) → Post (declare_rule sort w b spot q i s) Declared
unfolding declare_rule bind
declare_declared ATypedef w b spot q i z sh s l lawful f kept sound narrowed met = ((entered_keeping s w.text (TypeName q) l.1 tt, narrowed_entered s w.text (TypeName q) (places_so s sound) tt narrowed), λ r c. tt)
declare_declared AFunction w b spot q i z sh s l lawful f kept sound narrowed met =
    post_bind (declare_linked w.text w.token b.tag (asking_of AFunction b) q s) _ (λ r. Keeping r.1 × AreNarrowed r.1) Declared
    (declare_small w.text w.token b.tag (asking_of AFunction b) q s l.0 l.1 sound narrowed (record { linked = λ x e. mapped is_linked (entity_here s w.text) x (truth _ met.0) e; alike = λ y e. mapped (λ (z : LinkedName). compatible z.ty q) (linked_before s w.text) y (truth _ met.1.1.0) e }) kept) (λ r g. (g, λ x c. tt))
declare_declared AGlobal w b spot q i z sh s l lawful f kept sound narrowed met = global_declared w b spot q i z sh s l lawful kept sound narrowed (record { linked = λ x e. mapped is_linked (entity_here s w.text) x (truth _ met.0) e; alike = λ y e. mapped (λ (z : LinkedName). compatible z.ty q) (linked_before s w.text) y (truth _ met.1.1.0) e })
declare_declared AnExtern w b spot q i z sh s l lawful f kept sound narrowed met =
    post_bind (declare_linked w.text w.token b.tag AsBefore q s) _ (λ r. Keeping r.1 × AreNarrowed r.1) Declared
    (declare_small w.text w.token b.tag AsBefore q s l.0 l.1 sound narrowed (record { linked = λ x e. mapped is_linked (entity_here s w.text) x (truth _ met.0) e; alike = λ y e. mapped (λ (z : LinkedName). compatible z.ty q) (linked_before s w.text) y (truth _ met.1.1.0) e }) kept) (λ r g. (g, λ x c. tt))
declare_declared AStatic w b spot q i z sh s l lawful f kept sound narrowed met = static_declared w q i z sh s l (record { lawful = lawful; object = f }) kept (places_so s sound) narrowed
declare_declared ALocal w b spot q i z sh s l lawful f kept sound narrowed met = local_declared w b q i z sh s l (record { lawful = lawful; object = f }) kept (places_so s sound) narrowed

-- a declarator's name, and what it declares
pub name_declared : (sort : Sort) (spot : Spot) (w : Word) (b : Specified) (q : QType) (i : Option Initializer) (z : List Symbol) (sh : AreShort (spell_initializer i z)) (s : State) → IsReady s → IsLawfulType s.types.records (type_of q) → Fits sort q → Sound None s → AreNarrowed s
    → Post (bind (name_rule sort spot w (is_some i) b q s) (λ v. declare_rule sort w b spot q i v.1)) Declared
unfolding name_rule bind
name_declared sort spot w b q i z sh s l lawful f sound narrowed = λ met.
    declare_declared sort w b spot q i z sh s l lawful f (within_kept s.types.records w.token q lawful (met_right (sort_point s sort spot w (is_some i) b q) _ met).1) sound narrowed (met_left (sort_point s sort spot w (is_some i) b q) _ met)
