-- Names with linkage: the type that a name has in its scope keeps the limits (ISO C90 5.2.4.1), since it is compatible with each that it is
-- declared with there (6.1.2.6).
use Rattle.std.specs.Prelude.{ℕ, ◌≡◌, ◌⊎◌, Bool, true, false, Option, None, Some, option_and_then, unwrap_or, List, [], ◌∷◌, ◌++◌, slice_get, length, refl}
use Rattle.std.specs.Option.{option_map_or}
use Rattle.std.proofs.Common.{ap, sym, subst, ◌∙◌, inl, inr}
use Rattle.pw_types.specs.TypeTrees.{QType, Qualified, type_of, RecordValue}
use Rattle.pw_check_rules.specs.Compatible.{compatible, composite, composite_type}
use Rattle.pw_check_rules.specs.Linkage.{linked_before, linked_again, linked_anew, place_for, note_linked, note_here, type_here}
use Rattle.pw_check_rules.specs.States.{State, LinkedName, Entity, TypeName, EnumerationConstant, LocalObject, StaticObject, Linked, enter, put_at, put_entity, put_linked, add_linked, entity_at, entity_here, entry_here, entry_of, if_here}
use Rattle.pw_check_rules.specs.declared.names.Entry.{Entry}
use Rattle.pw_law_checked.specs.Lawful.{IsLawful}
use Rattle.pw_law_checked.proofs.Lists.{some_same, never_some, and_then_some, get_append, get_either, get_one, get_last, get_within, put_either, put_same}
use Rattle.pw_law_checked.proofs.Sound.{Sound, Spelled}
use Rattle.pw_law_checked.proofs.States.{Grows, IsConstant}
use Rattle.pw_law_checked.proofs.Keeping.{place_is, place_new, named_before, none_named}
use Rattle.pw_law_checked.proofs.Declaring.{Linkable, visible_named}
use Rattle.pw_law_checked.proofs.Composite.{types_compatible}
use Rattle.pw_law_checked.proofs.Sizes.{IsKeptFrom, kept_composite}
use Rattle.pw_law_checked.proofs.SmallLeaves.{IsKeptEntity, Keeping}
use Rattle.pw_law_checked.proofs.SmallPhrases.{entered_keeping}
use Rattle.pw_law_checked.proofs.SmallDeclarations.{put_keeping}
use Rattle.pw_law_checked.proofs.Wider.{Wider, wider_composite, wider_second, wider_composites}

-- ---- states

-- what all declarations of a name say is narrower than what those in one scope do
abbrev pub IsNarrowed : List LinkedName → Entity → Type 0
IsNarrowed linked (Linked n q) = (l : LinkedName) × (slice_get linked n ≡ Some l) × Wider l.ty q
IsNarrowed linked _ = Unit {0}

abbrev pub AreNarrowed : State → Type 0
AreNarrowed s = (i : ℕ) (e : List ℕ × Entry) (x : Entity) → slice_get s.scopes.ordinary i ≡ Some e → slice_get s.scopes.entities e.1.place ≡ Some x → IsNarrowed s.types.linked x

-- more is known of the names with linkage
abbrev pub Narrows : List LinkedName → List LinkedName → Type 0
Narrows xs ys = (n : ℕ) (l : LinkedName) → slice_get xs n ≡ Some l → (m : LinkedName) × (slice_get ys n ≡ Some m) × Wider m.ty l.ty

pub narrowed_on : (xs ys : List LinkedName) → Narrows xs ys → (x : Entity) → IsNarrowed xs x → IsNarrowed ys x
narrowed_on xs ys on (Linked n q) h = let y = on n h.0 h.1 in (y.0, y.1, λ t e. h.2 t (y.2 t e))
narrowed_on xs ys on (TypeName q) h = tt
narrowed_on xs ys on (EnumerationConstant k) h = tt
narrowed_on xs ys on (LocalObject k q register) h = tt
narrowed_on xs ys on (StaticObject k q) h = tt

pub put_narrows : (n : ℕ) (l m : LinkedName) (xs : List LinkedName) → slice_get xs n ≡ Some l → Wider m.ty l.ty → Narrows xs (put_at n m xs)
put_narrows n l m xs at w = λ k x e. by k x e (put_either n m xs k)
  where
    by : (k : ℕ) (x : LinkedName) → slice_get xs k ≡ Some x → ((k ≡ n) × (slice_get (put_at n m xs) k ≡ Some m)) ⊎ (slice_get (put_at n m xs) k ≡ slice_get xs k)
        → (y : LinkedName) × (slice_get (put_at n m xs) k ≡ Some y) × Wider y.ty x.ty
    by k x e (inl g) = (m, g.1, subst (λ (y : LinkedName). Wider m.ty y.ty) (some_same (sym at ∙ (ap (slice_get xs) (sym g.0) ∙ e))) w)
    by k x e (inr g) = (x, g ∙ e, λ t h. h)

constant_narrowed : (linked : List LinkedName) (x : Entity) → IsConstant x → IsNarrowed linked x
constant_narrowed linked (EnumerationConstant n) h = tt
constant_narrowed linked (TypeName q) h = absurd h
constant_narrowed linked (LocalObject k q register) h = absurd h
constant_narrowed linked (StaticObject k q) h = absurd h
constant_narrowed linked (Linked k q) h = absurd h

-- each name in scope has its entity
abbrev pub HavePlaces : State → Type 0
HavePlaces s = (i : ℕ) (e : List ℕ × Entry) → slice_get s.scopes.ordinary i ≡ Some e → (x : Entity) × (slice_get s.scopes.entities e.1.place ≡ Some x)

pub places_so : (s : State) → Sound None s → HavePlaces s
places_so s sound i e at = let y = sound.spelled i e at in (y.0, y.1)

-- expressions and types declare no name with linkage
pub narrowed_grows : {s t : State} → HavePlaces s → Grows s t → AreNarrowed s → AreNarrowed t
narrowed_grows {s} {t} places g h i e x at there = by (get_either s.scopes.ordinary g.more i e (subst (λ xs. slice_get xs i ≡ Some e) g.ordinary at))
  where
    by : (slice_get s.scopes.ordinary i ≡ Some e) ⊎ ((j : ℕ) × (slice_get g.more j ≡ Some e)) → IsNarrowed t.types.linked x
    by (inl f) =
        let y = places i e f in
        let same : y.0 ≡ x = some_same (sym (g.entities e.1.place y.0 y.1) ∙ there) in
        subst (λ xs. IsNarrowed xs x) (sym g.linked) (h i e x f (subst (λ z. slice_get s.scopes.entities e.1.place ≡ Some z) same y.1))
    by (inr f) = let y = g.entered f.0 e f.1 in constant_narrowed t.types.linked x (subst IsConstant (some_same (sym y.1 ∙ there)) y.2)

-- a name is entered
pub narrowed_entered : (s : State) (name : List ℕ) (x : Entity) → HavePlaces s → IsNarrowed s.types.linked x → AreNarrowed s → AreNarrowed (enter name x s)
narrowed_entered s name x places new h i e y at there = by (get_either s.scopes.ordinary ((name, record { place = length s.scopes.entities; depth = s.scopes.depth }) ∷ []) i e at)
  where
    by : (slice_get s.scopes.ordinary i ≡ Some e) ⊎ ((j : ℕ) × (slice_get ((name, record { place = length s.scopes.entities; depth = s.scopes.depth }) ∷ []) j ≡ Some e)) → IsNarrowed s.types.linked y
    by (inl f) =
        let z = places i e f in
        let same : z.0 ≡ y = some_same (sym (get_append s.scopes.entities (x ∷ []) e.1.place z.0 z.1) ∙ there) in
        h i e y f (subst (λ w. slice_get s.scopes.entities e.1.place ≡ Some w) same z.1)
    by (inr f) =
        let is = get_one (name, record { place = length s.scopes.entities; depth = s.scopes.depth }) f.0 e f.1 in
        subst (IsNarrowed s.types.linked) (some_same (sym (get_last s.scopes.entities x) ∙ (ap (λ (p : List ℕ × Entry). slice_get (s.scopes.entities ++ x ∷ []) p.1.place) is ∙ there))) new

-- an entity is another
pub narrowed_put : (s : State) (place : ℕ) (x : Entity) → IsNarrowed s.types.linked x → AreNarrowed s → AreNarrowed (put_entity place x s)
narrowed_put s place x new h i e y at there = by (put_either place x s.scopes.entities e.1.place)
  where
    by : ((e.1.place ≡ place) × (slice_get (put_at place x s.scopes.entities) e.1.place ≡ Some x)) ⊎ (slice_get (put_at place x s.scopes.entities) e.1.place ≡ slice_get s.scopes.entities e.1.place) → IsNarrowed s.types.linked y
    by (inl f) = subst (IsNarrowed s.types.linked) (some_same (sym f.1 ∙ there)) new
    by (inr f) = h i e y at (sym f ∙ there)

-- ---- a declaration of a name with linkage

-- the name in the state, with what its declarations say: it covers the type, and what the scope has of the name is compatible with it
pub record Meets (s : State) (name : List ℕ) (place : ℕ) (ty : QType) : Type 0 where
  pub linked : LinkedName
  pub there : slice_get s.types.linked place ≡ Some linked
  pub narrow : Wider linked.ty ty
  pub before : (n : ℕ) (q : QType) → entity_here s name ≡ Some (Linked n q) → (compatible q ty ≡ true) × Wider linked.ty (composite q ty)

kept_both : (r : List RecordValue) (a b : QType) → IsKeptFrom r (type_of a) → IsKeptFrom r (type_of b) → compatible a b ≡ true → IsKeptFrom r (type_of (composite a b))
unfolding composite_type
kept_both r (Qualified a c v) (Qualified b d w) h k e = λ x laid later. kept_composite x a b (h x laid later) (k x laid later) (types_compatible a b c v d w e).0

here_kept : (s : State) (name : List ℕ) (place : ℕ) (ty : QType) (x : Entity) → Meets s name place ty → IsKeptFrom s.types.records (type_of ty) → entity_here s name ≡ Some x → IsKeptEntity s.types.records x
    → IsKeptEntity s.types.records (Linked place (type_here ty x)) × IsNarrowed s.types.linked (Linked place (type_here ty x))
here_kept s name place ty (Linked n q) m k e h = let y = m.before n q e in (kept_both s.types.records q ty h k y.0, (m.linked, m.there, y.1))
here_kept s name place ty (TypeName q) m k e h = (k, (m.linked, m.there, m.narrow))
here_kept s name place ty (EnumerationConstant n) m k e h = (k, (m.linked, m.there, m.narrow))
here_kept s name place ty (LocalObject n q register) m k e h = (k, (m.linked, m.there, m.narrow))
here_kept s name place ty (StaticObject n q) m k e h = (k, (m.linked, m.there, m.narrow))

pub note_small : (s : State) (name : List ℕ) (place : ℕ) (ty : QType) → Keeping s → HavePlaces s → AreNarrowed s → Meets s name place ty → IsKeptFrom s.types.records (type_of ty)
    → Keeping (note_here name place ty s) × AreNarrowed (note_here name place ty s)
note_small s name place ty keep places narrowed m k = by (entry_here s name) refl
  where
    known : (e : Entry) (o : Option Entity) → slice_get s.scopes.entities e.place ≡ o → entity_here s name ≡ o
        → IsKeptEntity s.types.records (Linked place (type_here ty (unwrap_or o (TypeName ty)))) × IsNarrowed s.types.linked (Linked place (type_here ty (unwrap_or o (TypeName ty))))
    known e None f g = (k, (m.linked, m.there, m.narrow))
    known e (Some x) f g = here_kept s name place ty x m k g (keep.entities e.place x f)

    by : (o : Option Entry) → entry_here s name ≡ o
        → Keeping (option_map_or (λ (e : Entry). put_entity e.place (Linked place (type_here ty (unwrap_or (entity_here s name) (TypeName ty)))) s) o (enter name (Linked place ty) s))
        × AreNarrowed (option_map_or (λ (e : Entry). put_entity e.place (Linked place (type_here ty (unwrap_or (entity_here s name) (TypeName ty)))) s) o (enter name (Linked place ty) s))
    by None e = (entered_keeping s name (Linked place ty) keep k, narrowed_entered s name (Linked place ty) places (m.linked, m.there, m.narrow) narrowed)
    by (Some y) e =
        let here : entity_here s name ≡ slice_get s.scopes.entities y.place = ap (option_and_then (entity_at s)) e in
        let z = subst (λ o. IsKeptEntity s.types.records (Linked place (type_here ty (unwrap_or o (TypeName ty)))) × IsNarrowed s.types.linked (Linked place (type_here ty (unwrap_or o (TypeName ty))))) (sym here)
        (known y (slice_get s.scopes.entities y.place) refl here) in
        (put_keeping s y.place (Linked place (type_here ty (unwrap_or (entity_here s name) (TypeName ty)))) keep z.0, narrowed_put s y.place (Linked place (type_here ty (unwrap_or (entity_here s name) (TypeName ty)))) z.1 narrowed)

-- where a name of the scope stands
pub record FoundHere (s : State) (name : List ℕ) (x : Entity) : Type 0 where
  pub index : ℕ
  pub entry : Entry
  pub listed : slice_get s.scopes.ordinary index ≡ Some (name, entry)
  pub there : slice_get s.scopes.entities entry.place ≡ Some x

in_scope : (depth : ℕ) (e f : Entry) → if_here depth e ≡ Some f → e ≡ f
in_scope depth e f = by (Rattle.std.specs.Prelude.◌==◌ e.depth depth)
  where
    by : (b : Bool) → (Rattle.std.specs.Prelude.if◌then◌else◌ b (Some e) None) ≡ Some f → e ≡ f
    by true g = some_same g
    by false g = never_some g

pub found_here : (s : State) (name : List ℕ) (x : Entity) → entity_here s name ≡ Some x → FoundHere s name x
found_here s name x e =
    let a = and_then_some (entity_at s) (entry_here s name) x e in
    let b = and_then_some (if_here s.scopes.depth) (entry_of s name) a.0 a.1 in
    let v = visible_named s.scopes.ordinary name b.0 b.1 in
    record { index = v.0; entry = b.0; listed = v.1; there = subst (λ (y : Entry). slice_get s.scopes.entities y.place ≡ Some x) (sym (in_scope s.scopes.depth b.0 a.0 b.2)) a.2 }

spelled_here : (s : State) (name : List ℕ) (x : Entity) → Sound None s → FoundHere s name x → Spelled s.types.linked name x
spelled_here s name x sound f =
    let y = sound.spelled f.index (name, f.entry) f.listed in
    subst (Spelled s.types.linked name) (some_same (sym y.1 ∙ f.there)) y.2

-- what was known of the name is known of its place
linked_here : (s : State) (name : List ℕ) (l : LinkedName) (n : ℕ) (q : QType) → IsLawful s → Sound None s → AreNarrowed s → linked_before s name ≡ Some l → entity_here s name ≡ Some (Linked n q) → Wider l.ty q
linked_here s name l n q lawful sound narrowed before here =
    let f = found_here s name (Linked n q) here in
    let spelled = spelled_here s name (Linked n q) sound f in
    let known = narrowed f.index (name, f.entry) (Linked n q) f.listed f.there in
    let same : n ≡ place_for s name = lawful.apart n (place_for s name) spelled.0 l spelled.1 (place_is s name l before) (spelled.2 ∙ sym (named_before s name l before)) in
    subst (λ (y : LinkedName). Wider y.ty q) (some_same (sym known.1 ∙ (ap (slice_get s.types.linked) same ∙ place_is s name l before))) known.2

pub noted_small : (s : State) (name : List ℕ) (internal : Bool) (ty : QType) (token : ℕ) (tag : Option ℕ) → IsLawful s → Keeping s → Sound None s → AreNarrowed s → Linkable s name ty
    → (Keeping (note_linked name internal ty token tag s) × HavePlaces (note_linked name internal ty token tag s)) × (AreNarrowed (note_linked name internal ty token tag s) × Meets (note_linked name internal ty token tag s) name (place_for s name) ty)
noted_small s name internal ty token tag lawful keep sound narrowed link = by (linked_before s name) refl
  where
    by : (o : Option LinkedName) → linked_before s name ≡ o
        → (Keeping (option_map_or (λ l. put_linked (place_for s name) (linked_again ty l) s) o (add_linked (linked_anew name internal ty token tag) s)) × HavePlaces (option_map_or (λ l. put_linked (place_for s name) (linked_again ty l) s) o (add_linked (linked_anew name internal ty token tag) s)))
        × (AreNarrowed (option_map_or (λ l. put_linked (place_for s name) (linked_again ty l) s) o (add_linked (linked_anew name internal ty token tag) s)) × Meets (option_map_or (λ l. put_linked (place_for s name) (linked_again ty l) s) o (add_linked (linked_anew name internal ty token tag) s)) name (place_for s name) ty)
    by None e = (
      (record { entities = keep.entities; members = keep.members; strings = keep.strings }, places_so s sound),
      (
        λ i x y at there. narrowed_on s.types.linked (s.types.linked ++ linked_anew name internal ty token tag ∷ []) (λ n l f. (l, get_append s.types.linked (linked_anew name internal ty token tag ∷ []) n l f, λ t h. h)) y (narrowed i x y at there),
        record {
          linked = linked_anew name internal ty token tag;
          there = subst (λ k. slice_get (s.types.linked ++ linked_anew name internal ty token tag ∷ []) k ≡ Some (linked_anew name internal ty token tag)) (sym (place_new s name e)) (get_last s.types.linked (linked_anew name internal ty token tag));
          narrow = λ t h. h;
          before = λ n q here. let z = spelled_here s name (Linked n q) sound (found_here s name (Linked n q) here) in absurd (none_named s name e n z.0 z.1 z.2);
        },
      ),
    )
    by (Some l) e =
        let at : slice_get s.types.linked (place_for s name) ≡ Some l = place_is s name l e in
        let alike : compatible l.ty ty ≡ true = link.alike l e in (
          (record { entities = keep.entities; members = keep.members; strings = keep.strings }, places_so s sound),
          (
            λ i x y f there. narrowed_on s.types.linked (put_at (place_for s name) (linked_again ty l) s.types.linked) (put_narrows (place_for s name) l (linked_again ty l) s.types.linked at (wider_composite l.ty ty)) y (narrowed i x y f there),
            record {
              linked = linked_again ty l;
              there = put_same (place_for s name) (linked_again ty l) s.types.linked (get_within s.types.linked (place_for s name) l at);
              narrow = wider_second l.ty ty alike;
              before = λ n q here. let w = linked_here s name l n q lawful sound narrowed e here in (w ty alike, wider_composites l.ty q ty w alike);
            },
          ),
        )

-- a declaration of a name with linkage
pub declare_small : (name : List ℕ) (token : ℕ) (tag : Option ℕ) (asking : Rattle.pw_check_rules.specs.Linkage.Asking) (ty : QType) (s : State) → IsLawful s → Keeping s → Sound None s → AreNarrowed s → Linkable s name ty
    → IsKeptFrom s.types.records (type_of ty) → Rattle.pw_law_checked.proofs.Walking.Post (Rattle.pw_check_rules.specs.Linkage.declare_linked name token tag asking ty s) (λ r. Keeping r.1 × AreNarrowed r.1)
unfolding Rattle.pw_check_rules.specs.Linkage.declare_linked Rattle.pw_check_walk.specs.Walks.bind
declare_small name token tag asking ty s lawful keep sound narrowed link k =
    let x = noted_small s name (Rattle.pw_check_rules.specs.Linkage.is_internal_by s name asking) ty token tag lawful keep sound narrowed link in
    note_small (note_linked name (Rattle.pw_check_rules.specs.Linkage.is_internal_by s name asking) ty token tag s) name (place_for s name) ty x.0.0 x.0.1 x.1.0 x.1.1
    (subst (λ r. IsKeptFrom r (type_of ty)) (sym (same_records s name (Rattle.pw_check_rules.specs.Linkage.is_internal_by s name asking) ty token tag)) k)
  where
    same_records : (s : State) (name : List ℕ) (internal : Bool) (ty : QType) (token : ℕ) (tag : Option ℕ) → (note_linked name internal ty token tag s).types.records ≡ s.types.records
    same_records s name internal ty token tag = by (linked_before s name)
      where
        by : (o : Option LinkedName) → (option_map_or (λ l. put_linked (place_for s name) (linked_again ty l) s) o (add_linked (linked_anew name internal ty token tag) s)).types.records ≡ s.types.records
        by None = refl
        by (Some l) = refl
