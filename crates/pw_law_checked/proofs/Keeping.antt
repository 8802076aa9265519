-- Rules of declarations and statements: they leave a lawful state, in which no less is known of records.
use Rattle.pw_law_checked.proofs.Objects.{object_later}
use Rattle.pw_law_checked.proofs.ObjectTypes.{AreWithin, within_later}
use Rattle.pw_law_checked.proofs.Settled.{Settled, Persists, Origins, settles, origins_more, scopes_settled}
use Rattle.pw_law_checked.proofs.Outside.{Outside, AreShallow, StaysOutside, outside_same, outside_trans, outside_more, filter_within}
use Rattle.pw_types.specs.Records.{IsObjectType}
use Rattle.pw_check_rules.specs.declared.names.Slot.{Slot}
use Rattle.pw_law_checked.proofs.Composite.{Covers, covers_same, covers_trans, covers_first}
use Rattle.pw_law_checked.proofs.Sound.{Sound, Continues, continues_same, continues_trans, Filling, filling_same, IsPlain}
use Rattle.std.proofs.lemmas.Bool.{eqb-true, ltb-true}
use Rattle.pw_scope.specs.Visible.{visible}
use Rattle.std.specs.Prelude.{ℕ, ◌+◌, ◌==◌, ◌<◌, ◌≤◌, nat_lt, ◌≡◌, ◌⊎◌, Bool, true, false, Option, None, Some, unwrap_or, option_and_then, List, [], ◌∷◌, slice_get, if◌then◌else◌, refl, ◌++◌}
use Rattle.std.specs.Option.{option_map_or}
use Rattle.std.proofs.lemmas.Slice.Eq.{bytes_eq-Decides}
use Rattle.std.specs.Str.{bytes_eq}
use Rattle.std.proofs.Common.{sym, subst, ◌∙◌, inl, inr, ap, length, arith}
use Rattle.pw_types.specs.TypeTrees.{QType, Qualified, type_of, RecordValue}
use Rattle.pw_types.specs.TypedTrees.{PlacedItem, LocalValue}
use Rattle.pw_check_walk.specs.Causes.{Constraint, Point}
use Rattle.pw_check_walk.specs.Walks.{Walk, Done, Passing, bind, granted}
use Rattle.pw_check_rules.specs.Compatible.{composite}
use Rattle.pw_check_rules.specs.Linkage.{note_linked, note_here, type_here, place_for, linked_before, linked_again, linked_anew, change_linked, slot_for, has_slot, define_tentatively, define_object, define_function, initialise_linked}
use Rattle.pw_check_rules.specs.States.{State, LinkedName, place_of_linked, Rule, MadeState, BodyState, Entity, TypeName, EnumerationConstant, LocalObject, StaticObject, Linked, entity_here, entry_here, entity_at, linked_at, put_linked, add_linked, put_entity, add_slot, enter, put_at, scoped, one_deeper, leave_scope}
use Rattle.pw_check_rules.specs.declared.names.Entry.{Entry}
use Rattle.pw_check_rules.specs.declared.names.Slot.TheVariants as slot
use Rattle.pw_law_checked.specs.Lawful.{IsLawful, IsLawfulType, IsLawfulEntity, Extends, IsObjectLike}
use Rattle.pw_law_checked.proofs.Walking.{Post, AreMet, post_bind, post_weaken}
use Rattle.pw_law_checked.proofs.Lists.{get_filter, some_same, never_some, put_either, put_cases, get_more, found_first, get_append, position_passes, position_none, get_last, get_within, put_same, Longer}
use Rattle.pw_law_checked.proofs.States.{Runs, Grows}
use Rattle.pw_law_checked.proofs.Types.{extends_trans, extends_same, lawful_composite}
use Rattle.pw_law_checked.proofs.Changes.{lt_so, entered, left_lawful_alone, left_sound_alone, like_later}

abbrev pub StaysAt : State → ℕ → LinkedName → Type 0
StaysAt t place before = (after : LinkedName) × (slice_get t.types.linked place ≡ Some after) × Continues before after

-- no less is known of records, of names with linkage and of objects
pub record Knows (s t : State) : Type 0 where
  pub extends : Extends s.types.records t.types.records
  pub names : (place : ℕ) (x : LinkedName) → slice_get s.types.linked place ≡ Some x → StaysAt t place x
  pub functions : t.made.functions ≡ s.made.functions
  pub hidden : Filling s.made.hidden t.made.hidden
  pub depth : t.scopes.depth ≡ s.scopes.depth

-- the names are the same
pub knows_linked : (s t : State) → Extends s.types.records t.types.records → t.types.linked ≡ s.types.linked
    → t.made.functions ≡ s.made.functions → Filling s.made.hidden t.made.hidden → t.scopes.depth ≡ s.scopes.depth → Knows s t
knows_linked s t x same made fill deep = record {
  extends = x;
  names = λ place y e. (y, ap (λ xs. slice_get xs place) same ∙ e, continues_same y);
  functions = made;
  hidden = fill;
  depth = deep;
}

pub knows_same : (s : State) → Knows s s
knows_same s = knows_linked s s (extends_same s.types.records) refl refl (filling_same s.made.hidden) refl

pub knows_trans : {s t u : State} → Knows s t → Knows t u → Knows s u
knows_trans {s} {t} {u} a b = record {
  extends = extends_trans a.extends b.extends;
  names = λ place x e.
      let y = a.names place x e in
      let z = b.names place y.0 y.1 in
      (z.0, z.1, continues_trans y.2 z.2);
  functions = b.functions ∙ a.functions;
  hidden = λ k x e.
      let y = a.hidden k x e in
      let z = b.hidden k y.0 y.1 in
      (z.0, z.1, covers_trans z.2 y.2);
  depth = b.depth ∙ a.depth;
}

abbrev pub Changed : State → State → Type 0
Changed s t = IsLawful t × Knows s t

pub changed_trans : {s t u : State} → Changed s t → Changed t u → Changed s u
changed_trans {s} {t} {u} a b = (b.0, knows_trans a.1 b.1)

-- an entity is of the same sort, and more may be known of its type
abbrev pub Becomes : Entity → Entity → Type 0
Becomes (Linked n q) f = (r : QType) × (f ≡ Linked n r) × Covers r q
Becomes (StaticObject n q) f = (r : QType) × (f ≡ StaticObject n r) × Covers r q
Becomes _ f = IsPlain f

pub becomes_same : (e : Entity) → Becomes e e
becomes_same (TypeName q) = tt
becomes_same (EnumerationConstant n) = tt
becomes_same (LocalObject n q register) = tt
becomes_same (StaticObject n q) = (q, refl, covers_same q)
becomes_same (Linked n q) = (q, refl, covers_same q)

pub plain_stays : (f g : Entity) → IsPlain f → Becomes f g → IsPlain g
plain_stays (TypeName q) g h y = y
plain_stays (EnumerationConstant n) g h y = y
plain_stays (LocalObject n q register) g h y = y
plain_stays (StaticObject n q) g h y = absurd h
plain_stays (Linked n q) g h y = absurd h

becomes_trans : (e f g : Entity) → Becomes e f → Becomes f g → Becomes e g
becomes_trans (TypeName q) f g x y = plain_stays f g x y
becomes_trans (EnumerationConstant n) f g x y = plain_stays f g x y
becomes_trans (LocalObject n q register) f g x y = plain_stays f g x y
becomes_trans (StaticObject n q) f g x y = let z = subst (λ e. Becomes e g) x.1 y in (z.0, z.1, covers_trans z.2 x.2)
becomes_trans (Linked n q) f g x y = let z = subst (λ e. Becomes e g) x.1 y in (z.0, z.1, covers_trans z.2 x.2)

abbrev pub Keeps : List Entity → List Entity → Type 0
Keeps xs ys = (k : ℕ) (e : Entity) → slice_get xs k ≡ Some e → (f : Entity) × (slice_get ys k ≡ Some f) × Becomes e f

-- the locals of the function that is read have types that objects can have
abbrev pub AreLocals : State → Type 0
AreLocals s = (k : ℕ) (l : LocalValue) → slice_get s.body.locals k ≡ Some l → IsObjectLike s.types.records l.ty × IsObjectType s.types.records (type_of l.ty)

-- the object that is about to be stored, and the one whose initialiser is read
abbrev pub Pending : Type 0
Pending = Option Slot × Option Slot

abbrev pub nothing : Pending
nothing = (None, None)

-- No less is known; and what the parts of the state say of one another they say still, but for what is pending.
pub record AfterBy (p q : Pending) (s t : State) : Type 0 where
  pub extends : Extends s.types.records t.types.records
  pub names : (place : ℕ) (x : LinkedName) → slice_get s.types.linked place ≡ Some x → StaysAt t place x
  pub functions : t.made.functions ≡ s.made.functions
  pub hidden : Filling s.made.hidden t.made.hidden
  pub depth : t.scopes.depth ≡ s.scopes.depth
  pub entities : Sound p.0 s → Keeps s.scopes.entities t.scopes.entities
  pub sound : Sound p.0 s → Sound q.0 t
  pub locals : AreLocals s → AreLocals t
  pub within : AreWithin s.types.records s.types.linked → AreWithin t.types.records t.types.linked
  pub outside : Outside s.scopes t.scopes
  pub settled : Sound p.0 s → AreShallow s.scopes → Settled p.1 s → Settled q.1 t

abbrev pub After : State → State → Type 0
After s t = AfterBy nothing nothing s t

pub after_by : {p q : Pending} {s t : State} → Knows s t → (Sound p.0 s → Keeps s.scopes.entities t.scopes.entities) → (Sound p.0 s → Sound q.0 t) → (AreLocals s → AreLocals t)
    → (AreWithin s.types.records s.types.linked → AreWithin t.types.records t.types.linked) → Outside s.scopes t.scopes
    → (Sound p.0 s → AreShallow s.scopes → Settled p.1 s → Settled q.1 t) → AfterBy p q s t
after_by {p} {q} {s} {t} k e h locals within outside settled =
    record { extends = k.extends; names = k.names; functions = k.functions; hidden = k.hidden; depth = k.depth; entities = e; sound = h; locals = locals; within = within; outside = outside; settled = settled }

-- what is known of objects stays known
pub persists_so : {s t : State} → Knows s t → Keeps s.scopes.entities t.scopes.entities → StaysOutside s.scopes t.scopes → t.made.counting ≡ s.made.counting → Persists s t
persists_so {s} {t} k keeps stays counting = record {
  extends = k.extends;
  names = k.names;
  hidden = k.hidden;
  entities = λ i n q e. let y = keeps i (Linked n q) e in let b = y.2 in (b.0, y.1 ∙ ap Some b.1, b.2);
  outside = stays;
  counting = counting;
}

-- the same, where it is said of each name and object where it comes from
pub after_from : {p q : Pending} {s t : State} → Knows s t → (Sound p.0 s → Keeps s.scopes.entities t.scopes.entities) → (Sound p.0 s → Sound q.0 t) → (AreLocals s → AreLocals t)
    → (AreWithin s.types.records s.types.linked → AreWithin t.types.records t.types.linked) → Outside s.scopes t.scopes → t.made.counting ≡ s.made.counting
    → (Settled p.1 s → Origins p.1 q.1 s t) → AfterBy p q s t
after_from {p} {q} {s} {t} k e h locals within outside counting origins =
    after_by k e h locals within outside (λ sound shallow z. settles p.1 q.1 s t (persists_so k (e sound) (outside shallow).1 counting) (origins z) z)

pub knows_so : {p q : Pending} {s t : State} → AfterBy p q s t → Knows s t
knows_so {p} {q} {s} {t} a = record { extends = a.extends; names = a.names; functions = a.functions; hidden = a.hidden; depth = a.depth }

-- the same between external declarations, which define functions
pub record Later (s t : State) : Type 0 where
  pub extends : Extends s.types.records t.types.records
  pub names : (place : ℕ) (x : LinkedName) → slice_get s.types.linked place ≡ Some x → StaysAt t place x
  pub functions : Longer s.made.functions t.made.functions
  pub hidden : Filling s.made.hidden t.made.hidden
  pub entities : Sound None s → Keeps s.scopes.entities t.scopes.entities
  pub sound : Sound None s → Sound None t
  pub within : AreWithin s.types.records s.types.linked → AreWithin t.types.records t.types.linked
  pub outside : Outside s.scopes t.scopes
  pub settled : Sound None s → AreShallow s.scopes → Settled None s → Settled None t
  pub depth : t.scopes.depth ≡ s.scopes.depth

pub later_after : {s t : State} → After s t → Later s t
later_after {s} {t} a = record {
  extends = a.extends;
  names = a.names;
  functions = λ i f e. subst (λ xs. slice_get xs i ≡ Some f) (sym a.functions) e;
  hidden = a.hidden;
  entities = a.entities;
  sound = a.sound;
  within = a.within;
  outside = a.outside;
  settled = a.settled;
  depth = a.depth;
}

pub keeps_same : (xs : List Entity) → Keeps xs xs
keeps_same xs = λ k e h. (e, h, becomes_same e)

pub keeps_longer : (xs ys : List Entity) → Longer xs ys → Keeps xs ys
keeps_longer xs ys longer = λ k e h. (e, longer k e h, becomes_same e)

pub keeps_trans : (xs ys zs : List Entity) → Keeps xs ys → Keeps ys zs → Keeps xs zs
keeps_trans xs ys zs a b = λ k e f.
    let x = a k e f in
    let y = b k x.0 x.1 in
    (y.0, y.1, becomes_trans e x.0 y.0 x.2 y.2)

pub later_trans : {s t u : State} → Later s t → Later t u → Later s u
later_trans {s} {t} {u} a b = record {
  extends = extends_trans a.extends b.extends;
  names = λ place x e.
      let y = a.names place x e in
      let z = b.names place y.0 y.1 in
      (z.0, z.1, continues_trans y.2 z.2);
  functions = λ i f e. b.functions i f (a.functions i f e);
  hidden = λ k x e.
      let y = a.hidden k x e in
      let z = b.hidden k y.0 y.1 in
      (z.0, z.1, covers_trans z.2 y.2);
  entities = λ h. keeps_trans s.scopes.entities t.scopes.entities u.scopes.entities (a.entities h) (b.entities (a.sound h));
  sound = λ h. b.sound (a.sound h);
  within = λ h. b.within (a.within h);
  outside = outside_trans s.scopes t.scopes u.scopes a.outside b.outside;
  settled = λ h shallow z. b.settled (a.sound h) (a.outside shallow).0 (a.settled h shallow z);
  depth = b.depth ∙ a.depth;
}

pub after_same : {p : Pending} (s : State) → AfterBy p p s s
after_same s = after_by (knows_same s) (λ h. keeps_same s.scopes.entities) (λ h. h) (λ h. h) (λ h. h) (outside_same s.scopes) (λ h shallow z. z)

pub after_trans : {p q r : Pending} {s t u : State} → AfterBy p q s t → AfterBy q r t u → AfterBy p r s u
after_trans {p} {q} {r} {s} {t} {u} a b =
    after_by (knows_trans (knows_so a) (knows_so b))
    (λ h. keeps_trans s.scopes.entities t.scopes.entities u.scopes.entities (a.entities h) (b.entities (a.sound h)))
    (λ h. b.sound (a.sound h)) (λ h. b.locals (a.locals h)) (λ h. b.within (a.within h)) (outside_trans s.scopes t.scopes u.scopes a.outside b.outside)
    (λ h shallow z. b.settled (a.sound h) (a.outside shallow).0 (a.settled h shallow z))

grows_locals : {s t : State} → Grows s t → AreLocals s → AreLocals t
grows_locals {s} {t} g h k l e =
    let x = h k l (subst (λ b. slice_get b.locals k ≡ Some l) g.body e) in
    (like_later g.extends x.0, object_later s.types.records t.types.records g.extends (type_of l.ty) x.1)

pub after_grows : {p : Pending} {s t : State} → Grows s t → AfterBy p p s t
after_grows {p} {s} {t} g =
    after_from (knows_linked s t g.extends g.linked g.functions (λ k x e. (x, g.hidden k x e, covers_same x.ty)) g.depth)
    (λ h. keeps_longer s.scopes.entities t.scopes.entities g.entities) (λ h. g.sound p.0 h) (λ h. grows_locals g h)
    (λ h. subst (AreWithin t.types.records) (sym g.linked) (within_later s.types.records t.types.records s.types.linked g.extends h))
    (outside_more s.scopes t.scopes g.more g.ordinary g.depth g.deep g.here) g.counting (λ z. origins_more p.1 s t g.linked g.objects)

abbrev pub KeptBy : Pending → Pending → State → State → Type 0
KeptBy p q s t = IsLawful t × AfterBy p q s t

abbrev pub Kept : State → State → Type 0
Kept s t = KeptBy nothing nothing s t

pub kept_trans : {p q r : Pending} {s t u : State} → KeptBy p q s t → KeptBy q r t u → KeptBy p r s u
kept_trans {p} {q} {r} {s} {t} {u} a b = (b.0, after_trans a.1 b.1)

abbrev pub GoesBy : {A : Type 0} → Pending → Pending → State → Walk (A × State) → (State → A → Type 0) → Type 0
GoesBy p q s w Good = Post w (λ r. IsLawful r.1 × AfterBy p q s r.1 × Good r.1 r.0)

abbrev pub Goes : {A : Type 0} → State → Walk (A × State) → (State → A → Type 0) → Type 0
Goes s w Good = GoesBy nothing nothing s w Good

pub goes_between : {A B : Type 0} (p q o : Pending) {s : State} (w : Walk (A × State)) (next : A × State → Walk (B × State))
    (Good : State → A → Type 0) (Best : State → B → Type 0) → GoesBy p q s w Good
    → ((r : A × State) → IsLawful r.1 → AfterBy p q s r.1 → Good r.1 r.0 → GoesBy q o r.1 (next r) Best) → GoesBy p o s (bind w next) Best
goes_between {A} {B} p q o {s} w next Good Best h k =
    post_bind w next (λ r. IsLawful r.1 × AfterBy p q s r.1 × Good r.1 r.0) (λ r. IsLawful r.1 × AfterBy p o s r.1 × Best r.1 r.0) h
    (λ r g. post_weaken (next r) (λ u. IsLawful u.1 × AfterBy q o r.1 u.1 × Best u.1 u.0) (λ u. IsLawful u.1 × AfterBy p o s u.1 × Best u.1 u.0)
    (k r g.0 g.1 g.2) (λ u f. (f.0, after_trans g.1 f.1, f.2)))

pub goes_by : {A B : Type 0} {s : State} (w : Walk (A × State)) (next : A × State → Walk (B × State))
    (Good : State → A → Type 0) (Best : State → B → Type 0) → Goes s w Good
    → ((r : A × State) → IsLawful r.1 → After s r.1 → Good r.1 r.0 → Goes r.1 (next r) Best) → Goes s (bind w next) Best
goes_by {A} {B} {s} w next Good Best h k = goes_between nothing nothing nothing w next Good Best h k

pub of_runs : {A : Type 0} (s : State) (w : Walk (A × State)) (Good : State → A → Type 0) → Runs s w Good → Goes s w Good
of_runs {A} s w Good h = post_weaken w (λ r. IsLawful r.1 × Grows s r.1 × Good r.1 r.0) (λ r. IsLawful r.1 × After s r.1 × Good r.1 r.0) h (λ r g. (g.0, after_grows g.1, g.2))

pub weaker : {A : Type 0} (s : State) (w : Walk (A × State)) (Good Best : State → A → Type 0) → Goes s w Good → ((t : State) (a : A) → Good t a → Best t a) → Goes s w Best
weaker {A} s w Good Best h k =
    post_weaken w (λ r. IsLawful r.1 × After s r.1 × Good r.1 r.0) (λ r. IsLawful r.1 × After s r.1 × Best r.1 r.0) h (λ r g. (g.0, g.1, k r.1 r.0 g.2))

-- a change of the state, and then another rule
pub from_kept : {A : Type 0} {s t : State} (w : Walk (A × State)) (Good : State → A → Type 0) → Kept s t → Goes t w Good → Goes s w Good
from_kept {A} {s} {t} w Good k h =
    post_weaken w (λ r. IsLawful r.1 × After t r.1 × Good r.1 r.0) (λ r. IsLawful r.1 × After s r.1 × Good r.1 r.0) h
    (λ r g. (g.0, after_trans k.1 g.1, g.2))

abbrev pub Anything : {A : Type 0} → State → A → Type 0
Anything s a = Unit {0}

pub granted_goes : {A : Type 0} (s : State) (constraint : Constraint) (token : ℕ) (p : Point) (o : Option A) → IsLawful s → Goes s (granted constraint token p o s) Anything
granted_goes s constraint token p None l = λ met. tt
granted_goes s constraint token p (Some a) l = λ met. (l, after_same s, tt)

-- ---- what is made and the function that is read

-- the state stays lawful whatever was made
pub around : (s : State) (made : MadeState) (body : BodyState) → IsLawful s → made.functions ≡ s.made.functions
    → IsLawful (record { types = s.types; scopes = s.scopes; made = made; body = body }) × Unit {0}
around s made body l same = (
  record { contents = l.contents; begun = l.begun; counted = l.counted; entities = l.entities; tags = l.tags; linked = l.linked; laid = l.laid; apart = l.apart; depths = l.depths },
  tt,
)

pub around_filling : (s : State) (made : MadeState) (body : BodyState) → IsLawful s → made.functions ≡ s.made.functions → Filling s.made.hidden made.hidden → Changed s (record { types = s.types; scopes = s.scopes; made = made; body = body })
around_filling s made body l same fill = (
  record { contents = l.contents; begun = l.begun; counted = l.counted; entities = l.entities; tags = l.tags; linked = l.linked; laid = l.laid; apart = l.apart; depths = l.depths },
  knows_linked s (record { types = s.types; scopes = s.scopes; made = made; body = body }) (extends_same s.types.records) refl same fill refl,
)

-- ---- names with linkage

pub linked_put : (s : State) (place : ℕ) (x : LinkedName) → IsLawful s → IsLawfulType s.types.records (type_of x.ty)
    → ((y : LinkedName) → slice_get s.types.linked place ≡ Some y → Continues y x) → Changed s (put_linked place x s)
linked_put s place x l h from = (
  record {
    contents = l.contents;
    begun = l.begun;
    counted = l.counted;
    entities = l.entities;
    tags = l.tags;
    linked = λ i y e. by i y (put_cases place x s.types.linked i y e);
    laid = l.laid;
    apart = λ i j y z e f same.
        let a = original i y (put_cases place x s.types.linked i y e) in
        let b = original j z (put_cases place x s.types.linked j z f) in
        l.apart i j a.0 b.0 a.1 b.1 (sym a.2 ∙ (same ∙ b.2));
    depths = l.depths;
  },
  record {
    extends = extends_same s.types.records;
    names = λ i y e. stays i y e (put_either place x s.types.linked i);
    functions = refl;
    hidden = filling_same s.made.hidden;
    depth = refl;
  },
)
  where
    by : (i : ℕ) (y : LinkedName) → ((i ≡ place) × (x ≡ y) × ((z : LinkedName) × (slice_get s.types.linked place ≡ Some z))) ⊎ (slice_get s.types.linked i ≡ Some y)
        → IsLawfulType s.types.records (type_of y.ty)
    by i y (inl g) = subst (λ (z : LinkedName). IsLawfulType s.types.records (type_of z.ty)) g.1 h
    by i y (inr g) = l.linked i y g

    original : (i : ℕ) (y : LinkedName) → ((i ≡ place) × (x ≡ y) × ((z : LinkedName) × (slice_get s.types.linked place ≡ Some z))) ⊎ (slice_get s.types.linked i ≡ Some y)
        → (z : LinkedName) × (slice_get s.types.linked i ≡ Some z) × (y.name ≡ z.name)
    original i y (inl g) =
        (g.2.0, subst (λ k. slice_get s.types.linked k ≡ Some g.2.0) (sym g.0) g.2.1, ap (λ (z : LinkedName). z.name) (sym g.1) ∙ (from g.2.0 g.2.1).name)
    original i y (inr g) = (y, g, refl)

    stays : (i : ℕ) (y : LinkedName) → slice_get s.types.linked i ≡ Some y
        → ((i ≡ place) × (slice_get (put_at place x s.types.linked) i ≡ Some x)) ⊎ (slice_get (put_at place x s.types.linked) i ≡ slice_get s.types.linked i)
        → StaysAt (put_linked place x s) i y
    stays i y e (inl g) = (x, g.1, from y (subst (λ k. slice_get s.types.linked k ≡ Some y) g.0 e))
    stays i y e (inr g) = (y, g ∙ e, continues_same y)

pub linked_added : (s : State) (x : LinkedName) → IsLawful s → IsLawfulType s.types.records (type_of x.ty)
    → ((i : ℕ) (y : LinkedName) → slice_get s.types.linked i ≡ Some y → y.name ≡ x.name → ⊥) → Changed s (add_linked x s)
linked_added s x l h fresh = (
  record {
    contents = l.contents;
    begun = l.begun;
    counted = l.counted;
    entities = l.entities;
    tags = l.tags;
    linked = λ i y e. by i y (get_more s.types.linked x i y e);
    laid = l.laid;
    apart = λ i j y z e f same. two i j y z (get_more s.types.linked x i y e) (get_more s.types.linked x j z f) same;
    depths = l.depths;
  },
  record {
    extends = extends_same s.types.records;
    names = λ i y e. (y, get_append s.types.linked (x ∷ []) i y e, continues_same y);
    functions = refl;
    hidden = filling_same s.made.hidden;
    depth = refl;
  },
)
  where
    by : (i : ℕ) (y : LinkedName) → (slice_get s.types.linked i ≡ Some y) ⊎ ((i ≡ length s.types.linked) × (x ≡ y)) → IsLawfulType s.types.records (type_of y.ty)
    by i y (inl g) = l.linked i y g
    by i y (inr g) = subst (λ (z : LinkedName). IsLawfulType s.types.records (type_of z.ty)) g.1 h

    two : (i j : ℕ) (y z : LinkedName) → (slice_get s.types.linked i ≡ Some y) ⊎ ((i ≡ length s.types.linked) × (x ≡ y))
        → (slice_get s.types.linked j ≡ Some z) ⊎ ((j ≡ length s.types.linked) × (x ≡ z)) → y.name ≡ z.name → i ≡ j
    two i j y z (inl g) (inl k) same = l.apart i j y z g k same
    two i j y z (inl g) (inr k) same = absurd (fresh i y g (same ∙ ap (λ (w : LinkedName). w.name) (sym k.1)))
    two i j y z (inr g) (inl k) same = absurd (fresh j z k (sym same ∙ ap (λ (w : LinkedName). w.name) (sym g.1)))
    two i j y z (inr g) (inr k) same = g.0 ∙ sym k.0

pub entity_put : (s : State) (place : ℕ) (x : Entity) → IsLawful s → IsLawfulEntity s.types.records x → Changed s (put_entity place x s)
entity_put s place x l h = (
  record {
    contents = l.contents;
    begun = l.begun;
    counted = l.counted;
    entities = λ i y e. by i y e (put_either place x s.scopes.entities i);
    tags = l.tags;
    linked = l.linked;
    laid = l.laid;
    apart = l.apart;
    depths = l.depths;
  },
  knows_linked s (put_entity place x s) (extends_same s.types.records) refl refl (filling_same s.made.hidden) refl,
)
  where
    by : (i : ℕ) (y : Entity) → slice_get (put_at place x s.scopes.entities) i ≡ Some y
        → ((i ≡ place) × (slice_get (put_at place x s.scopes.entities) i ≡ Some x)) ⊎ (slice_get (put_at place x s.scopes.entities) i ≡ slice_get s.scopes.entities i)
        → IsLawfulEntity s.types.records y
    by i y e (inl g) = subst (IsLawfulEntity s.types.records) (some_same (sym g.1 ∙ e)) h
    by i y e (inr g) = l.entities i y (sym g ∙ e)

pub entered_kept : (s : State) (name : List ℕ) (x : Entity) → IsLawful s → IsLawfulEntity s.types.records x → Changed s (enter name x s)
entered_kept s name x l h = (entered s name x l h, knows_linked s (enter name x s) (extends_same s.types.records) refl refl (filling_same s.made.hidden) refl)

pub composite_lawful : (r : List RecordValue) (a b : QType) → IsLawfulType r (type_of a) → IsLawfulType r (type_of b) → IsLawfulType r (type_of (composite a b))
unfolding composite
composite_lawful r (Qualified a c v) (Qualified b d w) h k = lawful_composite r a b h k

pub and_then_is : {A B : Type 0} (f : A → Option B) (o : Option A) (y : B) → option_and_then f o ≡ Some y → (x : A) × (f x ≡ Some y)
and_then_is f None y e = never_some e
and_then_is f (Some x) y e = (x, e)

linked_is : (s : State) (name : List ℕ) (x : LinkedName) → IsLawful s → linked_before s name ≡ Some x → IsLawfulType s.types.records (type_of x.ty)
linked_is s name x l e = let p = and_then_is (linked_at s) (place_of_linked s name) x e in l.linked p.0 x p.1

-- a name that has no place is that of none
pub none_named : (s : State) (name : List ℕ) → linked_before s name ≡ None → (i : ℕ) (y : LinkedName) → slice_get s.types.linked i ≡ Some y → y.name ≡ name → ⊥
none_named s name none i y e same =
    found_first (λ (l : LinkedName). bytes_eq l.name name) s.types.linked i y e ((bytes_eq-Decides y.name name).1 same) none

-- the place of a name that has one
pub place_is : (s : State) (name : List ℕ) (x : LinkedName) → linked_before s name ≡ Some x → slice_get s.types.linked (place_for s name) ≡ Some x
place_is s name x e = by (place_of_linked s name) e
  where
    by : (o : Option ℕ) → option_and_then (linked_at s) o ≡ Some x → slice_get s.types.linked (unwrap_or o (length s.types.linked)) ≡ Some x
    by None f = never_some f
    by (Some n) f = f

pub noted : (s : State) (name : List ℕ) (internal : Bool) (ty : QType) (token : ℕ) (tag : Option ℕ) → IsLawful s → IsLawfulType s.types.records (type_of ty)
    → Changed s (note_linked name internal ty token tag s)
noted s name internal ty token tag l h = by (linked_before s name) refl
  where
    by : (o : Option LinkedName) → linked_before s name ≡ o
        → Changed s (option_map_or (λ x. put_linked (place_for s name) (linked_again ty x) s) o (add_linked (linked_anew name internal ty token tag) s))
    by None e = linked_added s (linked_anew name internal ty token tag) l h (none_named s name e)
    by (Some x) e =
        linked_put s (place_for s name) (linked_again ty x) l (composite_lawful s.types.records x.ty ty (linked_is s name x l e) h)
        (λ y f. subst (λ (z : LinkedName). Continues z (linked_again ty x)) (some_same (sym (place_is s name x e) ∙ f)) (record { name = refl; internal = refl; tentative = λ q. q; defined = λ q. q; covers = covers_first s.types.records x.ty ty (linked_is s name x l e) }))

pub here_is : (s : State) (name : List ℕ) (x : Entity) → IsLawful s → entity_here s name ≡ Some x → IsLawfulEntity s.types.records x
here_is s name x l e = let p = and_then_is (entity_at s) (entry_here s name) x e in l.entities p.0.place x p.1

type_here_lawful : (r : List RecordValue) (ty : QType) (x : Entity) → IsLawfulType r (type_of ty) → IsLawfulEntity r x → IsLawfulType r (type_of (type_here ty x))
type_here_lawful r ty (Linked n before) h k = composite_lawful r before ty k h
type_here_lawful r ty (TypeName q) h k = h
type_here_lawful r ty (EnumerationConstant n) h k = h
type_here_lawful r ty (LocalObject n q register) h k = h
type_here_lawful r ty (StaticObject n q) h k = h

pub noted_here : (s : State) (name : List ℕ) (place : ℕ) (ty : QType) → IsLawful s → IsLawfulType s.types.records (type_of ty) → Changed s (note_here name place ty s)
noted_here s name place ty l h = by_entry (entry_here s name)
  where
    entity : IsLawfulType s.types.records (type_of (type_here ty (unwrap_or (entity_here s name) (TypeName ty))))
    entity = by_entity (entity_here s name) refl
      where
        by_entity : (o : Option Entity) → entity_here s name ≡ o → IsLawfulType s.types.records (type_of (type_here ty (unwrap_or o (TypeName ty))))
        by_entity None e = h
        by_entity (Some x) e = type_here_lawful s.types.records ty x h (here_is s name x l e)

    by_entry : (o : Option Entry)
        → Changed s (option_map_or (λ (e : Entry). put_entity e.place (Linked place (type_here ty (unwrap_or (entity_here s name) (TypeName ty)))) s) o (enter name (Linked place ty) s))
    by_entry None = entered_kept s name (Linked place ty) l h
    by_entry (Some e) = entity_put s e.place (Linked place (type_here ty (unwrap_or (entity_here s name) (TypeName ty)))) l entity

-- at the place stands the name
abbrev pub NamedAt : List ℕ → State → ℕ → Type 0
NamedAt name t place = (l : LinkedName) × (slice_get t.types.linked place ≡ Some l) × (l.name ≡ name)

pub named_before : (s : State) (name : List ℕ) (x : LinkedName) → linked_before s name ≡ Some x → x.name ≡ name
named_before s name x e = by (place_of_linked s name) refl e
  where
    by : (o : Option ℕ) → place_of_linked s name ≡ o → option_and_then (linked_at s) o ≡ Some x → x.name ≡ name
    by None f g = never_some g
    by (Some n) f g = (bytes_eq-Decides x.name name).0 (position_passes (λ (l : LinkedName). bytes_eq l.name name) s.types.linked n x f g)

pub place_new : (s : State) (name : List ℕ) → linked_before s name ≡ None → place_for s name ≡ length s.types.linked
place_new s name none = ap (λ o. unwrap_or o (length s.types.linked)) (position_none (λ (l : LinkedName). bytes_eq l.name name) s.types.linked none)

noted_at : (s : State) (name : List ℕ) (internal : Bool) (ty : QType) (token : ℕ) (tag : Option ℕ) → NamedAt name (note_linked name internal ty token tag s) (place_for s name)
noted_at s name internal ty token tag = by (linked_before s name) refl
  where
    by : (o : Option LinkedName) → linked_before s name ≡ o
        → NamedAt name (option_map_or (λ x. put_linked (place_for s name) (linked_again ty x) s) o (add_linked (linked_anew name internal ty token tag) s)) (place_for s name)
    by None e = (
      linked_anew name internal ty token tag,
      subst (λ k. slice_get (s.types.linked ++ linked_anew name internal ty token tag ∷ []) k ≡ Some (linked_anew name internal ty token tag)) (sym (place_new s name e))
          (get_last s.types.linked (linked_anew name internal ty token tag)),
      refl,
    )
    by (Some x) e =
        (linked_again ty x, put_same (place_for s name) (linked_again ty x) s.types.linked (get_within s.types.linked (place_for s name) x (place_is s name x e)), named_before s name x e)

pub here_linked : (s : State) (name : List ℕ) (place : ℕ) (ty : QType) → (note_here name place ty s).types.linked ≡ s.types.linked
here_linked s name place ty = by (entry_here s name)
  where
    by : (o : Option Entry) → (option_map_or (λ (e : Entry). put_entity e.place (Linked place (type_here ty (unwrap_or (entity_here s name) (TypeName ty)))) s) o (enter name (Linked place ty) s)).types.linked ≡ s.types.linked
    by None = refl
    by (Some e) = refl

pub linked_changed : (s : State) (place : ℕ) (f : LinkedName → LinkedName) → IsLawful s
    → ((x : LinkedName) → IsLawfulType s.types.records (type_of x.ty) → IsLawfulType s.types.records (type_of (f x).ty))
    → ((x : LinkedName) → IsLawfulType s.types.records (type_of x.ty) → Continues x (f x)) → Changed s (change_linked place f s)
linked_changed s place f l h from = by (linked_at s place) refl
  where
    by : (o : Option LinkedName) → linked_at s place ≡ o → Changed s (option_map_or (λ x. put_linked place (f x) s) o s)
    by None e = (l, knows_same s)
    by (Some x) e = linked_put s place (f x) l (h x (l.linked place x e)) (λ y g. subst (λ (z : LinkedName). Continues z (f x)) (some_same (sym e ∙ g)) (from x (l.linked place x e)))

pub slot_kept : (s : State) (place : ℕ) → IsLawful s → Changed s (slot_for place s)
slot_kept s place l = by (has_slot s place)
  where
    by : (b : Bool) → Changed s (if b then s else add_slot (slot.Named place) s)
    by true = (l, knows_same s)
    by false = around_filling s (add_slot (slot.Named place) s).made s.body l refl (filling_same s.made.hidden)

pub tentative_kept : (s : State) (place : ℕ) → IsLawful s → Changed s (define_tentatively place s)
tentative_kept s place l =
    let a : Changed s (slot_for place s) = slot_kept s place l in
    changed_trans {s = s} {t = slot_for place s} {u = define_tentatively place s} a (linked_changed (slot_for place s) place (λ x. record x { tentative = true }) a.0 (λ x h. h) (λ x h. record { name = refl; internal = refl; tentative = λ q. refl; defined = λ q. q; covers = covers_same x.ty }))

pub defined_kept : (s : State) (place : ℕ) → IsLawful s → Changed s (define_object place s)
defined_kept s place l =
    let a : Changed s (slot_for place s) = slot_kept s place l in
    changed_trans {s = s} {t = slot_for place s} {u = define_object place s} a (linked_changed (slot_for place s) place (λ x. record x { defined = true }) a.0 (λ x h. h) (λ x h. record { name = refl; internal = refl; tentative = λ q. q; defined = λ q. refl; covers = covers_same x.ty }))

pub function_kept : (s : State) (place : ℕ) → IsLawful s → Changed s (define_function place s)
function_kept s place l = linked_changed s place (λ x. record x { defined = true }) l (λ x h. h) (λ x h. record { name = refl; internal = refl; tentative = λ q. q; defined = λ q. refl; covers = covers_same x.ty })

pub initialised_kept : (s : State) (place : ℕ) (q : QType) (items : List PlacedItem) → IsLawful s → IsLawfulType s.types.records (type_of q) → Changed s (initialise_linked place q items s)
initialised_kept s place q items l k =
    linked_changed s place (λ x. record x { ty = composite x.ty q; items = items }) l (λ x h. composite_lawful s.types.records x.ty q h k) (λ x h. record { name = refl; internal = refl; tentative = λ q. q; defined = λ q. q; covers = covers_first s.types.records x.ty q h })

-- ---- scopes

-- depths say nothing of what is sound
pub deeper_sound : {p : Option Slot} {s : State} → Sound p s → Sound p (one_deeper s)
deeper_sound {p} {s} h = record { backed = h.backed; spelled = h.spelled; functions = h.functions; slots = h.slots }

pub shallow_sound : {p : Option Slot} {s : State} → Sound p (one_deeper s) → Sound p s
shallow_sound {p} {s} h = record { backed = h.backed; spelled = h.spelled; functions = h.functions; slots = h.slots }

pub deeper_settled : {u : Option Slot} {s : State} → Settled u s → Settled u (one_deeper s)
deeper_settled {u} {s} z = scopes_settled u s (one_deeper s) refl refl refl (λ name e f. f) z

pub shallow_settled : {u : Option Slot} {s : State} → Settled u (one_deeper s) → Settled u s
shallow_settled {u} {s} z = scopes_settled u (one_deeper s) s refl refl refl (λ name e f. f) z

-- inside a scope
pub scope_after : (s t : State) → After (one_deeper s) t → After s (leave_scope t)
scope_after s t a =
    after_by (record {
      extends = a.extends;
      names = a.names;
      functions = a.functions;
      hidden = a.hidden;
      depth = let e : t.scopes.depth ≡ s.scopes.depth + 1 = a.depth in omega (arith, e);
    })
    (λ h. a.entities (deeper_sound h)) (λ h. left_sound_alone t None (a.sound (deeper_sound h))) a.locals a.within (λ h. outside h)
    (λ h shallow z. left_settled (a.settled (deeper_sound h) (deeper shallow) (deeper_settled z)))
  where
    deeper : AreShallow s.scopes → AreShallow (one_deeper s).scopes
    deeper h i e f = let k : e.1.depth ≤ s.scopes.depth = h i e f in omega (arith, k)

    stays : StaysOutside t.scopes (leave_scope t).scopes
    stays name e f =
        let deep : t.scopes.depth ≡ s.scopes.depth + 1 = a.depth in
        ap (λ xs. visible xs name)
        (filter_within (λ (y : List ℕ × Entry). y.1.depth == 0) (λ (y : List ℕ × Entry). nat_lt y.1.depth t.scopes.depth) t.scopes.ordinary
        (λ i y g z. let zero : y.1.depth ≡ 0 = eqb-true y.1.depth 0 z in lt_so y.1.depth t.scopes.depth (omega (arith, zero, deep)))) ∙ f

    left_settled : Settled None t → Settled None (leave_scope t)
    left_settled z = scopes_settled None t (leave_scope t) refl refl refl stays z

    outside : AreShallow s.scopes → AreShallow (leave_scope t).scopes × StaysOutside s.scopes (leave_scope t).scopes
    outside h =
        let x = a.outside (deeper h) in
        let deep : t.scopes.depth ≡ s.scopes.depth + 1 = a.depth in (
          (λ i e f.
              let k = get_filter (λ (y : List ℕ × Entry). nat_lt y.1.depth t.scopes.depth) t.scopes.ordinary i e f in
              let m : e.1.depth < t.scopes.depth = ltb-true e.1.depth t.scopes.depth k.2 in
              omega (arith, m)),
          (λ name e f. stays name e (x.1 name e f)),
        )

pub scoped_goes : {A : Type 0} (s : State) (inside : Rule A) → IsLawful s → Goes (one_deeper s) (inside (one_deeper s)) Anything → Goes s (scoped inside s) Anything
unfolding scoped bind
scoped_goes {A} s inside l h =
    post_bind (inside (one_deeper s)) _ (λ r. IsLawful r.1 × After (one_deeper s) r.1 × Unit {0}) (λ r. IsLawful r.1 × After s r.1 × Unit {0}) h
    (λ r g. (left_lawful_alone r.1 g.0, scope_after s r.1 g.1, tt))

-- ---- steps that are no rules of their own

-- a change of the state before another rule
pub changed : {A B : Type 0} {s t : State} (a : A) (next : A × State → Walk (B × State)) (Best : State → B → Type 0) → Kept s t → Goes t (next (a, t)) Best
    → Goes s (bind (Done (a, t)) next) Best
unfolding bind
changed {A} {B} {s} {t} a next Best k h = from_kept (next (a, t)) Best k h

pub asked : {A B : Type 0} (s : State) (a : A) (next : A × State → Walk (B × State)) (Best : State → B → Type 0) → Goes s (next (a, s)) Best → Goes s (bind (Done (a, s)) next) Best
unfolding bind
asked s a next Best h = h

pub met_first : {B : Type 0} (s : State) (p : Point) (next : Unit {0} × State → Walk (B × State)) (Best : State → B → Type 0) → (AreMet p → Goes s (next (tt, s)) Best)
    → Goes s (bind (Passing p (Done (tt, s))) next) Best
unfolding bind
met_first s p next Best h = h
