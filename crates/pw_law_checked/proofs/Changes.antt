-- Changes of the state: each leaves it lawful, and forgets nothing.
use Rattle.pw_law_checked.proofs.Settled.{IsString}
use Rattle.std.proofs.lemmas.Slice.Eq.{bytes_eq-Decides}
use Rattle.std.specs.Str.{bytes_eq}
use Rattle.pw_scope.specs.Visible.{visible}
use Rattle.pw_check_rules.specs.declared.names.Slot.{Slot}
use Rattle.pw_law_checked.proofs.Composite.{covers_same}
use Rattle.pw_law_checked.proofs.Sound.{Sound, Backed, Spelled, IsPlain, plain_backed, plain_spelled, backed_more, spelled_more, all_backed_on, slots_hidden, continues_same}
use Rattle.std.specs.Prelude.{set, ℕ, zero, suc, ◌≡◌, ◌+◌, ◌<◌, ◌≤◌, ◌⊎◌, nat_lt, Bool, true, false, Option, None, Some, option_and_then, List, [], ◌∷◌, ◌++◌, length, filter, slice_get, refl, ◌-◌, if◌then◌else◌}
use Rattle.std.proofs.Common.{arith, ap, sym, subst, ◌∙◌, inl, inr, append-nil, length-append}
use Rattle.std.proofs.lemmas.Bool.{ltb-true, ltb-false}
use Rattle.pw_types.specs.declared.record.RecordKind.{RecordKind}
use Rattle.pw_types.specs.Layouts.{content_at}
use Rattle.pw_types.specs.Records.{IsLaid, Follows, declared, defined, kind_at}
use Rattle.pw_types.specs.declared.record.RecordKind.TheVariants.{Structure}
use Rattle.pw_types.proofs.RecordLemmas.{IsLaid-declare, IsLaid-define}
use Rattle.std.specs.Option.{option_map_or}
use Rattle.pw_types.specs.TypeTrees.{QType, type_of, MemberValue, ContentValue, RecordValue}
use Rattle.pw_check_walk.specs.Walks.{bind}
use Rattle.pw_check_rules.specs.Leaves.{open_record}
use Rattle.pw_check_rules.specs.States.{State, Rule, Entity, TypeName, EnumerationConstant, LocalObject, StaticObject, Linked, HiddenObject, enter, enter_tag, add_record, put_record, add_hidden, with_made, one_deeper, leave_scope, scoped, uncounted, put_at, entry_here, if_here}
use Rattle.pw_check_rules.specs.declared.names.Entry.{Entry}
use Rattle.pw_check_rules.specs.declared.names.Tag.{Tag}
use Rattle.pw_check_rules.specs.declared.names.Tag.TheVariants as G
use Rattle.pw_check_rules.specs.declared.names.TagEntry.{TagEntry}
use Rattle.pw_law_checked.specs.Lawful.{IsLawful, IsObjectLike, HasLawfulMembers, IsLawfulEntity, IsLawfulTag, Extends}
use Rattle.pw_law_checked.proofs.Walking.{post_bind}
use Rattle.pw_law_checked.proofs.States.{GrowsBy, Grows, Runs, Widens, Widely, IsConstant}
use Rattle.pw_law_checked.proofs.Lists.{some_same, never_some, get_append, get_either, get_one, get_last, get_within, get_filter, filter_front, length_put, put_same, put_either, visible_more, get_more}
use Rattle.pw_law_checked.proofs.Types.{extends_trans, extends_same, lawful_later}

-- ---- what is lawful stays lawful

pub like_later : {a b : List RecordValue} {q : QType} → Extends a b → IsObjectLike a q → IsObjectLike b q
like_later {a} {b} {q} e h = record { lawful = lawful_later a b e (type_of q) h.lawful; object = h.object }

pub entity_later : (a b : List RecordValue) → Extends a b → (e : Entity) → IsLawfulEntity a e → IsLawfulEntity b e
entity_later a b x (TypeName q) h = lawful_later a b x (type_of q) h
entity_later a b x (EnumerationConstant n) h = tt
entity_later a b x (LocalObject k q register) h = like_later x h
entity_later a b x (StaticObject k q) h = like_later x h
entity_later a b x (Linked n q) h = lawful_later a b x (type_of q) h

pub tag_later : (a b : List RecordValue) → Extends a b → (t : Tag) → IsLawfulTag a t → IsLawfulTag b t
tag_later a b x (G.Record n) h = let k = x.longer in omega (arith, h, k)
tag_later a b x G.Enumeration h = tt

content_by : (xs ys : List RecordValue) (n : ℕ) → slice_get xs n ≡ slice_get ys n → content_at xs n ≡ content_at ys n
content_by xs ys n e = ap (λ o. option_and_then (λ (r : RecordValue). r.content) o) e

get_front : {X : Type 0} (xs ys : List X) (n : ℕ) → n < length xs → slice_get (xs ++ ys) n ≡ slice_get xs n
get_front [] ys n h = grind arith
get_front (x ∷ xs) ys zero h = refl
get_front (x ∷ xs) ys (suc n) h = get_front xs ys n (omega (arith, h))

content_within : (xs : List RecordValue) (n : ℕ) (c : ContentValue) → content_at xs n ≡ Some c → n < length xs
content_within [] n c e = never_some e
content_within (r ∷ xs) zero c e = omega arith
content_within (r ∷ xs) (suc n) c e = let h : n < length xs = content_within xs n c e in omega (arith, h)

-- ---- a type more

-- of a type that is not defined yet nothing is known
content_of_more : (kind : RecordKind) (xs : List RecordValue) (n : ℕ) (c : ContentValue) → content_at (xs ++ declared kind ∷ []) n ≡ Some c → content_at xs n ≡ Some c
content_of_more kind [] zero c e = never_some e
content_of_more kind [] (suc n) c e = never_some e
content_of_more kind (r ∷ xs) zero c e = e
content_of_more kind (r ∷ xs) (suc n) c e = content_of_more kind xs n c e

more_records : (kind : RecordKind) (xs : List RecordValue) → Extends xs (xs ++ declared kind ∷ [])
more_records kind xs = record {
  longer = let h : length (xs ++ declared kind ∷ []) ≡ length xs + 1 = length-append xs (declared kind ∷ []) in omega (arith, h);
  kept = λ n c e. content_by (xs ++ declared kind ∷ []) xs n (get_front xs (declared kind ∷ []) n (content_within xs n c e)) ∙ e;
}

laid_more : (kind : RecordKind) (xs : List RecordValue) → IsLaid xs → IsLaid (xs ++ declared kind ∷ [])
laid_more kind xs h = IsLaid-declare xs kind h

pub record_added : (s : State) (kind : RecordKind) → IsLawful s → IsLawful (add_record (declared kind) s)
record_added s kind l = record {
  contents = λ n c e i m h.
      like_later (more_records kind s.types.records) (l.contents n c (content_of_more kind s.types.records n c e) i m h);
  begun = λ n c e. get_append s.types.opened (false ∷ []) n true (l.begun n c (content_of_more kind s.types.records n c e));
  counted =
      length-append s.types.opened (false ∷ []) ∙ (ap (λ n. n + 1) l.counted ∙ sym (length-append s.types.records (declared kind ∷ [])));
  entities = λ k e h. entity_later s.types.records (s.types.records ++ declared kind ∷ []) (more_records kind s.types.records) e (l.entities k e h);
  tags = λ i t h. tag_later s.types.records (s.types.records ++ declared kind ∷ []) (more_records kind s.types.records) t.1.tag (l.tags i t h);
  linked = λ i x h. lawful_later s.types.records (s.types.records ++ declared kind ∷ []) (more_records kind s.types.records) (type_of x.ty) (l.linked i x h);
  laid = laid_more kind s.types.records l.laid;
  apart = l.apart;
  depths = l.depths;
}

pub record_grows : (s : State) (kind : RecordKind) → IsLawful s → Grows s (add_record (declared kind) s)
record_grows s kind l = record {
  extends = more_records kind s.types.records;
  begun = λ n e. (
    get_append s.types.opened (false ∷ []) n true e,
    get_front s.types.records (declared kind ∷ []) n (subst (λ k. n < k) l.counted (get_within s.types.opened n true e)),
  );
  linked = refl;
  entities = λ i x e. e;
  depth = refl;
  more = [];
  ordinary = sym (append-nil s.scopes.ordinary);
  deep = λ i e h. never_some h;
  entered = λ i e h. never_some h;
  hidden = λ i x e. e;
  objects = λ k h e. inl e;
  counting = refl;
  body = refl;
  functions = refl;
  here = λ name e h. h;
  sound = λ pending h. record { backed = h.backed; spelled = h.spelled; functions = h.functions; slots = h.slots };
}

-- ---- names and tags more

pub entered : (s : State) (name : List ℕ) (entity : Entity) → IsLawful s → IsLawfulEntity s.types.records entity → IsLawful (enter name entity s)
entered s name entity l h = record {
  contents = l.contents;
  begun = l.begun;
  counted = l.counted;
  entities = λ k e g. by_place k e (get_either s.scopes.entities (entity ∷ []) k e g);
  tags = l.tags;
  linked = l.linked;
  laid = l.laid;
  apart = l.apart;
  depths = λ i e g. by_entry i e (get_either s.scopes.ordinary ((name, record { place = length s.scopes.entities; depth = s.scopes.depth }) ∷ []) i e g);
}
  where
    by_place : (k : ℕ) (e : Entity) → (slice_get s.scopes.entities k ≡ Some e) ⊎ ((j : ℕ) × (slice_get (entity ∷ []) j ≡ Some e)) → IsLawfulEntity s.types.records e
    by_place k e (inl g) = l.entities k e g
    by_place k e (inr g) = subst (IsLawfulEntity s.types.records) (get_one entity g.0 e g.1) h

    by_entry : (i : ℕ) (e : List ℕ × Entry)
        → (slice_get s.scopes.ordinary i ≡ Some e) ⊎ ((j : ℕ) × (slice_get ((name, record { place = length s.scopes.entities; depth = s.scopes.depth }) ∷ []) j ≡ Some e))
        → e.1.depth ≤ s.scopes.depth
    by_entry i e (inl g) = l.depths i e g
    by_entry i e (inr g) =
        let same : s.scopes.depth ≡ e.1.depth =
        ap (λ (x : List ℕ × Entry). x.1.depth) (get_one (name, record { place = length s.scopes.entities; depth = s.scopes.depth }) g.0 e g.1) in
        omega (arith, same)

-- the names that are declared in the scope stay so
pub entered_here : (s : State) (name : List ℕ) (entity : Entity) → entry_here s name ≡ None → (other : List ℕ) (e : Entry) → entry_here s other ≡ Some e
    → entry_here (enter name entity s) other ≡ Some e
entered_here s name entity fresh other e h =
    ap (option_and_then (if_here s.scopes.depth)) (visible_more s.scopes.ordinary name (record { place = length s.scopes.entities; depth = s.scopes.depth }) other) ∙ by (bytes_eq other name) refl
  where
    by : (b : Bool) → bytes_eq other name ≡ b
        → option_and_then (if_here s.scopes.depth) (if b then Some (record { place = length s.scopes.entities; depth = s.scopes.depth }) else visible s.scopes.ordinary other) ≡ Some e
    by true f = never_some (sym fresh ∙ (ap (entry_here s) (sym ((bytes_eq-Decides other name).0 f)) ∙ h))
    by false f = h

pub entered_sound : (s : State) (name : List ℕ) (entity : Entity) (pending : Option Slot) → Sound pending s → Backed s.types.linked s.made.hidden entity → Spelled s.types.linked name entity
    → Sound pending (enter name entity s)
entered_sound s name entity pending h b p = record {
  backed = backed_more s.types.linked s.made.hidden s.scopes.entities entity h.backed b;
  spelled = spelled_more s.types.linked s.scopes.entities s.scopes.ordinary entity name s.scopes.depth h.spelled p;
  functions = h.functions;
  slots = h.slots;
}

pub entered_grows : (P : Entity → Type 0) (s : State) (name : List ℕ) (entity : Entity) → P entity → IsPlain entity → entry_here s name ≡ None → GrowsBy P IsString s (enter name entity s)
entered_grows P s name entity good plain fresh = record {
  extends = extends_same s.types.records;
  begun = λ n e. (e, refl);
  linked = refl;
  entities = λ i x e. get_append s.scopes.entities (entity ∷ []) i x e;
  depth = refl;
  more = (name, record { place = length s.scopes.entities; depth = s.scopes.depth }) ∷ [];
  ordinary = refl;
  deep = λ i e h. sym (ap (λ (x : List ℕ × Entry). x.1.depth) (get_one (name, record { place = length s.scopes.entities; depth = s.scopes.depth }) i e h));
  entered = λ i e h.
      let same : length s.scopes.entities ≡ e.1.place =
      ap (λ (x : List ℕ × Entry). x.1.place) (get_one (name, record { place = length s.scopes.entities; depth = s.scopes.depth }) i e h) in
      (entity, subst (λ k. slice_get (s.scopes.entities ++ entity ∷ []) k ≡ Some entity) same (get_last s.scopes.entities entity), good);
  hidden = λ i x e. e;
  objects = λ k h e. inl e;
  counting = refl;
  body = refl;
  functions = refl;
  here = λ n e h. entered_here s name entity fresh n e h;
  sound = λ pending h. entered_sound s name entity pending h (plain_backed s.types.linked s.made.hidden entity plain) (plain_spelled s.types.linked name entity plain);
}

pub tagged : (s : State) (name : List ℕ) (tag : Tag) → IsLawful s → IsLawfulTag s.types.records tag → IsLawful (enter_tag name tag s)
tagged s name tag l h = record {
  contents = l.contents;
  begun = l.begun;
  counted = l.counted;
  entities = l.entities;
  tags = λ i t g. by_place i t (get_either s.scopes.tags ((name, record { tag = tag; depth = s.scopes.depth }) ∷ []) i t g);
  linked = l.linked;
  laid = l.laid;
  apart = l.apart;
  depths = l.depths;
}
  where
    by_place : (i : ℕ) (t : List ℕ × TagEntry)
        → (slice_get s.scopes.tags i ≡ Some t) ⊎ ((j : ℕ) × (slice_get ((name, record { tag = tag; depth = s.scopes.depth }) ∷ []) j ≡ Some t))
        → IsLawfulTag s.types.records t.1.tag
    by_place i t (inl g) = l.tags i t g
    by_place i t (inr g) =
        subst (IsLawfulTag s.types.records)
        (ap (λ (x : List ℕ × TagEntry). x.1.tag) (get_one (name, record { tag = tag; depth = s.scopes.depth }) g.0 t g.1)) h

pub tagged_grows : (s : State) (name : List ℕ) (tag : Tag) → Grows s (enter_tag name tag s)
tagged_grows s name tag = record {
  extends = extends_same s.types.records;
  begun = λ n e. (e, refl);
  linked = refl;
  entities = λ i x e. e;
  depth = refl;
  more = [];
  ordinary = sym (append-nil s.scopes.ordinary);
  deep = λ i e h. never_some h;
  entered = λ i e h. never_some h;
  hidden = λ i x e. e;
  objects = λ k h e. inl e;
  counting = refl;
  body = refl;
  functions = refl;
  here = λ name e h. h;
  sound = λ pending h. record { backed = h.backed; spelled = h.spelled; functions = h.functions; slots = h.slots };
}

-- ---- hidden objects

pub hidden_added : (s : State) (h : HiddenObject) → IsLawful s → IsLawful (add_hidden h s)
hidden_added s h l = record { contents = l.contents; begun = l.begun; counted = l.counted; entities = l.entities; tags = l.tags; linked = l.linked; laid = l.laid; apart = l.apart; depths = l.depths }

pub hidden_sound : (s : State) (h : HiddenObject) (pending : Option Slot) → Sound pending s → Sound pending (add_hidden h s)
hidden_sound s h pending y = record {
  backed = all_backed_on s.types.linked s.types.linked s.made.hidden (s.made.hidden ++ h ∷ []) s.scopes.entities (λ n x e. (x, e, continues_same x)) (λ n x e. (x, get_append s.made.hidden (h ∷ []) n x e, covers_same x.ty)) y.backed;
  spelled = y.spelled;
  functions = y.functions;
  slots = slots_hidden pending s.types.linked s.made.hidden s.made.slots h y.slots;
}

pub hidden_grows : (P : HiddenObject → Type 0) (s : State) (h : HiddenObject) → P h → GrowsBy IsConstant P s (add_hidden h s)
hidden_grows P s h good = record {
  extends = extends_same s.types.records;
  begun = λ n e. (e, refl);
  linked = refl;
  entities = λ i x e. e;
  depth = refl;
  more = [];
  ordinary = sym (append-nil s.scopes.ordinary);
  deep = λ i e h. never_some h;
  entered = λ i e h. never_some h;
  hidden = λ i x e. get_append s.made.hidden (h ∷ []) i x e;
  objects = λ k x e. by k x (get_more s.made.hidden h k x e);
  counting = refl;
  body = refl;
  functions = refl;
  here = λ name e h. h;
  sound = λ pending y. hidden_sound s h pending y;
}
  where
    by : (k : ℕ) (x : HiddenObject) → (slice_get s.made.hidden k ≡ Some x) ⊎ ((k ≡ length s.made.hidden) × (h ≡ x)) → (slice_get s.made.hidden k ≡ Some x) ⊎ P x
    by k x (inl e) = inl e
    by k x (inr e) = inr (subst P e.1 good)

-- ---- a record is begun, and defined

-- begun in the second state, and not in the first; it is not defined
pub record Opened (s t : State) (kind : RecordKind) (n : ℕ) : Type 0 where
  pub there : n < length t.types.records
  pub begun : slice_get t.types.opened n ≡ Some true
  pub unknown : content_at t.types.records n ≡ None
  pub kind_is : kind_at t.types.records n ≡ kind
  pub fresh : slice_get s.types.opened n ≡ Some true → ⊥

-- a record of which no member is known may be begun
pub record Closed (t : State) (kind : RecordKind) (n : ℕ) : Type 0 where
  pub there : n < length t.types.records
  pub unknown : content_at t.types.records n ≡ None
  pub kind_is : kind_at t.types.records n ≡ kind
  pub fresh : slice_get t.types.opened n ≡ Some true → ⊥

opened_before : (s : State) (n k : ℕ) → slice_get s.types.opened k ≡ Some true → n < length s.types.opened → slice_get (put_at n true s.types.opened) k ≡ Some true
opened_before s n k e h = by (put_either n true s.types.opened k)
  where
    by : ((k ≡ n) × (slice_get (put_at n true s.types.opened) k ≡ Some true)) ⊎ (slice_get (put_at n true s.types.opened) k ≡ slice_get s.types.opened k)
        → slice_get (put_at n true s.types.opened) k ≡ Some true
    by (inl g) = g.1
    by (inr g) = g ∙ e

pub opening_lawful : (s : State) (kind : RecordKind) (n : ℕ) → IsLawful s → Closed s kind n → IsLawful (open_record n s)
opening_lawful s kind n l c = record {
  contents = l.contents;
  begun = λ k x e. opened_before s n k (l.begun k x e) (subst (λ m. n < m) (sym l.counted) c.there);
  counted = length_put n true s.types.opened ∙ l.counted;
  entities = l.entities;
  tags = l.tags;
  linked = l.linked;
  laid = l.laid;
  apart = l.apart;
  depths = l.depths;
}

pub opening_grows : (s : State) (kind : RecordKind) (n : ℕ) → IsLawful s → Closed s kind n → Grows s (open_record n s)
opening_grows s kind n l c = record {
  extends = extends_same s.types.records;
  begun = λ k e. (opened_before s n k e (subst (λ m. n < m) (sym l.counted) c.there), refl);
  linked = refl;
  entities = λ i x e. e;
  depth = refl;
  more = [];
  ordinary = sym (append-nil s.scopes.ordinary);
  deep = λ i e h. never_some h;
  entered = λ i e h. never_some h;
  hidden = λ i x e. e;
  objects = λ k h e. inl e;
  counting = refl;
  body = refl;
  functions = refl;
  here = λ name e h. h;
  sound = λ pending h. record { backed = h.backed; spelled = h.spelled; functions = h.functions; slots = h.slots };
}

pub opened_now : (s t : State) (kind : RecordKind) (n : ℕ) → IsLawful t → Closed t kind n → (slice_get s.types.opened n ≡ Some true → ⊥) → Opened s (open_record n t) kind n
opened_now s t kind n l c fresh = record {
  there = c.there;
  begun = put_same n true t.types.opened (subst (λ m. n < m) (sym l.counted) c.there);
  unknown = c.unknown;
  kind_is = c.kind_is;
  fresh = fresh;
}

pub opened_later : {s t u : State} {kind : RecordKind} {n : ℕ} → Grows t u → Opened s t kind n → Opened s u kind n
opened_later {s} {t} {u} {kind} {n} g o = record {
  there = let h = g.extends.longer in let k = o.there in omega (arith, h, k);
  begun = (g.begun n o.begun).0;
  unknown = content_by u.types.records t.types.records n (g.begun n o.begun).1 ∙ o.unknown;
  kind_is = ap (λ x. option_map_or (λ (r : RecordValue). r.kind) x Structure) (g.begun n o.begun).1 ∙ o.kind_is;
  fresh = o.fresh;
}

never_none : {X A : Type 0} {o : Option X} {x : X} → o ≡ None → o ≡ Some x → A
never_none {X} {A} {o} {x} e f = never_some (sym e ∙ f)

define_extends : (kind : RecordKind) (c : ContentValue) (n : ℕ) (xs : List RecordValue) → content_at xs n ≡ None → Extends xs (put_at n (defined kind c) xs)
define_extends kind c n xs unknown = record {
  longer = let h : length (put_at n (defined kind c) xs) ≡ length xs = length_put n (defined kind c) xs in omega (arith, h);
  kept = λ k x e. by k x e (put_either n (defined kind c) xs k);
}
  where
    by : (k : ℕ) (x : ContentValue) → content_at xs k ≡ Some x
        → ((k ≡ n) × (slice_get (put_at n (defined kind c) xs) k ≡ Some (defined kind c))) ⊎ (slice_get (put_at n (defined kind c) xs) k ≡ slice_get xs k)
        → content_at (put_at n (defined kind c) xs) k ≡ Some x
    by k x e (inl g) = never_none (subst (λ i. content_at xs i ≡ None) (sym g.0) unknown) e
    by k x e (inr g) = content_by (put_at n (defined kind c) xs) xs k g ∙ e

-- what is then known of each record: it was known, or is what was put
define_known : (kind : RecordKind) (c : ContentValue) (n : ℕ) (xs : List RecordValue) (k : ℕ) (x : ContentValue)
    → content_at (put_at n (defined kind c) xs) k ≡ Some x → ((k ≡ n) × (c ≡ x)) ⊎ (content_at xs k ≡ Some x)
define_known kind c n xs k x e = by (put_either n (defined kind c) xs k)
  where
    by : ((k ≡ n) × (slice_get (put_at n (defined kind c) xs) k ≡ Some (defined kind c))) ⊎ (slice_get (put_at n (defined kind c) xs) k ≡ slice_get xs k)
        → ((k ≡ n) × (c ≡ x)) ⊎ (content_at xs k ≡ Some x)
    by (inl g) = inl (g.0, some_same (sym (ap (λ o. option_and_then (λ (r : RecordValue). r.content) o) g.1) ∙ e))
    by (inr g) = inr (sym (content_by (put_at n (defined kind c) xs) xs k g) ∙ e)

put_set : {X : Type 0} (n : ℕ) (x : X) (xs : List X) → put_at n x xs ≡ set xs n x
put_set n x [] = refl
put_set zero x (y ∷ xs) = refl
put_set (suc n) x (y ∷ xs) = ap (λ ys. y ∷ ys) (put_set n x xs)

-- of what nothing is known, only the kind is
undefined_is : (r : RecordValue) → r.content ≡ None → r ≡ declared r.kind
undefined_is r e = ap (λ o. record { kind = r.kind; content = o }) e

undefined_at : (n : ℕ) (xs : List RecordValue) → n < length xs → content_at xs n ≡ None → slice_get xs n ≡ Some (declared (kind_at xs n))
undefined_at n [] h e = grind arith
undefined_at zero (r ∷ xs) h e = ap Some (undefined_is r e)
undefined_at (suc n) (r ∷ xs) h e = undefined_at n xs (omega (arith, h)) e

laid_define : (kind : RecordKind) (c : ContentValue) (n : ℕ) (xs : List RecordValue) → n < length xs → content_at xs n ≡ None → kind_at xs n ≡ kind
    → Follows xs kind c → IsLaid xs → IsLaid (put_at n (defined kind c) xs)
laid_define kind c n xs there unknown same follows laid =
    subst IsLaid (sym (put_set n (defined kind c) xs))
    (subst (λ k. IsLaid (set xs n (defined k c))) same
    (IsLaid-define xs n c (undefined_at n xs there unknown) (subst (λ k. Follows xs k c) (sym same) follows) laid))

pub defined_lawful : (s t : State) (kind : RecordKind) (n : ℕ) (c : ContentValue) → IsLawful t → Opened s t kind n → HasLawfulMembers t.types.records c → Follows t.types.records kind c
    → IsLawful (put_record n (defined kind c) t)
defined_lawful s t kind n c l o members follows = record {
  contents = λ k x e i m h. by_content k x (define_known kind c n t.types.records k x e) i m h;
  begun = λ k x e. by_begun k x (define_known kind c n t.types.records k x e);
  counted = l.counted ∙ sym (length_put n (defined kind c) t.types.records);
  entities = λ k e h. entity_later t.types.records (put_at n (defined kind c) t.types.records) (define_extends kind c n t.types.records o.unknown) e (l.entities k e h);
  tags = λ i x h. tag_later t.types.records (put_at n (defined kind c) t.types.records) (define_extends kind c n t.types.records o.unknown) x.1.tag (l.tags i x h);
  linked = λ i x h. lawful_later t.types.records (put_at n (defined kind c) t.types.records) (define_extends kind c n t.types.records o.unknown) (type_of x.ty) (l.linked i x h);
  laid = laid_define kind c n t.types.records o.there o.unknown o.kind_is follows l.laid;
  apart = l.apart;
  depths = l.depths;
}
  where
    by_content : (k : ℕ) (x : ContentValue) → ((k ≡ n) × (c ≡ x)) ⊎ (content_at t.types.records k ≡ Some x) → (i : ℕ) (m : MemberValue) → slice_get x.members i ≡ Some m
        → IsObjectLike (put_at n (defined kind c) t.types.records) m.ty
    by_content k x (inl g) i m h =
        like_later (define_extends kind c n t.types.records o.unknown) (members i m (subst (λ y. slice_get y.members i ≡ Some m) (sym g.1) h))
    by_content k x (inr g) i m h = like_later (define_extends kind c n t.types.records o.unknown) (l.contents k x g i m h)

    by_begun : (k : ℕ) (x : ContentValue) → ((k ≡ n) × (c ≡ x)) ⊎ (content_at t.types.records k ≡ Some x) → slice_get t.types.opened k ≡ Some true
    by_begun k x (inl g) = subst (λ i. slice_get t.types.opened i ≡ Some true) (sym g.0) o.begun
    by_begun k x (inr g) = l.begun k x g

pub defined_grows : (s t : State) (kind : RecordKind) (n : ℕ) (c : ContentValue) → Grows s t → Opened s t kind n → Grows s (put_record n (defined kind c) t)
defined_grows s t kind n c g o = record {
  extends = extends_trans g.extends (define_extends kind c n t.types.records o.unknown);
  begun = λ k e. ((g.begun k e).0, by k e (put_either n (defined kind c) t.types.records k));
  linked = g.linked;
  entities = g.entities;
  depth = g.depth;
  more = g.more;
  ordinary = g.ordinary;
  deep = g.deep;
  entered = g.entered;
  hidden = g.hidden;
  objects = g.objects;
  counting = g.counting;
  body = g.body;
  functions = g.functions;
  here = g.here;
  sound = λ pending h. let y = g.sound pending h in record { backed = y.backed; spelled = y.spelled; functions = y.functions; slots = y.slots };
}
  where
    by : (k : ℕ) → slice_get s.types.opened k ≡ Some true
        → ((k ≡ n) × (slice_get (put_at n (defined kind c) t.types.records) k ≡ Some (defined kind c))) ⊎ (slice_get (put_at n (defined kind c) t.types.records) k ≡ slice_get t.types.records k)
        → slice_get (put_at n (defined kind c) t.types.records) k ≡ slice_get s.types.records k
    by k e (inl h) = absurd (o.fresh (subst (λ i. slice_get s.types.opened i ≡ Some true) h.0 e))
    by k e (inr h) = h ∙ (g.begun k e).1

-- ---- in an operand of `sizeof`

abbrev pub in_sizeof : State → State
in_sizeof s = with_made (λ m. record m { counting = false }) s

pub sizeof_lawful : (s : State) → IsLawful s → IsLawful (in_sizeof s)
sizeof_lawful s l = record { contents = l.contents; begun = l.begun; counted = l.counted; entities = l.entities; tags = l.tags; linked = l.linked; laid = l.laid; apart = l.apart; depths = l.depths }

restored : (s t : State) → IsLawful t → Grows (in_sizeof s) t → IsLawful (with_made (λ m. record m { counting = s.made.counting }) t) × Grows s (with_made (λ m. record m { counting = s.made.counting }) t)
restored s t l g = (
  record { contents = l.contents; begun = l.begun; counted = l.counted; entities = l.entities; tags = l.tags; linked = l.linked; laid = l.laid; apart = l.apart; depths = l.depths },
  record {
    extends = g.extends;
    begun = g.begun;
    linked = g.linked;
    entities = g.entities;
    depth = g.depth;
    more = g.more;
    ordinary = g.ordinary;
    deep = g.deep;
    entered = g.entered;
    hidden = g.hidden;
    objects = g.objects;
    counting = refl;
    body = g.body;
    functions = g.functions;
    here = g.here;
    sound = λ pending h. let y = g.sound pending (record { backed = h.backed; spelled = h.spelled; functions = h.functions; slots = h.slots }) in record { backed = y.backed; spelled = y.spelled; functions = y.functions; slots = y.slots };
  },
)

pub uncounted_runs : {A : Type 0} (s : State) (inside : Rule A) (Good : A → Type 0) → Runs (in_sizeof s) (inside (in_sizeof s)) (λ t a. Good a)
    → Runs s (uncounted inside s) (λ t a. Good a)
unfolding uncounted bind
uncounted_runs {A} s inside Good h =
    post_bind (inside (in_sizeof s)) _ (λ r. IsLawful r.1 × Grows (in_sizeof s) r.1 × Good r.0) (λ r. IsLawful r.1 × Grows s r.1 × Good r.0) h
    (λ r g. let x = restored s r.1 g.0 g.1 in (x.0, x.1, g.2))

-- ---- scopes

pub deeper_lawful : (s : State) → IsLawful s → IsLawful (one_deeper s)
deeper_lawful s l = record {
  contents = l.contents;
  begun = l.begun;
  counted = l.counted;
  entities = l.entities;
  tags = l.tags;
  linked = l.linked;
  laid = l.laid;
  apart = l.apart;
  depths = λ i e h. let k : e.1.depth ≤ s.scopes.depth = l.depths i e h in omega (arith, k);
}

pub lt_so : (a b : ℕ) → a < b → nat_lt a b ≡ true
lt_so a b h = by (nat_lt a b) refl
  where
    by : (c : Bool) → nat_lt a b ≡ c → nat_lt a b ≡ true
    by true e = e
    by false e = let k : b ≤ a = ltb-false a b e in grind (arith, h, k)

lt_not : (a : ℕ) → nat_lt a a ≡ false
lt_not a = by (nat_lt a a) refl
  where
    by : (b : Bool) → nat_lt a a ≡ b → b ≡ false
    by true e = let h : a < a = ltb-true a a e in grind (arith, h)
    by false e = refl

left_behind : (s t : State) → IsLawful s → Widens (one_deeper s) t → filter (λ e. nat_lt e.1.depth t.scopes.depth) t.scopes.ordinary ≡ s.scopes.ordinary
left_behind s t l g =
    ap (λ xs. filter (λ (e : List ℕ × Entry). nat_lt e.1.depth t.scopes.depth) xs) g.ordinary
    ∙ filter_front (λ (e : List ℕ × Entry). nat_lt e.1.depth t.scopes.depth) s.scopes.ordinary g.more
    (λ i e h.
    let k : e.1.depth ≤ s.scopes.depth = l.depths i e h in
    let d : t.scopes.depth ≡ s.scopes.depth + 1 = g.depth in
    lt_so e.1.depth t.scopes.depth (omega (arith, k, d)))
    (λ i e h.
    subst (λ n. nat_lt n t.scopes.depth ≡ false) (sym (g.deep i e h ∙ sym g.depth)) (lt_not t.scopes.depth))

pub left_lawful_alone : (t : State) → IsLawful t → IsLawful (leave_scope t)
left_lawful_alone t l = record {
  contents = l.contents;
  begun = l.begun;
  counted = l.counted;
  entities = l.entities;
  tags = λ i x h. let k = get_filter (λ (e : List ℕ × TagEntry). nat_lt e.1.depth t.scopes.depth) t.scopes.tags i x h in l.tags k.0 x k.1;
  linked = l.linked;
  laid = l.laid;
  apart = l.apart;
  depths = λ i e h.
      let k = get_filter (λ (x : List ℕ × Entry). nat_lt x.1.depth t.scopes.depth) t.scopes.ordinary i e h in
      let m : e.1.depth < t.scopes.depth = ltb-true e.1.depth t.scopes.depth k.2 in
      omega (arith, m);
}

left_lawful : (s t : State) → IsLawful s → IsLawful t → Widens (one_deeper s) t → IsLawful (leave_scope t)
left_lawful s t ls l g = left_lawful_alone t l

left_here : (s t : State) → IsLawful s → Widens (one_deeper s) t → (name : List ℕ) (e : Entry) → entry_here s name ≡ Some e → entry_here (leave_scope t) name ≡ Some e
left_here s t ls g name e h =
    let d : t.scopes.depth ≡ s.scopes.depth + 1 = g.depth in
    let same : t.scopes.depth - 1 ≡ s.scopes.depth = omega (arith, d) in
    ap (λ n. option_and_then (if_here n) (visible (filter (λ (x : List ℕ × Entry). nat_lt x.1.depth t.scopes.depth) t.scopes.ordinary) name)) same
    ∙ (ap (λ xs. option_and_then (if_here s.scopes.depth) (visible xs name)) (left_behind s t ls g) ∙ h)

pub left_sound_alone : (t : State) (pending : Option Slot) → Sound pending t → Sound pending (leave_scope t)
left_sound_alone t pending y = record {
  backed = y.backed;
  spelled = λ i e h. let k = get_filter (λ (x : List ℕ × Entry). nat_lt x.1.depth t.scopes.depth) t.scopes.ordinary i e h in y.spelled k.0 e k.1;
  functions = y.functions;
  slots = y.slots;
}

left_sound : (s t : State) → IsLawful s → Widens (one_deeper s) t → (pending : Option Slot) → Sound pending s → Sound pending (leave_scope t)
left_sound s t ls g pending h =
    left_sound_alone t pending (g.sound pending (record { backed = h.backed; spelled = h.spelled; functions = h.functions; slots = h.slots }))

left_grows : (s t : State) → IsLawful s → Widens (one_deeper s) t → Grows s (leave_scope t)
left_grows s t ls g = record {
  extends = g.extends;
  begun = g.begun;
  linked = g.linked;
  entities = g.entities;
  depth = let d : t.scopes.depth ≡ s.scopes.depth + 1 = g.depth in omega (arith, d);
  more = [];
  ordinary = left_behind s t ls g ∙ sym (append-nil s.scopes.ordinary);
  deep = λ i e h. never_some h;
  entered = λ i e h. never_some h;
  hidden = g.hidden;
  objects = g.objects;
  counting = g.counting;
  body = g.body;
  functions = g.functions;
  here = λ name e h. left_here s t ls g name e h;
  sound = λ pending h. left_sound s t ls g pending h;
}

pub scoped_runs : {A : Type 0} (s : State) (inside : Rule A) (Good : List RecordValue → List Entity → A → Type 0) → IsLawful s
    → Widely (one_deeper s) (inside (one_deeper s)) (λ t a. Good t.types.records t.scopes.entities a) → Runs s (scoped inside s) (λ t a. Good t.types.records t.scopes.entities a)
unfolding scoped bind
scoped_runs {A} s inside Good l h =
    post_bind (inside (one_deeper s)) _ (λ r. IsLawful r.1 × Widens (one_deeper s) r.1 × Good r.1.types.records r.1.scopes.entities r.0) (λ r. IsLawful r.1 × Grows s r.1 × Good r.1.types.records r.1.scopes.entities r.0) h
    (λ r g. (left_lawful s r.1 l g.0 g.1, left_grows s r.1 l g.1, g.2))
