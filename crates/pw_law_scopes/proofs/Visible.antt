-- The locals that names in scope stand for, and at what depth: expressions bring none, and a declaration brings its own.
use Rattle.std.specs.Prelude.{ℕ, ◌≡◌, ◌<◌, ◌⊎◌, Bool, None, Some, unwrap_or, List, [], ◌∷◌, ◌++◌, length, slice_get, Option, nat_lt}
use Rattle.std.specs.Option.{option_map_or}
use Rattle.std.proofs.Common.{arith, ap, sym, subst, ◌∙◌, inl, inr}
use Rattle.std.proofs.lemmas.Bool.{ltb-true}
use Rattle.pw_types.specs.TypeTrees.{QType}
use Rattle.pw_types.specs.TypedTrees.{LocalValue}
use Rattle.pw_check_rules.specs.Linkage.{Asking, note_here, linked_before, place_for, linked_again, linked_anew, is_internal_by, type_here}
use Rattle.pw_check_rules.specs.States.{State, Entity, TypeName, LocalObject, Linked, LinkedName, HiddenObject, enter, put_entity, put_at, put_linked, add_linked, add_local, leave_scope, entry_here, entity_here}
use Rattle.pw_check_rules.specs.declared.names.Entry.{Entry}
use Rattle.pw_law_checked.proofs.Lists.{Longer, some_same, get_append, get_either, get_more, get_last, get_within, get_filter, put_either}
use Rattle.pw_law_checked.proofs.States.{GrowsBy, IsConstant, HasEntity}
use Rattle.pw_law_checked.proofs.Locals.{IsPlaced, ArePlaced, added_placed, local_entered, local_completed}
use Rattle.pw_law_checked.proofs.Adding.{noted_state}

-- a name of the depth stands for the local
pub record Visible (ordinary : List (List ℕ × Entry)) (entities : List Entity) (d k : ℕ) : Type 0 where
  pub index : ℕ
  pub entry : List ℕ × Entry
  pub ty : QType
  pub register : Bool
  pub there : slice_get ordinary index ≡ Some entry
  pub deep : entry.1.depth ≡ d
  pub stands : slice_get entities entry.1.place ≡ Some (LocalObject k ty register)

abbrev pub Seen : State → ℕ → ℕ → Type 0
Seen s d k = Visible s.scopes.ordinary s.scopes.entities d k

-- each local that can be seen afterwards can be seen before
abbrev pub Sees : State → State → Type 0
Sees s t = (d k : ℕ) → Seen t d k → Seen s d k

-- ---- rules that read expressions

-- names of constants are entered
pub record Reads (s t : State) : Type 0 where
  pub entities : Longer s.scopes.entities t.scopes.entities
  pub more : List (List ℕ × Entry)
  pub ordinary : t.scopes.ordinary ≡ s.scopes.ordinary ++ more
  pub entered : (i : ℕ) (e : List ℕ × Entry) → slice_get more i ≡ Some e → HasEntity IsConstant t e.1.place
  pub body : t.body ≡ s.body

pub reads_grows : {H : HiddenObject → Type 0} {s t : State} → GrowsBy IsConstant H s t → Reads s t
reads_grows g = record { entities = g.entities; more = g.more; ordinary = g.ordinary; entered = g.entered; body = g.body }

pub reads_seen : {s t : State} → Reads s t → ArePlaced s → Sees s t
reads_seen {s} {t} g p d k v = by (get_either s.scopes.ordinary g.more v.index v.entry (subst (λ xs. slice_get xs v.index ≡ Some v.entry) g.ordinary v.there))
  where
    by : (slice_get s.scopes.ordinary v.index ≡ Some v.entry) ⊎ ((j : ℕ) × (slice_get g.more j ≡ Some v.entry)) → Seen s d k
    by (inl f) =
        let x = p v.index v.entry f in
        record {
          index = v.index;
          entry = v.entry;
          ty = v.ty;
          register = v.register;
          there = f;
          deep = v.deep;
          stands = x.1 ∙ ap Some (some_same (sym (g.entities v.entry.1.place x.0 x.1) ∙ v.stands));
        }
    by (inr f) = let x = g.entered f.0 v.entry f.1 in absurd (subst IsConstant (some_same (sym x.1 ∙ v.stands)) x.2)

-- ---- names that are entered

-- what is no local
abbrev pub IsOther : Entity → Type 0
IsOther (LocalObject k q register) = ⊥
IsOther _ = Unit {0}

-- a name is entered: one that was there before, or it
entered_either : (s : State) (name : List ℕ) (x : Entity) → ArePlaced s → (d k : ℕ) (v : Seen (enter name x s) d k)
    → Seen s d k ⊎ ((d ≡ s.scopes.depth) × (x ≡ LocalObject k v.ty v.register))
entered_either s name x p d k v = by (get_more s.scopes.ordinary (name, record { place = length s.scopes.entities; depth = s.scopes.depth }) v.index v.entry v.there)
  where
    by : (slice_get s.scopes.ordinary v.index ≡ Some v.entry) ⊎ ((v.index ≡ length s.scopes.ordinary) × ((name, record { place = length s.scopes.entities; depth = s.scopes.depth }) ≡ v.entry))
        → Seen s d k ⊎ ((d ≡ s.scopes.depth) × (x ≡ LocalObject k v.ty v.register))
    by (inl f) =
        let y = p v.index v.entry f in
        inl (record {
          index = v.index;
          entry = v.entry;
          ty = v.ty;
          register = v.register;
          there = f;
          deep = v.deep;
          stands = y.1 ∙ ap Some (some_same (sym (get_append s.scopes.entities (x ∷ []) v.entry.1.place y.0 y.1) ∙ v.stands));
        })
    by (inr f) = inr (
      sym v.deep ∙ ap (λ (y : List ℕ × Entry). y.1.depth) (sym f.1),
      some_same (sym (get_last s.scopes.entities x) ∙ subst (λ (y : List ℕ × Entry). slice_get (s.scopes.entities ++ x ∷ []) y.1.place ≡ Some (LocalObject k v.ty v.register)) (sym f.1) v.stands),
    )

pub entered_seen : (s : State) (name : List ℕ) (x : Entity) → IsOther x → ArePlaced s → Sees s (enter name x s)
entered_seen s name x other p d k v = by (entered_either s name x p d k v)
  where
    by : Seen s d k ⊎ ((d ≡ s.scopes.depth) × (x ≡ LocalObject k v.ty v.register)) → Seen s d k
    by (inl h) = h
    by (inr h) = absurd (subst IsOther h.1 other)

-- an entity is another from here on
pub put_seen : (s : State) (place : ℕ) (x : Entity) → IsOther x → Sees s (put_entity place x s)
put_seen s place x other d k v = by (put_either place x s.scopes.entities v.entry.1.place)
  where
    by : ((v.entry.1.place ≡ place) × (slice_get (put_at place x s.scopes.entities) v.entry.1.place ≡ Some x)) ⊎ (slice_get (put_at place x s.scopes.entities) v.entry.1.place ≡ slice_get s.scopes.entities v.entry.1.place)
        → Seen s d k
    by (inl f) = absurd (subst IsOther (some_same (sym f.1 ∙ v.stands)) other)
    by (inr f) = record { index = v.index; entry = v.entry; ty = v.ty; register = v.register; there = v.there; deep = v.deep; stands = sym f ∙ v.stands }

-- ---- names with linkage

here_seen : (s : State) (name : List ℕ) (place : ℕ) (q : QType) → ArePlaced s → Sees s (note_here name place q s)
here_seen s name place q p = by (entry_here s name)
  where
    by : (o : Option Entry) → Sees s (option_map_or (λ (e : Entry). put_entity e.place (Linked place (type_here q (unwrap_or (entity_here s name) (TypeName q)))) s) o (enter name (Linked place q) s))
    by None = entered_seen s name (Linked place q) tt p
    by (Some e) = put_seen s e.place (Linked place (type_here q (unwrap_or (entity_here s name) (TypeName q)))) tt

pub noted_seen : (s : State) (name : List ℕ) (token : ℕ) (tag : Option ℕ) (asking : Asking) (q : QType) → ArePlaced s → Sees s (noted_state s name token tag asking q)
noted_seen s name token tag asking q p = by (linked_before s name)
  where
    by : (o : Option LinkedName)
        → Sees s (note_here name (place_for s name) q (option_map_or (λ l. put_linked (place_for s name) (linked_again q l) s) o (add_linked (linked_anew name (is_internal_by s name asking) q token tag) s)))
    by None = here_seen (add_linked (linked_anew name (is_internal_by s name asking) q token tag) s) name (place_for s name) q p
    by (Some l) = here_seen (put_linked (place_for s name) (linked_again q l) s) name (place_for s name) q p

-- ---- locals

number_of : Entity → ℕ
number_of (LocalObject k q register) = k
number_of _ = 0

same_number : (j k : ℕ) (q r : QType) (a b : Bool) → LocalObject j q a ≡ LocalObject k r b → k ≡ j
unfolding number_of
same_number j k q r a b e = sym (ap number_of e)

-- one that was seen before, or the new one
abbrev pub OrNewest : State → ℕ → ℕ → Type 0
OrNewest s d k = Seen s d k ⊎ ((d ≡ s.scopes.depth) × (k ≡ length s.body.locals))

pub local_seen : (s : State) (name : List ℕ) (l : LocalValue) (register : Bool) → ArePlaced s → (d k : ℕ) → Seen (local_entered s name l register) d k → OrNewest s d k
local_seen s name l register p d k v = by (entered_either (add_local l s) name (LocalObject (length s.body.locals) l.ty register) (added_placed s l p) d k v)
  where
    by : Seen s d k ⊎ ((d ≡ s.scopes.depth) × (LocalObject (length s.body.locals) l.ty register ≡ LocalObject k v.ty v.register)) → OrNewest s d k
    by (inl h) = inl h
    by (inr h) = inr (h.0, same_number (length s.body.locals) k l.ty v.ty register v.register h.1)

-- no name stands for a local that is not there yet
none_yet : (s : State) → ArePlaced s → (d : ℕ) → Seen s d (length s.body.locals) → ⊥
none_yet s p d v =
    let x = p v.index v.entry v.there in
    let placed = subst (IsPlaced s.body.locals v.entry.1.depth) (some_same (sym x.1 ∙ v.stands)) x.2 in
    let below : length s.body.locals < length s.body.locals = get_within s.body.locals (length s.body.locals) placed.0.0 placed.0.1 in
    omega (arith, below)

pub completed_seen : (s u : State) (name : List ℕ) (l new : LocalValue) (register : Bool) → ArePlaced s → ArePlaced (local_entered s name l register) → Reads (local_entered s name l register) u
    → (d k : ℕ) → Seen (local_completed s (length s.scopes.entities) new register u) d k → OrNewest s d k
completed_seen s u name l new register p entered g d k v = by (put_either (length s.scopes.entities) (LocalObject (length s.body.locals) new.ty register) u.scopes.entities v.entry.1.place)
  where
    there : slice_get u.scopes.entities (length s.scopes.entities) ≡ Some (LocalObject (length s.body.locals) l.ty register)
    there = g.entities (length s.scopes.entities) (LocalObject (length s.body.locals) l.ty register) (get_last s.scopes.entities (LocalObject (length s.body.locals) l.ty register))

    earlier : (j : ℕ) → Seen u d j → OrNewest s d j
    earlier j w = local_seen s name l register p d j (reads_seen g entered d j w)

    newest : k ≡ length s.body.locals → OrNewest s d (length s.body.locals) → OrNewest s d k
    newest same (inl h) = absurd (none_yet s p d h)
    newest same (inr h) = inr (h.0, same)

    by : ((v.entry.1.place ≡ length s.scopes.entities) × (slice_get (put_at (length s.scopes.entities) (LocalObject (length s.body.locals) new.ty register) u.scopes.entities) v.entry.1.place ≡ Some (LocalObject (length s.body.locals) new.ty register)))
        ⊎ (slice_get (put_at (length s.scopes.entities) (LocalObject (length s.body.locals) new.ty register) u.scopes.entities) v.entry.1.place ≡ slice_get u.scopes.entities v.entry.1.place)
        → OrNewest s d k
    by (inl f) =
        newest (same_number (length s.body.locals) k new.ty v.ty register v.register (some_same (sym f.1 ∙ v.stands)))
        (earlier (length s.body.locals) (record {
          index = v.index;
          entry = v.entry;
          ty = l.ty;
          register = register;
          there = v.there;
          deep = v.deep;
          stands = subst (λ n. slice_get u.scopes.entities n ≡ Some (LocalObject (length s.body.locals) l.ty register)) (sym f.0) there;
        }))
    by (inr f) = earlier k (record { index = v.index; entry = v.entry; ty = v.ty; register = v.register; there = v.there; deep = v.deep; stands = sym f ∙ v.stands })

-- ---- scopes

-- behind a scope what was seen in it is seen, but for what is as deep
pub left_seen : (t : State) (d k : ℕ) → Seen (leave_scope t) d k → Seen t d k × (d < t.scopes.depth)
left_seen t d k v =
    let x = get_filter (λ (e : List ℕ × Entry). nat_lt e.1.depth t.scopes.depth) t.scopes.ordinary v.index v.entry v.there in
    let below : v.entry.1.depth < t.scopes.depth = ltb-true v.entry.1.depth t.scopes.depth x.2 in (
      record { index = x.0; entry = v.entry; ty = v.ty; register = v.register; there = x.1; deep = v.deep; stands = v.stands },
      subst (λ n. n < t.scopes.depth) v.deep below,
    )
