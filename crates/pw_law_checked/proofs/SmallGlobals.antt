-- Declarations: the types of names keep the limits (ISO C90 5.2.4.1), and what the declarations of a name say in its scope stays compatible
-- with what they say in all.
use Rattle.std.specs.Prelude.{ℕ, ◌≡◌, ◌⊎◌, Bool, true, false, not, Option, None, Some, List, [], ◌∷◌, ◌++◌, slice_get, length, if◌then◌else◌, refl}
use Rattle.std.specs.Option.{option_map_or}
use Rattle.std.proofs.Common.{subst, inl, inr}
use Rattle.pw_tree.specs.Trees.{Word, Init, Initializer}
use Rattle.pw_tree.specs.Spelling.{spell_initializer}
use Rattle.pw_tree.specs.Symbols.{Symbol}
use Rattle.pw_types.specs.TypeTrees.{QType, type_of}
use Rattle.pw_types.specs.TypedTrees.{Initialiser}
use Rattle.pw_check_walk.specs.Walks.{Walk, bind}
use Rattle.pw_check_rules.specs.Compatible.{compatible}
use Rattle.pw_check_rules.specs.Declarations.{context_of, hidden_of, local_of, local_rule, local_initialiser, bytes_rule, single_rule, completed_rule, static_rule}
use Rattle.pw_check_rules.specs.Initialisers.{object_rule, is_by_bytes}
use Rattle.pw_check_rules.specs.Kinds.{is_const_object}
use Rattle.pw_check_rules.specs.Linkage.{change_linked, slot_for, has_slot, define_tentatively, define_object}
use Rattle.pw_check_rules.specs.SpecifierLists.{Specified, is_register}
use Rattle.pw_check_rules.specs.declared.names.Entry.{Entry}
use Rattle.pw_check_rules.specs.declared.names.Slot.TheVariants as slot
use Rattle.pw_check_rules.specs.States.{State, LinkedName, Entity, LocalObject, StaticObject, enter, put_at, put_linked, add_slot, add_hidden, add_local, next_hidden, next_local, linked_at}
use Rattle.pw_law_checked.specs.Lawful.{IsLawful, IsObjectLike}
use Rattle.pw_law_checked.proofs.Walking.{Post, post_bind, post_weaken, post_both}
use Rattle.pw_law_checked.proofs.Lists.{get_append, get_either, get_one, get_last}
use Rattle.pw_law_checked.proofs.States.{Grows}
use Rattle.pw_law_checked.proofs.Changes.{entered, hidden_added}
use Rattle.pw_law_checked.proofs.Filling.{object_runs, runs_whatever}
use Rattle.pw_law_checked.proofs.Keeping.{around}
use Rattle.pw_law_checked.proofs.Spelled.{AreShort}
use Rattle.pw_law_checked.proofs.Sizes.{IsKeptFrom}
use Rattle.pw_law_checked.proofs.SmallLeaves.{Keeping, IsReady, AreSmallFrom}
use Rattle.pw_law_checked.proofs.SmallDeclarations.{Declares, local_small, static_small}
use Rattle.pw_law_checked.proofs.SmallLinkage.{AreNarrowed, HavePlaces, put_narrows, narrowed_on, narrowed_grows, narrowed_entered, narrowed_put}

-- ---- locals

pub places_entered : (s : State) (name : List ℕ) (x : Entity) → HavePlaces s → HavePlaces (enter name x s)
places_entered s name x h i e at = by (get_either s.scopes.ordinary ((name, record { place = length s.scopes.entities; depth = s.scopes.depth }) ∷ []) i e at)
  where
    by : (slice_get s.scopes.ordinary i ≡ Some e) ⊎ ((j : ℕ) × (slice_get ((name, record { place = length s.scopes.entities; depth = s.scopes.depth }) ∷ []) j ≡ Some e))
        → (y : Entity) × (slice_get (s.scopes.entities ++ x ∷ []) e.1.place ≡ Some y)
    by (inl f) = let z = h i e f in (z.0, get_append s.scopes.entities (x ∷ []) e.1.place z.0 z.1)
    by (inr f) =
        let is = get_one (name, record { place = length s.scopes.entities; depth = s.scopes.depth }) f.0 e f.1 in
        (x, subst (λ (p : List ℕ × Entry). slice_get (s.scopes.entities ++ x ∷ []) p.1.place ≡ Some x) is (get_last s.scopes.entities x))

initialiser_narrowed : (bytes : Bool) (w : Word) (k : ℕ) (q : QType) (i : Init) (s : State) → IsLawful s → HavePlaces s → AreNarrowed s → Post (local_initialiser bytes w k q i s) (λ r. AreNarrowed r.1)
unfolding local_initialiser bytes_rule single_rule completed_rule bind
initialiser_narrowed true w k q i s l places h =
    post_bind (object_rule (context_of w true (next_hidden s)) q i (add_hidden (hidden_of q [] false) s)) _ (λ r. IsLawful r.1 × Grows (add_hidden (hidden_of q [] false) s) r.1 × Unit {0}) (λ r. AreNarrowed r.1)
    (runs_whatever (add_hidden (hidden_of q [] false) s) (object_rule (context_of w true (next_hidden s)) q i (add_hidden (hidden_of q [] false) s)) _ (object_runs (add_hidden (hidden_of q [] false) s) (context_of w true (next_hidden s)) q i (hidden_added s (hidden_of q [] false) l)))
    (λ r g met. narrowed_grows {s = add_hidden (hidden_of q [] false) s} {t = r.1} places g.1 h)
initialiser_narrowed false w k q i s l places h =
    post_bind (object_rule (context_of w false 0) q i s) _ (λ r. IsLawful r.1 × Grows s r.1 × Unit {0}) (λ r. AreNarrowed r.1) (runs_whatever s (object_rule (context_of w false 0) q i s) _ (object_runs s (context_of w false 0) q i l))
    (λ r g. narrowed_grows {s = s} {t = r.1} places g.1 h)

local_narrowed : (w : Word) (b : Specified) (q : QType) (i : Option Initializer) (s : State) → IsLawful s → IsObjectLike s.types.records q → HavePlaces s → AreNarrowed s → Post (local_rule w b q i s) (λ r. AreNarrowed r.1)
unfolding local_rule bind
local_narrowed w b q None s l like places h = narrowed_entered (add_local (local_of w q) s) w.text (LocalObject (next_local s) q (is_register b.storage)) places tt h
local_narrowed w b q (Some i) s l like places h =
    post_bind (local_initialiser (is_by_bytes (type_of q) i.init) w (next_local s) q i.init (enter w.text (LocalObject (next_local s) q (is_register b.storage)) (add_local (local_of w q) s))) _ (λ r. AreNarrowed r.1) (λ r. AreNarrowed r.1)
    (initialiser_narrowed (is_by_bytes (type_of q) i.init) w (next_local s) q i.init (enter w.text (LocalObject (next_local s) q (is_register b.storage)) (add_local (local_of w q) s))
    (entered (add_local (local_of w q) s) w.text (LocalObject (length s.body.locals) q (is_register b.storage)) (around s s.made (add_local (local_of w q) s).body l refl).0 like)
    (places_entered (add_local (local_of w q) s) w.text (LocalObject (next_local s) q (is_register b.storage)) places)
    (narrowed_entered (add_local (local_of w q) s) w.text (LocalObject (next_local s) q (is_register b.storage)) places tt h))
    (λ r g. narrowed_put r.1 _ (LocalObject (next_local s) r.0.0 (is_register b.storage)) tt g)

static_narrowed : (w : Word) (q : QType) (i : Option Initializer) (s : State) → IsLawful s → IsObjectLike s.types.records q → HavePlaces s → AreNarrowed s → Post (static_rule w q i s) (λ r. AreNarrowed r.1)
unfolding static_rule completed_rule bind
static_narrowed w q None s l like places h = narrowed_entered (add_hidden (hidden_of q [] (not (is_const_object q))) s) w.text (StaticObject (next_hidden s) q) places tt h
static_narrowed w q (Some i) s l like places h =
    let t : State = enter w.text (StaticObject (next_hidden s) q) (add_hidden (hidden_of q [] (not (is_const_object q))) s) in
    post_bind (object_rule (context_of w true (next_hidden s)) q i.init (enter w.text (StaticObject (next_hidden s) q) (add_hidden (hidden_of q [] (not (is_const_object q))) s))) _
    (λ r. IsLawful r.1 × Grows (enter w.text (StaticObject (next_hidden s) q) (add_hidden (hidden_of q [] (not (is_const_object q))) s)) r.1 × Unit {0}) (λ r. AreNarrowed r.1)
    (runs_whatever t (object_rule (context_of w true (next_hidden s)) q i.init t) _ (object_runs t (context_of w true (next_hidden s)) q i.init
    (entered (add_hidden (hidden_of q [] (not (is_const_object q))) s) w.text (StaticObject (next_hidden s) q) (hidden_added s (hidden_of q [] (not (is_const_object q))) l) like)))
    (λ o g met. narrowed_put o.1 _ (StaticObject (next_hidden s) o.0.ty) tt
    (narrowed_grows {s = t} {t = o.1} (places_entered (add_hidden (hidden_of q [] (not (is_const_object q))) s) w.text (StaticObject (next_hidden s) q) places) g.1
    (narrowed_entered (add_hidden (hidden_of q [] (not (is_const_object q))) s) w.text (StaticObject (next_hidden s) q) places tt h)))

abbrev pub Declared : List Initialiser × State → Type 0
Declared r = (Keeping r.1 × AreNarrowed r.1) × AreSmallFrom r.1 r.0

with_narrowed : (w : Walk (List Initialiser × State)) → Post w Declares → Post w (λ r. AreNarrowed r.1) → Post w Declared
with_narrowed w h k = post_weaken w (λ r. Declares r × AreNarrowed r.1) Declared (post_both w Declares (λ r. AreNarrowed r.1) h k) (λ r g. ((g.0.0, g.1), g.0.1))

pub local_declared : (w : Word) (b : Specified) (q : QType) (i : Option Initializer) (z : List Symbol) (sh : AreShort (spell_initializer i z)) (s : State) → IsReady s → IsObjectLike s.types.records q → IsKeptFrom s.types.records (type_of q) → HavePlaces s → AreNarrowed s → Post (local_rule w b q i s) Declared
local_declared w b q i z sh s l like kept places h = with_narrowed (local_rule w b q i s) (local_small w b q i z sh s l like kept) (local_narrowed w b q i s l.0 like places h)

pub static_declared : (w : Word) (q : QType) (i : Option Initializer) (z : List Symbol) (sh : AreShort (spell_initializer i z)) (s : State) → IsReady s → IsObjectLike s.types.records q → IsKeptFrom s.types.records (type_of q) → HavePlaces s → AreNarrowed s → Post (static_rule w q i s) Declared
static_declared w q i z sh s l like kept places h = with_narrowed (static_rule w q i s) (static_small w q i z sh s l like kept) (static_narrowed w q i s l.0 like places h)

-- ---- names with linkage whose types stay

change_small : (s : State) (place : ℕ) (f : LinkedName → LinkedName) → ((l : LinkedName) → (f l).ty ≡ l.ty) → Keeping s → AreNarrowed s → Keeping (change_linked place f s) × AreNarrowed (change_linked place f s)
change_small s place f same keep h = by (linked_at s place) refl
  where
    by : (o : Option LinkedName) → linked_at s place ≡ o → Keeping (option_map_or (λ l. put_linked place (f l) s) o s) × AreNarrowed (option_map_or (λ l. put_linked place (f l) s) o s)
    by None e = (keep, h)
    by (Some l) e = (
      record { entities = keep.entities; members = keep.members; strings = keep.strings },
      λ i x y at there. narrowed_on s.types.linked (put_at place (f l) s.types.linked) (put_narrows place l (f l) s.types.linked e (λ t k. subst (λ q. compatible q t ≡ true) (same l) k)) y (h i x y at there),
    )

slot_small : (s : State) (place : ℕ) → Keeping s → AreNarrowed s → Keeping (slot_for place s) × AreNarrowed (slot_for place s)
slot_small s place keep h = by (has_slot s place)
  where
    by : (b : Bool) → Keeping (if b then s else add_slot (slot.Named place) s) × AreNarrowed (if b then s else add_slot (slot.Named place) s)
    by true = (keep, h)
    by false = (record { entities = keep.entities; members = keep.members; strings = keep.strings }, h)

pub defined_small : (s : State) (place : ℕ) → Keeping s → AreNarrowed s → Keeping (define_object place s) × AreNarrowed (define_object place s)
defined_small s place keep h = let x = slot_small s place keep h in change_small (slot_for place s) place (λ l. record l { defined = true }) (λ l. refl) x.0 x.1

pub tentative_small : (b : Bool) (s : State) (place : ℕ) → Keeping s → AreNarrowed s → Keeping (if b then define_tentatively place s else s) × AreNarrowed (if b then define_tentatively place s else s)
tentative_small true s place keep h = let x = slot_small s place keep h in change_small (slot_for place s) place (λ l. record l { tentative = true }) (λ l. refl) x.0 x.1
tentative_small false s place keep h = (keep, h)

pub function_small : (s : State) (place : ℕ) → Keeping s → AreNarrowed s → Keeping (Rattle.pw_check_rules.specs.Linkage.define_function place s) × AreNarrowed (Rattle.pw_check_rules.specs.Linkage.define_function place s)
function_small s place keep h = change_small s place (λ l. record l { defined = true }) (λ l. refl) keep h
