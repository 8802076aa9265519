-- Declarations of names without linkage: the types of names keep the limits (ISO C90 5.2.4.1), and so does the expression that
-- initialises a local by its value.
use Rattle.std.specs.Prelude.{ℕ, ◌≡◌, ◌⊎◌, Bool, true, false, not, Option, None, Some, List, [], ◌∷◌, slice_get, length, refl}
use Rattle.std.proofs.Common.{sym, subst, ◌∙◌, inl, inr}
use Rattle.pw_tree.specs.Trees.{Word, Init, Initializer}
use Rattle.pw_tree.specs.Spelling.{spell_init, spell_initializer}
use Rattle.pw_tree.specs.Symbols.{Symbol}
use Rattle.pw_types.specs.TypeTrees.{QType, type_of}
use Rattle.pw_types.specs.TypedTrees.{Expression, Initialiser, PlacedItem}
use Rattle.pw_types.specs.TypedTrees as T
use Rattle.pw_check_walk.specs.Walks.{bind}
use Rattle.pw_check_rules.specs.Declarations.{context_of, hidden_of, local_of, completed_rule, bytes_rule, single_rule, local_initialiser, local_rule, static_rule, first_part}
use Rattle.pw_check_rules.specs.Initialisers.{Initialised, object_rule, is_by_bytes}
use Rattle.pw_check_rules.specs.Kinds.{is_const_object}
use Rattle.pw_check_rules.specs.SpecifierLists.{Specified, is_register}
use Rattle.pw_check_rules.specs.States.{State, Entity, LocalObject, StaticObject, enter, put_at, put_entity, add_hidden, add_local, next_hidden, next_local}
use Rattle.pw_law_checked.specs.Lawful.{IsLawful, IsObjectLike}
use Rattle.pw_law_checked.proofs.Walking.{Post, post_bind, post_weaken, post_both}
use Rattle.pw_law_checked.proofs.Lists.{some_same, put_either}
use Rattle.pw_law_checked.proofs.States.{Grows}
use Rattle.pw_law_checked.proofs.Changes.{entered, hidden_added}
use Rattle.pw_law_checked.proofs.Filling.{object_runs, runs_whatever}
use Rattle.pw_law_checked.proofs.Initialisers.{IsLawfully, lawful_stays, object_keeps}
use Rattle.pw_law_checked.proofs.Keeping.{After, around}
use Rattle.pw_law_checked.proofs.Spelled.{AreShort}
use Rattle.pw_law_checked.proofs.Sizes.{IsKeptFrom, kept_from, kept_short, within_kept}
use Rattle.pw_law_checked.proofs.SmallLeaves.{IsKeptEntity, more_short, put_short, Keeping, IsReady, AreKeptValues, AreSmallFrom}
use Rattle.pw_law_checked.proofs.SmallPhrases.{Set, entered_keeping}
use Rattle.pw_law_checked.proofs.SmallInitialisers.{object_set, object_parts}

pub put_keeping : (s : State) (place : ℕ) (x : Entity) → Keeping s → IsKeptEntity s.types.records x → Keeping (put_entity place x s)
put_keeping s place x k h = record { members = k.members; strings = k.strings; entities = λ i e g. by i e g (put_either place x s.scopes.entities i) }
  where
    by : (i : ℕ) (e : Entity) → slice_get (put_at place x s.scopes.entities) i ≡ Some e
        → ((i ≡ place) × (slice_get (put_at place x s.scopes.entities) i ≡ Some x)) ⊎ (slice_get (put_at place x s.scopes.entities) i ≡ slice_get s.scopes.entities i) → IsKeptEntity s.types.records e
    by i e g (inl j) = subst (IsKeptEntity s.types.records) (some_same (sym j.1 ∙ g)) h
    by i e g (inr j) = k.entities i e (sym j ∙ g)

first_small : (s : State) (k : ℕ) (parts : List Expression) → AreKeptValues s parts → AreSmallFrom s (first_part parts [] (λ e. T.Value k e))
first_small s k [] h = λ r c. tt
first_small s k (e ∷ rest) h = λ r c. ((h r c).0.small, tt)

-- an object, what its initialiser gives, and its type
abbrev pub ObjectRead : State → Initialised × State → Type 0
ObjectRead s r = (IsLawful r.1 × Grows s r.1 × Unit {0}) × (Set r × IsLawfully r.1.types.records r.0.ty)

pub object_read : (cx : Rattle.pw_check_rules.specs.Initialisers.Context) (q : QType) (i : Init) (z : List Symbol) (sh : AreShort (spell_init i z)) (s : State) → IsReady s → IsLawfully s.types.records q → Post (object_rule cx q i s) (ObjectRead s)
object_read cx q i z sh s l h =
    post_both (object_rule cx q i s) (λ r. IsLawful r.1 × Grows s r.1 × Unit {0}) (λ r. Set r × IsLawfully r.1.types.records r.0.ty) (runs_whatever s (object_rule cx q i s) _ (object_runs s cx q i l.0))
    (post_both (object_rule cx q i s) Set (λ r. IsLawfully r.1.types.records r.0.ty) (object_set cx q i z sh s l)
    (post_weaken (object_rule cx q i s) (λ r. IsLawful r.1 × After s r.1 × IsLawfully r.1.types.records r.0.ty) (λ r. IsLawfully r.1.types.records r.0.ty) (object_keeps IsLawfully lawful_stays s cx q i l.0 h) (λ r g. g.2)))

hidden_ready : (s : State) (q : QType) (items : List PlacedItem) (writable : Bool) → IsReady s → IsKeptFrom s.types.records (type_of q) → IsReady (add_hidden (hidden_of q items writable) s)
hidden_ready s q items writable l kept =
    (hidden_added s (hidden_of q items writable) l.0, record { entities = l.1.entities; members = l.1.members; strings = more_short s.made.hidden (hidden_of q items writable) l.1.strings (λ n e. kept_short s.types.records (type_of q) n l.0.laid kept e) })

initialiser_small : (bytes : Bool) (w : Word) (k : ℕ) (q : QType) (i : Init) (z : List Symbol) (sh : AreShort (spell_init i z)) (s : State) → IsReady s → IsLawfully s.types.records q → IsKeptFrom s.types.records (type_of q) → is_by_bytes (type_of q) i ≡ bytes
    → Post (local_initialiser bytes w k q i s) (λ r. Keeping r.1 × (IsKeptFrom r.1.types.records (type_of r.0.0) × AreSmallFrom r.1 r.0.1))
unfolding local_initialiser bytes_rule single_rule completed_rule bind
initialiser_small true w k q i z sh s l lawful kept e =
    post_bind (object_rule (context_of w true (next_hidden s)) q i (add_hidden (hidden_of q [] false) s)) _ (ObjectRead (add_hidden (hidden_of q [] false) s)) (λ r. Keeping r.1 × (IsKeptFrom r.1.types.records (type_of r.0.0) × AreSmallFrom r.1 r.0.1))
    (object_read (context_of w true (next_hidden s)) q i z sh (add_hidden (hidden_of q [] false) s) (hidden_ready s q [] false l kept) lawful)
    (λ r g met.
    let made : IsKeptFrom r.1.types.records (type_of r.0.ty) = within_kept r.1.types.records w.token r.0.ty g.1.1 met in (
      record {
        entities = g.1.0.1.entities;
        members = g.1.0.1.members;
        strings = put_short (next_hidden s) (hidden_of r.0.ty r.0.filled.items false) r.1.made.hidden g.1.0.1.strings (λ n f. kept_short r.1.types.records (type_of r.0.ty) n g.1.0.0.laid made f);
      },
      (made, λ x c. (tt, tt)),
    ))
initialiser_small false w k q i z sh s l lawful kept e =
    post_bind (object_rule (context_of w false 0) q i s) _ (λ r. ObjectRead s r × AreKeptValues r.1 r.0.filled.parts) (λ r. Keeping r.1 × (IsKeptFrom r.1.types.records (type_of r.0.0) × AreSmallFrom r.1 r.0.1))
    (post_both (object_rule (context_of w false 0) q i s) (ObjectRead s) (λ r. AreKeptValues r.1 r.0.filled.parts) (object_read (context_of w false 0) q i z sh s l lawful) (object_parts (context_of w false 0) q i z sh s l kept e))
    (λ r g. (g.0.1.0.1, (kept_from s.types.records r.1.types.records (type_of q) g.0.0.1.extends kept, first_small r.1 k r.0.filled.parts g.1)))

abbrev pub Declares : List Initialiser × State → Type 0
Declares r = Keeping r.1 × AreSmallFrom r.1 r.0

-- a local of automatic storage duration
pub local_small : (w : Word) (b : Specified) (q : QType) (i : Option Initializer) (z : List Symbol) (sh : AreShort (spell_initializer i z)) (s : State) → IsReady s → IsObjectLike s.types.records q → IsKeptFrom s.types.records (type_of q) → Post (local_rule w b q i s) Declares
unfolding local_rule bind
local_small w b q None z sh s l like kept = (entered_keeping (add_local (local_of w q) s) w.text (LocalObject (next_local s) q (is_register b.storage)) (record { entities = l.1.entities; members = l.1.members; strings = l.1.strings }) kept, λ r c. tt)
local_small w b q (Some i) z sh s l like kept =
    post_bind (local_initialiser (is_by_bytes (type_of q) i.init) w (next_local s) q i.init (enter w.text (LocalObject (next_local s) q (is_register b.storage)) (add_local (local_of w q) s))) _
    (λ r. Keeping r.1 × (IsKeptFrom r.1.types.records (type_of r.0.0) × AreSmallFrom r.1 r.0.1)) Declares
    (initialiser_small (is_by_bytes (type_of q) i.init) w (next_local s) q i.init z sh.1 (enter w.text (LocalObject (next_local s) q (is_register b.storage)) (add_local (local_of w q) s)) (
      entered (add_local (local_of w q) s) w.text (LocalObject (length s.body.locals) q (is_register b.storage)) (around s s.made (add_local (local_of w q) s).body l.0 refl).0 like,
      entered_keeping (add_local (local_of w q) s) w.text (LocalObject (next_local s) q (is_register b.storage)) (record { entities = l.1.entities; members = l.1.members; strings = l.1.strings }) kept,
    ) like.lawful kept refl)
    (λ r g. (
      put_keeping _ _ (LocalObject (next_local s) r.0.0 (is_register b.storage)) (record { entities = g.0.entities; members = g.0.members; strings = g.0.strings }) g.1.0,
      λ x c. g.1.1 x c,
    ))

-- a local of static storage duration
pub static_small : (w : Word) (q : QType) (i : Option Initializer) (z : List Symbol) (sh : AreShort (spell_initializer i z)) (s : State) → IsReady s → IsObjectLike s.types.records q → IsKeptFrom s.types.records (type_of q) → Post (static_rule w q i s) Declares
unfolding static_rule completed_rule bind
static_small w q None z sh s l like kept =
    (entered_keeping (add_hidden (hidden_of q [] (not (is_const_object q))) s) w.text (StaticObject (next_hidden s) q) (hidden_ready s q [] (not (is_const_object q)) l kept).1 kept, λ r c. tt)
static_small w q (Some i) z sh s l like kept =
    post_bind (object_rule (context_of w true (next_hidden s)) q i.init (enter w.text (StaticObject (next_hidden s) q) (add_hidden (hidden_of q [] (not (is_const_object q))) s))) _
    (ObjectRead (enter w.text (StaticObject (next_hidden s) q) (add_hidden (hidden_of q [] (not (is_const_object q))) s))) Declares
    (object_read (context_of w true (next_hidden s)) q i.init z sh.1 (enter w.text (StaticObject (next_hidden s) q) (add_hidden (hidden_of q [] (not (is_const_object q))) s)) (
      entered (add_hidden (hidden_of q [] (not (is_const_object q))) s) w.text (StaticObject (next_hidden s) q) (hidden_added s (hidden_of q [] (not (is_const_object q))) l.0) like,
      entered_keeping (add_hidden (hidden_of q [] (not (is_const_object q))) s) w.text (StaticObject (next_hidden s) q) (hidden_ready s q [] (not (is_const_object q)) l kept).1 kept,
    ) like.lawful)
    (λ o g met.
    let made : IsKeptFrom o.1.types.records (type_of o.0.ty) = within_kept o.1.types.records w.token o.0.ty g.1.1 met in (
      put_keeping _ _ (StaticObject (next_hidden s) o.0.ty) (record {
        entities = g.1.0.1.entities;
        members = g.1.0.1.members;
        strings = put_short (next_hidden s) (hidden_of o.0.ty o.0.filled.items (not (is_const_object q))) o.1.made.hidden g.1.0.1.strings (λ n f. kept_short o.1.types.records (type_of o.0.ty) n g.1.0.0.laid made f);
      }) made,
      λ r c. tt,
    ))
