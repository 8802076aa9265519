-- The rules of names, constants and parts of declarators: what they make is lawful, and so is the state behind them.
use Rattle.pw_law_checked.proofs.Settled.{IsString}
use Rattle.pw_law_checked.proofs.ItemBytes.{string_small}
use Rattle.std.proofs.lemmas.Bool.{eqb-true}
use Rattle.pw_law_checked.proofs.Sound.{IsPlain}
use Rattle.std.specs.Prelude.{ℕ, ◌≡◌, ◌<◌, ◌⊎◌, ◌==◌, Bool, true, false, not, ◌&&◌, ◌||◌, Option, None, Some, unwrap_or, option_and_then, List, [], ◌∷◌, ◌++◌, length, filter, find, slice_get, cond, if◌then◌else◌, refl, is_none, ◌≤◌, ◌+◌}
use Rattle.std.proofs.Common.{arith, ap, sym, subst, ◌∙◌, inl, inr}
use Rattle.pw_check_literals.specs.Characters.{string_bytes_of, characters_of_strings, fits_bytes}
use Rattle.pw_check_literals.specs.Integers.{integer_type, integer_value}
use Rattle.pw_tree.specs.declared.expr.BasicType.{BasicType}
use Rattle.pw_tree.specs.Trees.{Word}
use Rattle.pw_types.specs.declared.kind.IntKind.TheVariants as K
use Rattle.pw_types.specs.declared.record.RecordKind.{RecordKind}
use Rattle.pw_types.specs.declared.record.RecordKind.TheVariants.{Structure, Union}
use Rattle.pw_types.specs.Layouts.{content_at}
use Rattle.pw_types.specs.Records.{IsObjectType, declared, defined, kind_at}
use Rattle.pw_types.specs.TypeTrees.{CType, Void, Int, Pointer, Array, Function, Record, QType, Qualified, OneType, type_of, MemberValue, ContentValue, RecordValue}
use Rattle.pw_types.specs.TypedTrees.{Symbol, Expression, Node, Hidden, LocalValue, ModuleValue, type_at}
use Rattle.pw_types.specs.TypedTrees as T
use Rattle.pw_types.specs.WellTyped.{IsTyped, IsScalar, IsResult, IsFunctionType, IsFunctionOf, IsObject}
use Rattle.pw_check_walk.specs.Causes.{needs, EscapeFits, DeclaredIdentifier, CompleteMember, ElementType}
use Rattle.pw_check_walk.specs.Walks.{Walk, Done, bind}
use Rattle.pw_check_rules.specs.Kinds.{plain, int_type, is_function, is_array, is_record, is_void}
use Rattle.pw_check_rules.specs.Operands.{Operand}
use Rattle.pw_check_rules.specs.States.{State, Entity, TypeName, EnumerationConstant, LocalObject, StaticObject, Linked, HiddenObject, entity_of, entry_of, entity_at, tag_of, tag_here, tag_if_here, add_hidden, add_record, entry_here, one_deeper}
use Rattle.pw_check_rules.specs.declared.names.Entry.{Entry}
use Rattle.pw_check_rules.specs.declared.names.Tag.{Tag}
use Rattle.pw_check_rules.specs.declared.names.Tag.TheVariants as G
use Rattle.pw_check_rules.specs.declared.names.TagEntry.{TagEntry}
use Rattle.pw_check_rules.specs.Limits.{Spot}
use Rattle.pw_check_rules.specs.Linkage.{symbol_at}
use Rattle.pw_check_rules.specs.SpecifierLists.{Gathered, nothing_gathered, gather_storage, gather_qualifier, gather_word, gather_type, Specified, specified, type_listed, type_of_words, table, same_words}
use Rattle.pw_check_rules.specs.Derivations.{Derivation, ToPointer, ToArray, ToFunction, ParameterValue, Bindings, Declared, built, stepped, step_type, spot_of}
use Rattle.pw_check_rules.specs.Phrases.{typedef_type, typedef_rule}
use Rattle.pw_check_rules.specs.Leaves.{entity_operand, linked_operand, lvalue_operand, identifier_rule, number_rule, character_rule, string_rule, string_point, note_string, string_type, bytes_at_start, texts_of, length_rule, new_record, new_tag, reference_by, reference_rule, opening_by, opening_rule, open_record, is_opened, same_record_kind, member_rule, content_by, closing_rule, enumeration_by, enumeration_rule, enumerating_rule, enumerator_value, enumerator_name, enumerator_rule, named_type, is_last, is_nil, adjusted, parameter_storage, parameter_rule, enter_parameter, without_void, parameter_types, bindings_rule, says_none, name_text}
use Rattle.pw_law_checked.specs.Lawful.{IsLawful, IsLawfulType, AreLawfulTypes, IsObjectLike, IsLawfulEntity, IsLawfulTag, Extends, HasLocal, IsNamed}
use Rattle.pw_law_checked.proofs.Walking.{Post, truth, met_right, post_bind, post_granted, met_left, AreMet}
use Rattle.pw_law_checked.proofs.States.{GoodOperand, Fine, Runs, IsConstant, Grows, Widens, Widely, grows_same, grows_trans, widens_so}
use Rattle.pw_law_checked.proofs.Lists.{get_map, some_same, never_some, and_then_some, map_some, get_append, get_either, get_one, get_last, get_filter, visible_at, Longer}
use Rattle.pw_law_checked.proofs.Types.{no, left, not_true, is_complete_so, lawful_known, lawful_later, all_lawful_later, lawful_qualify, lawful_pointer}
use Rattle.pw_law_checked.proofs.Conversions.{no_function}
use Rattle.pw_law_checked.proofs.Places.{number_good, constant_wide}
use Rattle.pw_law_checked.proofs.Objects.{object_later, completed_so, within_so, object_type, follows_so}
use Rattle.pw_law_checked.proofs.Changes.{like_later, tag_later, record_added, record_grows, entered, entered_grows, tagged, tagged_grows, hidden_added, hidden_grows, Opened, Closed, opening_lawful, opening_grows, opened_now, defined_lawful, defined_grows}

-- ---- identifiers (6.3.1)

-- a name that is visible, with the place of its entry
record Found (s : State) (name : List ℕ) (entity : Entity) : Type 0 where
  entry : Entry
  index : ℕ
  spelled : List ℕ
  listed : slice_get s.scopes.ordinary index ≡ Some (spelled, entry)
  there : slice_get s.scopes.entities entry.place ≡ Some entity

found : (s : State) (name : List ℕ) (entity : Entity) → entity_of s name ≡ Some entity → Found s name entity
found s name entity e =
    let x = and_then_some (entity_at s) (entry_of s name) entity e in
    let v = visible_at s.scopes.ordinary name x.0 x.1 in
    record { entry = x.0; index = v.0; spelled = v.1.0; listed = v.1.1; there = x.2 }

object_place : (m : ModuleValue) (locals : List LocalValue) (register : Bool) (t : ℕ) (q : QType) (symbol : Symbol) → IsLawfulType m.records (type_of q) → (IsFunctionType (type_of q) → ⊥)
    → IsObject m symbol q → GoodOperand m locals (lvalue_operand register (Node t q (T.Global symbol)))
unfolding IsTyped
object_place m locals register t q symbol lawful object h = record {
  typed = (lawful_known m.records (type_of q) lawful, h);
  lawful = lawful;
  lvalue = λ e. tt;
  designates = λ f. absurd (object f);
}

linked_good : (s : State) (m : ModuleValue) (locals : List LocalValue) (t place : ℕ) (q : QType) → IsLawfulType m.records (type_of q) → IsNamed m (symbol_at s place) q
    → GoodOperand m locals (linked_operand s t place q)
unfolding IsTyped
linked_good s m locals t place (Qualified (Function result params) c v) lawful h = record {
  typed = (lawful_known m.records (Function result params) lawful, ((result, params, refl), h));
  lawful = lawful;
  lvalue = λ e. no e;
  designates = λ f. tt;
}
linked_good s m locals t place (Qualified Void c v) lawful h = object_place m locals false t (Qualified Void c v) (symbol_at s place) lawful (no_function Void refl) h
linked_good s m locals t place (Qualified (Int k) c v) lawful h = object_place m locals false t (Qualified (Int k) c v) (symbol_at s place) lawful (no_function (Int k) refl) h
linked_good s m locals t place (Qualified (Pointer q) c v) lawful h = object_place m locals false t (Qualified (Pointer q) c v) (symbol_at s place) lawful (no_function (Pointer q) refl) h
linked_good s m locals t place (Qualified (Array q n) c v) lawful h = object_place m locals false t (Qualified (Array q n) c v) (symbol_at s place) lawful (no_function (Array q n) refl) h
linked_good s m locals t place (Qualified (Record n) c v) lawful h = object_place m locals false t (Qualified (Record n) c v) (symbol_at s place) lawful (no_function (Record n) refl) h

local_good : (m : ModuleValue) (locals : List LocalValue) (register : Bool) (t k : ℕ) (q : QType) → IsLawfulType m.records (type_of q) → (IsFunctionType (type_of q) → ⊥)
    → HasLocal locals k q → GoodOperand m locals (lvalue_operand register (Node t q (T.Local k)))
unfolding IsTyped
local_good m locals register t k q lawful object h = record {
  typed = (lawful_known m.records (type_of q) lawful, h);
  lawful = lawful;
  lvalue = λ e. tt;
  designates = λ f. absurd (object f);
}

entity_good : (s : State) (t : ℕ) (name : List ℕ) (entity : Entity) (a : Operand) → IsLawful s → entity_of s name ≡ Some entity → entity_operand s t entity ≡ Some a → Fine s a
entity_good s t name (TypeName q) a l e f = never_some f
entity_good s t name (EnumerationConstant n) a l e f =
    subst (Fine s) (some_same f) (λ m locals d w. number_good m locals t K.Int n refl w)
entity_good s t name (LocalObject k q register) a l e f =
    subst (Fine s) (some_same f) (λ m locals d w.
    let x = found s name (LocalObject k q register) e in
    let like : IsObjectLike s.types.records q = l.entities x.entry.place (LocalObject k q register) x.there in
    local_good m locals register t k q (lawful_later s.types.records m.records d.records (type_of q) like.lawful) like.object
    (d.locals_are x.index (x.spelled, x.entry) k q register x.listed x.there))
entity_good s t name (StaticObject k q) a l e f =
    subst (Fine s) (some_same f) (λ m locals d w.
    let x = found s name (StaticObject k q) e in
    let like : IsObjectLike s.types.records q = l.entities x.entry.place (StaticObject k q) x.there in
    object_place m locals false t q (Hidden k) (lawful_later s.types.records m.records d.records (type_of q) like.lawful) like.object
    (d.entities x.entry.place (StaticObject k q) x.there))
entity_good s t name (Linked place q) a l e f =
    subst (Fine s) (some_same f) (λ m locals d w.
    let x = found s name (Linked place q) e in
    linked_good s m locals t place q (lawful_later s.types.records m.records d.records (type_of q) (l.entities x.entry.place (Linked place q) x.there))
    (d.entities x.entry.place (Linked place q) x.there))

pub identifier_runs : (s : State) (w : Word) → IsLawful s → Runs s (identifier_rule w s) Fine
unfolding identifier_rule bind
identifier_runs s w l =
    post_granted DeclaredIdentifier w.token [] (option_and_then (entity_operand s w.token) (entity_of s w.text)) s (λ r. IsLawful r.1 × Grows s r.1 × Fine r.1 r.0)
    (λ a e met.
    let x = and_then_some (entity_operand s w.token) (entity_of s w.text) a e in
    (l, grows_same s, entity_good s w.token w.text x.0 a l x.1 x.2))

-- ---- constants

pub number_runs : (s : State) (w : Word) → IsLawful s → Runs s (number_rule w s) Fine
unfolding number_rule bind
number_runs s w l = λ met. (
  l,
  grows_same s,
  λ m locals d words.
      number_good m locals w.token (unwrap_or (integer_type w.text) K.Int) (integer_value w.text) (constant_wide w.text) words,
)

pub character_runs : (s : State) (w : Word) → IsLawful s → Runs s (character_rule w s) Fine
unfolding character_rule bind
character_runs s w l = λ met. (l, grows_same s, λ m locals d words. number_good m locals w.token K.Int _ refl words)

abbrev string_object : List ℕ → HiddenObject
string_object bytes = record { ty = string_type bytes; writable = false; items = bytes_at_start bytes }

string_good : (m : ModuleValue) (locals : List LocalValue) (t k : ℕ) (bytes : List ℕ) → Rattle.pw_types.specs.WellTyped.IsDefined m (Hidden k) (string_type bytes)
    → GoodOperand m locals (lvalue_operand false (Node t (string_type bytes) (T.Str k)))
unfolding IsTyped
string_good m locals t k bytes h = record {
  typed = (tt, (h, (false, false, length bytes, refl)));
  lawful = (tt, refl);
  lvalue = λ e. tt;
  designates = λ f. absurd (no_function (Array (plain (Int K.Char)) (Some (length bytes))) refl f);
}

pub string_runs : (s : State) (ws : List Word) → IsLawful s → Runs s (string_rule ws s) Fine
unfolding string_rule string_point bind
string_runs s ws l = λ met. by met s.made.counting refl
  where
    bytes : List ℕ
    bytes = string_bytes_of (texts_of ws)

    by : AreMet (needs EscapeFits (Rattle.pw_tree.specs.FirstTokens.first_of_words ws) (fits_bytes (characters_of_strings (texts_of ws))) ∷ []) → (b : Bool) → s.made.counting ≡ b
        → IsLawful (if b then add_hidden (string_object (string_bytes_of (texts_of ws))) s else s)
        × Grows s (if b then add_hidden (string_object (string_bytes_of (texts_of ws))) s else s)
        × Fine (if b then add_hidden (string_object (string_bytes_of (texts_of ws))) s else s)
        (lvalue_operand false (Node (Rattle.pw_tree.specs.FirstTokens.first_of_words ws) (string_type (string_bytes_of (texts_of ws))) (T.Str (length s.made.hidden))))
    by met true c = (
      hidden_added s (string_object (string_bytes_of (texts_of ws))) l,
      hidden_grows IsString s (string_object (string_bytes_of (texts_of ws))) (string_bytes_of (texts_of ws), refl, refl, string_small (characters_of_strings (texts_of ws)) (truth _ met.0)),
      λ m locals d w. string_good m locals _ (length s.made.hidden) (string_bytes_of (texts_of ws))
          (d.strings (length s.made.hidden) (string_object (string_bytes_of (texts_of ws))) (get_last s.made.hidden (string_object (string_bytes_of (texts_of ws))))),
    )
    by met false c = (l, grows_same s, λ m locals d w. no (sym c ∙ d.counting))

abbrev pub Nothing : {A : Type 0} → State → A → Type 0
Nothing s a = Unit {0}

pub length_runs : (s : State) (first : ℕ) (e : Expression) → IsLawful s → Runs s (length_rule first e s) Nothing
unfolding length_rule bind
length_runs s first e l = λ met. (l, grows_same s, tt)

pub enumerator_value_runs : (s : State) (first : ℕ) (e : Expression) → IsLawful s → Runs s (enumerator_value first e s) Nothing
unfolding enumerator_value bind
enumerator_value_runs s first e l = λ met. (l, grows_same s, tt)

-- ---- enumerations

pub none_here : (s : State) (name : List ℕ) → is_none (entry_here s name) ≡ true → entry_here s name ≡ None
none_here s name e = by (entry_here s name) e
  where
    by : (o : Option Entry) → is_none o ≡ true → o ≡ None
    by None f = refl
    by (Some x) f = no f

pub enumerator_name_runs : (s : State) (w : Word) → IsLawful s → Runs s (enumerator_name w s) Nothing
unfolding enumerator_name bind
enumerator_name_runs s w l = λ met. (l, grows_same s, tt)

pub enumerator_runs : (s : State) (w : Word) (value : Option ℕ) → IsLawful s → Runs s (enumerator_rule w value s) Nothing
unfolding enumerator_rule enumerator_name bind
enumerator_runs s w value l = λ met counted.
    (entered s w.text (EnumerationConstant (unwrap_or value 0)) l tt, entered_grows IsConstant s w.text (EnumerationConstant (unwrap_or value 0)) tt tt (none_here s w.text (truth _ met.0)), tt)

pub enumerating_runs : (s : State) (w : Option Word) → IsLawful s → Runs s (enumerating_rule w s) Nothing
unfolding enumerating_rule bind
enumerating_runs s None l = (l, grows_same s, tt)
enumerating_runs s (Some w) l = λ met. (tagged s w.text G.Enumeration l tt, tagged_grows s w.text G.Enumeration, tt)

abbrev pub GoodType : State → QType → Type 0
GoodType s q = IsLawfulType s.types.records (type_of q)

pub enumeration_runs : (s : State) (w : Word) → IsLawful s → Runs s (enumeration_rule w s) GoodType
unfolding enumeration_rule enumeration_by bind
enumeration_runs s w l = by (tag_of s w.text)
  where
    by : (o : Option Tag) → Runs s (enumeration_by w o s) GoodType
    by None = tt
    by (Some (G.Record n)) = tt
    by (Some G.Enumeration) = (l, grows_same s, tt)

-- ---- structures and unions

-- a tag that is visible
tag_lawful : (s : State) (name : List ℕ) (tag : Tag) → IsLawful s → tag_of s name ≡ Some tag → IsLawfulTag s.types.records tag
tag_lawful s name tag l e =
    let x = map_some (λ (e : TagEntry). e.tag) (Rattle.pw_scope.specs.Visible.visible s.scopes.tags name) tag e in
    let v = visible_at s.scopes.tags name x.0 x.1 in
    subst (IsLawfulTag s.types.records) x.2 (l.tags v.0 (v.1.0, x.0) v.1.1)

if_here_some : (depth : ℕ) (b : Bool) (e : TagEntry) (tag : Tag) → (if b then Some e.tag else None) ≡ Some tag → e.tag ≡ tag
if_here_some depth true e tag h = some_same h
if_here_some depth false e tag h = never_some h

pub tag_here_lawful : (s : State) (name : List ℕ) (tag : Tag) → IsLawful s → tag_here s name ≡ Some tag → IsLawfulTag s.types.records tag
tag_here_lawful s name tag l e =
    let x = and_then_some (tag_if_here s.scopes.depth) (Rattle.pw_scope.specs.Visible.visible s.scopes.tags name) tag e in
    let v = visible_at s.scopes.tags name x.0 x.1 in
    subst (IsLawfulTag s.types.records) (if_here_some s.scopes.depth (x.0.depth == s.scopes.depth) x.0 tag x.2) (l.tags v.0 (v.1.0, x.0) v.1.1)

last_within : (kind : RecordKind) (xs : List RecordValue) → length xs < length (xs ++ declared kind ∷ [])
last_within kind [] = omega arith
last_within kind (r ∷ xs) = let h : length xs < length (xs ++ declared kind ∷ []) = last_within kind xs in omega (arith, h)

content_last : (kind : RecordKind) (xs : List RecordValue) → content_at (xs ++ declared kind ∷ []) (length xs) ≡ None
content_last kind [] = refl
content_last kind (r ∷ xs) = content_last kind xs

kind_last : (kind : RecordKind) (xs : List RecordValue) → kind_at (xs ++ declared kind ∷ []) (length xs) ≡ kind
kind_last kind [] = refl
kind_last kind (r ∷ xs) = kind_last kind xs

last_is : {X : Type 0} (xs : List X) (y z : X) (n : ℕ) → n ≡ length xs → slice_get (xs ++ y ∷ []) n ≡ Some z → y ≡ z
last_is xs y z n same e = some_same (sym (subst (λ k. slice_get (xs ++ y ∷ []) k ≡ Some y) (sym same) (get_last xs y)) ∙ e)

new_closed : (s : State) (kind : RecordKind) → IsLawful s → Closed (add_record (declared kind) s) kind (length s.types.records)
new_closed s kind l = record {
  there = last_within kind s.types.records;
  unknown = content_last kind s.types.records;
  kind_is = kind_last kind s.types.records;
  fresh = λ e. no (last_is s.types.opened false true (length s.types.records) (sym l.counted) e);
}

never_begun : (s : State) → IsLawful s → slice_get s.types.opened (length s.types.records) ≡ Some true → ⊥
never_begun s l e =
    let h : length s.types.records < length s.types.opened = Rattle.pw_law_checked.proofs.Lists.get_within s.types.opened (length s.types.records) true e in
    let k : length s.types.opened ≡ length s.types.records = l.counted in
    grind (arith, h, k)

-- a type of its own, that the first state does not know
abbrev pub Fresh : RecordKind → State → State → ℕ → Type 0
Fresh kind s t n = Closed t kind n × (slice_get s.types.opened n ≡ Some true → ⊥)

pub new_record_runs : (s : State) (kind : RecordKind) → IsLawful s → Runs s (new_record kind s) (Fresh kind s)
unfolding new_record bind
new_record_runs s kind l = (record_added s kind l, record_grows s kind l, (new_closed s kind l, never_begun s l))

pub new_tag_runs : (s : State) (kind : RecordKind) (w : Word) → IsLawful s → Runs s (new_tag kind w s) (Fresh kind s)
unfolding new_tag new_record bind
new_tag_runs s kind w l = λ met.
    let c : Closed (add_record (declared kind) s) kind (length s.types.records) = new_closed s kind l in (
      tagged (add_record (declared kind) s) w.text (G.Record (length s.types.records)) (record_added s kind l) c.there,
      grows_trans (record_grows s kind l) (tagged_grows (add_record (declared kind) s) w.text (G.Record (length s.types.records))),
      (record { there = c.there; unknown = c.unknown; kind_is = c.kind_is; fresh = c.fresh }, never_begun s l),
    )

abbrev pub GoodReference : State → QType × Option ℕ → Type 0
GoodReference s r = IsLawfulType s.types.records (type_of r.0)

pub reference_by_runs : (s : State) (kind : RecordKind) (w : Word) (o : Option Tag) → IsLawful s → ((tag : Tag) → o ≡ Some tag → IsLawfulTag s.types.records tag)
    → Runs s (reference_by kind w o s) GoodReference
unfolding reference_by bind
reference_by_runs s kind w None l h =
    post_bind (new_tag kind w s) _ (λ r. IsLawful r.1 × Grows s r.1 × Fresh kind s r.1 r.0) (λ r. IsLawful r.1 × Grows s r.1 × GoodReference r.1 r.0) (new_tag_runs s kind w l)
    (λ r g. (g.0, g.1, g.2.0.there))
reference_by_runs s kind w (Some (G.Record n)) l h = λ met. (l, grows_same s, h (G.Record n) refl)
reference_by_runs s kind w (Some G.Enumeration) l h = tt

pub reference_runs : (s : State) (kind : RecordKind) (w : Word) → IsLawful s → Runs s (reference_rule kind w s) GoodReference
unfolding reference_rule bind
reference_runs s kind w l = reference_by_runs s kind w (tag_of s w.text) l (λ tag e. tag_lawful s w.text tag l e)

-- whether a record was begun
not_opened : (s : State) (n : ℕ) → is_opened s n ≡ false → slice_get s.types.opened n ≡ Some true → ⊥
not_opened s n e h = no (sym e ∙ ap (λ o. unwrap_or o false) h)

unknown_so : (s : State) (n : ℕ) → IsLawful s → (slice_get s.types.opened n ≡ Some true → ⊥) → content_at s.types.records n ≡ None
unknown_so s n l h = by (content_at s.types.records n) refl
  where
    by : (o : Option ContentValue) → content_at s.types.records n ≡ o → o ≡ None
    by None e = refl
    by (Some c) e = absurd (h (l.begun n c e))

kind_so : (a b : RecordKind) → same_record_kind a b ≡ true → b ≡ a
kind_so Structure Structure e = refl
kind_so Union Union e = refl
kind_so Structure Union e = no e
kind_so Union Structure e = no e

opening_by_runs : (s : State) (kind : RecordKind) (w : Word) (o : Option Tag) → IsLawful s → ((tag : Tag) → o ≡ Some tag → IsLawfulTag s.types.records tag)
    → Runs s (opening_by kind w o s) (Fresh kind s)
unfolding opening_by bind
opening_by_runs s kind w None l h = new_tag_runs s kind w l
opening_by_runs s kind w (Some (G.Record n)) l h = λ met.
    let closed : slice_get s.types.opened n ≡ Some true → ⊥ = not_opened s n (not_true (is_opened s n) (truth _ met.1.0)) in
    (l, grows_same s, (record { there = h (G.Record n) refl; unknown = unknown_so s n l closed; kind_is = kind_so kind (kind_at s.types.records n) (truth _ met.0); fresh = closed }, closed))
opening_by_runs s kind w (Some G.Enumeration) l h = tt

begins : (s : State) (kind : RecordKind) (w : Walk (ℕ × State)) → Runs s w (Fresh kind s) → Runs s (bind w (λ r. Done (r.0, open_record r.0 r.1))) (λ t n. Opened s t kind n)
begins s kind w h =
    post_bind w (λ r. Done (r.0, open_record r.0 r.1)) (λ r. IsLawful r.1 × Grows s r.1 × Fresh kind s r.1 r.0) (λ r. IsLawful r.1 × Grows s r.1 × Opened s r.1 kind r.0) h
    (λ r g.
    (opening_lawful r.1 kind r.0 g.0 g.2.0, grows_trans g.1 (opening_grows r.1 kind r.0 g.0 g.2.0), opened_now s r.1 kind r.0 g.0 g.2.0 g.2.1))

pub opening_runs : (s : State) (kind : RecordKind) (w : Option Word) → IsLawful s → Runs s (opening_rule kind w s) (λ t n. Opened s t kind n)
unfolding opening_rule bind
opening_runs s kind None l = begins s kind (new_record kind s) (new_record_runs s kind l)
opening_runs s kind (Some w) l = begins s kind (opening_by kind w (tag_here s w.text) s) (opening_by_runs s kind w (tag_here s w.text) l (λ tag e. tag_here_lawful s w.text tag l e))

abbrev pub GoodMembers : State → List MemberValue → Type 0
GoodMembers s ms =
    (i : ℕ) (m : MemberValue) → slice_get ms i ≡ Some m → IsObjectLike s.types.records m.ty × IsObjectType s.types.records (type_of m.ty)

pub closing_runs : (s t : State) (kind : RecordKind) (token n : ℕ) (ms : List MemberValue) → IsLawful t → Grows s t → Opened s t kind n → GoodMembers t ms
    → Post (closing_rule kind token n ms t) (λ r. IsLawful r.1 × Grows s r.1 × GoodType r.1 r.0)
unfolding closing_rule bind
closing_runs s t kind token n ms l g o members = λ met.
    let c : ContentValue = content_by t.types.records kind ms in (
      defined_lawful s t kind n (content_by t.types.records kind ms) l o (λ i m e. (members i m e).0)
          (follows_so t.types.records kind token ms (λ i m e. (members i m e).1) met),
      defined_grows s t kind n (content_by t.types.records kind ms) g o,
      let h = Rattle.pw_law_checked.proofs.Lists.length_put n (defined kind (content_by t.types.records kind ms)) t.types.records in
          subst (λ k. n < k) (sym h) o.there,
    )

-- ---- lists of specifiers

abbrev pub GoodTypes : List RecordValue → List QType → Type 0
GoodTypes r [] = Unit {0}
GoodTypes r (q ∷ qs) = IsLawfulType r (type_of q) × GoodTypes r qs

pub types_later : (a b : List RecordValue) → Extends a b → (qs : List QType) → GoodTypes a qs → GoodTypes b qs
types_later a b x [] h = tt
types_later a b x (q ∷ qs) h = (lawful_later a b x (type_of q) h.0, types_later a b x qs h.1)

pub types_more : (r : List RecordValue) (qs : List QType) (q : QType) → GoodTypes r qs → IsLawfulType r (type_of q) → GoodTypes r (qs ++ q ∷ [])
types_more r [] q h k = (k, tt)
types_more r (p ∷ qs) q h k = (h.0, types_more r qs q h.1 k)

abbrev pub GoodGathered : State → Gathered → Type 0
GoodGathered s g = GoodTypes s.types.records g.others

abbrev RowsLawful : List RecordValue → List (List BasicType × CType) → Type 0
RowsLawful r [] = Unit {0}
RowsLawful r (row ∷ rows) = IsLawfulType r row.1 × RowsLawful r rows

find_row : (r : List RecordValue) (p : List BasicType × CType → Bool) (rows : List (List BasicType × CType)) (row : List BasicType × CType)
    → RowsLawful r rows → find p rows ≡ Some row → IsLawfulType r row.1
find_row r p [] row h e = never_some e
find_row r p (x ∷ rows) row h e = by (p x) e (find_row r p rows row h.1)
  where
    by : (b : Bool) → cond b (Some x) (find p rows) ≡ Some row → (find p rows ≡ Some row → IsLawfulType r row.1) → IsLawfulType r row.1
    by true f rest = subst (λ y. IsLawfulType r y.1) (some_same f) h.0
    by false f rest = rest f

table_lawful : (r : List RecordValue) → RowsLawful r table
table_lawful r = (tt, (tt, (tt, (tt, (tt, (tt, (tt, (tt, (tt, (tt, (tt, (tt, (tt, (tt, (tt, (tt, (tt, (tt, (tt, (tt, (tt, (tt, tt))))))))))))))))))))))

words_lawful : (r : List RecordValue) (words : List BasicType) (q : QType) → type_of_words words ≡ Some q → IsLawfulType r (type_of q)
words_lawful r words q e =
    let x = map_some (λ (row : List BasicType × CType). plain row.1) (find (λ row. same_words row.0 words) table) q e in
    subst (λ y. IsLawfulType r (type_of y)) x.2 (find_row r (λ row. same_words row.0 words) table x.0 (table_lawful r) x.1)

listed_lawful : (r : List RecordValue) (words : List BasicType) (others : List QType) (q : QType) → GoodTypes r others → type_listed words others ≡ Some q → IsLawfulType r (type_of q)
listed_lawful r words [] q h e = words_lawful r words q e
listed_lawful r [] (ty ∷ []) q h e = subst (λ y. IsLawfulType r (type_of y)) (some_same e) h.0
listed_lawful r _ _ q h e = never_some e

unwrapped : (r : List RecordValue) (o : Option QType) → ((q : QType) → o ≡ Some q → IsLawfulType r (type_of q)) → IsLawfulType r (type_of (unwrap_or o int_type))
unwrapped r None h = tt
unwrapped r (Some q) h = h q refl

abbrev pub GoodSpecified : State → Specified → Type 0
GoodSpecified s b = IsLawfulType s.types.records (type_of b.ty)

pub specified_runs : (s : State) (first : ℕ) (g : Gathered) → IsLawful s → GoodGathered s g → Runs s (specified first g s) GoodSpecified
unfolding specified bind
specified_runs s first g l h = λ met. (
  l,
  grows_same s,
  lawful_qualify s.types.records (not (g.constants == 0)) (not (g.volatiles == 0)) (unwrap_or (type_listed g.words g.others) int_type)
      (unwrapped s.types.records (type_listed g.words g.others) (λ q e. listed_lawful s.types.records g.words g.others q h e)),
)

pub typedef_runs : (s : State) (w : Word) → IsLawful s → Runs s (typedef_rule w s) GoodType
unfolding typedef_rule bind
typedef_runs s w l =
    post_granted DeclaredIdentifier w.token [] (option_and_then typedef_type (entity_of s w.text)) s (λ r. IsLawful r.1 × Grows s r.1 × GoodType r.1 r.0)
    (λ q e met.
    let x = and_then_some typedef_type (entity_of s w.text) q e in
    (l, grows_same s, by x.0 q x.2 (let f = found s w.text x.0 x.1 in l.entities f.entry.place x.0 f.there)))
  where
    by : (entity : Entity) (q : QType) → typedef_type entity ≡ Some q → IsLawfulEntity s.types.records entity → IsLawfulType s.types.records (type_of q)
    by (TypeName p) q e h = subst (λ y. IsLawfulType s.types.records (type_of y)) (some_same e) h
    by _ q e h = never_some e

-- ---- declarators

abbrev pub GoodStep : List RecordValue → Derivation → Type 0
GoodStep r (ToPointer t qs) = Unit {0}
GoodStep r (ToArray n) = Unit {0}
GoodStep r (ToFunction ps) = AreLawfulTypes r ps

abbrev pub GoodSteps : List RecordValue → List Derivation → Type 0
GoodSteps r [] = Unit {0}
GoodSteps r (step ∷ rest) = GoodStep r step × GoodSteps r rest

pub step_later : (a b : List RecordValue) → Extends a b → (step : Derivation) → GoodStep a step → GoodStep b step
step_later a b x (ToPointer t qs) h = tt
step_later a b x (ToArray n) h = tt
step_later a b x (ToFunction ps) h = all_lawful_later a b x ps h

pub steps_later : (a b : List RecordValue) → Extends a b → (steps : List Derivation) → GoodSteps a steps → GoodSteps b steps
steps_later a b x [] h = tt
steps_later a b x (step ∷ rest) h = (step_later a b x step h.0, steps_later a b x rest h.1)

pub steps_more : (r : List RecordValue) (xs ys : List Derivation) → GoodSteps r xs → GoodSteps r ys → GoodSteps r (xs ++ ys)
steps_more r [] ys h k = k
steps_more r (step ∷ xs) ys h k = (h.0, steps_more r xs ys h.1 k)

result_by : (ty : CType) → not (is_function ty || is_array ty) ≡ true → not (is_record ty) ≡ true → IsResult ty
result_by Void e f = inl refl
result_by (Int k) e f = inr tt
result_by (Pointer q) e f = inr tt
result_by (Array q n) e f = no e
result_by (Function q ps) e f = no e
result_by (Record n) e f = no f

stepped_runs : (s : State) (spot : Spot) (steps : List Derivation) (q : QType) → IsLawful s → GoodSteps s.types.records steps → IsLawfulType s.types.records (type_of q)
    → Runs s (stepped spot steps q s) GoodType
unfolding stepped bind
stepped_runs s spot [] q l h k = (l, grows_same s, k)
stepped_runs s spot (ToPointer t qs ∷ rest) q l h k = λ met. stepped_runs s spot rest (step_type (ToPointer t qs) q) l h.1 (lawful_pointer s.types.records q k)
stepped_runs s spot (ToArray n ∷ rest) (Qualified ty c v) l h k = λ met.
    stepped_runs s spot rest (step_type (ToArray n) (Qualified ty c v)) l h.1 (k, is_complete_so s.types.records ty (completed_so s.types.records spot ElementType ty met.1.0))
stepped_runs s spot (ToFunction ps ∷ rest) (Qualified ty c v) l h k = λ met.
    stepped_runs s spot rest (step_type (ToFunction ps) (Qualified ty c v)) l h.1 (k, result_by ty (truth _ met.0) (truth _ met.1.0), h.0)

pub built_runs : (s : State) (spot : Spot) (steps : List Derivation) (q : QType) → IsLawful s → GoodSteps s.types.records steps → IsLawfulType s.types.records (type_of q)
    → Runs s (built spot steps q s) GoodType
unfolding built bind
built_runs s spot steps q l h k = λ met. stepped_runs s spot steps q l h k

abbrev pub AreScalars : List RecordValue → List ParameterValue → Type 0
AreScalars r [] = Unit {0}
AreScalars r (p ∷ ps) = IsLawfulType r (type_of p.ty) × IsScalar (type_of p.ty) × AreScalars r ps

pub scalars_later : (a b : List RecordValue) → Extends a b → (ps : List ParameterValue) → AreScalars a ps → AreScalars b ps
scalars_later a b x [] h = tt
scalars_later a b x (p ∷ ps) h = (lawful_later a b x (type_of p.ty) h.0, h.1, scalars_later a b x ps h.2)

-- what a parameter list declares: scalars, lawful tags, and names that are no objects of the module
pub record GoodBindings (r : List RecordValue) (es : List Entity) (b : Bindings) : Type 0 where
  pub scalars : AreScalars r b.parameters
  pub tags : (i : ℕ) (t : List ℕ × Tag) → slice_get b.tags i ≡ Some t → IsLawfulTag r t.1
  pub plain : (i : ℕ) (t : List ℕ × ℕ) → slice_get b.ordinary i ≡ Some t → (x : Entity) × (slice_get es t.1 ≡ Some x) × IsPlain x

abbrev pub GoodIfAny : List RecordValue → List Entity → Option Bindings → Type 0
GoodIfAny r es None = Unit {0}
GoodIfAny r es (Some b) = GoodBindings r es b

pub bindings_later : (a b : List RecordValue) (es fs : List Entity) → Extends a b → Longer es fs → (o : Option Bindings) → GoodIfAny a es o → GoodIfAny b fs o
bindings_later a b es fs x longer None h = tt
bindings_later a b es fs x longer (Some bs) h = record {
  plain = λ i t e. let y = h.plain i t e in (y.0, longer t.1 y.0 y.1, y.2);
  scalars = scalars_later a b x bs.parameters h.scalars;
  tags = λ i t e. tag_later a b x t.1 (h.tags i t e);
}

abbrev pub GoodDeclared : State → Declared → Type 0
GoodDeclared s d = GoodSteps s.types.records d.derivations × GoodIfAny s.types.records s.scopes.entities d.bindings

pub named_type_runs : (s : State) (b : Specified) (d : Declared) → IsLawful s → GoodSpecified s b → GoodDeclared s d → Runs s (named_type b d s) GoodType
unfolding named_type bind
named_type_runs s b d l h k =
    post_bind (built (spot_of None b.first b.tag) d.derivations b.ty s) _ (λ r. IsLawful r.1 × Grows s r.1 × GoodType r.1 r.0) (λ r. IsLawful r.1 × Grows s r.1 × GoodType r.1 r.0)
    (built_runs s (spot_of None b.first b.tag) d.derivations b.ty l k.0 h) (λ r g met. g)

members_more : (s : State) (ms : List MemberValue) (x : MemberValue) → GoodMembers s ms → IsObjectLike s.types.records x.ty × IsObjectType s.types.records (type_of x.ty) → GoodMembers s (ms ++ x ∷ [])
members_more s ms x h k i m e = by (get_either ms (x ∷ []) i m e)
  where
    by : (slice_get ms i ≡ Some m) ⊎ ((j : ℕ) × (slice_get (x ∷ []) j ≡ Some m)) → IsObjectLike s.types.records m.ty × IsObjectType s.types.records (type_of m.ty)
    by (inl f) = h i m f
    by (inr f) = subst (λ y. IsObjectLike s.types.records y.ty × IsObjectType s.types.records (type_of y.ty)) (get_one x f.0 m f.1) k

pub members_later : {s t : State} (ms : List MemberValue) → Grows s t → GoodMembers s ms → GoodMembers t ms
members_later {s} {t} ms g h = λ i m e.
    let x = h i m e in (like_later g.extends x.0, object_later s.types.records t.types.records g.extends (type_of m.ty) x.1)

pub member_runs : (s : State) (b : Specified) (d : Declared) (ms : List MemberValue) → IsLawful s → GoodSpecified s b → GoodDeclared s d → GoodMembers s ms
    → Runs s (member_rule b d ms s) GoodMembers
unfolding member_rule bind
member_runs s b d ms l h k members =
    post_bind (built (spot_of d.name b.first b.tag) d.derivations b.ty s) _ (λ r. IsLawful r.1 × Grows s r.1 × GoodType r.1 r.0) (λ r. IsLawful r.1 × Grows s r.1 × GoodMembers r.1 r.0)
    (built_runs s (spot_of d.name b.first b.tag) d.derivations b.ty l k.0 h)
    (λ r g met. (
      g.0,
      g.1,
      members_more r.1 ms (record { name = name_text d.name; ty = r.0 }) (members_later ms g.1 members) (
        record { lawful = g.2; object = no_function (type_of r.0) (not_true (is_function (type_of r.0)) (truth _ met.1.0)) },
        object_type r.1.types.records (type_of r.0)
            (completed_so r.1.types.records (spot_of d.name b.first b.tag) CompleteMember (type_of r.0) met.1.1.0)
            (within_so r.1.types.records (spot_of d.name b.first b.tag).token r.0 met.1.1.1.1),
      ),
    ))

-- ---- parameters (6.5.4.3)

pub parameter_storage_runs : (s : State) (b : Specified) → IsLawful s → Runs s (parameter_storage b s) Nothing
unfolding parameter_storage bind
parameter_storage_runs s b l = λ met. (l, grows_same s, tt)

-- one parameter, `void`, which says that there is none
abbrev pub IsVoidAlone : List ParameterValue → Type 0
IsVoidAlone (p ∷ []) = is_void (type_of p.ty) ≡ true
IsVoidAlone _ = ⊥

abbrev pub GoodParameters : List RecordValue → Bool → List ParameterValue → Type 0
GoodParameters r ended ps = AreScalars r ps ⊎ (IsVoidAlone ps × (ended ≡ true))

scalars_more : (r : List RecordValue) (ps : List ParameterValue) (p : ParameterValue) → AreScalars r ps → IsLawfulType r (type_of p.ty) → IsScalar (type_of p.ty) → AreScalars r (ps ++ p ∷ [])
scalars_more r [] p h k i = (k, i, tt)
scalars_more r (x ∷ ps) p h k i = (h.0, h.1, scalars_more r ps p h.2 k i)

adjusted_lawful : (r : List RecordValue) (q : QType) → IsLawfulType r (type_of q) → IsLawfulType r (type_of (adjusted q))
adjusted_lawful r (Qualified (Array (Qualified ty c v) n) d w) h = h.0
adjusted_lawful r (Qualified (Function q ps) c v) h = h
adjusted_lawful r (Qualified Void c v) h = h
adjusted_lawful r (Qualified (Int k) c v) h = h
adjusted_lawful r (Qualified (Pointer q) c v) h = h
adjusted_lawful r (Qualified (Record n) c v) h = h

adjusted_object : (q : QType) → IsFunctionType (type_of (adjusted q)) → ⊥
adjusted_object (Qualified (Array q n) d w) = no_function (Pointer q) refl
adjusted_object (Qualified (Function q ps) c v) = no_function (Pointer (Qualified (Function q ps) c v)) refl
adjusted_object (Qualified Void c v) = no_function Void refl
adjusted_object (Qualified (Int k) c v) = no_function (Int k) refl
adjusted_object (Qualified (Pointer q) c v) = no_function (Pointer q) refl
adjusted_object (Qualified (Record n) c v) = no_function (Record n) refl

-- it is a scalar, or void by itself
adjusted_is : (q : QType) → not (is_record (type_of q)) ≡ true → IsScalar (type_of (adjusted q)) ⊎ ((is_void (type_of q) ≡ true) × (is_void (type_of (adjusted q)) ≡ true))
adjusted_is (Qualified (Array q n) d w) e = inl tt
adjusted_is (Qualified (Function q ps) c v) e = inl tt
adjusted_is (Qualified Void c v) e = inr (refl, refl)
adjusted_is (Qualified (Int k) c v) e = inl tt
adjusted_is (Qualified (Pointer q) c v) e = inl tt
adjusted_is (Qualified (Record n) c v) e = no e

parameter_entered : (s : State) (name : Option Word) (entity : Entity) → IsLawful s → IsLawfulEntity s.types.records entity → IsLawful (enter_parameter name entity s)
parameter_entered s None entity l h = l
parameter_entered s (Some w) entity l h = entered s w.text entity l h

parameter_grows : (s : State) (name : Option Word) (entity : Entity) → IsPlain entity → AreMet (Rattle.pw_check_rules.specs.Leaves.named_point s name) → Widens s (enter_parameter name entity s)
parameter_grows s None entity plain met = widens_so (grows_same s)
parameter_grows s (Some w) entity plain met = entered_grows IsPlain s w.text entity plain plain (none_here s w.text (truth _ met.0))

same_records : (s : State) (name : Option Word) (entity : Entity) → (enter_parameter name entity s).types.records ≡ s.types.records
same_records s None entity = refl
same_records s (Some w) entity = refl

sole_so : (x y : Bool) → (not x || y) ≡ true → x ≡ true → y ≡ true
sole_so true y e f = e
sole_so false y e f = no f

alone_after : (ps : List ParameterValue) (p : ParameterValue) (ended : Bool) → (is_nil ps && ended) ≡ true → is_void (type_of p.ty) ≡ true → IsVoidAlone (ps ++ p ∷ []) × (ended ≡ true)
alone_after [] p ended e h = (h, e)
alone_after (x ∷ ps) p ended e h = no e

pub parameter_runs : (s : State) (ended : Bool) (b : Specified) (d : Declared) (ps : List ParameterValue) → IsLawful s → GoodSpecified s b → GoodDeclared s d → AreScalars s.types.records ps
    → Widely s (parameter_rule (is_nil ps && ended) b d ps s) (λ t x. GoodParameters t.types.records ended x)
unfolding parameter_rule bind
parameter_runs s ended b d ps l h k scalars =
    post_bind (built (spot_of d.name b.first b.tag) d.derivations b.ty s) _ (λ r. IsLawful r.1 × Grows s r.1 × GoodType r.1 r.0)
    (λ r. IsLawful r.1 × Widens s r.1 × GoodParameters r.1.types.records ended r.0)
    (built_runs s (spot_of d.name b.first b.tag) d.derivations b.ty l k.0 h)
    (λ r g met.
    let entity : Entity = LocalObject (length ps) (adjusted r.0) (Rattle.pw_check_rules.specs.SpecifierLists.is_register b.storage) in
    let like : IsObjectLike r.1.types.records (adjusted r.0) = record { lawful = adjusted_lawful r.1.types.records r.0 g.2; object = adjusted_object r.0 } in
    let own = met_right (Rattle.pw_check_rules.specs.Leaves.named_point r.1 d.name) _ met in (
      parameter_entered r.1 d.name entity g.0 like,
      grows_trans (widens_so g.1) (parameter_grows r.1 d.name entity tt (met_left (Rattle.pw_check_rules.specs.Leaves.named_point r.1 d.name) _ met)),
      subst (λ x. GoodParameters x ended (ps ++ record { name = d.name; ty = adjusted r.0 } ∷ [])) (sym (same_records r.1 d.name entity))
          (by r.1.types.records r.0 g.2 (scalars_later s.types.records r.1.types.records g.1.extends ps scalars) (truth _ own.0) (adjusted_is r.0 (truth _ own.1.0))),
    ))
  where
    by : (x : List RecordValue) (q : QType) → IsLawfulType x (type_of q) → AreScalars x ps
        → (not (is_void (type_of q)) || says_none (is_nil ps && ended) b d.name q) ≡ true
        → IsScalar (type_of (adjusted q)) ⊎ ((is_void (type_of q) ≡ true) × (is_void (type_of (adjusted q)) ≡ true))
        → GoodParameters x ended (ps ++ record { name = d.name; ty = adjusted q } ∷ [])
    by x q lawful all e (inl scalar) = inl (scalars_more x ps (record { name = d.name; ty = adjusted q }) all (adjusted_lawful x q lawful) scalar)
    by x q lawful all e (inr void) =
        inr (alone_after ps (record { name = d.name; ty = adjusted q }) ended
        (left (is_nil ps && ended) _ (left _ _ (left _ _ (left _ _ (sole_so (is_void (type_of q)) _ e void.0))))) void.1)

pub scalars_types : (r : List RecordValue) (ps : List ParameterValue) → AreScalars r ps → AreLawfulTypes r (parameter_types ps)
scalars_types r [] h = tt
scalars_types r (p ∷ ps) h = by p.ty h.0 h.1 (scalars_types r ps h.2)
  where
    by : (q : QType) → IsLawfulType r (type_of q) → IsScalar (type_of q) → AreLawfulTypes r (parameter_types ps) → AreLawfulTypes r (OneType q (parameter_types ps))
    by (Qualified ty c v) h k rest = (h, k, rest)

without_void_scalars : (r : List RecordValue) (ended : Bool) (ps : List ParameterValue) → GoodParameters r ended ps → AreScalars r (without_void ps)
without_void_scalars r ended [] h = tt
without_void_scalars r ended (p ∷ []) (inl h) = by (is_void (type_of p.ty))
  where
    by : (b : Bool) → AreScalars r (if b then [] else p ∷ [])
    by true = tt
    by false = h
without_void_scalars r ended (p ∷ []) (inr h) = subst (λ b. AreScalars r (if b then [] else p ∷ [])) (sym h.0) tt
without_void_scalars r ended (p ∷ x ∷ ps) (inl h) = h
without_void_scalars r ended (p ∷ x ∷ ps) (inr h) = absurd h.0

-- the names that are declared in the scope itself are those that were entered there
scope_plain : (s t : State) → IsLawful s → Widens (one_deeper s) t → (i : ℕ) (e : List ℕ × Entry) → slice_get t.scopes.ordinary i ≡ Some e → e.1.depth ≡ t.scopes.depth
    → (x : Entity) × (slice_get t.scopes.entities e.1.place ≡ Some x) × IsPlain x
scope_plain s t l g i e h deep = by (get_either s.scopes.ordinary g.more i e (subst (λ xs. slice_get xs i ≡ Some e) g.ordinary h))
  where
    by : (slice_get s.scopes.ordinary i ≡ Some e) ⊎ ((j : ℕ) × (slice_get g.more j ≡ Some e)) → (x : Entity) × (slice_get t.scopes.entities e.1.place ≡ Some x) × IsPlain x
    by (inl f) =
        let k : e.1.depth ≤ s.scopes.depth = l.depths i e f in
        let d : t.scopes.depth ≡ s.scopes.depth + 1 = g.depth in
        let same : e.1.depth ≡ t.scopes.depth = deep in
        grind (arith, k, d, same)
    by (inr f) = g.entered f.0 e f.1

pub bindings_runs : (s before : State) (ended : Bool) (ps : List ParameterValue) → IsLawful s → IsLawful before → Widens (one_deeper before) s → GoodParameters s.types.records ended ps
    → Runs s (bindings_rule ps s) (λ t b. GoodBindings t.types.records t.scopes.entities b)
unfolding bindings_rule bind
bindings_runs s before ended ps l lb g h = (
  l,
  grows_same s,
  record {
    scalars = without_void_scalars s.types.records ended ps h;
    tags = λ i t e.
        let x = get_map (λ (y : List ℕ × TagEntry). (y.0, y.1.tag)) (filter (λ (y : List ℕ × TagEntry). y.1.depth == s.scopes.depth) s.scopes.tags) i t e in
        let y = get_filter (λ (y : List ℕ × TagEntry). y.1.depth == s.scopes.depth) s.scopes.tags i x.0 x.1 in
        subst (λ z. IsLawfulTag s.types.records z.1) x.2 (l.tags y.0 x.0 y.1);
    plain = λ i t e.
        let x = get_map (λ (y : List ℕ × Entry). (y.0, y.1.place)) (filter (λ (y : List ℕ × Entry). y.1.depth == s.scopes.depth) s.scopes.ordinary) i t e in
        let y = get_filter (λ (y : List ℕ × Entry). y.1.depth == s.scopes.depth) s.scopes.ordinary i x.0 x.1 in
        subst (λ (z : List ℕ × ℕ). (w : Entity) × (slice_get s.scopes.entities z.1 ≡ Some w) × IsPlain w) x.2
        (scope_plain before s lb g y.0 x.0 y.1 (eqb-true x.0.1.depth s.scopes.depth y.2));
  },
)
