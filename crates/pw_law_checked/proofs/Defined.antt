-- Objects that are defined with an initialiser: behind it the name stands for a complete type at file scope, and has the items.
use Rattle.std.specs.Prelude.{ℕ, ◌≡◌, ◌⊎◌, Bool, true, false, Option, None, Some, is_some, option_map, option_and_then, unwrap_or, List, slice_get, refl}
use Rattle.std.specs.Option.{option_map_or, option_or}
use Rattle.std.proofs.Common.{ap, sym, subst, ◌∙◌, inl, inr}
use Rattle.pw_scope.specs.Visible.{visible}
use Rattle.pw_types.specs.Layouts.{layout_of, array_layout}
use Rattle.pw_types.specs.TypeTrees.{Void, Int, Pointer, Array, Function, Record, QType, Qualified, type_of, RecordValue}
use Rattle.pw_types.specs.WellTyped.{IsComplete}
use Rattle.pw_check_rules.specs.Compatible.{composite}
use Rattle.pw_check_rules.specs.Kinds.{is_array, is_open_array}
use Rattle.pw_check_rules.specs.Linkage.{note_here, type_here}
use Rattle.pw_check_rules.specs.States.{State, LinkedName, TypeName, Linked, entity_at, entry_here, enter, put_entity, put_linked, put_at}
use Rattle.pw_check_rules.specs.declared.names.Entry.{Entry}
use Rattle.pw_law_checked.specs.Lawful.{IsLawful, IsLawfulType}
use Rattle.pw_law_checked.proofs.Lists.{put_same, get_within}
use Rattle.pw_law_checked.proofs.Types.{no, extends_same}
use Rattle.pw_law_checked.proofs.Composite.{Covers, length_of, stem_layout, layout_alone, covers_first}
use Rattle.pw_law_checked.proofs.ObjectTypes.{complete_with}
use Rattle.pw_law_checked.proofs.Outside.{outer, outer_all, here_visible}
use Rattle.pw_law_checked.proofs.Parts.{sized}
use Rattle.pw_law_checked.proofs.Settled.{Rise, AreKnownItems, HasItems, sized_as, known_onward}
use Rattle.pw_law_checked.proofs.Sound.{Onward, filling_same}

-- ---- the layout of a composite type

array_is : (r : List RecordValue) (q : QType) (n : ℕ) → is_array (type_of q) ≡ true → length_of q ≡ Some n → layout_of r (type_of q) ≡ option_map (array_layout n) (stem_layout r (type_of q))
array_is r (Qualified (Array (Qualified ty d w) m) c v) n e f = ap (λ o. layout_of r (Array (Qualified ty d w) o)) f
array_is r (Qualified Void c v) n e f = no e
array_is r (Qualified (Int k) c v) n e f = no e
array_is r (Qualified (Pointer q) c v) n e f = no e
array_is r (Qualified (Function q ps) c v) n e f = no e
array_is r (Qualified (Record k) c v) n e f = no e

-- a complete array has a length
has_length : (r : List RecordValue) (q : QType) → is_array (type_of q) ≡ true → IsComplete r (type_of q) → (n : ℕ) × (length_of q ≡ Some n)
has_length r (Qualified (Array (Qualified ty d w) (Some n)) c v) e k = (n, refl)
has_length r (Qualified (Array (Qualified ty d w) None) c v) e k = no k
has_length r (Qualified Void c v) e k = no e
has_length r (Qualified (Int n) c v) e k = no e
has_length r (Qualified (Pointer q) c v) e k = no e
has_length r (Qualified (Function q ps) c v) e k = no e
has_length r (Qualified (Record n) c v) e k = no e

length_with : (a b : QType) → is_array (type_of a) ≡ true → is_array (type_of b) ≡ true → length_of (composite a b) ≡ option_or (length_of a) (length_of b)
unfolding composite
length_with (Qualified (Array p n) c v) (Qualified (Array q m) d w) e f = refl
length_with (Qualified (Array p n) c v) (Qualified Void d w) e f = no f
length_with (Qualified (Array p n) c v) (Qualified (Int k) d w) e f = no f
length_with (Qualified (Array p n) c v) (Qualified (Pointer q) d w) e f = no f
length_with (Qualified (Array p n) c v) (Qualified (Function q ps) d w) e f = no f
length_with (Qualified (Array p n) c v) (Qualified (Record k) d w) e f = no f
length_with (Qualified Void c v) b e f = no e
length_with (Qualified (Int k) c v) b e f = no e
length_with (Qualified (Pointer q) c v) b e f = no e
length_with (Qualified (Function q ps) c v) b e f = no e
length_with (Qualified (Record k) c v) b e f = no e

-- with a complete type that covers the first one it is that of this type
pub layout_with : (r : List RecordValue) (a b : QType) → Covers b a → IsLawfulType r (type_of a) → IsComplete r (type_of b) → layout_of r (type_of (composite a b)) ≡ layout_of r (type_of b)
layout_with r a b x lawful k = by (is_array (type_of b)) refl
  where
    first : Covers (composite a b) a
    first = covers_first r a b lawful

    stems : stem_layout r (type_of (composite a b)) ≡ stem_layout r (type_of b)
    stems = first.sizes r ∙ sym (x.sizes r)

    length : (n : ℕ) (o : Option ℕ) → length_of a ≡ o → length_of b ≡ Some n → is_array (type_of b) ≡ true → length_of (composite a b) ≡ Some n
    length n None e f z = length_with a b (sym x.array ∙ z) z ∙ (ap (λ o. option_or o (length_of b)) e ∙ f)
    length n (Some m) e f z = first.length m e ∙ (sym (x.length m e) ∙ f)

    by : (z : Bool) → is_array (type_of b) ≡ z → layout_of r (type_of (composite a b)) ≡ layout_of r (type_of b)
    by true z =
        let n = has_length r b z k in
        array_is r (composite a b) n.0 (first.array ∙ (sym x.array ∙ z)) (length n.0 (length_of a) refl n.1 z) ∙ (ap (option_map (array_layout n.0)) stems ∙ sym (array_is r b n.0 z n.1))
    by false z = layout_alone r (composite a b) (first.array ∙ (sym x.array ∙ z)) ∙ (stems ∙ sym (layout_alone r b z))

-- ---- the name behind its initialiser

pub noted_items : (s : State) (name : List ℕ) (place : ℕ) (ty : QType) (e : Entry) (q : QType) (x : LinkedName) → IsLawful s → s.scopes.depth ≡ 0 → entry_here s name ≡ Some e
    → slice_get s.scopes.entities e.place ≡ Some (Linked place q) → Covers ty q → IsComplete s.types.records (type_of ty) → Rise 0 (sized s.types.records (type_of ty)) x.items → AreKnownItems s x.items
    → x.name ≡ name → Onward s.types.linked (put_at place x s.types.linked) → HasItems (note_here name place ty (put_linked place x s)) place x
noted_items s name place ty e q x lawful zero here at covers complete rise known named on =
    let is : option_and_then (entity_at s) (entry_here s name) ≡ Some (Linked place q) = ap (option_and_then (entity_at s)) here ∙ at in
    let typed : IsLawfulType s.types.records (type_of q) = lawful.entities e.place (Linked place q) at in
    subst (λ w. HasItems (option_map_or (λ (y : Entry). put_entity y.place (Linked place (type_here ty (unwrap_or (option_and_then (entity_at s) (entry_here s name)) (TypeName ty)))) (put_linked place x s)) w (enter name (Linked place ty) (put_linked place x s))) place x)
    (sym here)
    (subst (λ o. HasItems (put_entity e.place (Linked place (type_here ty (unwrap_or o (TypeName ty)))) (put_linked place x s)) place x) (sym is)
    (record {
      final = record {
        entry = e;
        ty = composite q ty;
        stands = ap (outer s.scopes) named ∙ (outer_all s.scopes lawful.depths zero name ∙ here_visible s.scopes.depth (visible s.scopes.ordinary name) e here);
        there = put_same e.place (Linked place (composite q ty)) s.scopes.entities (get_within s.scopes.entities e.place (Linked place q) at);
        complete = complete_with s.types.records q ty covers typed complete;
      };
      rise = subst (λ n. Rise 0 n x.items) (sym (sized_as s.types.records s.types.records (type_of (composite q ty)) (type_of ty) (layout_with s.types.records q ty covers typed complete))) rise;
      known = known_onward s (put_entity e.place (Linked place (composite q ty)) (put_linked place x s)) (extends_same s.types.records) on (filling_same s.made.hidden) x.items known;
    }))

-- ---- what is complete, or gets its length

-- a type that is complete, or gets its length
abbrev pub IsOpen : List RecordValue → QType → Type 0
IsOpen r q = (is_open_array (type_of q) ≡ true) ⊎ IsComplete r (type_of q)

open_no_array : (q : QType) → is_array (type_of q) ≡ false → is_open_array (type_of q) ≡ false
open_no_array (Qualified (Array p n) c v) e = no (sym e)
open_no_array (Qualified Void c v) e = refl
open_no_array (Qualified (Int k) c v) e = refl
open_no_array (Qualified (Pointer p) c v) e = refl
open_no_array (Qualified (Function p ps) c v) e = refl
open_no_array (Qualified (Record k) c v) e = refl

array_open : (r : List RecordValue) (q : QType) → IsLawfulType r (type_of q) → is_array (type_of q) ≡ true → IsOpen r q
array_open r (Qualified (Array (Qualified ty d w) None) c v) lawful e = inl refl
array_open r (Qualified (Array (Qualified ty d w) (Some n)) c v) lawful e = inr (Rattle.pw_law_checked.proofs.Types.map_is_some (array_layout n) (layout_of r ty) ∙ lawful.1)
array_open r (Qualified Void c v) lawful e = no e
array_open r (Qualified (Int k) c v) lawful e = no e
array_open r (Qualified (Pointer p) c v) lawful e = no e
array_open r (Qualified (Function p ps) c v) lawful e = no e
array_open r (Qualified (Record k) c v) lawful e = no e

-- what one type covers is so if one of it is
pub open_shared : (r : List RecordValue) (a b c : QType) → Covers c a → Covers c b → IsLawfulType r (type_of a) → IsOpen r b → IsOpen r a
open_shared r a b c x y lawful h = by (is_array (type_of a)) refl h
  where
    by : (z : Bool) → is_array (type_of a) ≡ z → IsOpen r b → IsOpen r a
    by true z k = array_open r a lawful z
    by false z (inl k) = no (sym (open_no_array b (sym y.array ∙ (x.array ∙ z))) ∙ k)
    by false z (inr k) = inr (ap is_some (layout_alone r a z ∙ (sym (x.sizes r) ∙ (y.sizes r ∙ sym (layout_alone r b (sym y.array ∙ (x.array ∙ z)))))) ∙ k)
