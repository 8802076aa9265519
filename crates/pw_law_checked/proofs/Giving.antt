-- What the initialiser of an object gives, together: its type, complete where it can be, and its items.
use Rattle.std.specs.Prelude.{◌≡◌, true, false, None, Some, refl, List, ℕ}
use Rattle.std.proofs.Common.{inl, inr, sym, ◌∙◌}
use Rattle.pw_tree.specs.Trees.{Init}
use Rattle.pw_types.specs.Layouts.{layout_of, array_layout}
use Rattle.pw_types.specs.TypeTrees.{CType, Void, Int, Pointer, Array, Function, Record, QType, Qualified, type_of, RecordValue}
use Rattle.pw_types.specs.WellTyped.{IsComplete}
use Rattle.pw_check_rules.specs.Initialisers.{Context, Initialised, object_rule, with_length}
use Rattle.pw_check_rules.specs.Kinds.{is_array, is_open_array}
use Rattle.pw_check_rules.specs.States.{State}
use Rattle.pw_law_checked.specs.Lawful.{IsLawful, Extends}
use Rattle.pw_law_checked.proofs.Walking.{post_both, post_if, post_weaken}
use Rattle.pw_law_checked.proofs.Types.{no, complete_later, lawful_later, map_is_some}
use Rattle.pw_law_checked.proofs.Composite.{Covers, covers_same, covers_trans}
use Rattle.pw_law_checked.proofs.States.{Grows}
use Rattle.pw_law_checked.proofs.Parts.{sized}
use Rattle.pw_law_checked.proofs.Cursors.{Whole}
use Rattle.pw_law_checked.proofs.Settled.{Rise, AreKnownItems}
use Rattle.pw_law_checked.proofs.Symbols.{IsCounted}
use Rattle.pw_law_checked.proofs.Items.{object_items}
use Rattle.pw_law_checked.proofs.KnownItems.{object_known}
use Rattle.pw_law_checked.proofs.Filling.{object_runs}
use Rattle.pw_law_checked.proofs.Initialisers.{IsLawfully, lawful_stays, covers_length, Completes, object_gives}
use Rattle.pw_law_checked.proofs.Keeping.{Pending, GoesBy, after_grows, AfterBy}
use Rattle.pw_law_checked.proofs.Defined.{IsOpen}

-- ---- what is complete, or gets its length

pub open_later : (a b : List RecordValue) (t : QType) → Extends a b → IsOpen a t → IsOpen b t
open_later a b t x (inl h) = inl h
open_later a b t x (inr h) = inr (complete_later a b x (type_of t) h)

length_complete : (r : List RecordValue) (n : ℕ) (t : QType) → IsLawfully r t → IsOpen r t → IsComplete r (type_of (with_length n t))
length_complete r n (Qualified (Array (Qualified ty d w) None) c v) lawful h = map_is_some (array_layout n) (layout_of r ty) ∙ lawful.1
length_complete r n (Qualified (Array q (Some k)) c v) lawful (inl h) = no h
length_complete r n (Qualified (Array q (Some k)) c v) lawful (inr h) = h
length_complete r n (Qualified Void c v) lawful (inl h) = no h
length_complete r n (Qualified Void c v) lawful (inr h) = h
length_complete r n (Qualified (Int k) c v) lawful (inl h) = no h
length_complete r n (Qualified (Int k) c v) lawful (inr h) = h
length_complete r n (Qualified (Pointer q) c v) lawful (inl h) = no h
length_complete r n (Qualified (Pointer q) c v) lawful (inr h) = h
length_complete r n (Qualified (Function q ps) c v) lawful (inl h) = no h
length_complete r n (Qualified (Function q ps) c v) lawful (inr h) = h
length_complete r n (Qualified (Record k) c v) lawful (inl h) = no h
length_complete r n (Qualified (Record k) c v) lawful (inr h) = h

open_array : (ty : CType) → is_open_array ty ≡ true → is_array ty ≡ false → ⊥
open_array (Array q n) e f = no (sym f)
open_array Void e f = no e
open_array (Int k) e f = no e
open_array (Pointer q) e f = no e
open_array (Function q ps) e f = no e
open_array (Record n) e f = no e

pub value_complete : (r : List RecordValue) (t : QType) → IsOpen r t → is_array (type_of t) ≡ false → IsComplete r (type_of t)
value_complete r t (inl h) e = absurd (open_array (type_of t) h e)
value_complete r t (inr h) e = h

abbrev Declared : QType → List RecordValue → QType → Type 0
Declared q r t = IsLawfully r t × Covers t q

abbrev Opened : List RecordValue → QType → Type 0
Opened r t = IsLawfully r t × IsOpen r t

abbrev Made : List RecordValue → QType → Type 0
Made r t = IsComplete r (type_of t)

declared_complete : (q : QType) → Completes (Declared q) (Declared q)
declared_complete q = record {
  later = λ a b t x h. (lawful_later a b x (type_of t) h.0, h.1);
  lengthened = λ r n t h. (lawful_stays.lengthened r n t h.0, covers_trans (covers_length n t) h.1);
  valued = λ r t h e. h;
}

opened_complete : Completes Opened Made
opened_complete = record {
  later = λ a b t x h. (lawful_later a b x (type_of t) h.0, open_later a b t x h.1);
  lengthened = λ r n t h. length_complete r n t h.0 h.1;
  valued = λ r t h e. value_complete r t h.1 e;
}

whole_open : (r : List RecordValue) (q : QType) → IsLawfully r q → IsOpen r q → Whole r (type_of q)
whole_open r (Qualified (Array (Qualified ty d w) None) c v) lawful h = inr (Qualified ty d w, refl, lawful.1)
whole_open r (Qualified (Array q (Some k)) c v) lawful (inl h) = no h
whole_open r (Qualified Void c v) lawful (inl h) = no h
whole_open r (Qualified (Int k) c v) lawful (inl h) = no h
whole_open r (Qualified (Pointer q) c v) lawful (inl h) = no h
whole_open r (Qualified (Function q ps) c v) lawful (inl h) = no h
whole_open r (Qualified (Record k) c v) lawful (inl h) = no h
whole_open r (Qualified (Array q (Some k)) c v) lawful (inr h) = inl h
whole_open r (Qualified Void c v) lawful (inr h) = inl h
whole_open r (Qualified (Int k) c v) lawful (inr h) = inl h
whole_open r (Qualified (Pointer q) c v) lawful (inr h) = inl h
whole_open r (Qualified (Function q ps) c v) lawful (inr h) = inl h
whole_open r (Qualified (Record k) c v) lawful (inr h) = inl h

-- ---- together

pub record Initialises (s t : State) (q : QType) (o : Initialised) : Type 0 where
  pub lawful : IsLawfully t.types.records o.ty
  pub covers : Covers o.ty q
  pub complete : IsOpen s.types.records q → IsComplete t.types.records (type_of o.ty)
  pub rise : IsOpen s.types.records q → Rise 0 (sized t.types.records (type_of o.ty)) o.filled.items
  pub known : IsCounted s → AreKnownItems t o.filled.items

pub object_all : (p : Pending) (s : State) (cx : Context) (q : QType) (i : Init) → IsLawful s → IsLawfully s.types.records q
    → GoesBy p p s (object_rule cx q i s) (λ t o. Initialises s t q o × Grows s t)
object_all p s cx q i l h =
    post_weaken (object_rule cx q i s) _ (λ r. IsLawful r.1 × AfterBy p p s r.1 × (Initialises s r.1 q r.0 × Grows s r.1))
    (post_both (object_rule cx q i s) _ _ (object_runs s cx q i l)
    (post_both (object_rule cx q i s) _ _ (object_gives (Declared q) (Declared q) (declared_complete q) s cx q i l (h, covers_same q))
    (post_both (object_rule cx q i s) _ _
    (post_if (IsOpen s.types.records q) (object_rule cx q i s) _ (λ opens. object_gives Opened Made opened_complete s cx q i l (h, opens)))
    (post_both (object_rule cx q i s) _ _
    (post_if (IsOpen s.types.records q) (object_rule cx q i s) _ (λ opens. object_items s cx q i l (whole_open s.types.records q h opens)))
    (post_if (IsCounted s) (object_rule cx q i s) _ (λ c. object_known s cx q i c)))))) (λ r g. (
      g.0.0,
      after_grows g.0.1,
      (
        record {
          lawful = g.1.0.2.0;
          covers = g.1.0.2.1;
          complete = λ opens. (g.1.1.0 opens).2;
          rise = λ opens. (g.1.1.1.0 opens).2;
          known = λ c. (g.1.1.1.1 c).2;
        },
        g.0.1,
      ),
    ))
