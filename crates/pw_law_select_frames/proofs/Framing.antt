-- The words and slots of a frame, by the sizes of its parts.
use Rattle.std.proofs.Common.{ℕ, ℤ, negsuc, zero, suc, ◌≡◌, ◌+◌, ◌*◌, ◌%◌, ◌<◌, ◌≤◌, arith, refl, ap, sym, subst, ◌∙◌, Option, Some, None, option_map, List, [], ◌∷◌, map, length, slice_get, slice_index_or, Contains}
use Rattle.std.proofs.lemmas.Option.{slice_get-map, slice_get_within, same_Some}
use Rattle.pw_value.specs.Objects.{Object}
use Rattle.pw_value.specs.Rounding.{slot_room}
use Rattle.pw_alloc.specs.declared.located.Place.{Place}
use Rattle.pw_alloc.specs.declared.located.Place.TheVariants.{Slot, Reg}
use Rattle.pw_alloc.specs.declared.located.Located.{Located}
use Rattle.pw_alloc.specs.Frames.{head_size, below, temp_offset, reaches_from, last_reach, slots_begin}
use Rattle.pw_alloc.specs.Allocation.{slots_from, in_frame}
use Rattle.pw_run_languages.specs.Addresses.{Addresses}
use Rattle.pw_run_languages.specs.Serving.{Serves, slots_alone}
use Rattle.pw_law_select_states.specs.Frames.{HasFrame, words_size}
use Rattle.pw_law_select_frames.specs.Stack.{IsPlaceBelow}
use Rattle.pw_law_select_frames.specs.Framing.{words_begin, IsSized, IsSlotAt}

-- ---- sizes

counts_same : (places : List Place) → in_frame places ≡ length (slots_alone places)
counts_same [] = refl
counts_same (Slot offset ∷ rest) = let e = counts_same rest in omega (arith, e)
counts_same (Reg r ∷ rest) = counts_same rest

reach_above : (at : ℕ) (slots : List ℕ) → at ≤ last_reach at slots
reach_above at [] = omega arith
reach_above at (size ∷ rest) = let h = reach_above (at + slot_room size) rest in omega (arith, h)

room_even : (size : ℕ) → slot_room size % 8 ≡ 0
room_even size = omega arith

reach_even : (at : ℕ) (slots : List ℕ) → at % 8 ≡ 0 → last_reach at slots % 8 ≡ 0
reach_even at [] h = h
reach_even at (size ∷ rest) h = reach_even (at + slot_room size) rest (let e = room_even size in omega (arith, h, e))

-- the frame by the size of its words
frame_is : (f : Located) → Serves f.body f → f.frame ≡ last_reach (words_size f) f.body.slots
frame_is f h = h.frame ∙ ap (λ n. last_reach (slots_begin (head_size f.body) (length f.saved) n) f.body.slots) (sym (counts_same f.places))

pub sized : (f : Located) → Serves f.body f → IsSized f
sized f h =
    let frame = frame_is f h in
    let above = reach_above (words_size f) f.body.slots in
    let even = reach_even (words_size f) f.body.slots (omega arith) in
    record {
      words = omega arith;
      frame = omega (arith, frame, above);
      even = ap (λ n. n % 8) frame ∙ even;
      head = omega arith;
    }

-- ---- temporaries

-- a place in the frame is among those
slot_index : (places : List Place) (t : ℕ) (offset : ℤ) → slice_get places t ≡ Some (Slot offset) → (k : ℕ) × (slice_get (slots_alone places) k ≡ Some (Slot offset))
slot_index [] t offset e = absurd cc
slot_index (Slot o ∷ rest) zero offset e = (0, e)
slot_index (Reg r ∷ rest) zero offset e = absurd cc
slot_index (Slot o ∷ rest) (suc t) offset e = let s = slot_index rest t offset e in (suc s.0, s.1)
slot_index (Reg r ∷ rest) (suc t) offset e = slot_index rest t offset e

from_index : (head saved i more k : ℕ) (a : Place) → slice_get (slots_from head saved i more) k ≡ Some a → (k < more) × (a ≡ Slot (temp_offset head saved (i + k)))
from_index head saved i zero k a e = absurd cc
from_index head saved i (suc more) zero a e =
    let same : Slot (temp_offset head saved i) ≡ a = cc in
    let here : i ≡ i + 0 = omega arith in
    (omega arith, sym same ∙ ap (λ j. Slot (temp_offset head saved j)) here)
from_index head saved i (suc more) (suc k) a e =
    let s = from_index head saved (suc i) more k a e in
    let less = s.0 in
    let here : suc i + k ≡ i + suc k = omega arith in
    (omega (arith, less), s.1 ∙ ap (λ j. Slot (temp_offset head saved j)) here)

same_slot : (a b : ℤ) → Slot a ≡ Slot b → a ≡ b
same_slot a b e = cc

contained : (xs : List Place) (k : ℕ) (a : Place) → slice_get xs k ≡ Some a → Contains xs a
contained xs k a e = (k, slice_get_within xs k a e, read xs k a e)
  where
    read : (xs : List Place) (k : ℕ) (a : Place) → slice_get xs k ≡ Some a → slice_index_or xs k a ≡ a
    read [] k a e = refl
    read (x ∷ xs) zero a e = let same : x ≡ a = cc in same
    read (x ∷ xs) (suc k) a e = read xs k a e

pub place_is_below : (w : Addresses) (site : ℕ → ℕ) (objects : List Object) (f : Located) (top t : ℕ) (a : Place) → Serves f.body f → HasFrame w site objects f top
    → slice_get f.places t ≡ Some a → IsPlaceBelow w top (words_begin f) (words_size f) a
place_is_below w site objects f top t (Reg r) h has e = (h.registers r (contained f.places t (Reg r) e)).0
place_is_below w site objects f top t (Slot offset) h has e =
    let k = slot_index f.places t offset e in
    let s = from_index (head_size f.body) (length f.saved) 0 (length (slots_alone f.places)) k.0 (Slot offset) (ap (λ (l : List Place). slice_get l k.0) (sym h.words) ∙ k.1) in
    let less = s.0 in
    let count = counts_same f.places in
    let sizes = sized f h in
    let frame = sizes.frame in
    let low = has.low in
    let high = has.high in
    let aligned = has.aligned in
    let far = head_size f.body + 4 * length f.saved + 4 * (0 + k.0 + 1) in
    let within : far ≤ words_size f = omega (arith, less, count) in
    record {
      far = far;
      is = same_slot offset (temp_offset (head_size f.body) (length f.saved) (0 + k.0)) s.1;
      low = omega arith;
      high = within;
      inside = omega (arith, within, frame, low);
      word = record {
        aligned = omega (arith, aligned, within, frame, low);
        low = omega (arith, within, frame, low);
        high = omega (arith, high, within, frame, low);
      };
    }

-- ---- slots

-- how far the slot of a number reaches
reach_at : (at s size : ℕ) (slots : List ℕ) → slice_get slots s ≡ Some size → at % 8 ≡ 0
    → (far : ℕ) × (slice_get (reaches_from at slots) s ≡ Some far) × (at + slot_room size ≤ far) × (far ≤ last_reach at slots) × (far % 8 ≡ 0)
reach_at at s size [] e even = absurd cc
reach_at at zero size (x ∷ rest) e even =
    let same : x ≡ size = cc in
    let above = reach_above (at + slot_room x) rest in
    let room = room_even x in
    (at + slot_room x, refl, subst (λ n. at + slot_room n ≤ at + slot_room x) same (omega arith), above, omega (arith, even, room))
reach_at at (suc s) size (x ∷ rest) e even =
    let room = room_even x in
    let r = reach_at (at + slot_room x) s size rest e (omega (arith, even, room)) in
    let low = r.2 in
    (r.0, r.1, omega (arith, low), r.3, r.4)

reach_later : (at s t size other far further : ℕ) (slots : List ℕ) → s < t → slice_get slots t ≡ Some other → slice_get (reaches_from at slots) s ≡ Some far
    → slice_get (reaches_from at slots) t ≡ Some further → far + slot_room other ≤ further
reach_later at s zero size other far further slots less e one two = absurd (omega (arith, less))
reach_later at s (suc t) size other far further [] less e one two = absurd cc
reach_later at zero (suc t) size other far further (x ∷ rest) less e one two =
    let first : at + slot_room x ≡ far = cc in
    subst (λ n. n + slot_room other ≤ further) first (behind (at + slot_room x) t rest e two)
  where
    behind : (at t : ℕ) (slots : List ℕ) → slice_get slots t ≡ Some other → slice_get (reaches_from at slots) t ≡ Some further → at + slot_room other ≤ further
    behind at t [] e two = absurd cc
    behind at zero (x ∷ rest) e two =
        let same : x ≡ other = cc in
        let is : at + slot_room x ≡ further = cc in
        subst (λ n. at + slot_room other ≤ n) is (subst (λ n. at + slot_room n ≤ at + slot_room x) same (omega arith))
    behind at (suc t) (x ∷ rest) e two = let h = behind (at + slot_room x) t rest e two in omega (arith, h)
reach_later at (suc s) (suc t) size other far further (x ∷ rest) less e one two =
    reach_later (at + slot_room x) s t size other far further rest (omega (arith, less)) e one two

pub slot_stands : (f : Located) (s size : ℕ) → Serves f.body f → slice_get f.body.slots s ≡ Some size → IsSlotAt f s size
slot_stands f s size h e =
    let r = reach_at (words_size f) s size f.body.slots e (omega arith) in
    let frame = frame_is f h in
    let high = r.3 in
    record {
      far = r.0;
      is = slice_get-map below (reaches_from (words_size f) f.body.slots) s ∙ ap (option_map below) r.1;
      low = r.2;
      high = omega (arith, high, frame);
      even = r.4;
    }

-- an offset tells how far
same_far : (a b : ℕ) → below a ≡ below b → a ≡ b
same_far zero zero e = refl
same_far zero (suc b) e = absurd cc
same_far (suc a) zero e = absurd cc
same_far (suc a) (suc b) e = let same : negsuc a ≡ negsuc b = e in cc

reach_of : (at s far : ℕ) (slots : List ℕ) → slice_get (map below (reaches_from at slots)) s ≡ Some (below far) → slice_get (reaches_from at slots) s ≡ Some far
reach_of at s far slots e = by_get (slice_get (reaches_from at slots) s) (sym (slice_get-map below (reaches_from at slots) s) ∙ e)
  where
    by_get : (o : Option ℕ) → option_map below o ≡ Some (below far) → o ≡ Some far
    by_get None e = absurd cc
    by_get (Some n) e = let same : below n ≡ below far = same_Some (below n) (below far) e in ap Some (same_far n far same)

pub slots_apart : (f : Located) (s t size other : ℕ) → Serves f.body f → s < t → slice_get f.body.slots s ≡ Some size → slice_get f.body.slots t ≡ Some other
    → (one : IsSlotAt f s size) (two : IsSlotAt f t other) → one.far + slot_room other ≤ two.far
slots_apart f s t size other h less one two a b =
    reach_later (words_size f) s t size other a.far b.far f.body.slots less two
    (reach_of (words_size f) s a.far f.body.slots a.is) (reach_of (words_size f) t b.far f.body.slots b.is)
