-- What stays of items where words move into slots.
use Rattle.std.proofs.Common.{◌≡◌, ◌≤◌, suc, ◌+◌, Bool, true, false, if◌then◌else◌, None, Some, List, [], ◌∷◌, ◌++◌, inl, inr, refl, ap, ◌∙◌, append_assoc, arith}
use Rattle.std.specs.Prelude.{negsuc, not, ◌&&◌, Contains}
use Rattle.std.specs.List.{flat_map, AllByRecursion}
use Rattle.std.proofs.lemmas.Int.{ints}
use Rattle.std.proofs.lemmas.List.Elements.{All-contains_itself, recursion_from_All}
use Rattle.std.proofs.lemmas.List.Sums.{sum_by-cons}
use Rattle.pw_inst.specs.InstructionTable.{IsInRange}
use Rattle.pw_inst.specs.declared.Inst.TheVariants.{Combf}
use Rattle.pw_delay.specs.declared.items.Word.{Word}
use Rattle.pw_delay.specs.declared.items.Turn.{Turn}
use Rattle.pw_delay.specs.declared.items.Turn.TheVariants.{Back, If, Leave}
use Rattle.pw_delay.specs.declared.items.Item.{Item}
use Rattle.pw_delay.specs.declared.items.Item.TheVariants.{Plain, Turns, Mark}
use Rattle.pw_delay.specs.Lawful.{IsTurn, IsItem, AreItems}
use Rattle.pw_delay.specs.Placement.{turn_size, size, sizes}
use Rattle.pw_delay.specs.Filling.{moves, drawn_near, compared, with_slot, filled}
use Rattle.pw_delay.specs.Parts.{words_of, blocks_of, turns_of, led_anywhere, compared_by, takes_first, IsFilledFrom}

-- ---- parts of items, in order

-- a part that a turn with a word in its slot has of both
PartsMove : {X : Type 0} → (Item → List X) → Type 0
PartsMove f = (w : Word) (turn : Turn) → f (Turns (drawn_near turn) (Some w)) ≡ f (Plain w) ++ f (Turns turn None)

slot_parts : {X : Type 0} (f : Item → List X) → PartsMove f → (behind : Bool) (item : Item) (rest : List Item)
    → flat_map f (with_slot behind item rest) ≡ f item ++ flat_map f rest
unfolding PartsMove
slot_parts f moved behind (Plain w) (Turns turn None ∷ rest) = by (not behind && moves w.inst turn)
  where
    by : (t : Bool) → flat_map f (if t then Turns (drawn_near turn) (Some w) ∷ rest else Plain w ∷ Turns turn None ∷ rest)
        ≡ f (Plain w) ++ (f (Turns turn None) ++ flat_map f rest)
    by true = ap (λ l. l ++ flat_map f rest) (moved w turn) ∙ append_assoc (f (Plain w)) (f (Turns turn None)) (flat_map f rest)
    by false = refl
slot_parts f moved behind item rest = refl

parts_stay : {X : Type 0} (f : Item → List X) → PartsMove f → (behind : Bool) (items : List Item)
    → flat_map f (filled behind items) ≡ flat_map f items
parts_stay f moved behind [] = refl
parts_stay f moved behind (item ∷ rest) =
    slot_parts f moved behind item (filled (compared behind item) rest)
    ∙ ap (λ l. f item ++ l) (parts_stay f moved (compared behind item) rest)

words_move : PartsMove words_of
unfolding PartsMove
words_move w turn = refl

blocks_move : PartsMove blocks_of
unfolding PartsMove
blocks_move w turn = refl

led_alike : (turn : Turn) → led_anywhere (drawn_near turn) ≡ led_anywhere turn
led_alike (Back (Combf c r1 r2 disp)) = refl
led_alike turn = refl

turns_move : PartsMove turns_of
unfolding PartsMove
turns_move w turn = ap (λ t. t ∷ []) (led_alike turn)

pub words_stay : (behind : Bool) (items : List Item) → flat_map words_of (filled behind items) ≡ flat_map words_of items
words_stay = parts_stay words_of words_move

pub blocks_stay : (behind : Bool) (items : List Item) → flat_map blocks_of (filled behind items) ≡ flat_map blocks_of items
blocks_stay = parts_stay blocks_of blocks_move

pub turns_stay : (behind : Bool) (items : List Item) → flat_map turns_of (filled behind items) ≡ flat_map turns_of items
turns_stay = parts_stay turns_of turns_move

-- ---- sizes

turn_grows : (long : Bool) (turn : Turn) (w : Word) → turn_size long (drawn_near turn) (Some w) ≤ turn_size long turn None + 1
turn_grows true (If r b) w = omega arith
turn_grows false (If r b) w = omega arith
turn_grows long (Back (Combf c r1 r2 disp)) w = omega arith
turn_grows long Leave w = omega arith
turn_grows long turn w = omega arith

slot_sizes : (long behind : Bool) (item : Item) (rest : List Item) → sizes long (with_slot behind item rest) ≤ size long item + sizes long rest
slot_sizes long behind (Plain w) (Turns turn None ∷ rest) = by (not behind && moves w.inst turn)
  where
    more : sizes long (Turns turn None ∷ rest) ≡ turn_size long turn None + sizes long rest
    more = sum_by-cons (size long) (Turns turn None) rest

    by : (t : Bool) → sizes long (if t then Turns (drawn_near turn) (Some w) ∷ rest else Plain w ∷ Turns turn None ∷ rest)
        ≤ 1 + sizes long (Turns turn None ∷ rest)
    by true = omega (arith, more, turn_grows long turn w, sum_by-cons (size long) (Turns (drawn_near turn) (Some w)) rest)
    by false = omega (arith, sum_by-cons (size long) (Plain w) (Turns turn None ∷ rest))
slot_sizes long behind item rest = omega (arith, sum_by-cons (size long) item rest)

pub sizes_shrink : (long behind : Bool) (items : List Item) → sizes long (filled behind items) ≤ sizes long items
sizes_shrink long behind [] = omega arith
sizes_shrink long behind (item ∷ rest) =
    omega (
      arith,
      sum_by-cons (size long) item rest,
      sizes_shrink long (compared behind item) rest,
      slot_sizes long behind item (filled (compared behind item) rest),
    )

-- ---- what holds of each item

abbrev pub PropertiesMove : (Item → Type 0) → Type 0
PropertiesMove P = (w : Word) (turn : Turn) → P (Plain w) → P (Turns turn None) → moves w.inst turn ≡ true → P (Turns (drawn_near turn) (Some w))

both_true : (s t : Bool) → (s && t) ≡ true → t ≡ true
both_true true t h = h
both_true false t h = grind arith

slot_properties : (P : Item → Type 0) → PropertiesMove P → (behind : Bool) (item : Item) (rest : List Item)
    → P item → AllByRecursion P rest → AllByRecursion P (with_slot behind item rest)
slot_properties P moved behind (Plain w) (Turns turn None ∷ rest) p ps = by (not behind && moves w.inst turn) (λ h. both_true (not behind) (moves w.inst turn) h)
  where
    by : (t : Bool) → (t ≡ true → moves w.inst turn ≡ true)
        → AllByRecursion P (if t then Turns (drawn_near turn) (Some w) ∷ rest else Plain w ∷ Turns turn None ∷ rest)
    by true h = (moved w turn p ps.0 (h refl), ps.1)
    by false h = (p, ps)
slot_properties P moved behind item rest p ps = (p, ps)

pub properties_stay : (P : Item → Type 0) (behind : Bool) (items : List Item) → PropertiesMove P → AllByRecursion P items → AllByRecursion P (filled behind items)
properties_stay P behind [] moved ps = tt
properties_stay P behind (item ∷ rest) moved ps =
    slot_properties P moved behind item (filled (compared behind item) rest) ps.0 (properties_stay P (compared behind item) rest moved ps.1)

-- each item comes from those that were there
plain_there : (items : List Item) (w : Word) → IsFilledFrom items (Plain w) → Contains items (Plain w)
plain_there items w (inl h) = h
plain_there items w (inr h) = let e = h.is in grind arith

turn_there : (items : List Item) (turn : Turn) → IsFilledFrom items (Turns turn None) → Contains items (Turns turn None)
turn_there items turn (inl h) = h
turn_there items turn (inr h) = let e = h.is in grind arith

from_moves : (items : List Item) → PropertiesMove (IsFilledFrom items)
from_moves items w turn plain turns free = inr (record {
  word = w;
  turn = turn;
  is = refl;
  stood = plain_there items w plain;
  empty = turn_there items turn turns;
  free = free;
})

pub filled_from : (behind : Bool) (items : List Item) → AllByRecursion (IsFilledFrom items) (filled behind items)
filled_from behind items =
    let there = recursion_from_All (IsFilledFrom items) items (λ k d below. inl (All-contains_itself items k d below)) in
    properties_stay (IsFilledFrom items) behind items (from_moves items) there

pub turn_lawful : (turn : Turn) → IsTurn turn → IsTurn (drawn_near turn)
unfolding IsInRange
turn_lawful (Back (Combf c r1 r2 (negsuc (suc (suc n))))) h = (h.0, h.1, h.2, (omega (arith, ints, h.3.0), omega (arith, ints, h.3.1)))
turn_lawful turn h = h

lawful_moves : PropertiesMove IsItem
lawful_moves w turn plain turns free = (turn_lawful turn turns.0, plain)

pub lawful_stays : (behind : Bool) (items : List Item) → AreItems items → AreItems (filled behind items)
lawful_stays behind items h = properties_stay IsItem behind items lawful_moves h

-- ---- parts

-- what begins with a turn whose slot is empty began with it before
with_slot_takes : (behind : Bool) (item : Item) (rest : List Item) → takes_first (item ∷ []) ≡ false → takes_first (with_slot behind item rest) ≡ false
with_slot_takes behind (Plain w) (Turns turn None ∷ rest) none = by (not behind && moves w.inst turn)
  where
    by : (t : Bool) → takes_first (if t then Turns (drawn_near turn) (Some w) ∷ rest else Plain w ∷ Turns turn None ∷ rest) ≡ false
    by true = refl
    by false = refl
with_slot_takes behind (Plain w) rest none = refl
with_slot_takes behind (Turns turn (Some w)) rest none = refl
with_slot_takes behind (Turns turn None) rest none = none
with_slot_takes behind (Mark b) rest none = refl

filled_takes : (behind : Bool) (ys : List Item) → takes_first ys ≡ false → takes_first (filled behind ys) ≡ false
filled_takes behind [] none = refl
filled_takes behind (Turns turn None ∷ rest) none = none
filled_takes behind (Turns turn (Some w) ∷ rest) none = refl
filled_takes behind (Plain w ∷ rest) none = with_slot_takes behind (Plain w) (filled (compared behind (Plain w)) rest) refl
filled_takes behind (Mark b ∷ rest) none = refl

before_others : (behind : Bool) (item : Item) (xs ys : List Item) → takes_first ys ≡ false → with_slot behind item (xs ++ ys) ≡ with_slot behind item xs ++ ys
before_others behind (Plain w) (Turns turn None ∷ xs) ys none = by (not behind && moves w.inst turn)
  where
    by : (t : Bool) → (if t then Turns (drawn_near turn) (Some w) ∷ (xs ++ ys) else Plain w ∷ Turns turn None ∷ (xs ++ ys))
        ≡ (if t then Turns (drawn_near turn) (Some w) ∷ xs else Plain w ∷ Turns turn None ∷ xs) ++ ys
    by true = refl
    by false = refl
before_others behind (Plain w) [] (Turns turn None ∷ ys) none = absurd cc
before_others behind item xs ys none = refl

pub parts_alone : (behind : Bool) (xs ys : List Item) → takes_first ys ≡ false → filled behind (xs ++ ys) ≡ filled behind xs ++ filled (compared_by behind xs) ys
parts_alone behind [] ys none = refl
parts_alone behind (item ∷ xs) ys none =
    ap (λ l. with_slot behind item l) (parts_alone (compared behind item) xs ys none)
    ∙ before_others behind item (filled (compared behind item) xs) (filled (compared_by (compared behind item) xs) ys) (filled_takes (compared_by (compared behind item) xs) ys none)
