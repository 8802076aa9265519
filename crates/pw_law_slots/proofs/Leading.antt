-- Where turns lead in items with filled slots, how many are left, and what a step does there.
use Rattle.std.proofs.Common.{ℕ, ◌≡◌, ◌+◌, Bool, true, false, if◌then◌else◌, None, Some, List, [], ◌∷◌, refl, sym, subst, arith}
use Rattle.std.specs.Prelude.{◌==◌, ◌&&◌, not}
use Rattle.std.proofs.lemmas.List.Sums.{sum_by-cons}
use Rattle.pw_delay.specs.declared.items.Item.{Item}
use Rattle.pw_delay.specs.declared.items.Item.TheVariants.{Plain, Turns, Mark}
use Rattle.pw_delay.specs.Filling.{moves, drawn_near, compared, with_slot, filled}
use Rattle.pw_run_languages.specs.LineRun.{from_mark, is_turn, turns}
use Rattle.pw_law_slots.specs.Found.{AreFoundAlike}

-- ---- blocks

pub mark_kept : (b : ℕ) (behind : Bool) (item : Item) (rest : List Item) → from_mark b (with_slot behind item rest) ≡ from_mark b (item ∷ rest)
mark_kept b behind (Plain w) (Turns turn None ∷ rest) = by (not behind && moves w.inst turn)
  where
    by : (t : Bool) → from_mark b (if t then Turns (drawn_near turn) (Some w) ∷ rest else Plain w ∷ Turns turn None ∷ rest) ≡ from_mark b rest
    by true = refl
    by false = refl
mark_kept b behind (Plain w) (Turns turn (Some v) ∷ rest) = refl
mark_kept b behind (Plain w) (Plain v ∷ rest) = refl
mark_kept b behind (Plain w) (Mark n ∷ rest) = refl
mark_kept b behind (Plain w) [] = refl
mark_kept b behind (Turns turn slot) rest = refl
mark_kept b behind (Mark n) rest = refl

pub blocks_found : (b : ℕ) (behind : Bool) (items : List Item) → AreFoundAlike (from_mark b items) (from_mark b (filled behind items))
blocks_found b behind [] = tt
blocks_found b behind (Plain w ∷ rest) =
    subst (λ o. AreFoundAlike (from_mark b rest) o) (sym (mark_kept b behind (Plain w) (filled (compared behind (Plain w)) rest))) (blocks_found b (compared behind (Plain w)) rest)
blocks_found b behind (Turns turn slot ∷ rest) = blocks_found b false rest
blocks_found b behind (Mark n ∷ rest) = by (n == b) (blocks_found b behind rest)
  where
    by : (t : Bool) → AreFoundAlike (from_mark b rest) (from_mark b (filled behind rest)) → AreFoundAlike (if t then Some rest else from_mark b rest) (if t then Some (filled behind rest) else from_mark b (filled behind rest))
    by true found = (behind, refl)
    by false found = found

-- ---- turns that are left

counts : (item : Item) (rest : List Item) → turns (item ∷ rest) ≡ turns (item ∷ []) + turns rest
counts (Plain w) rest = omega (arith, sum_by-cons (λ x. if is_turn x then 1 else 0) (Plain w) rest)
counts (Turns turn slot) rest = omega (arith, sum_by-cons (λ x. if is_turn x then 1 else 0) (Turns turn slot) rest)
counts (Mark b) rest = omega (arith, sum_by-cons (λ x. if is_turn x then 1 else 0) (Mark b) rest)

turns_kept : (behind : Bool) (item : Item) (rest : List Item) → turns (with_slot behind item rest) ≡ turns (item ∷ rest)
turns_kept behind (Plain w) (Turns turn None ∷ rest) = by (not behind && moves w.inst turn)
  where
    by : (t : Bool) → turns (if t then Turns (drawn_near turn) (Some w) ∷ rest else Plain w ∷ Turns turn None ∷ rest) ≡ turns (Plain w ∷ Turns turn None ∷ rest)
    by true = omega (arith, counts (Turns (drawn_near turn) (Some w)) rest, counts (Plain w) (Turns turn None ∷ rest), counts (Turns turn None) rest)
    by false = refl
turns_kept behind (Plain w) (Turns turn (Some v) ∷ rest) = refl
turns_kept behind (Plain w) (Plain v ∷ rest) = refl
turns_kept behind (Plain w) (Mark n ∷ rest) = refl
turns_kept behind (Plain w) [] = refl
turns_kept behind (Turns turn slot) rest = refl
turns_kept behind (Mark n) rest = refl

pub turns_left : (behind : Bool) (items : List Item) → turns (filled behind items) ≡ turns items
turns_left behind [] = refl
turns_left behind (item ∷ rest) =
    omega (arith, turns_kept behind item (filled (compared behind item) rest), counts item (filled (compared behind item) rest), counts item rest, turns_left (compared behind item) rest)
