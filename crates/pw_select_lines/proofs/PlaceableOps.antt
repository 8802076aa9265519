-- The lines of operations can be placed.
use Rattle.std.proofs.Common.{◌≡◌, ℕ, zero, suc, ◌+◌, ◌-◌, ◌<◌, ◌^◌, inl, inr, Option, None, Some, List, [], ◌∷◌, ◌++◌, map, take, drop, sym, subst, arith}
use Rattle.std.proofs.lemmas.Int.{ints}
use Rattle.std.specs.Prelude.{pos, negsuc, ◌-ℤ◌}
use Rattle.std.specs.List.{AllByRecursion}
use Rattle.pw_flow.specs.ValidFlow.{IsUnit}
use Rattle.pw_inst.specs.InstructionTable.{IsInRange}
use Rattle.pw_inst.specs.declared.line.Line.TheVariants.{CallTo, CallReg}
use Rattle.pw_inst.specs.declared.relocation.Symbol.TheVariants.{Named}
use Rattle.pw_delay.specs.Lines.{AreLines}
use Rattle.pw_alloc.specs.declared.located.Place.{Place}
use Rattle.pw_select_lines.specs.Registers.{copied, constant, store_to, place_of, loaded}
use Rattle.pw_select_lines.specs.Operations.{unit_loop, moved, stacked_arguments, register_arguments, called, called_by_value, call_result}
use Rattle.pw_select_lines.proofs.Placeable.{PlaceGood, joined, copied_good, constant_good, store_good, place_good, loaded_good}
use Rattle.pw_select_lines.proofs.PlaceableArithmetic.{with_none_good}

-- ---- copies of bytes

one_good : AreLines (unit_loop 1)
unfolding IsInRange
one_good = (
  ((omega (arith, ints), omega (arith, ints)), omega arith, omega arith),
  (
    ((omega (arith, ints), omega (arith, ints)), omega arith, omega arith),
    (
      ((omega (arith, ints), omega (arith, ints)), omega arith, omega arith),
      (
        ((omega (arith, ints), omega (arith, ints)), omega arith, omega arith),
        (
          ((omega (arith, ints), omega (arith, ints)), omega arith, omega arith),
          (
            (omega arith, omega arith, omega arith, (omega (arith, ints), omega (arith, ints))),
            tt,
          ),
        ),
      ),
    ),
  ),
)

two_good : AreLines (unit_loop 2)
unfolding IsInRange
two_good = (
  ((omega (arith, ints), omega (arith, ints)), omega arith, omega arith),
  (
    ((omega (arith, ints), omega (arith, ints)), omega arith, omega arith),
    (
      ((omega (arith, ints), omega (arith, ints)), omega arith, omega arith),
      (
        ((omega (arith, ints), omega (arith, ints)), omega arith, omega arith),
        (
          ((omega (arith, ints), omega (arith, ints)), omega arith, omega arith),
          (
            (omega arith, omega arith, omega arith, (omega (arith, ints), omega (arith, ints))),
            tt,
          ),
        ),
      ),
    ),
  ),
)

four_good : AreLines (unit_loop 4)
unfolding IsInRange
four_good = (
  ((omega (arith, ints), omega (arith, ints)), omega arith, omega arith),
  (
    ((omega (arith, ints), omega (arith, ints)), omega arith, omega arith),
    (
      ((omega (arith, ints), omega (arith, ints)), omega arith, omega arith),
      (
        ((omega (arith, ints), omega (arith, ints)), omega arith, omega arith),
        (
          ((omega (arith, ints), omega (arith, ints)), omega arith, omega arith),
          (
            (omega arith, omega arith, omega arith, (omega (arith, ints), omega (arith, ints))),
            tt,
          ),
        ),
      ),
    ),
  ),
)

unit_good : (unit : ℕ) → IsUnit unit → AreLines (unit_loop unit)
unit_good unit (inl e) = subst (λ n. AreLines (unit_loop n)) (sym e) one_good
unit_good unit (inr (inl e)) = subst (λ n. AreLines (unit_loop n)) (sym e) two_good
unit_good unit (inr (inr e)) = subst (λ n. AreLines (unit_loop n)) (sym e) four_good

pub moved_good : (a b : Place) (size unit : ℕ) → PlaceGood a → PlaceGood b → size < 2 ^ 32 → IsUnit unit → AreLines (moved a b size unit)
moved_good a b size unit ha hb small h =
    joined (loaded b 21 ++ loaded a 1 ++ constant size 22) (unit_loop unit)
    (joined (loaded b 21 ++ loaded a 1) (constant size 22)
    (joined (loaded b 21) (loaded a 1) (loaded_good b 21 hb (omega arith)) (loaded_good a 1 ha (omega arith)))
    (constant_good size 22 small (omega arith)))
    (unit_good unit h)

-- ---- calls

register_good : (r : ℕ) (args : List Place) → AllByRecursion PlaceGood args → r < 32 → AreLines (register_arguments r args)
register_good r [] h hr = tt
register_good r (a ∷ rest) h hr = joined (loaded a r) (register_arguments (r - 1) rest) (loaded_good a r h.0 hr) (register_good (r - 1) rest h.1 (omega arith))

stacked_good : (n : ℕ) (args : List Place) → AllByRecursion PlaceGood args → AreLines (stacked_arguments (negsuc n) args)
stacked_good n [] h = tt
stacked_good n (a ∷ rest) h =
    let next : negsuc n -ℤ pos 4 ≡ negsuc (n + 4) = omega (arith, ints) in
    joined (loaded a 22 ++ store_to (negsuc n) 22) (stacked_arguments (negsuc n -ℤ pos 4) rest)
    (joined (loaded a 22) (store_to (negsuc n) 22) (loaded_good a 22 h.0 (omega arith)) (store_good (negsuc n) 22 (omega arith) (omega arith)))
    (subst (λ z. AreLines (stacked_arguments z rest)) (sym next) (stacked_good (n + 4) rest h.1))

taken_good : (n : ℕ) (args : List Place) → AllByRecursion PlaceGood args → AllByRecursion PlaceGood (take n args)
taken_good zero args h = tt
taken_good (suc n) [] h = tt
taken_good (suc n) (a ∷ rest) h = (h.0, taken_good n rest h.1)

dropped_good : (n : ℕ) (args : List Place) → AllByRecursion PlaceGood args → AllByRecursion PlaceGood (drop n args)
dropped_good zero args h = h
dropped_good (suc n) [] h = tt
dropped_good (suc n) (a ∷ rest) h = dropped_good n rest h.1

pub places_good : (places : List Place) (args : List ℕ) → AllByRecursion PlaceGood places → AllByRecursion PlaceGood (map (place_of places) args)
places_good places [] h = tt
places_good places (a ∷ rest) h = (place_good places a h, places_good places rest h)

pub called_good : (f : List ℕ) (args : List Place) → AllByRecursion PlaceGood args → AreLines (called f args)
called_good f args h =
    joined (stacked_arguments (negsuc 51) (drop 4 args) ++ register_arguments 26 (take 4 args)) (CallTo (Named f) 2 ∷ [])
    (joined (stacked_arguments (negsuc 51) (drop 4 args)) (register_arguments 26 (take 4 args)) (stacked_good 51 (drop 4 args) (dropped_good 4 args h)) (register_good 26 (take 4 args) (taken_good 4 args h) (omega arith)))
    (omega arith, tt)

pub called_by_value_good : (f : Place) (args : List Place) → PlaceGood f → AllByRecursion PlaceGood args → AreLines (called_by_value f args)
called_by_value_good f args hf h =
    joined (stacked_arguments (negsuc 51) (drop 4 args) ++ loaded f 22 ++ register_arguments 26 (take 4 args)) (CallReg ∷ [])
    (joined (stacked_arguments (negsuc 51) (drop 4 args) ++ loaded f 22) (register_arguments 26 (take 4 args))
    (joined (stacked_arguments (negsuc 51) (drop 4 args)) (loaded f 22) (stacked_good 51 (drop 4 args) (dropped_good 4 args h)) (loaded_good f 22 hf (omega arith)))
    (register_good 26 (take 4 args) (taken_good 4 args h) (omega arith)))
    (tt, tt)

pub call_result_good : (places : List Place) (t : Option ℕ) → AllByRecursion PlaceGood places → AreLines (call_result places t)
call_result_good places None h = tt
call_result_good places (Some t) h = with_none_good (place_of places t) (copied 28) (place_good places t h) (λ d hd. copied_good 28 d (omega arith) hd)
