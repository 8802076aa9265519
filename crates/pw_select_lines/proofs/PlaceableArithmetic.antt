-- The lines of arithmetic can be placed.
use Rattle.std.proofs.Common.{ℕ, ◌<◌, ◌==◌, Bool, true, false, if◌then◌else◌, Option, None, Some, List, [], ◌∷◌, ◌++◌, arith}
use Rattle.std.proofs.lemmas.Int.{ints}
use Rattle.pw_flow.specs.declared.flow.UnKind.{UnKind}
use Rattle.pw_flow.specs.declared.flow.UnKind.TheVariants as un
use Rattle.pw_flow.specs.declared.flow.BinKind.{BinKind}
use Rattle.pw_flow.specs.declared.flow.BinKind.TheVariants as bin
use Rattle.pw_flow.specs.declared.flow.ExtKind.{ExtKind}
use Rattle.pw_flow.specs.declared.flow.ExtKind.TheVariants as ext
use Rattle.pw_inst.specs.InstructionTable.{IsInRange}
use Rattle.pw_inst.specs.declared.line.Line.{Line}
use Rattle.pw_inst.specs.declared.line.Line.TheVariants.{CallTo}
use Rattle.pw_inst.specs.declared.relocation.Symbol.TheVariants.{Routine}
use Rattle.pw_delay.specs.Lines.{AreLines}
use Rattle.pw_alloc.specs.declared.located.Place.{Place}
use Rattle.pw_select_lines.specs.Registers.{copied, operand_register, operand_lines, loaded, result_register, result_lines}
use Rattle.pw_select_lines.specs.Arithmetic.{unary_word, extension_word, compared, routine_of, binary_lines, with_one, with_two, with_none, moved_unless_there, routine_result, by_routine, binary_by}
use Rattle.pw_select_lines.proofs.Placeable.{PlaceGood, joined, copied_good, operand_good, operand_register_good, loaded_good, result_register_good, result_good}

pub with_none_good : (t : Place) (lines : ℕ → List Line) → PlaceGood t → ((d : ℕ) → d < 32 → AreLines (lines d)) → AreLines (with_none t lines)
with_none_good t lines ht each =
    joined (lines (result_register t)) (result_lines t) (each (result_register t) (result_register_good t ht)) (result_good t ht)

pub with_one_good : (a t : Place) (lines : ℕ → ℕ → List Line) → PlaceGood a → PlaceGood t → ((r d : ℕ) → r < 32 → d < 32 → AreLines (lines r d)) → AreLines (with_one a t lines)
with_one_good a t lines ha ht each =
    let r = operand_register a 22 in
    let d = result_register t in
    joined (operand_lines a 22 ++ lines r d) (result_lines t)
    (joined (operand_lines a 22) (lines r d) (operand_good a 22 ha (omega arith)) (each r d (operand_register_good a 22 ha (omega arith)) (result_register_good t ht)))
    (result_good t ht)

pub with_two_good : (a b t : Place) (lines : ℕ → ℕ → ℕ → List Line) → PlaceGood a → PlaceGood b → PlaceGood t → ((r s d : ℕ) → r < 32 → s < 32 → d < 32 → AreLines (lines r s d)) → AreLines (with_two a b t lines)
with_two_good a b t lines ha hb ht each =
    let r = operand_register a 22 in
    let s = operand_register b 21 in
    let d = result_register t in
    joined (operand_lines a 22 ++ operand_lines b 21 ++ lines r s d) (result_lines t)
    (joined (operand_lines a 22 ++ operand_lines b 21) (lines r s d)
    (joined (operand_lines a 22) (operand_lines b 21) (operand_good a 22 ha (omega arith)) (operand_good b 21 hb (omega arith)))
    (each r s d (operand_register_good a 22 ha (omega arith)) (operand_register_good b 21 hb (omega arith)) (result_register_good t ht)))
    (result_good t ht)

-- ---- arithmetic

pub unary_good : (k : UnKind) (a d : ℕ) → a < 32 → d < 32 → IsInRange (unary_word k a d)
unfolding IsInRange
unary_good un.Neg a d ha hd = (omega arith, ha, hd)
unary_good un.Not a d ha hd = ((omega (arith, ints), omega (arith, ints)), ha, hd)

pub extension_good : (k : ExtKind) (a d : ℕ) → a < 32 → d < 32 → IsInRange (extension_word k a d)
unfolding IsInRange
extension_good ext.S8 a d ha hd = ((omega arith, omega arith, omega arith), ha, hd)
extension_good ext.U8 a d ha hd = ((omega arith, omega arith, omega arith), ha, hd)
extension_good ext.S16 a d ha hd = ((omega arith, omega arith, omega arith), ha, hd)
extension_good ext.U16 a d ha hd = ((omega arith, omega arith, omega arith), ha, hd)

compared_good : (c : ℕ) (f : Bool) (a b d : ℕ) → c < 6 → a < 32 → b < 32 → d < 32 → AreLines (compared c f a b d)
unfolding IsInRange
compared_good c f a b d hc ha hb hd = ((hc, ha, hb, hd), (((omega (arith, ints), omega (arith, ints)), omega arith, hd), tt))

binary_good : (k : BinKind) (a b d : ℕ) → a < 32 → b < 32 → d < 32 → AreLines (binary_lines k a b d)
unfolding IsInRange
binary_good bin.Add a b d ha hb hd = ((ha, hb, hd), tt)
binary_good bin.Sub a b d ha hb hd = ((ha, hb, hd), tt)
binary_good bin.And a b d ha hb hd = ((ha, hb, hd), tt)
binary_good bin.Or a b d ha hb hd = ((ha, hb, hd), tt)
binary_good bin.Xor a b d ha hb hd = ((ha, hb, hd), tt)
binary_good bin.Shl a b d ha hb hd =
    (((omega (arith, ints), omega (arith, ints)), hb, omega arith), (omega arith, (((omega arith, omega arith, omega arith), ha, omega arith), (((omega arith, omega arith, omega arith), ha, omega arith), ((omega arith, omega arith, hd), tt)))))
binary_good bin.ShrU a b d ha hb hd = (hb, ((omega arith, ha, hd), tt))
binary_good bin.ShrS a b d ha hb hd = (hb, (((omega arith, omega arith, omega arith), ha, omega arith), ((omega arith, ha, hd), tt)))
binary_good bin.Eq a b d ha hb hd = compared_good 1 true a b d (omega arith) ha hb hd
binary_good bin.Ne a b d ha hb hd = compared_good 1 false a b d (omega arith) ha hb hd
binary_good bin.LtS a b d ha hb hd = compared_good 2 true a b d (omega arith) ha hb hd
binary_good bin.LeS a b d ha hb hd = compared_good 3 true a b d (omega arith) ha hb hd
binary_good bin.LtU a b d ha hb hd = compared_good 4 true a b d (omega arith) ha hb hd
binary_good bin.LeU a b d ha hb hd = compared_good 5 true a b d (omega arith) ha hb hd
binary_good bin.Mul a b d ha hb hd = tt
binary_good bin.DivS a b d ha hb hd = tt
binary_good bin.DivU a b d ha hb hd = tt
binary_good bin.RemS a b d ha hb hd = tt
binary_good bin.RemU a b d ha hb hd = tt

moved_unless_good : (r d : ℕ) → r < 32 → d < 32 → AreLines (moved_unless_there r d)
moved_unless_good r d hr hd = by (r == d)
  where
    by : (t : Bool) → AreLines (if t then [] else copied r d)
    by true = tt
    by false = copied_good r d hr hd

routine_result_good : (t : Place) → PlaceGood t → AreLines (routine_result t)
routine_result_good t ht =
    joined (moved_unless_there 29 (result_register t)) (result_lines t) (moved_unless_good 29 (result_register t) (omega arith) (result_register_good t ht)) (result_good t ht)

by_routine_good : (k : ℕ) (a b t : Place) → PlaceGood a → PlaceGood b → PlaceGood t → AreLines (by_routine k a b t)
by_routine_good k a b t ha hb ht =
    joined (loaded a 26 ++ loaded b 25) (CallTo (Routine k) 31 ∷ routine_result t)
    (joined (loaded a 26) (loaded b 25) (loaded_good a 26 ha (omega arith)) (loaded_good b 25 hb (omega arith)))
    (omega arith, routine_result_good t ht)

pub binary_by_good : (k : BinKind) (a b t : Place) → PlaceGood a → PlaceGood b → PlaceGood t → AreLines (binary_by (routine_of k) k a b t)
binary_by_good k a b t ha hb ht = by (routine_of k)
  where
    by : (o : Option ℕ) → AreLines (binary_by o k a b t)
    by (Some n) = by_routine_good n a b t ha hb ht
    by None = with_two_good a b t (binary_lines k) ha hb ht (binary_good k)
