-- Arithmetic on registers, and operations with operands and results in their places.
use Rattle.std.specs.Prelude.{ℕ, pos, neg_ℤ, ◌==◌, Bool, true, false, if◌then◌else◌, Option, Some, None, List, [], ◌∷◌, ◌++◌}
use Rattle.pw_flow.specs.declared.flow.UnKind.{UnKind}
use Rattle.pw_flow.specs.declared.flow.UnKind.TheVariants.{Neg, Not}
use Rattle.pw_flow.specs.declared.flow.BinKind.{BinKind}
use Rattle.pw_flow.specs.declared.flow.BinKind.TheVariants as bin
use Rattle.pw_flow.specs.declared.flow.ExtKind.{ExtKind}
use Rattle.pw_flow.specs.declared.flow.ExtKind.TheVariants as ext
use Rattle.pw_inst.specs.Registers.{help, first, second, result, routine_link, argument_register}
use Rattle.pw_inst.specs.declared.Inst.{Inst}
use Rattle.pw_inst.specs.declared.Inst.TheVariants as i
use Rattle.pw_inst.specs.declared.line.Line.{Line}
use Rattle.pw_inst.specs.declared.line.Line.TheVariants.{Plain, CallTo}
use Rattle.pw_inst.specs.declared.relocation.Symbol.TheVariants.{Routine}
use Rattle.pw_alloc.specs.declared.located.Place.{Place}
use Rattle.pw_select_lines.specs.Registers.{word, copied, operand_register, operand_lines, loaded, result_register, result_lines}

-- ---- arithmetic on two registers, into a third

abbrev pub unary_word : UnKind → ℕ → ℕ → Inst
unary_word Neg a d = i.Sub 0 a d
unary_word Not a d = i.Subi (neg_ℤ (pos 1)) a d

-- 1 where a comparison holds: the register is 0, and the next word is passed over where it does not hold
abbrev pub compared : ℕ → Bool → ℕ → ℕ → ℕ → List Line
compared c negated a b d = Plain (i.Comclr c negated a b d) ∷ Plain (i.Ldo (pos 1) 0 d) ∷ []

-- the number of the routine of an operation that the machine has none for, by the routines' order
abbrev pub routine_of : BinKind → Option ℕ
routine_of bin.DivS = Some 0
routine_of bin.DivU = Some 1
routine_of bin.Mul = Some 2
routine_of bin.RemS = Some 3
routine_of bin.RemU = Some 4
routine_of _ = None

abbrev pub binary_lines : BinKind → ℕ → ℕ → ℕ → List Line
binary_lines bin.Add a b d = word (i.Addl a b d)
binary_lines bin.Sub a b d = word (i.Sub a b d)
binary_lines bin.And a b d = word (i.And a b d)
binary_lines bin.Or a b d = word (i.Or a b d)
binary_lines bin.Xor a b d = word (i.Xor a b d)
binary_lines bin.Shl a b d =
    Plain (i.Subi (pos 31) b help) ∷ Plain (i.Mtctl help) ∷ Plain (i.Extru a 30 31 help) ∷ Plain (i.Zdep a 0 1 result)
    ∷ Plain (i.Vshd help result d) ∷ []
binary_lines bin.ShrU a b d = Plain (i.Mtctl b) ∷ Plain (i.Vshd 0 a d) ∷ []
binary_lines bin.ShrS a b d = Plain (i.Mtctl b) ∷ Plain (i.Extrs a 0 1 help) ∷ Plain (i.Vshd help a d) ∷ []
binary_lines bin.Eq a b d = compared 1 true a b d
binary_lines bin.Ne a b d = compared 1 false a b d
binary_lines bin.LtS a b d = compared 2 true a b d
binary_lines bin.LeS a b d = compared 3 true a b d
binary_lines bin.LtU a b d = compared 4 true a b d
binary_lines bin.LeU a b d = compared 5 true a b d
binary_lines _ a b d = []

abbrev pub extension_word : ExtKind → ℕ → ℕ → Inst
extension_word ext.S8 a d = i.Extrs a 31 8 d
extension_word ext.U8 a d = i.Extru a 31 8 d
extension_word ext.S16 a d = i.Extrs a 31 16 d
extension_word ext.U16 a d = i.Extru a 31 16 d

-- ---- parts of an operation

-- an operand comes to a register, and the result goes to its place
abbrev pub with_one : Place → Place → (ℕ → ℕ → List Line) → List Line
with_one a t lines =
    operand_lines a first ++ lines (operand_register a first) (result_register t) ++ result_lines t

abbrev pub with_two : Place → Place → Place → (ℕ → ℕ → ℕ → List Line) → List Line
with_two a b t lines =
    operand_lines a first ++ operand_lines b second
    ++ lines (operand_register a first) (operand_register b second) (result_register t) ++ result_lines t

abbrev pub with_none : Place → (ℕ → List Line) → List Line
with_none t lines = lines (result_register t) ++ result_lines t

-- a register's word becomes the result; nothing is moved where it is there
abbrev pub moved_unless_there : ℕ → ℕ → List Line
moved_unless_there r d = if r == d then [] else copied r d

abbrev pub routine_result : Place → List Line
routine_result t = moved_unless_there result (result_register t) ++ result_lines t

abbrev pub by_routine : ℕ → Place → Place → Place → List Line
by_routine k a b t =
    loaded a (argument_register 0) ++ loaded b (argument_register 1) ++ CallTo (Routine k) routine_link ∷ routine_result t

abbrev pub binary_by : Option ℕ → BinKind → Place → Place → Place → List Line
binary_by (Some k) o a b t = by_routine k a b t
binary_by None o a b t = with_two a b t (binary_lines o)
