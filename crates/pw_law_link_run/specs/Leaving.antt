-- Routines that read and write general registers alone, and what they leave.
use Rattle.std.specs.Prelude.{ℕ, ◌≡◌, ◌+◌, ◌*◌, Bool, true, false, Option, Some, None, List, length}
use Rattle.std.specs.List.{list_all}
use Rattle.pw_inst.specs.declared.Inst.{Inst}
use Rattle.pw_inst.specs.declared.Inst.TheVariants.{Ldb, Ldh, Ldw, Stb, Sth, Stw, Vshd, Mtctl, Break}
use Rattle.pw_inst.specs.InstructionTable.{decoded}
use Rattle.pw_machine.specs.Run.{State, Running, run_of}
use Rattle.pw_milli.specs.Calls.{returned, StaysInside}

-- an instruction that reads and writes general registers alone, and may say where the run goes on
abbrev pub is_by_registers : Option Inst → Bool
is_by_registers None = false
is_by_registers (Some (Ldb im b t)) = false
is_by_registers (Some (Ldh im b t)) = false
is_by_registers (Some (Ldw im b t)) = false
is_by_registers (Some (Stb r im b)) = false
is_by_registers (Some (Sth r im b)) = false
is_by_registers (Some (Stw r im b)) = false
is_by_registers (Some (Vshd r1 r2 t)) = false
is_by_registers (Some (Mtctl r)) = false
is_by_registers (Some (Break im5 im13)) = false
is_by_registers (Some _) = true

-- words of such instructions
abbrev pub AreByRegisters : List ℕ → Type 0
AreByRegisters words = list_all (λ w. is_by_registers (decoded w)) words ≡ true

-- a run through a routine's words, from its first one to the return to the address in register 31
pub record Leaves (words : List ℕ) (address : ℕ) (s : State) : Type 0 where
  pub steps : ℕ
  pub registers : List ℕ
  pub runs : run_of steps s ≡ Running (returned s 31 registers)
  pub inside : StaysInside address (address + 4 * length words) steps s
