-- The routines of arithmetic read and write general registers alone.
use Rattle.std.proofs.Common.{refl}
use Rattle.pw_inst.specs.InstructionTable.{decoded, form_of, system, three_register, long_immediate, compare, subtract_immediate, extract, deposit, branch_external, branch, memory}
use Rattle.pw_milli.specs.Words.{divs_words, divu_words, mul_words, rems_words, remu_words}
use Rattle.pw_law_link_run.specs.Leaving.{AreByRegisters}

pub divs_by_registers : AreByRegisters divs_words
unfolding decoded form_of system three_register long_immediate compare subtract_immediate extract deposit branch_external branch memory
divs_by_registers = refl

pub divu_by_registers : AreByRegisters divu_words
unfolding decoded form_of system three_register long_immediate compare subtract_immediate extract deposit branch_external branch memory
divu_by_registers = refl

pub mul_by_registers : AreByRegisters mul_words
unfolding decoded form_of system three_register long_immediate compare subtract_immediate extract deposit branch_external branch memory
mul_by_registers = refl

pub rems_by_registers : AreByRegisters rems_words
unfolding decoded form_of system three_register long_immediate compare subtract_immediate extract deposit branch_external branch memory
rems_by_registers = refl

pub remu_by_registers : AreByRegisters remu_words
unfolding decoded form_of system three_register long_immediate compare subtract_immediate extract deposit branch_external branch memory
remu_by_registers = refl
