-- The general registers of the calling convention (PA-RISC 1.1) by their parts.
use Rattle.std.specs.Prelude.{ℕ, ◌-◌}

-- for addresses and small things on the way; for the second operand; for the first; for a result
abbrev pub help : ℕ
help = 1

abbrev pub second : ℕ
second = 21

abbrev pub first : ℕ
first = 22

abbrev pub result : ℕ
result = 29

-- the return address, the stack pointer, a call's result, the address behind a routine's call
abbrev pub return_address : ℕ
return_address = 2

abbrev pub stack_pointer : ℕ
stack_pointer = 30

abbrev pub answer : ℕ
answer = 28

abbrev pub routine_link : ℕ
routine_link = 31

-- the first four arguments, from 26 downward
abbrev pub argument_register : ℕ → ℕ
argument_register k = 26 - k
