-- How many registers webs may have, and which registers webs and temporaries may have.
use Rattle.std.specs.Prelude.{ℕ, ◌+◌, ◌-◌, List}
use Rattle.std.specs.List.{range_with_len}

-- registers of webs of a whole program, at most
abbrev pub colour_limit : ℕ
colour_limit = 8

-- the registers that a callee keeps: the first, the last and their count. The register of a web is one of them.
abbrev pub first_register : ℕ
first_register = 3

abbrev pub last_register : ℕ
last_register = 18

abbrev pub register_count : ℕ
register_count = last_register + 1 - first_register

abbrev pub kept_registers : List ℕ
kept_registers = range_with_len first_register register_count

-- the last of the registers that temporaries may have: those that a callee keeps, and behind them some that it does not
abbrev pub last_temporary : ℕ
last_temporary = 20
