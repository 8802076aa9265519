-- Rows that make a word in a register: constants and addresses.
use Rattle.std.specs.Prelude.{ℕ, false, ◌≡◌, ◌≢◌, ◌+◌, ◌%◌, ◌^◌, ◌<◌, Some, None, List, []}
use Rattle.pw_inst.specs.declared.Inst.{Inst}
use Rattle.pw_inst.specs.declared.relocation.Symbol.{Symbol}
use Rattle.pw_delay.specs.declared.items.Word.{Word}
use Rattle.pw_law_select_memory.specs.FromRunLanguages.Traces.{Event}
use Rattle.pw_law_select_memory.specs.FromRunLanguages.Addresses.{Addresses}
use Rattle.pw_law_select_memory.specs.FromRunLanguages.Acts.{Core, Acts, register, symbol_address, loaded_at, stored_at}
use Rattle.pw_law_select_memory.specs.FromRunLanguages.LineRun.{LineProgram, accesses}
use Rattle.pw_select_lines.specs.Registers.{constant, address_of}
use Rattle.pw_law_select_rows.specs.Straight.{ran, words_of, noted}

-- one core is another but for the word in a register
pub record Puts (d n : ℕ) (c e : Core) : Type 0 where
  pub value : register e d ≡ n
  pub others : (r : ℕ) → r ≢ d → register e r ≡ register c r
  pub memory : e.memory ≡ c.memory
  pub shift : e.shift ≡ c.shift
  pub skip : e.skip ≡ false

-- words make a word in a register, and access no memory
pub record Makes (p : LineProgram) (w : Addresses) (words : List Word) (d n : ℕ) (c : Core) : Type 0 where
  pub core : Core
  pub acts : ran w words c ≡ Acts core
  pub puts : Puts d n c core
  pub quiet : (log : List (Event ℕ ℕ)) → noted p w words c log ≡ log

-- a word that neither loads nor stores notes nothing
abbrev pub NothingIsNoted : Type 0
NothingIsNoted =
    (p : LineProgram) (w : Addresses) (x : Inst) (c : Core) → loaded_at x c ≡ None → stored_at x c ≡ None → accesses p w (Some x) c ≡ []

abbrev pub ConstantsAreMade : Type 0
ConstantsAreMade =
    (p : LineProgram) (w : Addresses) (n d : ℕ) (c : Core) → n < 2 ^ 32 → d ≢ 0 → c.skip ≡ false → Makes p w (words_of (constant n d)) d n c

abbrev pub AddressesAreMade : Type 0
AddressesAreMade =
    (p : LineProgram) (w : Addresses) (s : Symbol) (a n d : ℕ) (c : Core) → symbol_address w s ≡ Some a → d ≢ 0 → c.skip ≡ false
    → Makes p w (words_of (address_of s n d)) d ((a + n) % 2 ^ 32) c
