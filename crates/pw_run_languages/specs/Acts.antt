-- What a word of a function does to registers and memory. Branches stand apart.
use Rattle.std.specs.Prelude.{ℕ, zero, suc, pos, ◌+◌, ◌*◌, ◌/◌, ◌%◌, ◌^◌, ◌==◌, nat_le, ◌&&◌, Bool, false, if◌then◌else◌, Option, Some, None, List, [], ◌∷◌}
use Rattle.pw_value.specs.Limits.{memory_size}
use Rattle.pw_inst.specs.declared.Inst.{Inst}
use Rattle.pw_inst.specs.declared.Inst.TheVariants.{Ldb, Ldh, Ldw, Ldo, Stb, Sth, Stw, Ldil}
use Rattle.pw_inst.specs.Setting.{left_part, right_part}
use Rattle.pw_inst.specs.declared.relocation.FixKind.{FixKind}
use Rattle.pw_inst.specs.declared.relocation.FixKind.TheVariants as kind
use Rattle.pw_inst.specs.declared.relocation.Symbol.{Symbol}
use Rattle.pw_inst.specs.declared.relocation.Symbol.TheVariants as symbol
use Rattle.pw_inst.specs.Computing.{Action, Puts, Loads, Stores, Shifts, Clears, Asks, bytes_of_width, action}
use Rattle.pw_delay.specs.declared.items.Relocation.{Relocation}
use Rattle.pw_delay.specs.declared.items.Word.{Word}
use Rattle.pw_run_languages.specs.Traces.{load_of, store_of}
use Rattle.pw_run_languages.specs.Addresses.{Addresses}

-- ---- words with their addresses

abbrev pub symbol_address : Addresses → Symbol → Option ℕ
symbol_address w (symbol.Named name) = Some (w.named name)
symbol_address w symbol.StackLimit = Some w.limit
symbol_address w (symbol.Routine k) = Some (w.routine k)
symbol_address w (symbol.Word k) = None

-- an address goes into LDIL by its left part, and into a displacement by its right part
abbrev pub with_address : FixKind → ℕ → Inst → Option Inst
with_address kind.Ldil a (Ldil im t) = Some (Ldil (left_part a) t)
with_address kind.Im14 a (Ldb im b t) = Some (Ldb (pos (right_part a)) b t)
with_address kind.Im14 a (Ldh im b t) = Some (Ldh (pos (right_part a)) b t)
with_address kind.Im14 a (Ldw im b t) = Some (Ldw (pos (right_part a)) b t)
with_address kind.Im14 a (Ldo im b t) = Some (Ldo (pos (right_part a)) b t)
with_address kind.Im14 a (Stb r im b) = Some (Stb r (pos (right_part a)) b)
with_address kind.Im14 a (Sth r im b) = Some (Sth r (pos (right_part a)) b)
with_address kind.Im14 a (Stw r im b) = Some (Stw r (pos (right_part a)) b)
with_address k a i = None

abbrev pub settled : Addresses → Word → Option Inst
settled w word = settled_by word.relocation
  where
    settled_at : FixKind → ℕ → Option ℕ → Option Inst
    settled_at k n (Some a) = with_address k ((a + n) % 2 ^ 32) word.inst
    settled_at k n None = None

    settled_by : Option Relocation → Option Inst
    settled_by None = Some word.inst
    settled_by (Some r) = settled_at r.kind r.addend (symbol_address w r.symbol)

-- ---- registers and memory

-- registers and bytes of memory by their numbers; the shift amount; whether the next word is passed over
pub record Core : Type 0 where
  pub registers : ℕ → ℕ
  pub memory : ℕ → ℕ
  pub shift : ℕ
  pub skip : Bool

abbrev pub register : Core → ℕ → ℕ
register c r = if r == 0 then 0 else c.registers r

abbrev pub put : ℕ → ℕ → (ℕ → ℕ) → ℕ → ℕ
put a v f b = if b == a then v else f b

abbrev pub with_register : ℕ → ℕ → Core → Core
with_register r v c = if r == 0 then c else record c { registers = put r v c.registers }

-- the number that bytes from an address on write, the first being worth most
abbrev pub number_at : ℕ → (ℕ → ℕ) → ℕ → ℕ
number_at zero memory a = 0
number_at (suc more) memory a = memory a * 256 ^ more + number_at more memory (a + 1)

abbrev pub with_number : ℕ → ℕ → ℕ → (ℕ → ℕ) → ℕ → ℕ
with_number zero v a memory = memory
with_number (suc more) v a memory = with_number more v (a + 1) (put a (v / 256 ^ more % 256) memory)

abbrev pub bytes_at : ℕ → (ℕ → ℕ) → ℕ → List ℕ
bytes_at zero memory a = []
bytes_at (suc more) memory a = memory a ∷ bytes_at more memory (a + 1)

-- ---- words that act

-- what a word does: it goes on, it stops the run for want of stack, or it is none that code should have
pub data Act : Type 0 where
  Acts : Core → Act
  Full : Act
  Fails : Act

-- an access at a multiple of its size, between the start of the data and the end of the memory
abbrev pub is_open : Addresses → ℕ → ℕ → Bool
is_open w a size = (a % size == 0) && (nat_le w.data_start a && nat_le (a + size) memory_size)

abbrev pub loads : Addresses → ℕ → ℕ → ℕ → Core → Act
loads w size a t c = if is_open w a size then Acts (with_register t (number_at size c.memory a) c) else Fails

abbrev pub stores : Addresses → ℕ → ℕ → ℕ → Core → Act
stores w size a word c = if is_open w a size then Acts (record c { memory = with_number size word a c.memory }) else Fails

-- what an action does to them; branches stand apart, and BREAK 0,4 stops for want of stack
abbrev pub act_of : Addresses → Action → Core → Act
act_of w (Puts t word) c = Acts (with_register t word c)
act_of w (Loads width a t) c = loads w (bytes_of_width width) a t c
act_of w (Stores width a word) c = stores w (bytes_of_width width) a word c
act_of w (Shifts n) c = Acts (record c { shift = n })
act_of w (Clears t skips) c = Acts (record (with_register t 0 c) { skip = skips })
act_of w (Asks im5 im13) c = if (im5 == 0) && (im13 == 4) then Full else Fails
act_of w branch c = Fails

-- what an instruction does, by what the registers read
abbrev pub action_of : Inst → Core → Action
action_of i c = action (λ r. register c r) c.shift i

abbrev pub executed : Addresses → Inst → Core → Act
executed w i c = act_of w (action_of i c) c

-- a word that is passed over does nothing
abbrev pub acts : Addresses → Option Inst → Core → Act
acts w None c = Fails
acts w (Some i) c = if c.skip then Acts (record c { skip = false }) else executed w i c

-- ---- accesses

-- what an instruction loads, or stores
abbrev pub loaded_at : Inst → Core → Option (ℕ × ℕ)
loaded_at i c = load_of (action_of i c)

abbrev pub stored_at : Inst → Core → Option (ℕ × ℕ)
stored_at i c = store_of (action_of i c)
