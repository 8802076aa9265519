-- Items as words (PA-RISC 1.1: branches, delay slots, nullification).
use Rattle.std.specs.Prelude.{ℕ, ℤ, pos, ◌+◌, ◌-◌, ◌^◌, ◌-ℤ◌, ◌==◌, nat_lt, Bool, true, false, if◌then◌else◌, Option, Some, None, List, [], ◌∷◌, ◌++◌, length, map, sum_by}
use Rattle.pw_inst.specs.Registers.{first}
use Rattle.pw_inst.specs.declared.Inst.TheVariants.{Combt, Combf, Bl, Bv, Ble}
use Rattle.pw_inst.specs.InstructionTable.{word_of, nop}
use Rattle.pw_inst.specs.declared.line.Line.{Line}
use Rattle.pw_inst.specs.declared.relocation.Fix.{Fix}
use Rattle.pw_inst.specs.declared.relocation.FixKind.TheVariants as kind
use Rattle.pw_inst.specs.declared.relocation.Symbol.{Symbol}
use Rattle.pw_inst.specs.declared.relocation.Symbol.TheVariants as symbol
use Rattle.pw_delay.specs.declared.code.Code.{Code}
use Rattle.pw_delay.specs.declared.items.Relocation.{Relocation}
use Rattle.pw_delay.specs.declared.items.Word.{Word}
use Rattle.pw_delay.specs.declared.items.Turn.{Turn}
use Rattle.pw_delay.specs.declared.items.Turn.TheVariants.{Back, Goto, If, CallTo, CallReg, Leave}
use Rattle.pw_delay.specs.declared.items.Item.{Item}
use Rattle.pw_delay.specs.declared.items.Item.TheVariants.{Plain, Turns, Mark}
use Rattle.pw_delay.specs.Items.{bare, slotted}
use Rattle.pw_delay.specs.Filling.{filled}

-- a slot that is empty still has the instruction that does nothing
abbrev pub in_slot : Option Word → Word
in_slot None = bare nop
in_slot (Some w) = w

-- ---- how many words there are

-- A return needs no slot where nothing stands in it; a long conditional branch is one over a jump.
abbrev pub turn_size : Bool → Turn → Option Word → ℕ
turn_size long Leave None = 1
turn_size long Leave (Some w) = 2
turn_size long (If r b) slot = if long then 4 else 2
turn_size long turn slot = 2

abbrev pub size : Bool → Item → ℕ
size long (Plain w) = 1
size long (Turns turn slot) = turn_size long turn slot
size long (Mark b) = 0

abbrev pub sizes : Bool → List Item → ℕ
sizes long items = sum_by (size long) items

-- the number of the word at which a block begins, where the items begin at the word of a number
abbrev pub mark_at : Bool → ℕ → List Item → ℕ → ℕ
mark_at long at [] b = at
mark_at long at (Mark n ∷ rest) b = if n == b then at else mark_at long at rest b
mark_at long at (item ∷ rest) b = mark_at long (at + size long item) rest b

-- ---- the words

-- a call of a symbol, whose return address goes to a register
abbrev pub call_word : Symbol → ℕ → Word
call_word s link = record {
  inst = Bl (pos 0) link false;
  relocation = Some (record { kind = kind.Bl; symbol = s; addend = 0 });
}

abbrev pub to_block : ℕ → Word
to_block word = call_word (symbol.Word word) 0

-- the displacement from the word of a number to another: a branch counts from two words behind it
abbrev pub displacement : ℕ → ℕ → ℤ
displacement at to = pos to -ℤ pos (at + 2)

abbrev pub long_branch : ℕ → ℕ → Option Word → List Word
long_branch r to slot = bare (Combt 1 r 0 (pos 2)) ∷ in_slot slot ∷ to_block to ∷ bare nop ∷ []

abbrev pub branch_words : Bool → ℕ → ℕ → ℕ → Option Word → List Word
branch_words false at r to slot = bare (Combf 1 r 0 (displacement at to)) ∷ in_slot slot ∷ []
branch_words true at r to slot = long_branch r to slot

abbrev pub return_words : Option Word → List Word
return_words None = bare (Bv 2 true) ∷ []
return_words (Some w) = bare (Bv 2 false) ∷ w ∷ []

-- the words of a turn that stands at the word of a number, by the words at which the blocks begin
abbrev pub turn_words : Bool → (ℕ → ℕ) → ℕ → Turn → Option Word → List Word
turn_words long begins at (Back branch) slot = bare branch ∷ in_slot slot ∷ []
turn_words long begins at (Goto b) slot = to_block (begins b) ∷ in_slot slot ∷ []
turn_words long begins at (If r b) slot = branch_words long at r (begins b) slot
turn_words long begins at (CallTo s link) slot = call_word s link ∷ in_slot slot ∷ []
turn_words long begins at CallReg slot = bare (Ble first false) ∷ in_slot slot ∷ []
turn_words long begins at Leave slot = return_words slot

abbrev pub item_words : Bool → (ℕ → ℕ) → ℕ → Item → List Word
item_words long begins at (Plain w) = w ∷ []
item_words long begins at (Turns turn slot) = turn_words long begins at turn slot
item_words long begins at (Mark b) = []

abbrev pub words_from : Bool → (ℕ → ℕ) → ℕ → List Item → List Word
words_from long begins at [] = []
words_from long begins at (item ∷ rest) = item_words long begins at item ++ words_from long begins (at + size long item) rest

-- ---- code

abbrev pub fix_at : ℕ → Option Relocation → List Fix
fix_at at None = []
fix_at at (Some r) = record { word = at; kind = r.kind; symbol = r.symbol; addend = r.addend } ∷ []

-- the relocations of words, the first of which has a number
abbrev pub fixes_from : ℕ → List Word → List Fix
fixes_from at [] = []
fixes_from at (w ∷ rest) = fix_at at w.relocation ++ fixes_from (at + 1) rest

abbrev pub code_of : List Word → Code
code_of words = record { words = map (λ w. word_of w.inst) words; fixes = fixes_from 0 words }

-- code with more words behind it
unfoldable pub extended : Code → List Word → Code
extended c words = record {
  words = c.words ++ map (λ w. word_of w.inst) words;
  fixes = c.fixes ++ fixes_from (length c.words) words;
}

unfoldable pub laid : Bool → List Item → Code
laid long items = code_of (words_from long (mark_at long 0 items) 0 items)

-- how many words short conditional branches can reach over
abbrev pub short_limit : ℕ
short_limit = 2040

-- the greatest count of words of a function's code: the number of each word, and of the four behind the last, has 32 bits
abbrev pub function_word_limit : ℕ
function_word_limit = 2 ^ 32 - 4

-- Conditional branches are long where the words with short ones are too many, counted before words move into slots.
abbrev pub placed_items : List Item → Code
placed_items items = laid (nat_lt short_limit (sizes false items)) (filled false items)

unfoldable pub placed : List Line → Code
placed lines = placed_items (slotted lines)
