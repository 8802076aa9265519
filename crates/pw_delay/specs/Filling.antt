-- Which words move into delay slots (PA-RISC 1.1: the word in the slot of a branch acts behind the branch's test and
-- link, and before its target). A branch whose slot is empty takes the word directly before it, where it makes no
-- difference to either which of them comes first.
use Rattle.std.specs.Prelude.{ℕ, ℤ, pos, negsuc, suc, ◌==◌, ◌&&◌, not, Bool, true, false, if◌then◌else◌, None, Some, List, [], ◌∷◌, ◌++◌}
use Rattle.std.specs.List.{list_any}
use Rattle.pw_inst.specs.Registers.{first, return_address}
use Rattle.pw_inst.specs.Computing.{Action, Puts, Loads, Stores, Shifts, action, source_registers, target_registers}
use Rattle.pw_inst.specs.declared.Inst.{Inst}
use Rattle.pw_inst.specs.declared.Inst.TheVariants.{Or, Comclr, Combf, Bl, Bv, Ble}
use Rattle.pw_delay.specs.declared.items.Turn.{Turn}
use Rattle.pw_delay.specs.declared.items.Turn.TheVariants.{Back, Goto, If, CallTo, CallReg, Leave}
use Rattle.pw_delay.specs.declared.items.Item.{Item}
use Rattle.pw_delay.specs.declared.items.Item.TheVariants.{Plain, Turns, Mark}

-- ---- words that may move

-- an action behind which the next word acts, whatever the registers hold: it is of no branch, COMCLR or BREAK
abbrev pub goes_on : Action → Bool
goes_on (Puts t word) = true
goes_on (Loads width a t) = true
goes_on (Stores width a word) = true
goes_on (Shifts n) = true
goes_on other = false

-- the instruction that does nothing
abbrev pub is_nop : Inst → Bool
is_nop (Or r1 r2 t) = (r1 == 0) && ((r2 == 0) && (t == 0))
is_nop i = false

abbrev pub may_move : Inst → Bool
may_move i = goes_on (action (λ r. 0) 0 i) && not (is_nop i)

-- ---- words and branches that do not depend on each other

-- the branch of a turn, wherever it leads
abbrev pub branch : Turn → Inst
branch (Back i) = i
branch (Goto b) = Bl (pos 0) 0 false
branch (If r b) = Combf 1 r 0 (pos 0)
branch (CallTo s link) = Bl (pos 0) link false
branch CallReg = Ble first false
branch Leave = Bv return_address true

-- whether registers of two lists are the same
abbrev pub have_common : List ℕ → List ℕ → Bool
have_common rs ss = list_any (λ r. list_any (λ s. r == s) ss) rs

-- registers other than 0, in which nothing stays
abbrev pub but_zero : List ℕ → List ℕ
but_zero [] = []
but_zero (r ∷ rest) = if r == 0 then but_zero rest else r ∷ but_zero rest

-- the word writes no register that the branch reads, and neither reads nor writes one that the branch writes
abbrev pub are_apart : Inst → Inst → Bool
are_apart word by =
    not (have_common (target_registers word) (source_registers by))
    && not (have_common (source_registers word ++ target_registers word) (but_zero (target_registers by)))

-- whether a word moves into the slot of the turn behind it
abbrev pub moves : Inst → Turn → Bool
moves word turn = may_move word && are_apart word (branch turn)

-- ---- items with their slots filled

-- A branch that goes back inside its block leads to the same word as before, or to itself where that word is the one that
-- has moved into its slot: its displacement counts from two words behind it.
abbrev pub nearer : ℤ → ℤ
nearer (negsuc (suc (suc n))) = negsuc (suc n)
nearer disp = disp

abbrev pub drawn_near : Turn → Turn
drawn_near (Back (Combf c r1 r2 disp)) = Back (Combf c r1 r2 (nearer disp))
drawn_near turn = turn

abbrev pub compares : Inst → Bool
compares (Comclr c f r1 r2 t) = true
compares i = false

-- whether the word behind an item stands behind a COMCLR, which may pass over it; a mark is no word
abbrev pub compared : Bool → Item → Bool
compared before (Plain w) = compares w.inst
compared before (Turns turn slot) = false
compared before (Mark b) = before

-- an item before others, the first of which takes it into its slot where it may
abbrev pub with_slot : Bool → Item → List Item → List Item
with_slot behind (Plain w) (Turns turn None ∷ rest) =
    if not behind && moves w.inst turn then Turns (drawn_near turn) (Some w) ∷ rest else Plain w ∷ Turns turn None ∷ rest
with_slot behind item rest = item ∷ rest

-- items with words moved into the slots of the branches behind them; the first item stands behind a COMCLR or not
abbrev pub filled : Bool → List Item → List Item
filled behind [] = []
filled behind (item ∷ rest) = with_slot behind item (filled (compared behind item) rest)
