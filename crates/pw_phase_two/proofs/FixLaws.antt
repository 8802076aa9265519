-- The relocations of placed lines: each is of one of the words, and names a routine that there is where the lines do.
use Rattle.std.proofs.Common.{◌≡◌, ℕ, ◌+◌, ◌<◌, ◌≤◌, Bool, true, false, if◌then◌else◌, Option, None, Some, List, [], ◌∷◌, ◌++◌, length, map, arith}
use Rattle.std.proofs.lemmas.List.{length-map}
use Rattle.std.specs.Prelude.{nat_lt}
use Rattle.std.specs.List.{AllByRecursion}
use Rattle.pw_inst.specs.InstructionTable.{word_of}
use Rattle.pw_inst.specs.Limits.{routine_count}
use Rattle.pw_inst.specs.declared.Inst.{Inst}
use Rattle.pw_inst.specs.declared.Inst.TheVariants as i
use Rattle.pw_inst.specs.declared.line.Line.{Line}
use Rattle.pw_inst.specs.declared.line.Line.TheVariants as line
use Rattle.pw_inst.specs.declared.relocation.Fix.{Fix}
use Rattle.pw_inst.specs.declared.relocation.Symbol.{Symbol}
use Rattle.pw_inst.specs.declared.relocation.Symbol.TheVariants as symbol
use Rattle.pw_delay.specs.declared.items.Relocation.{Relocation}
use Rattle.pw_delay.specs.declared.items.Word.{Word}
use Rattle.pw_delay.specs.declared.items.Turn.{Turn}
use Rattle.pw_delay.specs.declared.items.Turn.TheVariants.{Back, Goto, If, CallTo, CallReg, Leave}
use Rattle.pw_delay.specs.declared.items.Item.{Item}
use Rattle.pw_delay.specs.declared.items.Item.TheVariants.{Plain, Turns, Mark}
use Rattle.pw_delay.specs.Items.{begins_next, plain_item, item_of, before, slotted}
use Rattle.pw_delay.specs.Filling.{drawn_near, filled}
use Rattle.pw_delay.specs.Placement.{size, sizes, in_slot, turn_words, item_words, words_from, mark_at, fix_at, fixes_from, laid, short_limit, placed}
use Rattle.pw_delay.proofs.Keeping.{PropertiesMove, properties_stay}

-- a routine is one of the five
abbrev pub IsThere : Symbol → Type 0
IsThere (symbol.Named name) = Unit {0}
IsThere (symbol.Word word) = Unit {0}
IsThere symbol.StackLimit = Unit {0}
IsThere (symbol.Routine number) = number < routine_count

-- the relocation is of one of so many words
abbrev pub Stands : ℕ → Fix → Type 0
Stands words f = (f.word < words) × IsThere f.symbol

abbrev RelocationThere : Option Relocation → Type 0
RelocationThere None = Unit {0}
RelocationThere (Some r) = IsThere r.symbol

abbrev WordThere : Word → Type 0
WordThere w = RelocationThere w.relocation

-- ---- words

stand : (n : ℕ) (xs ys : List Fix) → AllByRecursion (Stands n) xs → AllByRecursion (Stands n) ys → AllByRecursion (Stands n) (xs ++ ys)
stand n [] ys h k = k
stand n (x ∷ xs) ys h k = (h.0, stand n xs ys h.1 k)

fix_stands : (at n : ℕ) (r : Option Relocation) → at < n → RelocationThere r → AllByRecursion (Stands n) (fix_at at r)
fix_stands at n None less h = tt
fix_stands at n (Some r) less h = ((less, h), tt)

fixes_stand : (at n : ℕ) (words : List Word) → at + length words ≤ n → AllByRecursion WordThere words → AllByRecursion (Stands n) (fixes_from at words)
fixes_stand at n [] fits h = tt
fixes_stand at n (w ∷ rest) fits h =
    stand n (fix_at at w.relocation) (fixes_from (at + 1) rest)
    (fix_stands at n w.relocation (omega arith) h.0)
    (fixes_stand (at + 1) n rest (omega arith) h.1)

code_stands : (words : List Word) → AllByRecursion WordThere words → AllByRecursion (Stands (length (map (λ (w : Word). word_of w.inst) words))) (fixes_from 0 words)
code_stands words h =
    let count : length (map (λ (w : Word). word_of w.inst) words) ≡ length words = simp length-map in
    fixes_stand 0 (length (map (λ (w : Word). word_of w.inst) words)) words (omega arith) h

-- ---- items

abbrev SlotThere : Option Word → Type 0
SlotThere None = Unit {0}
SlotThere (Some w) = WordThere w

abbrev TurnThere : Turn → Type 0
TurnThere (CallTo s link) = IsThere s
TurnThere _ = Unit {0}

abbrev ItemThere : Item → Type 0
ItemThere (Plain w) = WordThere w
ItemThere (Turns turn slot) = TurnThere turn × SlotThere slot
ItemThere (Mark b) = Unit {0}

words_joined : (xs ys : List Word) → AllByRecursion WordThere xs → AllByRecursion WordThere ys → AllByRecursion WordThere (xs ++ ys)
words_joined [] ys h k = k
words_joined (x ∷ xs) ys h k = (h.0, words_joined xs ys h.1 k)

slot_there : (slot : Option Word) → SlotThere slot → WordThere (in_slot slot)
slot_there None h = tt
slot_there (Some w) h = h

turn_there : (long : Bool) (begins : ℕ → ℕ) (at : ℕ) (turn : Turn) (slot : Option Word) → TurnThere turn → SlotThere slot → AllByRecursion WordThere (turn_words long begins at turn slot)
turn_there long begins at (Back branch) slot h k = (tt, (slot_there slot k, tt))
turn_there long begins at (Goto b) slot h k = (tt, (slot_there slot k, tt))
turn_there false begins at (If r b) slot h k = (tt, (slot_there slot k, tt))
turn_there true begins at (If r b) slot h k = (tt, (slot_there slot k, (tt, (tt, tt))))
turn_there long begins at (CallTo s link) slot h k = (h, (slot_there slot k, tt))
turn_there long begins at CallReg slot h k = (tt, (slot_there slot k, tt))
turn_there long begins at Leave None h k = (tt, tt)
turn_there long begins at Leave (Some w) h k = (tt, (k, tt))

item_there : (long : Bool) (begins : ℕ → ℕ) (at : ℕ) (item : Item) → ItemThere item → AllByRecursion WordThere (item_words long begins at item)
item_there long begins at (Plain w) h = (h, tt)
item_there long begins at (Turns turn slot) h = turn_there long begins at turn slot h.0 h.1
item_there long begins at (Mark b) h = tt

words_there : (long : Bool) (begins : ℕ → ℕ) (at : ℕ) (items : List Item) → AllByRecursion ItemThere items → AllByRecursion WordThere (words_from long begins at items)
words_there long begins at [] h = tt
words_there long begins at (item ∷ rest) h =
    words_joined (item_words long begins at item) (words_from long begins (at + size long item) rest)
    (item_there long begins at item h.0) (words_there long begins (at + size long item) rest h.1)

-- ---- lines

abbrev pub LineThere : Line → Type 0
LineThere (line.Fixed x k s n) = IsThere s
LineThere (line.CallTo s r) = IsThere s
LineThere _ = Unit {0}

plain_there : (x : Inst) → ItemThere (plain_item x)
plain_there (i.Combf c r1 r2 disp) = (tt, tt)
plain_there x = tt

jump_there : (b : ℕ) (rest : List Line) (items : List Item) → AllByRecursion ItemThere items → AllByRecursion ItemThere (before (item_of (line.Jump b) rest) items)
jump_there b rest items h = by (begins_next b rest)
  where
    by : (t : Bool) → AllByRecursion ItemThere (before (if t then None else Some (Turns (Goto b) None)) items)
    by true = h
    by false = ((tt, tt), h)

slotted_there : (lines : List Line) → AllByRecursion LineThere lines → AllByRecursion ItemThere (slotted lines)
slotted_there [] h = tt
slotted_there (line.Plain x ∷ rest) h = (plain_there x, slotted_there rest h.1)
slotted_there (line.Fixed x k s n ∷ rest) h = (h.0, slotted_there rest h.1)
slotted_there (line.Jump b ∷ rest) h = jump_there b rest (slotted rest) (slotted_there rest h.1)
slotted_there (line.BranchNonZero r b ∷ rest) h = ((tt, tt), slotted_there rest h.1)
slotted_there (line.Label b ∷ rest) h = (tt, slotted_there rest h.1)
slotted_there (line.CallTo s r ∷ rest) h = ((h.0, tt), slotted_there rest h.1)
slotted_there (line.CallReg ∷ rest) h = ((tt, tt), slotted_there rest h.1)
slotted_there (line.Leave ∷ rest) h = ((tt, tt), slotted_there rest h.1)

near_there : (turn : Turn) → TurnThere turn → TurnThere (drawn_near turn)
near_there (Back (i.Combf c r1 r2 disp)) h = tt
near_there turn h = h

there_moves : PropertiesMove ItemThere
there_moves w turn plain turns free = (near_there turn turns.0, plain)

pub placed_stand : (lines : List Line) → AllByRecursion LineThere lines → AllByRecursion (Stands (length (placed lines).words)) (placed lines).fixes
unfolding placed laid
placed_stand lines h =
    let items = filled false (slotted lines) in
    let long = nat_lt short_limit (sizes false (slotted lines)) in
    code_stands (words_from long (mark_at long 0 items) 0 items)
    (words_there long (mark_at long 0 items) 0 items (properties_stay ItemThere false (slotted lines) there_moves (slotted_there lines h)))
