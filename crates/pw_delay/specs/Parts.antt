-- What items are made of: their words, their blocks and their turns of control, in order.
use Rattle.std.specs.Prelude.{ℕ, pos, ◌≡◌, ◌⊎◌, Bool, true, false, None, Some, List, [], ◌∷◌, ◌++◌, Contains}
use Rattle.pw_inst.specs.declared.Inst.TheVariants.{Combf}
use Rattle.pw_delay.specs.declared.items.Word.{Word}
use Rattle.pw_delay.specs.declared.items.Turn.{Turn}
use Rattle.pw_delay.specs.declared.items.Turn.TheVariants.{Back}
use Rattle.pw_delay.specs.declared.items.Item.{Item}
use Rattle.pw_delay.specs.declared.items.Item.TheVariants.{Plain, Turns, Mark}
use Rattle.pw_delay.specs.Filling.{moves, drawn_near, compared, filled}

-- the words, those in slots among them
abbrev pub words_of : Item → List Word
words_of (Plain w) = w ∷ []
words_of (Turns turn (Some w)) = w ∷ []
words_of item = []

-- where blocks begin
abbrev pub blocks_of : Item → List ℕ
blocks_of (Mark b) = b ∷ []
blocks_of item = []

-- turns of control, wherever a branch goes back to
abbrev pub led_anywhere : Turn → Turn
led_anywhere (Back (Combf c r1 r2 disp)) = Back (Combf c r1 r2 (pos 0))
led_anywhere turn = turn

abbrev pub turns_of : Item → List Turn
turns_of (Turns turn slot) = led_anywhere turn ∷ []
turns_of item = []

-- whether what stands behind items stands behind a COMCLR
abbrev pub compared_by : Bool → List Item → Bool
compared_by behind [] = behind
compared_by behind (item ∷ rest) = compared_by (compared behind item) rest

-- ---- where the items with filled slots come from

-- a turn with a word in its slot that stood before it and moves there
pub record HasTaken (items : List Item) (item : Item) : Type 0 where
  pub word : Word
  pub turn : Turn
  pub is : item ≡ Turns (drawn_near turn) (Some word)
  pub stood : Contains items (Plain word)
  pub empty : Contains items (Turns turn None)
  pub free : moves word.inst turn ≡ true

-- an item as it was, or such a turn
abbrev pub IsFilledFrom : List Item → Item → Type 0
IsFilledFrom items item = Contains items item ⊎ HasTaken items item

-- items that begin with a turn whose slot is empty, so that a word before them may move there
abbrev pub takes_first : List Item → Bool
takes_first (Turns turn None ∷ rest) = true
takes_first items = false

-- What is behind a place is filled by itself, where it does not begin with a turn whose slot is empty.
abbrev pub PartsAlone : Type 0
PartsAlone =
    (behind : Bool) (before after : List Item) → takes_first after ≡ false
    → filled behind (before ++ after) ≡ filled behind before ++ filled (compared_by behind before) after
