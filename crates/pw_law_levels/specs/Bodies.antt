-- How a function's items keep the stack pointer: those with which it begins put it to the end of the frame, word by word,
-- and the others leave it there, until a word before a return.
use Rattle.std.specs.Prelude.{ℕ, ◌≡◌, ◌≤◌, ◌⊎◌, Bool, true, false, Some, None, List, [], ◌∷◌, ◌++◌}
use Rattle.pw_delay.specs.declared.items.Word.{Word}
use Rattle.pw_delay.specs.declared.items.Turn.TheVariants.{Leave}
use Rattle.pw_delay.specs.declared.items.Item.{Item}
use Rattle.pw_delay.specs.declared.items.Item.TheVariants.{Plain, Turns, Mark}
use Rattle.pw_run_languages.specs.Acts as lines
use Rattle.pw_run_languages.specs.Acts.{Acts, acts, settled}
use Rattle.pw_run_languages.specs.LineRun.{LineFn}
use Rattle.pw_law_link_run.specs.Steps.{Setting}
use Rattle.pw_law_link_run.specs.Leveled.{Level, HoldsAt, IsRaised}

-- ---- the items with which a function begins

-- from what is known before a word to what is known behind it
abbrev pub Leads : Setting → LineFn → Level → Word → Level → Type 0
Leads x f l word next =
    (stack : ℕ) (c d : lines.Core) → HoldsAt x f l stack c → acts x.addresses (settled x.addresses word) c ≡ Acts d → HoldsAt x f next stack d

-- words alone, behind which the pointer is at the end of the frame
abbrev pub Raises : Setting → LineFn → Level → List Item → Type 0
Raises x f l [] = (stack : ℕ) (c : lines.Core) → HoldsAt x f l stack c → IsRaised x f stack c
Raises x f l (Plain word ∷ rest) = (next : Level) × Leads x f l word next × Raises x f next rest
Raises x f l (Mark b ∷ rest) = ⊥
Raises x f l (Turns turn slot ∷ rest) = ⊥

-- what is known where a function begins
abbrev pub first_level : Level
first_level = record { raised = Some false; bounded = false; clear = true; help = None }

-- ---- the others

-- register 30 is as it was, wherever the word acts
abbrev pub LeavesPointer : Setting → Word → Type 0
LeavesPointer x word =
    (c d : lines.Core) → acts x.addresses (settled x.addresses word) c ≡ Acts d → lines.register d 30 ≡ lines.register c 30

-- a return without a word in its slot
abbrev pub StartsLeave : List Item → Type 0
StartsLeave (Turns Leave None ∷ rest) = Unit {0}
StartsLeave _ = ⊥

-- Each word but one right before a return leaves the pointer, also in a slot, but for the slot of a return; a word stands
-- before each return in whose slot there is none. The flag says whether the item before is a word.
abbrev pub Keeps : Setting → Bool → List Item → Type 0
Keeps x word [] = Unit {0}
Keeps x word (Plain w ∷ rest) = (LeavesPointer x w ⊎ StartsLeave rest) × Keeps x true rest
Keeps x word (Mark b ∷ rest) = Keeps x false rest
Keeps x word (Turns Leave None ∷ rest) = (word ≡ true) × Keeps x false rest
Keeps x word (Turns Leave (Some w) ∷ rest) = Keeps x false rest
Keeps x word (Turns turn None ∷ rest) = Keeps x false rest
Keeps x word (Turns turn (Some w) ∷ rest) = LeavesPointer x w × Keeps x false rest

-- a block begins before any turn
abbrev pub BlockFirst : List Item → Type 0
BlockFirst [] = ⊥
BlockFirst (Plain w ∷ rest) = BlockFirst rest
BlockFirst (Mark b ∷ rest) = Unit {0}
BlockFirst (Turns turn slot ∷ rest) = ⊥

-- ---- a function

pub record IsPointed (x : Setting) (f : LineFn) : Type 0 where
  pub entry : List Item
  pub body : List Item
  pub items : f.items ≡ entry ++ body
  pub raises : Raises x f first_level entry
  pub keeps : Keeps x false body
  pub first : BlockFirst body
  pub frame : 1 ≤ f.located.frame
