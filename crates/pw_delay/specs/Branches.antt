-- Where branches lead.
use Rattle.std.specs.Prelude.{ℕ, ℤ, pos, ◌≡◌, ◌+◌, ◌+ℤ◌, false, Option, Some, None, List, ◌∷◌, ◌++◌, length}
use Rattle.std.specs.List.{AllByRecursion}
use Rattle.pw_inst.specs.declared.Inst.{Inst}
use Rattle.pw_inst.specs.declared.Inst.TheVariants.{Bl, Combf}
use Rattle.pw_inst.specs.declared.line.Line.{Line}
use Rattle.pw_inst.specs.declared.line.Line.TheVariants as line
use Rattle.pw_inst.specs.declared.relocation.FixKind.TheVariants as kind
use Rattle.pw_delay.specs.declared.items.Relocation.{Relocation}
use Rattle.pw_delay.specs.declared.items.Word.{Word}
use Rattle.pw_delay.specs.declared.items.Item.{Item}
use Rattle.pw_delay.specs.Items.{bare, slotted}
use Rattle.pw_delay.specs.Placement.{mark_at, words_from, code_of, placed}

-- A branch whose target a linker fills in has its relocation.
abbrev pub IsSent : Inst → Option Relocation → Type 0
IsSent (Bl disp t n) (Some r) = r.kind ≡ kind.Bl
IsSent (Bl disp t n) None = ⊥
IsSent i r = Unit {0}

abbrev pub IsWordSent : Word → Type 0
IsWordSent w = IsSent w.inst w.relocation

-- a line that holds no such branch by itself
abbrev pub HasNoCall : Line → Type 0
HasNoCall (line.Plain i) = IsSent i None
HasNoCall (line.Fixed i k s n) = IsSent i (Some (record { kind = k; symbol = s; addend = n }))
HasNoCall _ = Unit {0}

-- the code is that of words each of which is sent on by its relocation, where it is such a branch
pub record AreSent (lines : List Line) : Type 0 where
  pub words : List Word
  pub code : placed lines ≡ code_of words
  pub sent : AllByRecursion IsWordSent words

-- Behind the words of the items before it stands the short conditional branch of a register to a block, and the
-- displacement in it leads from two words behind it to the block's first word.
pub record Reaches (items before : List Item) (r b : ℕ) : Type 0 where
  pub displacement : ℤ
  pub rest : List Word
  pub words : words_from false (mark_at false 0 items) 0 items ≡ words_from false (mark_at false 0 items) 0 before ++ bare (Combf 1 r 0 displacement) ∷ rest
  pub target : pos (length (words_from false (mark_at false 0 items) 0 before) + 2) +ℤ displacement ≡ pos (mark_at false 0 items b)
