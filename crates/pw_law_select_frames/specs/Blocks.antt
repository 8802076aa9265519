-- Blocks of a function as items, and the ends that lead from one to another.
use Rattle.std.specs.Prelude.{ℕ, false, ◌≡◌, ◌≢◌, ◌+◌, ◌≤◌, ◌==◌, if◌then◌else◌, Some, List, [], ◌∷◌, ◌++◌, drop, slice_get}
use Rattle.std.specs.List.{flat_map}
use Rattle.pw_inst.specs.Registers.{first}
use Rattle.pw_inst.specs.declared.line.Line.{Line}
use Rattle.pw_inst.specs.declared.line.Line.TheVariants.{Jump, BranchNonZero}
use Rattle.pw_flow.specs.declared.flow.End.{End}
use Rattle.pw_webflow.specs.declared.web.WebOp.{WebOp}
use Rattle.pw_webflow.specs.declared.web.WebBlock.{WebBlock}
use Rattle.pw_alloc.specs.declared.located.Place.{Place}
use Rattle.pw_alloc.specs.declared.located.Located.{Located}
use Rattle.pw_delay.specs.declared.items.Item.{Item}
use Rattle.pw_delay.specs.Items.{slotted}
use Rattle.pw_select_lines.specs.Registers.{operand_register, operand_lines}
use Rattle.pw_select_lines.specs.Operations.{layout, web_op_lines}
use Rattle.pw_select.specs.Selection.{slot_offsets, end_lines, blocks_lines, selected}
use Rattle.pw_run_languages.specs.Addresses.{Addresses}
use Rattle.pw_run_languages.specs.Acts.{Core}
use Rattle.pw_run_languages.specs.LineRun.{LineProgram, Machine, from_mark}
use Rattle.pw_law_select_rows.specs.Places.{place_word, IsInReach}
use Rattle.pw_law_select_rows.specs.Frames.{LoadsWord}
use Rattle.pw_law_select_rows.specs.Straight.{words_of}
use Rattle.pw_law_select_states.specs.Passes.{Passes}

-- the lines of the blocks behind one
abbrev pub blocks_behind : Located → ℕ → List Line
blocks_behind f block = blocks_lines f (slot_offsets f) (block + 1) (drop (block + 1) f.body.blocks)

-- the lines that are left of a function in a block: those of operations, of its end, and of the blocks behind it
abbrev pub lines_from : Located → ℕ → List WebOp → End → List Line
lines_from f block ops end = flat_map (web_op_lines (layout f.places (slot_offsets f))) ops ++ end_lines f end ++ blocks_behind f block

abbrev pub items_from : Located → ℕ → List WebOp → End → List Item
items_from f block ops end = slotted (lines_from f block ops end)

-- a block begins at its mark
abbrev pub BlocksBegin : Type 0
BlocksBegin =
    (f : Located) (b : ℕ) (block : WebBlock) → slice_get f.body.blocks b ≡ Some block
    → from_mark b (slotted (selected f)) ≡ Some (items_from f b block.ops block.end)

-- ---- ways to another block

-- how many jumps to blocks that do not begin next are counted
abbrev pub jump_count : ℕ → ℕ → ℕ
jump_count block b = if b == block + 1 then 0 else 1

-- the lines lead to where a block begins, with all else as it was, and count at least so many events
pub record LeadsTo (p : LineProgram) (w : Addresses) (scratch : ℕ → (ℕ → ℕ) → ℕ → ℕ) (l : Machine) (f : Located) (b : ℕ) (block : WebBlock) (core : Core) (least : ℕ) : Type 0 where
  pub passes : Passes p w scratch l (items_from f b block.ops block.end) core []
  pub counted : least ≤ passes.more

abbrev pub JumpsLead : Type 0
JumpsLead =
    (p : LineProgram) (w : Addresses) (scratch : ℕ → (ℕ → ℕ) → ℕ → ℕ) (l : Machine) (f : Located) (block b : ℕ) (next : WebBlock)
    → l.frame.function.items ≡ slotted (selected f) → l.frame.left ≡ slotted (Jump b ∷ blocks_behind f block) → l.core.skip ≡ false
    → slice_get f.body.blocks b ≡ Some next → LeadsTo p w scratch l f b next l.core (jump_count block b)

-- where the operand's word is 0 a branch leads to the second block, else to the first
pub record Branches (p : LineProgram) (w : Addresses) (scratch : ℕ → (ℕ → ℕ) → ℕ → ℕ) (l : Machine) (f : Located) (block b c : ℕ) (a : Place) (operand : Core) : Type 0 where
  pub zero : place_word l.core a ≡ 0 → (next : WebBlock) → slice_get f.body.blocks c ≡ Some next → LeadsTo p w scratch l f c next operand (jump_count block c)
  pub other : place_word l.core a ≢ 0 → (next : WebBlock) → slice_get f.body.blocks b ≡ Some next → LeadsTo p w scratch l f b next operand 1

pub record BranchesWith (p : LineProgram) (w : Addresses) (scratch : ℕ → (ℕ → ℕ) → ℕ → ℕ) (l : Machine) (f : Located) (block b c : ℕ) (a : Place) : Type 0 where
  pub loads : LoadsWord p w (words_of (operand_lines a first)) (operand_register a first) (place_word l.core a) l.core
  pub branches : Branches p w scratch l f block b c a loads.core

abbrev pub BranchesLead : Type 0
BranchesLead =
    (p : LineProgram) (w : Addresses) (scratch : ℕ → (ℕ → ℕ) → ℕ → ℕ) (l : Machine) (f : Located) (block b c : ℕ) (a : Place) (before : List Item)
    → l.frame.function.items ≡ slotted (selected f) → l.frame.function.items ≡ before ++ l.frame.left
    → l.frame.left ≡ slotted (operand_lines a first ++ BranchNonZero (operand_register a first) b ∷ Jump c ∷ blocks_behind f block)
    → l.core.skip ≡ false → IsInReach p w l.core a → BranchesWith p w scratch l f block b c a
