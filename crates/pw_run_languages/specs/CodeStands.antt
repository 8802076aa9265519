-- What placement owes: wherever the words of placed lines stand, once their relocations are done, the items stand
-- there.
use Rattle.std.specs.Prelude.{ℕ, ◌≡◌, ◌≢◌, ◌+◌, ◌*◌, ◌%◌, ◌<◌, ◌≤◌, nat_lt, Bool, false, Some, None, List, [], ◌∷◌, ◌++◌, length, slice_index_or, Contains}
use Rattle.std.specs.List.{AllByRecursion}
use Rattle.pw_value.specs.Limits.{text_start, word_limit}
use Rattle.pw_inst.specs.InstructionTable.{decoded, IsInRange, IsRegister}
use Rattle.pw_inst.specs.declared.line.Line.{Line}
use Rattle.pw_inst.specs.declared.line.Line.TheVariants as line
use Rattle.pw_inst.specs.declared.relocation.Symbol.{Symbol}
use Rattle.pw_inst.specs.declared.relocation.Symbol.TheVariants as symbol
use Rattle.pw_inst.specs.declared.relocation.Fix.{Fix}
use Rattle.pw_inst.specs.declared.relocation.FixKind.{FixKind}
use Rattle.pw_inst.specs.declared.relocation.FixKind.TheVariants as kind
use Rattle.pw_flow.specs.declared.flow.FlowFn.{FlowFn}
use Rattle.pw_flow.specs.ValidFlow.{IsFunction}
use Rattle.pw_db.specs.declared.database.Directives.{Directives}
use Rattle.pw_db.specs.Database.{IsDirectives}
use Rattle.pw_webflow.specs.Direction.{directed}
use Rattle.pw_alloc.specs.declared.located.Located.{Located}
use Rattle.pw_select.specs.Selection.{selected}
use Rattle.pw_run_languages.specs.Serving.{Serves}
use Rattle.pw_delay.specs.declared.items.Item.{Item}
use Rattle.pw_delay.specs.Items.{slotted}
use Rattle.pw_delay.specs.Placement.{sizes, mark_at, short_limit, placed}
use Rattle.pw_link.specs.Layout.{Sites}
use Rattle.pw_link.specs.Linking.{symbol_address, with_fixes}
use Rattle.pw_run_languages.specs.Acts as lines
use Rattle.pw_run_languages.specs.LineRun.{turns, IsCalling}
use Rattle.pw_run_languages.specs.SelectionLaws.{arranged}
use Rattle.pw_run_languages.specs.Words.{Text, StandsAt}

-- ---- lines that words can be made of

-- what lines name are functions, globals, routines and the end of the stack; words are named by placement alone
abbrev pub IsOfProgram : Symbol → Type 0
IsOfProgram (symbol.Word k) = ⊥
IsOfProgram _ = Unit {0}

-- each instruction has its fields in range, and takes the address that is to go into it
abbrev pub IsReady : Line → Type 0
IsReady (line.Plain i) = IsInRange i
IsReady (line.Fixed i k s n) = IsInRange i × (lines.with_address k 0 i ≢ None) × IsOfProgram s
IsReady (line.BranchNonZero r b) = IsRegister r
IsReady (line.CallTo s link) = IsRegister link × IsOfProgram s
IsReady _ = Unit {0}

abbrev pub labels : List Line → List ℕ
labels [] = []
labels (line.Label b ∷ rest) = b ∷ labels rest
labels (l ∷ rest) = labels rest

abbrev pub AreApart : List ℕ → Type 0
AreApart [] = Unit {0}
AreApart (b ∷ bs) = AllByRecursion (λ c. b ≢ c) bs × AreApart bs

-- no block begins twice
pub record AreReady (lines : List Line) : Type 0 where
  pub each : AllByRecursion IsReady lines
  pub labels : AreApart (labels lines)

-- what selection owes: its lines are such, of a lawful function whose places serve it
abbrev pub SelectionIsReady : Type 0
SelectionIsReady =
    (f : FlowFn) (d : Directives) (l : Located) → IsFunction f → IsDirectives d → Serves (directed f d) l → AreReady (selected l)

-- ---- where they stand

abbrev pub is_long : List Line → Bool
is_long ls = nat_lt short_limit (sizes false (slotted ls))

-- what a relocation is of has the address that the linker gives it, also in the run of lines; a branch's target is a
-- word of the text
abbrev pub InText : ℕ → Type 0
InText a = (a % 4 ≡ 0) × (text_start ≤ a) × (a < text_start + 4 * word_limit)

abbrev pub Reaches : FixKind → ℕ → Type 0
Reaches kind.Bl a = InText a
Reaches k a = Unit {0}

abbrev pub IsKnown : Sites → Text → ℕ → Fix → Symbol → Type 0
IsKnown sites t own f (symbol.Word k) = Unit {0}
IsKnown sites t own f s =
    (lines.symbol_address t.addresses s ≡ Some (symbol_address sites own s)) × Reaches f.kind (symbol_address sites own s)

-- the text has the linked words of the lines from an address on, and the blocks and the return addresses of its calls where they are
pub record StandAt (t : Text) (sites : Sites) (own : ℕ) (ls : List Line) : Type 0 where
  pub aligned : own % 4 ≡ 0
  pub above : text_start ≤ own
  pub below : own + 4 * length (placed ls).words ≤ text_start + 4 * word_limit
  pub words : (i : ℕ) → i < length (placed ls).words →
      t.fetch (own + 4 * i) ≡ decoded (slice_index_or (with_fixes sites own (placed ls).fixes (placed ls).words) i 0)
  pub symbols : (f : Fix) → Contains (placed ls).fixes f → IsKnown sites t own f f.symbol
  pub long : t.long ≡ is_long ls
  pub marks : (b : ℕ) → t.mark b ≡ own + 4 * mark_at (is_long ls) 0 (arranged ls) b
  pub behind : (before rest : List Item) (item : Item) → IsCalling item → arranged ls ≡ before ++ item ∷ rest
      → t.addresses.behind t.name (turns rest) ≡ own + 4 * sizes (is_long ls) before + 8

abbrev pub PlacedCodeStands : Type 0
PlacedCodeStands =
    (ls : List Line) (t : Text) (sites : Sites) (own : ℕ) → AreReady ls → StandAt t sites own ls → StandsAt t own (arranged ls)
