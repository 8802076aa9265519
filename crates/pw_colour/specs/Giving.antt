-- Which registers are busy in which functions, and which one a web gets; and the database, function by function.
use Rattle.std.specs.Prelude.{ℕ, suc, ◌≡◌, ◌<◌, ◌≤◌, ◌+◌, ◌⊎◌, ◌↔◌, Option, Some, None, if◌then◌else◌, List, [], ◌∷◌, ◌++◌, length, slice_index, vec_len}
use Rattle.std.specs.Prelude.{pos, ◌<ℤ◌, ◌≤ℤ◌}
use Rattle.pw_fix.specs.Row.{Holds}
use Rattle.pw_fix.specs.Table.{HoldsAt}
use Rattle.pw_fix.specs.declared.bit_row.BitRow.{BitRow}
use Rattle.pw_fix.specs.declared.bit_rows.BitRows.{BitRows}
use Rattle.pw_db.specs.declared.database.Directives.{Directives}
use Rattle.pw_graph.specs.declared.graph.CallGraph.{CallGraph}
use Rattle.pw_webs.specs.declared.web.RawWeb.{RawWeb}
use Rattle.pw_colour.specs.declared.directing.Coloured.{Coloured}
use Rattle.pw_db.specs.Limits.{first_register}
use Rattle.pw_db.specs.Database.{says_something}
use Rattle.pw_summary.specs.Summary.{need_limit}
use Rattle.pw_clusters.specs.Saving.{need_in}
use Rattle.pw_colour.specs.Colours.{directives_of}

-- ---- registers

-- a colour is busy in one of these functions
pub record IsBusyIn (busy : BitRows) (members : BitRow) (colour : ℕ) : Type 0 where
  pub function : ℕ
  pub busy_there : HoldsAt busy colour function
  pub member : Holds members function

-- no function of these has the colour, and each smaller colour one of them has
pub record IsLeastFree (busy : BitRows) (members : BitRow) (colour : ℕ) : Type 0 where
  pub within : colour < vec_len busy.rows
  pub free : ¬ IsBusyIn busy members colour
  pub least : (k : ℕ) → k < colour → IsBusyIn busy members k

-- each colour is busy
abbrev pub AreAllBusy : BitRows → BitRow → Type 0
AreAllBusy busy members = (k : ℕ) → k < vec_len busy.rows → IsBusyIn busy members k

-- the least colour that is free, for a web that saves something
abbrev pub IsColourOf : BitRows → RawWeb → Option ℕ → Type 0
IsColourOf busy w None = (w.priority ≤ℤ pos 0) ⊎ AreAllBusy busy w.members
IsColourOf busy w (Some colour) = (pos 0 <ℤ w.priority) × IsLeastFree busy w.members colour

-- the register of a web; its colour is busy in the functions of the web from then on
abbrev pub IsGiven : BitRows → BitRows → RawWeb → Option ℕ → Type 0
IsGiven old new w None = IsColourOf old w None × ((k f : ℕ) → HoldsAt new k f ↔ HoldsAt old k f)
IsGiven old new w (Some r) = (colour : ℕ) × (r ≡ first_register + colour) × IsColourOf old w (Some colour) × ((k f : ℕ) → HoldsAt new k f ↔ (HoldsAt old k f ⊎ ((k ≡ colour) × Holds w.members f)))

-- webs with their registers
abbrev pub paired : List RawWeb → List (Option ℕ) → List (RawWeb × Option ℕ)
paired [] rs = []
paired (w ∷ ws) [] = []
paired (w ∷ ws) (r ∷ rs) = (w, r) ∷ paired ws rs

-- ---- the database, function by function

-- a web that has a register, by its number
abbrev pub coloured : Coloured → ℕ × RawWeb × ℕ
coloured c = (c.id, c.web.now, c.reg)

-- the root of each function, and of each root what the member needs that needs most
pub record AreClusters (g : CallGraph) (roots most : List ℕ) : Type 0 where
  pub each : length roots ≡ length g.functions
  pub within : (f : ℕ) → f < length g.functions → slice_index roots f < length g.functions
  pub count : length most ≡ length roots
  pub needs : (r : ℕ) → slice_index most r ≡ need_in roots g.needs r
  pub few : (r : ℕ) → need_in roots g.needs r ≤ need_limit

-- what a function has, where its directives say something
abbrev pub entry_of : CallGraph → List ℕ → List (ℕ × RawWeb × ℕ) → ℕ → List ℕ → List (List ℕ × Directives)
entry_of g roots ws place f = if says_something (f, directives_of g roots ws place) then ((f, directives_of g roots ws place) ∷ []) else []

abbrev pub entries_from : CallGraph → List ℕ → List (ℕ × RawWeb × ℕ) → ℕ → List (List ℕ) → List (List ℕ × Directives)
entries_from g roots ws place [] = []
entries_from g roots ws place (f ∷ fs) = entry_of g roots ws place f ++ entries_from g roots ws (suc place) fs
