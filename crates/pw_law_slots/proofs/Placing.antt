-- The items of selected lines can be filled, so the run of the items that are placed does what the run of the lines' items does.
use Rattle.std.proofs.Common.{ℕ, zero, suc, negsuc, ◌≡◌, Bool, true, false, if◌then◌else◌, None, Some, List, [], ◌∷◌, map, refl, ap, subst, arith}
use Rattle.std.specs.List.{AllByRecursion}
use Rattle.pw_value.specs.declared.value.Byte.{Byte}
use Rattle.pw_value.specs.declared.value.Value.{Value}
use Rattle.pw_inst.specs.declared.Inst.{Inst}
use Rattle.pw_inst.specs.declared.Inst.TheVariants as i
use Rattle.pw_inst.specs.declared.line.Line.{Line}
use Rattle.pw_inst.specs.declared.line.Line.TheVariants as line
use Rattle.pw_alloc.specs.declared.located.Located.{Located}
use Rattle.pw_select.specs.Selection.{selected}
use Rattle.pw_delay.specs.declared.items.Turn.TheVariants.{Goto}
use Rattle.pw_delay.specs.declared.items.Item.{Item}
use Rattle.pw_delay.specs.declared.items.Item.TheVariants.{Turns}
use Rattle.pw_delay.specs.Items.{begins_next, plain_item, item_of, before, slotted}
use Rattle.pw_run.specs.Runs.{Stage, Going, Over, Wrong, Same}
use Rattle.pw_law_select_walk.specs.Rows.{IsAlone, IsRow}
use Rattle.pw_law_select_walk.proofs.EachLine.{Anything, anything, each_selected}
use Rattle.pw_run_languages.specs.Traces.{Event}
use Rattle.pw_run_languages.specs.Late.{RefinesLately}
use Rattle.pw_run_languages.specs.Meeting.{MetIn}
use Rattle.pw_run_languages.specs.Programs.{Program}
use Rattle.pw_run_languages.specs.Addresses.{Addresses}
use Rattle.pw_run_languages.specs.LineRun.{LineFn, LineProgram, line_run}
use Rattle.pw_run_languages.specs.Links.{HaveLinks}
use Rattle.pw_run_languages.specs.SelectionLaws.{with_lines, line_program, with_items, placed_program, PlacementKeeps}
use Rattle.pw_law_slots.specs.SlotLaws.{IsFillable, filled_function, filled_program, FillingKeepsRuns}

-- ---- lines

abbrev IsFillingLine : Line → Type 0
IsFillingLine (line.Plain x) = IsAlone x
IsFillingLine l = Unit {0}

row_fills : (l : Line) → IsRow Anything Anything l → IsFillingLine l
row_fills (line.Plain x) h = h
row_fills l h = tt

plain_fills : (x : Inst) → IsAlone x → IsFillable (plain_item x)
plain_fills (i.Combf c r1 r2 (negsuc (suc zero))) h = absurd h
plain_fills (i.Combf c r1 r2 disp) h = (tt, tt)
plain_fills x h = tt

jump_fills : (b : ℕ) (rest : List Line) (items : List Item) → AllByRecursion IsFillable items → AllByRecursion IsFillable (before (item_of (line.Jump b) rest) items)
jump_fills b rest items h = by (begins_next b rest)
  where
    by : (t : Bool) → AllByRecursion IsFillable (before (if t then None else Some (Turns (Goto b) None)) items)
    by true = h
    by false = ((tt, tt), h)

slotted_fills : (lines : List Line) → AllByRecursion IsFillingLine lines → AllByRecursion IsFillable (slotted lines)
slotted_fills [] h = tt
slotted_fills (line.Plain x ∷ rest) h = (plain_fills x h.0, slotted_fills rest h.1)
slotted_fills (line.Fixed x k s n ∷ rest) h = (tt, slotted_fills rest h.1)
slotted_fills (line.Jump b ∷ rest) h = jump_fills b rest (slotted rest) (slotted_fills rest h.1)
slotted_fills (line.BranchNonZero r b ∷ rest) h = ((tt, tt), slotted_fills rest h.1)
slotted_fills (line.Label b ∷ rest) h = (tt, slotted_fills rest h.1)
slotted_fills (line.CallTo s r ∷ rest) h = ((tt, tt), slotted_fills rest h.1)
slotted_fills (line.CallReg ∷ rest) h = ((tt, refl), slotted_fills rest h.1)
slotted_fills (line.Leave ∷ rest) h = ((tt, tt), slotted_fills rest h.1)

selected_fills : (f : Located) → AllByRecursion IsFillable (slotted (selected f))
selected_fills f = slotted_fills (selected f) (each_selected Anything Anything IsFillingLine row_fills (λ (b : ℕ). tt) f (anything f))

all_fill : (fs : List Located) → AllByRecursion (λ f. AllByRecursion IsFillable f.items) (map with_lines fs)
all_fill [] = tt
all_fill (f ∷ fs) = (selected_fills f, all_fill fs)

-- ---- programs

filled_lines : (fs : List Located) → map filled_function (map with_lines fs) ≡ map with_items fs
filled_lines [] = refl
filled_lines (f ∷ fs) = ap (λ (gs : List LineFn). with_items f ∷ gs) (filled_lines fs)

placed_is_filled : (p : Program) (fs : List Located) → filled_program (line_program p fs) ≡ placed_program p fs
placed_is_filled p fs = ap (λ (gs : List LineFn). record (line_program p fs) { functions = gs }) (filled_lines fs)

-- a run that comes to the stage of one comes to the stage of another
met_then : (P Q : ℕ → Type 0) (s : Stage (Event Byte Value)) (b c : ℕ → Stage (Event ℕ ℕ)) → MetIn P s b → ((n : ℕ) → P n → MetIn Q (b n) c) → MetIn Q s c
met_then P Q (Going v) b c met next =
    let h = subst (λ (t : Stage (Event ℕ ℕ)). MetIn Q t c) met.is (next met.at met.holds) in
    record { at = h.at; view = h.view; is = h.is; counted = omega (arith, met.counted, h.counted); holds = h.holds }
met_then P Q (Over end v) b c met next =
    let h = subst (λ (t : Stage (Event ℕ ℕ)). MetIn Q t c) met.is (next met.at met.holds) in
    record { at = h.at; view = h.view; is = h.is; holds = h.holds }
met_then P Q Wrong b c met next = tt

pub placement_keeps : FillingKeepsRuns → (p : Program) (fs : List Located) (w : Addresses) (scratch : ℕ → (ℕ → ℕ) → ℕ → ℕ) (input : List ℕ) → PlacementKeeps p fs w scratch input
placement_keeps filling p fs w scratch input =
    let lines = line_program p fs in
    let keeps = filling lines w scratch input (all_fill fs) in
    let same = placed_is_filled p fs in
    let run = line_run lines w scratch input in record {
      runs = subst (λ (q : LineProgram). RefinesLately Same run (line_run q w scratch input)) same keeps.runs;
      links = λ s met. subst (λ (q : LineProgram). MetIn (HaveLinks q w scratch input) s (line_run q w scratch input)) same
          (met_then (HaveLinks lines w scratch input) (HaveLinks (filled_program lines) w scratch input) s run (line_run (filled_program lines) w scratch input) met keeps.links);
    }
