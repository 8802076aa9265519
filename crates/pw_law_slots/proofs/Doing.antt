-- A word that may move, as a step of the run: it does the same whatever is left, whatever was counted, and before and after
-- a register takes a word that it does not name.
use Rattle.std.proofs.Common.{ℕ, ◌≡◌, Bool, true, false, if◌then◌else◌, Option, None, Some, List, [], ◌∷◌, ◌++◌, refl, ap, ◌∙◌}
use Rattle.std.specs.Prelude.{◌==◌, ◌&&◌, nat_lt, count_by}
use Rattle.std.specs.List.{flat_map}
use Rattle.std.specs.Str.{bytes_eq}
use Rattle.pw_inst.specs.declared.Inst.{Inst}
use Rattle.pw_inst.specs.Computing.{Action, source_registers, target_registers}
use Rattle.pw_delay.specs.declared.items.Item.{Item}
use Rattle.pw_delay.specs.Filling.{have_common, but_zero}
use Rattle.pw_run_languages.specs.Traces.{Event, Loaded, Stored, touches, load_of, store_of}
use Rattle.pw_run_languages.specs.Programs.{globals_of}
use Rattle.pw_run_languages.specs.Addresses.{Addresses}
use Rattle.pw_run_languages.specs.Acts.{Core, Act, Acts, Full, Fails, with_register, action_of, acts}
use Rattle.pw_run_languages.specs.LineRun.{LineProgram, Machine, Step, On, linked, counted, left_behind, accesses, went_on}
use Rattle.pw_law_slots.specs.Passing.{past, does_not_turn, then_done}
use Rattle.pw_law_slots.proofs.Passing.{BySources, ByTargets, words_past, actions_past}

-- what is noted of an action
unfoldable pub noted : LineProgram → Addresses → Bool → Action → List (Event ℕ ℕ)
noted p w skip a = if skip then [] else flat_map (λ g.
    (if nat_lt 0 (count_by (bytes_eq g.name) p.eligible) && touches (load_of a) (w.named g.name) g.size then Loaded g.name ∷ [] else [])
    ++ (if nat_lt 0 (count_by (bytes_eq g.name) p.eligible) && touches (store_of a) (w.named g.name) g.size then Stored g.name ∷ [] else [])) (globals_of p.flow)

pub skip_stays : (zero : Bool) (r v : ℕ) (c : Core) → (if zero then c else record c { registers = λ b. if b == r then v else c.registers b }).skip ≡ c.skip
skip_stays true r v c = refl
skip_stays false r v c = refl

same_noted : (p : LineProgram) (w : Addresses) (i : Inst) (c d : Core) → d.skip ≡ c.skip → action_of i d ≡ action_of i c → accesses p w (Some i) d ≡ accesses p w (Some i) c
unfolding noted
same_noted p w i c d skip same = λ j. noted p w (skip j) (same j)

-- a word by its instruction with its address in it
abbrev pub does_by : LineProgram → Addresses → Option Inst → Machine → Step
does_by p w o m = went_on p w o (acts w o m.core) m

-- an instruction that may move, and names no register but 0 in common with this one
abbrev pub IsFree : Option Inst → ℕ → Type 0
IsFree o r = (i : Inst) → o ≡ Some i → (does_not_turn i ≡ true) × (have_common (source_registers i ++ target_registers i) (but_zero (r ∷ [])) ≡ false)

pub does_linked : BySources → ByTargets → (p : LineProgram) (w : Addresses) (o : Option Inst) (r v : ℕ) (m : Machine) → IsFree o r → m.core.skip ≡ false
    → does_by p w o (linked r v m) ≡ then_done (linked r v) (does_by p w o m)
does_linked sources targets p w None r v m free run = refl
does_linked sources targets p w (Some i) r v m free run =
    ap (λ a. went_on p w (Some i) a (linked r v m)) (words_past sources targets w i r v m.core (free i refl).0 run (free i refl).1)
    ∙ by (same_noted p w i m.core (with_register r v m.core) (skip_stays (r == 0) r v m.core) (actions_past sources i r v m.core (free i refl).1)) (acts w (Some i) m.core)
  where
    by : accesses p w (Some i) (with_register r v m.core) ≡ accesses p w (Some i) m.core → (a : Act)
        → went_on p w (Some i) (past (with_register r v) a) (linked r v m) ≡ then_done (linked r v) (went_on p w (Some i) a m)
    by same (Acts d) = ap (λ l. On (record m { core = with_register r v d; trace = l ++ m.trace })) same
    by same Full = refl
    by same Fails = refl

goes_left : (p : LineProgram) (w : Addresses) (i : Option Inst) (a : Act) (items : List Item) (m : Machine) → went_on p w i a (left_behind items m) ≡ then_done (left_behind items) (went_on p w i a m)
goes_left p w i (Acts c) items m = refl
goes_left p w i Full items m = refl
goes_left p w i Fails items m = refl

pub does_left : (p : LineProgram) (w : Addresses) (o : Option Inst) (items : List Item) (m : Machine) → does_by p w o (left_behind items m) ≡ then_done (left_behind items) (does_by p w o m)
does_left p w o items m = goes_left p w o (acts w o m.core) items m

goes_counted : (p : LineProgram) (w : Addresses) (i : Option Inst) (a : Act) (m : Machine) → went_on p w i a (counted m) ≡ then_done counted (went_on p w i a m)
goes_counted p w i (Acts c) m = refl
goes_counted p w i Full m = refl
goes_counted p w i Fails m = refl

pub does_counted : (p : LineProgram) (w : Addresses) (o : Option Inst) (m : Machine) → does_by p w o (counted m) ≡ then_done counted (does_by p w o m)
does_counted p w o m = goes_counted p w o (acts w o m.core) m
