-- What filling owes, over any items: the statement of its law.
use Rattle.std.specs.Prelude.{ℕ, zero, suc, negsuc, ◌≡◌, false, Option, None, Some, List, map}
use Rattle.std.specs.List.{AllByRecursion}
use Rattle.pw_inst.specs.declared.Inst.TheVariants.{Combf}
use Rattle.pw_delay.specs.declared.items.Word.{Word}
use Rattle.pw_delay.specs.declared.items.Turn.{Turn}
use Rattle.pw_delay.specs.declared.items.Item.{Item}
use Rattle.pw_delay.specs.declared.items.Item.TheVariants.{Turns}
use Rattle.pw_delay.specs.declared.items.Turn.TheVariants.{Back}
use Rattle.pw_delay.specs.Filling.{compares, filled}
use Rattle.pw_run.specs.Runs.{Same}
use Rattle.pw_run_languages.specs.Addresses.{Addresses}
use Rattle.pw_run_languages.specs.Late.{RefinesLately}
use Rattle.pw_run_languages.specs.Links.{HaveLinks}
use Rattle.pw_run_languages.specs.LineRun.{LineFn, LineProgram, line_run}
use Rattle.pw_run_languages.specs.Meeting.{MetIn}

abbrev pub filled_function : LineFn → LineFn
filled_function f = record { located = f.located; items = filled false f.items }

abbrev pub filled_program : LineProgram → LineProgram
filled_program p = record { flow = p.flow; functions = map filled_function p.functions; eligible = p.eligible }

-- no branch back to itself
abbrev pub GoesElsewhere : Turn → Type 0
GoesElsewhere (Back (Combf c r1 r2 (negsuc (suc zero)))) = ⊥
GoesElsewhere turn = Unit {0}

-- no word that passes over the next one
abbrev pub PassesNothing : Option Word → Type 0
PassesNothing None = Unit {0}
PassesNothing (Some w) = compares w.inst ≡ false

abbrev pub IsFillable : Item → Type 0
IsFillable (Turns turn slot) = GoesElsewhere turn × PassesNothing slot
IsFillable item = Unit {0}

-- The run of the filled items does what the run of the items does, late by loads and stores at most; and as far as return
-- addresses stand in memory in the one, they do in the other.
pub record FillingKeeps (p : LineProgram) (w : Addresses) (scratch : ℕ → (ℕ → ℕ) → ℕ → ℕ) (input : List ℕ) : Type 0 where
  pub runs : RefinesLately Same (line_run p w scratch input) (line_run (filled_program p) w scratch input)
  pub links : (n : ℕ) → HaveLinks p w scratch input n →
      MetIn (HaveLinks (filled_program p) w scratch input) (line_run p w scratch input n) (line_run (filled_program p) w scratch input)

abbrev pub FillingKeepsRuns : Type 0
FillingKeepsRuns =
    (p : LineProgram) (w : Addresses) (scratch : ℕ → (ℕ → ℕ) → ℕ → ℕ) (input : List ℕ) →
    AllByRecursion (λ f. AllByRecursion IsFillable f.items) p.functions → FillingKeeps p w scratch input
