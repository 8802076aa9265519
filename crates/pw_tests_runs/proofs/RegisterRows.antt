-- What a program does whose temporaries have registers. Bump has n in register 3 and a number in register 19; main has a
-- number over the call.
use Rattle.std.specs.Prelude.{ℕ, pos, ◌≡◌, Some, None, List, [], ◌∷◌, codes}
use Rattle.std.proofs.Common.{refl}
use Rattle.pw_value.specs.declared.value.Kind.TheVariants.{W32}
use Rattle.pw_db.specs.Database.{empty}
use Rattle.pw_flow.specs.declared.flow.BinKind.TheVariants.{Add}
use Rattle.pw_flow.specs.declared.flow.Op.TheVariants.{Const, Copy, Bin, LoadG, StoreG, Call}
use Rattle.pw_flow.specs.declared.flow.End.TheVariants.{Return}
use Rattle.pw_flow.specs.declared.flow.FlowFn.{FlowFn}
use Rattle.pw_webflow.specs.Direction.{directed}
use Rattle.pw_alloc.specs.Allocation.{entered_from}
use Rattle.pw_alloc.specs.declared.located.Place.{Place}
use Rattle.pw_alloc.specs.declared.located.Place.TheVariants.{Slot, Reg}
use Rattle.pw_alloc.specs.declared.located.Located.{Located}
use Rattle.pw_run_languages.specs.Commands as command
use Rattle.pw_run_languages.specs.Programs.{Program}
use Rattle.pw_run_languages.specs.PlacedRun.{PlacedProgram, placed_run, step, steps}
use Rattle.pw_run_languages.specs.Direction.{with_functions}
use Rattle.pw_tests_runs.proofs.Stories.{story}
use Rattle.pw_tests_runs.proofs.Programs.{block, function, global, program, start, bump}

-- ---- int main(void) { int k = 7; bump(); return k + n; }

abbrev main : FlowFn
main = function (codes "main") (codes "fi") 0 3
    (block (Const 0 7 ∷ Call None (codes "bump") [] ∷ LoadG 1 (codes "n") W32 ∷ Bin Add 2 0 1 ∷ []) (Return (Some 2)) ∷ [])

abbrev pub holding : FlowFn → Program
holding f = program (global (codes "n") ∷ []) (f ∷ main ∷ []) 4096

abbrev placed_as : FlowFn → List Place → List ℕ → Located
placed_as f places saved = record { body = directed f empty; places = places; saved = saved; frame = 64 }

-- the first temporary in one register, the second in another, the third in the frame
abbrev in_registers : ℕ → ℕ → List Place
in_registers r q = Reg r ∷ Reg q ∷ Slot (pos 48) ∷ []

abbrev pub located : FlowFn → List ℕ → ℕ → List Located
located f saved k =
    placed_as f (in_registers 3 19) saved ∷ placed_as main (in_registers k 20) (3 ∷ []) ∷ placed_as start (Slot (pos 48) ∷ []) [] ∷ []

abbrev places : FlowFn → List ℕ → ℕ → PlacedProgram
places f saved k = with_functions (holding f) (located f saved k)

kept_runs : story (placed_run (places bump (3 ∷ []) 3) [] 40) ≡ codes " ($start (main (bump <n >n )bump <n )main (exit = 8 "
unfolding placed_run steps step command.command directed entered_from
kept_runs = refl

-- what bump does not save, it leaves with its own value
unsaved_runs : story (placed_run (places bump [] 3) [] 40) ≡ codes " ($start (main (bump <n >n )bump <n )main (exit = 1 "
unfolding placed_run steps step command.command directed entered_from
unsaved_runs = refl

-- register 19 holds nothing behind a call
lost_runs : story (placed_run (places bump (3 ∷ []) 19) [] 40) ≡ codes "wrong"
unfolding placed_run steps step command.command directed entered_from
lost_runs = refl

-- nor does a register of bump's own temporaries hold anything at its start
abbrev early : FlowFn
early = function (codes "bump") (codes "fv") 0 3 (block (Copy 1 0 ∷ StoreG (codes "n") 1 W32 ∷ []) (Return None) ∷ [])

early_runs : story (placed_run (places early (3 ∷ []) 3) [] 40) ≡ codes "wrong"
unfolding placed_run steps step command.command directed entered_from
early_runs = refl
