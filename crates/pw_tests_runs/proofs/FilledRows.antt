-- What the programs do where words stand in the slots of calls, jumps and returns: the same as their lines. Bump gives its
-- frame back in the slot of its return.
use Rattle.std.specs.Prelude.{ℕ, negsuc, ◌≡◌, Some, List, [], ◌∷◌, map, codes}
use Rattle.std.proofs.Common.{refl}
use Rattle.pw_inst.specs.declared.Inst.TheVariants.{Ldo}
use Rattle.pw_db.specs.declared.database.Directives.{Directives}
use Rattle.pw_webflow.specs.Direction.{directed}
use Rattle.pw_alloc.specs.Allocation.{entered_from}
use Rattle.pw_select.specs.Selection.{selected, entered_lines}
use Rattle.pw_delay.specs.declared.items.Turn.TheVariants.{Leave}
use Rattle.pw_delay.specs.declared.items.Item.{Item}
use Rattle.pw_delay.specs.declared.items.Item.TheVariants.{Turns, Mark}
use Rattle.pw_delay.specs.Items.{bare}
use Rattle.pw_run.specs.Runs.{Stage}
use Rattle.pw_run_languages.specs.Traces.{Event}
use Rattle.pw_run_languages.specs.Programs.{Program}
use Rattle.pw_run_languages.specs.Direction.{directed_functions, directed_by}
use Rattle.pw_run_languages.specs.LineRun.{line_run, step, steps}
use Rattle.pw_run_languages.specs.SelectionLaws.{with_items, placed_program}
use Rattle.pw_tests_runs.proofs.InWords.{in_words}
use Rattle.pw_tests_runs.proofs.Stories.{story}
use Rattle.pw_tests_runs.proofs.Programs.{bump, bumping, bump_directives, recursion, recursion_directives, pointing, pointing_directives}
use Rattle.pw_tests_runs.proofs.LineRows.{addresses}

abbrev last_item : Item → List Item → Item
last_item first [] = first
last_item first (item ∷ items) = last_item item items

gives_back_in_slot : last_item (Mark 0) (with_items (in_words (directed_by bump_directives bump))).items ≡ Turns Leave (Some (bare (Ldo (negsuc 63) 30 30)))
unfolding directed in_words entered_from selected entered_lines
gives_back_in_slot = refl

abbrev run : Program → List (List ℕ × Directives) → ℕ → ℕ → Stage (Event ℕ ℕ)
run p d stack n =
    line_run (placed_program p (map in_words (directed_functions p d))) (addresses stack) (λ k registers r. 99) [] n

bump_runs : story (run bumping bump_directives 4096 200) ≡ codes " ($start (main <n (bump )bump (bump )bump (putchar )putchar >n )main (exit = 2 2"
unfolding line_run steps step directed in_words entered_from selected entered_lines
bump_runs = refl

recursion_runs : story (run (recursion 4096) recursion_directives 4096 300) ≡ codes " ($start (main <n (f (f (f )f )f )f >n )main (exit = 3 "
unfolding line_run steps step directed in_words entered_from selected entered_lines
recursion_runs = refl

pointer_runs : story (run pointing pointing_directives 4096 300) ≡ codes " ($start (main <n (g )g >n )main (exit = 8 "
unfolding line_run steps step directed in_words entered_from selected entered_lines
pointer_runs = refl
