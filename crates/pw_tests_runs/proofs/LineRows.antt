-- What the programs do as lines: the same as with places.
use Rattle.std.specs.Prelude.{ℕ, ◌≡◌, ◌+◌, ◌*◌, List, [], ◌∷◌, map, codes, if◌then◌else◌}
use Rattle.std.specs.Str.{bytes_eq}
use Rattle.std.proofs.Common.{refl}
use Rattle.pw_db.specs.declared.database.Directives.{Directives}
use Rattle.pw_webflow.specs.Direction.{directed}
use Rattle.pw_alloc.specs.Allocation.{entered_from}
use Rattle.pw_tests_runs.proofs.InWords.{in_words}
use Rattle.pw_select.specs.Selection.{selected, entered_lines}
use Rattle.pw_run.specs.Runs.{Stage}
use Rattle.pw_run_languages.specs.Traces.{Event, InMemory, InPlace}
use Rattle.pw_run_languages.specs.Programs.{Program}
use Rattle.pw_run_languages.specs.Direction.{directed_functions}
use Rattle.pw_run_languages.specs.Addresses.{Addresses}
use Rattle.pw_run_languages.specs.LineRun.{line_run, step, steps}
use Rattle.pw_run_languages.specs.SelectionLaws.{line_program}
use Rattle.pw_tests_runs.proofs.Stories.{story, globals_at}
use Rattle.pw_tests_runs.proofs.Programs.{bumping, bump_directives, recursion, recursion_directives, starting, start_directives, nesting, nest_directives, pointing, pointing_directives}

abbrev pub place : List ℕ → ℕ
place name =
    if bytes_eq name (codes "$start") then 1 else if bytes_eq name (codes "main") then 2 else
    if bytes_eq name (codes "putchar") then 3 else if bytes_eq name (codes "exit") then 4 else
    if bytes_eq name (codes "n") then 16 else if bytes_eq name (codes "m") then 17 else
    if bytes_eq name (codes "h") then 5 else if bytes_eq name (codes "k") then 6 else
    if bytes_eq name (codes "g") then 7 else 8

-- functions from 4352 on, each in 256 bytes; n at 8192, m at 8448; a stack of so many bytes from 16384 on
abbrev pub addresses : ℕ → Addresses
addresses stack = record {
  named = λ name. 4096 + 256 * place name;
  routine = λ k. 7424;
  behind = λ name turns. 4096 + 256 * place name + 8 + 4 * turns;
  data_start = 8192;
  base = 16384;
  limit = 16384 + stack;
}

abbrev run : Program → List (List ℕ × Directives) → ℕ → ℕ → Stage (Event ℕ ℕ)
run p d stack n =
    line_run (line_program p (map in_words (directed_functions p d))) (addresses stack) (λ k registers r. 99) [] n

bump_runs : story (run bumping bump_directives 4096 200) ≡ codes " ($start (main <n (bump )bump (bump )bump (putchar )putchar >n )main (exit = 2 2"
unfolding line_run steps step directed in_words entered_from selected entered_lines
bump_runs = refl

recursion_runs : story (run (recursion 4096) recursion_directives 4096 300) ≡ codes " ($start (main <n (f (f (f )f )f )f >n )main (exit = 3 "
unfolding line_run steps step directed in_words entered_from selected entered_lines
recursion_runs = refl

full_runs : story (run (recursion 4096) recursion_directives 300 300) ≡ codes " ($start (main <n (f (f !f full "
unfolding line_run steps step directed in_words entered_from selected entered_lines
full_runs = refl

start_runs : story (run starting start_directives 4096 300) ≡ codes " ($start <n (main (main )main )main (exit = 2 "
unfolding line_run steps step directed in_words entered_from selected entered_lines
start_runs = refl

nest_runs : story (run nesting nest_directives 4096 300) ≡ codes " ($start (main <n (k (h <m (putchar )putchar >m )h )k >n )main (exit = 5 A"
unfolding line_run steps step directed in_words entered_from selected entered_lines
nest_runs = refl

pointer_runs : story (run pointing pointing_directives 4096 300) ≡ codes " ($start (main <n (g )g >n )main (exit = 8 "
unfolding line_run steps step directed in_words entered_from selected entered_lines
pointer_runs = refl

nest_inside : globals_at (codes "putchar") (run nesting nest_directives 4096 300) ≡ InPlace 5 ∷ InPlace 7 ∷ []
unfolding line_run steps step directed in_words entered_from selected entered_lines
nest_inside = refl

nest_before : globals_at (codes "k") (run nesting nest_directives 4096 300) ≡ InPlace 5 ∷ InMemory (0 ∷ 0 ∷ 0 ∷ 0 ∷ []) ∷ []
unfolding line_run steps step directed in_words entered_from selected entered_lines
nest_before = refl
