-- Both runs, step by step.
use Rattle.std.specs.Prelude.{ℕ, zero, suc, ◌≡◌, List}
use Rattle.std.proofs.Common.{arith, refl, sym, ap, subst, ◌∙◌}
use Rattle.pw_value.specs.declared.value.Byte.{Byte}
use Rattle.pw_value.specs.declared.value.Value.{Value}
use Rattle.pw_db.specs.Database.{IsDatabase}
use Rattle.pw_db.specs.declared.database.Directives.{Directives}
use Rattle.pw_alloc.specs.declared.located.Located.{Located}
use Rattle.pw_db_sound.specs.Sound.{Sound}
use Rattle.pw_run.specs.Runs.{Stage, Met, Same}
use Rattle.pw_run_languages.specs.Traces.{Event, EventAlike, Notes, KeepRegisters}
use Rattle.pw_run_languages.specs.Programs.{Program}
use Rattle.pw_run_languages.specs.LawfulPrograms.{IsProgram, graph_of}
use Rattle.pw_run_languages.specs.Direction.{with_functions, web_run}
use Rattle.pw_run_languages.specs.PlacedRun.{PlacedProgram, Machine, Step, On, and_then, step, steps, start, shown, staged, placed_run}
use Rattle.pw_run_languages.specs.PlacementLaws.{PlacesKeepRuns}
use Rattle.pw_law_direction.specs.Values.{AreFine}
use Rattle.pw_law_direction.specs.DirectedLaws.{ValuesAreFine}
use Rattle.pw_law_placed.specs.Twins.{bare_side, placed_side, bare_program}
use Rattle.pw_law_placed.specs.Alike.{Follows, goes, stops, strays}
use Rattle.pw_law_placed.specs.Laws.{IsServed, StartsFollow, StepsFollow}

-- what the one run shows and notes, so does the other
met : (p : Program) (d : List (List ℕ × Directives)) (s t : Step) (n : ℕ) (b : ℕ → Stage (Event Byte Value)) → b n ≡ staged t → Follows p d s t → Met (EventAlike Same Same) (staged s) b
met p d s t n b e (goes g) = subst (λ (u : Step). Met (EventAlike Same Same) (staged u) b) (sym g.bare) (record {
  at = n;
  view = shown (placed_side g.twin);
  is = e ∙ ap staged g.placed;
  same = record { output = refl; read = refl; log = g.alike.log };
  counted = omega arith;
})
met p d s t n b e (stops g) = subst (λ (u : Step). Met (EventAlike Same Same) (staged u) b) (sym g.bare) (record {
  at = n;
  view = shown (placed_side g.twin);
  is = e ∙ ap staged g.placed;
  same = record { output = refl; read = refl; log = g.log };
  counted = omega arith;
})
met p d s t n b e (strays bare placed) = subst (λ (u : Step). Met (EventAlike Same Same) (staged u) b) (sym bare) tt

-- and returns keep the registers
notes_kept : (p : Program) (d : List (List ℕ × Directives)) (s t : Step) → Follows p d s t → Notes (KeepRegisters d) (staged t)
notes_kept p d s t (goes g) = subst (λ (u : Step). Notes (KeepRegisters d) (staged u)) (sym g.placed) g.alike.kept
notes_kept p d s t (stops g) = subst (λ (u : Step). Notes (KeepRegisters d) (staged u)) (sym g.placed) g.kept
notes_kept p d s t (strays bare placed) = subst (λ (u : Step). Notes (KeepRegisters d) (staged u)) (sym placed) tt

module _ (each : StepsFollow) (p : Program) (d : List (List ℕ × Directives)) (ok : IsProgram p) (base : IsDatabase d) (sound : Sound (graph_of p) d) (ls : List Located) (served : IsServed p d ls) where
  abbrev bare : PlacedProgram
  bare = bare_program p d

  abbrev full : PlacedProgram
  full = with_functions p ls

  next_follows : (s t : Step) → ((m : Machine) → s ≡ On m → AreFine p m) → Follows p d s t → Follows p d (and_then s (step bare)) (and_then t (step full))
  next_follows s t fine (goes g) =
      subst (λ (u : Step). Follows p d (and_then u (step bare)) (and_then t (step full))) (sym g.bare)
      (subst (λ (u : Step). Follows p d (step bare (bare_side g.twin)) (and_then u (step full))) (sym g.placed)
      (each p d ls g.twin ok base sound served g.alike (fine (bare_side g.twin) g.bare)))
  next_follows s t fine (stops g) = stops (record {
    end = g.end;
    twin = g.twin;
    bare = ap (λ (u : Step). and_then u (step bare)) g.bare;
    placed = ap (λ (u : Step). and_then u (step full)) g.placed;
    log = g.log;
    kept = g.kept;
  })
  next_follows s t fine (strays e f) = strays (ap (λ (u : Step). and_then u (step bare)) e) (ap (λ (u : Step). and_then u (step full)) f)

  all_follow : (n : ℕ) (s t : Step) → ((k : ℕ) (m : Machine) → steps bare k s ≡ On m → AreFine p m) → Follows p d s t → Follows p d (steps bare n s) (steps full n t)
  unfolding steps
  all_follow zero s t fine f = f
  all_follow (suc n) s t fine f = all_follow n (and_then s (step bare)) (and_then t (step full)) (λ k m e. fine (suc k) m e) (next_follows s t (fine 0) f)

pub places_keep : ValuesAreFine → StartsFollow → StepsFollow → PlacesKeepRuns
unfolding web_run placed_run
places_keep fine starts each p d ls input ok base sound served = record {
  runs = λ n. met p d (directed_at n) (placed_at n) n (placed_run (with_functions p ls) input) refl (both n);
  registers = λ n. notes_kept p d (directed_at n) (placed_at n) (both n);
} where
  directed_at : ℕ → Step
  directed_at n = steps (bare_program p d) n (start (bare_program p d) input)

  placed_at : ℕ → Step
  placed_at n = steps (with_functions p ls) n (start (with_functions p ls) input)

  both : (n : ℕ) → Follows p d (directed_at n) (placed_at n)
  both n =
      all_follow each p d ok base sound ls served n (start (bare_program p d) input) (start (with_functions p ls) input) (fine p d input ok) (starts p d ls input ok base sound served)
