-- Both runs, step by step.
use Rattle.std.proofs.Common.{◌≡◌, ℕ, zero, suc, List, refl, sym, ap, subst, ◌∙◌}
use Rattle.pw_db.specs.declared.database.Directives.{Directives}
use Rattle.pw_alloc.specs.declared.located.Located.{Located}
use Rattle.pw_run.specs.Runs.{Stage, End, Ended, StackFull, Over, Met}
use Rattle.pw_run_languages.specs.Traces.{Event, Notes, KeepRegisters}
use Rattle.pw_run_languages.specs.Calls.{FollowsCalls}
use Rattle.pw_run_languages.specs.Meeting.{MetWith, MetIn}
use Rattle.pw_run_languages.specs.Programs.{Program}
use Rattle.pw_run_languages.specs.LawfulPrograms.{graph_of}
use Rattle.pw_run_languages.specs.Addresses.{Addresses}
use Rattle.pw_run_languages.specs.Standing.{EventInWords}
use Rattle.pw_run_languages.specs.LineRun as run
use Rattle.pw_run_languages.specs.LineRun.{LineProgram, line_run}
use Rattle.pw_run_languages.specs.Links.{HaveLinks}
use Rattle.pw_run_languages.specs.PlacedRun as placed
use Rattle.pw_run_languages.specs.PlacedRun.{PlacedProgram, placed_run}
use Rattle.pw_run_languages.specs.Direction.{with_functions}
use Rattle.pw_run_languages.specs.SelectionLaws.{line_program, SelectionKeeps}
use Rattle.pw_law_select_known.specs.Laws.{PointersAreKnown}
use Rattle.pw_law_selection.proofs.Coming.{joined}
use Rattle.pw_law_selection.specs.Following.{IsGiven, last_log, Comes, Follow, goes, ends, strays, StartsAreFollowed, StepsAreFollowed, SelectionRestsOnSteps}

module _ (p : Program) (d : List (List ℕ × Directives)) (functions : List Located) (w : Addresses) (scratch : ℕ → (ℕ → ℕ) → ℕ → ℕ) where
  abbrev lines : LineProgram
  lines = line_program p functions

  abbrev full : PlacedProgram
  full = with_functions p functions

  follows_on : (s : run.Step) (l : run.Machine) (t : placed.Step) → Comes p functions w scratch s (run.On l) → Follow p d functions w scratch (run.On l) t → Follow p d functions w scratch s t
  follows_on s l (placed.On m) one (goes _ o two alike) = goes m o (joined p functions w scratch s (run.On l) (run.On o) one two) alike
  follows_on s l (placed.Stopped end m) one (ends _ _ o two alike) = ends end m o (joined p functions w scratch s (run.On l) (run.Stopped end o) one two) alike
  follows_on s l placed.Astray one strays = strays

  -- ---- both runs

  module _ (input : List ℕ) (given : IsGiven p d functions w input) (known : PointersAreKnown) (starts : StartsAreFollowed) (each : StepsAreFollowed) where
    abbrev begin : run.Step
    begin = run.start lines w input

    abbrev at : ℕ → placed.Step
    at n = placed.steps full n (placed.start full input)

    -- a step more
    steps_last : (n : ℕ) (s : placed.Step) → placed.steps full (suc n) s ≡ placed.and_then (placed.steps full n s) (placed.step full)
    unfolding placed.steps
    steps_last zero s = refl
    steps_last (suc n) s = steps_last n (placed.and_then s (placed.step full))

    next_follows : (n : ℕ) (s : placed.Step) → at n ≡ s → Follow p d functions w scratch begin s → Follow p d functions w scratch begin (placed.and_then s (placed.step full))
    next_follows n (placed.On m) e (goes _ l comes alike) =
        follows_on begin l (placed.step full m) comes (each p d functions w scratch input n m l given e (comes.count, comes.steps) (known p d functions input given.program given.serve n m e) alike)
    next_follows n (placed.Stopped end m) e (ends _ _ l comes alike) = ends end m l comes alike
    next_follows n placed.Astray e strays = strays

    first_follows : Follow p d functions w scratch begin (at 0)
    unfolding placed.steps
    first_follows = starts p d functions w scratch input given

    all_follow : (n : ℕ) → Follow p d functions w scratch begin (at n)
    all_follow zero = first_follows
    all_follow (suc n) = subst (Follow p d functions w scratch begin) (sym (steps_last n (placed.start full input))) (next_follows n (at n) refl (all_follow n))

    -- ---- what is seen of them

    abbrev lines_at : ℕ → Stage (Event ℕ ℕ)
    lines_at k = run.staged (run.steps lines w scratch k begin)

    stopped_is : (end : End) (l : run.Machine) → run.staged (run.Stopped end l) ≡ Over end (run.shown l (last_log end l.trace))
    stopped_is (Ended status) l = refl
    stopped_is StackFull l = refl

    met : (s : placed.Step) → Follow p d functions w scratch begin s → Met (EventInWords p w.named) (placed.staged s) lines_at
    met (placed.On m) (goes _ l comes alike) = record {
      at = comes.count;
      view = run.shown l l.trace;
      is = ap run.staged comes.steps;
      same = record { output = sym alike.show.out; read = sym alike.show.read; log = alike.show.log };
      counted = alike.show.events;
    }
    met (placed.Stopped end m) (ends _ _ l comes alike) = record {
      at = comes.count;
      view = run.shown l (last_log end l.trace);
      is = ap run.staged comes.steps ∙ stopped_is end l;
      same = alike.same;
      counted = alike.counted;
    }
    met placed.Astray strays = tt

    met_with : (s : placed.Step) → Notes (FollowsCalls (graph_of p)) (placed.staged s) → Follow p d functions w scratch begin s → MetWith (KeepRegisters d) (placed.staged s) lines_at
    met_with (placed.On m) calls (goes _ l comes alike) = record {
      at = comes.count;
      view = run.shown l l.trace;
      is = ap run.staged comes.steps;
      counted = alike.show.events;
      holds = (alike.kept calls).noted;
    }
    met_with (placed.Stopped end m) calls (ends _ _ l comes alike) = record {
      at = comes.count;
      view = run.shown l (last_log end l.trace);
      is = ap run.staged comes.steps ∙ stopped_is end l;
      holds = alike.kept calls;
    }
    met_with placed.Astray calls strays = tt

    met_in : (s : placed.Step) → Follow p d functions w scratch begin s → MetIn (HaveLinks lines w scratch input) (placed.staged s) lines_at
    met_in (placed.On m) (goes _ l comes alike) = record {
      at = comes.count;
      view = run.shown l l.trace;
      is = ap run.staged comes.steps;
      counted = alike.show.events;
      holds = λ k o le e. comes.links k o le e;
    }
    met_in (placed.Stopped end m) (ends _ _ l comes alike) = record {
      at = comes.count;
      view = run.shown l (last_log end l.trace);
      is = ap run.staged comes.steps ∙ stopped_is end l;
      holds = λ k o le e. comes.links k o le e;
    }
    met_in placed.Astray strays = tt

    law : SelectionKeeps p d functions w scratch input
    unfolding placed_run line_run
    law = record {
      runs = λ n. met (at n) (all_follow n);
      registers = λ n calls. met_with (at n) calls (all_follow n);
      links = λ n. met_in (at n) (all_follow n);
    }

pub selection_rests_on_steps : PointersAreKnown → SelectionRestsOnSteps
selection_rests_on_steps known starts each p d functions w scratch input program directives guarded serve frames fits lawful bytes =
    law p d functions w scratch input
    (record { program = program; directives = directives; guarded = guarded; serve = serve; frames = frames; fits = fits; lawful = lawful; bytes = bytes })
    known starts each
