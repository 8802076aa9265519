-- All that a function does by itself; and runs, where every step follows.
use Rattle.std.proofs.Common.{◌≡◌, ℕ, zero, suc, Option, Some, None, List, [], ◌∷◌, refl, ap, sym, ◌∙◌, subst, arith}
use Rattle.pw_value.specs.declared.value.Kind.{Kind}
use Rattle.pw_value.specs.declared.value.Byte.{Byte}
use Rattle.pw_value.specs.declared.value.Value.{Value}
use Rattle.pw_db.specs.declared.database.Directives.{Directives}
use Rattle.pw_db.specs.Database.{IsDatabase}
use Rattle.pw_flow.specs.declared.flow.Op.{Op}
use Rattle.pw_flow.specs.declared.flow.Op.TheVariants as op
use Rattle.pw_webflow.specs.Direction.{register_of}
use Rattle.pw_db_sound.specs.Sound.{Sound}
use Rattle.pw_run.specs.Runs.{Stage, Met}
use Rattle.pw_run_languages.specs.Traces.{Event, calls_of, shown_by, calls_alone}
use Rattle.pw_run_languages.specs.Programs.{Program}
use Rattle.pw_run_languages.specs.FlowRun as flow
use Rattle.pw_run_languages.specs.LawfulPrograms.{IsProgram, graph_of}
use Rattle.pw_run_languages.specs.PlacedRun as web
use Rattle.pw_run_languages.specs.PlacedRun.{placed_run}
use Rattle.pw_run_languages.specs.Direction.{web_run, MomentAlike}
use Rattle.pw_law_direction.specs.DirectedLaws.{TakenFunctionsAreFine}
use Rattle.pw_law_direction.specs.Pairs.{Pair, flow_side, webs_of, under}
use Rattle.pw_law_direction.specs.Alike.{IsAlike, Follows}
use Rattle.pw_law_direction.specs.SideBySide.{StepsFollow, StaysInFunction, InsideFollows, RunsRestOnSteps}
use Rattle.pw_law_direction.proofs.Steps.{operations-follow, blocks-follow}
use Rattle.pw_law_direction.proofs.WebReads.{reads-follow}
use Rattle.pw_law_direction.proofs.WebWrites.{writes-follow}
use Rattle.pw_law_direction.proofs.ByName.{loads-follow}
use Rattle.pw_law_direction.proofs.StoresByName.{stores-follow}

-- ---- what a function does by itself

load-follows : (p : Program) (d : List (List ℕ × Directives)) (x : Pair) (t : ℕ) (g : List ℕ) (k : Kind) (ops : List Op) (o : Option ℕ) → IsProgram p → IsDatabase d → Sound (graph_of p) d → IsAlike p d x
    → x.frame.ops ≡ op.LoadG t g k ∷ ops → register_of (webs_of d x.frame.function) g ≡ o → StepsFollow p d x
load-follows p d x t g k ops (Some r) lawful is s a e f = reads-follow p d x t g k ops r lawful s a e f
load-follows p d x t g k ops None lawful is s a e f = loads-follow p d x t g k ops is s a e f

store-follows : (p : Program) (d : List (List ℕ × Directives)) (x : Pair) (t : ℕ) (g : List ℕ) (k : Kind) (ops : List Op) (o : Option ℕ) → IsProgram p → IsDatabase d → Sound (graph_of p) d → IsAlike p d x
    → x.frame.ops ≡ op.StoreG g t k ∷ ops → register_of (webs_of d x.frame.function) g ≡ o → StepsFollow p d x
store-follows p d x t g k ops (Some r) lawful is s a e f = writes-follow p d x t g k ops r lawful s a e f
store-follows p d x t g k ops None lawful is s a e f = stores-follow p d x t g k ops lawful is s a e f

inside-by : TakenFunctionsAreFine → (p : Program) (d : List (List ℕ × Directives)) (x : Pair) (ops : List Op) → IsProgram p → IsDatabase d → Sound (graph_of p) d → IsAlike p d x
    → x.frame.ops ≡ ops → StaysInFunction ops x.frame.end → StepsFollow p d x
inside-by fine p d x [] lawful is s a e h = blocks-follow p d x a e h
inside-by fine p d x (op.LoadG t g k ∷ ops) lawful is s a e h = load-follows p d x t g k ops (register_of (webs_of d x.frame.function) g) lawful is s a e refl
inside-by fine p d x (op.StoreG g t k ∷ ops) lawful is s a e h = store-follows p d x t g k ops (register_of (webs_of d x.frame.function) g) lawful is s a e refl
inside-by fine p d x (op.Call t f args ∷ ops) lawful is s a e h = absurd h
inside-by fine p d x (op.CallInd t b shape args ∷ ops) lawful is s a e h = absurd h
inside-by fine p d x (o ∷ ops) lawful is s a e h = operations-follow fine p d x o ops lawful a e tt

pub inside-follows : TakenFunctionsAreFine → InsideFollows
inside-follows fine p d x lawful is s a h = inside-by fine p d x x.frame.ops lawful is s a refl h

-- ---- along the run

next-follows : (p : Program) (d : List (List ℕ × Directives)) → ((x : Pair) → IsAlike p d x → StepsFollow p d x) → (s : flow.Step) (t : web.Step) → Follows p d s t
    → Follows p d (flow.goes_on p s) (web.and_then t (web.step (under p d)))
next-follows p d each (flow.On m) t r =
    subst (λ (m : flow.Machine). Follows p d (flow.step p m) (web.and_then t (web.step (under p d)))) (sym r.flow)
    (subst (λ (t : web.Step). Follows p d (flow.step p (flow_side r.pair)) (web.and_then t (web.step (under p d)))) (sym r.web) (each r.pair r.alike))
next-follows p d each (flow.Stopped end m) t r =
    record { pair = r.pair; flow = r.flow; web = ap (λ (t : web.Step). web.and_then t (web.step (under p d))) r.web; alike = r.alike }
next-follows p d each flow.Astray t r = tt

all-follow : (p : Program) (d : List (List ℕ × Directives)) → ((x : Pair) → IsAlike p d x → StepsFollow p d x) → (n : ℕ) (s : flow.Step) (t : web.Step) → Follows p d s t
    → Follows p d (flow.steps p n s) (web.steps (under p d) n t)
unfolding flow.steps web.steps
all-follow p d each zero s t r = r
all-follow p d each (suc n) s t r = all-follow p d each n (flow.goes_on p s) (web.and_then t (web.step (under p d))) (next-follows p d each s t r)

-- where the states are alike, the one run meets the stage of the other
met : (p : Program) (d : List (List ℕ × Directives)) (s : flow.Step) (t : web.Step) (n : ℕ) (b : ℕ → Stage (Event Byte Value)) → b n ≡ shown_by calls_alone (web.staged t) → Follows p d s t
    → Met (MomentAlike p) (flow.staged s) b
met p d (flow.On m) t n b e r =
    subst (λ (m : flow.Machine). Met (MomentAlike p) (flow.staged (flow.On m)) b) (sym r.flow) (record {
      at = n;
      view = record { output = r.pair.out; read = r.pair.read; events = r.pair.events; log = calls_alone r.pair.trace };
      is = e ∙ ap (λ (t : web.Step). shown_by calls_alone (web.staged t)) r.web;
      same = record { output = refl; read = refl; log = r.alike.log };
      counted = omega arith;
    })
met p d (flow.Stopped end m) t n b e r =
    subst (λ (m : flow.Machine). Met (MomentAlike p) (flow.staged (flow.Stopped end m)) b) (sym r.flow) (record {
      at = n;
      view = record { output = r.pair.out; read = r.pair.read; events = r.pair.events; log = calls_alone r.pair.trace };
      is = e ∙ ap (λ (t : web.Step). shown_by calls_alone (web.staged t)) r.web;
      same = record { output = refl; read = refl; log = r.alike.log };
      counted = omega arith;
    })
met p d flow.Astray t n b e r = tt

pub runs-rest-on-steps : RunsRestOnSteps
unfolding flow.flow_run web_run placed_run
runs-rest-on-steps p d input start each n =
    met p d (flow.steps p n (flow.start p input)) (web.steps (under p d) n (web.start (under p d) input)) n (calls_of (web_run p d input)) refl
    (all-follow p d each n (flow.start p input) (web.start (under p d) input) start)
