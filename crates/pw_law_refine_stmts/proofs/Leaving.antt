-- How parts are left: behind another stretch of the run, and with fewer blocks behind.
use Rattle.std.proofs.Common.{ℕ, List, Contains}
use Rattle.pw_flow.specs.declared.flow.End.TheVariants.{Jump}
use Rattle.pw_lower.specs.declared.code.Code.{Code}
use Rattle.pw_lower.specs.declared.place.Ways.{Ways}
use Rattle.pw_cmean.specs.Acts.{State}
use Rattle.pw_cmean.specs.Execution.{Flow, Normal, Breaks, Continues, Returns, Goes}
use Rattle.pw_run_languages.specs.FlowRun.{Machine}
use Rattle.pw_law_refine.specs.Standing.{Spot}
use Rattle.pw_law_refine.specs.Activations.{Activation, Numbers, graph_of}
use Rattle.pw_law_refine.specs.Matching.{Related, Later}
use Rattle.pw_law_refine.specs.Statements.{IsLeaving, Exits, HasLeft}
use Rattle.pw_law_refine_stmts.proofs.Laws.{Laws}
use Rattle.pw_law_refine_stmts.proofs.Jumps.{IsAtEnd, later-then}

pub leaving-end : (back : List ℕ) (b : ℕ) (m : Machine) → IsLeaving back b m → IsAtEnd (Jump b) m
leaving-end back b m l = record { ops = l.ops; end = l.end }

-- where fewer blocks lie behind
pub leaving-less : (back more : List ℕ) (b : ℕ) (m : Machine) → ((k : ℕ) → Contains back k → Contains more k) → IsLeaving more b m → IsLeaving back b m
leaving-less back more b m less l = record { ops = l.ops; end = l.end; counts = λ w. l.counts (less b w) }

-- the same way out, with other gotos
pub left-less :
    (x : Activation) (numbers : Numbers) (spots : List Spot) (back more : List ℕ) (ways : Ways) (G H : ℕ → Machine → Type 0) (d : Code) (s : State) (m : Machine) (flow : Flow) (t : State) (n : Machine)
    → ((k : ℕ) → Contains back k → Contains more k) → ((l : ℕ) (r : Machine) → G l r → H l r)
    → HasLeft x numbers spots more ways G d s m flow t n → HasLeft x numbers spots back ways H d s m flow t n
left-less x numbers spots back more ways G H d s m flow t n less gotos h = record {
  later = h.later;
  exit = by_flow flow h.exit;
}
  where
    by_flow : (f : Flow) → Exits (graph_of x) h.later.spots more ways G d f n → Exits (graph_of x) h.later.spots back ways H d f n
    by_flow Normal e = e
    by_flow Breaks e = leaving-less back more ways.out n less e
    by_flow Continues e = leaving-less back more ways.on n less e
    by_flow (Returns result) e = e
    by_flow (Goes l) e = gotos l n e

-- behind another stretch
pub left-then :
    Laws → (x : Activation) (numbers : Numbers) (spots : List Spot) (back : List ℕ) (ways : Ways) (G : ℕ → Machine → Type 0) (d : Code) (s u : State) (m n : Machine) (flow : Flow) (t : State) (r : Machine)
    → Related x numbers spots s m → (f : Later x numbers spots s m u n) → HasLeft x numbers f.spots back ways G d u n flow t r → HasLeft x numbers spots back ways G d s m flow t r
unfolding later-then
left-then laws x numbers spots back ways G d s u m n flow t r start f h = record {
  later = later-then laws x numbers spots s u t m n r start f h.later;
  exit = h.exit;
}
