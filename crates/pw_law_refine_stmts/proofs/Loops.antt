-- Loops: from the top the body is run where the condition holds; behind it the way back to the top counts.
use Rattle.std.proofs.Common.{◌≡◌, ℕ, zero, suc, ◌<◌, ◌≤◌, ◌⊎◌, inl, inr, Bool, true, false, List, [], ◌∷◌, ◌++◌, length, refl, sym, subst, arith}
use Rattle.std.proofs.lemmas.List.Elements.{Contains-append_left}
use Rattle.pw_lower.specs.declared.code.Code.{Code}
use Rattle.pw_lower.specs.declared.place.Ways.{Ways}
use Rattle.pw_lower.specs.Codes.{block_of_label}
use Rattle.pw_cmean.specs.Acts as source
use Rattle.pw_cmean.specs.Acts.{State, Act, give, stop, branch, ◌>>=◌}
use Rattle.pw_cmean.specs.Evaluation.{Calls}
use Rattle.pw_cmean.specs.Execution.{Entry, Front, At_label, Flow, Normal, Breaks, Continues, Returns, Goes, after_body, turn, loop, meet_loop}
use Rattle.pw_cmean.specs.SourceRun.{calls}
use Rattle.pw_run_languages.specs.FlowRun.{Machine, steps}
use Rattle.pw_law_refine.specs.Standing.{Spot}
use Rattle.pw_law_refine.specs.Activations.{Activation, Numbers, graph_of}
use Rattle.pw_law_refine.specs.Matching.{Related, Later}
use Rattle.pw_law_refine.specs.Containing.{IsAt, IsBehind}
use Rattle.pw_law_refine.specs.Meeting.{Meets}
use Rattle.pw_law_refine.specs.Statements.{IsOpen, IsLeaving, IsMet, GoesOut, HasLeft, PartKeeps}
use Rattle.pw_law_refine_stmts.specs.Bounds.{UpTo}
use Rattle.pw_law_refine_stmts.proofs.Laws.{Laws}
use Rattle.pw_law_refine_stmts.proofs.Simulation.{meets-then, meets-then-less, meets-less, meets-here}
use Rattle.pw_law_refine_stmts.proofs.Jumps.{meets-jump, later-jump, later-then}
use Rattle.pw_law_refine_stmts.proofs.Leaving.{leaving-end, left-then}
use Rattle.pw_law_refine_stmts.proofs.Names.{goes-out-same, same-block}

-- ---- what a loop is made of

-- behind what is tested before the body: the machine is before the body, or at the block behind the loop
abbrev pub Enters : Activation → (entered : Code) → (out : ℕ) → Bool → Machine → Type 0
Enters x entered out true n = IsBehind (graph_of x) entered n
Enters x entered out false n = IsAt (graph_of x) out [] n

pub record IsAhead (x : Activation) (numbers : Numbers) (spots : List Spot) (entered : Code) (out : ℕ) (s : State) (m : Machine) (more : Bool) (t : State) (n : Machine) : Type 0 where
  pub later : Later x numbers spots s m t n
  pub at : Enters x entered out more n

-- behind what comes behind the body: at the top, and an event was counted; or at the block behind the loop
abbrev pub Returns_or : Activation → (top out : ℕ) → Machine → Bool → Machine → Type 0
Returns_or x top out m true n = IsAt (graph_of x) top [] n × (m.events < n.events)
Returns_or x top out m false n = IsAt (graph_of x) out [] n

pub record IsTurned (x : Activation) (numbers : Numbers) (spots : List Spot) (top out : ℕ) (s : State) (m : Machine) (more : Bool) (t : State) (n : Machine) : Type 0 where
  pub later : Later x numbers spots s m t n
  pub at : Returns_or x top out m more n

-- The loop's top, the code before and behind its body and behind it, and what each part promises at each bound up to one.
pub record IsLoop (bound : ℕ) (x : Activation) (numbers : Numbers) (back own cased : List ℕ) (inner : Ways) (top : ℕ) (c entered turned d : Code)
    (ahead : Calls → Act Bool) (body : Entry → Calls → Act Flow) (behind : Calls → Act Bool) : Type 0 where
  pub tests : UpTo bound (λ k. (spots : List Spot) (s : State) (m : Machine) → Related x numbers spots s m → IsAt (graph_of x) top [] m
      → Meets x.world k m (ahead (calls x.world k) s) (IsAhead x numbers spots entered inner.out s m))
  pub runs : UpTo bound (λ k. PartKeeps k x numbers (back ++ top ∷ []) own cased inner (GoesOut x (back ++ top ∷ []) own entered) (λ entry. body entry (calls x.world k)) entered turned)
  pub ends : (m : Machine) → IsBehind (graph_of x) turned m → IsLeaving (back ++ top ∷ []) inner.on m
  pub turns : UpTo bound (λ k. (spots : List Spot) (s : State) (m : Machine) → Related x numbers spots s m → IsLeaving (back ++ top ∷ []) inner.on m
      → Meets x.world k m (behind (calls x.world k) s) (IsTurned x numbers spots top inner.out s m))
  pub out : (m : Machine) → IsAt (graph_of x) inner.out [] m → IsBehind (graph_of x) d m
  pub there : inner.out < length (graph_of x).blocks
  pub same : entered.labels ≡ c.labels

-- ---- the loop

module _
    (laws : Laws) (bound : ℕ) (x : Activation) (numbers : Numbers) (back own cased : List ℕ) (ways inner : Ways) (top : ℕ) (c entered turned d : Code)
    (ahead : Calls → Act Bool) (body : Entry → Calls → Act Flow) (behind : Calls → Act Bool)
    (parts : IsLoop bound x numbers back own cased inner top c entered turned d ahead body behind) where
  abbrev R : List Spot → State → Machine → Flow → State → Machine → Type 0
  R spots s m = HasLeft x numbers spots back ways (GoesOut x back own c) d s m

  -- where the machine has come to the block behind the loop
  out-meets : (k : ℕ) (spots : List Spot) (s t : State) (m n : Machine) → Later x numbers spots s m t n → IsAt (graph_of x) inner.out [] n → Meets x.world k n (give Normal t) (R spots s m)
  unfolding give
  out-meets k spots s t m n later at = meets-here x.world k n Normal t (R spots s m) (record { later = later; exit = parts.out n at })

  after :
      (k : ℕ) (spots : List Spot) (s u : State) (m n : Machine) (act : Act Flow) → Related x numbers spots s m → (f : Later x numbers spots s m u n)
      → Meets x.world k n (act u) (R f.spots u n) → Meets x.world k n (act u) (R spots s m)
  after k spots s u m n act start f meets =
      meets-less x.world k n (act u) (R f.spots u n) (R spots s m) meets
      (λ flow t r h. left-then laws x numbers spots back ways (GoesOut x back own c) d s u m n flow t r start f h)

  -- what comes of the way back at a bound: of none nothing more
  abbrev again : ℕ → Act Flow
  again zero = stop source.Bound
  again (suc k) = loop ahead body behind (calls x.world k)

  abbrev LoopsAgain : ℕ → Type 0
  LoopsAgain zero = Unit {0}
  LoopsAgain (suc k) = (spots : List Spot) (s : State) (m : Machine) → Related x numbers spots s m → IsAt (graph_of x) top [] m → Meets x.world k m (loop ahead body behind (calls x.world k) s) (R spots s m)

  -- from before the jump to what comes behind the body
  back-meets :
      (k : ℕ) → k ≤ bound → LoopsAgain k → (spots : List Spot) (s : State) (m : Machine) → Related x numbers spots s m → IsLeaving (back ++ top ∷ []) inner.on m
      → Meets x.world k m ((behind (calls x.world k) >>= λ more. branch more (again k) (give Normal)) s) (R spots s m)
  unfolding ◌>>=◌ calls branch stop steps
  back-meets zero less loops spots s m related leaving =
      meets-then laws x.world zero m (behind (calls x.world zero) s) (λ more. branch more (stop source.Bound) (give Normal)) (IsTurned x numbers spots top inner.out s m) (R spots s m)
      (parts.turns zero less spots s m related leaving)
      (λ more t n h. by_more more t n h.later h.at)
    where
      by_more : (more : Bool) (t : State) (n : Machine) → Later x numbers spots s m t n → Returns_or x top inner.out m more n → Meets x.world zero n (branch more (stop source.Bound) (give Normal) t) (R spots s m)
      by_more true t n later at = record { count = 0; machine = n; comes = refl; counted = omega arith; shows = later.related.matches.shows }
      by_more false t n later at = out-meets zero spots s t m n later at
  back-meets (suc k) less loops spots s m related leaving =
      meets-then-less laws x.world k m (behind (calls x.world (suc k)) s) (λ more. branch more (loop ahead body behind (calls x.world k)) (give Normal)) (IsTurned x numbers spots top inner.out s m) (R spots s m)
      (parts.turns (suc k) less spots s m related leaving)
      (λ more t n h. by_more more t n h.later h.at)
    where
      by_more :
          (more : Bool) (t : State) (n : Machine) → Later x numbers spots s m t n → Returns_or x top inner.out m more n
          → ((m.events < n.events) × Meets x.world k n (branch more (loop ahead body behind (calls x.world k)) (give Normal) t) (R spots s m))
          ⊎ Meets x.world (suc k) n (branch more (loop ahead body behind (calls x.world k)) (give Normal) t) (R spots s m)
      by_more true t n later at = inl (at.1, after k spots s t m n (loop ahead body behind (calls x.world k)) related later (loops later.spots t n later.related at.0))
      by_more false t n later at = inr (out-meets (suc k) spots s t m n later at)

  -- one turn, met at its beginning or in the body
  turn-meets :
      (k : ℕ) → k ≤ bound → LoopsAgain k → (entry : Entry) (spots : List Spot) (s : State) (m : Machine) → Related x numbers spots s m → IsMet (graph_of x) own cased entered entry m
      → Meets x.world k m (turn body behind entry (calls x.world k) (again k) s) (R spots s m)
  unfolding turn ◌>>=◌ after_body give later-jump later-then
  turn-meets k less loops entry spots s m related met =
      meets-then laws x.world k m (body entry (calls x.world k) s) (after_body (behind (calls x.world k) >>= λ more. branch more (again k) (give Normal)))
      (HasLeft x numbers spots (back ++ top ∷ []) inner (GoesOut x (back ++ top ∷ []) own entered) turned s m) (R spots s m)
      (parts.runs k less spots entry s m related met)
      (λ flow u n h. by_flow flow u n h)
    where
      by_flow :
          (flow : Flow) (u : State) (n : Machine) → HasLeft x numbers spots (back ++ top ∷ []) inner (GoesOut x (back ++ top ∷ []) own entered) turned s m flow u n
          → Meets x.world k n (after_body (behind (calls x.world k) >>= λ more. branch more (again k) (give Normal)) flow u) (R spots s m)
      by_flow Normal u n h =
          after k spots s u m n (behind (calls x.world k) >>= λ more. branch more (again k) (give Normal)) related h.later (back-meets k less loops h.later.spots u n h.later.related (parts.ends n h.exit))
      by_flow Continues u n h =
          after k spots s u m n (behind (calls x.world k) >>= λ more. branch more (again k) (give Normal)) related h.later (back-meets k less loops h.later.spots u n h.later.related h.exit)
      by_flow Breaks u n h =
          meets-jump laws k x numbers h.later.spots u n inner.out (give Normal u) (R spots s m) h.later.related (leaving-end (back ++ top ∷ []) inner.out n h.exit) parts.there
          (λ r j. out-meets k spots s u m r (later-then laws x numbers spots s u u m n r related h.later (later-jump x numbers h.later.spots inner.out u n r j)) j.front)
      by_flow (Returns v) u n h = meets-here x.world k n (Returns v) u (R spots s m) (record { later = h.later; exit = h.exit })
      by_flow (Goes l) u n h =
          meets-here x.world k n (Goes l) u (R spots s m)
          (record {
            later = h.later;
            exit = goes-out-same x back (back ++ top ∷ []) own c entered (λ b w. Contains-append_left back (top ∷ []) b w) (λ j w. same-block c entered j parts.same) l n h.exit;
          })

  -- behind the test
  entered-meets :
      (k : ℕ) → k ≤ bound → LoopsAgain k → (spots : List Spot) (s : State) (m : Machine) → Related x numbers spots s m → (more : Bool) (t : State) (n : Machine) → Later x numbers spots s m t n → Enters x entered inner.out more n
      → Meets x.world k n (branch more (turn body behind Front (calls x.world k) (again k)) (give Normal) t) (R spots s m)
  unfolding branch
  entered-meets k less loops spots s m related true t n later at =
      after k spots s t m n (turn body behind Front (calls x.world k) (again k)) related later (turn-meets k less loops Front later.spots t n later.related at)
  entered-meets k less loops spots s m related false t n later at = out-meets k spots s t m n later at

  -- from the top
  pub loop-meets :
      (k : ℕ) → k ≤ bound → (spots : List Spot) (s : State) (m : Machine) → Related x numbers spots s m → IsAt (graph_of x) top [] m
      → Meets x.world k m (loop ahead body behind (calls x.world k) s) (R spots s m)
  unfolding loop calls ◌>>=◌
  loop-meets zero less spots s m related at =
      meets-then laws x.world zero m (ahead (calls x.world zero) s) (λ more. branch more (turn body behind Front (calls x.world zero) (stop source.Bound)) (give Normal)) (IsAhead x numbers spots entered inner.out s m) (R spots s m)
      (parts.tests zero less spots s m related at)
      (λ more t n h. entered-meets zero less tt spots s m related more t n h.later h.at)
  loop-meets (suc k) less spots s m related at =
      meets-then laws x.world (suc k) m (ahead (calls x.world (suc k)) s) (λ more. branch more (turn body behind Front (calls x.world (suc k)) (loop ahead body behind (calls x.world k))) (give Normal)) (IsAhead x numbers spots entered inner.out s m) (R spots s m)
      (parts.tests (suc k) less spots s m related at)
      (λ more t n h.
      entered-meets (suc k) less (λ spots2 s2 m2 related2 at2. loop-meets k (omega (arith, less)) spots2 s2 m2 related2 at2) spots s m related more t n h.later h.at)

  loops-again : (k : ℕ) → k ≤ bound → LoopsAgain k
  loops-again zero less = tt
  loops-again (suc k) less = λ spots s m related at. loop-meets k (omega (arith, less)) spots s m related at

  -- at a label in the body
  pub inside-meets :
      (l : ℕ) (spots : List Spot) (s : State) (m : Machine) → Related x numbers spots s m → IsOpen own cased l → IsAt (graph_of x) (block_of_label c l) [] m
      → Meets x.world bound m (meet_loop ahead body behind (At_label l) (calls x.world bound) s) (HasLeft x numbers spots back ways (GoesOut x back own c) d s m)
  unfolding meet_loop calls
  inside-meets l spots s m related o at = at-bound bound (omega arith)
    where
      at-bound : (k : ℕ) → k ≤ bound → Meets x.world k m (meet_loop ahead body behind (At_label l) (calls x.world k) s) (R spots s m)
      at-bound zero less = turn-meets zero less (loops-again zero less) (At_label l) spots s m related (o, subst (λ (b : ℕ). IsAt (graph_of x) b [] m) (sym (same-block c entered l parts.same)) at)
      at-bound (suc k) less = turn-meets (suc k) less (loops-again (suc k) less) (At_label l) spots s m related (o, subst (λ (b : ℕ). IsAt (graph_of x) b [] m) (sym (same-block c entered l parts.same)) at)

  -- at its beginning
  pub top-meets :
      (spots : List Spot) (s : State) (m : Machine) → Related x numbers spots s m → IsAt (graph_of x) top [] m
      → Meets x.world bound m (loop ahead body behind (calls x.world bound) s) (HasLeft x numbers spots back ways (GoesOut x back own c) d s m)
  top-meets spots s m related at = loop-meets bound (omega arith) spots s m related at
