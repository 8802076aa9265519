-- Statements with labels: their blocks follow one another, and gotos to them are taken up.
use Rattle.std.proofs.Common.{◌≡◌, ℕ, ◌+◌, ◌≤◌, ◌==◌, Bool, true, false, true≢false, if◌then◌else◌, List, [], ◌∷◌, ◌++◌, Contains, ◌⊎◌, inl, inr, refl, sym, subst, arith, eqb-true}
use Rattle.std.proofs.lemmas.Bool.{or_cases}
use Rattle.std.proofs.lemmas.List.Elements.{Contains-append_left, Contains-append_right, Contains-append_cases}
use Rattle.std.proofs.lemmas.Option.{slice_get_within}
use Rattle.pw_types.specs.Labels.{labels_in, cases_in}
use Rattle.pw_types.specs.TypedTrees.{Statement, Label}
use Rattle.pw_flow.specs.declared.flow.End.TheVariants.{Jump}
use Rattle.pw_flow.specs.declared.flow.FlowFn.{FlowFn}
use Rattle.pw_lower.specs.declared.code.Code.{Code}
use Rattle.pw_lower.specs.declared.place.Ways.{Ways}
use Rattle.pw_lower.specs.Codes.{block_of_label, cut_here}
use Rattle.pw_lower.specs.Statements.{begun, lower_statement}
use Rattle.pw_cmean.specs.Acts.{State}
use Rattle.pw_cmean.specs.Execution.{Entry, Front, At_label, holds, behind_labels, meaning}
use Rattle.pw_cmean.specs.SourceRun.{calls}
use Rattle.pw_run_languages.specs.FlowRun.{Machine, On, steps}
use Rattle.pw_law_refine.specs.Standing.{Spot}
use Rattle.pw_law_refine.specs.Activations.{Activation, IsActivation, Numbers, graphs, graph_of, env_of, lowering_of}
use Rattle.pw_law_refine.specs.Matching.{Related, Later}
use Rattle.pw_law_refine.specs.Containing.{ContainsCode, IsAt, IsBehind}
use Rattle.pw_law_refine.specs.Meeting.{Reaches, Meets}
use Rattle.pw_law_refine.specs.Statements.{IsSet, IsMet, IsLeaving, GoesOut, HasLeft, PartKeeps, StatementKeeps, code_behind}
use Rattle.pw_law_refine_code.specs.Behind.{named_blocks}
use Rattle.pw_law_refine_stmts.specs.Bounds.{UpTo}
use Rattle.pw_law_refine_stmts.proofs.Laws.{Laws}
use Rattle.pw_law_refine_stmts.proofs.Simulation.{meets-less, meets-later, comes-on}
use Rattle.pw_law_refine_stmts.proofs.Jumps.{before-cut, behind-end, HasJumped, jump-comes, later-jump, later-same, later-then}
use Rattle.pw_law_refine_stmts.proofs.Leaving.{leaving-end, leaving-less, left-less, left-then}
use Rattle.pw_law_refine_stmts.proofs.Names.{named-there, same-block, not-contained, named-free, room-for, leaves-to}
use Rattle.pw_law_refine_stmts.proofs.Taking.{by-bool, IsCaught, takes-up}

-- ---- from one label to the next

-- labels begin their blocks, and keep them
pub begun-labels : (labels : List ℕ) (c : Code) → (begun labels c).labels ≡ c.labels
begun-labels [] c = refl
begun-labels (l ∷ labels) c = begun-labels labels (cut_here (Jump (block_of_label c l)) (block_of_label c l) c)

pub before-begun : (g : FlowFn) (labels : List ℕ) (c : Code) → ContainsCode g (begun labels c) → ContainsCode g c
before-begun g [] c w = w
before-begun g (l ∷ labels) c w =
    before-cut g (Jump (block_of_label c l)) (block_of_label c l) c.depth c (before-begun g labels (cut_here (Jump (block_of_label c l)) (block_of_label c l) c) w)

-- the machine has come behind the labels, and nothing else has changed
record HasPassed (x : Activation) (numbers : Numbers) (spots : List Spot) (d : Code) (s : State) (m n : Machine) : Type 0 where
  later : Later x numbers spots s m s n
  behind : IsBehind (graph_of x) d n

-- from the front of the labels
passes : Laws → (x : Activation) (numbers : Numbers) (spots : List Spot) (labels : List ℕ) (c : Code) (s : State) (m : Machine)
    → Related x numbers spots s m → ContainsCode (graph_of x) (begun labels c) → IsBehind (graph_of x) c m → Reaches (graphs x.world) m (HasPassed x numbers spots (begun labels c) s m)
unfolding steps later-jump
passes laws x numbers spots [] c s m related code behind = record {
  count = 0;
  machine = m;
  comes = refl;
  holds = record { later = later-same x numbers spots s m related; behind = behind };
}
passes laws x numbers spots (l ∷ labels) c s m related code behind =
    let b = block_of_label c l in
    let d = cut_here (Jump b) b c in
    let there = before-begun (graph_of x) labels d code in
    let at = behind-end (graph_of x) (Jump b) b c.depth c m there behind in
    let j = jump-comes x numbers spots s m b related at (slice_get_within (graph_of x).blocks b there.filled.block there.filled.there) in
    let rest = passes laws x numbers spots labels d s j.0 j.2.related code j.2.front in
    record {
      count = 1 + rest.count;
      machine = rest.machine;
      comes = comes-on laws x.world 1 rest.count m j.0 (On rest.machine) j.1 rest.comes;
      holds = record { later = behind-jump rest.holds.later j.2; behind = rest.holds.behind };
    }
  where
    behind-jump : {b : ℕ} {n r : Machine} → Later x numbers spots s n s r → HasJumped x numbers spots b s m n → Later x numbers spots s m s r
    behind-jump {b = b} {n = n} {r = r} later j = later-then laws x numbers spots s s s m n r related (later-jump x numbers spots b s m n j) later

-- from the block of one of them
passes-from : Laws → (x : Activation) (numbers : Numbers) (spots : List Spot) (labels : List ℕ) (c : Code) (l : ℕ) (s : State) (m : Machine)
    → Related x numbers spots s m → ContainsCode (graph_of x) (begun labels c) → holds labels l ≡ true → IsAt (graph_of x) (block_of_label c l) [] m
    → Reaches (graphs x.world) m (HasPassed x numbers spots (begun labels c) s m)
passes-from laws x numbers spots [] c l s m related code held front = absurd (true≢false (sym held))
passes-from laws x numbers spots (k ∷ labels) c l s m related code held front =
    let b = block_of_label c k in
    let d = cut_here (Jump b) b c in
    by_case (or_cases (k == l) (holds labels l) held)
    (λ e. passes laws x numbers spots labels d s m related code (subst (λ (n : ℕ). IsAt (graph_of x) (block_of_label c n) [] m) (sym (eqb-true k l e)) front))
    (λ h. passes-from laws x numbers spots labels d l s m related code h front)
  where
    by_case : {P : Type 0} → ((k == l) ≡ true) ⊎ (holds labels l ≡ true) → ((k == l) ≡ true → P) → (holds labels l ≡ true → P) → P
    by_case (inl e) f g = f e
    by_case (inr h) f g = g h

-- ---- what stands behind labels

module _
    (laws : Laws) (bound t : ℕ) (labels : List ℕ) (body : Statement) (keeps : UpTo bound (λ k. StatementKeeps k body))
    (x : Activation) (numbers : Numbers) (breaks continues : Bool) (from : ℕ) (back : List ℕ) (ways : Ways) (c : Code)
    (active : IsActivation x) (set : IsSet x numbers breaks continues from back ways (Label t labels body) c) where
  inner : IsSet x numbers breaks continues from (back ++ named_blocks x labels c) ways body (begun labels c)
  inner = laws.labelled x numbers breaks continues from back ways t labels body c active set

  same : (l : ℕ) → block_of_label (begun labels c) l ≡ block_of_label c l
  same l = same-block c (begun labels c) l (begun-labels labels c)

  code : ContainsCode (graph_of x) (begun labels c)
  code = laws.contains (graph_of x) (lowering_of x) ways body (begun labels c) inner.placed.code

  -- the way out of what stands behind the labels
  abbrev Out : ℕ → Machine → Type 0
  Out = GoesOut x (back ++ named_blocks x labels c) (labels_in body) (begun labels c)

  -- what is met from where the machine has come
  behind-meets :
      (k : ℕ) → k ≤ bound → (spots : List Spot) (entry : Entry) (s : State) (m n : Machine) → Related x numbers spots s m → (later : Later x numbers spots s m s n)
      → IsMet (graph_of x) (labels_in body) (cases_in body) (begun labels c) entry n
      → Meets x.world k n (meaning body entry (calls x.world k) (env_of x numbers) s) (HasLeft x numbers spots back ways Out (code_behind x ways body (begun labels c)) s m)
  behind-meets k less spots entry s m n related later met =
      let more = back ++ named_blocks x labels c in
      let d = code_behind x ways body (begun labels c) in
      meets-less x.world k n (meaning body entry (calls x.world k) (env_of x numbers) s) (HasLeft x numbers later.spots more ways Out d s n) (HasLeft x numbers spots back ways Out d s m)
      (keeps k less x numbers breaks continues from more ways (begun labels c) active inner later.spots entry s n later.related met)
      (λ flow t r h.
      left-then laws x numbers spots back ways Out d s s m n flow t r related later
      (left-less x numbers later.spots back more ways Out Out d s n flow t r (λ b w. Contains-append_left back (named_blocks x labels c) b w) (λ l q g. g) h))

  passed-meets :
      (k : ℕ) → k ≤ bound → (spots : List Spot) (s : State) (m : Machine) → Related x numbers spots s m → Reaches (graphs x.world) m (HasPassed x numbers spots (begun labels c) s m)
      → Meets x.world k m (meaning body Front (calls x.world k) (env_of x numbers) s) (HasLeft x numbers spots back ways Out (code_behind x ways body (begun labels c)) s m)
  passed-meets k less spots s m related p =
      meets-later laws x.world k m p.machine p.count (meaning body Front (calls x.world k) (env_of x numbers) s) (HasLeft x numbers spots back ways Out (code_behind x ways body (begun labels c)) s m) p.comes
      (behind-meets k less spots Front s m p.machine related p.holds.later p.holds.behind)

  part-meets : (k : ℕ) → k ≤ bound
      → PartKeeps k x numbers back (labels ++ labels_in body) (cases_in body) ways Out (λ entry. meaning body (behind_labels labels entry) (calls x.world k) (env_of x numbers)) c (code_behind x ways body (begun labels c))
  unfolding later-same
  part-meets k less spots Front s m related met = passed-meets k less spots s m related (passes laws x numbers spots labels c s m related code met)
  part-meets k less spots (At_label l) s m related met =
      by-bool (λ v. Meets x.world k m (meaning body (if v then Front else At_label l) (calls x.world k) (env_of x numbers) s) (HasLeft x numbers spots back ways Out (code_behind x ways body (begun labels c)) s m)) (holds labels l)
      (λ held. passed-meets k less spots s m related (passes-from laws x numbers spots labels c l s m related code held met.1))
      (λ not.
      behind-meets k less spots (At_label l) s m m related (later-same x numbers spots s m related)
      ((among not (Contains-append_cases labels (labels_in body) l met.0.0), met.0.1), subst (λ (b : ℕ). IsAt (graph_of x) b [] m) (sym (same l)) met.1))
    where
      among : holds labels l ≡ false → Contains labels l ⊎ Contains (labels_in body) l → Contains (labels_in body) l
      among not (inl v) = absurd (not-contained labels l not v)
      among not (inr v) = v

  label-meets : PartKeeps bound x numbers back (labels ++ labels_in body) (cases_in body) ways (GoesOut x back (labels ++ labels_in body) c)
      (λ entry. meaning (Label t labels body) entry (calls x.world bound) (env_of x numbers)) c (code_behind x ways body (begun labels c))
  unfolding meaning
  label-meets =
      takes-up laws x numbers back (labels ++ labels_in body) (cases_in body) labels ways Out (GoesOut x back (labels ++ labels_in body) c)
      (λ at' cs'. meaning body (behind_labels labels at') cs' (env_of x numbers)) c (code_behind x ways body (begun labels c))
      (λ l o. room-for x (labels ++ labels_in body) (cases_in body) c c (graph_of x) l set.placed.labels (omega arith) (before-begun (graph_of x) labels c code) o)
      caught-so passed bound part-meets
    where
      leaving : (l : ℕ) (n : Machine) → Out l n → IsLeaving (back ++ named_blocks x labels c) (block_of_label c l) n
      leaving l n g = leaves-to (back ++ named_blocks x labels c) (block_of_label c l) (block_of_label (begun labels c) l) n (same l) g.leaving

      caught-so : (l : ℕ) (n : Machine) → Out l n → Contains labels l → IsCaught (labels ++ labels_in body) (cases_in body) c l n
      caught-so l n g w = record {
        is_open = (Contains-append_left labels (labels_in body) l w, named-free x (labels_in body) (cases_in body) (begun labels c) l inner.placed.labels g.named);
        at = leaving-end (back ++ named_blocks x labels c) (block_of_label c l) n (leaving l n g);
        counts = (leaving l n g).counts (Contains-append_right back (named_blocks x labels c) (block_of_label c l) (named-there x labels c l w g.named));
      }

      passed : (l : ℕ) (n : Machine) → Out l n → ¬ Contains labels l → GoesOut x back (labels ++ labels_in body) c l n
      passed l n g not = record {
        named = g.named;
        elsewhere = λ w. outside (Contains-append_cases labels (labels_in body) l w);
        leaving = leaving-less back (back ++ named_blocks x labels c) (block_of_label c l) n (λ b w. Contains-append_left back (named_blocks x labels c) b w) (leaving l n g);
      }
        where
          outside : Contains labels l ⊎ Contains (labels_in body) l → ⊥
          outside (inl v) = not v
          outside (inr v) = g.elsewhere v

pub label-keeps : Laws → (bound t : ℕ) (labels : List ℕ) (body : Statement) → UpTo bound (λ k. StatementKeeps k body) → StatementKeeps bound (Label t labels body)
unfolding lower_statement
label-keeps laws bound t labels body keeps = λ x numbers breaks continues from back ways c active set spots entry s m related met.
    label-meets laws bound t labels body keeps x numbers breaks continues from back ways c active set spots entry s m related met
