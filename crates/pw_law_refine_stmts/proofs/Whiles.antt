-- `while` and `do`.
use Rattle.std.proofs.Common.{◌≡◌, ◌≢◌, ℕ, ◌+◌, ◌<◌, ◌≤◌, ◌⊎◌, inl, inr, Bool, true, false, if◌then◌else◌, List, [], ◌∷◌, ◌++◌, Contains, length, refl, sym, ◌∙◌, subst, arith}
use Rattle.std.proofs.lemmas.List.Elements.{Contains-append_left, Contains-append_right, Contains-append_cases}
use Rattle.std.proofs.lemmas.Option.{slice_get_within}
use Rattle.pw_types.specs.Labels.{labels_in, cases_in}
use Rattle.pw_types.specs.TypedModules.{IsStatement}
use Rattle.pw_types.specs.TypedTrees.{Expression, Statement, While, Do}
use Rattle.pw_flow.specs.declared.flow.End.TheVariants.{Jump, Branch}
use Rattle.pw_lower.specs.declared.code.Code.{Code}
use Rattle.pw_lower.specs.declared.place.Ways.{Ways}
use Rattle.pw_lower.specs.Codes.{temp_of, reserve, cut}
use Rattle.pw_lower.specs.Places.{addressed_in, addressed_in_statement}
use Rattle.pw_lower.specs.Expressions.{lower}
use Rattle.pw_lower.specs.Statements.{test, lower_statement}
use Rattle.pw_cmean.specs.Acts.{State, give}
use Rattle.pw_cmean.specs.Execution.{Front, At_label, always, condition, meet_loop, meaning}
use Rattle.pw_cmean.specs.SourceRun.{calls}
use Rattle.pw_run_languages.specs.FlowRun.{Machine}
use Rattle.pw_law_refine.specs.Standing.{Spot}
use Rattle.pw_law_refine.specs.Activations.{Activation, IsActivation, Numbers, graphs, graph_of, home_of, env_of, lowering_of, local_temps}
use Rattle.pw_law_refine.specs.Matching.{Related, Later}
use Rattle.pw_law_refine.specs.Containing.{ContainsCode, IsAt}
use Rattle.pw_law_refine.specs.Meeting.{Meets}
use Rattle.pw_law_refine.specs.Expressions.{HasChosen, ConditionsKeep}
use Rattle.pw_law_refine.specs.Statements.{IsOpen, AreLabelled, LieBehind, IsSet, IsLeaving, GoesOut, HasLeft, PartKeeps, StatementKeeps, code_behind}
use Rattle.pw_law_refine.specs.StatementParts.{from_top, LoopKeeps}
use Rattle.pw_law_refine_code.specs.Ending.{Ends}
use Rattle.pw_law_refine_code.specs.Setting.{code_of_while, code_of_do}
use Rattle.pw_law_refine_stmts.specs.Bounds.{UpTo}
use Rattle.pw_law_refine_stmts.proofs.Laws.{Laws}
use Rattle.pw_law_refine_stmts.proofs.Simulation.{ComesTo, meets-less, meets-path, meets-here}
use Rattle.pw_law_refine_stmts.proofs.Forward.{back-counts}
use Rattle.pw_law_refine_stmts.proofs.Jumps.{HasJumped, before-cut, behind-end, meets-jump, later-jump, later-same, later-then}
use Rattle.pw_law_refine_stmts.proofs.Leaving.{leaving-end, left-then}
use Rattle.pw_law_refine_stmts.proofs.Names.{one-is, fits-in, same-block}
use Rattle.pw_law_refine_stmts.proofs.Loops.{Enters, IsAhead, IsTurned, IsLoop, inside-meets, top-meets}

-- ---- ways back

-- The block that is filled behind a body is not the one before the loop's top.
pub not-before-top :
    (x : Activation) (own cased : List ℕ) (c entered turned : Code) → AreLabelled x own cased c → entered.labels ≡ c.labels → c.blocks < entered.blocks → c.blocks ≤ entered.cur
    → Ends entered turned own cased → turned.cur + 1 ≢ c.blocks
not-before-top x own cased c entered turned a same more in-it (inl s) e = omega (arith, s.same, in-it, e)
not-before-top x own cased c entered turned a same more in-it (inr (inl new)) e = omega (arith, new, more, e)
not-before-top x own cased c entered turned a same more in-it (inr (inr z)) e =
    let is_open : IsOpen own cased z.label = (subst (λ (ls : List ℕ). Contains ls z.label) (sym z.last) (Contains-append_right z.before (z.label ∷ []) z.label (0, omega arith, refl)), z.free) in
    omega (arith, z.here, same-block c entered z.label same, a.given z.label is_open, e)

-- the block to which `continue` goes, where it is behind the top, does not lie behind
pub not-behind : (back own cased : List ℕ) (c : Code) (b : ℕ) → LieBehind back own cased c → c.blocks < b → ¬ Contains (back ++ c.blocks ∷ []) b
not-behind back own cased c b lie more w = by_case (Contains-append_cases back (c.blocks ∷ []) b w)
  where
    by_case : Contains back b ⊎ Contains (c.blocks ∷ []) b → ⊥
    by_case (inl v) = omega (arith, lie.given b v, more)
    by_case (inr v) = omega (arith, one-is c.blocks b v, more)

-- the way back to the top counts, where the machine was at a later block of the same function
pub turned-back :
    (x : Activation) (numbers : Numbers) (spots later : List Spot) (top on : ℕ) (s t : State) (m r n : Machine) → top < on
    → HasJumped x numbers spots on s m r → Related x numbers later t n → ComesTo x.world r n → IsAt (graph_of x) top [] n → m.events < n.events
turned-back x numbers spots later top on s t m r n less j related path at =
    let counted = back-counts (graphs x.world) path.count r n path.comes (related.frame.callers ∙ sym j.related.frame.callers) (omega (arith, at.here, j.front.here, less)) in
    omega (arith, counted, j.rises)

-- ---- `while`

module _
    (laws : Laws) (bound t : ℕ) (e : Expression) (body : Statement) (conditions : UpTo bound ConditionsKeep) (keeps : UpTo bound (λ k. StatementKeeps k body))
    (x : Activation) (numbers : Numbers) (breaks continues : Bool) (from : ℕ) (back : List ℕ) (ways : Ways) (c : Code)
    (active : IsActivation x) (set : IsSet x numbers breaks continues from back ways (While t e body) c) where
  abbrev while-top : Code
  while-top = cut (Jump c.blocks) c.blocks (c.depth + 1) (reserve 3 c)

  abbrev while-ways : Ways
  while-ways = record { out = c.blocks + 2; on = c.blocks }

  abbrev while-turned : Code
  while-turned = code_behind x while-ways body (code_of_while x e c)

  while-set : IsSet x numbers true true from (back ++ c.blocks ∷ []) while-ways body (code_of_while x e c)
  while-set = (laws.loops x numbers breaks continues from back ways t body c active).0 e set

  while-code : ContainsCode (graph_of x) (cut (Jump c.blocks) (c.blocks + 2) c.depth while-turned)
  unfolding lower_statement
  while-code = set.placed.code

  while-entered : ContainsCode (graph_of x) (code_of_while x e c)
  while-entered = laws.contains (graph_of x) (lowering_of x) while-ways body (code_of_while x e c) (before-cut (graph_of x) (Jump c.blocks) (c.blocks + 2) c.depth while-turned while-code)

  while-top-code : ContainsCode (graph_of x) while-top
  while-top-code =
      let v = lower (home_of x) e while-top in
      laws.contain (graph_of x) (home_of x) e while-top (before-cut (graph_of x) (Branch (temp_of v) (c.blocks + 1) (c.blocks + 2)) (c.blocks + 1) (c.depth + 1) v.code while-entered)

  while-same : (code_of_while x e c).labels ≡ c.labels
  while-same = laws.alike (home_of x) e while-top

  top-there : c.blocks < length (graph_of x).blocks
  top-there = slice_get_within (graph_of x).blocks c.blocks while-top-code.filled.block while-top-code.filled.there

  while-ends : Ends (code_of_while x e c) while-turned (labels_in body) (cases_in body)
  while-ends =
      laws.ends x.home.tree x.function true true from (lowering_of x) while-ways body (code_of_while x e c) while-set.typed
      (fits-in x (labels_in body) (cases_in body) (code_of_while x e c) while-set.placed.labels)

  while-tests : (k : ℕ) → k ≤ bound → (spots : List Spot) (s : State) (m : Machine) → Related x numbers spots s m → IsAt (graph_of x) c.blocks [] m
      → Meets x.world k m (condition e (calls x.world k) (env_of x numbers) s) (IsAhead x numbers spots (code_of_while x e c) (c.blocks + 2) s m)
  unfolding IsStatement
  while-tests k less spots s m related at =
      meets-less x.world k m (condition e (calls x.world k) (env_of x numbers) s) (HasChosen x numbers spots e (c.blocks + 1) (c.blocks + 2) while-top s m) (IsAhead x numbers spots (code_of_while x e c) (c.blocks + 2) s m)
      (conditions k less x numbers spots e (c.blocks + 1) (c.blocks + 2) (c.blocks + 1) (c.depth + 1) while-top s m active set.typed.0.0
      (λ i w. set.placed.slots i (Contains-append_left (addressed_in e) (addressed_in_statement body) i w)) set.typed.0.1 while-entered (record { related = related; behind = at; temps = set.placed.temps }))
      (λ which u n h. record { later = h.done.later; at = enters which n h.front })
    where
      enters : (which : Bool) (n : Machine) → IsAt (graph_of x) (if which then c.blocks + 1 else c.blocks + 2) [] n → Enters x (code_of_while x e c) (c.blocks + 2) which n
      enters true n h = h
      enters false n h = h

  while-turns : (k : ℕ) → k ≤ bound → (spots : List Spot) (s : State) (m : Machine) → Related x numbers spots s m → IsLeaving (back ++ c.blocks ∷ []) c.blocks m
      → Meets x.world k m (always (calls x.world k) s) (IsTurned x numbers spots c.blocks (c.blocks + 2) s m)
  unfolding always give
  while-turns k less spots s m related leaving =
      meets-jump laws k x numbers spots s m c.blocks (give true s) (IsTurned x numbers spots c.blocks (c.blocks + 2) s m) related (leaving-end (back ++ c.blocks ∷ []) c.blocks m leaving) top-there
      (λ r j. meets-here x.world k r true s (IsTurned x numbers spots c.blocks (c.blocks + 2) s m)
      (record {
        later = later-jump x numbers spots c.blocks s m r j;
        at = (j.front, j.counts (leaving.counts (Contains-append_right back (c.blocks ∷ []) c.blocks (0, omega arith, refl))));
      }))

  while-parts :
      IsLoop bound x numbers back (labels_in body) (cases_in body) while-ways c.blocks c (code_of_while x e c) while-turned (cut (Jump c.blocks) (c.blocks + 2) c.depth while-turned)
      (λ cs. condition e cs (env_of x numbers)) (λ entry cs. meaning body entry cs (env_of x numbers)) always
  while-parts = record {
    tests = while-tests;
    runs = λ k less. keeps k less x numbers true true from (back ++ c.blocks ∷ []) while-ways (code_of_while x e c) active while-set;
    ends = λ m b. (let at = behind-end (graph_of x) (Jump c.blocks) (c.blocks + 2) c.depth while-turned m while-code b in record {
      ops = at.ops;
      end = at.end;
      counts = λ w h. not-before-top x (labels_in body) (cases_in body) c (code_of_while x e c) while-turned set.placed.labels while-same
          (omega (arith, (laws.later (home_of x) e while-top).blocks)) (omega arith) while-ends (omega (arith, b.here, h));
    });
    turns = while-turns;
    out = λ m at. at;
    there = slice_get_within (graph_of x).blocks (c.blocks + 2) while-code.filled.block while-code.filled.there;
    same = while-same;
  }

  abbrev while-behind : Code
  while-behind = cut (Jump c.blocks) (c.blocks + 2) c.depth while-turned

  pub while-loops : (spots : List Spot) (s : State) (m : Machine) → Related x numbers spots s m → IsAt (graph_of x) c.blocks [] m
      → Meets x.world bound m (from_top (While t e body) (calls x.world bound) (env_of x numbers) s) (HasLeft x numbers spots back ways (GoesOut x back (labels_in body) c) while-behind s m)
  while-loops =
      top-meets laws bound x numbers back (labels_in body) (cases_in body) ways while-ways c.blocks c (code_of_while x e c) while-turned while-behind
      (λ cs. condition e cs (env_of x numbers)) (λ entry cs. meaning body entry cs (env_of x numbers)) always while-parts

  pub while-meets : PartKeeps bound x numbers back (labels_in body) (cases_in body) ways (GoesOut x back (labels_in body) c)
      (λ entry. meaning (While t e body) entry (calls x.world bound) (env_of x numbers)) c while-behind
  unfolding meaning meet_loop later-jump
  while-meets spots Front s m related met =
      let act = from_top (While t e body) (calls x.world bound) (env_of x numbers) in
      let R = HasLeft x numbers spots back ways (GoesOut x back (labels_in body) c) while-behind s m in
      let at = behind-end (graph_of x) (Jump c.blocks) c.blocks (c.depth + 1) (reserve 3 c) m while-top-code met in
      meets-jump laws bound x numbers spots s m c.blocks (act s) R related at top-there
      (λ r j. meets-less x.world bound r (act s) (HasLeft x numbers spots back ways (GoesOut x back (labels_in body) c) while-behind s r) R (while-loops spots s r j.related j.front)
      (λ flow u n h. left-then laws x numbers spots back ways (GoesOut x back (labels_in body) c) while-behind s s m r flow u n related (later-jump x numbers spots c.blocks s m r j) h))
  while-meets spots (At_label l) s m related met =
      inside-meets laws bound x numbers back (labels_in body) (cases_in body) ways while-ways c.blocks c (code_of_while x e c) while-turned while-behind
      (λ cs. condition e cs (env_of x numbers)) (λ entry cs. meaning body entry cs (env_of x numbers)) always while-parts l spots s m related met.0 met.1

pub while-loop-keeps : Laws → (bound t : ℕ) (e : Expression) (body : Statement) → UpTo bound ConditionsKeep → UpTo bound (λ k. StatementKeeps k body) → LoopKeeps bound (While t e body)
unfolding lower_statement
while-loop-keeps laws bound t e body conditions keeps = λ x numbers spots breaks continues from back ways c s m active set related at.
    while-loops laws bound t e body conditions keeps x numbers breaks continues from back ways c active set spots s m related at

pub while-keeps : Laws → (bound t : ℕ) (e : Expression) (body : Statement) → UpTo bound ConditionsKeep → UpTo bound (λ k. StatementKeeps k body) → StatementKeeps bound (While t e body)
unfolding lower_statement
while-keeps laws bound t e body conditions keeps = λ x numbers breaks continues from back ways c active set spots entry s m related met.
    while-meets laws bound t e body conditions keeps x numbers breaks continues from back ways c active set spots entry s m related met

-- ---- `do`

module _
    (laws : Laws) (bound t : ℕ) (body : Statement) (e : Expression) (conditions : UpTo bound ConditionsKeep) (keeps : UpTo bound (λ k. StatementKeeps k body))
    (x : Activation) (numbers : Numbers) (breaks continues : Bool) (from : ℕ) (back : List ℕ) (ways : Ways) (c : Code)
    (active : IsActivation x) (set : IsSet x numbers breaks continues from back ways (Do t body e) c) where
  abbrev do-ways : Ways
  do-ways = record { out = c.blocks + 2; on = c.blocks + 1 }

  abbrev do-turned : Code
  do-turned = code_behind x do-ways body (code_of_do c)

  abbrev do-on : Code
  do-on = cut (Jump (c.blocks + 1)) (c.blocks + 1) (c.depth + 1) do-turned

  abbrev do-behind : Code
  do-behind = test (home_of x) e c.blocks (c.blocks + 2) (c.blocks + 2) c.depth do-on

  do-set : IsSet x numbers true true from (back ++ c.blocks ∷ []) do-ways body (code_of_do c)
  do-set = (laws.loops x numbers breaks continues from back ways t body c active).1 e set

  do-code : ContainsCode (graph_of x) do-behind
  unfolding lower_statement
  do-code = set.placed.code

  do-on-code : ContainsCode (graph_of x) do-on
  do-on-code =
      let v = lower (home_of x) e do-on in
      laws.contain (graph_of x) (home_of x) e do-on (before-cut (graph_of x) (Branch (temp_of v) c.blocks (c.blocks + 2)) (c.blocks + 2) c.depth v.code do-code)

  do-top-code : ContainsCode (graph_of x) (code_of_do c)
  do-top-code = laws.contains (graph_of x) (lowering_of x) do-ways body (code_of_do c) (before-cut (graph_of x) (Jump (c.blocks + 1)) (c.blocks + 1) (c.depth + 1) do-turned do-on-code)

  do-top-there : c.blocks < length (graph_of x).blocks
  do-top-there = slice_get_within (graph_of x).blocks c.blocks do-top-code.filled.block do-top-code.filled.there

  do-turns : (k : ℕ) → k ≤ bound → (spots : List Spot) (s : State) (m : Machine) → Related x numbers spots s m → IsLeaving (back ++ c.blocks ∷ []) (c.blocks + 1) m
      → Meets x.world k m (condition e (calls x.world k) (env_of x numbers) s) (IsTurned x numbers spots c.blocks (c.blocks + 2) s m)
  unfolding IsStatement later-jump
  do-turns k less spots s m related leaving =
      let act = condition e (calls x.world k) (env_of x numbers) in
      let on = c.blocks + 1 in
      meets-jump laws k x numbers spots s m on (act s) (IsTurned x numbers spots c.blocks (c.blocks + 2) s m) related (leaving-end (back ++ c.blocks ∷ []) on m leaving)
      (slice_get_within (graph_of x).blocks on do-on-code.filled.block do-on-code.filled.there)
      (λ r j.
      meets-less x.world k r (act s) (λ which u n. HasChosen x numbers spots e c.blocks (c.blocks + 2) do-on s r which u n × ComesTo x.world r n) (IsTurned x numbers spots c.blocks (c.blocks + 2) s m)
      (meets-path x.world k r (act s) (HasChosen x numbers spots e c.blocks (c.blocks + 2) do-on s r)
      (conditions k less x numbers spots e c.blocks (c.blocks + 2) (c.blocks + 2) c.depth do-on s r active set.typed.0.0
      (λ i w. set.placed.slots i (Contains-append_right (addressed_in_statement body) (addressed_in e) i w)) set.typed.0.1 do-code
      (record { related = j.related; behind = j.front; temps = do-temps })))
      (λ which u n h. turned which u n r j h.0.done.later h.0.front h.1))
    where
      do-temps : local_temps x ≤ do-on.temps
      do-temps = omega (arith, set.placed.temps, (laws.grows (lowering_of x) do-ways body (code_of_do c)).temps)

      turned :
          (which : Bool) (u : State) (n r : Machine) → HasJumped x numbers spots (c.blocks + 1) s m r → Later x numbers spots s r u n
          → IsAt (graph_of x) (if which then c.blocks else c.blocks + 2) [] n → ComesTo x.world r n → IsTurned x numbers spots c.blocks (c.blocks + 2) s m which u n
      turned true u n r j later at path = record {
        later = later-then laws x numbers spots s s u m r n related (later-jump x numbers spots (c.blocks + 1) s m r j) later;
        at = (at, turned-back x numbers spots later.spots c.blocks (c.blocks + 1) s u m r n (omega arith) j later.related path at);
      }
      turned false u n r j later at path = record {
        later = later-then laws x numbers spots s s u m r n related (later-jump x numbers spots (c.blocks + 1) s m r j) later;
        at = at;
      }

  do-parts :
      IsLoop bound x numbers back (labels_in body) (cases_in body) do-ways c.blocks c (code_of_do c) do-turned do-behind
      always (λ entry cs. meaning body entry cs (env_of x numbers)) (λ cs. condition e cs (env_of x numbers))
  unfolding always give later-same
  do-parts = record {
    tests = λ k less spots s m related at.
        meets-here x.world k m true s (IsAhead x numbers spots (code_of_do c) (c.blocks + 2) s m) (record { later = later-same x numbers spots s m related; at = at });
    runs = λ k less. keeps k less x numbers true true from (back ++ c.blocks ∷ []) do-ways (code_of_do c) active do-set;
    ends = λ m b. (let at = behind-end (graph_of x) (Jump (c.blocks + 1)) (c.blocks + 1) (c.depth + 1) do-turned m do-on-code b in record {
      ops = at.ops;
      end = at.end;
      counts = λ w h. not-behind back (labels_in body) (cases_in body) c (c.blocks + 1) set.placed.behind (omega arith) w;
    });
    turns = do-turns;
    out = λ m at. at;
    there = slice_get_within (graph_of x).blocks (c.blocks + 2) do-code.filled.block do-code.filled.there;
    same = refl;
  }

  pub do-loops : (spots : List Spot) (s : State) (m : Machine) → Related x numbers spots s m → IsAt (graph_of x) c.blocks [] m
      → Meets x.world bound m (from_top (Do t body e) (calls x.world bound) (env_of x numbers) s) (HasLeft x numbers spots back ways (GoesOut x back (labels_in body) c) do-behind s m)
  do-loops =
      top-meets laws bound x numbers back (labels_in body) (cases_in body) ways do-ways c.blocks c (code_of_do c) do-turned do-behind
      always (λ entry cs. meaning body entry cs (env_of x numbers)) (λ cs. condition e cs (env_of x numbers)) do-parts

  pub do-meets : PartKeeps bound x numbers back (labels_in body) (cases_in body) ways (GoesOut x back (labels_in body) c)
      (λ entry. meaning (Do t body e) entry (calls x.world bound) (env_of x numbers)) c do-behind
  unfolding meaning meet_loop later-jump
  do-meets spots Front s m related met =
      let act = from_top (Do t body e) (calls x.world bound) (env_of x numbers) in
      let R = HasLeft x numbers spots back ways (GoesOut x back (labels_in body) c) do-behind s m in
      let at = behind-end (graph_of x) (Jump c.blocks) c.blocks (c.depth + 1) (reserve 3 c) m do-top-code met in
      meets-jump laws bound x numbers spots s m c.blocks (act s) R related at do-top-there
      (λ r j. meets-less x.world bound r (act s) (HasLeft x numbers spots back ways (GoesOut x back (labels_in body) c) do-behind s r) R (do-loops spots s r j.related j.front)
      (λ flow u n h. left-then laws x numbers spots back ways (GoesOut x back (labels_in body) c) do-behind s s m r flow u n related (later-jump x numbers spots c.blocks s m r j) h))
  do-meets spots (At_label l) s m related met =
      inside-meets laws bound x numbers back (labels_in body) (cases_in body) ways do-ways c.blocks c (code_of_do c) do-turned do-behind
      always (λ entry cs. meaning body entry cs (env_of x numbers)) (λ cs. condition e cs (env_of x numbers)) do-parts l spots s m related met.0 met.1

pub do-loop-keeps : Laws → (bound t : ℕ) (body : Statement) (e : Expression) → UpTo bound ConditionsKeep → UpTo bound (λ k. StatementKeeps k body) → LoopKeeps bound (Do t body e)
unfolding lower_statement
do-loop-keeps laws bound t body e conditions keeps = λ x numbers spots breaks continues from back ways c s m active set related at.
    do-loops laws bound t body e conditions keeps x numbers breaks continues from back ways c active set spots s m related at

pub do-keeps : Laws → (bound t : ℕ) (body : Statement) (e : Expression) → UpTo bound ConditionsKeep → UpTo bound (λ k. StatementKeeps k body) → StatementKeeps bound (Do t body e)
unfolding lower_statement
do-keeps laws bound t body e conditions keeps = λ x numbers breaks continues from back ways c active set spots entry s m related met.
    do-meets laws bound t body e conditions keeps x numbers breaks continues from back ways c active set spots entry s m related met
