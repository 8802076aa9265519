-- Blocks: their locals come into scope, the initialisers are run where the block is met at its front, and then the list.
use Rattle.std.proofs.Common.{◌≡◌, ℕ, ◌+◌, ◌<◌, ◌≤◌, Bool, Some, List, [], ◌∷◌, ◌++◌, length, sym, subst, arith}
use Rattle.std.specs.List.{AllByRecursion, flat_map, IsDistinct}
use Rattle.std.proofs.lemmas.List.Elements.{recursion_from_All, All-from_recursion, Contains-append_left, Contains-append_right}
use Rattle.pw_types.specs.Labels.{labels_among, cases_among}
use Rattle.pw_types.specs.TypedModules.{IsStatement, Initialises}
use Rattle.pw_types.specs.TypedTrees.{Initialiser, Block, Statements, NoStatement}
use Rattle.pw_lower.specs.declared.code.Code.{Code}
use Rattle.pw_lower.specs.declared.place.Ways.{Ways}
use Rattle.pw_lower.specs.Codes.{block_of_label}
use Rattle.pw_lower.specs.Places.{addressed_in_initialiser, addressed_in_statements}
use Rattle.pw_lower.specs.Statements.{initialised_all, lower_statement, lower_statements}
use Rattle.pw_cmean.specs.Acts.{State, give, ◌>>=◌}
use Rattle.pw_cmean.specs.Execution.{Entry, Front, At_label, taking_up, initialise, initialise_all, items, meaning}
use Rattle.pw_cmean.specs.SourceRun.{calls}
use Rattle.pw_run_languages.specs.FlowRun.{Machine}
use Rattle.pw_law_source.specs.Accepting.{SuitsLocal, initialisers_among}
use Rattle.pw_law_refine.specs.Standing.{Spot}
use Rattle.pw_law_refine.specs.Activations.{Activation, IsActivation, Numbers, graph_of, home_of, env_of, lowering_of, HaveSlots, number_of}
use Rattle.pw_law_refine.specs.Matching.{Related, Later}
use Rattle.pw_law_refine.specs.Containing.{ContainsCode, IsAt}
use Rattle.pw_law_refine.specs.Meeting.{Meets}
use Rattle.pw_law_refine.specs.Expressions.{IsReady}
use Rattle.pw_law_refine.specs.Statements.{IsSet, IsMet, GoesOut, HasLeft, PartKeeps, StatementKeeps}
use Rattle.pw_law_refine.specs.StatementParts.{ListTakesUp, HaveBegun, LocalsKeep, InitialiserKeeps, HasInitialised, code_of_initialiser}
use Rattle.pw_law_refine_code.specs.Ending.{KeepLabels}
use Rattle.pw_law_refine_stmts.proofs.Laws.{Laws}
use Rattle.pw_law_refine_stmts.proofs.Simulation.{meets-then, meets-less, meets-here}
use Rattle.pw_law_refine_stmts.proofs.Jumps.{later-same, later-then}
use Rattle.pw_law_refine_stmts.proofs.Leaving.{left-less, left-then}
use Rattle.pw_law_refine_stmts.proofs.CodeBefore.{before-list, before-initialisers, initialiser-keeps-code}
use Rattle.pw_law_refine_stmts.proofs.Names.{none-in, goes-out-same}

-- ---- initialisers one behind the other

module _
    (laws : Laws) (bound : ℕ) (keeps : (i : Initialiser) → InitialiserKeeps bound i) (x : Activation) (numbers : Numbers) (first count : ℕ) (ways : Ways) (active : IsActivation x)
    (begun : (k : ℕ) → first ≤ k → k < first + count → (o : ℕ) × (number_of numbers k ≡ Some o)) where
  pub all-initialised :
      (all : List Initialiser) (c : Code) (spots : List Spot) (s : State) (m : Machine)
      → AllByRecursion (Initialises x.home.tree x.function.locals first count) all → AllByRecursion (SuitsLocal x.function.locals) all → HaveSlots x (flat_map addressed_in_initialiser all)
      → ContainsCode (graph_of x) (initialised_all (home_of x) x.function.locals all c) → IsReady x numbers spots c s m
      → Meets x.world bound m (initialise_all all Front (calls x.world bound) (env_of x numbers) s) (HasInitialised x numbers spots (initialised_all (home_of x) x.function.locals all c) s m)
  unfolding initialise_all give ◌>>=◌ later-same
  all-initialised [] c spots s m typed suits slots code ready =
      meets-here x.world bound m tt s (HasInitialised x numbers spots c s m) (record { later = later-same x numbers spots s m ready.related; behind = ready.behind })
  all-initialised (i ∷ rest) c spots s m typed suits slots code ready =
      let d = code_of_initialiser x i c in
      let e = initialised_all (home_of x) x.function.locals rest d in
      meets-then laws x.world bound m (initialise i (calls x.world bound) (env_of x numbers) s) (λ done. initialise_all rest Front (calls x.world bound) (env_of x numbers))
      (HasInitialised x numbers spots d s m) (HasInitialised x numbers spots e s m)
      (keeps i x numbers spots first count c s m active typed.0 suits.0 (λ k w. slots k (Contains-append_left (addressed_in_initialiser i) (flat_map addressed_in_initialiser rest) k w)) begun
      (before-initialisers laws x ways rest d code) ready)
      (λ done u n h.
      meets-less x.world bound n (initialise_all rest Front (calls x.world bound) (env_of x numbers) u) (HasInitialised x numbers h.later.spots e u n) (HasInitialised x numbers spots e s m)
      (all-initialised rest d h.later.spots u n typed.1 suits.1 (λ k w. slots k (Contains-append_right (addressed_in_initialiser i) (flat_map addressed_in_initialiser rest) k w)) code
      (record { related = h.later.related; behind = h.behind; temps = omega (arith, ready.temps, (initialiser-keeps-code laws x ways i c).temps) }))
      (λ done2 w r g. record { later = later-then laws x numbers spots s u w m n r ready.related h.later g.later; behind = g.behind }))

-- ---- the statement

module _
    (laws : Laws) (bound t first count : ℕ) (initialisers : List Initialiser) (list : Statements) (locals : LocalsKeep bound) (keeps : (i : Initialiser) → InitialiserKeeps bound i) (takes : ListTakesUp bound list)
    (x : Activation) (numbers : Numbers) (breaks continues : Bool) (from : ℕ) (back : List ℕ) (ways : Ways) (c : Code)
    (active : IsActivation x) (set : IsSet x numbers breaks continues from back ways (Block t first count initialisers list) c) where
  abbrev entered : Code
  entered = initialised_all (home_of x) x.function.locals initialisers c

  abbrev behind : Code
  behind = lower_statements (lowering_of x) ways list entered

  code : ContainsCode (graph_of x) behind
  unfolding lower_statement
  code = set.placed.code

  entered-code : ContainsCode (graph_of x) entered
  entered-code = before-list laws x ways list entered code

  -- initialisers keep the blocks of labels
  same : (l : ℕ) → block_of_label entered l ≡ block_of_label c l
  unfolding lower_statement IsStatement IsDistinct
  same l =
      let kept : KeepLabels c entered [] =
      laws.labels x.home.tree x.function breaks continues from (lowering_of x) ways (Block t first count initialisers NoStatement) c (set.typed.0, set.typed.1, set.typed.2, tt)
      (record { once = tt; one_use = tt; below = All-from_recursion (λ k. k < length c.labels) [] tt }) in
      kept.others l (λ w. none-in l w)

  initialiser-slots : HaveSlots x (flat_map addressed_in_initialiser initialisers)
  initialiser-slots k w = set.placed.slots k (Contains-append_left (flat_map addressed_in_initialiser initialisers) (addressed_in_statements list) k w)

  initialisers-suit : AllByRecursion (SuitsLocal x.function.locals) initialisers
  initialisers-suit = front initialisers (recursion_from_All (SuitsLocal x.function.locals) (initialisers ++ initialisers_among list) set.placed.suits)
    where
      front : (is : List Initialiser) → AllByRecursion (SuitsLocal x.function.locals) (is ++ initialisers_among list) → AllByRecursion (SuitsLocal x.function.locals) is
      front [] g = tt
      front (i ∷ is) g = (g.0, front is g.1)

  -- the list, behind the initialisers
  list-meets :
      (inner : Numbers) (spots : List Spot) (entry : Entry) (s : State) (m : Machine) → HaveBegun first count numbers inner → Related x inner spots s m
      → IsMet (graph_of x) (labels_among list) (cases_among list) entered entry m
      → Meets x.world bound m (taking_up (labels_among list) (λ at' cs'. items list at' cs' (env_of x inner)) entry (calls x.world bound) s)
      (HasLeft x inner spots back ways (GoesOut x back (labels_among list) c) behind s m)
  list-meets inner spots entry s m started related met =
      meets-less x.world bound m (taking_up (labels_among list) (λ at' cs'. items list at' cs' (env_of x inner)) entry (calls x.world bound) s)
      (HasLeft x inner spots back ways (GoesOut x back (labels_among list) entered) behind s m) (HasLeft x inner spots back ways (GoesOut x back (labels_among list) c) behind s m)
      (takes x inner breaks continues (first + count) back ways entered active (laws.blocks x numbers inner breaks continues from back ways t first count initialisers list c active set started) spots entry s m related met)
      (λ flow u n h.
      left-less x inner spots back back ways (GoesOut x back (labels_among list) entered) (GoesOut x back (labels_among list) c) behind s m flow u n (λ k w. w)
      (goes-out-same x back back (labels_among list) c entered (λ k w. w) (λ l w. same l)) h)

  -- at a label no initialiser is run
  record IsPassed (inner : Numbers) (spots : List Spot) (l : ℕ) (s : State) (m : Machine) (done : Unit {0}) (u : State) (n : Machine) : Type 0 where
    later : Later x inner spots s m u n
    at : IsAt (graph_of x) (block_of_label c l) [] n

  passes : (inner : Numbers) (spots : List Spot) (l : ℕ) (s : State) (m : Machine) (all : List Initialiser) → Related x inner spots s m → IsAt (graph_of x) (block_of_label c l) [] m
      → Meets x.world bound m (initialise_all all (At_label l) (calls x.world bound) (env_of x inner) s) (IsPassed inner spots l s m)
  unfolding initialise_all give later-same
  passes inner spots l s m [] related at = meets-here x.world bound m tt s (IsPassed inner spots l s m) (record { later = later-same x inner spots s m related; at = at })
  passes inner spots l s m (i ∷ rest) related at = meets-here x.world bound m tt s (IsPassed inner spots l s m) (record { later = later-same x inner spots s m related; at = at })

  -- where the locals are in scope
  inner-meets :
      (inner : Numbers) (spots : List Spot) (entry : Entry) (s : State) (m : Machine) → HaveBegun first count numbers inner → Related x inner spots s m
      → IsMet (graph_of x) (labels_among list) (cases_among list) c entry m
      → Meets x.world bound m ((initialise_all initialisers entry (calls x.world bound) (env_of x inner)
      >>= λ done. taking_up (labels_among list) (λ at' cs'. items list at' cs' (env_of x inner)) entry (calls x.world bound)) s)
      (HasLeft x inner spots back ways (GoesOut x back (labels_among list) c) behind s m)
  unfolding ◌>>=◌ IsStatement
  inner-meets inner spots Front s m started related met =
      let R = HasLeft x inner spots back ways (GoesOut x back (labels_among list) c) behind s m in
      let act = taking_up (labels_among list) (λ at' cs'. items list at' cs' (env_of x inner)) Front (calls x.world bound) in
      meets-then laws x.world bound m (initialise_all initialisers Front (calls x.world bound) (env_of x inner) s) (λ done. act) (HasInitialised x inner spots entered s m) R
      (all-initialised laws bound keeps x inner first count ways active started.begun initialisers c spots s m
      (recursion_from_All (Initialises x.home.tree x.function.locals first count) initialisers set.typed.2) initialisers-suit initialiser-slots entered-code
      (record { related = related; behind = met; temps = set.placed.temps }))
      (λ done u n h.
      meets-less x.world bound n (act u) (HasLeft x inner h.later.spots back ways (GoesOut x back (labels_among list) c) behind u n) R (list-meets inner h.later.spots Front u n started h.later.related h.behind)
      (λ flow w r g. left-then laws x inner spots back ways (GoesOut x back (labels_among list) c) behind s u m n flow w r related h.later g))
  inner-meets inner spots (At_label l) s m started related met =
      let R = HasLeft x inner spots back ways (GoesOut x back (labels_among list) c) behind s m in
      let act = taking_up (labels_among list) (λ at' cs'. items list at' cs' (env_of x inner)) (At_label l) (calls x.world bound) in
      meets-then laws x.world bound m (initialise_all initialisers (At_label l) (calls x.world bound) (env_of x inner) s) (λ done. act) (IsPassed inner spots l s m) R
      (passes inner spots l s m initialisers related met.1)
      (λ done u n h.
      meets-less x.world bound n (act u) (HasLeft x inner h.later.spots back ways (GoesOut x back (labels_among list) c) behind u n) R
      (list-meets inner h.later.spots (At_label l) u n started h.later.related (met.0, subst (λ (b : ℕ). IsAt (graph_of x) b [] n) (sym (same l)) h.at))
      (λ flow w r g. left-then laws x inner spots back ways (GoesOut x back (labels_among list) c) behind s u m n flow w r related h.later g))

  pub block-meets : PartKeeps bound x numbers back (labels_among list) (cases_among list) ways (GoesOut x back (labels_among list) c)
      (λ entry. meaning (Block t first count initialisers list) entry (calls x.world bound) (env_of x numbers)) c behind
  unfolding meaning IsStatement
  block-meets spots entry s m related met =
      locals x numbers spots first count back (labels_among list) ways
      (λ inner. initialise_all initialisers entry (calls x.world bound) inner >>= λ done. taking_up (labels_among list) (λ at' cs'. items list at' cs' inner) entry (calls x.world bound)) c behind s m active
      set.typed.1 (λ k h. set.placed.scope k (omega (arith, set.typed.0, h))) related
      (λ inner more u started again. inner-meets inner more entry u m started again met)

pub block-keeps : Laws → (bound t first count : ℕ) (initialisers : List Initialiser) (list : Statements) → LocalsKeep bound → ((i : Initialiser) → InitialiserKeeps bound i) → ListTakesUp bound list → StatementKeeps bound (Block t first count initialisers list)
unfolding lower_statement
block-keeps laws bound t first count initialisers list locals keeps takes = λ x numbers breaks continues from back ways c active set spots entry s m related met.
    block-meets laws bound t first count initialisers list locals keeps takes x numbers breaks continues from back ways c active set spots entry s m related met
