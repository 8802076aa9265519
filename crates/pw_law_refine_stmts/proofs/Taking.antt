-- Gotos: to a label that stands later a list goes on at once; to one of its own that stands before it goes back, at a bound
-- that is one less.
use Rattle.std.proofs.Common.{◌≡◌, ◌≢◌, ℕ, zero, suc, ◌+◌, ◌<◌, Bool, true, false, List, [], ◌++◌, Contains, length, refl, arith}
use Rattle.pw_types.specs.TypedTrees.{Statements, Arms, Otherwise}
use Rattle.pw_types.specs.Labels.{labels_among, cases_among}
use Rattle.pw_flow.specs.declared.flow.End.TheVariants.{Jump}
use Rattle.pw_lower.specs.declared.code.Code.{Code}
use Rattle.pw_lower.specs.declared.place.Ways.{Ways}
use Rattle.pw_lower.specs.Codes.{block_of_label}
use Rattle.pw_lower.specs.Statements.{lower_statements}
use Rattle.pw_cmean.specs.Acts as source
use Rattle.pw_cmean.specs.Acts.{State, Act, give, stop, branch, ◌>>=◌}
use Rattle.pw_cmean.specs.Evaluation.{Calls}
use Rattle.pw_cmean.specs.Execution.{Entry, Front, At_label, Flow, Normal, Breaks, Continues, Returns, Goes, holds, go_forward, caught, taking_up, items}
use Rattle.pw_cmean.specs.SourceRun.{calls}
use Rattle.pw_run_languages.specs.FlowRun.{Machine, steps}
use Rattle.pw_law_refine.specs.Standing.{Spot}
use Rattle.pw_law_refine.specs.Activations.{Activation, Numbers, graph_of, env_of, lowering_of}
use Rattle.pw_law_refine.specs.Matching.{Related}
use Rattle.pw_law_refine.specs.Containing.{IsAt, IsBehind}
use Rattle.pw_law_refine.specs.Meeting.{Meets}
use Rattle.pw_law_refine.specs.Statements.{IsOpen, GoesOut, HasLeft, PartKeeps}
use Rattle.pw_law_refine.specs.StatementParts.{GoesOn, ListKeeps, ListTakesUp, ArmsKeep, ArmsTakeUp, labels_of_if, cases_of_if, code_of_if, does_arms}
use Rattle.pw_law_refine_stmts.specs.Bounds.{UpTo}
use Rattle.pw_law_refine_stmts.proofs.Laws.{Laws}
use Rattle.pw_law_refine_stmts.proofs.Simulation.{meets-then, meets-less, meets-here}
use Rattle.pw_law_refine_stmts.proofs.Jumps.{IsAtEnd, meets-jump, meets-back, later-jump}
use Rattle.pw_law_refine_stmts.proofs.Leaving.{leaving-end, left-then}
use Rattle.pw_law_refine_stmts.proofs.CodeBefore.{before-list, before-arms}
use Rattle.pw_law_refine_stmts.proofs.Names.{contained-held, not-contained, named-free, goes-out-before, room-for}

-- ---- to a label that stands later

pub by-bool : (P : Bool → Type 0) (b : Bool) → (b ≡ true → P true) → (b ≡ false → P false) → P b
by-bool P true t f = t refl
by-bool P false t f = f refl

pub by-entry : (P : Entry → Type 0) (entry : Entry) → P Front → ((l : ℕ) → P (At_label l)) → P entry
by-entry P Front f g = f
by-entry P (At_label l) f g = g l

-- behind a part, with what is met where it goes on, and at a label of what stands behind it
pub goes-forward :
    Laws → (bound : ℕ) (x : Activation) (numbers : Numbers) (spots : List Spot) (back own1 own2 : List ℕ) (ways : Ways) (c d e : Code) (later : Entry → Act Flow) (next : Act Flow)
    (s u : State) (m n : Machine) (flow : Flow) → Related x numbers spots s m → (h : HasLeft x numbers spots back ways (GoesOut x back own1 c) d s m flow u n)
    → ((l : ℕ) → Contains x.function.named l → Contains own2 l → block_of_label c l < length (graph_of x).blocks)
    → (Related x numbers h.later.spots u n → IsBehind (graph_of x) d n → Meets x.world bound n (next u) (HasLeft x numbers h.later.spots back ways (GoesOn x back (own1 ++ own2) c) e u n))
    → ((l : ℕ) (r : Machine) → Contains x.function.named l → Contains own2 l → Related x numbers h.later.spots u r → IsAt (graph_of x) (block_of_label c l) [] r
    → Meets x.world bound r (later (At_label l) u) (HasLeft x numbers h.later.spots back ways (GoesOn x back (own1 ++ own2) c) e u r))
    → Meets x.world bound n (go_forward own2 later next flow u) (HasLeft x numbers spots back ways (GoesOn x back (own1 ++ own2) c) e s m)
unfolding go_forward branch give later-jump
goes-forward laws bound x numbers spots back own1 own2 ways c d e later next s u m n Normal start h room on at =
    meets-less x.world bound n (next u) (HasLeft x numbers h.later.spots back ways (GoesOn x back (own1 ++ own2) c) e u n) (HasLeft x numbers spots back ways (GoesOn x back (own1 ++ own2) c) e s m)
    (on h.later.related h.exit)
    (λ flow t r g. left-then laws x numbers spots back ways (GoesOn x back (own1 ++ own2) c) e s u m n flow t r start h.later g)
goes-forward laws bound x numbers spots back own1 own2 ways c d e later next s u m n Breaks start h room on at =
    meets-here x.world bound n Breaks u (HasLeft x numbers spots back ways (GoesOn x back (own1 ++ own2) c) e s m) (record { later = h.later; exit = h.exit })
goes-forward laws bound x numbers spots back own1 own2 ways c d e later next s u m n Continues start h room on at =
    meets-here x.world bound n Continues u (HasLeft x numbers spots back ways (GoesOn x back (own1 ++ own2) c) e s m) (record { later = h.later; exit = h.exit })
goes-forward laws bound x numbers spots back own1 own2 ways c d e later next s u m n (Returns v) start h room on at =
    meets-here x.world bound n (Returns v) u (HasLeft x numbers spots back ways (GoesOn x back (own1 ++ own2) c) e s m) (record { later = h.later; exit = h.exit })
goes-forward laws bound x numbers spots back own1 own2 ways c d e later next s u m n (Goes l) start h room on at =
    by-bool (λ v. Meets x.world bound n (branch v (later (At_label l)) (give (Goes l)) u) (HasLeft x numbers spots back ways (GoesOn x back (own1 ++ own2) c) e s m)) (holds own2 l)
    (λ held.
    let own = contained-held own2 l held in
    meets-jump laws bound x numbers h.later.spots u n (block_of_label c l) (later (At_label l) u) (HasLeft x numbers spots back ways (GoesOn x back (own1 ++ own2) c) e s m)
    h.later.related (leaving-end back (block_of_label c l) n h.exit.leaving) (room l h.exit.named own)
    (λ r j.
    meets-less x.world bound r (later (At_label l) u) (HasLeft x numbers h.later.spots back ways (GoesOn x back (own1 ++ own2) c) e u r) (HasLeft x numbers spots back ways (GoesOn x back (own1 ++ own2) c) e s m)
    (at l r h.exit.named own j.related j.front)
    (λ flow t q g.
    left-then laws x numbers spots back ways (GoesOn x back (own1 ++ own2) c) e s u m n flow t q start h.later
    (left-then laws x numbers h.later.spots back ways (GoesOn x back (own1 ++ own2) c) e u u n r flow t q h.later.related (later-jump x numbers h.later.spots (block_of_label c l) u n r j) g))))
    (λ not.
    meets-here x.world bound n (Goes l) u (HasLeft x numbers spots back ways (GoesOn x back (own1 ++ own2) c) e s m)
    (record { later = h.later; exit = goes-out-before x back own1 own2 c l n h.exit not }))

-- ---- to a label that stands before

-- a goto that is taken up: its label is open, and the machine is before a jump there that counts
pub record IsCaught (own cased : List ℕ) (c : Code) (l : ℕ) (m : Machine) : Type 0 where
  pub is_open : IsOpen own cased l
  pub at : IsAtEnd (Jump (block_of_label c l)) m
  pub counts : m.frame.block + 1 ≢ block_of_label c l

module _
    (laws : Laws) (x : Activation) (numbers : Numbers) (back own cased labels : List ℕ) (ways : Ways) (G H : ℕ → Machine → Type 0) (run : Entry → Calls → Act Flow) (c d : Code)
    (room : (l : ℕ) → IsOpen own cased l → block_of_label c l < length (graph_of x).blocks)
    (caught-so : (l : ℕ) (n : Machine) → G l n → Contains labels l → IsCaught own cased c l n)
    (passed : (l : ℕ) (n : Machine) → G l n → ¬ Contains labels l → H l n) where
  -- behind the part: what is met where a goto is taken up
  behind-part :
      (bound : ℕ) (again : ℕ → Act Flow) (spots : List Spot) (s u : State) (m n : Machine) (flow : Flow) → (h : HasLeft x numbers spots back ways G d s m flow u n)
      → ((l : ℕ) → IsCaught own cased c l n → Meets x.world bound n (again l u) (HasLeft x numbers spots back ways H d s m))
      → Meets x.world bound n (caught labels again flow u) (HasLeft x numbers spots back ways H d s m)
  unfolding caught branch give
  behind-part bound again spots s u m n Normal h f = meets-here x.world bound n Normal u (HasLeft x numbers spots back ways H d s m) (record { later = h.later; exit = h.exit })
  behind-part bound again spots s u m n Breaks h f = meets-here x.world bound n Breaks u (HasLeft x numbers spots back ways H d s m) (record { later = h.later; exit = h.exit })
  behind-part bound again spots s u m n Continues h f = meets-here x.world bound n Continues u (HasLeft x numbers spots back ways H d s m) (record { later = h.later; exit = h.exit })
  behind-part bound again spots s u m n (Returns v) h f = meets-here x.world bound n (Returns v) u (HasLeft x numbers spots back ways H d s m) (record { later = h.later; exit = h.exit })
  behind-part bound again spots s u m n (Goes l) h f =
      by-bool (λ v. Meets x.world bound n (branch v (again l) (give (Goes l)) u) (HasLeft x numbers spots back ways H d s m)) (holds labels l)
      (λ held. f l (caught-so l n h.exit (contained-held labels l held)))
      (λ not.
      meets-here x.world bound n (Goes l) u (HasLeft x numbers spots back ways H d s m)
      (record { later = h.later; exit = passed l n h.exit (not-contained labels l not) }))

  pub takes-up :
      (bound : ℕ) → UpTo bound (λ k. PartKeeps k x numbers back own cased ways G (λ entry. run entry (calls x.world k)) c d)
      → PartKeeps bound x numbers back own cased ways H (λ entry. taking_up labels run entry (calls x.world bound)) c d
  unfolding taking_up calls ◌>>=◌ stop steps later-jump
  takes-up zero keeps spots entry s m related met =
      meets-then laws x.world zero m (run entry [] s) (caught labels (λ l. stop source.Bound)) (HasLeft x numbers spots back ways G d s m) (HasLeft x numbers spots back ways H d s m)
      (keeps zero (omega arith) spots entry s m related met)
      (λ flow u n h. behind-part zero (λ l. stop source.Bound) spots s u m n flow h (λ l caught-here. record {
        count = 0;
        machine = n;
        comes = refl;
        counted = omega arith;
        shows = h.later.related.matches.shows;
      }))
  takes-up (suc bound) keeps spots entry s m related met =
      let again : ℕ → Act Flow = λ l. taking_up labels run (At_label l) (calls x.world bound) in
      meets-then laws x.world (suc bound) m (run entry (calls x.world (suc bound)) s) (caught labels again) (HasLeft x numbers spots back ways G d s m) (HasLeft x numbers spots back ways H d s m)
      (keeps (suc bound) (omega arith) spots entry s m related met)
      (λ flow u n h. behind-part (suc bound) again spots s u m n flow h (λ l caught-here.
      meets-back laws bound x numbers h.later.spots u n (block_of_label c l) (again l u) (HasLeft x numbers spots back ways H d s m)
      h.later.related caught-here.at (room l caught-here.is_open) caught-here.counts
      (λ r j.
      meets-less x.world bound r (again l u) (HasLeft x numbers h.later.spots back ways H d u r) (HasLeft x numbers spots back ways H d s m)
      (takes-up bound (λ k less. keeps k (omega (arith, less))) h.later.spots (At_label l) u r j.related (caught-here.is_open, j.front))
      (λ flow2 t q g.
      left-then laws x numbers spots back ways H d s u m n flow2 t q related h.later
      (left-then laws x numbers h.later.spots back ways H d u u n r flow2 t q h.later.related (later-jump x numbers h.later.spots (block_of_label c l) u n r j) g)))))

-- ---- of lists and arms

-- all labels of the part are taken up
own-caught : (x : Activation) (back own cased : List ℕ) (c : Code) → ((l : ℕ) → Contains x.function.named l → ¬ Contains cased l)
    → (l : ℕ) (n : Machine) → GoesOn x back own c l n → Contains own l → IsCaught own cased c l n
own-caught x back own cased c free l n g w = record {
  is_open = (w, free l g.named);
  at = leaving-end back (block_of_label c l) n g.leaving;
  counts = g.counts w;
}

own-passed : (x : Activation) (back own : List ℕ) (c : Code) (l : ℕ) (n : Machine) → GoesOn x back own c l n → ¬ Contains own l → GoesOut x back own c l n
own-passed x back own c l n g not = record { named = g.named; elsewhere = not; leaving = g.leaving }

pub list-takes-up : Laws → (bound : ℕ) (list : Statements) → UpTo bound (λ k. ListKeeps k list) → ListTakesUp bound list
list-takes-up laws bound list keeps = λ x numbers breaks continues from back ways c active set.
    let own = labels_among list in
    let cased = cases_among list in
    let d = lower_statements (lowering_of x) ways list c in
    takes-up laws x numbers back own cased own ways (GoesOn x back own c) (GoesOut x back own c) (λ at' cs'. items list at' cs' (env_of x numbers)) c d
    (λ l o. room-for x own cased c c (graph_of x) l set.placed.labels (omega arith) (before-list laws x ways list c set.placed.code) o)
    (own-caught x back own cased c (λ l w. named-free x own cased c l set.placed.labels w))
    (own-passed x back own c)
    bound (λ k less. keeps k less x numbers breaks continues from back ways c active set)

pub arms-take-up : Laws → (bound : ℕ) (list : Arms) (otherwise : Otherwise) → UpTo bound (λ k. ArmsKeep k list otherwise) → ArmsTakeUp bound list otherwise
arms-take-up laws bound list otherwise keeps = λ x numbers breaks continues from back ways c active set.
    let own = labels_of_if list otherwise in
    let cased = cases_of_if list otherwise in
    let d = code_of_if x ways list otherwise c in
    takes-up laws x numbers back own cased own ways (GoesOn x back own c) (GoesOut x back own c) (λ at' cs'. does_arms list otherwise at' cs' (env_of x numbers)) c d
    (λ l o. room-for x own cased c c (graph_of x) l set.placed.labels (omega arith) (before-arms laws x ways list otherwise c set.placed.code) o)
    (own-caught x back own cased c (λ l w. named-free x own cased c l set.placed.labels w))
    (own-passed x back own c)
    bound (λ k less. keeps k less x numbers breaks continues from back ways c active set)
