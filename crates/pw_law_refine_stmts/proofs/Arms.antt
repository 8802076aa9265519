-- The arms of an `if`: by its condition the machine goes to the arm or to what stands behind it, and from both to one block.
use Rattle.std.proofs.Common.{◌≡◌, ℕ, ◌+◌, ◌<◌, ◌≤◌, Bool, true, false, if◌then◌else◌, List, [], ◌++◌, Contains, ◌⊎◌, inl, inr, length, refl, sym, ◌∙◌, subst, arith, append_assoc}
use Rattle.std.proofs.lemmas.List.Elements.{Contains-append_left, Contains-append_right, Contains-append_cases}
use Rattle.std.proofs.lemmas.Option.{slice_get_within}
use Rattle.pw_types.specs.Labels.{labels_in, labels_of_arms, labels_behind, cases_in, cases_of_arms, cases_behind}
use Rattle.pw_types.specs.TypedModules.{IsStatement}
use Rattle.pw_types.specs.TypedTrees.{Expression, Statement, Arms, NoArm, Arm, Otherwise, NoElse, Else}
use Rattle.pw_types.specs.WellTyped.{IsCondition}
use Rattle.pw_flow.specs.declared.flow.End.TheVariants.{Jump, Branch}
use Rattle.pw_flow.specs.declared.flow.FlowFn.{FlowFn}
use Rattle.pw_flow.specs.declared.flow.End.{End}
use Rattle.pw_lower.specs.declared.code.Code.{Code}
use Rattle.pw_lower.specs.declared.place.Ways.{Ways}
use Rattle.pw_lower.specs.Codes.{temp_of, block_of_label, reserve, cut, cut_here}
use Rattle.pw_lower.specs.Places.{addressed_in, addressed_in_statement, addressed_in_arms, addressed_in_otherwise}
use Rattle.pw_lower.specs.Expressions.{lower}
use Rattle.pw_lower.specs.Statements.{lower_statement}
use Rattle.pw_cmean.specs.Acts.{State, Act, give, branch, ◌>>=◌}
use Rattle.pw_cmean.specs.Execution.{Entry, Front, At_label, Flow, Normal, Breaks, Continues, Returns, Goes, holds, go_forward, condition, meaning}
use Rattle.pw_cmean.specs.SourceRun.{calls}
use Rattle.pw_run_languages.specs.FlowRun.{Machine, steps}
use Rattle.pw_law_refine.specs.Standing.{Spot}
use Rattle.pw_law_refine.specs.Activations.{Activation, IsActivation, Numbers, graphs, graph_of, home_of, env_of, lowering_of, HaveSlots, local_temps}
use Rattle.pw_law_refine.specs.Matching.{Related, Later}
use Rattle.pw_law_refine.specs.Containing.{ContainsCode, IsAt, IsBehind}
use Rattle.pw_law_refine.specs.Meeting.{Reaches, Meets}
use Rattle.pw_law_refine.specs.Expressions.{HasChosen, ConditionsKeep}
use Rattle.pw_law_refine.specs.Statements.{IsOpen, AreLabelled, IsSet, IsMet, GoesOut, HasLeft, PartKeeps, StatementKeeps, code_behind}
use Rattle.pw_law_refine.specs.StatementParts.{GoesOn, AreArmsSet, ArmsKeep, labels_of_if, cases_of_if, code_of_if, does_arms}
use Rattle.pw_law_refine_code.specs.Behind.{named_blocks}
use Rattle.pw_law_refine_code.specs.Ending.{KeepLabels}
use Rattle.pw_law_refine_code.specs.Setting.{code_of_arm, code_between, HasMore}
use Rattle.pw_law_refine_stmts.proofs.Laws.{Laws}
use Rattle.pw_law_refine_stmts.proofs.Simulation.{meets-then, meets-less, meets-on, meets-here}
use Rattle.pw_law_refine_stmts.proofs.Jumps.{IsAtEnd, before-cut, behind-end, meets-jump, reaches-jump, later-jump, later-same, later-then}
use Rattle.pw_law_refine_stmts.proofs.Leaving.{left-less, left-then}
use Rattle.pw_law_refine_stmts.proofs.CodeBefore.{before-reserve, before-arms}
use Rattle.pw_law_refine_stmts.proofs.Names.{contained-held, not-contained, none-in, named-free, fits-in, room-for, same-block, goes-on-behind, goes-out-same}
use Rattle.pw_law_refine_stmts.proofs.Simple.{met-front}
use Rattle.pw_law_refine_stmts.proofs.Taking.{by-bool, by-entry, goes-forward}

-- ---- what joins

-- a part that comes behind its code goes on to another block
pub left-joins :
    Laws → (x : Activation) (numbers : Numbers) (spots : List Spot) (back : List ℕ) (ways : Ways) (G : ℕ → Machine → Type 0) (join : ℕ) (d e : Code) (s : State) (m : Machine) (flow : Flow) (t : State) (n : Machine)
    → Related x numbers spots s m → ((r : Machine) → IsBehind (graph_of x) d r → IsAtEnd (Jump join) r) → ((r : Machine) → IsAt (graph_of x) join [] r → IsBehind (graph_of x) e r)
    → join < length (graph_of x).blocks
    → HasLeft x numbers spots back ways G d s m flow t n → Reaches (graphs x.world) n (HasLeft x numbers spots back ways G e s m flow t)
unfolding steps later-jump later-then
left-joins laws x numbers spots back ways G join d e s m Normal t n start ends front there h =
    reaches-jump x numbers h.later.spots t n join (HasLeft x numbers spots back ways G e s m Normal t) h.later.related (ends n h.exit) there
    (λ r j. record {
      later = later-then laws x numbers spots s t t m n r start h.later (later-jump x numbers h.later.spots join t n r j);
      exit = front r j.front;
    })
left-joins laws x numbers spots back ways G join d e s m Breaks t n start ends front there h = record { count = 0; machine = n; comes = refl; holds = record { later = h.later; exit = h.exit } }
left-joins laws x numbers spots back ways G join d e s m Continues t n start ends front there h = record { count = 0; machine = n; comes = refl; holds = record { later = h.later; exit = h.exit } }
left-joins laws x numbers spots back ways G join d e s m (Returns v) t n start ends front there h = record { count = 0; machine = n; comes = refl; holds = record { later = h.later; exit = h.exit } }
left-joins laws x numbers spots back ways G join d e s m (Goes l) t n start ends front there h = record { count = 0; machine = n; comes = refl; holds = record { later = h.later; exit = h.exit } }

before-cut-reserve : (g : FlowFn) (end : End) (number depth count : ℕ) (c : Code) → ContainsCode g (cut end number depth (reserve count c)) → ContainsCode g (cut end number depth c)
before-cut-reserve g end number depth count c w = record { closed = w.closed; filled = w.filled; temps = w.temps; blocks = omega (arith, w.blocks) }

-- ---- an arm, and what stands behind it

module _
    (laws : Laws) (bound count join : ℕ) (e : Expression) (a : Statement) (own2 cased2 : List ℕ) (conditions : ConditionsKeep bound) (first : StatementKeeps bound a)
    (x : Activation) (numbers : Numbers) (breaks continues : Bool) (from : ℕ) (back : List ℕ) (ways : Ways) (c last : Code) (others : Entry → Act Flow)
    (active : IsActivation x) (typed : IsCondition x.home.tree x.function.locals e) (slots : HaveSlots x (addressed_in e)) (temps : local_temps x ≤ c.temps)
    (set : IsSet x numbers breaks continues from back ways a (code_of_arm x e count c))
    (labelled : AreLabelled x (labels_in a ++ own2) (cases_in a ++ cased2) c)
    (ends : (r : Machine) → IsBehind (graph_of x) (code_behind x ways a (code_of_arm x e count c)) r → IsAtEnd (Jump join) r)
    (front : (r : Machine) → IsAt (graph_of x) join [] r → IsBehind (graph_of x) last r)
    (there : join < length (graph_of x).blocks)
    (others-front : (spots : List Spot) (s : State) (m : Machine) → Related x numbers spots s m → IsAt (graph_of x) ((lower (home_of x) e c).code.blocks + 1) [] m
    → Meets x.world bound m (others Front s) (HasLeft x numbers spots back ways (GoesOn x back (labels_in a ++ own2) c) last s m))
    (others-label : (l : ℕ) (spots : List Spot) (s : State) (m : Machine) → IsOpen own2 cased2 l → ¬ Contains (cases_in a) l → Related x numbers spots s m → IsAt (graph_of x) (block_of_label c l) [] m
    → Meets x.world bound m (others (At_label l) s) (HasLeft x numbers spots back ways (GoesOn x back (labels_in a ++ own2) c) last s m)) where
  abbrev firsts : Entry → Act Flow
  firsts entry = meaning a entry (calls x.world bound) (env_of x numbers) >>= go_forward own2 others (give Normal)

  abbrev R : List Spot → State → Machine → Flow → State → Machine → Type 0
  R spots s m = HasLeft x numbers spots back ways (GoesOn x back (labels_in a ++ own2) c) last s m

  entered-same : (l : ℕ) → block_of_label (code_of_arm x e count c) l ≡ block_of_label c l
  entered-same l = same-block c (code_of_arm x e count c) l (laws.alike (home_of x) e c)

  code : ContainsCode (graph_of x) (code_of_arm x e count c)
  code = laws.contains (graph_of x) (lowering_of x) ways a (code_of_arm x e count c) set.placed.code

  before : ContainsCode (graph_of x) c
  before =
      let v = lower (home_of x) e c in
      laws.contain (graph_of x) (home_of x) e c
      (before-reserve (graph_of x) count v.code (before-cut (graph_of x) (Branch (temp_of v) v.code.blocks (v.code.blocks + 1)) v.code.blocks v.code.depth (reserve count v.code) code))

  -- the arm's statement
  first-meets :
      (spots : List Spot) (entry : Entry) (s : State) (m : Machine) → Related x numbers spots s m → IsMet (graph_of x) (labels_in a) (cases_in a) (code_of_arm x e count c) entry m
      → Meets x.world bound m (firsts entry s) (R spots s m)
  unfolding ◌>>=◌ give later-jump
  first-meets spots entry s m related met =
      let d = code_of_arm x e count c in
      let inner = code_behind x ways a d in
      meets-then laws x.world bound m (meaning a entry (calls x.world bound) (env_of x numbers) s) (go_forward own2 others (give Normal))
      (HasLeft x numbers spots back ways (GoesOut x back (labels_in a) d) inner s m) (R spots s m)
      (first x numbers breaks continues from back ways d active set spots entry s m related met)
      (λ flow u n h.
      let g = left-less x numbers spots back back ways (GoesOut x back (labels_in a) d) (GoesOut x back (labels_in a) c) inner s m flow u n (λ k w. w)
      (goes-out-same x back back (labels_in a) c d (λ k w. w) (λ l w. entered-same l)) h in
      goes-forward laws bound x numbers spots back (labels_in a) own2 ways c inner last others (give Normal) s u m n flow related g
      room
      (λ again behind.
      meets-jump laws bound x numbers g.later.spots u n join (give Normal u) (R g.later.spots u n) again (ends n behind) there
      (λ r j. meets-here x.world bound r Normal u (R g.later.spots u n) (record { later = later-jump x numbers g.later.spots join u n r j; exit = front r j.front })))
      (λ l r named own again at. others-label l g.later.spots u r (own, λ w. free l named (Contains-append_right (cases_in a) cased2 l w)) (λ w. free l named (Contains-append_left (cases_in a) cased2 l w)) again at))
    where
      free : (l : ℕ) → Contains x.function.named l → ¬ Contains (cases_in a ++ cased2) l
      free l named = named-free x (labels_in a ++ own2) (cases_in a ++ cased2) c l labelled named

      room : (l : ℕ) → Contains x.function.named l → Contains own2 l → block_of_label c l < length (graph_of x).blocks
      room l named own =
          room-for x (labels_in a ++ own2) (cases_in a ++ cased2) c c (graph_of x) l labelled (omega arith) before
          (Contains-append_right (labels_in a) own2 l own, free l named)

  front-meets : (spots : List Spot) (s : State) (m : Machine) → Related x numbers spots s m → IsBehind (graph_of x) c m
      → Meets x.world bound m ((condition e (calls x.world bound) (env_of x numbers) >>= λ which. branch which (firsts Front) (others Front)) s) (R spots s m)
  unfolding ◌>>=◌ branch
  front-meets spots s m related behind =
      let v = lower (home_of x) e c in
      let so = v.code.blocks in
      meets-then laws x.world bound m (condition e (calls x.world bound) (env_of x numbers) s) (λ which. branch which (firsts Front) (others Front))
      (HasChosen x numbers spots e so (so + 1) c s m) (R spots s m)
      (conditions x numbers spots e so (so + 1) so v.code.depth c s m active typed.0 slots typed.1
      (before-cut-reserve (graph_of x) (Branch (temp_of v) so (so + 1)) so v.code.depth count v.code code) (record { related = related; behind = behind; temps = temps }))
      (λ which u n q. chosen spots s m related which u n q.done.later q.front)
    where
      after : (spots : List Spot) (s : State) (m : Machine) (u : State) (n : Machine) (act : Act Flow) → Related x numbers spots s m → (f : Later x numbers spots s m u n)
          → Meets x.world bound n (act u) (R f.spots u n) → Meets x.world bound n (act u) (R spots s m)
      after spots s m u n act start f meets =
          meets-less x.world bound n (act u) (R f.spots u n) (R spots s m) meets
          (λ flow t r h. left-then laws x numbers spots back ways (GoesOn x back (labels_in a ++ own2) c) last s u m n flow t r start f h)

      chosen :
          (spots : List Spot) (s : State) (m : Machine) → Related x numbers spots s m → (which : Bool) (u : State) (n : Machine) → (f : Later x numbers spots s m u n)
          → IsAt (graph_of x) (if which then (lower (home_of x) e c).code.blocks else (lower (home_of x) e c).code.blocks + 1) [] n
          → Meets x.world bound n (branch which (firsts Front) (others Front) u) (R spots s m)
      chosen spots s m start true u n f at = after spots s m u n (firsts Front) start f (first-meets f.spots Front u n f.related at)
      chosen spots s m start false u n f at = after spots s m u n (others Front) start f (others-front f.spots u n f.related at)

  label-meets : (l : ℕ) (spots : List Spot) (s : State) (m : Machine) → Related x numbers spots s m → IsOpen (labels_in a ++ own2) (cases_in a ++ cased2) l → IsAt (graph_of x) (block_of_label c l) [] m
      → Meets x.world bound m (branch (holds (labels_in a) l) (firsts (At_label l)) (others (At_label l)) s) (R spots s m)
  unfolding branch
  label-meets l spots s m related o at =
      by-bool (λ v. Meets x.world bound m (branch v (firsts (At_label l)) (others (At_label l)) s) (R spots s m)) (holds (labels_in a) l)
      (λ held.
      first-meets spots (At_label l) s m related
      ((contained-held (labels_in a) l held, λ w. o.1 (Contains-append_left (cases_in a) cased2 l w)), subst (λ (b : ℕ). IsAt (graph_of x) b [] m) (sym (entered-same l)) at))
      (λ not. others-label l spots s m (among not (Contains-append_cases (labels_in a) own2 l o.0), λ w. o.1 (Contains-append_right (cases_in a) cased2 l w)) (λ w. o.1 (Contains-append_left (cases_in a) cased2 l w)) related at)
    where
      among : holds (labels_in a) l ≡ false → Contains (labels_in a) l ⊎ Contains own2 l → Contains own2 l
      among not (inl v) = absurd (not-contained (labels_in a) l not v)
      among not (inr v) = v

  -- both
  pub arm-meets :
      ((spots : List Spot) (s : State) (m : Machine) → Related x numbers spots s m → IsBehind (graph_of x) c m
      → Meets x.world bound m ((condition e (calls x.world bound) (env_of x numbers)
      >>= λ which. branch which (meaning a Front (calls x.world bound) (env_of x numbers) >>= go_forward own2 others (give Normal)) (others Front)) s)
      (HasLeft x numbers spots back ways (GoesOn x back (labels_in a ++ own2) c) last s m))
      × ((l : ℕ) (spots : List Spot) (s : State) (m : Machine) → Related x numbers spots s m → IsOpen (labels_in a ++ own2) (cases_in a ++ cased2) l → IsAt (graph_of x) (block_of_label c l) [] m
      → Meets x.world bound m (branch (holds (labels_in a) l) (meaning a (At_label l) (calls x.world bound) (env_of x numbers) >>= go_forward own2 others (give Normal)) (others (At_label l)) s)
      (HasLeft x numbers spots back ways (GoesOn x back (labels_in a ++ own2) c) last s m))
  arm-meets = (front-meets, label-meets)

-- ---- no arm

pub no-arm-keeps : (bound : ℕ) → ArmsKeep bound NoArm NoElse
unfolding meaning lower_statement give later-same
no-arm-keeps bound = λ x numbers breaks continues from back ways c active set spots entry s m related met.
    meets-here x.world bound m Normal s (HasLeft x numbers spots back ways (GoesOn x back [] c) c s m)
    (record { later = later-same x numbers spots s m related; exit = met-front (graph_of x) [] c entry m met })

pub else-keeps : (bound : ℕ) (a : Statement) → StatementKeeps bound a → ArmsKeep bound NoArm (Else a)
unfolding meaning lower_statement IsStatement
else-keeps bound a keeps = λ x numbers breaks continues from back ways c active set spots entry s m related met.
    let p = set.placed in
    let d = code_behind x ways a c in
    let whole : IsSet x numbers breaks continues from back ways a c = record {
      typed = set.last;
      placed = record { slots = p.slots; suits = p.suits; scope = p.scope; labels = p.labels; behind = p.behind; code = p.code; temps = p.temps };
    } in
    meets-less x.world bound m (meaning a entry (calls x.world bound) (env_of x numbers) s)
    (HasLeft x numbers spots back ways (GoesOut x back (labels_in a) c) d s m) (HasLeft x numbers spots back ways (GoesOn x back (labels_in a) c) d s m)
    (keeps x numbers breaks continues from back ways c active whole spots entry s m related met)
    (λ flow t n h. left-less x numbers spots back back ways (GoesOut x back (labels_in a) c) (GoesOn x back (labels_in a) c) d s m flow t n (λ k w. w)
    (λ l r g. record { named = g.named; leaving = g.leaving; counts = λ w. absurd (g.elsewhere w) }) h)

-- ---- arms

-- labels that stand in order one way do so the other
module _ (x : Activation) (own1 own2 own3 cased1 cased2 cased3 : List ℕ) (c : Code) where
  pub labelled-inner : AreLabelled x ((own1 ++ own2) ++ own3) ((cased1 ++ cased2) ++ cased3) c → AreLabelled x (own1 ++ (own2 ++ own3)) (cased1 ++ (cased2 ++ cased3)) c
  labelled-inner a =
      subst (λ (ls : List ℕ). AreLabelled x ls (cased1 ++ (cased2 ++ cased3)) c) (append_assoc own1 own2 own3)
      (subst (λ (ks : List ℕ). AreLabelled x ((own1 ++ own2) ++ own3) ks c) (append_assoc cased1 cased2 cased3) a)

  pub part-outer :
      (bound : ℕ) (numbers : Numbers) (back : List ℕ) (ways : Ways) (act : Entry → Act Flow) (d : Code)
      → PartKeeps bound x numbers back (own1 ++ (own2 ++ own3)) (cased1 ++ (cased2 ++ cased3)) ways (GoesOn x back (own1 ++ (own2 ++ own3)) c) act c d
      → PartKeeps bound x numbers back ((own1 ++ own2) ++ own3) ((cased1 ++ cased2) ++ cased3) ways (GoesOn x back ((own1 ++ own2) ++ own3) c) act c d
  part-outer bound numbers back ways act d p =
      subst (λ (ls : List ℕ). PartKeeps bound x numbers back ls ((cased1 ++ cased2) ++ cased3) ways (GoesOn x back ls c) act c d) (sym (append_assoc own1 own2 own3))
      (subst (λ (ks : List ℕ). PartKeeps bound x numbers back (own1 ++ (own2 ++ own3)) ks ways (GoesOn x back (own1 ++ (own2 ++ own3)) c) act c d) (sym (append_assoc cased1 cased2 cased3)) p)

slots-of : (x : Activation) (us vs ws zs : List ℕ) → HaveSlots x (((us ++ vs) ++ ws) ++ zs) → HaveSlots x us
slots-of x us vs ws zs h k w = h k (Contains-append_left ((us ++ vs) ++ ws) zs k (Contains-append_left (us ++ vs) ws k (Contains-append_left us vs k w)))

-- an arm alone
pub last-arm-keeps : Laws → (bound t : ℕ) (e : Expression) (a : Statement) → ConditionsKeep bound → StatementKeeps bound a → ArmsKeep bound (Arm t e a NoArm) NoElse
unfolding meaning lower_statement IsStatement give later-same
last-arm-keeps laws bound t e a conditions first = λ x numbers breaks continues from back ways c active set.
    let v = lower (home_of x) e c in
    let join = v.code.blocks + 1 in
    let d = code_of_arm x e 2 c in
    let inner = code_behind x ways a d in
    let last = cut_here (Jump join) join inner in
    let others : Entry → Act Flow = λ entry. give Normal in
    let R : List Spot → State → Machine → Flow → State → Machine → Type 0 = λ spots s m. HasLeft x numbers spots back ways (GoesOn x back (labels_in a ++ []) c) last s m in
    let there : join < length (graph_of x).blocks = slice_get_within (graph_of x).blocks join set.placed.code.filled.block set.placed.code.filled.there in
    let inner-set = (laws.arms x numbers breaks continues from back ways t e a c active).0 set in
    let labelled = labelled-inner x (labels_in a) [] [] (cases_in a) [] [] c set.placed.labels in
    let slots = slots-of x (addressed_in e) (addressed_in_statement a) [] [] set.placed.slots in
    let ends : (r : Machine) → IsBehind (graph_of x) inner r → IsAtEnd (Jump join) r = λ r b. behind-end (graph_of x) (Jump join) join inner.depth inner r set.placed.code b in
    let by-front : (spots : List Spot) (s : State) (m : Machine) → Related x numbers spots s m → IsAt (graph_of x) join [] m → Meets x.world bound m (others Front s) (R spots s m) =
    λ spots s m related at. meets-here x.world bound m Normal s (R spots s m) (record { later = later-same x numbers spots s m related; exit = at }) in
    let by-label : (l : ℕ) (spots : List Spot) (s : State) (m : Machine) → IsOpen [] [] l → ¬ Contains (cases_in a) l → Related x numbers spots s m → IsAt (graph_of x) (block_of_label c l) [] m → Meets x.world bound m (others (At_label l) s) (R spots s m) =
    λ l spots s m o free related at. none-in l o.0 in
    let p = arm-meets laws bound 2 join e a [] [] conditions first x numbers breaks continues from back ways c last others active set.typed.0 slots set.placed.temps inner-set labelled ends (λ r at. at) there by-front by-label in
    part-outer x (labels_in a) [] [] (cases_in a) [] [] c bound numbers back ways (λ entry. does_arms (Arm t e a NoArm) NoElse entry (calls x.world bound) (env_of x numbers)) last
    (λ spots entry s m related met.
    by-entry (λ en. IsMet (graph_of x) (labels_in a ++ []) (cases_in a ++ []) c en m → Meets x.world bound m (does_arms (Arm t e a NoArm) NoElse en (calls x.world bound) (env_of x numbers) s) (R spots s m)) entry
    (λ behind. p.0 spots s m related behind) (λ l at. p.1 l spots s m related at.0 at.1) met)

-- an arm before others
module _
    (laws : Laws) (bound t : ℕ) (e : Expression) (a : Statement) (rest : Arms) (otherwise : Otherwise) (more : HasMore rest otherwise)
    (conditions : ConditionsKeep bound) (first : StatementKeeps bound a) (later : ArmsKeep bound rest otherwise)
    (x : Activation) (numbers : Numbers) (breaks continues : Bool) (from : ℕ) (back : List ℕ) (ways : Ways) (c : Code)
    (active : IsActivation x) (set : AreArmsSet x numbers breaks continues from back ways (Arm t e a rest) otherwise c) where
  sets : IsSet x numbers breaks continues from back ways a (code_of_arm x e 3 c)
      × AreArmsSet x numbers breaks continues from (back ++ named_blocks x (labels_in a) c) ways rest otherwise (code_between x ways e a c)
  sets = (laws.arms x numbers breaks continues from back ways t e a c active).1 rest otherwise more set

  labelled : AreLabelled x (labels_in a ++ labels_of_if rest otherwise) (cases_in a ++ cases_of_if rest otherwise) c
  labelled = labelled-inner x (labels_in a) (labels_of_arms rest) (labels_behind otherwise) (cases_in a) (cases_of_arms rest) (cases_behind otherwise) c set.placed.labels

  kept : KeepLabels (code_of_arm x e 3 c) (code_between x ways e a c) (cases_in a)
  kept =
      let k = laws.labels x.home.tree x.function breaks continues from (lowering_of x) ways a (code_of_arm x e 3 c) sets.0.typed (fits-in x (labels_in a) (cases_in a) (code_of_arm x e 3 c) sets.0.placed.labels) in
      record { count = k.count; others = k.others }

  same : (l : ℕ) → ¬ Contains (cases_in a) l → block_of_label (code_between x ways e a c) l ≡ block_of_label c l
  same l free = kept.others l free ∙ same-block c (code_of_arm x e 3 c) l (laws.alike (home_of x) e c)

  same-named : (l : ℕ) → Contains x.function.named l → block_of_label (code_between x ways e a c) l ≡ block_of_label c l
  same-named l w = same l (named-free x (labels_in a) (cases_in a) (code_of_arm x e 3 c) l sets.0.placed.labels w)

  -- the code behind all arms
  abbrev join : ℕ
  join = (lower (home_of x) e c).code.blocks + 2

  abbrev rest-code : Code
  rest-code = code_of_if x ways rest otherwise (code_between x ways e a c)

  module _ (whole : ContainsCode (graph_of x) (cut_here (Jump join) join rest-code)) where
    there : join < length (graph_of x).blocks
    there = slice_get_within (graph_of x).blocks join whole.filled.block whole.filled.there

    between : ContainsCode (graph_of x) (code_between x ways e a c)
    between = before-arms laws x ways rest otherwise (code_between x ways e a c) (before-cut (graph_of x) (Jump join) join rest-code.depth rest-code whole)

    rest-meets :
        (spots : List Spot) (entry : Entry) (s : State) (m : Machine) → Related x numbers spots s m
        → IsMet (graph_of x) (labels_of_if rest otherwise) (cases_of_if rest otherwise) (code_between x ways e a c) entry m
        → Meets x.world bound m (does_arms rest otherwise entry (calls x.world bound) (env_of x numbers) s)
        (HasLeft x numbers spots back ways (GoesOn x back (labels_in a ++ labels_of_if rest otherwise) c) (cut_here (Jump join) join rest-code) s m)
    rest-meets spots entry s m related met =
        let behind = back ++ named_blocks x (labels_in a) c in
        let d = code_between x ways e a c in
        let act = does_arms rest otherwise entry (calls x.world bound) (env_of x numbers) s in
        let G = GoesOn x back (labels_in a ++ labels_of_if rest otherwise) c in
        meets-on laws x.world bound m act (HasLeft x numbers spots behind ways (GoesOn x behind (labels_of_if rest otherwise) d) rest-code s m) (HasLeft x numbers spots back ways G (cut_here (Jump join) join rest-code) s m)
        (later x numbers breaks continues from behind ways d active sets.1 spots entry s m related met)
        (λ flow t n h.
        left-joins laws x numbers spots back ways G join rest-code (cut_here (Jump join) join rest-code) s m flow t n related
        (λ r b. behind-end (graph_of x) (Jump join) join rest-code.depth rest-code r whole b) (λ r at. at) there
        (left-less x numbers spots back behind ways (GoesOn x behind (labels_of_if rest otherwise) d) G rest-code s m flow t n (λ k w. Contains-append_left back (named_blocks x (labels_in a) c) k w)
        (goes-on-behind x back (labels_in a) (labels_of_if rest otherwise) c d same-named) h))

    pub arms-meet :
        ((spots : List Spot) (s : State) (m : Machine) → Related x numbers spots s m → IsBehind (graph_of x) c m
        → Meets x.world bound m ((condition e (calls x.world bound) (env_of x numbers)
        >>= λ which. branch which (meaning a Front (calls x.world bound) (env_of x numbers)
        >>= go_forward (labels_of_if rest otherwise) (λ entry. does_arms rest otherwise entry (calls x.world bound) (env_of x numbers)) (give Normal)) (does_arms rest otherwise Front (calls x.world bound) (env_of x numbers))) s)
        (HasLeft x numbers spots back ways (GoesOn x back (labels_in a ++ labels_of_if rest otherwise) c) (cut_here (Jump join) join rest-code) s m))
        × ((l : ℕ) (spots : List Spot) (s : State) (m : Machine) → Related x numbers spots s m → IsOpen (labels_in a ++ labels_of_if rest otherwise) (cases_in a ++ cases_of_if rest otherwise) l → IsAt (graph_of x) (block_of_label c l) [] m
        → Meets x.world bound m (branch (holds (labels_in a) l) (meaning a (At_label l) (calls x.world bound) (env_of x numbers)
        >>= go_forward (labels_of_if rest otherwise) (λ entry. does_arms rest otherwise entry (calls x.world bound) (env_of x numbers)) (give Normal)) (does_arms rest otherwise (At_label l) (calls x.world bound) (env_of x numbers)) s)
        (HasLeft x numbers spots back ways (GoesOn x back (labels_in a ++ labels_of_if rest otherwise) c) (cut_here (Jump join) join rest-code) s m))
    unfolding IsStatement
    arms-meet =
        arm-meets laws bound 3 join e a (labels_of_if rest otherwise) (cases_of_if rest otherwise) conditions first x numbers breaks continues from back ways c (cut_here (Jump join) join rest-code)
        (λ entry. does_arms rest otherwise entry (calls x.world bound) (env_of x numbers)) active set.typed.0
        (slots-of x (addressed_in e) (addressed_in_statement a) (addressed_in_arms rest) (addressed_in_otherwise otherwise) set.placed.slots) set.placed.temps sets.0 labelled
        (λ r b. behind-end (graph_of x) (Jump join) ((lower (home_of x) e c).code.blocks + 1) (code_behind x ways a (code_of_arm x e 3 c)).depth (code_behind x ways a (code_of_arm x e 3 c)) r between b) (λ r at. at) there
        (λ spots s m related at. rest-meets spots Front s m related at)
        (λ l spots s m o free related at. rest-meets spots (At_label l) s m related (o, subst (λ (b : ℕ). IsAt (graph_of x) b [] m) (sym (same l free)) at))

    pub arms-part :
        PartKeeps bound x numbers back ((labels_in a ++ labels_of_arms rest) ++ labels_behind otherwise) ((cases_in a ++ cases_of_arms rest) ++ cases_behind otherwise) ways
        (GoesOn x back ((labels_in a ++ labels_of_arms rest) ++ labels_behind otherwise) c) (λ entry. does_arms (Arm t e a rest) otherwise entry (calls x.world bound) (env_of x numbers)) c (cut_here (Jump join) join rest-code)
    unfolding meaning
    arms-part =
        part-outer x (labels_in a) (labels_of_arms rest) (labels_behind otherwise) (cases_in a) (cases_of_arms rest) (cases_behind otherwise) c bound numbers back ways
        (λ entry. does_arms (Arm t e a rest) otherwise entry (calls x.world bound) (env_of x numbers)) (cut_here (Jump join) join rest-code)
        (λ spots entry s m related met.
        by-entry (λ en. IsMet (graph_of x) (labels_in a ++ labels_of_if rest otherwise) (cases_in a ++ cases_of_if rest otherwise) c en m
        → Meets x.world bound m (does_arms (Arm t e a rest) otherwise en (calls x.world bound) (env_of x numbers) s)
        (HasLeft x numbers spots back ways (GoesOn x back (labels_in a ++ labels_of_if rest otherwise) c) (cut_here (Jump join) join rest-code) s m)) entry
        (λ behind. arms-meet.0 spots s m related behind) (λ l at. arms-meet.1 l spots s m related at.0 at.1) met)

pub arm-keeps : Laws → (bound t : ℕ) (e : Expression) (a : Statement) (rest : Arms) (otherwise : Otherwise) → ConditionsKeep bound → StatementKeeps bound a → ArmsKeep bound rest otherwise → ArmsKeep bound (Arm t e a rest) otherwise
unfolding lower_statement
arm-keeps laws bound t e a NoArm NoElse conditions first later = last-arm-keeps laws bound t e a conditions first
arm-keeps laws bound t e a NoArm (Else b) conditions first later = λ x numbers breaks continues from back ways c active set.
    arms-part laws bound t e a NoArm (Else b) tt conditions first later x numbers breaks continues from back ways c active set set.placed.code
arm-keeps laws bound t e a (Arm u f b rest) otherwise conditions first later = λ x numbers breaks continues from back ways c active set.
    arms-part laws bound t e a (Arm u f b rest) otherwise tt conditions first later x numbers breaks continues from back ways c active set set.placed.code
