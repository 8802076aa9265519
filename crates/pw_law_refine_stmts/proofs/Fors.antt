-- `for`: three parts, each of which may be left out.
use Rattle.std.proofs.Common.{◌≡◌, ℕ, ◌+◌, ◌<◌, ◌≤◌, Bool, true, false, if◌then◌else◌, Option, Some, None, List, [], ◌∷◌, ◌++◌, length, refl, ◌∙◌, arith}
use Rattle.std.proofs.lemmas.List.Elements.{Contains-append_left, Contains-append_right}
use Rattle.std.proofs.lemmas.Option.{slice_get_within}
use Rattle.pw_types.specs.Labels.{labels_in, cases_in}
use Rattle.pw_types.specs.TypedModules.{IsStatement}
use Rattle.pw_types.specs.TypedTrees.{Expression, Statement, For}
use Rattle.pw_types.specs.WellTyped.{IsTypedOrAbsent, IsConditionOrAbsent}
use Rattle.pw_flow.specs.declared.flow.End.TheVariants.{Jump, Branch}
use Rattle.pw_flow.specs.declared.flow.FlowFn.{FlowFn}
use Rattle.pw_lower.specs.declared.code.Code.{Code}
use Rattle.pw_lower.specs.declared.place.Ways.{Ways}
use Rattle.pw_lower.specs.Codes.{temp_of, reserve, cut}
use Rattle.pw_lower.specs.Places.{addressed_in_option, addressed_in_statement}
use Rattle.pw_lower.specs.Expressions.{Home, lower}
use Rattle.pw_lower.specs.Statements.{effects, test_or_go, lower_statement}
use Rattle.pw_cmean.specs.Acts.{State, give, ◌>>=◌}
use Rattle.pw_cmean.specs.Evaluation.{answer_of}
use Rattle.pw_cmean.specs.Execution.{Front, At_label, condition, for_condition, drop_value, meet_loop, meaning}
use Rattle.pw_cmean.specs.SourceRun.{calls}
use Rattle.pw_run_languages.specs.FlowRun.{Machine}
use Rattle.pw_law_refine.specs.Standing.{Spot}
use Rattle.pw_law_refine.specs.Activations.{Activation, IsActivation, Numbers, graph_of, home_of, env_of, lowering_of, local_temps, HaveSlots}
use Rattle.pw_law_refine.specs.Matching.{Related, Later}
use Rattle.pw_law_refine.specs.Containing.{ContainsCode, IsAt, IsBehind}
use Rattle.pw_law_refine.specs.Meeting.{Meets}
use Rattle.pw_law_refine.specs.Expressions.{IsReady, HasResult, HasChosen, ExpressionsKeep, ConditionsKeep}
use Rattle.pw_law_refine.specs.Statements.{IsSet, IsLeaving, GoesOut, HasLeft, PartKeeps, StatementKeeps, code_behind}
use Rattle.pw_law_refine.specs.StatementParts.{from_top, LoopKeeps}
use Rattle.pw_law_refine_code.specs.Setting.{code_of_for}
use Rattle.pw_law_refine_stmts.specs.Bounds.{UpTo}
use Rattle.pw_law_refine_stmts.proofs.Laws.{Laws}
use Rattle.pw_law_refine_stmts.proofs.Simulation.{ComesTo, meets-then, meets-less, meets-path, meets-here}
use Rattle.pw_law_refine_stmts.proofs.Jumps.{HasJumped, before-cut, behind-end, meets-jump, later-jump, later-same, later-then}
use Rattle.pw_law_refine_stmts.proofs.Leaving.{leaving-end, left-then}
use Rattle.pw_law_refine_stmts.proofs.CodeBefore.{before-effects}
use Rattle.pw_law_refine_stmts.proofs.Loops.{Enters, IsAhead, IsTurned, IsLoop, inside-meets, top-meets}
use Rattle.pw_law_refine_stmts.proofs.Whiles.{not-behind, turned-back}

-- ---- a part that may be left out

record HasEffects (x : Activation) (numbers : Numbers) (spots : List Spot) (d : Code) (s : State) (m : Machine) (done : Unit {0}) (t : State) (n : Machine) : Type 0 where
  later : Later x numbers spots s m t n
  behind : IsBehind (graph_of x) d n

effects-meet :
    Laws → (k : ℕ) (e : Option Expression) → ExpressionsKeep k → (x : Activation) (numbers : Numbers) (spots : List Spot) (c : Code) (s : State) (m : Machine)
    → IsActivation x → IsTypedOrAbsent x.home.tree x.function.locals e → HaveSlots x (addressed_in_option e) → ContainsCode (graph_of x) (effects (home_of x) e c) → IsReady x numbers spots c s m
    → Meets x.world k m (drop_value e (calls x.world k) (env_of x numbers) s) (HasEffects x numbers spots (effects (home_of x) e c) s m)
unfolding drop_value give ◌>>=◌ later-same
effects-meet laws k None keeps x numbers spots c s m active typed slots code ready =
    meets-here x.world k m tt s (HasEffects x numbers spots c s m) (record { later = later-same x numbers spots s m ready.related; behind = ready.behind })
effects-meet laws k (Some a) keeps x numbers spots c s m active typed slots code ready =
    meets-then laws x.world k m (answer_of a (calls x.world k) (env_of x numbers) s) (λ dropped. give tt) (HasResult x numbers spots a c s m) (HasEffects x numbers spots (lower (home_of x) a c).code s m)
    (keeps a x numbers spots c s m active typed slots code ready)
    (λ r u n q. meets-here x.world k n tt u (HasEffects x numbers spots (lower (home_of x) a c).code s m) (record { later = q.done.later; behind = q.behind }))

effects-labels : Laws → (h : Home) (e : Option Expression) (c : Code) → (effects h e c).labels ≡ c.labels
effects-labels laws h None c = refl
effects-labels laws h (Some a) c = laws.alike h a c

effects-temps : Laws → (h : Home) (e : Option Expression) (c : Code) → c.temps ≤ (effects h e c).temps
effects-temps laws h None c = omega arith
effects-temps laws h (Some a) c = (laws.later h a c).temps

test-labels : Laws → (h : Home) (e : Option Expression) (so other depth : ℕ) (c : Code) → (test_or_go h e so other depth c).labels ≡ c.labels
test-labels laws h None so other depth c = refl
test-labels laws h (Some a) so other depth c = laws.alike h a c

test-temps : Laws → (h : Home) (e : Option Expression) (so other depth : ℕ) (c : Code) → c.temps ≤ (test_or_go h e so other depth c).temps
test-temps laws h None so other depth c = omega arith
test-temps laws h (Some a) so other depth c = (laws.later h a c).temps

before-test : Laws → (g : FlowFn) (h : Home) (e : Option Expression) (so other depth : ℕ) (c : Code) → ContainsCode g (test_or_go h e so other depth c) → ContainsCode g c
before-test laws g h None so other depth c w = before-cut g (Jump so) so depth c w
before-test laws g h (Some a) so other depth c w =
    let v = lower h a c in
    laws.contain g h a c (before-cut g (Branch (temp_of v) so other) so depth v.code w)

-- the condition, from the front of its block
tests-meet :
    Laws → (k : ℕ) (e : Option Expression) → ConditionsKeep k → (x : Activation) (numbers : Numbers) (spots : List Spot) (so other depth : ℕ) (c : Code) (s : State) (m : Machine)
    → IsActivation x → IsConditionOrAbsent x.home.tree x.function.locals e → HaveSlots x (addressed_in_option e) → ContainsCode (graph_of x) (test_or_go (home_of x) e so other depth c) → IsReady x numbers spots c s m
    → Meets x.world k m (for_condition e (calls x.world k) (env_of x numbers) s) (IsAhead x numbers spots (test_or_go (home_of x) e so other depth c) other s m)
unfolding for_condition give later-jump
tests-meet laws k None conditions x numbers spots so other depth c s m active typed slots code ready =
    let d = cut (Jump so) so depth c in
    meets-jump laws k x numbers spots s m so (give true s) (IsAhead x numbers spots d other s m) ready.related (behind-end (graph_of x) (Jump so) so depth c m code ready.behind)
    (slice_get_within (graph_of x).blocks so code.filled.block code.filled.there)
    (λ r j. meets-here x.world k r true s (IsAhead x numbers spots d other s m) (record { later = later-jump x numbers spots so s m r j; at = j.front }))
tests-meet laws k (Some a) conditions x numbers spots so other depth c s m active typed slots code ready =
    let d = test_or_go (home_of x) (Some a) so other depth c in
    meets-less x.world k m (condition a (calls x.world k) (env_of x numbers) s) (HasChosen x numbers spots a so other c s m) (IsAhead x numbers spots d other s m)
    (conditions x numbers spots a so other so depth c s m active typed.0 slots typed.1 code ready)
    (λ which u n h. record { later = h.done.later; at = enters which n h.front })
  where
    enters : (which : Bool) (n : Machine) → IsAt (graph_of x) (if which then so else other) [] n → Enters x (test_or_go (home_of x) (Some a) so other depth c) other which n
    enters true n h = h
    enters false n h = h

-- ---- the loop

module _
    (laws : Laws) (bound t : ℕ) (first e third : Option Expression) (body : Statement) (expressions : UpTo bound ExpressionsKeep) (conditions : UpTo bound ConditionsKeep)
    (keeps : UpTo bound (λ k. StatementKeeps k body))
    (x : Activation) (numbers : Numbers) (breaks continues : Bool) (from : ℕ) (back : List ℕ) (ways : Ways) (c : Code)
    (active : IsActivation x) (set : IsSet x numbers breaks continues from back ways (For t first e third body) c) where
  abbrev for-ways : Ways
  for-ways = record { out = c.blocks + 3; on = c.blocks + 2 }

  abbrev for-first : Code
  for-first = effects (home_of x) first (reserve 4 c)

  abbrev for-top : Code
  for-top = cut (Jump c.blocks) c.blocks (c.depth + 1) for-first

  abbrev for-turned : Code
  for-turned = code_behind x for-ways body (code_of_for x first e c)

  abbrev for-on : Code
  for-on = cut (Jump (c.blocks + 2)) (c.blocks + 2) (c.depth + 1) for-turned

  abbrev for-third : Code
  for-third = effects (home_of x) third for-on

  abbrev for-behind : Code
  for-behind = cut (Jump c.blocks) (c.blocks + 3) c.depth for-third

  for-set : IsSet x numbers true true from (back ++ c.blocks ∷ []) for-ways body (code_of_for x first e c)
  for-set = (laws.loops x numbers breaks continues from back ways t body c active).2 first e third set

  for-code : ContainsCode (graph_of x) for-behind
  unfolding lower_statement
  for-code = set.placed.code

  third-code : ContainsCode (graph_of x) for-third
  third-code = before-cut (graph_of x) (Jump c.blocks) (c.blocks + 3) c.depth for-third for-code

  on-code : ContainsCode (graph_of x) for-on
  on-code = before-effects laws x third for-on third-code

  entered-code : ContainsCode (graph_of x) (code_of_for x first e c)
  entered-code = laws.contains (graph_of x) (lowering_of x) for-ways body (code_of_for x first e c) (before-cut (graph_of x) (Jump (c.blocks + 2)) (c.blocks + 2) (c.depth + 1) for-turned on-code)

  top-code : ContainsCode (graph_of x) for-top
  top-code = before-test laws (graph_of x) (home_of x) e (c.blocks + 1) (c.blocks + 3) (c.depth + 1) for-top entered-code

  top-there : c.blocks < length (graph_of x).blocks
  top-there = slice_get_within (graph_of x).blocks c.blocks top-code.filled.block top-code.filled.there

  top-temps : local_temps x ≤ for-top.temps
  top-temps = omega (arith, set.placed.temps, effects-temps laws (home_of x) first (reserve 4 c))

  on-temps : local_temps x ≤ for-on.temps
  on-temps =
      omega (
        arith,
        top-temps,
        test-temps laws (home_of x) e (c.blocks + 1) (c.blocks + 3) (c.depth + 1) for-top,
        (laws.grows (lowering_of x) for-ways body (code_of_for x first e c)).temps,
      )

  slots-first : HaveSlots x (addressed_in_option first)
  slots-first i w =
      set.placed.slots i (Contains-append_left (addressed_in_option first ++ addressed_in_option e ++ addressed_in_option third) (addressed_in_statement body) i
      (Contains-append_left (addressed_in_option first ++ addressed_in_option e) (addressed_in_option third) i (Contains-append_left (addressed_in_option first) (addressed_in_option e) i w)))

  slots-second : HaveSlots x (addressed_in_option e)
  slots-second i w =
      set.placed.slots i (Contains-append_left (addressed_in_option first ++ addressed_in_option e ++ addressed_in_option third) (addressed_in_statement body) i
      (Contains-append_left (addressed_in_option first ++ addressed_in_option e) (addressed_in_option third) i (Contains-append_right (addressed_in_option first) (addressed_in_option e) i w)))

  slots-third : HaveSlots x (addressed_in_option third)
  slots-third i w =
      set.placed.slots i (Contains-append_left (addressed_in_option first ++ addressed_in_option e ++ addressed_in_option third) (addressed_in_statement body) i
      (Contains-append_right (addressed_in_option first ++ addressed_in_option e) (addressed_in_option third) i w))

  -- the third part, and the way back
  abbrev AtTop : Bool → Machine → Type 0
  AtTop true n = IsAt (graph_of x) c.blocks [] n
  AtTop false n = ⊥

  record HasRunThird (spots : List Spot) (s : State) (m : Machine) (more : Bool) (u : State) (n : Machine) : Type 0 where
    later : Later x numbers spots s m u n
    at : AtTop more n

  third-meets : (k : ℕ) → k ≤ bound → (spots : List Spot) (s : State) (m : Machine) → Related x numbers spots s m → IsAt (graph_of x) (c.blocks + 2) [] m
      → Meets x.world k m ((drop_value third (calls x.world k) (env_of x numbers) >>= λ done. give true) s) (HasRunThird spots s m)
  unfolding ◌>>=◌ give later-jump IsStatement
  third-meets k less spots s m related at =
      meets-then laws x.world k m (drop_value third (calls x.world k) (env_of x numbers) s) (λ done. give true) (HasEffects x numbers spots for-third s m) (HasRunThird spots s m)
      (effects-meet laws k third (expressions k less) x numbers spots for-on s m active set.typed.2 slots-third third-code (record { related = related; behind = at; temps = on-temps }))
      (λ done u n h.
      meets-jump laws k x numbers h.later.spots u n c.blocks (give true u) (HasRunThird spots s m) h.later.related (behind-end (graph_of x) (Jump c.blocks) (c.blocks + 3) c.depth for-third n for-code h.behind) top-there
      (λ r j. meets-here x.world k r true u (HasRunThird spots s m)
      (record { later = later-then laws x numbers spots s u u m n r related h.later (later-jump x numbers h.later.spots c.blocks u n r j); at = j.front })))

  for-turns : (k : ℕ) → k ≤ bound → (spots : List Spot) (s : State) (m : Machine) → Related x numbers spots s m → IsLeaving (back ++ c.blocks ∷ []) (c.blocks + 2) m
      → Meets x.world k m ((drop_value third (calls x.world k) (env_of x numbers) >>= λ done. give true) s) (IsTurned x numbers spots c.blocks (c.blocks + 3) s m)
  unfolding later-jump
  for-turns k less spots s m related leaving =
      let act = drop_value third (calls x.world k) (env_of x numbers) >>= λ done. give true in
      let on = c.blocks + 2 in
      meets-jump laws k x numbers spots s m on (act s) (IsTurned x numbers spots c.blocks (c.blocks + 3) s m) related (leaving-end (back ++ c.blocks ∷ []) on m leaving)
      (slice_get_within (graph_of x).blocks on on-code.filled.block on-code.filled.there)
      (λ r j.
      meets-less x.world k r (act s) (λ more u n. HasRunThird spots s r more u n × ComesTo x.world r n) (IsTurned x numbers spots c.blocks (c.blocks + 3) s m)
      (meets-path x.world k r (act s) (HasRunThird spots s r) (third-meets k less spots s r j.related j.front))
      (λ more u n h. turned more u n r j h.0.later h.0.at h.1))
    where
      turned :
          (more : Bool) (u : State) (n r : Machine) → HasJumped x numbers spots (c.blocks + 2) s m r → Later x numbers spots s r u n → AtTop more n → ComesTo x.world r n
          → IsTurned x numbers spots c.blocks (c.blocks + 3) s m more u n
      turned true u n r j later at path = record {
        later = later-then laws x numbers spots s s u m r n related (later-jump x numbers spots (c.blocks + 2) s m r j) later;
        at = (at, turned-back x numbers spots later.spots c.blocks (c.blocks + 2) s u m r n (omega arith) j later.related path at);
      }
      turned false u n r j later at path = absurd at

  for-parts :
      IsLoop bound x numbers back (labels_in body) (cases_in body) for-ways c.blocks c (code_of_for x first e c) for-turned for-behind
      (λ cs. for_condition e cs (env_of x numbers)) (λ entry cs. meaning body entry cs (env_of x numbers)) (λ cs. drop_value third cs (env_of x numbers) >>= λ done. give true)
  unfolding IsStatement
  for-parts = record {
    tests = λ k less spots s m related at.
        tests-meet laws k e (conditions k less) x numbers spots (c.blocks + 1) (c.blocks + 3) (c.depth + 1) for-top s m active set.typed.1 slots-second entered-code
        (record { related = related; behind = at; temps = top-temps });
    runs = λ k less. keeps k less x numbers true true from (back ++ c.blocks ∷ []) for-ways (code_of_for x first e c) active for-set;
    ends = λ m b. (let at = behind-end (graph_of x) (Jump (c.blocks + 2)) (c.blocks + 2) (c.depth + 1) for-turned m on-code b in record {
      ops = at.ops;
      end = at.end;
      counts = λ w h. not-behind back (labels_in body) (cases_in body) c (c.blocks + 2) set.placed.behind (omega arith) w;
    });
    turns = for-turns;
    out = λ m at. at;
    there = slice_get_within (graph_of x).blocks (c.blocks + 3) for-code.filled.block for-code.filled.there;
    same = test-labels laws (home_of x) e (c.blocks + 1) (c.blocks + 3) (c.depth + 1) for-top ∙ effects-labels laws (home_of x) first (reserve 4 c);
  }

  pub for-loops : (spots : List Spot) (s : State) (m : Machine) → Related x numbers spots s m → IsAt (graph_of x) c.blocks [] m
      → Meets x.world bound m (from_top (For t first e third body) (calls x.world bound) (env_of x numbers) s) (HasLeft x numbers spots back ways (GoesOut x back (labels_in body) c) for-behind s m)
  for-loops =
      top-meets laws bound x numbers back (labels_in body) (cases_in body) ways for-ways c.blocks c (code_of_for x first e c) for-turned for-behind
      (λ cs. for_condition e cs (env_of x numbers)) (λ entry cs. meaning body entry cs (env_of x numbers)) (λ cs. drop_value third cs (env_of x numbers) >>= λ done. give true) for-parts

  pub for-meets : PartKeeps bound x numbers back (labels_in body) (cases_in body) ways (GoesOut x back (labels_in body) c)
      (λ entry. meaning (For t first e third body) entry (calls x.world bound) (env_of x numbers)) c for-behind
  unfolding meaning meet_loop later-jump later-then IsStatement ◌>>=◌
  for-meets spots Front s m related met =
      let act = from_top (For t first e third body) (calls x.world bound) (env_of x numbers) in
      let R = HasLeft x numbers spots back ways (GoesOut x back (labels_in body) c) for-behind s m in
      meets-then laws x.world bound m (drop_value first (calls x.world bound) (env_of x numbers) s) (λ done. act) (HasEffects x numbers spots for-first s m) R
      (effects-meet laws bound first (expressions bound (omega arith)) x numbers spots (reserve 4 c) s m active set.typed.0 slots-first
      (before-cut (graph_of x) (Jump c.blocks) c.blocks (c.depth + 1) for-first top-code) (record { related = related; behind = met; temps = set.placed.temps }))
      (λ done u n h.
      meets-jump laws bound x numbers h.later.spots u n c.blocks (act u) R h.later.related (behind-end (graph_of x) (Jump c.blocks) c.blocks (c.depth + 1) for-first n top-code h.behind) top-there
      (λ r j. meets-less x.world bound r (act u) (HasLeft x numbers h.later.spots back ways (GoesOut x back (labels_in body) c) for-behind u r) R (for-loops h.later.spots u r j.related j.front)
      (λ flow w q g.
      left-then laws x numbers spots back ways (GoesOut x back (labels_in body) c) for-behind s u m r flow w q related
      (later-then laws x numbers spots s u u m n r related h.later (later-jump x numbers h.later.spots c.blocks u n r j)) g)))
  for-meets spots (At_label l) s m related met =
      inside-meets laws bound x numbers back (labels_in body) (cases_in body) ways for-ways c.blocks c (code_of_for x first e c) for-turned for-behind
      (λ cs. for_condition e cs (env_of x numbers)) (λ entry cs. meaning body entry cs (env_of x numbers)) (λ cs. drop_value third cs (env_of x numbers) >>= λ done. give true) for-parts l spots s m related met.0 met.1

pub for-loop-keeps : Laws → (bound t : ℕ) (first e third : Option Expression) (body : Statement) → UpTo bound ExpressionsKeep → UpTo bound ConditionsKeep → UpTo bound (λ k. StatementKeeps k body) → LoopKeeps bound (For t first e third body)
unfolding lower_statement
for-loop-keeps laws bound t first e third body expressions conditions keeps = λ x numbers spots breaks continues from back ways c s m active set related at.
    for-loops laws bound t first e third body expressions conditions keeps x numbers breaks continues from back ways c active set spots s m related at

pub for-keeps : Laws → (bound t : ℕ) (first e third : Option Expression) (body : Statement) → UpTo bound ExpressionsKeep → UpTo bound ConditionsKeep → UpTo bound (λ k. StatementKeeps k body) → StatementKeeps bound (For t first e third body)
unfolding lower_statement
for-keeps laws bound t first e third body expressions conditions keeps = λ x numbers breaks continues from back ways c active set spots entry s m related met.
    for-meets laws bound t first e third body expressions conditions keeps x numbers breaks continues from back ways c active set spots entry s m related met
