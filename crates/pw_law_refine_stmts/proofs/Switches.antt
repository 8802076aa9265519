-- `switch`: met at its front it goes to a case of its body, and entered at a label into the body.
use Rattle.std.proofs.Common.{◌≡◌, ◌≢◌, ℕ, ◌+◌, ◌<◌, ◌==◌, Bool, true, false, if◌then◌else◌, Option, Some, None, unwrap_or, List, [], ◌∷◌, ◌++◌, map, Contains, length, refl, ap, sym, ◌∙◌, subst, arith, append_assoc, nat_eq}
use Rattle.std.specs.Prelude.{option_to_list}
use Rattle.std.specs.List.{AllByRecursion, IsDistinct}
use Rattle.std.proofs.lemmas.List.Elements.{recursion_from_All, Contains-append_left, Contains-append_right}
use Rattle.std.proofs.lemmas.Option.{slice_get_within, same_Some}
use Rattle.pw_value.specs.declared.value.Value.{Value}
use Rattle.pw_value.specs.declared.value.Value.TheVariants as V
use Rattle.pw_types.specs.Labels.{labels_in, cases_in}
use Rattle.pw_types.specs.TypeTrees.{CType, Void}
use Rattle.pw_types.specs.TypedModules.{IsStatement}
use Rattle.pw_types.specs.TypedTrees.{Expression, CaseValue, Statement, Switch}
use Rattle.pw_types.specs.WellTyped.{IsPromoted, type_in}
use Rattle.pw_flow.specs.declared.flow.End.TheVariants.{Jump}
use Rattle.pw_lower.specs.declared.code.Code.{Code}
use Rattle.pw_lower.specs.declared.place.Ways.{Ways}
use Rattle.pw_lower.specs.Codes.{temp_of, block_of_label, reserve, cut, named_from}
use Rattle.pw_lower.specs.Places.{addressed_in, addressed_in_statement}
use Rattle.pw_lower.specs.Expressions.{lower}
use Rattle.pw_lower.specs.Statements.{labels_of, choose, lower_statement}
use Rattle.pw_cmean.specs.Acts.{State, give, ◌>>=◌}
use Rattle.pw_cmean.specs.Execution.{Front, At_label, Flow, Normal, Breaks, Continues, Returns, Goes, value_of, label_for, switch_to, after_switch, meaning}
use Rattle.pw_cmean.specs.SourceRun.{calls}
use Rattle.pw_cmean.specs.Typed.{IsValueOf}
use Rattle.pw_run_languages.specs.FlowRun.{Machine, value_in}
use Rattle.pw_law_refine.specs.Standing.{Spot, Stands}
use Rattle.pw_law_refine.specs.Activations.{Activation, IsActivation, Numbers, graph_of, home_of, env_of, lowering_of, HaveSlots}
use Rattle.pw_law_refine.specs.Matching.{Related, Later}
use Rattle.pw_law_refine.specs.Containing.{ContainsCode, IsAt, IsBehind}
use Rattle.pw_law_refine.specs.Meeting.{Meets}
use Rattle.pw_law_refine.specs.Expressions.{HasResult, ResultStands, ExpressionsKeep}
use Rattle.pw_law_refine.specs.Statements.{IsOpen, IsSet, GoesOut, HasLeft, PartKeeps, StatementKeeps, code_behind}
use Rattle.pw_law_refine.specs.StatementParts.{HasSwitched}
use Rattle.pw_law_refine_code.specs.Ending.{KeepLabels}
use Rattle.pw_law_refine_code.specs.Setting.{code_of_switch}
use Rattle.pw_law_refine_stmts.proofs.Laws.{Laws}
use Rattle.pw_law_refine_stmts.proofs.Simulation.{meets-then, meets-less, meets-later, meets-here}
use Rattle.pw_law_refine_stmts.proofs.Jumps.{IsAtEnd, before-cut, behind-end, meets-jump, later-jump, later-then}
use Rattle.pw_law_refine_stmts.proofs.Leaving.{leaving-end, left-then}
use Rattle.pw_law_refine_stmts.proofs.Names.{distinct-second, distinct-apart, named-free, fits-in, same-block, goes-out-same}
use Rattle.pw_law_refine_stmts.proofs.Simple.{typed-value}
use Rattle.pw_law_refine_stmts.proofs.Choosing.{before-choose, before-chosen, choose-labels, comparisons-keep}

-- ---- labels of cases

abbrev pub case_labels : List CaseValue → List ℕ
case_labels cases = map (λ (k : CaseValue). k.label) cases

default-leads : (default : Option ℕ) (l : ℕ) → default ≡ Some l → Contains (option_to_list default) l
default-leads None l e = absurd (cc)
default-leads (Some d) l e = (0, omega arith, same_Some d l e)

-- the label to which a value leads is one of a case, or the default's
leads-there : (cases : List CaseValue) (default : Option ℕ) (v : Value) (l : ℕ) → label_for cases default v ≡ Some l → Contains (case_labels cases ++ option_to_list default) l
leads-there [] default v l e = default-leads default l e
leads-there (k ∷ rest) default (V.Num n) l e = by_test (k.value == n) e (λ g. leads-there rest default (V.Num n) l g)
  where
    by_test :
        (w : Bool) → (if w then Some k.label else label_for rest default (V.Num n)) ≡ Some l → (label_for rest default (V.Num n) ≡ Some l → Contains (case_labels rest ++ option_to_list default) l)
        → Contains (case_labels (k ∷ rest) ++ option_to_list default) l
    by_test true g later = (0, omega arith, same_Some k.label l g)
    by_test false g later = Contains-append_right (k.label ∷ []) (case_labels rest ++ option_to_list default) l (later g)
leads-there (k ∷ rest) default V.Undefined l e = Contains-append_right (case_labels (k ∷ rest)) (option_to_list default) l (default-leads default l e)
leads-there (k ∷ rest) default V.Null l e = Contains-append_right (case_labels (k ∷ rest)) (option_to_list default) l (default-leads default l e)
leads-there (k ∷ rest) default (V.At p) l e = Contains-append_right (case_labels (k ∷ rest)) (option_to_list default) l (default-leads default l e)
leads-there (k ∷ rest) default (V.Piece p i) l e = Contains-append_right (case_labels (k ∷ rest)) (option_to_list default) l (default-leads default l e)

-- and stands in the body
stands-in : (own : List ℕ) (cases : List CaseValue) (default : Option ℕ) (v : Value) (l : ℕ)
    → AllByRecursion (λ k. Contains own k.label) cases → ((n : ℕ) → default ≡ Some n → Contains own n) → label_for cases default v ≡ Some l → Contains own l
stands-in own [] default v l all d e = d l e
stands-in own (k ∷ rest) default (V.Num n) l all d e = by_test (k.value == n) e (λ g. stands-in own rest default (V.Num n) l all.1 d g)
  where
    by_test : (w : Bool) → (if w then Some k.label else label_for rest default (V.Num n)) ≡ Some l → (label_for rest default (V.Num n) ≡ Some l → Contains own l) → Contains own l
    by_test true g later = subst (λ (i : ℕ). Contains own i) (same_Some k.label l g) all.0
    by_test false g later = later g
stands-in own (k ∷ rest) default V.Undefined l all d e = d l e
stands-in own (k ∷ rest) default V.Null l all d e = d l e
stands-in own (k ∷ rest) default (V.At p) l all d e = d l e
stands-in own (k ∷ rest) default (V.Piece p i) l all d e = d l e

not-void : (ty : CType) → IsPromoted ty → ty ≢ Void
not-void ty p e = subst IsPromoted e p

-- ---- the statement

module _
    (laws : Laws) (bound t : ℕ) (e : Expression) (cases : List CaseValue) (default : Option ℕ) (body : Statement) (expressions : ExpressionsKeep bound) (keeps : StatementKeeps bound body)
    (x : Activation) (numbers : Numbers) (breaks continues : Bool) (from : ℕ) (back : List ℕ) (ways : Ways) (c : Code)
    (active : IsActivation x) (set : IsSet x numbers breaks continues from back ways (Switch t e cases default body) c) where
  abbrev inner-ways : Ways
  inner-ways = record ways { out = c.blocks }

  abbrev own-cases : List ℕ
  own-cases = case_labels cases ++ (option_to_list default ++ cases_in body)

  abbrev entered : Code
  entered = code_of_switch x e cases default c

  abbrev turned : Code
  turned = code_behind x inner-ways body entered

  abbrev behind : Code
  behind = cut (Jump c.blocks) c.blocks c.depth turned

  abbrev named : Code
  named = named_from (c.blocks + 1) (labels_of cases default) (reserve (1 + length (labels_of cases default)) c)

  abbrev value : Code
  value = (lower (home_of x) e named).code

  abbrev R : List Spot → State → Machine → Flow → State → Machine → Type 0
  R spots s m = HasLeft x numbers spots back ways (GoesOut x back (labels_in body) c) behind s m

  inner-set : IsSet x numbers true continues from back inner-ways body entered
  inner-set = laws.switches x numbers breaks continues from back ways t e cases default body c active set

  code : ContainsCode (graph_of x) behind
  unfolding lower_statement
  code = set.placed.code

  entered-code : ContainsCode (graph_of x) entered
  entered-code = laws.contains (graph_of x) (lowering_of x) inner-ways body entered (before-cut (graph_of x) (Jump c.blocks) c.blocks c.depth turned code)

  value-code : ContainsCode (graph_of x) value
  value-code =
      before-choose (graph_of x) (temp_of (lower (home_of x) e named)) cases value
      (before-chosen (graph_of x) default c.blocks (choose (temp_of (lower (home_of x) e named)) cases value) entered-code)

  out-there : c.blocks < length (graph_of x).blocks
  out-there = slice_get_within (graph_of x).blocks c.blocks code.filled.block code.filled.there

  -- labels that are no cases of the switch keep their blocks
  whole-keeps : KeepLabels c behind own-cases
  unfolding lower_statement
  whole-keeps =
      laws.labels x.home.tree x.function breaks continues from (lowering_of x) ways (Switch t e cases default body) c set.typed (fits-in x (labels_in body) own-cases c set.placed.labels)

  body-keeps : KeepLabels entered turned (cases_in body)
  body-keeps = laws.labels x.home.tree x.function true continues from (lowering_of x) inner-ways body entered inner-set.typed (fits-in x (labels_in body) (cases_in body) entered inner-set.placed.labels)

  inner-free : (l : ℕ) → ¬ Contains own-cases l → ¬ Contains (cases_in body) l
  inner-free l free w = free (Contains-append_right (case_labels cases) (option_to_list default ++ cases_in body) l (Contains-append_right (option_to_list default) (cases_in body) l w))

  same : (l : ℕ) → ¬ Contains own-cases l → block_of_label entered l ≡ block_of_label c l
  same l free = sym (body-keeps.others l (inner-free l free)) ∙ whole-keeps.others l free

  -- behind the body
  body-meets :
      (l : ℕ) (spots : List Spot) (s : State) (m : Machine) → Related x numbers spots s m → IsOpen (labels_in body) (cases_in body) l → IsAt (graph_of x) (block_of_label entered l) [] m
      → Meets x.world bound m ((meaning body (At_label l) (calls x.world bound) (env_of x numbers) >>= after_switch) s) (R spots s m)
  unfolding ◌>>=◌ give later-jump after_switch
  body-meets l spots s m related o at =
      meets-then laws x.world bound m (meaning body (At_label l) (calls x.world bound) (env_of x numbers) s) after_switch
      (HasLeft x numbers spots back inner-ways (GoesOut x back (labels_in body) entered) turned s m) (R spots s m)
      (keeps x numbers true continues from back inner-ways entered active inner-set spots (At_label l) s m related (o, at))
      (λ flow u n h. by_flow flow u n h)
    where
      to-out : (u : State) (n : Machine) → (later : Later x numbers spots s m u n) → IsAtEnd (Jump c.blocks) n → Meets x.world bound n (give Normal u) (R spots s m)
      to-out u n later at =
          meets-jump laws bound x numbers later.spots u n c.blocks (give Normal u) (R spots s m) later.related at out-there
          (λ r j. meets-here x.world bound r Normal u (R spots s m)
          (record { later = later-then laws x numbers spots s u u m n r related later (later-jump x numbers later.spots c.blocks u n r j); exit = j.front }))

      by_flow : (flow : Flow) (u : State) (n : Machine) → HasLeft x numbers spots back inner-ways (GoesOut x back (labels_in body) entered) turned s m flow u n → Meets x.world bound n (after_switch flow u) (R spots s m)
      by_flow Normal u n h = to-out u n h.later (behind-end (graph_of x) (Jump c.blocks) c.blocks c.depth turned n code h.exit)
      by_flow Breaks u n h = to-out u n h.later (leaving-end back c.blocks n h.exit)
      by_flow Continues u n h = meets-here x.world bound n Continues u (R spots s m) (record { later = h.later; exit = h.exit })
      by_flow (Returns v) u n h = meets-here x.world bound n (Returns v) u (R spots s m) (record { later = h.later; exit = h.exit })
      by_flow (Goes k) u n h =
          meets-here x.world bound n (Goes k) u (R spots s m)
          (record {
            later = h.later;
            exit = goes-out-same x back back (labels_in body) c entered (λ b w. w) (λ j w. same j (named-free x (labels_in body) own-cases c j set.placed.labels w)) k n h.exit;
          })

  -- behind the comparisons
  switched :
      (v : Value) (spots : List Spot) (u : State) (n : Machine) (label : Option ℕ) → label_for cases default v ≡ label → (r : Machine) → Related x numbers spots u n → HasSwitched x numbers spots value c.blocks label u n r
      → Meets x.world bound r (switch_to label (λ l. meaning body (At_label l) (calls x.world bound) (env_of x numbers)) u) (R spots u n)
  unfolding switch_to give IsStatement
  switched v spots u n None leads r related h = meets-here x.world bound r Normal u (R spots u n) (record { later = h.later; exit = h.front })
  switched v spots u n (Some l) leads r related h =
      meets-less x.world bound r ((meaning body (At_label l) (calls x.world bound) (env_of x numbers) >>= after_switch) u) (R h.later.spots u r) (R spots u n)
      (body-meets l h.later.spots u r h.later.related (own, free) (subst (λ (b : ℕ). IsAt (graph_of x) b [] r) (sym same-labels) h.front))
      (λ flow w q g. left-then laws x numbers spots back ways (GoesOut x back (labels_in body) c) behind u u n r flow w q related h.later g)
    where
      own : Contains (labels_in body) l
      own = stands-in (labels_in body) cases default v l (recursion_from_All (λ k. Contains (labels_in body) k.label) cases set.typed.1.labels) set.typed.1.default_label leads

      free : ¬ Contains (cases_in body) l
      free w =
          distinct-apart (case_labels cases ++ option_to_list default) (cases_in body) l
          (subst (λ (ls : List ℕ). IsDistinct nat_eq ls) (sym (append_assoc (case_labels cases) (option_to_list default) (cases_in body))) (distinct-second x.function.named own-cases set.placed.labels.one_use))
          (leads-there cases default v l leads) w

      same-labels : block_of_label entered l ≡ block_of_label value l
      same-labels = same-block value entered l (choose-labels (temp_of (lower (home_of x) e named)) cases value)

  front-meets : (spots : List Spot) (s : State) (m : Machine) → Related x numbers spots s m → IsBehind (graph_of x) c m
      → Meets x.world bound m ((value_of e (calls x.world bound) (env_of x numbers) >>= λ v. switch_to (label_for cases default v) (λ l. meaning body (At_label l) (calls x.world bound) (env_of x numbers))) s) (R spots s m)
  unfolding ◌>>=◌ IsStatement
  front-meets spots s m related at =
      let y = lower (home_of x) e named in
      meets-then laws x.world bound m (value_of e (calls x.world bound) (env_of x numbers) s) (λ v. switch_to (label_for cases default v) (λ l. meaning body (At_label l) (calls x.world bound) (env_of x numbers)))
      (λ v u n. HasResult x numbers spots e named s m (Some v) u n × IsValueOf (type_in e) v) (R spots s m)
      (typed-value laws bound e x numbers spots named s m active set.typed.0 related.matches.bytes
      (expressions e x numbers spots named s m active set.typed.0 slots value-code (record { related = related; behind = at; temps = set.placed.temps })))
      (λ v u n q.
      let later = q.0.done.later in
      let new = laws.results x e named set.typed.0 slots (not-void (type_in e) set.typed.1.promoted) in
      let p = comparisons-keep laws x numbers later.spots (type_in e) cases default c.blocks (temp_of y) v value u n active set.typed.1.promoted set.typed.1.numbers q.1 (result-stands later.spots v y.temp n q.0.stands)
      (omega (arith, ap (λ (r : Option ℕ). unwrap_or r 0) new.is, new.given)) entered-code
      (record { related = later.related; behind = q.0.behind; temps = omega (arith, set.placed.temps, (laws.later (home_of x) e named).temps) }) in
      let act = switch_to (label_for cases default v) (λ l. meaning body (At_label l) (calls x.world bound) (env_of x numbers)) in
      meets-less x.world bound n (act u) (R later.spots u n) (R spots s m)
      (meets-later laws x.world bound n p.machine p.count (act u) (R later.spots u n) p.comes (switched v later.spots u n (label_for cases default v) refl p.machine later.related p.holds))
      (λ flow w r h. left-then laws x numbers spots back ways (GoesOut x back (labels_in body) c) behind s u m n flow w r related later h))
    where
      slots : HaveSlots x (addressed_in e)
      slots i w = set.placed.slots i (Contains-append_left (addressed_in e) (addressed_in_statement body) i w)

      result-stands : (spots2 : List Spot) (v : Value) (to : Option ℕ) (n : Machine) → ResultStands spots2 (Some v) to n → Stands spots2 v (value_in n.frame (unwrap_or to 0))
      result-stands spots2 v None n h = absurd h
      result-stands spots2 v (Some r) n h = h

  pub switch-meets : PartKeeps bound x numbers back (labels_in body) own-cases ways (GoesOut x back (labels_in body) c)
      (λ entry. meaning (Switch t e cases default body) entry (calls x.world bound) (env_of x numbers)) c behind
  unfolding meaning
  switch-meets spots Front s m related met = front-meets spots s m related met
  switch-meets spots (At_label l) s m related met =
      body-meets l spots s m related (met.0.0, inner-free l met.0.1) (subst (λ (b : ℕ). IsAt (graph_of x) b [] m) (sym (same l met.0.1)) met.1)

pub switch-keeps : Laws → (bound t : ℕ) (e : Expression) (cases : List CaseValue) (default : Option ℕ) (body : Statement) → ExpressionsKeep bound → StatementKeeps bound body → StatementKeeps bound (Switch t e cases default body)
unfolding lower_statement
switch-keeps laws bound t e cases default body expressions keeps = λ x numbers breaks continues from back ways c active set spots entry s m related met.
    switch-meets laws bound t e cases default body expressions keeps x numbers breaks continues from back ways c active set spots entry s m related met
