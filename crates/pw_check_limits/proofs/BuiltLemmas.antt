-- The steps of a declarator: their count, and one by one.
use Rattle.std.proofs.Common.{◌≡◌, ℕ, ◌+◌, ◌<◌, ◌≤◌, ◌^◌, Option, None, Some, Result, Ok, Err, List, [], ◌∷◌, length, get_or, drop, refl, ap, sym, subst, ◌∙◌, arith}
use Rattle.std.proofs.lemmas.List.{at_drop_more, at_drop_all, length-map}
use Rattle.pw_value.specs.Caps.{capped}
use Rattle.pw_types.specs.TypeTrees.{QType}
use Rattle.pw_check_walk.specs.declared.constraints.CheckFault.{CheckFault}
use mathlib.Core.Logic.{inr}
use Rattle.pw_check_walk.specs.Calls.{Obeys}
use Rattle.pw_check_walk.specs.Walks.{Walk, bind, outcome}
use Rattle.pw_check_state.specs.PhraseViews.{view_derivation, view_derivations}
use Rattle.pw_check_state.specs.declared.phrase.Derivation as code
use Rattle.pw_check_walk.specs.Found.{found, told}
use Rattle.pw_check_walk.proofs.FindingLaws.{stopped_by_found, end_err}
use Rattle.pw_check_rules.specs.Derivations.{Derivation, stepped, step_point, step_type}
use Rattle.pw_check_rules.specs.Limits.{Spot}
use Rattle.pw_check_rules.specs.States.{State, records_in}

-- 64 bits can tell how many there are
pub count_told : (steps : List code.Derivation) (n : ℕ) → n ≡ length steps → n < 2 ^ 64 → n ≡ capped (length (view_derivations steps))
count_told steps n is less =
    let same : length (view_derivations steps) ≡ length steps = length-map steps view_derivation in
    grind (arith, is, less, same)

none_built : (spot : Spot) (q : QType) (s : State) → outcome (stepped spot [] q s) ≡ Ok (q, s)
unfolding stepped outcome
none_built spot q s = refl

one_built : (spot : Spot) (step : Derivation) (rest : List Derivation) (q : QType) (s : State)
    → outcome (stepped spot (step ∷ rest) q s) ≡ told (found (step_point (records_in s) spot step q)) (outcome (stepped spot rest (step_type step q) s))
unfolding stepped bind outcome
one_built spot step rest q s = stopped_by_found (step_point (records_in s) spot step q) (outcome (stepped spot rest (step_type step q) s))

module _ (spot : Spot) (all : List code.Derivation) (whole : Result (QType × State) CheckFault) (s : State) where
  -- what is left from a place on, of this type
  abbrev pub left_built : ℕ → QType → Result (QType × State) CheckFault
  left_built n q = outcome (stepped spot (view_derivations (drop n all)) q s)

  left_more : (n : ℕ) (q : QType) (step : code.Derivation) → n < length all → step ≡ get_or all n step
      → left_built n q ≡ told (found (step_point (records_in s) spot (view_derivation step) q)) (left_built (n + 1) (step_type (view_derivation step) q))
  left_more n q step less is =
      at_drop_more (λ ds. outcome (stepped spot (view_derivations ds) q s)) all n step less
      ∙ ap (λ d. outcome (stepped spot (view_derivations (d ∷ drop (n + 1) all)) q s)) (sym is)
      ∙ one_built spot (view_derivation step) (view_derivations (drop (n + 1) all)) q s

  -- a step that is met leaves the others
  pub step_met : (n m : ℕ) (q : QType) (step : code.Derivation) → whole ≡ left_built n q → m ≡ n + 1 → n < length all → step ≡ get_or all n step
      → found (step_point (records_in s) spot (view_derivation step) q) ≡ None
      → whole ≡ left_built m (step_type (view_derivation step) q)
  step_met n m q step before next less is met =
      before ∙ left_more n q step less is
      ∙ ap (λ o. told o (left_built (n + 1) (step_type (view_derivation step) q))) met
      ∙ ap (λ k. left_built k (step_type (view_derivation step) q)) (sym next)

  -- the fault of a step is that of the whole
  step_stopped : (n : ℕ) (q : QType) (step : code.Derivation) (fault : CheckFault) → whole ≡ left_built n q → n < length all → step ≡ get_or all n step
      → found (step_point (records_in s) spot (view_derivation step) q) ≡ Some fault
      → whole ≡ Err fault
  step_stopped n q step fault before less is found_here =
      before ∙ left_more n q step less is
      ∙ ap (λ o. told o (left_built (n + 1) (step_type (view_derivation step) q))) found_here

  -- behind the last step the type is made
  pub all_built : (n : ℕ) (q : QType) → whole ≡ left_built n q → length all ≤ n → whole ≡ Ok (q, s)
  all_built n q before end = before ∙ at_drop_all (λ ds. outcome (stepped spot (view_derivations ds) q s)) all n end ∙ none_built spot q s

-- code that answers the fault of a step
pub step_told : {R : Type 0} {view : R → QType} {r : Result R CheckFault} {fault : CheckFault} {ended : Result (Unit {0}) CheckFault} {here : Option CheckFault}
    (spot : Spot) (all : List code.Derivation) (walk : Walk (QType × State)) (s : State) (n : ℕ) (q : QType) (step : code.Derivation)
    → outcome walk ≡ left_built spot all (outcome walk) s n q → n < length all → step ≡ get_or all n step
    → here ≡ found (step_point (records_in s) spot (view_derivation step) q)
    → ended ≡ told here (Ok tt) → ended ≡ Err fault → r ≡ Err fault → Obeys view walk r s
step_told {R} {view} {r} {fault} {ended} {here} spot all walk s n q step before less is seen end was same =
    subst (λ x. Obeys view walk x s) (sym same)
    (record { made = tt; told = inr (step_stopped spot all (outcome walk) s n q step fault before less is (sym seen ∙ end_err here fault (sym end ∙ was))) })
