-- What checking answers of a module whose constraints are met, and of one of which one is not.
use Rattle.std.specs.Prelude.{◌⊎◌, ◌≢◌, IfOk, IfErr}
use Rattle.std.proofs.Common.{◌≡◌, ℕ, ◌+◌, ◌<◌, ◌≤◌, Option, None, Some, Result, Ok, Err, List, [], ◌∷◌, length, map, Bool, if◌then◌else◌, true, false, get_or, drop, refl, ap, sym, subst, ◌∙◌}
use Rattle.std.proofs.lemmas.List.{at_drop_more, at_drop_all}
use mathlib.Core.Logic.{inl, inr}
use Rattle.pw_tree.specs.Trees.{Module}
use Rattle.pw_tree.specs.Views.{view_external, view_externals}
use Rattle.pw_tree.specs.declared.module.External.{External}
use Rattle.pw_check_state.specs.EntityViews.{view_linked}
use Rattle.pw_check_names.specs.declared.entity.LinkedName.{LinkedName}
use Rattle.pw_check_walk.specs.Found.{found, told}
use Rattle.pw_check_walk.proofs.FindingLaws.{stopped_by_found, end_err}
use Rattle.pw_types.specs.TypedTrees.{ModuleValue}
use Rattle.pw_check_walk.specs.declared.constraints.CheckFault.{CheckFault}
use Rattle.pw_check_walk.specs.declared.constraints.CheckKind.TheVariants.{NoMemory}
use Rattle.pw_check_walk.specs.Calls.{Obeys}
use Rattle.pw_check_walk.specs.Walks.{Walk, Done, bind, outcome, asks}
use Rattle.pw_check_walk.proofs.BindLaws.{bind_made, bind_stopped}
use Rattle.pw_check_walk.proofs.CallLaws.{bind_assoc}
use Rattle.pw_check_walk.proofs.WalkLaws.{one_answer}
use Rattle.pw_check_rules.specs.Checks.{Checks, checking}
use Rattle.pw_check_rules.specs.Modules.{end_cause, end_rule, end_spot, must_be_complete, external_rule, externals_rule, final_type, module_in, module_rule}
use Rattle.pw_check_rules.specs.States as states
use Rattle.pw_check_rules.specs.Limits.{completed}
use Rattle.pw_check_rules.specs.States.{State, records_in, start}
use Rattle.pw_types.specs.TypeTrees.{QType, type_of}
use Rattle.pw_check_walk.specs.Causes.{needs, CompleteAtEnd}
use Rattle.pw_check.specs.Parts.{met_rule}

-- the rule of modules is that of the constraints, and then what is made
split : (m : Module) (s : State) → module_rule m s ≡ bind (met_rule m s) (λ t. asks module_in t.1)
unfolding module_rule met_rule
split m s = sym (bind_assoc _ _ _)

pub made_of : (m : Module) (s : State) (u : Unit {0}) → outcome (met_rule m start) ≡ Ok (u, s) → Checks m (Ok (module_in s))
unfolding checking outcome bind
made_of m s u e =
    (one_answer (checking m) (Ok (module_in s))).1
    (sym
    (ap (λ w. outcome (bind w (λ r. Done r.0))) (split m start)
    ∙ ap outcome (bind_assoc (met_rule m start) _ _)
    ∙ bind_made (met_rule m start) _ (u, s) e))

pub told_of : (m : Module) (fault : CheckFault) → outcome (met_rule m start) ≡ Err fault → Checks m (Err fault)
unfolding checking
told_of m fault e =
    (one_answer (checking m) (Err fault)).1
    (sym
    (ap (λ w. outcome (bind w (λ r. Done r.0))) (split m start)
    ∙ bind_stopped _ _ fault (bind_stopped (met_rule m start) _ fault e)))

-- ---- external declarations

pub externals_more : (x : External) (xs : List External) (u : Unit {0}) (s : State)
    → externals_rule (view_externals (x ∷ xs)) s ≡ bind (external_rule (view_external x) s) (λ t. externals_rule (view_externals xs) t.1)
unfolding externals_rule
externals_more x xs u s = refl

pub externals_none : (s : State) → outcome (externals_rule [] s) ≡ Ok (tt, s)
unfolding externals_rule outcome
externals_none s = refl

-- ---- the end of a module

module _ (s : State) (l : states.LinkedName) (q : QType) (is : q ≡ final_type s l) where
  -- what is found at the end where this is whether the type must be complete
  abbrev found_by : Bool → Option CheckFault
  found_by b =
      found ((if b then completed (records_in s) (end_spot l) CompleteAtEnd (type_of (final_type s l)) else needs CompleteAtEnd l.token true) ∷ [])

  asked : (b : Bool) → must_be_complete l (type_of q) ≡ b → found (end_cause s l ∷ []) ≡ found_by b
  asked b e = ap found_by (ap (λ x. must_be_complete l (type_of x)) (sym is) ∙ e)

  pub no_cause : must_be_complete l (type_of q) ≡ false → None ≡ found (end_cause s l ∷ [])
  no_cause e = sym (asked false e)

  pub some_cause : must_be_complete l (type_of q) ≡ true
      → found (completed (records_in s) (end_spot l) CompleteAtEnd (type_of q) ∷ []) ≡ found (end_cause s l ∷ [])
  some_cause e = ap (λ x. found (completed (records_in s) (end_spot l) CompleteAtEnd (type_of x) ∷ [])) is ∙ sym (asked true e)

one_end : (l : states.LinkedName) (rest : List states.LinkedName) (s : State)
    → outcome (end_rule (l ∷ rest) s) ≡ told (found (end_cause s l ∷ [])) (outcome (end_rule rest s))
unfolding end_rule bind outcome
one_end l rest s = stopped_by_found (end_cause s l ∷ []) (outcome (end_rule rest s))

none_end : (s : State) → outcome (end_rule [] s) ≡ Ok (tt, s)
unfolding end_rule outcome
none_end s = refl

module _ (all : List LinkedName) (whole : Result (Unit {0} × State) CheckFault) (s : State) where
  abbrev pub left_end : ℕ → Result (Unit {0} × State) CheckFault
  left_end n = outcome (end_rule (map view_linked (drop n all)) s)

  end_more : (n : ℕ) (l : LinkedName) → n < length all → l ≡ get_or all n l
      → left_end n ≡ told (found (end_cause s (view_linked l) ∷ [])) (left_end (n + 1))
  end_more n l less is =
      at_drop_more (λ ls. outcome (end_rule (map view_linked ls) s)) all n l less
      ∙ ap (λ x. outcome (end_rule (map view_linked (x ∷ drop (n + 1) all)) s)) (sym is)
      ∙ one_end (view_linked l) (map view_linked (drop (n + 1) all)) s

  pub end_met : (n : ℕ) (l : LinkedName) → whole ≡ left_end n → n < length all → l ≡ get_or all n l
      → found (end_cause s (view_linked l) ∷ []) ≡ None → whole ≡ left_end (n + 1)
  end_met n l before less is met = before ∙ end_more n l less is ∙ ap (λ o. told o (left_end (n + 1))) met

  end_stopped : (n : ℕ) (l : LinkedName) (fault : CheckFault) → whole ≡ left_end n → n < length all → l ≡ get_or all n l
      → found (end_cause s (view_linked l) ∷ []) ≡ Some fault → whole ≡ Err fault
  end_stopped n l fault before less is stopped = before ∙ end_more n l less is ∙ ap (λ o. told o (left_end (n + 1))) stopped

  pub all_ended : (n : ℕ) → whole ≡ left_end n → length all ≤ n → whole ≡ Ok (tt, s)
  all_ended n before end = before ∙ at_drop_all (λ ls. outcome (end_rule (map view_linked ls) s)) all n end ∙ none_end s

-- code that answers the fault of one name
pub end_told : {r ended : Result (Unit {0}) CheckFault} {fault : CheckFault} {here : Option CheckFault}
    (all : List LinkedName) (walk : Walk (Unit {0} × State)) (s : State) (n : ℕ) (l : LinkedName)
    → outcome walk ≡ left_end all (outcome walk) s n → n < length all → l ≡ get_or all n l
    → here ≡ found (end_cause s (view_linked l) ∷ []) → ended ≡ told here (Ok tt) → ended ≡ Err fault → r ≡ Err fault
    → Obeys (λ (u : Unit {0}). u) walk r s
end_told {r} {ended} {fault} {here} all walk s n l before less is seen end was same =
    subst (λ x. Obeys (λ (u : Unit {0}). u) walk x s) (sym same)
    (record { made = tt; told = inr (end_stopped all (outcome walk) s n l fault before less is (sym seen ∙ end_err here fault (sym end ∙ was))) })

-- ---- what code answers that begins at the start

pub typed_by : (m : Module) (first s : State) (u : Unit {0}) (made : ModuleValue) → first ≡ start → outcome (met_rule m first) ≡ Ok (u, s)
    → made ≡ module_in s → Checks m (Ok made)
typed_by m first s u made e met is =
    subst (λ x. Checks m (Ok x)) (sym is) (made_of m s u (ap (λ x. outcome (met_rule m x)) (sym e) ∙ met))

pub refused_by : (m : Module) (first : State) (fault : CheckFault) → first ≡ start
    → (fault.kind ≡ NoMemory) ⊎ (outcome (met_rule m first) ≡ Err fault) → fault.kind ≢ NoMemory → Checks m (Err fault)
refused_by m first fault e (inl none) not = absurd (not none)
refused_by m first fault e (inr h) not = told_of m fault (ap (λ x. outcome (met_rule m x)) (sym e) ∙ h)

-- what is answered behind the constraints, by what they answered
pub typed_behind : {R : Type 0} (view : R → ModuleValue) (m : Module) (first left : State) (met : Result (Unit {0}) CheckFault) (r : Result R CheckFault)
    → first ≡ start → Obeys (λ (u : Unit {0}). u) (met_rule m first) met left
    → IfOk met (λ _. IfOk r (λ made. view made ≡ module_in left)) → IfErr met (λ fault. r ≡ Err fault)
    → IfOk r (λ made. Checks m (Ok (view made)))
typed_behind view m first left (Ok u) (Ok made) e o is other = typed_by m first left u (view made) e o.made is
typed_behind view m first left (Ok u) (Err fault) e o is other = tt
typed_behind {R} view m first left (Err fault) r e o is other =
    subst (λ (x : Result R CheckFault). IfOk x (λ made. Checks m (Ok (view made)))) (sym other) tt

pub refused_behind : {R : Type 0} (m : Module) (first left : State) (met : Result (Unit {0}) CheckFault) (r : Result R CheckFault)
    → first ≡ start → Obeys (λ (u : Unit {0}). u) (met_rule m first) met left
    → IfOk met (λ _. IfErr r (λ fault. fault.kind ≡ NoMemory)) → IfErr met (λ fault. r ≡ Err fault)
    → IfErr r (λ f. f.kind ≢ NoMemory → Checks m (Err f))
refused_behind m first left (Ok u) (Ok made) e o none other = tt
refused_behind m first left (Ok u) (Err fault) e o none other = λ not. absurd (not none)
refused_behind {R} m first left (Err fault) r e o none other =
    subst (λ (x : Result R CheckFault). IfErr x (λ f. f.kind ≢ NoMemory → Checks m (Err f))) (sym other) (refused_by m first fault e o.told)
