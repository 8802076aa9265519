-- The function gives the one answer of each module.
use Rattle.std.proofs.Common.{◌≡◌, ◌≢◌, ℕ, List, Result, Ok, Err, refl, sym, ap, ◌∙◌, subst}
use Rattle.std.specs.Prelude.{◌↔◌, IfOk}
use Rattle.pw_token.specs.Tokenization.{IsLexed}
use Rattle.pw_token.specs.declared.token.Token.{Token}
use Rattle.pw_tree.specs.Grammar.{IsTreeOf, spelled_all}
use Rattle.pw_tree.specs.Trees.{Module}
use Rattle.pw_front_end.specs.Fronts.{FrontEnd, FrontEndAnswers, HasTree, front_end_of}
use Rattle.pw_front_end.specs.AnswersTree as front
use Rattle.pw_front_end.specs.declared.refusal.FrontEndFault.{FrontEndFault}
use Rattle.pw_front_end.specs.declared.refusal.FrontEndFault.TheVariants.{Refused, NoMemory}
use Rattle.pw_front_end.specs.declared.refusal.Refusal.{Refusal}
use Rattle.pw_front_end.specs.declared.refusal.Refusal.TheVariants.{Lex, Unsupported, Parse, Check}
use Rattle.pw_check_walk.specs.declared.constraints.CheckFault.{CheckFault}
use Rattle.pw_check_walk.specs.declared.constraints.CheckKind.{CheckKind}
use Rattle.pw_check_walk.specs.declared.constraints.CheckKind.TheVariants as check
use Rattle.pw_check_rules.specs.Checks.{Checks, checked}
use Rattle.pw_types.specs.TypedTrees.{ModuleValue}
use Rattle.pw_flow.specs.ValidFlow.{IsValid}
use Rattle.pw_flow.specs.declared.flow.FlowModule.{FlowModule}
use Rattle.pw_lower.specs.Modules.{lowered}
use Rattle.pw_phase_one.specs.FirstPhase.{Compiles, AnswersPhaseOne, Phase, by_checking, by_front_end, compiled, error_of, told, told_kind, typed_by, typed_text}

abbrev pub FrontExact : Type 0
FrontExact = (text : List ℕ) (answer : FrontEnd) → FrontEndAnswers text answer ↔ (answer ≡ front_end_of text)

abbrev pub ChecksExact : Type 0
ChecksExact = (m : Module) (answer : Result ModuleValue CheckFault) → Checks m answer ↔ (answer ≡ checked m)

-- ---- the relation and the function

pub compiled_only : FrontExact → ChecksExact → (name text : List ℕ) (answer : Phase) → Compiles name text answer → answer ≡ compiled name text
unfolding compiled
compiled_only front checks name text (Ok flow) h =
    ap (λ (f : FlowModule). Ok f) h.is ∙ ap (by_checking name) ((checks h.tree (Ok h.typed)).0 h.checks) ∙ ap (by_front_end name) ((front text (Ok h.tree)).0 h.has_tree)
compiled_only front checks name text (Err (Check fault)) h =
    ap (by_checking name) ((checks h.tree (Err fault)).0 h.checks) ∙ ap (by_front_end name) ((front text (Ok h.tree)).0 h.has_tree)
compiled_only front checks name text (Err (Lex fault)) h = ap (by_front_end name) ((front text (Err (Lex fault))).0 h)
compiled_only front checks name text (Err (Unsupported token feature)) h = ap (by_front_end name) ((front text (Err (Unsupported token feature))).0 h)
compiled_only front checks name text (Err (Parse fault)) h = ap (by_front_end name) ((front text (Err (Parse fault))).0 h)

checked_is : (name text : List ℕ) (tree : Module) (answer : Result ModuleValue CheckFault) → HasTree text tree → Checks tree answer → Compiles name text (by_checking name answer)
checked_is name text tree (Ok typed) h k = record { tree = tree; typed = typed; has_tree = h; checks = k; is = refl }
checked_is name text tree (Err fault) h k = record { tree = tree; has_tree = h; checks = k }

front_is : ChecksExact → (name text : List ℕ) (answer : FrontEnd) → FrontEndAnswers text answer → Compiles name text (by_front_end name answer)
front_is checks name text (Ok tree) h = checked_is name text tree (checked tree) h ((checks tree (checked tree)).1 refl)
front_is checks name text (Err (Lex fault)) h = h
front_is checks name text (Err (Unsupported token feature)) h = h
front_is checks name text (Err (Parse fault)) h = h
front_is checks name text (Err (Check fault)) h = absurd h

pub compiled_is : FrontExact → ChecksExact → (name text : List ℕ) (answer : Phase) → answer ≡ compiled name text → Compiles name text answer
unfolding compiled
compiled_is front checks name text answer e = subst (Compiles name text) (sym e) (front_is checks name text (front_end_of text) ((front text (front_end_of text)).1 refl))

-- ---- what the calls give

pub front_failed : {V : Type 0} (view : V → Module) (name text : List ℕ) (error : FrontEndFault) → front.AnswersTree view (front_end_of text) (Err error) → AnswersPhaseOne {V = FlowModule} (λ flow. flow) (compiled name text) (Err error)
unfolding compiled
front_failed view name text (Refused refusal) h = ap (by_front_end name) h
front_failed view name text NoMemory h = tt

pub front_passed : (name text : List ℕ) (tree : Module) (result : Result FlowModule FrontEndFault) → front_end_of text ≡ Ok tree → AnswersPhaseOne (λ flow. flow) (by_checking name (checked tree)) result → AnswersPhaseOne (λ flow. flow) (compiled name text) result
unfolding compiled
front_passed name text tree result e h = subst (λ (p : Phase). AnswersPhaseOne (λ flow. flow) p result) (sym (ap (by_front_end name) e)) h

no_value : (typed : ModuleValue) (refusal : Refusal) → ◌≡◌ {A = Result ModuleValue Refusal} (Ok typed) (Err refusal) → ⊥
no_value typed refusal e = cc

err_is : (one other : Refusal) → ◌≡◌ {A = Result ModuleValue Refusal} (Err one) (Err other) → one ≡ other
err_is one other e = cc

failed_by : {V : Type 0} (view : V → ModuleValue) (name : List ℕ) (found : Result ModuleValue CheckFault) (error : FrontEndFault) → AnswersPhaseOne view (told found) (Err error) → AnswersPhaseOne {V = FlowModule} (λ flow. flow) (by_checking name found) (Err error)
failed_by view name (Ok typed) (Refused refusal) h = absurd (no_value typed refusal h)
failed_by view name (Err fault) (Refused refusal) h = ap (λ (r : Refusal). Err r) (err_is (Check fault) refusal h)
failed_by view name found NoMemory h = tt

pub check_failed : {V : Type 0} (view : V → ModuleValue) (name : List ℕ) (tree : Module) (error : FrontEndFault) → AnswersPhaseOne view (told (checked tree)) (Err error) → AnswersPhaseOne {V = FlowModule} (λ flow. flow) (by_checking name (checked tree)) (Err error)
check_failed view name tree error h = failed_by view name (checked tree) error h

ok_is : (one other : ModuleValue) → ◌≡◌ {A = Result ModuleValue Refusal} (Ok one) (Ok other) → one ≡ other
ok_is one other e = cc

no_fault : (refusal : Refusal) (typed : ModuleValue) → ◌≡◌ {A = Result ModuleValue Refusal} (Err refusal) (Ok typed) → ⊥
no_fault refusal typed e = cc

passed_by : (name : List ℕ) (found : Result ModuleValue CheckFault) (typed : ModuleValue) (flow : FlowModule) → told found ≡ Ok typed → flow ≡ lowered name typed → by_checking name found ≡ Ok flow
passed_by name (Ok own) typed flow e f = ap (λ (m : ModuleValue). Ok (lowered name m)) (ok_is own typed e) ∙ ap (λ (x : FlowModule). Ok x) (sym f)
passed_by name (Err fault) typed flow e f = absurd (no_fault (Check fault) typed e)

pub check_passed : (name : List ℕ) (tree : Module) (typed : ModuleValue) (flow : FlowModule) → told (checked tree) ≡ Ok typed → flow ≡ lowered name typed → by_checking name (checked tree) ≡ Ok flow
check_passed name tree typed flow e f = passed_by name (checked tree) typed flow e f

-- ---- typed trees

pub typed_failed : {V W : Type 0} (view : V → Module) (seen : W → ModuleValue) (text : List ℕ) (error : FrontEndFault) → front.AnswersTree view (front_end_of text) (Err error) → AnswersPhaseOne seen (typed_text text) (Err error)
unfolding typed_text
typed_failed view seen text (Refused refusal) h = ap typed_by h
typed_failed view seen text NoMemory h = tt

pub typed_passed : {W : Type 0} (seen : W → ModuleValue) (text : List ℕ) (tree : Module) (result : Result W FrontEndFault) → front_end_of text ≡ Ok tree → AnswersPhaseOne seen (told (checked tree)) result → AnswersPhaseOne seen (typed_text text) result
unfolding typed_text
typed_passed seen text tree result e h = subst (λ (p : Result ModuleValue Refusal). AnswersPhaseOne seen p result) (sym (ap typed_by e)) h

told_only : (found : Result ModuleValue CheckFault) (typed : ModuleValue) → told found ≡ Ok typed → found ≡ Ok typed
told_only (Ok own) typed e = ap (λ (m : ModuleValue). Ok m) (ok_is own typed e)
told_only (Err fault) typed e = absurd (no_fault (Check fault) typed e)

typed_has : FrontExact → ChecksExact → (text : List ℕ) (typed : ModuleValue) (found : FrontEnd) → found ≡ front_end_of text → typed_by found ≡ Ok typed → (tree : Module) × HasTree text tree × Checks tree (Ok typed)
typed_has front checks text typed (Ok tree) is e = (tree, (front text (Ok tree)).1 is, (checks tree (Ok typed)).1 (sym (told_only (checked tree) typed e)))
typed_has front checks text typed (Err refusal) is e = absurd (no_fault refusal typed e)

pub typed_exact : FrontExact → ChecksExact → (text : List ℕ) (typed : ModuleValue) → (typed_text text ≡ Ok typed) ↔ ((tree : Module) × HasTree text tree × Checks tree (Ok typed))
unfolding typed_text
typed_exact front checks text typed =
    (λ e. typed_has front checks text typed (front_end_of text) refl e, λ h. ap typed_by (sym ((front text (Ok h.0)).0 h.1)) ∙ ap told (sym ((checks h.0 (Ok typed)).0 h.2)))

lowered_by : (name : List ℕ) (found : FrontEnd) (typed : ModuleValue) → typed_by found ≡ Ok typed → by_front_end name found ≡ Ok (lowered name typed)
lowered_by name (Ok tree) typed e = ap (by_checking name) (told_only (checked tree) typed e)
lowered_by name (Err refusal) typed e = absurd (no_fault refusal typed e)

pub typed_lowers : (name text : List ℕ) (typed : ModuleValue) → typed_text text ≡ Ok typed → compiled name text ≡ Ok (lowered name typed)
unfolding compiled typed_text
typed_lowers name text typed e = lowered_by name (front_end_of text) typed e

told_fault : (name : List ℕ) (found : Result ModuleValue CheckFault) (refusal : Refusal) → told found ≡ Err refusal → by_checking name found ≡ Err refusal
told_fault name (Ok typed) refusal e = absurd (no_value typed refusal e)
told_fault name (Err fault) refusal e = ap (λ (r : Refusal). Err r) (err_is (Check fault) refusal e)

refused_by : (name : List ℕ) (found : FrontEnd) (refusal : Refusal) → typed_by found ≡ Err refusal → by_front_end name found ≡ Err refusal
refused_by name (Ok tree) refusal e = told_fault name (checked tree) refusal e
refused_by name (Err own) refusal e = ap (λ (r : Refusal). Err r) (err_is own refusal e)

pub typed_refused : (name text : List ℕ) (refusal : Refusal) → typed_text text ≡ Err refusal → compiled name text ≡ Err refusal
unfolding compiled typed_text
typed_refused name text refusal e = refused_by name (front_end_of text) refusal e

-- ---- faults of checking

pub checked_ok : ChecksExact → (tree : Module) (typed : ModuleValue) → Checks tree (Ok typed) → told (checked tree) ≡ Ok typed
checked_ok exact tree typed h = ap told (sym ((exact tree (Ok typed)).0 h))

fault_told : ChecksExact → (tree : Module) (fault : CheckFault) → Checks tree (Err fault) → told (checked tree) ≡ Err (Check fault)
fault_told exact tree fault h = ap told (sym ((exact tree (Err fault)).0 h))

by_kind : {V : Type 0} (view : V → ModuleValue) → ChecksExact → (tree : Module) (fault : CheckFault) (kind : CheckKind) → fault.kind ≡ kind → (fault.kind ≢ check.NoMemory → Checks tree (Err fault))
    → AnswersPhaseOne view (told (checked tree)) (Err (told_kind kind fault))
by_kind view exact tree fault check.NoMemory e h = tt
by_kind view exact tree fault check.UnknownName e h = fault_told exact tree fault (h (λ n. other (sym e ∙ n)))
  where
    other : check.UnknownName ≡ check.NoMemory → ⊥
    other n = cc
by_kind view exact tree fault check.Redeclared e h = fault_told exact tree fault (h (λ n. other (sym e ∙ n)))
  where
    other : check.Redeclared ≡ check.NoMemory → ⊥
    other n = cc
by_kind view exact tree fault check.Typing e h = fault_told exact tree fault (h (λ n. other (sym e ∙ n)))
  where
    other : check.Typing ≡ check.NoMemory → ⊥
    other n = cc
by_kind view exact tree fault check.Constant e h = fault_told exact tree fault (h (λ n. other (sym e ∙ n)))
  where
    other : check.Constant ≡ check.NoMemory → ⊥
    other n = cc
by_kind view exact tree fault (check.Unsupported feature) e h = fault_told exact tree fault (h (λ n. other (sym e ∙ n)))
  where
    other : check.Unsupported feature ≡ check.NoMemory → ⊥
    other n = cc
by_kind view exact tree fault (check.Limit which number) e h = fault_told exact tree fault (h (λ n. other (sym e ∙ n)))
  where
    other : check.Limit which number ≡ check.NoMemory → ⊥
    other n = cc

pub checked_err : {V : Type 0} (view : V → ModuleValue) → ChecksExact → (tree : Module) (fault : CheckFault) (error : FrontEndFault) → error ≡ error_of fault → (fault.kind ≢ check.NoMemory → Checks tree (Err fault))
    → AnswersPhaseOne view (told (checked tree)) (Err error)
checked_err view exact tree fault error e h = subst (λ (x : FrontEndFault). AnswersPhaseOne view (told (checked tree)) (Err x)) (sym e) (by_kind view exact tree fault fault.kind refl h)

-- ---- lawful flow graphs

-- what accepted texts come to is lawful
abbrev pub AreLawful : Type 0
AreLawful = (home text : List ℕ) (tokens : List Token) (tree : Module) (m : ModuleValue) → IsLexed text tokens → IsTreeOf (spelled_all text tokens) tree → Checks tree (Ok m) → IsValid (lowered home m)

pub compiles_lawful : AreLawful → (name text : List ℕ) (flow : FlowModule) → Compiles name text (Ok flow) → IsValid flow
compiles_lawful lawful name text flow h =
    let t = h.has_tree in
    subst IsValid (sym h.is) (lawful name text t.tokens h.tree h.typed t.shallow.supported.lexed t.reads h.checks)

pub phase_lawful : (name text : List ℕ) → ((flow : FlowModule) → compiled name text ≡ Ok flow → IsValid flow) → (result : Result FlowModule FrontEndFault) → AnswersPhaseOne (λ flow. flow) (compiled name text) result → IfOk result (λ flow. IsValid flow)
phase_lawful name text lawful (Ok flow) h = lawful flow h
phase_lawful name text lawful (Err error) h = tt
