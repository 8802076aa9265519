-- The first module that is refused.
use Rattle.std.proofs.Common.{◌≡◌, ◌≢◌, ℕ, cond, Bool, true, false, List, [], ◌∷◌, ◌++◌, map, Option, Some, None, Result, Ok, Err, true≢false, refl, sym, ap, ◌∙◌, subst}
use Rattle.std.specs.Prelude.{IsErrAnd, IsOk}
use Rattle.std.specs.List.{AllByRecursion}
use Rattle.std.specs.List.Sorted.{IsStrictlySortedBy}
use Rattle.std.specs.Ordering.{nat_cmp, eq_by_cmp}
use Rattle.std.specs.declared.cmp.Ordering.{Ordering}
use Rattle.std.specs.declared.cmp.Ordering.TheVariants.{Less, Equal, Greater}
use Rattle.std.specs.Cmp.Lexicographic.{slice_cmp, nat_list_cmp_total}
use Rattle.std.specs.FinMap.Entries.{find}
use Rattle.std.proofs.lemmas.Cmp.{tied_itself}
use Rattle.std.proofs.lemmas.Map.Lookups.{exact_bytes}
use Rattle.std.proofs.lemmas.Map.Views.{tells_apart}
use Rattle.pw_flow.specs.declared.flow.FlowModule.{FlowModule}
use Rattle.pw_front_end.specs.declared.refusal.Refusal.{Refusal}
use Rattle.pw_io.specs.Files.{Files}
use Rattle.pw_store_modules.specs.Modules.{Source, modules_of}
use Rattle.pw_value.specs.declared.fault.LinkFault.{LinkFault}
use Rattle.pw_build_objects.specs.Programs.{Parts}
use Rattle.pw_build_files.specs.FromBuild.BuildFault.{BuildFault}
use Rattle.pw_build_files.specs.FromBuild.BuildFault.TheVariants as build
use Rattle.pw_build_files.specs.FromBuild.Builds.{BuildsBy, before_others, first_phases, flows_of, limit_passed, within}
use Rattle.pw_build_files.specs.FromBuild.FirstPhase.{Phase, compiled}
use Rattle.pw_build_files.specs.Building.{BuildOutcome, Outcome, kept_objects}
use Rattle.pw_build_opts.specs.declared.opts.Opts.{Opts}
use Rattle.pw_law_sources.specs.Refused.{IsFaultBy, IsFirstRefused}

abbrev Flows : Type 0
Flows = Result (List FlowModule) BuildFault

-- ---- what the first phases tell

first_here : (name text : List ℕ) (behind : List Source) (refusal : Refusal) → compiled name text ≡ Err refusal → IsFirstRefused ((name, text) ∷ behind) name refusal
first_here name text behind refusal e = record { before = []; text = text; behind = behind; split = refl; accepted = tt; refused = e }

is_accepted : (name text : List ℕ) (flow : FlowModule) → compiled name text ≡ Ok flow → IsOk (compiled name text)
is_accepted name text flow e = subst (λ (phase : Phase). IsOk phase) (sym e) refl

first_later : (n x : List ℕ) (flow : FlowModule) (sources : List Source) (name : List ℕ) (refusal : Refusal) → compiled n x ≡ Ok flow → IsFirstRefused sources name refusal → IsFirstRefused ((n, x) ∷ sources) name refusal
first_later n x flow sources name refusal e first = record {
  before = (n, x) ∷ first.before;
  text = first.text;
  behind = first.behind;
  split = ap (λ (others : List Source). (n, x) ∷ others) first.split;
  accepted = (is_accepted n x flow e, first.accepted);
  refused = first.refused;
}

no_flows : (flows : List FlowModule) (fault : BuildFault) → ◌≡◌ {A = Flows} (Ok flows) (Err fault) → ⊥
no_flows flows fault e = cc

same_name : (n name : List ℕ) (r refusal : Refusal) → ◌≡◌ {A = Flows} (Err (build.Refused n r)) (Err (build.Refused name refusal)) → n ≡ name
same_name n name r refusal e = cc

same_refusal : (n name : List ℕ) (r refusal : Refusal) → ◌≡◌ {A = Flows} (Err (build.Refused n r)) (Err (build.Refused name refusal)) → r ≡ refusal
same_refusal n name r refusal e = cc

no_limit : (limit : LinkFault) (name : List ℕ) (refusal : Refusal) → ◌≡◌ {A = Flows} (Err (build.LinkRefused limit)) (Err (build.Refused name refusal)) → ⊥
no_limit limit name refusal e = cc

later_told : (n : List ℕ) (flow : FlowModule) (flows : Flows) (name : List ℕ) (refusal : Refusal) → before_others n (Ok flow) flows ≡ Err (build.Refused name refusal) → flows ≡ Err (build.Refused name refusal)
later_told n flow (Ok flows) name refusal e = absurd (no_flows (flow ∷ flows) (build.Refused name refusal) e)
later_told n flow (Err fault) name refusal e = e

told_by : (n x : List ℕ) (sources : List Source) (name : List ℕ) (refusal : Refusal) → (flows_of sources ≡ Err (build.Refused name refusal) → IsFirstRefused sources name refusal)
    → (phase : Phase) → compiled n x ≡ phase → before_others n phase (flows_of sources) ≡ Err (build.Refused name refusal) → IsFirstRefused ((n, x) ∷ sources) name refusal
told_by n x sources name refusal later (Err r) c e =
    let P : List ℕ → Type 0 = λ m. IsFirstRefused ((n, x) ∷ sources) m refusal in
    let Q : Refusal → Type 0 = λ s. IsFirstRefused ((n, x) ∷ sources) n s in
    subst P (same_name n name r refusal e) (subst Q (same_refusal n name r refusal e) (first_here n x sources r c))
told_by n x sources name refusal later (Ok flow) c e = first_later n x flow sources name refusal c (later (later_told n flow (flows_of sources) name refusal e))

told_first : (sources : List Source) (name : List ℕ) (refusal : Refusal) → flows_of sources ≡ Err (build.Refused name refusal) → IsFirstRefused sources name refusal
told_first [] name refusal e = absurd (no_flows [] (build.Refused name refusal) e)
told_first ((n, x) ∷ sources) name refusal e = told_by n x sources name refusal (told_first sources name refusal) (compiled n x) refl e

passed_by : (n x : List ℕ) (sources : List Source) (fault : BuildFault) (phase : Phase) → compiled n x ≡ phase → IsOk phase → flows_of sources ≡ Err fault → flows_of ((n, x) ∷ sources) ≡ Err fault
passed_by n x sources fault (Ok flow) c ok e = ap (λ (p : Phase). before_others n p (flows_of sources)) c ∙ ap (before_others n (Ok flow)) e
passed_by n x sources fault (Err refusal) c ok e = absurd (true≢false (sym ok))

first_flows : (before : List Source) (name text : List ℕ) (behind : List Source) (refusal : Refusal) → AllByRecursion (λ (source : Source). IsOk (compiled source.0 source.1)) before → compiled name text ≡ Err refusal
    → flows_of (before ++ (name, text) ∷ behind) ≡ Err (build.Refused name refusal)
first_flows [] name text behind refusal accepted e = ap (λ (p : Phase). before_others name p (flows_of behind)) e
first_flows ((n, x) ∷ before) name text behind refusal accepted e =
    passed_by n x (before ++ (name, text) ∷ behind) (build.Refused name refusal) (compiled n x) refl accepted.0 (first_flows before name text behind refusal accepted.1 e)

first_told : (sources : List Source) (name : List ℕ) (refusal : Refusal) → IsFirstRefused sources name refusal → flows_of sources ≡ Err (build.Refused name refusal)
first_told sources name refusal first = ap (λ (ss : List Source). flows_of ss) first.split ∙ first_flows first.before name first.text first.behind refusal first.accepted first.refused

told_within : (sources : List Source) (name : List ℕ) (refusal : Refusal) (limit : Option LinkFault) → limit_passed sources ≡ limit → within limit (flows_of sources) ≡ Err (build.Refused name refusal)
    → (limit_passed sources ≡ None) × IsFirstRefused sources name refusal
told_within sources name refusal (Some fault) l e = absurd (no_limit fault name refusal e)
told_within sources name refusal None l e = (l, told_first sources name refusal e)

pub refused_told : (sources : List Source) (name : List ℕ) (refusal : Refusal) → first_phases sources ≡ Err (build.Refused name refusal) → (limit_passed sources ≡ None) × IsFirstRefused sources name refusal
refused_told sources name refusal e = told_within sources name refusal (limit_passed sources) refl e

pub told_refused : (sources : List Source) (name : List ℕ) (refusal : Refusal) → (limit_passed sources ≡ None) × IsFirstRefused sources name refusal → first_phases sources ≡ Err (build.Refused name refusal)
told_refused sources name refusal h = ap (λ (l : Option LinkFault). within l (flows_of sources)) h.0 ∙ first_told sources name refusal h.1

-- ---- where a module is refused, the first that is refused is no later

none_is : (text : List ℕ) → ◌≡◌ {A = Option (List ℕ)} None (Some text) → ⊥
none_is text e = cc

text_is : (a b : List ℕ) → ◌≡◌ {A = Option (List ℕ)} (Some a) (Some b) → a ≡ b
text_is a b e = cc

less_is : ◌≡◌ {A = Ordering} Less Greater → ⊥
less_is e = cc

equal_is : ◌≡◌ {A = Ordering} Equal Greater → ⊥
equal_is e = cc

no_phase : (flow : FlowModule) (refusal : Refusal) → ◌≡◌ {A = Phase} (Ok flow) (Err refusal) → ⊥
no_phase flow refusal e = cc

-- what is found behind a name stands behind it
found_by : (first name old : List ℕ) (s : Source) (rest : Option (List ℕ)) → slice_cmp nat_cmp first s.0 ≡ Less → (rest ≡ Some old → slice_cmp nat_cmp first name ≡ Less)
    → (b : Bool) → eq_by_cmp (slice_cmp nat_cmp) name s.0 ≡ b → cond b (Some s.1) rest ≡ Some old → slice_cmp nat_cmp first name ≡ Less
found_by first name old s rest below later true t e = ap (slice_cmp nat_cmp first) (tells_apart exact_bytes name s.0 t) ∙ below
found_by first name old s rest below later false t e = later e

found_behind : (first name old : List ℕ) (ss : List Source) → AllByRecursion (λ m. slice_cmp nat_cmp first m ≡ Less) (map (λ (s : Source). s.0) ss) → find (slice_cmp nat_cmp) name ss ≡ Some old → slice_cmp nat_cmp first name ≡ Less
found_behind first name old [] h e = absurd (none_is old e)
found_behind first name old (s ∷ ss) h e =
    found_by first name old s (find (slice_cmp nat_cmp) name ss) h.0 (found_behind first name old ss h.1) (eq_by_cmp (slice_cmp nat_cmp) name s.0) refl e

no_later : (n x name text : List ℕ) (sources : List Source) → AllByRecursion (λ m. slice_cmp nat_cmp n m ≡ Less) (map (λ (s : Source). s.0) sources) → (b : Bool) → eq_by_cmp (slice_cmp nat_cmp) name n ≡ b
    → cond b (Some x) (find (slice_cmp nat_cmp) name sources) ≡ Some text → slice_cmp nat_cmp n name ≢ Greater
no_later n x name text sources below true t e = λ g. equal_is (sym (tied_itself nat_list_cmp_total n) ∙ ap (slice_cmp nat_cmp n) (sym (tells_apart exact_bytes name n t)) ∙ g)
no_later n x name text sources below false t e = λ g. less_is (sym (found_behind n name text sources below e) ∙ g)

-- the first refused of these, which is no later than this module
pub record FirstBy (sources : List Source) (name : List ℕ) : Type 0 where
  pub first : List ℕ
  pub refusal : Refusal
  pub is : IsFirstRefused sources first refusal
  pub order : slice_cmp nat_cmp first name ≢ Greater

further : (n x : List ℕ) (flow : FlowModule) (name text : List ℕ) (refusal : Refusal) (rest : Option (List ℕ)) → compiled n x ≡ Ok flow → compiled name text ≡ Err refusal
    → (b : Bool) → eq_by_cmp (slice_cmp nat_cmp) name n ≡ b → cond b (Some x) rest ≡ Some text → rest ≡ Some text
further n x flow name text refusal rest c r true t e =
    absurd (no_phase flow refusal (sym c ∙ ap (λ (m : List ℕ). compiled m x) (sym (tells_apart exact_bytes name n t)) ∙ ap (compiled name) (text_is x text e) ∙ r))
further n x flow name text refusal rest c r false t e = e

first_by : (n x : List ℕ) (sources : List Source) (name text : List ℕ) (refusal : Refusal) → compiled name text ≡ Err refusal → AllByRecursion (λ m. slice_cmp nat_cmp n m ≡ Less) (map (λ (s : Source). s.0) sources)
    → (find (slice_cmp nat_cmp) name sources ≡ Some text → FirstBy sources name) → (phase : Phase) → compiled n x ≡ phase
    → cond (eq_by_cmp (slice_cmp nat_cmp) name n) (Some x) (find (slice_cmp nat_cmp) name sources) ≡ Some text → FirstBy ((n, x) ∷ sources) name
first_by n x sources name text refusal r below later (Err other) c e =
    record { first = n; refusal = other; is = first_here n x sources other c; order = no_later n x name text sources below (eq_by_cmp (slice_cmp nat_cmp) name n) refl e }
first_by n x sources name text refusal r below later (Ok flow) c e =
    let found = later (further n x flow name text refusal (find (slice_cmp nat_cmp) name sources) c r (eq_by_cmp (slice_cmp nat_cmp) name n) refl e) in
    record { first = found.first; refusal = found.refusal; is = first_later n x flow sources found.first found.refusal c found.is; order = found.order }

pub first_of : (sources : List Source) (name text : List ℕ) (refusal : Refusal) → compiled name text ≡ Err refusal → IsStrictlySortedBy (slice_cmp nat_cmp) (map (λ (s : Source). s.0) sources) → find (slice_cmp nat_cmp) name sources ≡ Some text → FirstBy sources name
unfolding IsStrictlySortedBy
first_of [] name text refusal r rising there = absurd (none_is text there)
first_of ((n, x) ∷ sources) name text refusal r rising there =
    first_by n x sources name text refusal r rising.0 (first_of sources name text refusal r rising.1) (compiled n x) refl there

-- ---- what is told then

phases_within : (sources : List Source) (name : List ℕ) → FirstBy sources name → (limit : Option LinkFault) → limit_passed sources ≡ limit → IsErrAnd (within limit (flows_of sources)) (IsFaultBy sources name)
phases_within sources name first (Some limit) l = l
phases_within sources name first None l =
    subst (λ (r : Flows). IsErrAnd r (IsFaultBy sources name)) (sym (first_told sources first.first first.refusal first.is)) (l, first.is, first.order)

pub phases_fault : (sources : List Source) (name : List ℕ) → FirstBy sources name → IsErrAnd (first_phases sources) (IsFaultBy sources name)
phases_fault sources name first = phases_within sources name first (limit_passed sources) refl

no_parts : (parts : Parts) (fault : BuildFault) → ◌≡◌ {A = Result Parts BuildFault} (Ok parts) (Err fault) → ⊥
no_parts parts fault e = cc

same_fault : (f g : BuildFault) → ◌≡◌ {A = Result Parts BuildFault} (Err f) (Err g) → f ≡ g
same_fault f g e = cc

-- a build comes to the fault that its first phases come to
pub build_fault : (shown : Files) (opts : Opts) (P : BuildFault → Type 0) (phases : Flows) → first_phases (modules_of shown) ≡ phases → IsErrAnd phases P → (comes : Result Outcome BuildFault) → BuildOutcome shown opts comes → IsErrAnd comes P
build_fault shown opts P (Ok flows) e h comes k = absurd h
build_fault shown opts P (Err fault) e h (Ok outcome) k =
    absurd (no_parts k.0 fault (subst (λ (r : Flows). BuildsBy r (kept_objects shown) opts (Ok k.0)) e k.1))
build_fault shown opts P (Err fault) e h (Err other) k =
    subst P (sym (same_fault other fault (subst (λ (r : Flows). BuildsBy r (kept_objects shown) opts (Err other)) e k))) h
