-- The k-th call in the run of lines, and the machine at its step.
use Rattle.std.specs.Prelude.{ℕ, zero, suc, ◌≡◌, ◌+◌, ◌-◌, ◌≤◌, ◌<◌, ◌==◌, ◌&&◌, ◌⊎◌, not, Bool, true, false, Option, Some, None, List, [], ◌∷◌, ◌++◌, length}
use Rattle.std.specs.List.{AllByRecursion, list_any}
use Rattle.std.proofs.Common.{arith, inl, inr, subst, sym, ap, refl, ◌∙◌}
use Rattle.std.proofs.Math.Nat.{add-zero, add-suc}
use Rattle.std.proofs.lemmas.Bool.{cases_lt}
use Rattle.std.proofs.lemmas.List.{length-append}
use Rattle.pw_value.specs.ProgramNames.{start_name}
use Rattle.pw_machine.specs.declared.ends.End.{End}
use Rattle.pw_machine.specs.Run.{State, Progress, Running, Stopped as Halted, run_of, continued}
use Rattle.pw_delay.specs.declared.items.Item.{Item}
use Rattle.pw_run_languages.specs.Traces.{is_of_source}
use Rattle.pw_run_languages.specs.LineRun.{LineFn, LineProgram, Machine, Step, On, Stopped, Astray, and_then, function_named, enters, step, steps, start}
use Rattle.pw_run_languages.specs.Addresses.{Addresses}
use Rattle.pw_run_languages.specs.MachineRun.{Map, Noted, function_at, noted, stepped}
use Rattle.pw_where.specs.Calls.{IsCall, call_at, calls_in, is_at, one_if}
use Rattle.pw_law_where.specs.Counting.{AreEntriesOf, is_source, source_calls}
use Rattle.pw_law_link_run.specs.Steps.{Setting, map_in}
use Rattle.pw_law_link_run.specs.Placing.{name_in, own_address, words_of, IsLeft}
use Rattle.pw_law_link_run.specs.Simulating.{IsFit, IsLinked, Simulates}
use Rattle.pw_law_link_run.specs.Meeting.{RunsTo, EndsSo}
use Rattle.pw_law_link_run.specs.Leveled.{AreFramed, IsInLevel, IsMet, StepLevel}
use Rattle.pw_law_link_run.proofs.Items.{behind_all}
use Rattle.pw_law_link_run.proofs.Running.{last_step}
use Rattle.pw_law_entered.specs.Entered.{first_call, EntersAs, HasPassed, EntersAt}
use Rattle.pw_law_entered.proofs.Stepping.{Adds, step_adds}

-- ---- calls of the machine

-- the laws of pw_law_where and pw_where that are used
abbrev pub CallsAreCounted : Type 0
CallsAreCounted = (entries : List ℕ) (m : Map) (start s : State) (n : ℕ) → AreEntriesOf entries m → run_of n start ≡ Running s → source_calls (noted m start n).log ≡ calls_in entries start (suc n)

abbrev pub OneStep : Type 0
OneStep = (entries : List ℕ) (start : State) (k m n : ℕ) (s t : State) → IsCall entries start k m s → IsCall entries start k n t → m ≡ n

abbrev pub OneState : Type 0
OneState = (entries : List ℕ) (start : State) (k m n : ℕ) (s t : State) → IsCall entries start k m s → IsCall entries start k n t → s ≡ t

calls_grow : (entries : List ℕ) (start : State) (m d : ℕ) → calls_in entries start m ≤ calls_in entries start (m + d)
calls_grow entries start m zero = rw add-zero (omega arith)
calls_grow entries start m (suc d) = let front = calls_grow entries start m d in rw add-suc (omega (arith, front))

next_counts : (entries : List ℕ) (start s : State) (n : ℕ) → run_of n start ≡ Running s → calls_in entries start (suc n) ≡ calls_in entries start n + one_if (is_at entries s.core)
next_counts entries start s n e = ap (λ (p : Progress). calls_in entries start n + one_if (call_at entries p)) e

-- at the k-th call and behind it there are k
counted : (entries : List ℕ) (start : State) (k m n : ℕ) (s : State) → IsCall entries start k m s → m ≤ n → k ≤ calls_in entries start (suc n)
counted entries start k m n s call le =
    let d = n - m in
    let at : suc m + d ≡ suc n = omega (arith, le) in
    let grows : calls_in entries start (suc m) ≤ calls_in entries start (suc n) = subst (λ (i : ℕ). calls_in entries start (suc m) ≤ calls_in entries start i) at (calls_grow entries start (suc m) d) in
    let next = next_counts entries start s m call.goes in
    let one : one_if (is_at entries s.core) ≡ 1 = ap one_if call.at in
    let before = call.before in
    omega (arith, grows, next, one, before)

-- where the run has stopped nothing more is noted
stays_by : (m : Map) (p : Progress) (end : End) (t : State) (n : Noted) → stepped m p (Halted end t) n ≡ n
stays_by m (Running s) end t n = refl
stays_by m (Halted e s) end t n = refl

stays : (m : Map) (start : State) (n : ℕ) (q : Progress) → run_of (suc n) start ≡ q → ((s : State) → q ≡ Running s → ⊥) → noted m start (suc n) ≡ noted m start n
unfolding noted
stays m start n (Running s) e other = absurd (other s refl)
stays m start n (Halted end t) e other =
    ap (λ (p : Progress). stepped m (run_of n start) p (noted m start n)) e ∙ stays_by m (run_of n start) end t (noted m start n)

-- the trace has k calls from the k-th call on, also where the run has stopped
noted_from : CallsAreCounted → (entries : List ℕ) (m : Map) (start s : State) (k at d : ℕ) → AreEntriesOf entries m → IsCall entries start k at s → k ≤ source_calls (noted m start (at + d)).log
noted_from counts entries m start s k at zero are call =
    let here = counts entries m start s at are call.goes in
    let le = counted entries start k at at s call (omega arith) in
    rw add-zero (omega (arith, here, le))
noted_from counts entries m start s k at (suc d) are call = rw add-suc (by (run_of (suc (at + d)) start) refl (noted_from counts entries m start s k at d are call))
  where
    by : (q : Progress) → run_of (suc (at + d)) start ≡ q → k ≤ source_calls (noted m start (at + d)).log → k ≤ source_calls (noted m start (suc (at + d))).log
    by (Running t) e before =
        let here = counts entries m start t (suc (at + d)) are e in
        let le = counted entries start k at (suc (at + d)) s call (omega arith) in
        omega (arith, here, le)
    by (Halted end t) e before =
        let same = ap (λ (n : Noted). source_calls n.log) (stays m start (at + d) (Halted end t) e (λ u f. absurd cc)) in
        omega (arith, same, before)

-- ---- the lines have noted so many

abbrev pub calls_noted : Step → ℕ
calls_noted (On m) = source_calls m.trace
calls_noted (Stopped end m) = source_calls m.trace
calls_noted Astray = 0

stopped_later : (x : Setting) → IsLinked x → (m k : ℕ) (s t : State) (end : End) → run_of m x.start ≡ Running s → run_of k x.start ≡ Halted end t → m ≤ k
stopped_later x l m k s t end goes stops = by (cases_lt k m)
  where
    by : (k < m) ⊎ (m ≤ k) → m ≤ k
    by (inr le) = le
    by (inl lt) =
        let d = m - k in
        let at : k + d ≡ m = omega (arith, lt) in
        let on : run_of m x.start ≡ Halted end t = ap (λ (i : ℕ). run_of i x.start) (sym at) ∙ l.setting.sums k d ∙ ap (continued d) stops in
        let no : Running s ≡ Halted end t = sym goes ∙ on in
        absurd cc

passed_calls : CallsAreCounted → (x : Setting) (fr : AreFramed x) (entries : List ℕ) (k m : ℕ) (s : State) (t : Step) → IsLinked x → AreEntriesOf entries (map_in x) → IsCall entries x.start k m s
    → IsMet x fr t → HasPassed m t → k ≤ calls_noted t
passed_calls counts x fr entries k m s (On t) l are call met passed =
    let r : RunsTo x t = met.comes in
    let at = r.simulates.at in
    let here = counts entries (map_in x) x.start (record { core = at.core; rest = t.rest; output = t.out }) r.steps are at.runs in
    let log : source_calls (noted (map_in x) x.start r.steps).log ≡ source_calls t.trace = ap (λ (n : Noted). source_calls n.log) at.notes in
    let events = r.simulates.events in
    let le = counted entries x.start k m r.steps s call (omega (arith, passed, events)) in
    omega (arith, here, log, le)
passed_calls counts x fr entries k m s (Stopped end t) l are call met passed =
    let e : EndsSo x end t = met.comes in
    let le = stopped_later x l m e.steps s _ _ call.goes e.runs in
    let d = e.steps - m in
    let at : m + d ≡ e.steps = omega (arith, le) in
    let all : k ≤ source_calls (noted (map_in x) x.start e.steps).log = subst (λ (i : ℕ). k ≤ source_calls (noted (map_in x) x.start i).log) at (noted_from counts entries (map_in x) x.start s k m d are call) in
    let log : source_calls (noted (map_in x) x.start e.steps).log ≡ source_calls t.trace = ap source_calls e.log in
    omega (arith, all, log)
passed_calls counts x fr entries k m s Astray l are call met passed = absurd passed

-- ---- the step at which the k-th was noted

pub record IsKth (x : Setting) (scratch : ℕ → (ℕ → ℕ) → ℕ → ℕ) (s : Step) (k n : ℕ) : Type 0 where
  pub at : ℕ
  pub within : at ≤ n
  pub state : Machine
  pub is : steps x.program x.addresses scratch at s ≡ On state
  pub enters : EntersAs x k state

step_of : (x : Setting) → IsLinked x → (fr : AreFramed x) (scratch : ℕ → (ℕ → ℕ) → ℕ → ℕ) (m : Machine) → IsInLevel x fr m
    → Adds x (source_calls m.trace) (first_call m.frame.function m.frame.stack m.callers) (step x.program x.addresses scratch m)
step_of x l fr scratch m h =
    step_adds x scratch m m.frame.left (behind_all (IsFit x) h.before m.frame.left (subst (λ items. AllByRecursion (IsFit x) items) h.parts (l.fits m.frame.function h.there)))

-- a state that is entered has noted the call
entered_count : (x : Setting) (k : ℕ) (t : Machine) → EntersAs x k t → source_calls t.trace ≡ k
entered_count x k t e =
    let trace : source_calls t.trace ≡ source_calls (enters x.program x.addresses e.entered.function e.entered.caller).trace = ap (λ (t : Machine). source_calls t.trace) e.entered.is in
    let one : one_if (is_of_source (name_in e.entered.function)) ≡ 1 = ap one_if e.of_source in
    let count = e.count in
    omega (arith, trace, one, count)

kth_later : (x : Setting) (scratch : ℕ → (ℕ → ℕ) → ℕ → ℕ) (s : Step) (k n : ℕ) → IsKth x scratch s k n → IsKth x scratch s k (suc n)
kth_later x scratch s k n h = record { at = h.at; within = (let le = h.within in omega (arith, le)); state = h.state; is = h.is; enters = h.enters }

kth_by : (x : Setting) (scratch : ℕ → (ℕ → ℕ) → ℕ → ℕ) (s : Step) (k n : ℕ) (m t : Machine) → 1 ≤ k → steps x.program x.addresses scratch (suc n) s ≡ On t
    → (source_calls t.trace ≡ source_calls m.trace) ⊎ EntersAs x (source_calls m.trace + 1) t → k ≤ source_calls t.trace → (k ≤ source_calls m.trace → IsKth x scratch s k n) → IsKth x scratch s k (suc n)
kth_by x scratch s k n m t some is (inl same) le before = kth_later x scratch s k n (before (omega (arith, same, le)))
kth_by x scratch s k n m t some is (inr new) le before = by (cases_lt (source_calls m.trace) k)
  where
    count : source_calls t.trace ≡ source_calls m.trace + 1
    count = entered_count x (source_calls m.trace + 1) t new

    by : (source_calls m.trace < k) ⊎ (k ≤ source_calls m.trace) → IsKth x scratch s k (suc n)
    by (inr low) = kth_later x scratch s k n (before low)
    by (inl high) =
        let here : source_calls m.trace + 1 ≡ k = omega (arith, count, le, high) in
        record { at = suc n; within = omega arith; state = t; is = is; enters = subst (λ (i : ℕ). EntersAs x i t) here new }

kth_on : (x : Setting) (scratch : ℕ → (ℕ → ℕ) → ℕ → ℕ) (s : Step) (k n : ℕ) (m : Machine) (f : LineFn × ℕ) (u : Step) → 1 ≤ k → steps x.program x.addresses scratch (suc n) s ≡ u
    → Adds x (source_calls m.trace) f u → k ≤ calls_noted u → (k ≤ source_calls m.trace → IsKth x scratch s k n) → IsKth x scratch s k (suc n)
kth_on x scratch s k n m f (On t) some is adds le before = kth_by x scratch s k n m t some is adds.1 le before
kth_on x scratch s k n m f (Stopped end t) some is adds le before = kth_later x scratch s k n (before (omega (arith, adds, le)))
kth_on x scratch s k n m f Astray some is adds le before = absurd (omega (arith, some, le))

kth_more : (x : Setting) → IsLinked x → (fr : AreFramed x) (scratch : ℕ → (ℕ → ℕ) → ℕ → ℕ) (s : Step) (k n : ℕ) (t : Step) → 1 ≤ k → steps x.program x.addresses scratch n s ≡ t → StepLevel x fr t
    → k ≤ calls_noted (steps x.program x.addresses scratch (suc n) s) → (k ≤ calls_noted t → IsKth x scratch s k n) → IsKth x scratch s k (suc n)
kth_more x l fr scratch s k n (On m) some is level le before =
    let next = last_step x scratch n s ∙ ap (λ (t : Step). and_then t (step x.program x.addresses scratch)) is in
    kth_on x scratch s k n m (first_call m.frame.function m.frame.stack m.callers) (step x.program x.addresses scratch m) some next (step_of x l fr scratch m level)
    (subst (λ (t : Step). k ≤ calls_noted t) next le) before
kth_more x l fr scratch s k n (Stopped end m) some is level le before =
    let next = last_step x scratch n s ∙ ap (λ (t : Step). and_then t (step x.program x.addresses scratch)) is in
    kth_later x scratch s k n (before (subst (λ (t : Step). k ≤ calls_noted t) next le))
kth_more x l fr scratch s k n Astray some is level le before =
    let next = last_step x scratch n s ∙ ap (λ (t : Step). and_then t (step x.program x.addresses scratch)) is in
    let none : k ≤ 0 = subst (λ (t : Step). k ≤ calls_noted t) next le in
    absurd (omega (arith, some, none))

kth : (x : Setting) → IsLinked x → (fr : AreFramed x) (scratch : ℕ → (ℕ → ℕ) → ℕ → ℕ) (s : Step) → ((i : ℕ) → StepLevel x fr (steps x.program x.addresses scratch i s)) → calls_noted s ≡ 0 → (k n : ℕ) → 1 ≤ k
    → k ≤ calls_noted (steps x.program x.addresses scratch n s) → IsKth x scratch s k n
unfolding steps
kth x l fr scratch s levels none k zero some le = absurd (omega (arith, none, some, le))
kth x l fr scratch s levels none k (suc n) some le =
    kth_more x l fr scratch s k n (steps x.program x.addresses scratch n s) some refl (levels n) le (λ low. kth x l fr scratch s levels none k n some low)

-- ---- the first call

abbrev pub StepFirst : LineFn × ℕ → Step → Type 0
StepFirst f (On m) = first_call m.frame.function m.frame.stack m.callers ≡ f
StepFirst f _ = Unit {0}

first_by : (x : Setting) (k : ℕ) (f : LineFn × ℕ) (s : Step) → Adds x k f s → StepFirst f s
first_by x k f (On t) adds = adds.0
first_by x k f (Stopped end t) adds = tt
first_by x k f Astray adds = tt

first_more : (x : Setting) → IsLinked x → (fr : AreFramed x) (scratch : ℕ → (ℕ → ℕ) → ℕ → ℕ) (f : LineFn × ℕ) (s : Step) → StepLevel x fr s → StepFirst f s → StepFirst f (and_then s (step x.program x.addresses scratch))
first_more x l fr scratch f (On m) level first =
    subst (λ (g : LineFn × ℕ). StepFirst g (step x.program x.addresses scratch m)) first
    (first_by x (source_calls m.trace) (first_call m.frame.function m.frame.stack m.callers) (step x.program x.addresses scratch m) (step_of x l fr scratch m level))
first_more x l fr scratch f (Stopped end m) level first = tt
first_more x l fr scratch f Astray level first = tt

firsts : (x : Setting) → IsLinked x → (fr : AreFramed x) (scratch : ℕ → (ℕ → ℕ) → ℕ → ℕ) (f : LineFn × ℕ) (s : Step) → ((i : ℕ) → StepLevel x fr (steps x.program x.addresses scratch i s)) → StepFirst f s
    → (n : ℕ) → StepFirst f (steps x.program x.addresses scratch n s)
unfolding steps
firsts x l fr scratch f s levels first zero = first
firsts x l fr scratch f s levels first (suc n) =
    subst (λ (t : Step). StepFirst f t) (sym (last_step x scratch n s))
    (first_more x l fr scratch f (steps x.program x.addresses scratch n s) (levels n) (firsts x l fr scratch f s levels first n))

start_none : is_of_source start_name ≡ false
start_none = refl

start_calls : (p : LineProgram) (w : Addresses) (input : List ℕ) (o : Option LineFn) → function_named p start_name ≡ o → calls_noted (start p w input) ≡ 0
start_calls p w input None e = rw e refl
start_calls p w input (Some f) e = rw e (let none : one_if (is_of_source start_name) ≡ 0 = ap one_if start_none in omega (arith, none))

start_first : (p : LineProgram) (w : Addresses) (input : List ℕ) (f : LineFn) → function_named p start_name ≡ Some f → StepFirst (f, w.base) (start p w input)
start_first p w input f e = rw e refl

-- ---- the machine there

all_alone : (before items : List Item) → items ≡ before ++ items → before ≡ []
all_alone [] items e = refl
all_alone (i ∷ before) items e =
    let long : length items ≡ length ((i ∷ before) ++ items) = ap length e in
    let sum = length-append (i ∷ before) items in
    let one : length (i ∷ before) ≡ suc (length before) = refl in
    absurd (omega (arith, long, sum, one))

-- what is left of a function that was just entered stands at its address
stands_first : (x : Setting) (g : LineFn) (left : List Item) (a : ℕ) → left ≡ g.items → IsLeft x g left a → a ≡ own_address x g
stands_first x g left a all h =
    let none : h.before ≡ [] = all_alone h.before g.items (subst (λ (items : List Item). g.items ≡ h.before ++ items) all h.items) in
    let words : words_of x g h.before ≡ 0 = ap (λ (items : List Item). words_of x g items) none in
    let at = h.at in
    omega (arith, at, words)

shown_call : CallsAreCounted → (x : Setting) (entries : List ℕ) (k steps : ℕ) (m : Machine) → IsLinked x → AreEntriesOf entries (map_in x) → EntersAs x k m → (h : Simulates x m steps)
    → IsCall entries x.start k steps (record { core = h.at.core; rest = m.rest; output = m.out })
shown_call counts x entries k steps m l are e h =
    let at = h.at in
    let s : State = record { core = at.core; rest = m.rest; output = m.out } in
    let g = e.entered.function in
    let u = e.entered.caller in
    let run : m.core.skip ≡ false = ap (λ (t : Machine). t.core.skip) e.entered.is ∙ e.entered.run in
    let on : at.core.nullify ≡ false = sym at.shows.skip ∙ run in
    let function : m.frame.function ≡ g = ap (λ (t : Machine). t.frame.function) e.entered.is in
    let left : m.frame.left ≡ m.frame.function.items = ap (λ (t : Machine). t.frame.left) e.entered.is ∙ ap (λ (f : LineFn). f.items) (sym function) in
    let front : at.core.front ≡ own_address x m.frame.function = at.front ∙ stands_first x m.frame.function m.frame.left h.address left h.left in
    let named : function_at (map_in x) at.core.front ≡ Some (name_in m.frame.function) = ap (function_at (map_in x)) front ∙ l.entries m.frame.function h.there in
    let source : is_of_source (name_in m.frame.function) ≡ true = ap (λ (f : LineFn). is_of_source (name_in f)) function ∙ e.of_source in
    let found : list_any (λ b. b == at.core.front) entries ≡ true = are at.core.front ∙ ap is_source named ∙ source in
    let here : is_at entries at.core ≡ true = ap (λ (b : Bool). not b && list_any (λ a. a == at.core.front) entries) on ∙ found in
    let all = counts entries (map_in x) x.start s steps are at.runs in
    let log : source_calls (noted (map_in x) x.start steps).log ≡ source_calls m.trace = ap (λ (n : Noted). source_calls n.log) at.notes in
    let count = entered_count x k m e in
    let next = next_counts entries x.start s steps at.runs in
    let one : one_if (is_at entries s.core) ≡ 1 = ap one_if here in
    record { goes = at.runs; at = here; before = omega (arith, all, log, count, next, one) }

-- ---- together

pub enters_at : CallsAreCounted → OneStep → OneState → (x : Setting) (fr : AreFramed x) (scratch : ℕ → (ℕ → ℕ) → ℕ → ℕ) (input : List ℕ) (entries : List ℕ) (k m n : ℕ) (s : State) → IsLinked x
    → AreEntriesOf entries (map_in x) → ((i : ℕ) → IsMet x fr (steps x.program x.addresses scratch i (start x.program x.addresses input))) → IsCall entries x.start k m s
    → HasPassed m (steps x.program x.addresses scratch n (start x.program x.addresses input)) → EntersAt x fr scratch input k m n s
enters_at counts one state x fr scratch input entries k m n s l are met call passed =
    let first = start x.program x.addresses input in
    let levels : (i : ℕ) → StepLevel x fr (steps x.program x.addresses scratch i first) = λ i. (met i).level in
    let before = call.before in
    let some : 1 ≤ k = omega (arith, before) in
    let le = passed_calls counts x fr entries k m s (steps x.program x.addresses scratch n first) l are call (met n) passed in
    let h = kth x l fr scratch first levels (start_calls x.program x.addresses input (function_named x.program start_name) refl) k n some le in
    let there : IsMet x fr (On h.state) = subst (λ (t : Step). IsMet x fr t) h.is (met h.at) in
    let r : RunsTo x h.state = there.comes in
    let own = shown_call counts x entries k r.steps h.state l are h.enters r.simulates in
    record {
      at = h.at;
      within = h.within;
      state = h.state;
      is = h.is;
      enters = h.enters;
      first = λ f named. subst (λ (t : Step). StepFirst (f, x.addresses.base) t) h.is (firsts x l fr scratch (f, x.addresses.base) first levels (start_first x.program x.addresses input f named) h.at);
      level = there.level;
      step = r.steps;
      simulates = r.simulates;
      step_is = one entries x.start k r.steps m _ s own call;
      core = ap (λ (t : State). t.core) (state entries x.start k r.steps m _ s own call);
    }
