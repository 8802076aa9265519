-- What a step of the lines adds to the calls of functions of the source: none, or one, where it enters a function.
use Rattle.std.specs.Prelude.{ℕ, ◌≡◌, ◌+◌, ◌==◌, ◌&&◌, ◌⊎◌, nat_lt, Bool, true, false, if◌then◌else◌, Option, Some, None, List, [], ◌∷◌, ◌++◌, count_by}
use Rattle.std.specs.List.{flat_map, AllByRecursion}
use Rattle.std.specs.Str.{bytes_eq}
use Rattle.std.proofs.Common.{arith, inl, inr, subst, sym, ap, refl, ◌∙◌}
use Rattle.std.proofs.lemmas.Bool.{eqb-true}
use Rattle.std.proofs.lemmas.List.Concat.{flat_map-cons}
use Rattle.pw_value.specs.ProgramNames.{exit_name, getchar_name, putchar_name}
use Rattle.pw_inst.specs.declared.Inst.{Inst}
use Rattle.pw_inst.specs.declared.relocation.Symbol.TheVariants as symbol
use Rattle.pw_flow.specs.declared.flow.FlowGlobal.{FlowGlobal}
use Rattle.pw_delay.specs.declared.items.Word.{Word}
use Rattle.pw_delay.specs.declared.items.Turn.{Turn}
use Rattle.pw_delay.specs.declared.items.Turn.TheVariants.{Back, Goto, If, CallTo, CallReg, Leave}
use Rattle.pw_delay.specs.declared.items.Item.{Item}
use Rattle.pw_delay.specs.declared.items.Item.TheVariants.{Plain, Turns, Mark}
use Rattle.pw_run_languages.specs.Traces.{Event, Loaded, Stored, is_of_source, touches}
use Rattle.pw_run_languages.specs.Programs.{Library, GetChar, PutChar, Exit, library_at, globals_of}
use Rattle.pw_run_languages.specs.Acts as lines
use Rattle.pw_run_languages.specs.Acts.{Act, Acts, Full, Fails, acts, settled, loaded_at, stored_at}
use Rattle.pw_run_languages.specs.Addresses.{Addresses}
use Rattle.pw_run_languages.specs.LineRun.{LineFn, LineProgram, Frame, Machine, Step, On, Stopped, Astray, accesses, went_on, left_behind, counted, return_address, goes_to, to_block, from_mark, back_over, goes_back, is_taken, distance, library, calls, calls_at, function_at, function_named, linked, through_slot, routine, returns, turned, step, enters}
use Rattle.pw_law_where.specs.Counting.{source_calls}
use Rattle.pw_where.specs.Calls.{one_if}
use Rattle.pw_law_link_run.specs.Steps.{Setting}
use Rattle.pw_law_link_run.specs.Placing.{name_in}
use Rattle.pw_law_link_run.specs.Slots.{IsSlotFit, SlotDoes, behind_slot}
use Rattle.pw_law_link_run.specs.Simulating.{IsFit}
use Rattle.pw_law_link_run.proofs.Slots.{slot_by, slot_runs}
use Rattle.pw_law_link_run.proofs.Calls.{after_return}
use Rattle.pw_law_link_run.proofs.Entering.{called_by, calls_are, calls_astray}
use Rattle.pw_law_entered.specs.Entered.{first_call, EntersAs}

abbrev pub Events : Type 0
Events = List (Event ℕ ℕ)

append_counts : (xs ys : Events) → source_calls (xs ++ ys) ≡ source_calls xs + source_calls ys
append_counts [] ys = omega arith
append_counts (e ∷ xs) ys = let rest = append_counts xs ys in omega (arith, rest)

-- ---- loads and stores

loads_or_stores : (v : List ℕ) (a b : Bool) → source_calls ((if a then Loaded v ∷ [] else []) ++ (if b then Stored v ∷ [] else [])) ≡ 0
loads_or_stores v true true = refl
loads_or_stores v true false = refl
loads_or_stores v false true = refl
loads_or_stores v false false = refl

flat_quiet : (f : FlowGlobal → Events) → ((g : FlowGlobal) → source_calls (f g) ≡ 0) → (gs : List FlowGlobal) → source_calls (flat_map f gs) ≡ 0
flat_quiet f quiet [] = refl
flat_quiet f quiet (g ∷ gs) =
    let rest = flat_quiet f quiet gs in
    let own = quiet g in
    ap source_calls (flat_map-cons f g gs) ∙ append_counts (f g) (flat_map f gs) ∙ omega (arith, own, rest)

unless_skipped : (b : Bool) (log : Events) → source_calls log ≡ 0 → source_calls (if b then [] else log) ≡ 0
unless_skipped true log h = refl
unless_skipped false log h = h

pub accesses_quiet : (p : LineProgram) (w : Addresses) (o : Option Inst) (c : lines.Core) → source_calls (accesses p w o c) ≡ 0
accesses_quiet p w None c = refl
accesses_quiet p w (Some i) c =
    unless_skipped c.skip _ (flat_quiet _ (λ g. loads_or_stores g.name
    (nat_lt 0 (count_by (bytes_eq g.name) p.eligible) && touches (loaded_at i c) (w.named g.name) g.size)
    (nat_lt 0 (count_by (bytes_eq g.name) p.eligible) && touches (stored_at i c) (w.named g.name) g.size)) (globals_of p.flow))

slot_quiet : (x : Setting) (slot : Option Word) (c d : lines.Core) (es : Events) → SlotDoes x slot c d es → source_calls es ≡ 0
slot_quiet x None c d es does = ap source_calls does.1
slot_quiet x (Some word) c d es does = ap source_calls does.1 ∙ accesses_quiet x.program x.addresses (settled x.addresses word) c

-- ---- what a step adds

-- of the calls there were so many, and this was the first of the active ones
abbrev pub Adds : Setting → ℕ → LineFn × ℕ → Step → Type 0
Adds x k f (On t) = (first_call t.frame.function t.frame.stack t.callers ≡ f) × ((source_calls t.trace ≡ k) ⊎ EntersAs x (k + 1) t)
Adds x k f (Stopped end t) = source_calls t.trace ≡ k
Adds x k f Astray = Unit {0}

went_adds : (x : Setting) (o : Option Inst) (m : Machine) (k : ℕ) (f : LineFn × ℕ) (a : Act) → source_calls m.trace ≡ k → first_call m.frame.function m.frame.stack m.callers ≡ f
    → Adds x k f (went_on x.program x.addresses o a m)
went_adds x o m k f (Acts c) count first =
    let quiet = accesses_quiet x.program x.addresses o m.core in
    let both = append_counts (accesses x.program x.addresses o m.core) m.trace in
    (first, inl (both ∙ omega (arith, quiet, count)))
went_adds x o m k f Full count first = count
went_adds x o m k f Fails count first = tt

slot_adds : (x : Setting) (slot : Option Word) (m : Machine) (next : Machine → Step) (k : ℕ) (f : LineFn × ℕ) → source_calls m.trace ≡ k
    → ((d : lines.Core) (es : Events) → SlotDoes x slot m.core d es → source_calls (es ++ m.trace) ≡ k → Adds x k f (next (behind_slot d es m)))
    → Adds x k f (through_slot x.program x.addresses slot next m)
slot_adds x slot m next k f count go =
    slot_by x slot m next (λ s. Adds x k f s) (λ word is full. count) tt
    (λ d es does.
    let quiet = slot_quiet x slot m.core d es does in
    let both = append_counts es m.trace in
    go d es does (both ∙ omega (arith, quiet, count)))

either_adds : (x : Setting) (k : ℕ) (f : LineFn × ℕ) (b : Bool) (s t : Step) → Adds x k f s → Adds x k f t → Adds x k f (if b then s else t)
either_adds x k f true s t p q = p
either_adds x k f false s t p q = q

goes_adds : (x : Setting) (k : ℕ) (f : LineFn × ℕ) (o : Option (List Item)) (m : Machine) → source_calls m.trace ≡ k → first_call m.frame.function m.frame.stack m.callers ≡ f → Adds x k f (goes_to o m)
goes_adds x k f None m count first = tt
goes_adds x k f (Some items) m count first = (first, inl count)

back_adds : (x : Setting) (k : ℕ) (f : LineFn × ℕ) (o : Option ℕ) (here : List Item) (m : Machine) → source_calls m.trace ≡ k → first_call m.frame.function m.frame.stack m.callers ≡ f → Adds x k f (goes_back o here m)
back_adds x k f None here m count first = tt
back_adds x k f (Some n) here m count first = goes_adds x k f (back_over n here m.frame.function.items) m count first

-- ---- calls

named_library : (is_of_source getchar_name ≡ false) × (is_of_source putchar_name ≡ false) × (is_of_source exit_name ≡ false)
named_library = (refl, refl, refl)

library_adds : (x : Setting) (m : Machine) (g : Library) (rest : List ℕ) (k : ℕ) (f : LineFn × ℕ) → source_calls m.trace ≡ k → first_call m.frame.function m.frame.stack m.callers ≡ f
    → Adds x k f (library x.program x.addresses g (record m { rest = rest }))
library_adds x m GetChar [] k f count first =
    let none : one_if (is_of_source getchar_name) ≡ 0 = ap one_if named_library.0 in
    (first, inl (omega (arith, none, count)))
library_adds x m GetChar (byte ∷ rest) k f count first =
    let none : one_if (is_of_source getchar_name) ≡ 0 = ap one_if named_library.0 in
    (first, inl (omega (arith, none, count)))
library_adds x m PutChar rest k f count first =
    let none : one_if (is_of_source putchar_name) ≡ 0 = ap one_if named_library.1 in
    (first, inl (omega (arith, none, count)))
library_adds x m Exit rest k f count first =
    let none : one_if (is_of_source exit_name) ≡ 0 = ap one_if named_library.2 in
    omega (arith, none, count)

-- a call whose return address stands in register 2, where the next word is not passed over
enter_adds : (x : Setting) (u : Machine) (g : LineFn) (k : ℕ) (f : LineFn × ℕ) (b : Bool) → is_of_source (name_in g) ≡ b → source_calls u.trace ≡ k → first_call u.frame.function u.frame.stack u.callers ≡ f
    → lines.register u.core 2 ≡ return_address x.addresses u.frame u.frame.left → u.core.skip ≡ false → Adds x k f (On (enters x.program x.addresses g u))
enter_adds x u g k f true is count first link run =
    (first, inr (record { entered = record { function = g; caller = u; is = refl; link = link; run = run }; of_source = is; count = ap (λ n. n + 1) count }))
enter_adds x u g k f false is count first link run =
    let none : one_if (is_of_source (name_in g)) ≡ 0 = ap one_if is in
    (first, inl (omega (arith, none, count)))

called_adds : (x : Setting) (u : Machine) (k : ℕ) (f : LineFn × ℕ) (o : Option Library) (d : Option LineFn) → source_calls u.trace ≡ k → first_call u.frame.function u.frame.stack u.callers ≡ f
    → lines.register u.core 2 ≡ return_address x.addresses u.frame u.frame.left → u.core.skip ≡ false → Adds x k f (called_by x u o d)
called_adds x u k f (Some g) d count first link run = library_adds x u g u.rest k f count first
called_adds x u k f None (Some g) count first link run = enter_adds x u g k f (is_of_source (name_in g)) refl count first link run
called_adds x u k f None None count first link run = tt

calls_adds : (x : Setting) (u : Machine) (to : ℕ) (name : List ℕ) (k : ℕ) (f : LineFn × ℕ) → source_calls u.trace ≡ k → first_call u.frame.function u.frame.stack u.callers ≡ f
    → to ≡ return_address x.addresses u.frame u.frame.left → u.core.skip ≡ false → Adds x k f (calls x.program x.addresses to name u)
calls_adds x u to name k f count first back run = by (lines.register u.core 2 == to) refl
  where
    by : (b : Bool) → (lines.register u.core 2 == to) ≡ b → Adds x k f (calls x.program x.addresses to name u)
    by true is =
        let link = eqb-true (lines.register u.core 2) to is in
        let e = calls_are x u to name (library_at name) (function_named x.program name) refl refl link in
        subst (λ s. Adds x k f s) (sym e) (called_adds x u k f (library_at name) (function_named x.program name) count first (link ∙ back) run)
    by false is = subst (λ s. Adds x k f s) (sym (calls_astray x to u name is)) tt

calls_at_adds : (x : Setting) (u : Machine) (to : ℕ) (o : Option (List ℕ)) (k : ℕ) (f : LineFn × ℕ) → source_calls u.trace ≡ k → first_call u.frame.function u.frame.stack u.callers ≡ f
    → to ≡ return_address x.addresses u.frame u.frame.left → u.core.skip ≡ false → Adds x k f (calls_at x.program x.addresses to o u)
calls_at_adds x u to None k f count first back run = tt
calls_at_adds x u to (Some name) k f count first back run = calls_adds x u to name k f count first back run

-- ---- returns

left_adds : (x : Setting) (s : Machine) (g : Frame) (gs : List Frame) (k : ℕ) (f : LineFn × ℕ) (b : Bool) → source_calls s.trace ≡ k → first_call g.function g.stack gs ≡ f
    → Adds x k f (if b then On (after_return x s g gs) else Astray)
left_adds x s g gs k f true count first = (first, inl (omega (arith, count)))
left_adds x s g gs k f false count first = tt

returns_adds : (x : Setting) (m : Machine) (to : ℕ) (rest : List Item) (d : lines.Core) (es : Events) (callers : List Frame) (k : ℕ) (f : LineFn × ℕ) → source_calls (es ++ m.trace) ≡ k
    → first_call m.frame.function m.frame.stack callers ≡ f → Adds x k f (returns x.program x.addresses to (behind_slot d es (record (left_behind rest m) { callers = callers })))
returns_adds x m to rest d es [] k f count first = tt
returns_adds x m to rest d es (g ∷ gs) k f count first =
    let s = behind_slot d es (record (left_behind rest m) { callers = g ∷ gs }) in
    left_adds x s g gs k f ((to == return_address x.addresses g g.left) && (lines.register d 30 == m.frame.stack)) count first

-- ---- turns

named_adds : (x : Setting) (scratch : ℕ → (ℕ → ℕ) → ℕ → ℕ) (name : List ℕ) (slot : Option Word) → IsSlotFit x slot → (m : Machine) (rest : List Item) → m.core.skip ≡ false
    → Adds x (source_calls m.trace) (first_call m.frame.function m.frame.stack m.callers)
    (turned x.program x.addresses scratch (CallTo (symbol.Named name) 2) slot (Turns (CallTo (symbol.Named name) 2) slot ∷ rest) rest (left_behind (Turns (CallTo (symbol.Named name) 2) slot ∷ rest) m))
named_adds x scratch name slot fit m rest run =
    let k = source_calls m.trace in
    let f = first_call m.frame.function m.frame.stack m.callers in
    let to = return_address x.addresses m.frame rest in
    let u = linked 2 to (left_behind rest m) in
    slot_adds x slot u (calls x.program x.addresses to name) k f refl
    (λ d es does count. calls_adds x (behind_slot d es u) to name k f count refl refl (slot_runs x slot u.core d es fit run does))

turn_adds : (x : Setting) (scratch : ℕ → (ℕ → ℕ) → ℕ → ℕ) (turn : Turn) (slot : Option Word) → IsFit x (Turns turn slot) → (m : Machine) (rest : List Item) → m.core.skip ≡ false
    → Adds x (source_calls m.trace) (first_call m.frame.function m.frame.stack m.callers)
    (turned x.program x.addresses scratch turn slot (Turns turn slot ∷ rest) rest (left_behind (Turns turn slot ∷ rest) m))
turn_adds x scratch (Back branch) slot fit m rest run =
    let item = Turns (Back branch) slot in
    let k = source_calls m.trace in
    let f = first_call m.frame.function m.frame.stack m.callers in
    let u = counted (left_behind (item ∷ rest) m) in
    either_adds x k f (is_taken branch m.core) (through_slot x.program x.addresses slot (goes_back (distance branch) (item ∷ rest)) u) (through_slot x.program x.addresses slot (λ s. On s) (left_behind rest m))
    (slot_adds x slot u (goes_back (distance branch) (item ∷ rest)) k f refl (λ d es does count. back_adds x k f (distance branch) (item ∷ rest) (behind_slot d es u) count refl))
    (slot_adds x slot (left_behind rest m) (λ s. On s) k f refl (λ d es does count. (refl, inl count)))
turn_adds x scratch (Goto b) slot fit m rest run =
    let k = source_calls m.trace in
    let f = first_call m.frame.function m.frame.stack m.callers in
    let u = counted (left_behind (Turns (Goto b) slot ∷ rest) m) in
    slot_adds x slot u (to_block b) k f refl (λ d es does count. goes_adds x k f (from_mark b m.frame.function.items) (behind_slot d es u) count refl)
turn_adds x scratch (If r b) slot fit m rest run =
    let k = source_calls m.trace in
    let f = first_call m.frame.function m.frame.stack m.callers in
    let u = counted (left_behind (Turns (If r b) slot ∷ rest) m) in
    either_adds x k f (lines.register m.core r == 0) (through_slot x.program x.addresses slot (λ s. On s) (left_behind rest m)) (through_slot x.program x.addresses slot (to_block b) u)
    (slot_adds x slot (left_behind rest m) (λ s. On s) k f refl (λ d es does count. (refl, inl count)))
    (slot_adds x slot u (to_block b) k f refl (λ d es does count. goes_adds x k f (from_mark b m.frame.function.items) (behind_slot d es u) count refl))
turn_adds x scratch (CallTo (symbol.Named name) link) slot fit m rest run =
    subst (λ (v : ℕ). Adds x (source_calls m.trace) (first_call m.frame.function m.frame.stack m.callers)
    (turned x.program x.addresses scratch (CallTo (symbol.Named name) v) slot (Turns (CallTo (symbol.Named name) v) slot ∷ rest) rest (left_behind (Turns (CallTo (symbol.Named name) v) slot ∷ rest) m)))
    (sym fit.0) (named_adds x scratch name slot fit.1 m rest run)
turn_adds x scratch (CallTo (symbol.Routine j) link) slot fit m rest run =
    let k = source_calls m.trace in
    let f = first_call m.frame.function m.frame.stack m.callers in
    slot_adds x slot (linked link (return_address x.addresses m.frame rest) (left_behind rest m)) (routine scratch j) k f refl (λ d es does count. (refl, inl count))
turn_adds x scratch (CallTo symbol.StackLimit link) slot fit m rest run = tt
turn_adds x scratch (CallTo (symbol.Word j) link) slot fit m rest run = tt
turn_adds x scratch CallReg slot fit m rest run =
    let k = source_calls m.trace in
    let f = first_call m.frame.function m.frame.stack m.callers in
    let to = return_address x.addresses m.frame rest in
    let u = linked 31 to (left_behind rest m) in
    let o = function_at x.program x.addresses (lines.register m.core 22) in
    slot_adds x slot u (calls_at x.program x.addresses to o) k f refl
    (λ d es does count. calls_at_adds x (behind_slot d es u) to o k f count refl refl (slot_runs x slot u.core d es fit run does))
turn_adds x scratch Leave slot fit m rest run =
    let k = source_calls m.trace in
    let f = first_call m.frame.function m.frame.stack m.callers in
    slot_adds x slot (left_behind rest m) (returns x.program x.addresses (lines.register m.core 2)) k f refl
    (λ d es does count. returns_adds x m (lines.register m.core 2) rest d es m.callers k f count refl)

skip_adds : (x : Setting) (scratch : ℕ → (ℕ → ℕ) → ℕ → ℕ) (turn : Turn) (slot : Option Word) → IsFit x (Turns turn slot) → (m : Machine) (rest : List Item) (b : Bool) → m.core.skip ≡ b
    → Adds x (source_calls m.trace) (first_call m.frame.function m.frame.stack m.callers)
    (if b then Astray else turned x.program x.addresses scratch turn slot (Turns turn slot ∷ rest) rest (left_behind (Turns turn slot ∷ rest) m))
skip_adds x scratch turn slot fit m rest true run = tt
skip_adds x scratch turn slot fit m rest false run = turn_adds x scratch turn slot fit m rest run

-- ---- a step

pub step_adds : (x : Setting) (scratch : ℕ → (ℕ → ℕ) → ℕ → ℕ) (m : Machine) (left : List Item) → AllByRecursion (IsFit x) left
    → Adds x (source_calls m.trace) (first_call m.frame.function m.frame.stack m.callers) (step x.program x.addresses scratch (left_behind left m))
unfolding step
step_adds x scratch m [] fits = tt
step_adds x scratch m (Plain w ∷ left) fits =
    went_adds x (settled x.addresses w) (left_behind left m) (source_calls m.trace) (first_call m.frame.function m.frame.stack m.callers) (acts x.addresses (settled x.addresses w) m.core) refl refl
step_adds x scratch m (Mark b ∷ left) fits = (refl, inl refl)
step_adds x scratch m (Turns turn slot ∷ left) fits = skip_adds x scratch turn slot fits.0 m left m.core.skip refl
