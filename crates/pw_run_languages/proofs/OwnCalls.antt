-- The calls that are active by what a machine has noted are those that it has itself.
use Rattle.std.specs.Prelude.{ℕ, zero, suc, ◌≡◌, ◌+◌, ◌&&◌, Bool, true, false, not, if◌then◌else◌, Option, Some, None, List, [], ◌∷◌, ◌++◌, map}
use Rattle.std.specs.List.{flat_map}
use Rattle.std.proofs.Common.{arith, subst, sym, ap, refl, ◌∙◌}
use Rattle.std.proofs.lemmas.List.{append_assoc}
use Rattle.std.proofs.lemmas.List.Concat.{flat_map-cons}
use Rattle.pw_inst.specs.declared.Inst.{Inst}
use Rattle.pw_inst.specs.InstructionTable.{decoded}
use Rattle.pw_flow.specs.declared.flow.FlowGlobal.{FlowGlobal}
use Rattle.pw_machine.specs.Core.{Core, word_at}
use Rattle.pw_machine.specs.Run.{State, Progress, Running, Stopped, run_of}
use Rattle.pw_run_languages.specs.Traces.{Standing, Event, Called, Returned, Loaded, Stored, touches}
use Rattle.pw_run_languages.specs.Traffic.{Open, with_event, without, active}
use Rattle.pw_run_languages.specs.Programs.{globals_of}
use Rattle.pw_run_languages.specs.Acts as lines
use Rattle.pw_run_languages.specs.Acts.{loaded_at, stored_at}
use Rattle.pw_run_languages.specs.MachineRun.{Map, Call, Noted, core_of, is_eligible, has_returned, globals_in, kept, with_returns, left, called, function_at, arrived, accesses_to, accesses_of, accesses_in, stepped, began, noted, told_active, own_active}

-- ---- what an event changes

same_functions : (e : Event ℕ ℕ) (xs : List (Open ℕ ℕ)) → map (λ o. o.function) (map (with_event e) xs) ≡ map (λ o. o.function) xs
same_functions e [] = refl
same_functions e (x ∷ xs) = ap (λ r. x.function ∷ r) (same_functions e xs)

without_one : (k : ℕ) (xs : List (Open ℕ ℕ)) → map (λ o. o.function) (without k xs) ≡ without k (map (λ o. o.function) xs)
without_one k [] = refl
without_one zero (x ∷ xs) = refl
without_one (suc k) (x ∷ xs) = ap (λ r. x.function ∷ r) (without_one k xs)

told_called : (f : List ℕ) (gs : List (Standing ℕ ℕ)) (rs : List ℕ) (l : List (Event ℕ ℕ))
    → told_active (Called f gs rs ∷ l) ≡ f ∷ told_active l
told_called f gs rs l = ap (λ r. f ∷ r) (same_functions (Called f gs rs) (active l))

told_returned : (f : List ℕ) (k : ℕ) (gs : List (Standing ℕ ℕ)) (rs ss : List ℕ) (l : List (Event ℕ ℕ))
    → told_active (Returned f k gs rs ss ∷ l) ≡ without k (told_active l)
told_returned f k gs rs ss l = same_functions (Returned f k gs rs ss) (without k (active l)) ∙ without_one k (active l)

-- ---- returns

abbrev count : {X : Type 0} → List X → ℕ
count [] = zero
count (x ∷ xs) = suc (count xs)

one_more : {X : Type 0} (xs : List X) (y : X) → count (xs ++ y ∷ []) ≡ suc (count xs)
one_more [] y = refl
one_more (x ∷ xs) y = ap suc (one_more xs y)

moved : {X : Type 0} (xs : List X) (y : X) (zs : List X) → (xs ++ y ∷ []) ++ zs ≡ xs ++ y ∷ zs
moved [] y zs = refl
moved (x ∷ xs) y zs = ap (λ r. x ∷ r) (moved xs y zs)

without_middle : {X : Type 0} (xs : List X) (y : X) (zs : List X) → without (count xs) (xs ++ y ∷ zs) ≡ xs ++ zs
without_middle [] y zs = refl
without_middle (x ∷ xs) y zs = ap (λ r. x ∷ r) (without_middle xs y zs)

either : (b : Bool) (first second : List (Event ℕ ℕ)) (keeps : List (List ℕ)) (call : Call) (rest : List Call)
    → told_active first ≡ keeps ++ own_active rest → told_active second ≡ keeps ++ call.function ∷ own_active rest
    → told_active (if b then first else second) ≡ keeps ++ own_active (if not b then call ∷ rest else rest)
either true first second keeps call rest p q = p
either false first second keeps call rest p q = q

-- where so many of the calls are still active that were made after these
returned : (m : Map) (c : Core) (keeps : List (List ℕ)) (inner : ℕ) (calls : List Call) (log : List (Event ℕ ℕ))
    → inner ≡ count keeps → told_active log ≡ keeps ++ own_active calls
    → told_active (with_returns m c inner calls log) ≡ keeps ++ own_active (left c calls)
returned m c keeps inner [] log n e = e
returned m c keeps inner (call ∷ callers) log n e =
    let event : Event ℕ ℕ = Returned call.function inner (globals_in m c callers) call.before (kept c) in
    let one : told_active (event ∷ log) ≡ keeps ++ own_active callers =
    told_returned call.function inner (globals_in m c callers) call.before (kept c) log
    ∙ (ap (without inner) e
    ∙ (ap (λ k. without k (keeps ++ call.function ∷ own_active callers)) n ∙ without_middle keeps call.function (own_active callers))) in
    let more : inner + 1 ≡ count (keeps ++ call.function ∷ []) = plus_one inner ∙ (ap suc n ∙ sym (one_more keeps call.function)) in
    either (has_returned c call) (with_returns m c inner callers (event ∷ log)) (with_returns m c (inner + 1) callers log) keeps call (left c callers)
    (returned m c keeps inner callers (event ∷ log) n one)
    (returned m c (keeps ++ call.function ∷ []) (inner + 1) callers log more (e ∙ sym (moved keeps call.function (own_active callers)))
    ∙ moved keeps call.function (own_active (left c callers)))
  where
    plus_one : (k : ℕ) → k + 1 ≡ suc k
    plus_one k = omega arith

-- ---- arrivals

abbrev IsOwn : Noted → Type 0
IsOwn n = told_active n.log ≡ own_active n.calls

called_own : (m : Map) (c : Core) (f : Option (List ℕ)) (n : Noted) → IsOwn n → IsOwn (called m c f n)
called_own m c None n h = h
called_own m c (Some f) n h = told_called f (globals_in m c n.calls) (kept c) n.log ∙ ap (λ r. f ∷ r) h

unless : (m : Map) (c : Core) (b : Bool) (f : Option (List ℕ)) (n : Noted) → IsOwn n → IsOwn (if b then n else called m c f n)
unless m c true f n h = h
unless m c false f n h = called_own m c f n h

arrived_own : (m : Map) (c : Core) (n : Noted) → IsOwn n → IsOwn (arrived m c n)
arrived_own m c n h =
    unless m c c.nullify (function_at m c.front) (record { calls = left c n.calls; log = with_returns m c 0 n.calls n.log })
    (returned m c [] 0 n.calls n.log refl h)

-- ---- accesses

-- what changes no call
abbrev IsQuiet : List (Event ℕ ℕ) → Type 0
IsQuiet es = (l : List (Event ℕ ℕ)) → told_active (es ++ l) ≡ told_active l

quiet_join : (es fs : List (Event ℕ ℕ)) → IsQuiet es → IsQuiet fs → IsQuiet (es ++ fs)
quiet_join es fs p q = λ l. ap told_active (append_assoc es fs l) ∙ (p (fs ++ l) ∙ q l)

quiet_all : (h : FlowGlobal → List (Event ℕ ℕ)) → ((g : FlowGlobal) → IsQuiet (h g)) → (gs : List FlowGlobal) → IsQuiet (flat_map h gs)
quiet_all h each [] = λ l. refl
quiet_all h each (g ∷ gs) =
    subst IsQuiet (sym (flat_map-cons h g gs)) (quiet_join (h g) (flat_map h gs) (each g) (quiet_all h each gs))

quiet_load : (b : Bool) (v : List ℕ) → IsQuiet (if b then Loaded v ∷ [] else [])
quiet_load true v = λ l. same_functions (Loaded v) (active l)
quiet_load false v = λ l. refl

quiet_store : (b : Bool) (v : List ℕ) → IsQuiet (if b then Stored v ∷ [] else [])
quiet_store true v = λ l. same_functions (Stored v) (active l)
quiet_store false v = λ l. refl

quiet_accesses : (m : Map) (i : Option Inst) (c : lines.Core) → IsQuiet (accesses_of m i c)
quiet_accesses m None c = λ l. refl
quiet_accesses m (Some i) c =
    quiet_all (accesses_to m i c) (λ g.
    let loads = is_eligible m g && touches (loaded_at i c) (m.named g.name) g.size in
    let stores = is_eligible m g && touches (stored_at i c) (m.named g.name) g.size in
    quiet_join (if loads then Loaded g.name ∷ [] else []) (if stores then Stored g.name ∷ [] else [])
    (quiet_load loads g.name) (quiet_store stores g.name)) (globals_of m.flow)

quiet_unless : (b : Bool) (es : List (Event ℕ ℕ)) → IsQuiet es → IsQuiet (if b then [] else es)
quiet_unless true es h = λ l. refl
quiet_unless false es h = h

quiet_step : (m : Map) (c : Core) → IsQuiet (accesses_in m c)
quiet_step m c =
    quiet_unless c.nullify (accesses_of m (decoded (word_at c.memory c.front)) (core_of c))
    (quiet_accesses m (decoded (word_at c.memory c.front)) (core_of c))

-- ---- the run

stepped_own : (m : Map) (a b : Progress) (n : Noted) → IsOwn n → IsOwn (stepped m a b n)
stepped_own m (Running s) (Running next) n h =
    arrived_own m next.core (record { calls = n.calls; log = accesses_in m s.core ++ n.log }) (quiet_step m s.core n.log ∙ h)
stepped_own m (Running s) (Stopped end next) n h = h
stepped_own m (Stopped end s) b n h = h

began_own : (m : Map) (a : Progress) → IsOwn (began m a)
began_own m (Running s) = arrived_own m s.core (record { calls = []; log = [] }) refl
began_own m (Stopped end s) = refl

all_own : (m : Map) (s : State) (n : ℕ) → IsOwn (noted m s n)
unfolding noted
all_own m s zero = began_own m (run_of zero s)
all_own m s (suc n) = stepped_own m (run_of n s) (run_of (suc n) s) (noted m s n) (all_own m s n)

pub calls_are_own : (m : Map) (s : State) (n : ℕ) → told_active (noted m s n).log ≡ own_active (noted m s n).calls
calls_are_own m s n = all_own m s n
