-- What the trace of an image tells is what the machine's run notes, without where globals stand and what registers hold.
use Rattle.std.specs.Prelude.{ℕ, zero, suc, ◌≡◌, ◌+◌, ◌==◌, ◌&&◌, Bool, true, false, not, if◌then◌else◌, Option, Some, None, List, [], ◌∷◌, ◌++◌, map, slice_index}
use Rattle.std.specs.List.{flat_map}
use Rattle.std.proofs.Common.{subst, sym, ap, refl, ◌∙◌}
use Rattle.std.proofs.lemmas.List.{append-nil}
use Rattle.std.proofs.lemmas.Grind.{flat_map-append}
use Rattle.pw_inst.specs.declared.Inst.{Inst}
use Rattle.pw_inst.specs.InstructionTable.{decoded}
use Rattle.pw_inst.specs.Computing.{Action, action}
use Rattle.pw_flow.specs.declared.flow.FlowGlobal.{FlowGlobal}
use Rattle.pw_db.specs.declared.database.Directives.{Directives}
use Rattle.pw_machine.specs.declared.ends.End.{End}
use Rattle.pw_machine.specs.Core.{Core, register, word_at}
use Rattle.pw_machine.specs.Run.{State, Progress, Running, Stopped, run_of}
use Rattle.pw_run.specs.Runs.{AreAlike, none, also}
use Rattle.pw_db_sound.specs.CallGraphs.{Graph}
use Rattle.pw_run_languages.specs.Traces.{Event, Called, Returned, Loaded, Stored, SameKind, call, return, load, store, touches, load_of, store_of, Notes}
use Rattle.pw_run_languages.specs.Traffic.{ObeysTraffic}
use Rattle.pw_run_languages.specs.Programs.{globals_of}
use Rattle.pw_run_languages.specs.Acts as lines
use Rattle.pw_run_languages.specs.Acts.{loaded_at, stored_at, action_of}
use Rattle.pw_run_languages.specs.ImageTrace as image
use Rattle.pw_run_languages.specs.ImageTrace.{Told, Symbols, Trace, traced}
use Rattle.pw_run_languages.specs.MachineRun.{Map, Call, Noted, core_of, is_eligible, has_returned, globals_in, kept, with_returns, left, called, function_at, arrived, accesses_to, accesses_of, accesses_in, stepped, began, noted, staged, start_state, traced_run, sized, symbols_in}
use Rattle.pw_run_languages.proofs.Traffic.{traffic_alike}

-- ---- calls

abbrev plain : Call → image.Call
plain c = record { function = c.function; link = c.link; stack = c.stack }

record Tells (n : Noted) (t : Trace) : Type 0 where
  calls : map plain n.calls ≡ t.calls
  told : AreAlike SameKind n.log t.told

either : {M N : Type 0} {F : M → N → Type 0} (b : Bool) (xs ys : List M) (zs ws : List N) → AreAlike F xs zs → AreAlike F ys ws → AreAlike F (if b then xs else ys) (if b then zs else ws)
either true xs ys zs ws p q = p
either false xs ys zs ws p q = q

unless : (b : Bool) (x : Call) (xs : List Call) (ys : List image.Call) → map plain xs ≡ ys → map plain (if not b then x ∷ xs else xs) ≡ (if not b then plain x ∷ ys else ys)
unless true x xs ys e = e
unless false x xs ys e = ap (λ (rest : List image.Call). plain x ∷ rest) e

left_alike : (c : Core) (calls : List Call) → map plain (left c calls) ≡ image.left c (map plain calls)
left_alike c [] = refl
left_alike c (x ∷ xs) = unless (has_returned c x) x (left c xs) (image.left c (map plain xs)) (left_alike c xs)

returns_alike : (m : Map) (c : Core) (inner : ℕ) (calls : List Call) (l : List (Event ℕ ℕ)) (k : List Told) → AreAlike SameKind l k
    → AreAlike SameKind (with_returns m c inner calls l) (image.with_returns c inner (map plain calls) k)
returns_alike m c inner [] l k a = a
returns_alike m c inner (x ∷ xs) l k a =
    let e : Event ℕ ℕ = Returned x.function inner (globals_in m c xs) x.before (kept c) in
    let f : Told = Returned x.function inner [] [] [] in
    either (has_returned c x) (with_returns m c inner xs (e ∷ l)) (with_returns m c (inner + 1) xs l)
    (image.with_returns c inner (map plain xs) (f ∷ k)) (image.with_returns c (inner + 1) (map plain xs) k)
    (returns_alike m c inner xs (e ∷ l) (f ∷ k) (also e f l k (return x.function inner (globals_in m c xs) [] x.before (kept c) [] []) a))
    (returns_alike m c (inner + 1) xs l k a)

called_tells : (m : Map) (c : Core) (f : Option (List ℕ)) (n : Noted) (t : Trace) → Tells n t → Tells (called m c f n) (image.called c f t)
called_tells m c None n t h = h
called_tells m c (Some f) n t h = record {
  calls = ap (λ (rest : List image.Call). record { function = f; link = register c 2; stack = register c 30 } ∷ rest) h.calls;
  told = also (Called f (globals_in m c n.calls) (kept c)) (Called f [] []) n.log t.told (call f (globals_in m c n.calls) [] (kept c) []) h.told;
}

called_unless : (m : Map) (c : Core) (b : Bool) (f : Option (List ℕ)) (n : Noted) (t : Trace) → Tells n t
    → Tells (if b then n else called m c f n) (if b then t else image.called c f t)
called_unless m c true f n t h = h
called_unless m c false f n t h = called_tells m c f n t h

arrived_tells : (m : Map) (c : Core) (n : Noted) (t : Trace) → Tells n t → Tells (arrived m c n) (image.arrived (symbols_in m) c t)
arrived_tells m c n t h =
    let back : Noted = record { calls = left c n.calls; log = with_returns m c 0 n.calls n.log } in
    let behind : Trace = record { calls = image.left c t.calls; told = image.with_returns c 0 t.calls t.told } in
    called_unless m c c.nullify (function_at m c.front) back behind
    (record {
      calls = left_alike c n.calls ∙ ap (image.left c) h.calls;
      told = subst (λ (calls : List image.Call). AreAlike SameKind (with_returns m c 0 n.calls n.log) (image.with_returns c 0 calls t.told)) h.calls
          (returns_alike m c 0 n.calls n.log t.told h.told);
    })

-- ---- accesses

twice : (b : Bool) (x : ℕ) → (if b then 0 else (if b then 0 else x)) ≡ (if b then 0 else x)
twice true x = refl
twice false x = refl

register_again : (c : Core) (r : ℕ) → lines.register (core_of c) r ≡ register c r
register_again c r = twice (r == 0) (slice_index c.registers r)

action_again : (i : Inst) (c : Core) → action_of i (core_of c) ≡ action (λ r. register c r) c.shift i
action_again i c = λ j. action (λ r. register_again c r j) c.shift i

joined : {M N : Type 0} {F : M → N → Type 0} (xs : List M) (ys : List N) (zs : List M) (ws : List N) → AreAlike F xs ys → AreAlike F zs ws → AreAlike F (xs ++ zs) (ys ++ ws)
joined xs ys zs ws none q = q
joined xs ys zs ws (also x y xs' ys' p rest) q = also x y (xs' ++ zs) (ys' ++ ws) p (joined xs' ys' zs ws rest q)

-- a load and a store, each where it is one
abbrev in_words : Bool → Bool → List ℕ → List (Event ℕ ℕ)
in_words l s v = (if l then Loaded v ∷ [] else []) ++ (if s then Stored v ∷ [] else [])

abbrev in_trace : Bool → Bool → List ℕ → List Told
in_trace l s v = (if l then Loaded v ∷ [] else []) ++ (if s then Stored v ∷ [] else [])

both_alike : (l s : Bool) (v : List ℕ) → AreAlike SameKind (in_words l s v) (in_trace l s v)
both_alike true true v = also (Loaded v) (Loaded v) (Stored v ∷ []) (Stored v ∷ []) (load v) (also (Stored v) (Stored v) [] [] (store v) none)
both_alike true false v = also (Loaded v) (Loaded v) [] [] (load v) none
both_alike false true v = also (Stored v) (Stored v) [] [] (store v) none
both_alike false false v = none

-- what an action does to a global
abbrev events : Map → Action → FlowGlobal → List (Event ℕ ℕ)
events m does g =
    in_words (is_eligible m g && touches (load_of does) (m.named g.name) g.size) (is_eligible m g && touches (store_of does) (m.named g.name) g.size) g.name

one_alike : (m : Map) (does : Action) (g : FlowGlobal) → AreAlike SameKind (events m does g) (flat_map (image.accesses_to (symbols_in m) does) (sized m g))
one_alike m does g = by (is_eligible m g)
  where
    by : (e : Bool) → AreAlike SameKind
        (in_words (e && touches (load_of does) (m.named g.name) g.size) (e && touches (store_of does) (m.named g.name) g.size) g.name)
        (flat_map (image.accesses_to (symbols_in m) does) (if e then (g.name, g.size) ∷ [] else []))
    by false = none
    by true =
        let l = touches (load_of does) (m.named g.name) g.size in
        let s = touches (store_of does) (m.named g.name) g.size in
        subst (AreAlike SameKind (in_words l s g.name)) (sym (append-nil (in_trace l s g.name))) (both_alike l s g.name)

all_alike : (m : Map) (does : Action) (gs : List FlowGlobal) → AreAlike SameKind (flat_map (events m does) gs) (flat_map (image.accesses_to (symbols_in m) does) (flat_map (sized m) gs))
all_alike m does [] = none
all_alike m does (g ∷ gs) =
    let F = image.accesses_to (symbols_in m) does in
    subst (AreAlike SameKind (events m does g ++ flat_map (events m does) gs)) (sym (flat_map-append F (sized m g) (flat_map (sized m) gs)))
    (joined (events m does g) (flat_map F (sized m g)) (flat_map (events m does) gs) (flat_map F (flat_map (sized m) gs)) (one_alike m does g) (all_alike m does gs))

accesses_alike : (m : Map) (c : Core) (i : Option Inst) → AreAlike SameKind (accesses_of m i (core_of c)) (image.accesses_of (symbols_in m) c i)
accesses_alike m c None = none
accesses_alike m c (Some i) =
    subst (λ (does : Action). AreAlike SameKind (flat_map (events m does) (globals_of m.flow)) (image.accesses_of (symbols_in m) c (Some i))) (sym (action_again i c))
    (all_alike m (action (λ r. register c r) c.shift i) (globals_of m.flow))

step_alike : (m : Map) (c : Core) → AreAlike SameKind (accesses_in m c) (image.accesses_in (symbols_in m) c)
step_alike m c =
    let i = decoded (word_at c.memory c.front) in
    either c.nullify [] (accesses_of m i (core_of c)) [] (image.accesses_of (symbols_in m) c i) none (accesses_alike m c i)

-- ---- the run

stepped_tells : (m : Map) (a b : Progress) (n : Noted) (t : Trace) → Tells n t → Tells (stepped m a b n) (image.stepped (symbols_in m) a b t)
stepped_tells m (Running s) (Running next) n t h =
    arrived_tells m next.core (record { calls = n.calls; log = accesses_in m s.core ++ n.log }) (record { calls = t.calls; told = image.accesses_in (symbols_in m) s.core ++ t.told })
    (record { calls = h.calls; told = joined (accesses_in m s.core) (image.accesses_in (symbols_in m) s.core) n.log t.told (step_alike m s.core) h.told })
stepped_tells m (Running s) (Stopped end next) n t h = h
stepped_tells m (Stopped end s) b n t h = h

began_tells : (m : Map) (a : Progress) → Tells (began m a) (image.began (symbols_in m) a)
began_tells m (Running s) = arrived_tells m s.core (record { calls = []; log = [] }) (record { calls = []; told = [] }) (record { calls = refl; told = none })
began_tells m (Stopped end s) = record { calls = refl; told = none }

tells : (m : Map) (s : State) (n : ℕ) → Tells (noted m s n) (traced (symbols_in m) s n)
unfolding noted traced
tells m s zero = began_tells m (run_of zero s)
tells m s (suc n) = stepped_tells m (run_of n s) (run_of (suc n) s) (noted m s n) (traced (symbols_in m) s n) (tells m s n)

pub trace_tells : (m : Map) (s : State) (n : ℕ) → AreAlike SameKind (noted m s n).log (traced (symbols_in m) s n).told
trace_tells m s n = (tells m s n).told

-- ---- the law of traffic

-- what holds of nothing and of what is noted while the machine goes on holds of all that is noted
going_notes : (P : List (Event ℕ ℕ) → Type 0) (input : List ℕ) (n : ℕ) (at : Progress) (log : List (Event ℕ ℕ)) (s : State) → at ≡ Running s → Notes P (staged input n at log) → P log
going_notes P input n at log s e h = subst (λ (x : Progress). Notes P (staged input n x log) → P log) (sym e) (λ k. k) h

still : (P : List (Event ℕ ℕ) → Type 0) (m : Map) (a : Progress) (end : End) (s : State) (n : Noted) → P n.log → P (stepped m a (Stopped end s) n).log
still P m (Running b) end s n h = h
still P m (Stopped other b) end s n h = h

all_noted : (P : List (Event ℕ ℕ) → Type 0) → P [] → (m : Map) (c : Core) (input : List ℕ) → ((n : ℕ) → Notes P (traced_run m c input n))
    → (n : ℕ) → P (noted m (start_state c input) n).log
unfolding noted traced_run
all_noted P nothing m c input notes n = by n (run_of n (start_state c input)) refl
  where
    by : (n : ℕ) (at : Progress) → run_of n (start_state c input) ≡ at → P (noted m (start_state c input) n).log
    by n (Running s) e = going_notes P input n (run_of n (start_state c input)) (noted m (start_state c input) n).log s e (notes n)
    by zero (Stopped end s) e = subst (λ (x : Progress). P (began m x).log) (sym e) nothing
    by (suc n) (Stopped end s) e =
        subst (λ (x : Progress). P (stepped m (run_of n (start_state c input)) x (noted m (start_state c input) n)).log) (sym e)
        (still P m (run_of n (start_state c input)) end s (noted m (start_state c input) n) (by n (run_of n (start_state c input)) refl))

pub trace_obeys : (g : Graph) (d : List (List ℕ × Directives)) (m : Map) (c : Core) (input : List ℕ)
    → ((n : ℕ) → Notes (ObeysTraffic g d) (traced_run m c input n)) → (n : ℕ) → ObeysTraffic g d (traced (symbols_in m) (start_state c input) n).told
trace_obeys g d m c input notes n =
    traffic_alike g d (noted m (start_state c input) n).log (traced (symbols_in m) (start_state c input) n).told
    (trace_tells m (start_state c input) n) (all_noted (ObeysTraffic g d) tt m c input notes n)
