-- The run of items with filled slots follows the run of the items, as long as that one does not go wrong: it is at the same
-- place, or at a word that moves and that the other has done.
use Rattle.std.proofs.Common.{ℕ, zero, suc, ◌≡◌, ◌≤◌, Bool, true, false, if◌then◌else◌, inl, inr, Option, None, Some, List, [], ◌∷◌, ◌++◌, refl, ap, sym, subst, ◌∙◌, arith}
use Rattle.std.specs.Prelude.{◌⊎◌, ◌&&◌, nat_lt, count_by, option_map}
use Rattle.std.specs.List.{flat_map, AllByRecursion}
use Rattle.std.specs.Str.{bytes_eq}
use Rattle.pw_value.specs.ProgramNames.{start_name}
use Rattle.pw_inst.specs.declared.Inst.{Inst}
use Rattle.pw_inst.specs.Computing.{Action}
use Rattle.pw_delay.specs.declared.items.Word.{Word}
use Rattle.pw_delay.specs.declared.items.Item.{Item}
use Rattle.pw_run.specs.Runs.{View, Stage, Going, Over, Wrong, End, Same}
use Rattle.pw_run_languages.specs.Traces.{Event, Called, Loaded, Stored, touches, load_of, store_of}
use Rattle.pw_run_languages.specs.Late.{IsAccess, Lately, ahead, GoesLately, MetLately, RefinesLately}
use Rattle.pw_run_languages.specs.Meeting.{MetIn}
use Rattle.pw_run_languages.specs.Programs.{globals_of}
use Rattle.pw_run_languages.specs.Addresses.{Addresses}
use Rattle.pw_run_languages.specs.Acts.{Core, Act, Acts, Full, Fails, action_of, acts, settled}
use Rattle.pw_run_languages.specs.Links.{HasLinks, HaveLinks}
use Rattle.pw_run_languages.specs.LineRun.{LineFn, LineProgram, Machine, Step, On, Stopped, Astray, kept, left_behind, globals_in, accesses, went_on, and_then, function_named, start_core, start, shown, staged, step, steps, line_run}
use Rattle.pw_law_slots.specs.SlotLaws.{filled_function, filled_program, FillingKeeps}
use Rattle.pw_law_slots.proofs.Doing.{noted}
use Rattle.pw_law_slots.proofs.Programs.{named_filled}
use Rattle.pw_law_slots.proofs.Turning.{moves_fit_by}
use Rattle.pw_law_slots.proofs.Places.{cut_at_start}
use Rattle.pw_law_slots.proofs.Beside.{AreStepsBeside, IsBeside, AreFillable, named_fills}
use Rattle.pw_law_slots.proofs.Going.{Promises, IsAhead, one_step}
use Rattle.pw_law_slots.proofs.Ahead.{word_steps, run_clear, second_step}
use Rattle.pw_law_slots.proofs.Standing.{has_links_too}

-- ---- loads and stores alone

abbrev AreAccesses : List (Event ℕ ℕ) → Type 0
AreAccesses es = AllByRecursion IsAccess es

both_access : (name : List ℕ) (s t : Bool) → AreAccesses ((if s then Loaded name ∷ [] else []) ++ (if t then Stored name ∷ [] else []))
both_access name true true = (tt, (tt, tt))
both_access name true false = (tt, tt)
both_access name false true = (tt, tt)
both_access name false false = tt

access_append : (xs ys : List (Event ℕ ℕ)) → AllByRecursion IsAccess xs → AllByRecursion IsAccess ys → AllByRecursion IsAccess (xs ++ ys)
access_append [] ys hs ks = ks
access_append (x ∷ xs) ys hs ks = (hs.0, access_append xs ys hs.1 ks)

flat_access : {X : Type 0} (f : X → List (Event ℕ ℕ)) → ((x : X) → AllByRecursion IsAccess (f x)) → (xs : List X) → AllByRecursion IsAccess (flat_map f xs)
flat_access f each [] = tt
flat_access f each (x ∷ xs) = access_append (f x) (flat_map f xs) (each x) (flat_access f each xs)

noted_access : (p : LineProgram) (w : Addresses) (skip : Bool) (a : Action) → AllByRecursion IsAccess (noted p w skip a)
unfolding noted
noted_access p w true a = tt
noted_access p w false a =
    flat_access _ (λ g. both_access g.name
    (nat_lt 0 (count_by (bytes_eq g.name) p.eligible) && touches (load_of a) (w.named g.name) g.size)
    (nat_lt 0 (count_by (bytes_eq g.name) p.eligible) && touches (store_of a) (w.named g.name) g.size)) (globals_of p.flow)

accesses_alone : (p : LineProgram) (w : Addresses) (o : Option Inst) (c : Core) → AllByRecursion IsAccess (accesses p w o c)
unfolding noted
accesses_alone p w None c = tt
accesses_alone p w (Some i) c = noted_access p w c.skip (action_of i c)

later : (es l k : List (Event ℕ ℕ)) → AllByRecursion IsAccess es → Lately Same l k → Lately Same (es ++ l) k
later [] l k all late = late
later (e ∷ es) l k all late = ahead e (es ++ l) k all.0 (later es l k all.1 late)

-- ---- a word that was done

-- what the run of items shows then
pub record HasDone (p : LineProgram) (w : Addresses) (m : Machine) (s : Step) : Type 0 where
  pub core : Core
  pub rest : List Item
  pub events : List (Event ℕ ℕ)
  pub access : AllByRecursion IsAccess events
  pub is : s ≡ On (record (left_behind rest m) { core = core; trace = events ++ m.trace })

data Does (p : LineProgram) (w : Addresses) (m : Machine) (s : Step) : Type 0 where
  fails : s ≡ Astray → Does p w m s
  done : HasDone p w m s → Does p w m s

does_word : (p : LineProgram) (w : Addresses) (word : Word) (rest : List Item) (m : Machine) → (acts w (settled w word) m.core ≡ Full → ⊥) → (a : Act) → acts w (settled w word) m.core ≡ a
    → Does p w m (went_on p w (settled w word) a (left_behind rest m))
does_word p w word rest m stops (Acts c) e = done (record {
  core = c;
  rest = rest;
  events = accesses p w (settled w word) m.core;
  access = accesses_alone p w (settled w word) m.core;
  is = refl;
})
does_word p w word rest m stops Full e = absurd (stops e)
does_word p w word rest m stops Fails e = fails refl

ahead_does : Promises → (p : LineProgram) (w : Addresses) (scratch : ℕ → (ℕ → ℕ) → ℕ → ℕ) (m n : Machine) → IsAhead m n → Does p w m (step p w scratch m)
ahead_does d p w scratch m n h =
    let run = run_clear m.core.skip _ h.beside.passes h.taken.clear in
    let fits = moves_fit_by d.sources d.targets w h.word h.taken.turn m h.taken.free run in
    subst (λ (l : List Item). Does p w m (step p w scratch (left_behind l m))) (sym h.left)
    (subst (λ (s : Step). Does p w m s) (sym (word_steps p w scratch h.word h.rest m)) (does_word p w h.word h.rest m fits.stops (acts w (settled w h.word) m.core) refl))

-- ---- the runs

abbrev Scratch : Type 0
Scratch = ℕ → (ℕ → ℕ) → ℕ → ℕ

-- it holds of each state up to so many steps
abbrev Holds : (Machine → Type 0) → LineProgram → Addresses → Scratch → ℕ → Step → Type 0
Holds P p w scratch n s = (k : ℕ) (m : Machine) → k ≤ n → steps p w scratch k s ≡ On m → P m

-- a state at a word that moves, and what the other run has done with it
record IsBehind (Q : Machine → Type 0) (p : LineProgram) (w : Addresses) (scratch : Scratch) (s t : Step) : Type 0 where
  first : Machine
  second : Machine
  ahead : IsAhead first second
  holds : Q second
  done : s ≡ step p w scratch first
  is : t ≡ On second

data Related (Q : Machine → Type 0) (p : LineProgram) (w : Addresses) (scratch : Scratch) (s t : Step) : Type 0 where
  level : AreStepsBeside s t → Related Q p w scratch s t
  behind : IsBehind Q p w scratch s t → Related Q p w scratch s t

record Found (Q : Machine → Type 0) (p : LineProgram) (w : Addresses) (scratch : Scratch) (n : ℕ) (s t : Step) : Type 0 where
  at : ℕ
  related : Related Q p w scratch (steps p w scratch n s) (steps (filled_program p) w scratch at t)
  holds : Holds Q (filled_program p) w scratch at t

data Follows (Q : Machine → Type 0) (p : LineProgram) (w : Addresses) (scratch : Scratch) (n : ℕ) (s t : Step) : Type 0 where
  lost : steps p w scratch n s ≡ Astray → Follows Q p w scratch n s t
  found : Found Q p w scratch n s t → Follows Q p w scratch n s t

stays_astray : (p : LineProgram) (w : Addresses) (scratch : Scratch) (n : ℕ) → steps p w scratch n Astray ≡ Astray
unfolding steps
stays_astray p w scratch zero = refl
stays_astray p w scratch (suc n) = stays_astray p w scratch n

later_holds : (P : Machine → Type 0) (p : LineProgram) (w : Addresses) (scratch : Scratch) (n : ℕ) (s : Step) → Holds P p w scratch (suc n) s → Holds P p w scratch n (and_then s (step p w scratch))
unfolding steps
later_holds P p w scratch n s h = λ k m le e. h (suc k) m (omega (arith, le)) e

now_holds : (P : Machine → Type 0) (p : LineProgram) (w : Addresses) (scratch : Scratch) (n : ℕ) (m : Machine) → Holds P p w scratch n (On m) → P m
unfolding steps
now_holds P p w scratch n m h = h 0 m (omega arith) refl

machine_same : (m n : Machine) → On m ≡ On n → m ≡ n
machine_same m n e = cc

-- at the first state, and at each later one
begins_holds : (Q : Machine → Type 0) (p : LineProgram) (w : Addresses) (scratch : Scratch) (n : Machine) → Q n → Holds Q p w scratch 0 (On n)
unfolding steps
begins_holds Q p w scratch n q zero m le e = subst Q (machine_same n m e) q
begins_holds Q p w scratch n q (suc k) m le e = absurd (omega (arith, le))

then_holds : (Q : Machine → Type 0) (p : LineProgram) (w : Addresses) (scratch : Scratch) (at : ℕ) (n : Machine) → Q n → Holds Q p w scratch at (step p w scratch n) → Holds Q p w scratch (suc at) (On n)
unfolding steps
then_holds Q p w scratch at n q h zero m le e = subst Q (machine_same n m e) q
then_holds Q p w scratch at n q h (suc k) m le e = h k m (omega (arith, le)) e

stopped_holds : (Q : Machine → Type 0) (p : LineProgram) (w : Addresses) (scratch : Scratch) (end : End) (n : Machine) (k : ℕ) (m : Machine) → steps p w scratch k (Stopped end n) ≡ On m → Q m
unfolding steps
stopped_holds Q p w scratch end n zero m e = absurd cc
stopped_holds Q p w scratch end n (suc k) m e = stopped_holds Q p w scratch end n k m e

-- a step more, of both or of the run of items alone
both_on : (Q : Machine → Type 0) (p : LineProgram) (w : Addresses) (scratch : Scratch) (n : ℕ) (s : Step) (k : Machine) → Q k
    → Follows Q p w scratch n (and_then s (step p w scratch)) (step (filled_program p) w scratch k) → Follows Q p w scratch (suc n) s (On k)
unfolding steps
both_on Q p w scratch n s k q (lost e) = lost e
both_on Q p w scratch n s k q (found f) = found (record { at = suc f.at; related = f.related; holds = then_holds Q (filled_program p) w scratch f.at k q f.holds })

one_on : (Q : Machine → Type 0) (p : LineProgram) (w : Addresses) (scratch : Scratch) (n : ℕ) (s t : Step)
    → Follows Q p w scratch n (and_then s (step p w scratch)) t → Follows Q p w scratch (suc n) s t
unfolding steps
one_on Q p w scratch n s t (lost e) = lost e
one_on Q p w scratch n s t (found f) = found (record { at = f.at; related = f.related; holds = f.holds })

abbrev Carries : (Machine → Type 0) → (Machine → Type 0) → Type 0
Carries P Q = (m n : Machine) → IsBeside m n → P m → Q n

start_level : (P Q : Machine → Type 0) → Carries P Q → (p : LineProgram) (w : Addresses) (scratch : Scratch) (s t : Step) → AreStepsBeside s t → Holds P p w scratch 0 s → Follows Q p w scratch 0 s t
unfolding steps
start_level P Q carries p w scratch (On m) (On n) h holds =
    found (record { at = 0; related = level h; holds = begins_holds Q (filled_program p) w scratch n (carries m n h (now_holds P p w scratch 0 m holds)) })
start_level P Q carries p w scratch (Stopped end m) (Stopped other n) h holds =
    found (record { at = 0; related = level h; holds = λ k m le e. stopped_holds Q (filled_program p) w scratch other n k m e })
start_level P Q carries p w scratch Astray t h holds = lost refl
start_level P Q carries p w scratch (On m) (Stopped other n) h holds = absurd h
start_level P Q carries p w scratch (On m) Astray h holds = absurd h
start_level P Q carries p w scratch (Stopped end m) (On n) h holds = absurd h
start_level P Q carries p w scratch (Stopped end m) Astray h holds = absurd h

start_behind : (Q : Machine → Type 0) (p : LineProgram) (w : Addresses) (scratch : Scratch) (s t : Step) → IsBehind Q p w scratch s t → Follows Q p w scratch 0 s t
unfolding steps
start_behind Q p w scratch s t h =
    found (record { at = 0; related = behind h; holds = subst (λ (t : Step). Holds Q (filled_program p) w scratch 0 t) (sym h.is) (begins_holds Q (filled_program p) w scratch h.second h.holds) })

abbrev Later : (Machine → Type 0) → (Machine → Type 0) → LineProgram → Addresses → Scratch → ℕ → Type 0
Later P Q p w scratch n = (s t : Step) → Related Q p w scratch s t → Holds P p w scratch n s → Follows Q p w scratch n s t

next_level : Promises → (P Q : Machine → Type 0) → Carries P Q → (p : LineProgram) (w : Addresses) (scratch : Scratch) (n : ℕ) → AreFillable p → Later P Q p w scratch n
    → (s t : Step) → AreStepsBeside s t → Holds P p w scratch (suc n) s → Follows Q p w scratch (suc n) s t
next_level d P Q carries p w scratch n all next (On m) (On k) h holds =
    let now : P m = now_holds P p w scratch (suc n) m holds in
    let q : Q k = carries m k h now in
    let more = later_holds P p w scratch n (On m) holds in
    elim (one_step d p w scratch m k all h) as (λ o. Follows Q p w scratch (suc n) (On m) (On k)) [
      | inl steps_on ↦ both_on Q p w scratch n (On m) k q (next (step p w scratch m) (step (filled_program p) w scratch k) (level steps_on) more)
      | inr a ↦ one_on Q p w scratch n (On m) (On k) (next (step p w scratch m) (On k) (behind (record { first = m; second = k; ahead = a; holds = q; done = refl; is = refl })) more)
    ]
next_level d P Q carries p w scratch n all next (Stopped end m) (Stopped other k) h holds =
    one_on Q p w scratch n (Stopped end m) (Stopped other k) (next (Stopped end m) (Stopped other k) (level h) (later_holds P p w scratch n (Stopped end m) holds))
next_level d P Q carries p w scratch n all next Astray t h holds = lost (stays_astray p w scratch (suc n))
next_level d P Q carries p w scratch n all next (On m) (Stopped other k) h holds = absurd h
next_level d P Q carries p w scratch n all next (On m) Astray h holds = absurd h
next_level d P Q carries p w scratch n all next (Stopped end m) (On k) h holds = absurd h
next_level d P Q carries p w scratch n all next (Stopped end m) Astray h holds = absurd h

next_behind : Promises → (P Q : Machine → Type 0) (p : LineProgram) (w : Addresses) (scratch : Scratch) (n : ℕ) → AreFillable p → Later P Q p w scratch n
    → (s t : Step) → IsBehind Q p w scratch s t → Holds P p w scratch (suc n) s → Follows Q p w scratch (suc n) s t
next_behind d P Q p w scratch n all next s t h holds =
    let q = filled_program p in
    let goes : AreStepsBeside (and_then s (step p w scratch)) (step q w scratch h.second) =
    subst (λ (s : Step). AreStepsBeside (and_then s (step p w scratch)) (step q w scratch h.second)) (sym h.done) (second_step d p w scratch h.first h.second all h.ahead) in
    subst (λ (t : Step). Follows Q p w scratch (suc n) s t) (sym h.is)
    (both_on Q p w scratch n s h.second h.holds (next (and_then s (step p w scratch)) (step q w scratch h.second) (level goes) (later_holds P p w scratch n s holds)))

follows : Promises → (P Q : Machine → Type 0) → Carries P Q → (p : LineProgram) (w : Addresses) (scratch : Scratch) → AreFillable p → (n : ℕ) → Later P Q p w scratch n
follows d P Q carries p w scratch all zero s t (level h) holds = start_level P Q carries p w scratch s t h holds
follows d P Q carries p w scratch all zero s t (behind h) holds = start_behind Q p w scratch s t h
follows d P Q carries p w scratch all (suc n) s t (level h) holds = next_level d P Q carries p w scratch n all (follows d P Q carries p w scratch all n) s t h holds
follows d P Q carries p w scratch all (suc n) s t (behind h) holds = next_behind d P Q p w scratch n all (follows d P Q carries p w scratch all n) s t h holds

-- ---- the start

started_at : LineProgram → Addresses → List ℕ → LineFn → Machine
started_at p w input f = record {
  core = start_core p w;
  frame = record { function = f; left = f.items; stack = w.base; before = kept (start_core p w) };
  callers = [];
  rest = input;
  read = 0;
  out = [];
  events = 0;
  trace = Called start_name (globals_in p w (start_core p w) []) (kept (start_core p w)) ∷ [];
}

started_by : LineProgram → Addresses → List ℕ → Option LineFn → Step
started_by p w input None = Astray
started_by p w input (Some f) = On (started_at p w input f)

starts_so : (p : LineProgram) (w : Addresses) (input : List ℕ) (o : Option LineFn) → function_named p start_name ≡ o → start p w input ≡ started_by p w input o
unfolding started_by started_at
starts_so p w input None e = rw e refl
starts_so p w input (Some f) e = rw e refl

start_beside : (p : LineProgram) (w : Addresses) (input : List ℕ) → AreFillable p → AreStepsBeside (start p w input) (start (filled_program p) w input)
unfolding started_by started_at
start_beside p w input all = by (function_named p start_name) refl
  where
    by : (o : Option LineFn) → function_named p start_name ≡ o → AreStepsBeside (start p w input) (start (filled_program p) w input)
    by None e = subst (λ (s : Step). AreStepsBeside s (start (filled_program p) w input)) (sym (starts_so p w input None e)) tt
    by (Some f) e =
        let q = filled_program p in
        let g = filled_function f in
        let second : function_named q start_name ≡ Some g = named_filled p start_name ∙ ap (option_map filled_function) e in
        subst (λ (s : Step). AreStepsBeside s (start q w input)) (sym (starts_so p w input (Some f) e))
        (subst (λ (t : Step). AreStepsBeside (started_by p w input (Some f)) t) (sym (starts_so q w input (Some g) second))
        (record {
          at = record { before = []; cut = cut_at_start f.items; fillable = named_fills p start_name f all e; is = refl };
          callers = tt;
          is = refl;
          passes = λ skips. absurd cc;
        }))

-- ---- what is seen of it

-- where both are at the same place, the same is shown
same_stage : (s t : Step) → AreStepsBeside s t → (s ≡ Astray) ⊎ (staged t ≡ staged s)
same_stage (On m) (On n) h = inr (ap (λ (k : Machine). staged (On k)) h.is)
same_stage (Stopped end m) (Stopped other n) h = inr (sym h)
same_stage Astray t h = inl refl
same_stage (On m) (Stopped other k) h = absurd h
same_stage (On m) Astray h = absurd h
same_stage (Stopped end m) (On k) h = absurd h
same_stage (Stopped end m) Astray h = absurd h

-- a run is behind itself by nothing
abbrev pub NoneBehind : Type 0
NoneBehind = (a : ℕ → Stage (Event ℕ ℕ)) → RefinesLately Same a a

late_at : NoneBehind → (v : View (Event ℕ ℕ)) (b : ℕ → Stage (Event ℕ ℕ)) (at : ℕ) → b at ≡ Going v → GoesLately Same v b
late_at itself v b at e = subst (λ (s : Stage (Event ℕ ℕ)). MetLately Same s b) e (itself b at)

shown_beside : (m n : Machine) → IsBeside m n → staged (On n) ≡ Going (shown m m.trace)
shown_beside m n h = ap (λ (k : Machine). staged (On k)) h.is

late_behind : NoneBehind → (p : LineProgram) (w : Addresses) (m : Machine) (b : ℕ → Stage (Event ℕ ℕ)) (at : ℕ) → b at ≡ Going (shown m m.trace) → (s : Step) → Does p w m s → MetLately Same (staged s) b
late_behind itself p w m b at e s (fails is) = subst (λ (s : Step). MetLately Same (staged s) b) (sym is) tt
late_behind itself p w m b at e s (done h) =
    let g = late_at itself (shown m m.trace) b at e in
    let new : Machine = record (left_behind h.rest m) { core = h.core; trace = h.events ++ m.trace } in
    let met : GoesLately Same (shown new new.trace) b = record {
      at = g.at;
      view = g.view;
      is = g.is;
      output = g.output;
      read = g.read;
      log = later h.events m.trace g.view.log h.access g.log;
      counted = g.counted;
    } in
    subst (λ (s : Step). MetLately Same (staged s) b) (sym h.is) met

late_related : NoneBehind → Promises → (Q : Machine → Type 0) (p : LineProgram) (w : Addresses) (scratch : Scratch) (s t : Step) (b : ℕ → Stage (Event ℕ ℕ)) (at : ℕ) → b at ≡ staged t
    → Related Q p w scratch s t → MetLately Same (staged s) b
late_related itself d Q p w scratch s t b at e (level h) =
    elim (same_stage s t h) as (λ o. MetLately Same (staged s) b) [
      | inl astray ↦ subst (λ (s : Step). MetLately Same (staged s) b) (sym astray) tt
      | inr same ↦ subst (λ (v : Stage (Event ℕ ℕ)). MetLately Same v b) (e ∙ same) (itself b at)
    ]
late_related itself d Q p w scratch s t b at e (behind h) =
    subst (λ (s : Step). MetLately Same (staged s) b) (sym h.done)
    (late_behind itself p w h.first b at (e ∙ ap staged h.is ∙ shown_beside h.first h.second h.ahead.beside) (step p w scratch h.first) (ahead_does d p w scratch h.first h.second h.ahead))

met_in : (P : ℕ → Type 0) (s : Stage (Event ℕ ℕ)) (b : ℕ → Stage (Event ℕ ℕ)) (at : ℕ) → b at ≡ s → P at → MetIn P s b
met_in P (Going v) b at e holds = record { at = at; view = v; is = e; counted = omega arith; holds = holds }
met_in P (Over end v) b at e holds = record { at = at; view = v; is = e; holds = holds }
met_in P Wrong b at e holds = tt

links_behind : (P : ℕ → Type 0) (p : LineProgram) (w : Addresses) (m : Machine) (b : ℕ → Stage (Event ℕ ℕ)) (at : ℕ) → b at ≡ Going (shown m m.trace) → P at → (s : Step) → Does p w m s → MetIn P (staged s) b
links_behind P p w m b at e holds s (fails is) = subst (λ (s : Step). MetIn P (staged s) b) (sym is) tt
links_behind P p w m b at e holds s (done h) =
    subst (λ (s : Step). MetIn P (staged s) b) (sym h.is) (record { at = at; view = shown m m.trace; is = e; counted = omega arith; holds = holds })

links_related : Promises → (P : ℕ → Type 0) (Q : Machine → Type 0) (p : LineProgram) (w : Addresses) (scratch : Scratch) (s t : Step) (b : ℕ → Stage (Event ℕ ℕ)) (at : ℕ) → b at ≡ staged t → P at
    → Related Q p w scratch s t → MetIn P (staged s) b
links_related d P Q p w scratch s t b at e holds (level h) =
    elim (same_stage s t h) as (λ o. MetIn P (staged s) b) [
      | inl astray ↦ subst (λ (s : Step). MetIn P (staged s) b) (sym astray) tt
      | inr same ↦ met_in P (staged s) b at (e ∙ same) holds
    ]
links_related d P Q p w scratch s t b at e holds (behind h) =
    subst (λ (s : Step). MetIn P (staged s) b) (sym h.done)
    (links_behind P p w h.first b at (e ∙ ap staged h.is ∙ shown_beside h.first h.second h.ahead.beside) holds (step p w scratch h.first) (ahead_does d p w scratch h.first h.second h.ahead))

-- ---- the law

abbrev Nothing : Machine → Type 0
Nothing m = Unit {0}

runs_late : NoneBehind → Promises → (p : LineProgram) (w : Addresses) (scratch : Scratch) (input : List ℕ) (n : ℕ) → Follows Nothing p w scratch n (start p w input) (start (filled_program p) w input)
    → MetLately Same (line_run p w scratch input n) (line_run (filled_program p) w scratch input)
unfolding line_run
runs_late itself d p w scratch input n (lost e) = subst (λ (s : Step). MetLately Same (staged s) (line_run (filled_program p) w scratch input)) (sym e) tt
runs_late itself d p w scratch input n (found f) =
    late_related itself d Nothing p w scratch (steps p w scratch n (start p w input)) (steps (filled_program p) w scratch f.at (start (filled_program p) w input))
    (line_run (filled_program p) w scratch input) f.at refl f.related

links_met : Promises → (p : LineProgram) (w : Addresses) (scratch : Scratch) (input : List ℕ) (n : ℕ) → Follows (HasLinks w) p w scratch n (start p w input) (start (filled_program p) w input)
    → MetIn (HaveLinks (filled_program p) w scratch input) (line_run p w scratch input n) (line_run (filled_program p) w scratch input)
unfolding line_run
links_met d p w scratch input n (lost e) =
    subst (λ (s : Step). MetIn (HaveLinks (filled_program p) w scratch input) (staged s) (line_run (filled_program p) w scratch input)) (sym e) tt
links_met d p w scratch input n (found f) =
    links_related d (HaveLinks (filled_program p) w scratch input) (HasLinks w) p w scratch (steps p w scratch n (start p w input)) (steps (filled_program p) w scratch f.at (start (filled_program p) w input))
    (line_run (filled_program p) w scratch input) f.at refl f.holds f.related

pub filling_keeps : NoneBehind → Promises → (p : LineProgram) (w : Addresses) (scratch : Scratch) (input : List ℕ) → AreFillable p → FillingKeeps p w scratch input
filling_keeps itself d p w scratch input all = record {
  runs = λ n. runs_late itself d p w scratch input n
      (follows d Nothing Nothing (λ m k h t. tt) p w scratch all n (start p w input) (start (filled_program p) w input) (level (start_beside p w input all)) (λ k m le e. tt));
  links = λ n links. links_met d p w scratch input n
      (follows d (HasLinks w) (HasLinks w) (has_links_too w) p w scratch all n (start p w input) (start (filled_program p) w input) (level (start_beside p w input all)) links);
}
