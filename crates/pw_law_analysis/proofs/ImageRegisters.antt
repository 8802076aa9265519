-- What the machine's run notes of registers at returns is so of its states.
use Rattle.std.proofs.Common.{◌≡◌, ◌⊎◌, ℕ, zero, suc, ◌+◌, ◌-◌, ◌<◌, ◌≤◌, Bool, true, false, not, if◌then◌else◌, Option, Some, None, List, [], ◌∷◌, ◌++◌, slice_get, refl, sym, ap, subst, ◌∙◌, arith, inl, inr}
use Rattle.std.proofs.lemmas.Option.{slice_get-get_or}
use Rattle.std.proofs.lemmas.List.FromFn.{length-map-range_with_len, get_or-map-range_with_len}
use Rattle.pw_files.proofs.Standing.{Has}
use Rattle.pw_db.specs.Limits.{first_register, last_register, register_count}
use Rattle.pw_db.specs.declared.database.Directives.{Directives}
use Rattle.pw_machine.specs.Core.{Core, register}
use Rattle.pw_machine.specs.Run.{State, Progress, Running, Stopped, goes_on, run_of}
use Rattle.pw_run_languages.specs.Traces.{Standing, Event, Returned, Notes, MayChange, KeepsRegisters, KeepRegisters}
use Rattle.pw_run_languages.specs.MachineRun.{Map, Call, Noted, has_returned, globals_in, kept, with_returns, left, function_at, called, arrived, accesses_in, stepped, began, noted, staged, start_state, traced_run}

-- ---- what is noted at an arrival

either : {X : Type 0} (x : X) (b : Bool) (xs ys : List X) → Has x xs → Has x ys → Has x (if b then xs else ys)
either x true xs ys h k = h
either x false xs ys h k = k

-- what was noted stays
returns_keep : (m : Map) (c : Core) (inner : ℕ) (calls : List Call) (log : List (Event ℕ ℕ)) (e : Event ℕ ℕ) → Has e log → Has e (with_returns m c inner calls log)
returns_keep m c inner [] log e h = h
returns_keep m c inner (x ∷ xs) log e h =
    let now : Event ℕ ℕ = Returned x.function inner (globals_in m c xs) x.before (kept c) in
    either e (has_returned c x) (with_returns m c inner xs (now ∷ log)) (with_returns m c (inner + 1) xs log)
    (returns_keep m c inner xs (now ∷ log) e (inr h)) (returns_keep m c (inner + 1) xs log e h)

-- the return from a call is noted, with the registers at the call and now
record IsNoted (c : Core) (x : Call) (log : List (Event ℕ ℕ)) : Type 0 where
  inner : ℕ
  globals : List (Standing ℕ ℕ)
  there : Has (Returned x.function inner globals x.before (kept c)) log

noted_either : (c : Core) (x : Call) (b : Bool) (l k : List (Event ℕ ℕ)) → (b ≡ true → IsNoted c x l) → (b ≡ false → IsNoted c x k) → IsNoted c x (if b then l else k)
noted_either c x true l k p q = p refl
noted_either c x false l k p q = q refl

not_both : (b : Bool) → b ≡ true → b ≡ false → ⊥
not_both b p q = cc

return_noted : (m : Map) (c : Core) (inner : ℕ) (calls : List Call) (log : List (Event ℕ ℕ)) (x : Call) → has_returned c x ≡ true → Has x calls → IsNoted c x (with_returns m c inner calls log)
return_noted m c inner [] log x back h = absurd h
return_noted m c inner (y ∷ ys) log x back (inl e) =
    let now : Event ℕ ℕ = Returned y.function inner (globals_in m c ys) y.before (kept c) in
    noted_either c x (has_returned c y) (with_returns m c inner ys (now ∷ log)) (with_returns m c (inner + 1) ys log)
    (λ t. subst (λ (z : Call). IsNoted c z (with_returns m c inner ys (now ∷ log))) e
    (record { inner = inner; globals = globals_in m c ys; there = returns_keep m c inner ys (now ∷ log) now (inl refl) }))
    (λ t. absurd (not_both (has_returned c y) (ap (has_returned c) e ∙ back) t))
return_noted m c inner (y ∷ ys) log x back (inr h) =
    let now : Event ℕ ℕ = Returned y.function inner (globals_in m c ys) y.before (kept c) in
    noted_either c x (has_returned c y) (with_returns m c inner ys (now ∷ log)) (with_returns m c (inner + 1) ys log)
    (λ t. return_noted m c inner ys (now ∷ log) x back h)
    (λ t. return_noted m c (inner + 1) ys log x back h)

noted_called : (m : Map) (c : Core) (b : Bool) (f : Option (List ℕ)) (n : Noted) (x : Call) → IsNoted c x n.log → IsNoted c x (if b then n else called m c f n).log
noted_called m c true f n x h = h
noted_called m c false None n x h = h
noted_called m c false (Some f) n x h = record { inner = h.inner; globals = h.globals; there = inr h.there }

return_arrives : (m : Map) (c : Core) (n : Noted) (x : Call) → has_returned c x ≡ true → Has x n.calls → IsNoted c x (arrived m c n).log
return_arrives m c n x back h =
    noted_called m c c.nullify (function_at m c.front) (record { calls = left c n.calls; log = with_returns m c 0 n.calls n.log }) x
    (return_noted m c 0 n.calls n.log x back h)

-- ---- which calls are active

only : (b : Bool) (x y : Call) (rest : List Call) → (y ≡ x → b ≡ true → ⊥) → (y ≡ x) ⊎ Has x rest → Has x (if not b then y ∷ rest else rest)
only true x y rest none (inl e) = absurd (none e refl)
only true x y rest none (inr h) = h
only false x y rest none h = h

stays_left : (c : Core) (calls : List Call) (x : Call) → has_returned c x ≡ false → Has x calls → Has x (left c calls)
stays_left c [] x still h = absurd h
stays_left c (y ∷ ys) x still (inl e) =
    only (has_returned c y) x y (left c ys) (λ same t. not_both (has_returned c y) t (ap (has_returned c) same ∙ still)) (inl e)
stays_left c (y ∷ ys) x still (inr h) =
    only (has_returned c y) x y (left c ys) (λ same t. not_both (has_returned c y) t (ap (has_returned c) same ∙ still)) (inr (stays_left c ys x still h))

stays_called : (m : Map) (c : Core) (b : Bool) (f : Option (List ℕ)) (n : Noted) (x : Call) → Has x n.calls → Has x (if b then n else called m c f n).calls
stays_called m c true f n x h = h
stays_called m c false None n x h = h
stays_called m c false (Some f) n x h = inr h

-- a call that has not returned is active still
stays : (m : Map) (c : Core) (n : Noted) (x : Call) → has_returned c x ≡ false → Has x n.calls → Has x (arrived m c n).calls
stays m c n x still h =
    stays_called m c c.nullify (function_at m c.front) (record { calls = left c n.calls; log = with_returns m c 0 n.calls n.log }) x
    (stays_left c n.calls x still h)

-- the call that the machine notes
abbrev pub made : List ℕ → Core → Call
made f c = record { function = f; link = register c 2; stack = register c 30; before = kept c }

begins_by : (m : Map) (c : Core) (f : List ℕ) (b : Bool) (o : Option (List ℕ)) (n : Noted) → b ≡ false → o ≡ Some f → Has (made f c) (if b then n else called m c o n).calls
begins_by m c f b o n p q =
    subst (λ (x : Bool). Has (made f c) (if x then n else called m c o n).calls) (sym p)
    (subst (λ (x : Option (List ℕ)). Has (made f c) (called m c x n).calls) (sym q) (inl refl))

begins : (m : Map) (c : Core) (f : List ℕ) (n : Noted) → c.nullify ≡ false → function_at m c.front ≡ Some f → Has (made f c) (arrived m c n).calls
begins m c f n goes at =
    begins_by m c f c.nullify (function_at m c.front) (record { calls = left c n.calls; log = with_returns m c 0 n.calls n.log }) goes at

-- ---- along the run

runs_on : (p : Progress) (b : State) → goes_on p ≡ Running b → (a : State) × (p ≡ Running a)
runs_on (Running a) b e = (a, refl)
runs_on (Stopped end a) b e = absurd cc

one_before : (s : State) (k : ℕ) (b : State) → run_of (suc k) s ≡ Running b → (a : State) × (run_of k s ≡ Running a)
unfolding run_of
one_before s k b e = runs_on (run_of k s) b e

at_start : (m : Map) (s a : State) → run_of 0 s ≡ Running a → noted m s 0 ≡ arrived m a.core (record { calls = []; log = [] })
unfolding noted
at_start m s a e = λ i. began m (e i)

-- behind one step more the machine arrives with the calls that were active
record Further (m : Map) (s : State) (k : ℕ) (b : State) : Type 0 where
  before : Noted
  calls : before.calls ≡ (noted m s k).calls
  is : noted m s (suc k) ≡ arrived m b.core before

further : (m : Map) (s : State) (k : ℕ) (b : State) → run_of (suc k) s ≡ Running b → Further m s k b
unfolding noted
further m s k b e =
    let a = one_before s k b e in
    record {
      before = record { calls = (noted m s k).calls; log = accesses_in m a.0.core ++ (noted m s k).log };
      calls = refl;
      is = λ i. stepped m (a.1 i) (e i) (noted m s k);
    }

active_at : (m : Map) (s a : State) (f : List ℕ) (n : ℕ) → run_of n s ≡ Running a → a.core.nullify ≡ false → function_at m a.core.front ≡ Some f → Has (made f a.core) (noted m s n).calls
active_at m s a f zero e goes at =
    subst (λ (x : Noted). Has (made f a.core) x.calls) (sym (at_start m s a e)) (begins m a.core f (record { calls = []; log = [] }) goes at)
active_at m s a f (suc k) e goes at =
    let x = further m s k a e in
    subst (λ (y : Noted). Has (made f a.core) y.calls) (sym x.is) (begins m a.core f x.before goes at)

-- at each state between it has not returned
abbrev NotBetween : State → Call → ℕ → ℕ → Type 0
NotBetween s x n k = (i : ℕ) (c : State) → n < i → i < k → run_of i s ≡ Running c → has_returned c.core x ≡ false

-- so it is active still, so many steps behind its call
active_still : (m : Map) (s : State) (x : Call) (n : ℕ) → Has x (noted m s n).calls → (j k : ℕ) → k ≡ n + j → NotBetween s x n (suc k)
    → (b : State) → run_of k s ≡ Running b → Has x (noted m s k).calls
active_still m s x n there zero k e none b at =
    let same : n ≡ k = omega (arith, e) in subst (λ (i : ℕ). Has x (noted m s i).calls) same there
active_still m s x n there (suc j) zero e none b at = absurd (omega (arith, e))
active_still m s x n there (suc j) (suc k) e none b at =
    let y = further m s k b at in
    let a = one_before s k b at in
    let lower : k ≡ n + j = omega (arith, e) in
    let earlier : Has x (noted m s k).calls =
    active_still m s x n there j k lower (λ i c low high. none i c low (omega (arith, high))) a.0 a.1 in
    subst (λ (z : Noted). Has x z.calls) (sym y.is)
    (stays m b.core y.before x (none (suc k) b (omega (arith, lower)) (omega arith) at)
    (subst (λ (calls : List Call). Has x calls) (sym y.calls) earlier))

-- ---- what is noted holds

one_kept : (d : List (List ℕ × Directives)) (log : List (Event ℕ ℕ)) (e : Event ℕ ℕ) → KeepRegisters d log → Has e log → KeepsRegisters d e
one_kept d [] e all h = absurd h
one_kept d (x ∷ xs) e all (inl same) = subst (KeepsRegisters d) same all.0
one_kept d (x ∷ xs) e all (inr h) = one_kept d xs e all.1 h

going_notes : (P : List (Event ℕ ℕ) → Type 0) (input : List ℕ) (n : ℕ) (at : Progress) (log : List (Event ℕ ℕ)) (s : State) → at ≡ Running s → Notes P (staged input n at log) → P log
going_notes P input n at log s e h = subst (λ (x : Progress). Notes P (staged input n x log) → P log) (sym e) (λ k. k) h

log_at : (P : List (Event ℕ ℕ) → Type 0) (m : Map) (c : Core) (input : List ℕ) → ((n : ℕ) → Notes P (traced_run m c input n))
    → (n : ℕ) (s : State) → run_of n (start_state c input) ≡ Running s → P (noted m (start_state c input) n).log
unfolding traced_run
log_at P m c input notes n s e = going_notes P input n (run_of n (start_state c input)) (noted m (start_state c input) n).log s e (notes n)

kept_at : (c : Core) (r : ℕ) → first_register ≤ r → r ≤ last_register → slice_get (kept c) (r - first_register) ≡ Some (register c r)
kept_at c r low high =
    let long = length-map-range_with_len (register c) first_register register_count in
    slice_get-get_or (kept c) (r - first_register) 0 (omega (arith, low, high, long))
    ∙ ap Some (get_or-map-range_with_len (register c) first_register register_count (r - first_register) r 0 (omega (arith, low, high)) (omega (arith, low, high)))

same_some : (x y : ℕ) → Some x ≡ Some y → x ≡ y
same_some x y e = cc

-- the registers at a return are those at its call, where what is noted keeps them
pub kept_over_call : (d : List (List ℕ × Directives)) (m : Map) (c : Core) (input : List ℕ) → ((n : ℕ) → Notes (KeepRegisters d) (traced_run m c input n))
    → (f : List ℕ) (n k : ℕ) (a b : State) → run_of n (start_state c input) ≡ Running a → function_at m a.core.front ≡ Some f → a.core.nullify ≡ false
    → n < k → run_of k (start_state c input) ≡ Running b → has_returned b.core (made f a.core) ≡ true → NotBetween (start_state c input) (made f a.core) n k
    → (r : ℕ) → first_register ≤ r → r ≤ last_register → ¬ MayChange d f r → register b.core r ≡ register a.core r
kept_over_call d m c input notes f n zero a b at stands goes later at' back none r low high stay = absurd (omega (arith, later))
kept_over_call d m c input notes f n (suc k) a b at stands goes later at' back none r low high stay =
    let s = start_state c input in
    let x = made f a.core in
    let y = further m s k b at' in
    let p = one_before s k b at' in
    let apart : k ≡ n + (k - n) = omega (arith, later) in
    let active : Has x (noted m s k).calls = active_still m s x n (active_at m s a f n at goes stands) (k - n) k apart none p.0 p.1 in
    let back_noted : IsNoted b.core x (noted m s (suc k)).log =
    subst (λ (z : Noted). IsNoted b.core x z.log) (sym y.is)
    (return_arrives m b.core y.before x back (subst (λ (calls : List Call). Has x calls) (sym y.calls) active)) in
    let keeps = one_kept d (noted m s (suc k)).log (Returned f back_noted.inner back_noted.globals (kept a.core) (kept b.core))
    (log_at (KeepRegisters d) m c input notes (suc k) b at') back_noted.there in
    same_some (register b.core r) (register a.core r)
    (sym (kept_at b.core r low high) ∙ (keeps r low high stay ∙ kept_at a.core r low high))
