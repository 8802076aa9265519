-- Logs of the machine: they only grow, and their k-th call is one.
use Rattle.std.proofs.Common.{◌≡◌, ℕ, zero, suc, ◌+◌, ◌-◌, ◌≤◌, ⊎_elim, Bool, true, false, cond, List, [], ◌∷◌, ◌++◌, Option, Some, None, refl, sym, ap, subst, ◌∙◌, arith, append_assoc}
use Rattle.std.proofs.Math.Nat.{add-zero, add-suc}
use Rattle.std.proofs.lemmas.Bool.{cases_lt}
use Rattle.pw_machine.specs.Core.{Core}
use Rattle.pw_machine.specs.Run.{State, Progress, Running, Stopped, run_of}
use Rattle.pw_run_languages.specs.Traces.{Event, Called, Refused, Returned, Loaded, Stored, calls_alone, is_of_source, is_shown, with_refusal}
use Rattle.pw_run_languages.specs.MachineRun.{Call, Map, Noted, accesses_in, arrived, called, function_at, globals_in, has_returned, kept, left, noted, stepped, with_returns}
use Rattle.pw_where.specs.Calls.{one_if}
use Rattle.pw_law_where.specs.Counting.{is_source_call, source_calls}

abbrev pub Events : Type 0
Events = List (Event ℕ ℕ)

-- ---- the k-th call of a log

pub record IsCallIn (log : Events) (k : ℕ) (e : Event ℕ ℕ) : Type 0 where
  pub later : Events
  pub before : Events
  pub is : log ≡ later ++ e ∷ before
  pub of_source : is_source_call e ≡ true
  pub count : source_calls before + 1 ≡ k

append_counts : (xs ys : Events) → source_calls (xs ++ ys) ≡ source_calls xs + source_calls ys
append_counts [] ys = omega arith
append_counts (e ∷ xs) ys = let rest = append_counts xs ys in omega (arith, rest)

pub longer_counts : (later before : Events) (e : Event ℕ ℕ) → is_source_call e ≡ true → source_calls (later ++ e ∷ before) ≡ source_calls later + 1 + source_calls before
longer_counts later before e is =
    let both = append_counts later (e ∷ before) in
    let one : one_if (is_source_call e) ≡ 1 = ap one_if is in
    omega (arith, both, one)

one_event : (later more : Events) (a b : Event ℕ ℕ) (s t : Events) → later ++ a ∷ s ≡ more ++ b ∷ t → source_calls s ≡ source_calls t → is_source_call a ≡ true → is_source_call b ≡ true → a ≡ b
one_event [] [] a b s t e same p q = cc
one_event [] (x ∷ more) a b s t e same p q =
    let rest : s ≡ more ++ b ∷ t = cc in
    let count : source_calls s ≡ source_calls (more ++ b ∷ t) = ap source_calls rest in
    let long = longer_counts more t b q in
    absurd (omega (arith, count, long, same))
one_event (x ∷ later) [] a b s t e same p q =
    let rest : later ++ a ∷ s ≡ t = cc in
    let count : source_calls (later ++ a ∷ s) ≡ source_calls t = ap source_calls rest in
    let long = longer_counts later s a p in
    absurd (omega (arith, count, long, same))
one_event (x ∷ later) (y ∷ more) a b s t e same p q =
    let rest : later ++ a ∷ s ≡ more ++ b ∷ t = cc in
    one_event later more a b s t rest same p q

one_call_in : (log : Events) (k : ℕ) (a b : Event ℕ ℕ) → IsCallIn log k a → IsCallIn log k b → a ≡ b
one_call_in log k a b one other =
    let same : source_calls one.before ≡ source_calls other.before = let c = one.count in let d = other.count in omega (arith, c, d) in
    one_event one.later other.later a b one.before other.before (sym one.is ∙ other.is) same one.of_source other.of_source

call_in_more : (new log : Events) (k : ℕ) (e : Event ℕ ℕ) → IsCallIn log k e → IsCallIn (new ++ log) k e
call_in_more new log k e c = record {
  later = new ++ c.later;
  before = c.before;
  is = ap (λ (l : Events). new ++ l) c.is ∙ sym (append_assoc new c.later (e ∷ c.before));
  of_source = c.of_source;
  count = c.count;
}

nothing_in : (later before : Events) (x : Event ℕ ℕ) → [] ≡ later ++ x ∷ before → ⊥
nothing_in [] before x e = cc
nothing_in (y ∷ later) before x e = cc

-- ---- of calls and returns alone

alone_by : (e : Event ℕ ℕ) (b : Bool) (log alone : Events) → is_shown e ≡ b → source_calls alone ≡ source_calls log → source_calls (cond b (e ∷ alone) alone) ≡ one_if (is_source_call e) + source_calls log
alone_by e true log alone is same = omega (arith, same)
alone_by (Called f globals registers) false log alone is same = let none : one_if (is_of_source f) ≡ 0 = ap one_if is in omega (arith, same, none)
alone_by (Refused f) false log alone is same = omega (arith, same)
alone_by (Returned f inner globals before after) false log alone is same = omega (arith, same)
alone_by (Loaded v) false log alone is same = omega (arith, same)
alone_by (Stored v) false log alone is same = omega (arith, same)

pub alone_counts : (log : Events) → source_calls (calls_alone log) ≡ source_calls log
alone_counts [] = refl
alone_counts (e ∷ log) = alone_by e (is_shown e) log (calls_alone log) refl (alone_counts log)

-- a call among calls and returns alone is one of the whole log
front_whole : (e : Event ℕ ℕ) (log : Events) (k : ℕ) (x : Event ℕ ℕ) (later before : Events) → e ∷ calls_alone log ≡ later ++ x ∷ before → is_source_call x ≡ true → source_calls before + 1 ≡ k
    → (IsCallIn (calls_alone log) k x → IsCallIn log k x) → IsCallIn (e ∷ log) k x
front_whole e log k x [] before is of_source count more =
    let same : e ≡ x = cc in
    let rest : calls_alone log ≡ before = cc in
    let all : source_calls log ≡ source_calls before = sym (alone_counts log) ∙ ap source_calls rest in
    let whole : source_calls log + 1 ≡ k = omega (arith, all, count) in
    record { later = []; before = log; is = ap (λ (y : Event ℕ ℕ). y ∷ log) same; of_source = of_source; count = whole }
front_whole e log k x (y ∷ later) before is of_source count more =
    let rest : calls_alone log ≡ later ++ x ∷ before = cc in
    call_in_more (e ∷ []) log k x (more (record { later = later; before = before; is = rest; of_source = of_source; count = count }))

whole_by : (e : Event ℕ ℕ) (b : Bool) (log : Events) (k : ℕ) (x : Event ℕ ℕ) → (IsCallIn (calls_alone log) k x → IsCallIn log k x) → IsCallIn (cond b (e ∷ calls_alone log) (calls_alone log)) k x → IsCallIn (e ∷ log) k x
whole_by e true log k x more c = front_whole e log k x c.later c.before c.is c.of_source c.count more
whole_by e false log k x more c = call_in_more (e ∷ []) log k x (more c)

pub whole_call : (log : Events) (k : ℕ) (x : Event ℕ ℕ) → IsCallIn (calls_alone log) k x → IsCallIn log k x
whole_call [] k x c = absurd (nothing_in c.later c.before x c.is)
whole_call (e ∷ log) k x c = whole_by e (is_shown e) log k x (λ d. whole_call log k x d) c

-- nor is it another where the last call is refused
refused_front : (f : List ℕ) (e : Event ℕ ℕ) (log : Events) (k : ℕ) (x : Event ℕ ℕ) (later before : Events) → Refused f ∷ log ≡ later ++ x ∷ before → is_source_call x ≡ true → source_calls before + 1 ≡ k → IsCallIn (e ∷ log) k x
refused_front f e log k x [] before is of_source count =
    let same : Refused f ≡ x = cc in
    let no_call : false ≡ true = ap is_source_call same ∙ of_source in
    absurd cc
refused_front f e log k x (y ∷ later) before is of_source count =
    let rest : log ≡ later ++ x ∷ before = cc in
    call_in_more (e ∷ []) log k x (record { later = later; before = before; is = rest; of_source = of_source; count = count })

pub refused_call : (log : Events) (k : ℕ) (x : Event ℕ ℕ) → IsCallIn (with_refusal log) k x → IsCallIn log k x
refused_call [] k x c = c
refused_call (Called f globals registers ∷ log) k x c = refused_front f (Called f globals registers) log k x c.later c.before c.is c.of_source c.count
refused_call (Refused f ∷ log) k x c = c
refused_call (Returned f inner globals before after ∷ log) k x c = c
refused_call (Loaded v ∷ log) k x c = c
refused_call (Stored v ∷ log) k x c = c

pub no_call : (k : ℕ) (x : Event ℕ ℕ) (P : Type 0) → IsCallIn [] k x → P
no_call k x P c = absurd (nothing_in c.later c.before x c.is)

-- ---- logs grow

abbrev Grows : Events → Events → Type 0
Grows old log = (new : Events) × (log ≡ new ++ old)

grows_none : (log : Events) → Grows log log
grows_none log = ([], refl)

grows_one : (e : Event ℕ ℕ) (log : Events) → Grows log (e ∷ log)
grows_one e log = (e ∷ [], refl)

grows_then : (a b c : Events) → Grows a b → Grows b c → Grows a c
grows_then a b c p q = (q.0 ++ p.0, q.1 ∙ ap (λ (l : Events). q.0 ++ l) p.1 ∙ sym (append_assoc q.0 p.0 a))

grows_either : (b : Bool) (old one other : Events) → Grows old one → Grows old other → Grows old (cond b one other)
grows_either true old one other p q = p
grows_either false old one other p q = q

returns_grow : (m : Map) (c : Core) (inner : ℕ) (calls : List Call) (log : Events) → Grows log (with_returns m c inner calls log)
returns_grow m c inner [] log = grows_none log
returns_grow m c inner (call ∷ callers) log =
    let one = Returned call.function inner (globals_in m c callers) call.before (kept c) in
    grows_either (has_returned c call) log (with_returns m c inner callers (one ∷ log)) (with_returns m c (inner + 1) callers log)
    (grows_then log (one ∷ log) (with_returns m c inner callers (one ∷ log)) (grows_one one log) (returns_grow m c inner callers (one ∷ log)))
    (returns_grow m c (inner + 1) callers log)

called_grows : (m : Map) (c : Core) (f : Option (List ℕ)) (n : Noted) → Grows n.log (called m c f n).log
called_grows m c None n = grows_none n.log
called_grows m c (Some f) n = grows_one (Called f (globals_in m c n.calls) (kept c)) n.log

abbrev back_at : Map → Core → Noted → Noted
back_at m c n = record { calls = left c n.calls; log = with_returns m c 0 n.calls n.log }

arrived_by : (m : Map) (c : Core) (n : Noted) (b : Bool) → Grows n.log (cond b (back_at m c n) (called m c (function_at m c.front) (back_at m c n))).log
arrived_by m c n true = returns_grow m c 0 n.calls n.log
arrived_by m c n false =
    grows_then n.log (back_at m c n).log (called m c (function_at m c.front) (back_at m c n)).log (returns_grow m c 0 n.calls n.log) (called_grows m c (function_at m c.front) (back_at m c n))

arrived_grows : (m : Map) (c : Core) (n : Noted) → Grows n.log (arrived m c n).log
arrived_grows m c n = arrived_by m c n c.nullify

step_grows : (m : Map) (p q : Progress) (n : Noted) → Grows n.log (stepped m p q n).log
step_grows m (Running s) (Running next) n =
    let accessed : Noted = record { calls = n.calls; log = accesses_in m s.core ++ n.log } in
    grows_then n.log accessed.log (arrived m next.core accessed).log (accesses_in m s.core, refl) (arrived_grows m next.core accessed)
step_grows m (Running s) (Stopped end next) n = grows_none n.log
step_grows m (Stopped end s) next n = grows_none n.log

next_grows : (m : Map) (start : State) (n : ℕ) → Grows (noted m start n).log (noted m start (suc n)).log
unfolding noted
next_grows m start n = step_grows m (run_of n start) (run_of (suc n) start) (noted m start n)

grows_by : (m : Map) (start : State) (n d : ℕ) → Grows (noted m start n).log (noted m start (n + d)).log
grows_by m start n zero = rw add-zero (grows_none (noted m start n).log)
grows_by m start n (suc d) =
    rw add-suc (grows_then (noted m start n).log (noted m start (n + d)).log (noted m start (suc (n + d))).log (grows_by m start n d) (next_grows m start (n + d)))

grows_to : (m : Map) (start : State) (n l : ℕ) → n ≤ l → Grows (noted m start n).log (noted m start l).log
grows_to m start n l le =
    let d = l - n in
    let at : n + d ≡ l = omega (arith, le) in
    subst (λ (i : ℕ). Grows (noted m start n).log (noted m start i).log) at (grows_by m start n d)

pub call_later : (m : Map) (start : State) (k n l : ℕ) (e : Event ℕ ℕ) → n ≤ l → IsCallIn (noted m start n).log k e → IsCallIn (noted m start l).log k e
call_later m start k n l e le c =
    let g = grows_to m start n l le in
    subst (λ (log : Events). IsCallIn log k e) (sym g.1) (call_in_more g.0 (noted m start n).log k e c)

-- the k-th call of a trace is one, wherever it is looked at
pub one_call_of : (m : Map) (start : State) (k n l : ℕ) (a b : Event ℕ ℕ) → IsCallIn (noted m start n).log k a → IsCallIn (noted m start l).log k b → a ≡ b
one_call_of m start k n l a b one other =
    ⊎_elim {C = a ≡ b}
    (λ lt. one_call_in (noted m start l).log k a b (call_later m start k n l a (omega (arith, lt)) one) other)
    (λ ge. one_call_in (noted m start n).log k a b one (call_later m start k l n b ge other))
    (cases_lt n l)
