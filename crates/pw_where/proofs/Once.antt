-- A run has one call of a number, and a walk one end.
use Rattle.std.proofs.Common.{◌≡◌, ℕ, zero, suc, ◌+◌, ◌-◌, ◌<◌, ◌≤◌, List, Result, Ok, Err, refl, sym, ap, subst, ◌∙◌, arith, inl, inr}
use Rattle.std.proofs.Math.Nat.{add-zero, add-suc}
use Rattle.std.proofs.lemmas.Bool.{cases_lt}
use Rattle.pw_machine.specs.Run.{State, Progress, Running, run_of}
use Rattle.pw_debug.specs.declared.turning.At.{At}
use Rattle.pw_debug.specs.declared.turning.Finding.{Finding}
use Rattle.pw_debug.specs.declared.turning.Finding.TheVariants.{Found, Nothing, On}
use Rattle.pw_debug.specs.Walk.{Seen, turn, WalksTo, found_at, lost_at, goes_on}
use Rattle.pw_where.specs.Calls.{is_at, one_if, calls_in, IsCall, Passes}
use Rattle.pw_where.proofs.Steps.{calls_next}

-- ---- calls

-- calls are counted, and never fewer later
calls_grow : (entries : List ℕ) (start : State) (m d : ℕ) → calls_in entries start m ≤ calls_in entries start (m + d)
calls_grow entries start m zero = rw add-zero (omega arith)
calls_grow entries start m (suc d) = let front = calls_grow entries start m d in rw add-suc (omega (arith, front))

-- behind its call a number is reached
counted : (entries : List ℕ) (start : State) (k m n : ℕ) (s : State) → IsCall entries start k m s → m < n → k ≤ calls_in entries start n
counted entries start k m n s call lt =
    let d = n - (m + 1) in
    let at : (m + 1) + d ≡ n = omega (arith, lt) in
    let grows : calls_in entries start (m + 1) ≤ calls_in entries start n = subst (λ (i : ℕ). calls_in entries start (m + 1) ≤ calls_in entries start i) at (calls_grow entries start (m + 1) d) in
    let next = calls_next entries start m s call.goes in
    let one : one_if (is_at entries s.core) ≡ 1 = ap one_if call.at in
    omega (arith, grows, next, one, call.before)

pub one_call : (entries : List ℕ) (start : State) (k m n : ℕ) (s t : State) → IsCall entries start k m s → IsCall entries start k n t → m ≡ n
one_call entries start k m n s t one other =
    elim (cases_lt m n) [
      | inl lt ↦ absurd (omega (arith, counted entries start k m n s one lt, other.before))
      | inr ge ↦ elim (cases_lt n m) [
        | inl lt ↦ absurd (omega (arith, counted entries start k n m t other lt, one.before))
        | inr le ↦ omega (arith, ge, le)
      ]
    ]

pub one_state : (entries : List ℕ) (start : State) (k m n : ℕ) (s t : State) → IsCall entries start k m s → IsCall entries start k n t → s ≡ t
one_state entries start k m n s t one other =
    let at = one_call entries start k m n s t one other in
    let same : Running s ≡ Running t = sym one.goes ∙ ap (λ (i : ℕ). run_of i start) at ∙ other.goes in
    cc

-- no run both comes to a call within so many steps and passes them without it
pub call_or_end : (entries : List ℕ) (start : State) (k m budget : ℕ) (s : State) (p : Progress) → IsCall entries start k m s → m < budget → Passes entries start k budget p → ⊥
call_or_end entries start k m budget s p call lt passes = omega (arith, counted entries start k m budget s call lt, passes.few)

-- ---- walks

abbrev pub Comes : Seen → At → Finding → Result ℕ ℕ → Type 0
Comes seen at (Found value) end = end ≡ Ok value
Comes seen at Nothing end = end ≡ Err at.link
Comes seen at (On next) end = WalksTo seen next end

turned : (seen : Seen) (at : At) (end : Result ℕ ℕ) → WalksTo seen at end → Comes seen at (turn seen at) end
turned seen at end (found_at here value e) = subst (λ (f : Finding). Comes seen here f (Ok value)) (sym e) refl
turned seen at end (lost_at here e) = subst (λ (f : Finding). Comes seen here f (Err here.link)) (sym e) refl
turned seen at end (goes_on here next last e walk) = subst (λ (f : Finding). Comes seen here f last) (sym e) walk

pub one_end : (seen : Seen) (at : At) (a b : Result ℕ ℕ) → WalksTo seen at a → WalksTo seen at b → a ≡ b
one_end seen at a b (found_at here value e) other = sym (subst (λ (f : Finding). Comes seen here f b) e (turned seen here b other))
one_end seen at a b (lost_at here e) other = sym (subst (λ (f : Finding). Comes seen here f b) e (turned seen here b other))
one_end seen at a b (goes_on here next last e walk) other = one_end seen next last b walk (subst (λ (f : Finding). Comes seen here f b) e (turned seen here b other))
