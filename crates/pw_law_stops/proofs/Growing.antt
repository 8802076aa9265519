-- The output of a machine's run only grows.
use Rattle.std.proofs.Common.{ℕ, zero, suc, ◌≡◌, ◌+◌, List, [], ◌∷◌, ◌++◌, refl, sym, ap, ◌∙◌, append_assoc, append-nil}
use Rattle.std.proofs.Math.Nat.{add-zero, add-suc}
use Rattle.pw_machine.specs.Core.{Core}
use Rattle.pw_machine.specs.Effect.{Effect, Goes, Reads, Writes, Stops, effect_of}
use Rattle.pw_machine.specs.Run.{State, Progress, Running, Stopped, reads, taken, goes_on, run_of}

-- a list begins with another
pub record BeginsWith (xs ys : List ℕ) : Type 0 where
  pub more : List ℕ
  pub is : xs ≡ ys ++ more

begins_itself : (xs : List ℕ) → BeginsWith xs xs
begins_itself xs = record { more = []; is = sym (append-nil xs) }

begins_twice : (xs ys zs : List ℕ) → BeginsWith xs ys → BeginsWith ys zs → BeginsWith xs zs
begins_twice xs ys zs p q = record {
  more = q.more ++ p.more;
  is = p.is ∙ ap (λ (l : List ℕ). l ++ p.more) q.is ∙ append_assoc zs q.more p.more;
}

abbrev pub written : Progress → List ℕ
written (Running s) = s.output
written (Stopped end s) = s.output

reads_write : (core : Core) (rest output : List ℕ) → BeginsWith (written (reads core rest output)) output
reads_write core [] output = begins_itself output
reads_write core (byte ∷ rest) output = begins_itself output

step_writes : (e : Effect) (s : State) → BeginsWith (written (taken e s)) s.output
step_writes (Goes core) s = begins_itself s.output
step_writes Reads s = reads_write s.core s.rest s.output
step_writes (Writes byte) s = record { more = byte ∷ []; is = refl }
step_writes (Stops end) s = begins_itself s.output

going_writes : (p : Progress) → BeginsWith (written (goes_on p)) (written p)
going_writes (Running s) = step_writes (effect_of s.core) s
going_writes (Stopped end s) = begins_itself s.output

pub run_writes : (k m : ℕ) (s : State) → BeginsWith (written (run_of (m + k) s)) (written (run_of m s))
unfolding run_of
run_writes zero m s = rw add-zero (begins_itself (written (run_of m s)))
run_writes (suc k) m s =
    rw add-suc (begins_twice (written (goes_on (run_of (m + k) s))) (written (run_of (m + k) s)) (written (run_of m s))
    (going_writes (run_of (m + k) s)) (run_writes k m s))
