-- Registers of temporaries: each temporary, the heavier ones first, gets the first register that it may have and that no
-- temporary has which got one before and interferes with it; or none. A function shares some registers with its cluster: those
-- that it saves for others, and those that are saved for it.
use Rattle.std.specs.Prelude.{ℕ, zero, suc, ◌+◌, ◌-◌, ◌==◌, ◌&&◌, not, Bool, if◌then◌else◌, Option, None, Some, List, [], ◌∷◌, ◌++◌}
use Rattle.std.specs.List.{filter, find, list_any, range_with_len}
use Rattle.pw_db.specs.Limits.{last_register, last_temporary, kept_registers}
use Rattle.pw_flow.specs.Outline.{Outline}
use Rattle.pw_live.specs.Liveness.{has}
use Rattle.pw_live.specs.Interference.{interfere, is_held}
use Rattle.pw_alloc_temps.specs.Weights.{by_weight}

-- those that calls may change
abbrev pub changed_registers : List ℕ
changed_registers = range_with_len (last_register + 1) (last_temporary - last_register)

-- of those that a callee keeps, the ones that the function shares with its cluster, and the others
abbrev pub shared : List ℕ → List ℕ
shared cluster = filter (λ r. has r cluster) kept_registers

abbrev pub unshared : List ℕ → List ℕ
unshared cluster = filter (λ r. not (has r cluster)) kept_registers

-- the registers that a temporary may have, beside those of the function's webs: over calls one that every callee keeps
abbrev pub of_temporaries : List ℕ → Bool → List ℕ
of_temporaries cluster held = if held then unshared cluster else changed_registers ++ (shared cluster ++ unshared cluster)

abbrev pub allowed : Outline → List ℕ → List ℕ → ℕ → List ℕ
allowed f webs cluster t = filter (λ r. not (has r webs)) (of_temporaries cluster (is_held f t))

-- whether one of the temporaries that have registers has this one and interferes
abbrev pub is_taken : Outline → List (ℕ × ℕ) → ℕ → ℕ → Bool
is_taken f given t r = list_any (λ g. (g.1 == r) && interfere f t g.0) given

abbrev pub with_register : ℕ → Option ℕ → List (ℕ × ℕ) → List (ℕ × ℕ)
with_register t None given = given
with_register t (Some r) given = (t, r) ∷ given

-- each of these temporaries in turn, beside what was given before
abbrev pub given_to : Outline → List ℕ → List ℕ → List ℕ → List (ℕ × ℕ) → List (ℕ × ℕ)
given_to f webs cluster [] given = given
given_to f webs cluster (t ∷ rest) given =
    given_to f webs cluster rest (with_register t (find (λ r. not (is_taken f given t r)) (allowed f webs cluster t)) given)

abbrev pub given : Outline → List ℕ → List ℕ → List (ℕ × ℕ)
given f webs cluster = given_to f webs cluster (by_weight f 0 f.temps) []

-- what a temporary was given, and of each of so many from one on
abbrev pub register_of : List (ℕ × ℕ) → ℕ → Option ℕ
register_of [] t = None
register_of (g ∷ rest) t = if g.0 == t then Some g.1 else register_of rest t

abbrev pub registers_from : List (ℕ × ℕ) → ℕ → ℕ → List (Option ℕ)
registers_from given t zero = []
registers_from given t (suc more) = register_of given t ∷ registers_from given (suc t) more

-- of each temporary of the function, by number
abbrev pub registers : Outline → List ℕ → List ℕ → List (Option ℕ)
registers f webs cluster = registers_from (given f webs cluster) 0 f.temps
