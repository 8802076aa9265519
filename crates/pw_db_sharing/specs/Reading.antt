-- Reading the registers that a function shares with others, with the first fault that is met.
use Rattle.std.specs.Prelude.{ℕ, suc, ◌==◌, ◌&&◌, nat_le, not, List, [], Result, if◌then◌else◌}
use Rattle.std.specs.List.{list_all}
use Rattle.pw_fields.specs.Fields.{◌>>=◌, done, checked, u8_at, u32_at, items_at}
use Rattle.pw_db.specs.Limits.{first_register, last_register}
use Rattle.pw_db.specs.Database.{first_version}

-- a register that a callee keeps, from one on, that is none of some others
unfoldable pub kept_at : List ℕ → ℕ → List ℕ → Result (ℕ × List ℕ) ℕ
kept_at others least = checked (λ r. (nat_le least r && nat_le r last_register) && list_all (λ q. not (q == r)) others) u8_at

abbrev pub next_least : ℕ → ℕ → ℕ
next_least least r = suc r

-- a list of such registers, which rise
unfoldable pub registers_at : List ℕ → List ℕ → Result (List ℕ × List ℕ) ℕ
registers_at others = do
  count ← u32_at
  registers ← items_at (kept_at others) next_least count first_register
  done registers

-- the registers that a function is free to use, and those that it saves for others; in the first version there are none
unfoldable pub no_sharing_at : List ℕ → Result ((List ℕ × List ℕ) × List ℕ) ℕ
no_sharing_at = do
  count ← checked (λ n. n == 0) u32_at
  done ([], [])

unfoldable pub all_sharing_at : List ℕ → Result ((List ℕ × List ℕ) × List ℕ) ℕ
all_sharing_at = do
  free ← registers_at []
  saves ← registers_at free
  done (free, saves)

abbrev pub sharing_at : ℕ → List ℕ → Result ((List ℕ × List ℕ) × List ℕ) ℕ
sharing_at version = if version == first_version then no_sharing_at else all_sharing_at
