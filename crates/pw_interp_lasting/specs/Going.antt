-- A run goes on from what was written and read.
use Rattle.std.specs.Prelude.{ℕ, ◌≡◌, ◌+◌, List, ◌++◌, length}
use Rattle.pw_cmean.specs.Acts.{State}
use Rattle.pw_cmean.specs.Lasting.{Extends}
use Rattle.pw_interp_state.specs.Shown.{Streams}

-- The output has more behind it, and some bytes of what was left of the input were read, and counted.
pub record GoesOnFrom (st : Streams) (t : State) : Type 0 where
  pub written : Extends st.out t.out
  pub taken : (bytes : List ℕ) × (st.rest ≡ bytes ++ t.rest) × (t.read ≡ st.read + length bytes)
