-- Bytes that are read and written between two steps of a machine.
use Rattle.std.specs.Prelude.{ℕ, ◌≡◌, ◌+◌, Bool, true, false, Option, Some, None, List, [], ◌∷◌, ◌++◌}
use Rattle.pw_value.specs.Words.{end_of_input}
use Rattle.pw_interp_state.specs.Shown.{Streams}
use Rattle.pw_interp_todo.specs.declared.todo.Control.{Control}
use Rattle.pw_interp_todo.specs.declared.todo.Control.TheVariants as C

-- nothing is to be read or written now
abbrev pub is_inside : Control → Bool
is_inside (C.Outside transfer) = false
is_inside _ = true

-- the word of a byte that is read, or -1 at the end of the input
abbrev pub word_read : Option ℕ → ℕ
word_read (Some byte) = byte
word_read None = end_of_input

-- a byte was read of the one, or its end was met, which leaves the other
abbrev pub IsRead : Streams → Option ℕ → Streams → Type 0
IsRead st (Some byte) new = (later : List ℕ) × (st.rest ≡ byte ∷ later) × (new ≡ record st { rest = later; read = st.read + 1 })
IsRead st None new = (st.rest ≡ []) × (new ≡ st)

-- with a byte written
abbrev pub with_byte : ℕ → Streams → Streams
with_byte byte st = record st { out = st.out ++ byte ∷ [] }
