-- What the objects in memory show: what they hold, how many calls and faults there were, and which calls fail.
use Rattle.std.specs.Prelude.{◌≢◌, ℕ, ◌+◌, ◌-◌, ◌^◌, ◌<◌, ◌⊎◌, Bool, List, [], Option, Some, None, length, min, Contains, if◌then◌else◌}

-- the number of the next call, where so many came before; the count ends at the greatest 128-bit number
abbrev pub next_call : ℕ → ℕ
next_call calls = min (calls + 1) (2 ^ 128 - 1)

-- the call's number stands in the list
unfoldable pub HasCall : List ℕ → ℕ → Type 0
HasCall numbers call = Contains numbers call

pub record MemSourceState : Type 0 where
  -- the bytes that are still to come
  pub rest : List ℕ
  -- how many calls there were
  pub calls : ℕ
  -- how many of them failed
  pub faults : ℕ
  -- the numbers of the calls that fail
  pub fails : List ℕ

pub record BufferState : Type 0 where
  pub bytes : List ℕ
  -- how many bytes there may be
  pub room : ℕ

pub record SureSinkState : Type 0 where
  -- the pieces that were kept
  pub kept : List ℕ
  -- how many bytes may be kept
  pub room : ℕ
  -- whether a piece did not fit
  pub dropped : Bool

-- What a sure sink tells: the pieces that it kept, while these are all.
abbrev pub kept_told : SureSinkState → Option (List ℕ)
kept_told sink = if sink.dropped then None else Some sink.kept

pub record MemSinkState : Type 0 where
  -- the bytes that were taken
  pub bytes : List ℕ
  -- how many bytes may be taken
  pub room : ℕ
  -- how many calls there were
  pub calls : ℕ
  -- how many of them failed
  pub faults : ℕ
  -- the numbers of the calls that fail
  pub fails : List ℕ

-- The sink refuses the piece: it is not empty, and the call is one that fails or the piece does not fit.
abbrev pub Refuses : MemSinkState → List ℕ → Type 0
Refuses sink piece =
    (piece ≢ []) × (HasCall sink.fails (next_call sink.calls) ⊎ (sink.room < length sink.bytes + length piece))
