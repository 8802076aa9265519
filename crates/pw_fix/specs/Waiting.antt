-- What a list of waiting nodes shows.
use Rattle.std.specs.Prelude.{◌≡◌, ℕ, Some, true, slice_get, vec_len}
use Rattle.std.specs.VecDeque.{deque_len}
use Rattle.pw_fix.specs.declared.worklist.Worklist.{Worklist}

-- how many nodes the graph has
abbrev pub node_count : Worklist → ℕ
node_count w = vec_len w.waits

-- how many nodes wait
abbrev pub waiting_count : Worklist → ℕ
waiting_count w = deque_len w.queue

-- node n waits
abbrev pub IsWaiting : Worklist → ℕ → Type 0
IsWaiting w n = slice_get w.waits.items n ≡ Some true
