-- Places of a text, counted from 0, and the lines on which they stand.
use Rattle.std.specs.Prelude.{ℕ, ◌+◌, ◌==◌, List, take, count_by}

-- the line of a place: 1 and the newlines before it
abbrev pub line_at : List ℕ → ℕ → ℕ
line_at text place = 1 + count_by (λ byte. byte == 10) (take place text)
