-- How many registers a function needs beside the two that every call may change: of the temporaries that are held over no
-- call, the greatest number that is live at one point, less these two.
use Rattle.std.specs.Prelude.{ℕ, ◌+◌, ◌-◌, ◌&&◌, not, Bool, min, max, List, [], ◌∷◌}
use Rattle.std.specs.List.{count_by, range_with_len}
use Rattle.pw_db.specs.Limits.{last_register, last_temporary}
use Rattle.pw_summary.specs.Summary.{need_limit}
use Rattle.pw_flow.specs.Outline.{Outline}
use Rattle.pw_live.specs.Points.{Point, points, lives}
use Rattle.pw_live.specs.Interference.{is_held}

-- the registers that every call may change and a temporary may have
abbrev pub changed_count : ℕ
changed_count = last_temporary - last_register

-- a temporary that is live at a point and held over no call
abbrev pub is_short : Outline → Point → ℕ → Bool
is_short f p t = not (is_held f t) && lives f t p

abbrev pub short_at : Outline → Point → ℕ
short_at f p = count_by (is_short f p) (range_with_len 0 f.temps)

abbrev pub most_short : Outline → List Point → ℕ
most_short f [] = 0
most_short f (p ∷ ps) = max (short_at f p) (most_short f ps)

-- where so many are live at one point, the need is as great as it may be
abbrev pub enough : ℕ
enough = need_limit + changed_count

-- at most as many registers as are saved for others
abbrev pub need : Outline → ℕ
need f = min need_limit (most_short f (points f) - changed_count)
