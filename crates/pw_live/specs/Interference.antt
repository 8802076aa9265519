-- Which temporaries may not share a register, and which ones are held over a call.
use Rattle.std.specs.Prelude.{ℕ, ◌==◌, ◌&&◌, ◌||◌, not, Bool, nat_lt}
use Rattle.std.specs.List.{list_any}
use Rattle.pw_flow.specs.Outline.{Outline}
use Rattle.pw_live.specs.Liveness.{is_live_in}
use Rattle.pw_live.specs.Points.{points, lives, writes, is_call}

-- whether an operation defines the one where the other is live directly behind it
abbrev pub written_beside : Outline → ℕ → ℕ → Bool
written_beside f d t = list_any (λ p. writes p.before d && lives f t p) (points f)

-- whether the start defines the one where the other is live, or a parameter as well
abbrev pub starts_beside : Outline → ℕ → ℕ → Bool
starts_beside f d t = nat_lt d f.params && (nat_lt t f.params || is_live_in f t 0)

abbrev pub overwrites : Outline → ℕ → ℕ → Bool
overwrites f d t = written_beside f d t || starts_beside f d t

-- whether two temporaries interfere: one of them is defined where the other is needed
abbrev pub interfere : Outline → ℕ → ℕ → Bool
interfere f a b = not (a == b) && (overwrites f a b || overwrites f b a)

-- whether it is live directly behind a call that does not define it
abbrev pub is_held : Outline → ℕ → Bool
is_held f t = list_any (λ p. is_call p.before && (not (writes p.before t) && lives f t p)) (points f)
