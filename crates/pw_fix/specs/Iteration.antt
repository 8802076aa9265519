-- What an iterator over a set has left.
use Rattle.std.specs.Prelude.{ℕ, ◌-◌, List}
use Rattle.pw_fix.specs.Words.{held}
use Rattle.pw_fix.specs.declared.members.Members.{Members}

-- the numbers from its place on, rising
abbrev pub rest_of : Members → List ℕ
rest_of it = held it.row.now.words.items it.at (it.row.now.len - it.at)
