use Rattle.std.proofs.Common.{◌≡◌, ◌-◌, ◌++◌, reverse}
use Rattle.pw_check_rules.specs.Initialisers.{word_bytes}
use Rattle.pw_check_init_parts.proofs.items.word_bytes.Given as goal

-- the bytes that are left stand before those that came off
abbrev pub invariant-loop-place : goal.invariant-loop-place
invariant-loop-place l =
    word_bytes (l.size - l._place) l.rest ++ reverse l.bytes.items ≡ word_bytes l.size l.word
