use Rattle.std.proofs.Common.{◌≡◌, true, take}
use Rattle.pw_check_literals.specs.Characters.{fits_bytes}
use Rattle.pw_check_leaves.proofs.TextLemmas.{characters_in}
use Rattle.pw_check_leaves.proofs.strings.string_bytes.Given as goal

-- the literals so far are read, and their escapes fit
abbrev pub invariant-loop-word : goal.invariant-loop-word
invariant-loop-word l = (l.bytes.items ≡ characters_in (take l.word-index l.words)) × (fits_bytes l.bytes.items ≡ true)
