-- Acts in order.
use Rattle.pw_cmean.specs.Acts.{Act, ◌>>=◌}

-- what follows on what the first gives
abbrev pub in_turn : {A B : Type 0} → Act A → (A → Act B) → Act B
in_turn first next = first >>= next
