-- What a put tells.
use Rattle.std.proofs.Common.{ℕ, inl, inr, List, [], take, drop, Option, Some, None, Result, Ok, Err, refl, sym, append-nil}
use Rattle.std.specs.Prelude.{OnOk, OnErr}
use Rattle.std.proofs.lemmas.List.{take-append-drop}
use Rattle.pw_io.specs.declared.Failed.{Failed}
use Rattle.pw_io.specs.Faults.{HasCause}
use Rattle.pw_io.specs.Streams.{Appends, AppendsPart}
use Rattle.pw_top_answer.specs.Outcomes.{Tells}

-- what one put tells
pub put_tells : (r : Result (Unit {0}) Failed) (old new : Option (List ℕ)) (before now : ℕ) (line : List ℕ) → OnOk r (Appends old new line) → OnErr r (AppendsPart old new line) → HasCause before now r → Tells line old new before now
put_tells r old None before now line ok failed cause = tt
put_tells (Ok u) None (Some after) before now line ok failed cause = absurd ok
put_tells (Ok u) (Some first) (Some after) before now line ok failed cause = (line, [], sym (append-nil line), ok, inl refl)
put_tells (Err e) None (Some after) before now line ok failed cause = absurd failed
put_tells (Err e) (Some first) (Some after) before now line ok failed cause =
    (take failed.0 line, drop failed.0 line, sym (take-append-drop failed.0 line), failed.2, inr cause)
