-- Numbers name one temporary.
use Rattle.std.proofs.Common.{◌≡◌, ℕ, sym, ◌∙◌}
use Rattle.std.proofs.lemmas.Option.{same_Some}
use Rattle.pw_live_fronts.specs.Exposing.{IsNumber}
use Rattle.pw_live_fronts.specs.declared.named.Exposed.{Exposed}

pub one_name : (e : Exposed) (t u i : ℕ) → IsNumber e t i → IsNumber e u i → t ≡ u
one_name e t u i one two = same_Some t u (sym (e.numbered t i one) ∙ e.numbered u i two)
