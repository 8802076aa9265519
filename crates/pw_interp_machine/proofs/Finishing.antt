-- A run always ends where main returned.
use Rattle.std.proofs.Common.{◌≡◌, refl, Option, Some, None}
use Rattle.pw_value.specs.declared.value.Value.{Value}
use Rattle.pw_value.specs.declared.value.Value.TheVariants as V
use Rattle.pw_cmean.specs.Acts.{stop, undefined, wrong}
use Rattle.pw_cmean.specs.SourceRun.{finish}
use Rattle.pw_cmean.specs.Worlds.{Body, Defined, Library}
use Rattle.pw_interp_machine.specs.Ends.{finished}

pub finish_is : (body : Body) (answer : Option Value) → finish body answer ≡ stop (finished body answer)
unfolding finish wrong undefined
finish_is body (Some (V.Num n)) = refl
finish_is body (Some V.Undefined) = refl
finish_is body (Some V.Null) = refl
finish_is body (Some (V.At p)) = refl
finish_is body (Some (V.Piece p i)) = refl
finish_is (Defined home f) None = refl
finish_is (Library g) None = refl
