use Rattle.std.proofs.Common.{refl}
use Rattle.pw_delay.specs.declared.items.Item.TheVariants.{Mark}
use Rattle.std.specs.Prelude.{◌∷◌}
use Rattle.pw_delay.proofs.Keeping.{parts_alone}
use Rattle.pw_delay.proofs.laws.parts_are_filled_alone.Goals as goal

pub returns : goal.returns
returns c = record {
  parts = parts_alone;
  blocks = λ behind before after b. parts_alone behind before (Mark b ∷ after) refl;
}
