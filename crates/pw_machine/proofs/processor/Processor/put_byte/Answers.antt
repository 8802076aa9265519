use Rattle.std.proofs.Common.{◌≤◌, ◌+◌, ◌*◌, ℕ, List, length, sym, ap, subst, ◌∙◌, arith}
use Rattle.pw_value.specs.Limits.{text_start}
use Rattle.pw_machine.specs.Core.{Core}
use Rattle.pw_machine.specs.Decoded.{IsTextOf}
use Rattle.pw_machine.proofs.Text.{byte_stored}
use Rattle.pw_machine.proofs.processor.Processor.put_byte.Goals as goal

pub invariant_of-self : goal.invariant_of-self
invariant_of-self c =
    let old = c.self.inside in
    let is = c.self.invariant in
    let room : text_start + 4 * length old.code.items ≤ old.data_start = omega (arith, is.5, is.4, old.code.ok.0) in
    let behind : old.data_start ≤ c.args.a = omega (arith, c.requires.above_text, ap (λ (p : Core). p.data_start) c.self.view_is) in
    let stored = byte_stored old.memory old.code.items old.data_start c.args.a c.args.value room behind is.6 in (
      is.0,
      is.1,
      ap length c.put_byte.ensures ∙ stored.size ∙ is.2,
      is.3,
      is.4,
      is.5,
      subst (λ (memory : List ℕ). IsTextOf memory old.code.items) (sym c.put_byte.ensures) stored.text,
    )
