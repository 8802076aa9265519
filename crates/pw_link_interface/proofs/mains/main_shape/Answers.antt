use Rattle.std.proofs.Common.{ℕ, List, sym, ap, ◌∙◌}
use Rattle.std.specs.Prelude.{Some}
use Rattle.std.specs.Str.{bytes_eq}
use Rattle.pw_value.specs.ProgramNames.{main_name}
use Rattle.pw_link_interface.proofs.Lookups.{lookup_found, lookup_more}
use Rattle.pw_link_interface.proofs.mains.main_shape.Goals as goal

pub returns-then-eq : goal.returns-then-eq
returns-then-eq c =
    let shape = λ (d : List ℕ × List ℕ). Some d.1 in
    ap shape c.each-item.is
    ∙ sym (lookup_found (bytes_eq main_name) c.args.declared.now c.loop-each.each-index c.each-item.result c.loop-each-test.true c.loop-each.invariant
    (ap (λ (d : List ℕ × List ℕ). bytes_eq main_name d.0) (sym c.each-item.is) ∙ ap (bytes_eq main_name) (sym c.as_bytes.ensures.bytes) ∙ sym c.eq.ensures ∙ c.if-eq.true))

pub loop-each-preserved : goal.loop-each-preserved
loop-each-preserved c =
    lookup_more (bytes_eq main_name) c.args.declared.now c.loop-each.each-index c.each-item.result c.loop-each-test.true c.loop-each.invariant
    (ap (λ (d : List ℕ × List ℕ). bytes_eq main_name d.0) (sym c.each-item.is) ∙ ap (bytes_eq main_name) (sym c.as_bytes.ensures.bytes) ∙ sym c.eq.ensures ∙ c.if-eq.false)
