use Rattle.std.proofs.Common.{sym, ap, ◌∙◌}
use Rattle.std.specs.Str.{bytes_eq}
use Rattle.pw_value.specs.ProgramNames.{main_name}
use Rattle.pw_object.specs.declared.functions.ObjectFn.{ObjectFn}
use Rattle.pw_link_interface.proofs.Lookups.{any_found}
use Rattle.pw_link_interface.proofs.mains.is_main_among.Goals as goal

pub returns-then-eq : goal.returns-then-eq
returns-then-eq c =
    any_found (bytes_eq main_name) (λ (f : ObjectFn). f.name) c.args.functions.now c.loop-each.each-index c.each-item.result c.loop-each-test.true
    (ap (λ (f : ObjectFn). bytes_eq main_name f.name) (sym c.each-item.is) ∙ ap (bytes_eq main_name) (sym c.as_bytes.ensures.bytes) ∙ sym c.eq.ensures ∙ c.if-eq.true)
