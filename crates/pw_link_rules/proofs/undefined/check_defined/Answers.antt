use Rattle.std.proofs.Common.{◌++◌, subst, ap, inr, ◌∙◌}
use Rattle.std.specs.List.{flat_map}
use Rattle.pw_fields.specs.FieldNames.{IsTableOf}
use Rattle.pw_link_rules.specs.declared.interface.Interface.{Interface}
use Rattle.pw_value.specs.declared.fault.LinkFault.TheVariants.{Undefined}
use Rattle.pw_link_rules.specs.Linking.{names_in}
use Rattle.pw_link_rules.proofs.Unknown.{undefined, all_known}
use Rattle.pw_link_rules.proofs.undefined.check_defined.Goals as goal

pub returns-in-Some : goal.returns-in-Some
returns-in-Some c =
    let modules = c.args.modules.now in
    let used = subst (IsTableOf c.in_ok-used.used.items) c.in_ok-used_names.ensures c.in_ok-used.ensures in
    let names = c.in_ok-defined_names.ensures ∙ ap (λ (i : Interface). names_in i ++ flat_map names_in modules) c.requires in
    let defined = subst (IsTableOf c.in_ok-defined.defined.items) names c.in_ok-defined.ensures in
    let h = rw (c.deref.ensures.value, c.deref-2.ensures.value) at c.in-Some.ensures in
    inr (c.in-Some.name.now, undefined modules c.in_ok-used.used.items c.in_ok-defined.defined.items used defined h.0 c.in-Some.name.now h.1 h.2 h.3 h.4, ap Undefined c.in_ok-copy-in-Some.ensures)

pub returns : goal.returns
returns c =
    let modules = c.args.modules.now in
    let used = subst (IsTableOf c.in_ok-used.used.items) c.in_ok-used_names.ensures c.in_ok-used.ensures in
    let names = c.in_ok-defined_names.ensures ∙ ap (λ (i : Interface). names_in i ++ flat_map names_in modules) c.requires in
    let defined = subst (IsTableOf c.in_ok-defined.defined.items) names c.in_ok-defined.ensures in
    all_known modules c.in_ok-used.used.items c.in_ok-defined.defined.items used defined (rw (c.deref.ensures.value, c.deref-2.ensures.value) at c.in-None.ensures)
