use Rattle.std.proofs.Common.{List, subst, sym, ◌∙◌}
use Rattle.std.specs.Borrow.{Bor}
use Rattle.std.specs.Prelude.{IfErr, OnOk, ◌⊎◌, ◌≡◌}
use Rattle.pw_value.specs.declared.fault.LinkFault.TheVariants as link
use Rattle.pw_link_interface.specs.Interface.{interface}
use Rattle.pw_link_rules.specs.Linking.{Links, Refusal}
use Rattle.pw_link_rules.specs.declared.interface.Interface.{Interface}
use Rattle.pw_link.proofs.Growing.{shown_through}
use Rattle.pw_link.proofs.linking.check_objects.Goals as goal

pub returns-clause-links : goal.returns-clause-links
returns-clause-links c =
    let same = c.deref.ensures.value ∙ c.in_ok-shown.ensures ∙ sym (shown_through c.args.objects.now) in
    subst (λ (is : List Interface). OnOk c.check_program.result (Links is)) same c.check_program.ensures.links

pub returns-clause-refused : goal.returns-clause-refused
returns-clause-refused c =
    let same = c.deref.ensures.value ∙ c.in_ok-shown.ensures ∙ sym (shown_through c.args.objects.now) in
    subst (λ (is : List Interface). IfErr c.check_program.result (λ fault. (fault ≡ link.NoMemory) ⊎ Refusal is fault)) same c.check_program.ensures.refused
