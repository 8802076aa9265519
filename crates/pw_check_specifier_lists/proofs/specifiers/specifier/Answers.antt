use Rattle.pw_tree.specs.Trees.{NoSpecifier}
use Rattle.pw_check_specifier_lists.specs.Specifying.{first_specifier}
use Rattle.pw_check_specifier_lists.proofs.specifiers.specifier.Goals as goal

pub returns-in-Record : goal.returns-in-Record
unfolding first_specifier
returns-in-Record g c =
    rw (c.in-Record.is, c.declarators_show_their_lists.ensures.records c.in-Record.token c.in-Record.kind c.in-Record.tag c.in-Record.members NoSpecifier)
    (rw (c.record_spot-spot.ensures, c.named-tag.ensures, c.deref.ensures.value) at c.record.ensures)

pub returns-in-Enum : goal.returns-in-Enum
unfolding first_specifier
returns-in-Enum g c =
    rw (c.in-Enum.is, c.declarators_show_their_lists.ensures.enumerations c.in-Enum.token c.in-Enum.tag c.in-Enum.enumerators NoSpecifier)
    (rw (c.named.ensures, c.deref-in-Enum.ensures.value) at c.enumeration.ensures)
