use Rattle.pw_tree.specs.Trees.{NoMemberDeclarator}
use Rattle.pw_check_specifier_lists.specs.Specifying.{first_member}
use Rattle.pw_check_specifier_lists.proofs.records.member.Goals as goal

pub returns-in-Plain : goal.returns-in-Plain
unfolding first_member
returns-in-Plain g c = rw (c.in-Plain.is, c.declarators_show_their_lists.ensures.plain_members c.in-Plain.plain NoMemberDeclarator) c.plain_member.ensures

pub returns-in-BitField : goal.returns-in-BitField
unfolding first_member
returns-in-BitField g c = rw (c.in-BitField.is, c.declarators_show_their_lists.ensures.bit_fields c.in-BitField.field c.in-BitField.token c.in-BitField.width NoMemberDeclarator) c.bit_field.ensures
