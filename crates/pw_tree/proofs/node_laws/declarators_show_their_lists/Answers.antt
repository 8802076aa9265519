use Rattle.pw_tree.proofs.Rows.{record_view, enum_view, plain_member_view, bit_field_view, enclosed_view, prototype_view, variadic_view}
use Rattle.pw_tree.proofs.node_laws.declarators_show_their_lists.Goals as goal

pub returns-clause-records : goal.returns-clause-records
returns-clause-records c = record_view

pub returns-clause-enumerations : goal.returns-clause-enumerations
returns-clause-enumerations c = enum_view

pub returns-clause-plain_members : goal.returns-clause-plain_members
returns-clause-plain_members c = plain_member_view

pub returns-clause-bit_fields : goal.returns-clause-bit_fields
returns-clause-bit_fields c = bit_field_view

pub returns-clause-enclosed : goal.returns-clause-enclosed
returns-clause-enclosed c = enclosed_view

pub returns-clause-prototypes : goal.returns-clause-prototypes
returns-clause-prototypes c = prototype_view

pub returns-clause-variadic : goal.returns-clause-variadic
returns-clause-variadic c = variadic_view
