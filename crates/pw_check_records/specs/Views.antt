-- The plain data that members while they are gathered, and types with a tag beside them, show.
use Rattle.std.specs.Prelude.{ℕ, Option, List}
use Rattle.pw_types.specs.TypeTrees as tree
use Rattle.pw_types.specs.TypeTrees.{MemberValue}
use Rattle.pw_types.specs.Views.{view_members, view_qtype}
use Rattle.pw_types.specs.declared.ctype.QType.{QType}
use Rattle.pw_check_records.specs.declared.members.MemberList.{MemberList}

-- a type, and the token of the tag that it brings in
abbrev pub view_tagged : QType × Option ℕ → tree.QType × Option ℕ
view_tagged t = (view_qtype t.0, t.1)

abbrev pub view_member_list : MemberList → List MemberValue
view_member_list l = view_members l.items.items
