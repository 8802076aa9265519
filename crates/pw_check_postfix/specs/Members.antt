-- Members that are found by their names.
use Rattle.std.specs.Prelude.{ℕ}
use Rattle.std.specs.Borrow.{Bor}
use Rattle.pw_types.specs.TypeTrees.{MemberValue}
use Rattle.pw_types.specs.Views.{view_member}
use Rattle.pw_types.specs.declared.record.Member.{Member}

abbrev pub view_found : Bor Member × ℕ → MemberValue × ℕ
view_found m = (view_member m.0.now, m.1)
