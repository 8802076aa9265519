-- A member of a structure or union with its offset, as its initialisers come to it, and a scalar as its own part.
use Rattle.std.specs.Prelude.{ℕ, ◌==◌, if◌then◌else◌, Option, None, Some, option_and_then, List, slice_get, zip}
use Rattle.std.specs.Borrow.{Bor}
use Rattle.pw_types.specs.Layouts.{content_at}
use Rattle.pw_types.specs.TypeTrees.{MemberValue, RecordValue}
use Rattle.pw_types.specs.Views.{view_member}
use Rattle.pw_types.specs.declared.record.Member.{Member}
use Rattle.pw_check_rules.specs.Initialisers.{Frame, Target, is_past_union, target_at}
use Rattle.pw_check_rules.specs.Kinds.{plain}

abbrev pub member_in : List RecordValue → ℕ → ℕ → Option (MemberValue × ℕ)
member_in records n next =
    if is_past_union records n next then None
    else option_and_then (λ c. slice_get (zip c.members c.offsets) next) (content_at records n)

abbrev pub view_found : Bor Member × ℕ → MemberValue × ℕ
view_found found = (view_member found.0.now, found.1)

abbrev pub own_part : Frame → Option Target
own_part f = if f.next == 0 then Some (target_at (plain f.ty) f.offset) else None
