use Rattle.std.proofs.Common.{◌≡◌, drop}
use Rattle.std.specs.Prelude.{find, zip}
use Rattle.std.specs.Str.{bytes_eq}
use Rattle.pw_types.specs.Views.{view_content, view_members}
use Rattle.pw_check_rules.specs.Operators.{member_in}
use Rattle.pw_check_postfix.proofs.members.member_in.Given as goal

-- the member is sought in what is left
abbrev pub invariant-loop-member : goal.invariant-loop-member
invariant-loop-member l =
    find (λ m. bytes_eq m.0.name l.name) (zip (view_members (drop l.member-index l.content.members.items)) l.rest)
    ≡ member_in l.name (view_content l.content)
