use Rattle.std.proofs.Common.{◌≡◌, ◌+◌, ◌*◌, drop}
use Rattle.std.specs.List.{list_any}
use Rattle.pw_check_rules.specs.Kinds as spec
use Rattle.pw_types.specs.Views.{view_members}
use Rattle.pw_check_types.proofs.objects.+holds_const.Given as goal

abbrev pub decreases-holds_const : goal.decreases-holds_const
decreases-holds_const l = 2 * l.deep

abbrev pub decreases-any_holds_const : goal.decreases-any_holds_const
decreases-any_holds_const l = 2 * l.deep + 1

-- what is left of the members decides
abbrev pub invariant-any_holds_const-loop-member : goal.invariant-any_holds_const-loop-member
invariant-any_holds_const-loop-member l =
    list_any (λ m. spec.holds_const l.deep l.types m.ty) (view_members (drop l.member-index l.members))
    ≡ list_any (λ m. spec.holds_const l.deep l.types m.ty) (view_members l.members)
