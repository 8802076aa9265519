use Rattle.std.proofs.Common.{◌≡◌, ◌-◌, None, Some, List, length, slice_get, sym, subst}
use Rattle.pw_check_names.specs.declared.scoped.Start.{Start}
use Rattle.pw_check_names.proofs.NestingLaws.{tags_behind, tags_outside}
use Rattle.pw_check_names.proofs.scoped.VisibleNames.tags_from.Goals as goal

pub returns-in-Some : goal.returns-in-Some
returns-in-Some c =
    rw (← c.self.view_is)
    (tags_behind c.self.inside.ordinary c.self.inside.tags c.self.inside.starts.items c.in-Some.start.now c.self.inside.depth c.self.invariant
    (sym (subst (λ (xs : List Start). Some c.in-Some.start.now ≡ slice_get xs (length xs - 1)) c.deref.ensures.value c.in-Some.ensures.value)))

pub returns-in-None : goal.returns-in-None
returns-in-None c =
    rw (← c.self.view_is)
    (tags_outside c.self.inside.ordinary c.self.inside.tags c.self.inside.starts.items c.self.inside.depth c.self.invariant
    (sym (subst (λ (xs : List Start). None ≡ slice_get xs (length xs - 1)) c.deref.ensures.value c.in-None.ensures.value)))
