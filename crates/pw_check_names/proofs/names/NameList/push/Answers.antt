use Rattle.std.proofs.Common.{◌∷◌, [], ◌++◌, ap, ◌∙◌, arith}
use Rattle.pw_check_names.proofs.Places.{TellsFirst-pushed}
use Rattle.pw_check_names.proofs.names.NameList.push.Goals as goal

pub invariant_of-self-2 : goal.invariant_of-self-2
invariant_of-self-2 c =
    TellsFirst-pushed c.self.inside.names.items c.push.new.self.items c.self.inside.places c.note.new.places c.args.name c.in_ok-place.place
    c.self.invariant (omega (arith, c.len.ensures, c.self.inside.names.ok.0, c.in_ok-place.ensures))
    (c.in_ok-push.ensures.items ∙ ap (λ ns. ns ++ c.args.name ∷ []) c.reserve.ensures.items) c.in_ok-note.ensures.ok
