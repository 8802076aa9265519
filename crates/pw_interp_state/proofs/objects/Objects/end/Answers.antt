use Rattle.std.proofs.Common.{◌≤◌, length, refl, sym, arith}
use Rattle.std.proofs.lemmas.Grind.{common_steps}
use Rattle.std.proofs.lemmas.List.{length-map, set_past}
use Rattle.pw_interp_state.specs.Views.{view_object, view_objects}
use Rattle.pw_interp_state.proofs.ObjectLemmas.{ended_within}
use Rattle.pw_interp_state.proofs.objects.Objects.end.Goals as goal
use Rattle.pw_interp_state.proofs.objects.Objects.end.Goals.{in-Some, in_default}

pub returns : goal.returns
returns c = elim c.match-get_mut.branch [
  | in-Some w ↦
      rw (w.self-inside-is, ← c.self.view_is)
      (ended_within _ _ _ w.in-Some.object.now _ w.in-Some.object.now (grind (arith, common_steps)) (grind (arith, common_steps)) (w.in-Some.ensures.value) refl)
  | in_default w ↦
      let past : length (view_objects c.self.inside.all.items) ≤ c.args.number = grind (arith, common_steps, length-map c.self.inside.all.items view_object) in
      rw (w.self-inside-is, ← c.self.view_is) (sym (set_past (view_objects c.self.inside.all.items) c.args.number _ past))
]
