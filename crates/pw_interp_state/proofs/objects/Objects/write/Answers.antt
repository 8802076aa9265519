use Rattle.std.proofs.Common.{◌≤◌, ◌<◌, ◌^◌, length, sym, ap, arith}
use Rattle.std.proofs.lemmas.Grind.{common_steps}
use Rattle.std.proofs.lemmas.List.{length-map, set_past}
use Rattle.pw_interp_state.specs.Views.{view_object, view_objects}
use Rattle.pw_interp_state.proofs.ObjectLemmas.{written_within, short_at, short_set, length_with_bytes}
use Rattle.pw_interp_state.proofs.objects.Objects.write.Goals as goal
use Rattle.pw_interp_state.proofs.objects.Objects.write.Goals.{in-Some, in_default}

pub invariant_of-self : goal.invariant_of-self
invariant_of-self c = elim c.match-get_mut.branch [
  | in-Some w ↦
      let short : length w.in-Some.object.now.bytes.items < 2 ^ 32 = short_at c.self.inside.all.items c.place.result w.in-Some.object.now w.in-Some.object.now c.self.invariant (grind (arith, common_steps)) w.in-Some.ensures.value in
      rw w.self-inside-is (short_set c.self.inside.all.items c.place.result _ c.self.invariant (rw (ap (λ o. length o.bytes) w.write_in.ensures) (rw length_with_bytes short)))
  | in_default w ↦ rw w.self-inside-is c.self.invariant
]

pub returns : goal.returns
returns c = elim c.match-get_mut.branch [
  | in-Some w ↦
      rw (w.self-inside-is, ← c.self.view_is)
      (written_within _ _ _ c.args.offset c.args.new.now w.in-Some.object.now _ w.in-Some.object.now (grind (arith, common_steps)) (grind (arith, common_steps)) (w.in-Some.ensures.value) w.write_in.ensures)
  | in_default w ↦
      let past : length (view_objects c.self.inside.all.items) ≤ c.args.number = grind (arith, common_steps, length-map c.self.inside.all.items view_object) in
      rw (w.self-inside-is, ← c.self.view_is) (sym (set_past (view_objects c.self.inside.all.items) c.args.number _ past))
]
