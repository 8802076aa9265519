use Rattle.std.proofs.Common.{ℕ, ◌⊎◌, ◌∙◌, List, sym, subst, map, Bor}
use Rattle.std.specs.Prelude.{Contains, Option, option_map, ◌↔◌}
use Rattle.std.specs.List.{filter_map, flat_map}
use Rattle.pw_fix.specs.Row.{Holds}
use Rattle.pw_summary.specs.declared.summary.Uses.{Uses}
use Rattle.pw_graph.specs.Making.{target, place_in, of_shape, callees as places}
use Rattle.pw_graph.proofs.Steps.{calls_some, calls_none}
use Rattle.pw_graph.proofs.calls.callees.Goals as goal

pub returns-in-None : goal.returns-in-None
returns-in-None c =
    let ts = map target c.args.targets.now in
    record {
      length = c.in_ok-row.ensures.length;
      holds = subst (λ (o : Option (Bor Uses)). (b : ℕ) → Holds c.in_ok-row.row b ↔ Contains (places c.args.names.now ts (option_map (λ u. u.now) o)) b) (sym c.in-None.is) (calls_none c.in_ok-row.row c.in_ok-row.ensures.empty);
    }

pub returns-in-Some : goal.returns-in-Some
returns-in-Some c =
    let ts = map target c.args.targets.now in
    let names = c.args.names.now in
    let u = c.in-Some.uses.now in
    let one = subst (λ (xs : List (List ℕ)). (b : ℕ) → Holds c.add_named.new.row b ↔ (Holds c.in_ok-row.row b ⊎ Contains (filter_map (place_in names) xs) b)) c.as_slice.ensures c.add_named.ensures.holds in
    let two = subst (λ (xs : List (List ℕ)). (b : ℕ) → Holds c.add_shapes.new.row b ↔ (Holds c.add_named.new.row b ⊎ Contains (flat_map (of_shape ts) xs) b)) c.as_slice-in-Some.ensures c.add_shapes.ensures.holds in
    record {
      length = c.add_shapes.ensures.length ∙ c.add_named.ensures.length ∙ c.in_ok-row.ensures.length;
      holds = subst (λ (o : Option (Bor Uses)). (b : ℕ) → Holds c.add_shapes.new.row b ↔ Contains (places names ts (option_map (λ v. v.now) o)) b) (sym c.in-Some.is)
          (calls_some c.in_ok-row.row c.add_named.new.row c.add_shapes.new.row (filter_map (place_in names) u.calls) (flat_map (of_shape ts) u.shapes) c.in_ok-row.ensures.empty one two);
    }
