use Rattle.std.proofs.Common.{◌≡◌, ◌∙◌, ℕ, List, ap, arith, length, map, subst}
use Rattle.std.specs.List.{AllZip}
use Rattle.std.proofs.lemmas.List.{length-map}
use Rattle.pw_graph.specs.Making.{home, scalar, target, IsCallRow, ref_row}
use Rattle.pw_graph.proofs.Made.{names_one}
use Rattle.pw_graph.proofs.building.rows_of.Goals as goal

pub call_rows-requires-clause-count : goal.call_rows-requires-clause-count
call_rows-requires-clause-count c =
    let same : length c.deref.result.now ≡ length c.args.names.items = ap length c.deref.ensures.value in
    omega (arith, same, c.requires.few_names)

pub ref_rows-requires-clause-count : goal.ref_rows-requires-clause-count
ref_rows-requires-clause-count c =
    let are = names_one (λ v. v.0) c.in_ok-globals.globals.items (map scalar c.args.scalars.now) c.requires.scalars c.in_ok-globals.ensures in
    let size : length c.in_ok-globals.globals.items ≡ length (map (λ v. v.0) (map scalar c.args.scalars.now)) = ap length are in
    let same : length c.deref-2.result.now ≡ length c.in_ok-globals.globals.items = ap length c.deref-2.ensures.value in
    omega (arith, same, size, length-map (map scalar c.args.scalars.now) (λ v. v.0), length-map c.args.scalars.now scalar, c.requires.few_scalars)

pub returns-clause-calls : goal.returns-clause-calls
returns-clause-calls c =
    subst (λ (ns : List (List ℕ)). AllZip (IsCallRow ns (map target c.args.targets.now)) (map home c.args.homes.now) c.in_ok-calls.calls) c.deref.ensures.value c.in_ok-calls.ensures

pub returns-clause-refs : goal.returns-clause-refs
returns-clause-refs c = record {
  globals = c.in_ok-globals.globals.items;
  table = c.in_ok-globals.ensures;
  rows = c.in_ok-refs.ensures ∙ ap (λ (gs : List (List ℕ)). map (λ h. ref_row gs h.2) (map home c.args.homes.now)) c.deref-2.ensures.value;
}
