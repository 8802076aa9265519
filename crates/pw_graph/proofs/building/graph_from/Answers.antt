use Rattle.std.proofs.Common.{◌≡◌, ◌∙◌, List, ap, arith, length, map, subst, sym}
use Rattle.std.specs.List.{AllZip}
use Rattle.std.proofs.lemmas.List.{length-map}
use Rattle.pw_graph.specs.declared.eligible.Scalar.{Scalar}
use Rattle.pw_graph.specs.declared.calls.Target.{Target}
use Rattle.pw_graph.specs.Making.{home, scalar, target, IsCallRow, HasRefs}
use Rattle.std.specs.Prelude.{IfOk}
use Rattle.pw_files.specs.Rising.{IsRising}
use Rattle.pw_graph.proofs.Made.{graph_result, few_names, few_scalars_of, targets_fit}
use Rattle.pw_graph.proofs.Once.{globals_apart}
use Rattle.pw_graph.proofs.building.graph_from.Goals as goal

pub eligible-requires-clause-distinct : goal.eligible-requires-clause-distinct
eligible-requires-clause-distinct c = globals_apart c.args.taken.now c.args.escaped.now c.args.summaries.now c.requires.lawful c.requires.linked

pub rows_of-requires-clause-few_names : goal.rows_of-requires-clause-few_names
rows_of-requires-clause-few_names c =
    let few = few_names c.args.summaries.now c.requires.linked (map home c.args.homes.now) c.in_ok-names.names.items c.requires.homes c.requires.count c.in_ok-names.ensures in
    omega (arith, few.0)

pub rows_of-requires-clause-targets : goal.rows_of-requires-clause-targets
rows_of-requires-clause-targets c =
    let few = few_names c.args.summaries.now c.requires.linked (map home c.args.homes.now) c.in_ok-names.names.items c.requires.homes c.requires.count c.in_ok-names.ensures in
    targets_fit c.args.taken.now (map home c.args.homes.now) (map target c.deref.result.now) (length c.in_ok-names.names.items) (ap (λ (ts : List Target). map target ts) c.deref.ensures.value ∙ c.in_ok-targets.ensures) few.1

pub rows_of-requires-clause-few_scalars : goal.rows_of-requires-clause-few_scalars
rows_of-requires-clause-few_scalars c =
    let same : length c.deref-2.result.now ≡ length c.in_ok-scalars.scalars.items = ap length c.deref-2.ensures.value in
    let few = few_scalars_of c.args.summaries.now c.requires.linked c.args.taken.now c.args.escaped.now (map scalar c.in_ok-scalars.scalars.items) c.in_ok-scalars.ensures.count in
    omega (arith, same, few, length-map c.in_ok-scalars.scalars.items scalar)

pub rows_of-requires-clause-scalars : goal.rows_of-requires-clause-scalars
rows_of-requires-clause-scalars c = subst (λ (vs : List Scalar). IsRising (map (λ v. v.0) (map scalar vs))) (sym c.deref-2.ensures.value) c.in_ok-scalars.ensures.order.0

pub returns : goal.returns
returns c =
    let ss = c.args.summaries.now in
    let H = map home c.args.homes.now in
    let names = c.in_ok-names.names.items in
    let G = map scalar c.in_ok-scalars.scalars.items in
    let ts = map target c.in_ok-targets.targets.items in
    let globals = subst (λ (vs : List Scalar). IfOk c.rows_of.result (λ g. g.globals ≡ map scalar vs)) c.deref-2.ensures.value c.rows_of.ensures.globals in
    let calls = subst (λ (us : List Target). IfOk c.rows_of.result (λ g. AllZip (IsCallRow names (map target us)) H g.calls)) c.deref.ensures.value c.rows_of.ensures.calls in
    let refs = subst (λ (vs : List Scalar). IfOk c.rows_of.result (λ g. HasRefs (map scalar vs) H g.refs)) c.deref-2.ensures.value c.rows_of.ensures.refs in
    let both = graph_result ss c.requires.lawful c.requires.linked H names c.args.taken.now c.args.escaped.now G c.requires.homes c.requires.count c.in_ok-names.ensures c.requires.taken c.requires.escaped
    c.in_ok-scalars.ensures.order c.in_ok-scalars.ensures.count ts c.in_ok-targets.ensures c.rows_of.result c.rows_of.ensures.functions globals calls refs c.rows_of.ensures.needs in
    record { of = both.0; graph = both.1 }
