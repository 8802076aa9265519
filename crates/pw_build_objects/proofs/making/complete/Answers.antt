use Rattle.std.proofs.Common.{List, rules, ⊎_elim, inl, inr, length, subst, sym}
use Rattle.std.specs.List.{AllByRecursion}
use Rattle.std.proofs.lemmas.Result.{IfErr-weaker, IfOk-weaker}
use Rattle.pw_flow.specs.declared.flow.FlowModule.{FlowModule}
use Rattle.pw_summary.specs.declared.summary.Summary.{Summary}
use Rattle.pw_build_objects.specs.Choosing.{marks_of, objects_of}
use Rattle.pw_build_objects.proofs.CountLemmas.{bound_as_many, broken_counted, made_counted}
use Rattle.pw_build_objects.proofs.LoopLemmas.{bound_none}
use Rattle.pw_build_objects.proofs.PreparedParts.{completed, parts_with, prepared_parts}
use Rattle.pw_build_objects.proofs.ShownLaws.{plain_objects_link}
use Rattle.pw_build_objects.specs.declared.remade.Made.{Made}
use Rattle.pw_build_objects.specs.Programs.{WasMade}
use Rattle.pw_build_objects.specs.Showing.{ShowWhereKept}
use Rattle.pw_build_objects.proofs.WereMade.{were_made}
use Rattle.pw_build_objects.proofs.making.complete.Goals as goal

pub all_objects-requires : goal.all_objects-requires
all_objects-requires g c = record {
  lawful = c.in_ok-prepared.ensures.prepared.lawful;
  summaries = c.in_ok-prepared.ensures.prepared.summaries;
  database = c.in_ok-prepared.ensures.prepared.lawful_database;
  kept = c.requires.kept;
}

pub linked-requires-clause-rules : goal.linked-requires-clause-rules
linked-requires-clause-rules g c = λ t.
    let forms = c.in_ok-prepared.prepared.forms.items in
    let by_forms = subst (λ (fs : List FlowModule). ShowWhereKept fs c.args.kept.items fs c.deref-2.result.now) c.deref.ensures.value (c.show_no_more-plain.ensures t) in
    let shown = subst (λ (ss : List Summary). ShowWhereKept forms c.args.kept.items forms ss) c.deref-2.ensures.value by_forms in
    plain_objects_link c.objects_show_their_modules.ensures.made c.objects_show_their_modules.ensures.linked c.forms_keep_what_modules_have.ensures.declare c.forms_keep_what_modules_have.ensures.rules
    c.args.flows.items c.args.kept.items c.args.opts.now.optimise c.args.opts.now.colours c.in_ok-prepared.prepared (objects_of c.in_ok-made.made.items) (marks_of c.in_ok-made.made.items)
    c.requires.lawful c.requires.declares c.in_ok-prepared.ensures.prepared c.in_ok-made.ensures.objects shown

pub returns-clause-built : goal.returns-clause-built
returns-clause-built g c =
    completed c.args.flows.items c.args.kept.items c.args.opts.now c.linked.result c.in_ok-prepared.prepared c.in_ok-made.made.items
    (prepared_parts c.args.flows.items c.args.kept.items c.args.opts.now c.in_ok-prepared.prepared c.in_ok-made.made.items c.requires.lawful c.in_ok-prepared.ensures.prepared c.in_ok-made.ensures.objects)
    c.linked.ensures.built c.linked.ensures.accepted

pub returns-clause-refused : goal.returns-clause-refused
returns-clause-refused g c =
    IfErr-weaker c.linked.result _ _
    (λ fault h. ⊎_elim {C = _} (λ none. inl none)
    (λ refusal. inr (inr (
      parts_with c.in_ok-prepared.prepared c.in_ok-made.made.items,
      prepared_parts c.args.flows.items c.args.kept.items c.args.opts.now c.in_ok-prepared.prepared c.in_ok-made.made.items c.requires.lawful c.in_ok-prepared.ensures.prepared c.in_ok-made.ensures.objects,
      refusal,
    ))) h)
    c.linked.ensures.refused

pub returns-in_err-prepared-clause-bound : goal.returns-in_err-prepared-clause-bound
returns-in_err-prepared-clause-bound g c = bound_none (length c.args.flows.items) c.args.steps.now

pub returns-in_err-made-clause-bound : goal.returns-in_err-made-clause-bound
returns-in_err-made-clause-bound g c =
    bound_as_many _ _ _ _
    (c.forms_keep_what_modules_have.ensures.count c.args.opts.now.optimise c.args.flows.items c.in_ok-prepared.prepared.forms.items c.in_ok-prepared.ensures.prepared.of_flows) c.all_objects.ensures.bound

pub returns-clause-bound : goal.returns-clause-bound
returns-clause-bound g c =
    bound_as_many _ _ _ _
    (c.forms_keep_what_modules_have.ensures.count c.args.opts.now.optimise c.args.flows.items c.in_ok-prepared.prepared.forms.items c.in_ok-prepared.ensures.prepared.of_flows) c.all_objects.ensures.bound

pub returns-clause-counted_fault : goal.returns-clause-counted_fault
returns-clause-counted_fault g c =
    IfErr-weaker c.linked.result _ _
    (λ fault _. inr (made_counted c.args.flows.items c.args.kept.items c.args.opts.now c.args.steps.now _
    (parts_with c.in_ok-prepared.prepared c.in_ok-made.made.items)
    (prepared_parts c.args.flows.items c.args.kept.items c.args.opts.now c.in_ok-prepared.prepared c.in_ok-made.made.items c.requires.lawful c.in_ok-prepared.ensures.prepared c.in_ok-made.ensures.objects)
    c.in_ok-made.ensures.counted))
    c.linked.ensures.refused

pub returns-in_err-prepared-clause-counted_fault : goal.returns-in_err-prepared-clause-counted_fault
returns-in_err-prepared-clause-counted_fault g c =
    broken_counted c.args.flows.items c.args.kept.items c.args.opts.now c.args.steps.now c.from_residual.result c.in_err-prepared.field-0.0
    (first_of (search (rules, c.from_residual.ensures), cc (c.from_residual.ensures))) c.in_err-prepared.ensures.refused

pub returns-clause-were_made : goal.returns-clause-were_made
returns-clause-were_made g c =
    IfOk-weaker c.linked.result _ _
    (λ built h. subst (λ (ms : List Made). AllByRecursion WasMade (objects_of ms)) (sym h.1)
    (were_made c.in_ok-prepared.prepared.analysed.database.functions c.in_ok-prepared.prepared.forms.items c.args.kept.items (objects_of c.in_ok-made.made.items) (marks_of c.in_ok-made.made.items) c.in_ok-made.ensures.objects))
    c.linked.ensures.built
