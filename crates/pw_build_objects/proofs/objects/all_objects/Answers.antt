use Rattle.std.proofs.Common.{arith, rules, drop, length, refl, sym, ap, ◌∙◌, ◌∷◌}
use Rattle.std.specs.Prelude.{IfSome}
use Rattle.std.specs.List.{zip}
use Rattle.std.specs.Iterator.Adapters.{zip_first, zip_second}
use Rattle.std.proofs.lemmas.List.{length_push}
use Rattle.std.proofs.lemmas.Iterator.{YieldsList-from_zip}
use Rattle.std.proofs.lemmas.Iterator.Consumers.{YieldsList-turn, YieldsList-end}
use Rattle.std.proofs.lemmas.Iterator.Adapters.{YieldsList-from_vec}
use Rattle.pw_object.specs.Object.{IsObject}
use Rattle.pw_build_objects.specs.Choosing.{marks_of, objects_of}
use Rattle.pw_build_objects.proofs.LoopLemmas.{IsSummarised, all_summarised, as_long, behind_lawful, bound_by, bound_more, count_more, count_start, each_at, first_lawful, flows_in, marks_more, marks_of_more, more_lawful, next_at, nothing_at, object_end, object_start, object_turn, objects_more}
use Rattle.pw_build_objects.proofs.objects.all_objects.Goals as goal

pub loop-flow-init : goal.loop-flow-init
loop-flow-init g c = record {
  so_far = object_start c.args.db.now.functions c.args.flows.items c.args.summaries.items c.args.kept.items _ c.requires.summaries c.new-made.ensures.items;
  kept_lawful = c.requires.kept;
  lawful = rw c.new-made.ensures.items tt;
  counted = count_start _ _ c.new-made.ensures.items;
  marks = rw c.new-made.ensures.items refl;
}

pub object_under-requires : goal.object_under-requires
object_under-requires g c =
    let e = YieldsList-from_zip {s = c.into_iter-flow-iterator.result} (YieldsList-from_vec {s = zip_first c.into_iter-flow-iterator.result} c.args.flows.items (first_of (cc, search rules)) (first_of (cc, search rules))) (YieldsList-from_vec {s = zip_second c.into_iter-flow-iterator.result} c.args.summaries.items (first_of (cc, search rules)) (first_of (cc, search rules))) in
    let t = YieldsList-turn e c.loop-flow.yielded c.loop-flow.flow-iterator c.loop-flow.yielded_by c.next.result c.next.new.self (c.in-Some.flow, c.in-Some.summary) c.in-Some.is c.next.ensures.steps in
    let z = each_at IsSummarised (zip c.args.flows.items c.args.summaries.items) (length c.loop-flow.yielded) (c.in-Some.flow, c.in-Some.summary) (all_summarised c.args.flows.items c.args.summaries.items c.requires.lawful c.requires.summaries) t.0 t.1 in
    record {
      lawful = z.0;
      summary = z.1;
      database = c.requires.database;
      kept = first_lawful (λ old. IfSome old IsObject) c.next_kept-old.result c.loop-flow.kept.items tt c.loop-flow.invariant.kept_lawful c.next_kept-old.ensures.first;
    }

pub loop-flow-preserved : goal.loop-flow-preserved
loop-flow-preserved g c =
    let e = YieldsList-from_zip {s = c.into_iter-flow-iterator.result} (YieldsList-from_vec {s = zip_first c.into_iter-flow-iterator.result} c.args.flows.items (first_of (cc, search rules)) (first_of (cc, search rules))) (YieldsList-from_vec {s = zip_second c.into_iter-flow-iterator.result} c.args.summaries.items (first_of (cc, search rules)) (first_of (cc, search rules))) in
    let t = YieldsList-turn e c.loop-flow.yielded c.loop-flow.flow-iterator c.loop-flow.yielded_by c.next.result c.next.new.self (c.in-Some.flow, c.in-Some.summary) c.in-Some.is c.next.ensures.steps in
    let pairs = zip c.args.flows.items c.args.summaries.items in
    let one = length_push c.loop-flow.yielded (c.in-Some.flow, c.in-Some.summary) in
    let next = ap flows_in (next_at pairs (length c.loop-flow.yielded) (c.in-Some.flow, c.in-Some.summary) t.0 t.1) ∙ ap (λ k. c.in-Some.flow ∷ flows_in (drop k pairs)) (sym one) in
    record {
      so_far = object_turn c.args.db.now.functions c.args.flows.items c.args.kept.items _ _ c.in-Some.flow _ _ _ _ _ _ _ _ _
          c.loop-flow.invariant.so_far next
          c.in_ok-one.ensures.object c.next_kept-old.ensures.first c.next_kept-old.ensures.behind (objects_more c.loop-flow.made.items _ c.in_ok-one.one c.in_ok-add_object.ensures) (marks_of_more c.loop-flow.made.items _ c.in_ok-one.one c.in_ok-add_object.ensures);
      kept_lawful = behind_lawful (λ old. IfSome old IsObject) _ _ c.loop-flow.invariant.kept_lawful c.next_kept-old.ensures.behind;
      lawful = more_lawful IsObject _ _ _ c.loop-flow.invariant.lawful c.in_ok-one.ensures.lawful (objects_more c.loop-flow.made.items _ c.in_ok-one.one c.in_ok-add_object.ensures);
      counted = c.in_ok-one.ensures.counted ∙ count_more _ _ _ _ _ c.loop-flow.invariant.counted (marks_of_more c.loop-flow.made.items _ c.in_ok-one.one c.in_ok-add_object.ensures);
      marks = marks_more (marks_of c.loop-flow.made.items) _ _ (length c.loop-flow.yielded) c.loop-flow.invariant.marks (marks_of_more c.loop-flow.made.items _ c.in_ok-one.one c.in_ok-add_object.ensures) ∙ sym one;
    }

pub returns-in_err-one-clause-bound : goal.returns-in_err-one-clause-bound
returns-in_err-one-clause-bound g c =
    let e = YieldsList-from_zip {s = c.into_iter-flow-iterator.result} (YieldsList-from_vec {s = zip_first c.into_iter-flow-iterator.result} c.args.flows.items (first_of (cc, search rules)) (first_of (cc, search rules))) (YieldsList-from_vec {s = zip_second c.into_iter-flow-iterator.result} c.args.summaries.items (first_of (cc, search rules)) (first_of (cc, search rules))) in
    let t = YieldsList-turn e c.loop-flow.yielded c.loop-flow.flow-iterator c.loop-flow.yielded_by c.next.result c.next.new.self (c.in-Some.flow, c.in-Some.summary) c.in-Some.is c.next.ensures.steps in
    let long = as_long c.args.flows.items c.args.summaries.items c.requires.summaries in
    bound_by _ _ (marks_of c.loop-flow.made.items) (length c.loop-flow.yielded) (length c.args.flows.items) (c.in_err-one.ensures.uncounted ∙ c.loop-flow.invariant.counted) c.loop-flow.invariant.marks (omega (arith, t.0, long))

pub returns-in_err-add_object-clause-bound : goal.returns-in_err-add_object-clause-bound
returns-in_err-add_object-clause-bound g c =
    let e = YieldsList-from_zip {s = c.into_iter-flow-iterator.result} (YieldsList-from_vec {s = zip_first c.into_iter-flow-iterator.result} c.args.flows.items (first_of (cc, search rules)) (first_of (cc, search rules))) (YieldsList-from_vec {s = zip_second c.into_iter-flow-iterator.result} c.args.summaries.items (first_of (cc, search rules)) (first_of (cc, search rules))) in
    let t = YieldsList-turn e c.loop-flow.yielded c.loop-flow.flow-iterator c.loop-flow.yielded_by c.next.result c.next.new.self (c.in-Some.flow, c.in-Some.summary) c.in-Some.is c.next.ensures.steps in
    let long = as_long c.args.flows.items c.args.summaries.items c.requires.summaries in
    bound_more _ c.loop-flow.steps _ (marks_of c.loop-flow.made.items) c.in_ok-one.one.fresh (length c.loop-flow.yielded) (length c.args.flows.items)
    c.loop-flow.invariant.counted c.in_ok-one.ensures.counted c.loop-flow.invariant.marks (omega (arith, t.0, long))

pub returns-clause-bound : goal.returns-clause-bound
returns-clause-bound g c =
    let e = YieldsList-from_zip {s = c.into_iter-flow-iterator.result} (YieldsList-from_vec {s = zip_first c.into_iter-flow-iterator.result} c.args.flows.items (first_of (cc, search rules)) (first_of (cc, search rules))) (YieldsList-from_vec {s = zip_second c.into_iter-flow-iterator.result} c.args.summaries.items (first_of (cc, search rules)) (first_of (cc, search rules))) in
    let end = YieldsList-end e c.loop-flow.yielded c.loop-flow.flow-iterator c.loop-flow.yielded_by c.next.result c.next.new.self c.in-None.is c.next.ensures.steps in
    let long = as_long c.args.flows.items c.args.summaries.items c.requires.summaries in
    bound_by _ _ (marks_of c.loop-flow.made.items) (length c.loop-flow.yielded) (length c.args.flows.items) c.loop-flow.invariant.counted c.loop-flow.invariant.marks (omega (arith, end.1, long))

pub returns-clause-objects : goal.returns-clause-objects
returns-clause-objects g c =
    let e = YieldsList-from_zip {s = c.into_iter-flow-iterator.result} (YieldsList-from_vec {s = zip_first c.into_iter-flow-iterator.result} c.args.flows.items (first_of (cc, search rules)) (first_of (cc, search rules))) (YieldsList-from_vec {s = zip_second c.into_iter-flow-iterator.result} c.args.summaries.items (first_of (cc, search rules)) (first_of (cc, search rules))) in
    let end = YieldsList-end e c.loop-flow.yielded c.loop-flow.flow-iterator c.loop-flow.yielded_by c.next.result c.next.new.self c.in-None.is c.next.ensures.steps in
    let pairs = zip c.args.flows.items c.args.summaries.items in
    object_end c.args.db.now.functions c.args.flows.items (flows_in (drop (length c.loop-flow.yielded) pairs)) c.args.kept.items c.loop-flow.kept.items (objects_of c.loop-flow.made.items) (marks_of c.loop-flow.made.items)
    (ap flows_in (nothing_at pairs (length c.loop-flow.yielded) (omega (arith, end.1)))) c.loop-flow.invariant.so_far
