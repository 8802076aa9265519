use Rattle.std.proofs.Common.{rules, [], ◌∷◌, length, subst, sym}
use Rattle.std.specs.List.{AllByRecursion}
use Rattle.std.proofs.lemmas.List.{length_push}
use Rattle.pw_flow.specs.ValidFlow.{IsFunction}
use Rattle.pw_flow.proofs.Lists.{all_append}
use Rattle.pw_object.specs.Functions as object
use Rattle.pw_db.specs.Database.{IsDirectives}
use Rattle.pw_phase_two.proofs.PairLemmas.{compiled_end, compiled_turn, each_at, pair_at, pairs_ended}
use Rattle.pw_phase_two.proofs.compiling.compile_all.Goals as goal

pub compile-requires : goal.compile-requires
compile-requires c =
    let z = pair_at _ c.loop-f.f-iterator c.next.new.self c.next.result c.args.functions.now c.args.directives.now c.loop-f.yielded (c.in-Some.f, c.in-Some.d) c.loop-f.yielded_by c.in-Some.is c.next.ensures.steps (first_of (cc, search rules)) (first_of (cc, search rules)) in
    record {
      function = each_at IsFunction c.args.functions.now (length c.loop-f.yielded) c.in-Some.f.now c.requires.functions z.0 z.2;
      directives = each_at (λ d. IsDirectives d.1) c.args.directives.now (length c.loop-f.yielded) c.in-Some.d.now c.requires.directives z.1 z.3;
    }

pub loop-f-preserved : goal.loop-f-preserved
loop-f-preserved c =
    let z = pair_at _ c.loop-f.f-iterator c.next.new.self c.next.result c.args.functions.now c.args.directives.now c.loop-f.yielded (c.in-Some.f, c.in-Some.d) c.loop-f.yielded_by c.in-Some.is c.next.ensures.steps (first_of (cc, search rules)) (first_of (cc, search rules)) in
    record {
      so_far = compiled_turn c.args.functions.now c.args.directives.now (length c.loop-f.yielded) _ c.in-Some.f.now c.in-Some.d.now c.loop-f.compiled _ _ (length_push c.loop-f.yielded (c.in-Some.f, c.in-Some.d))
          z.0 z.1 z.2 z.3 c.loop-f.invariant.so_far (first_of (cc, search rules));
      made = subst (AllByRecursion object.IsFunction) (sym c.in_ok-push.ensures)
          (all_append object.IsFunction c.loop-f.compiled (c.in_ok-compile.field-0 ∷ []) c.loop-f.invariant.made (c.in_ok-compile.ensures.lawful, tt));
    }

pub returns-clause-value : goal.returns-clause-value
returns-clause-value c =
    let n = pairs_ended _ c.loop-f.f-iterator c.next.new.self c.next.result c.args.functions.now c.args.directives.now c.loop-f.yielded c.loop-f.yielded_by c.in-None.is c.next.ensures.steps (first_of (cc, search rules)) (first_of (cc, search rules)) in
    compiled_end c.args.functions.now c.args.directives.now (length c.loop-f.yielded) c.loop-f.compiled _ n c.loop-f.invariant.so_far
