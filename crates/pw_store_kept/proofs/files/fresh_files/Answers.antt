use Rattle.std.proofs.Common.{rules, length}
use Rattle.std.proofs.lemmas.List.{length_push}
use Rattle.pw_object.specs.Object.{IsObject}
use Rattle.pw_store_kept.proofs.FreshLemmas.{anew, fresh_files, fresh_next, fresh_names, fresh_skip, lawful_at, none_left, pair_at, pairs_ended}
use Rattle.pw_store_kept.proofs.files.fresh_files.Goals as goal

pub add_file-requires-clause-object : goal.add_file-requires-clause-object
add_file-requires-clause-object c =
    let z = pair_at _ c.loop-which.which-iterator c.next.new.self c.next.result c.args.modules.now c.args.made.now c.loop-which.yielded (c.in-Some.which, c.in-Some.one) c.loop-which.yielded_by c.in-Some.is c.next.ensures.steps (first_of (cc, search rules)) (first_of (cc, search rules)) in
    lawful_at IsObject c.args.made.now (length c.loop-which.yielded) c.in-Some.one.now c.requires z.1 z.3

pub loop-which-preserved-in-Continue-1 : goal.loop-which-preserved-in-Continue-1
loop-which-preserved-in-Continue-1 c =
    let z = pair_at _ c.loop-which.which-iterator c.next.new.self c.next.result c.args.modules.now c.args.made.now c.loop-which.yielded (c.in-Some.which, c.in-Some.one) c.loop-which.yielded_by c.in-Some.is c.next.ensures.steps (first_of (cc, search rules)) (first_of (cc, search rules)) in
    fresh_next c.args.modules.now c.args.made.now (length c.loop-which.yielded) _ c.in-Some.which.now c.in-Some.one.now _ _ _ _ _ (length_push c.loop-which.yielded (c.in-Some.which, c.in-Some.one))
    z.0 z.1 z.2 z.3 (first_of (cc, search rules)) c.loop-which.invariant
    c.in_ok-add_file.ensures.name c.in_ok-add_file.ensures.file.3 c.in_ok-add_file.ensures.file.1 c.in_ok-add_file.ensures.file.2

pub loop-which-preserved : goal.loop-which-preserved
loop-which-preserved c =
    let z = pair_at _ c.loop-which.which-iterator c.next.new.self c.next.result c.args.modules.now c.args.made.now c.loop-which.yielded (c.in-Some.which, c.in-Some.one) c.loop-which.yielded_by c.in-Some.is c.next.ensures.steps (first_of (cc, search rules)) (first_of (cc, search rules)) in
    fresh_skip c.args.modules.now c.args.made.now (length c.loop-which.yielded) _ c.in-Some.which.now c.in-Some.one.now _ _ (length_push c.loop-which.yielded (c.in-Some.which, c.in-Some.one))
    z.0 z.1 z.2 z.3 (first_of (cc, search rules)) c.loop-which.invariant

pub returns-clause-names : goal.returns-clause-names
returns-clause-names c =
    let n = pairs_ended _ c.loop-which.which-iterator c.next.new.self c.next.result c.args.modules.now c.args.made.now c.loop-which.yielded c.loop-which.yielded_by c.in-None.is c.next.ensures.steps (first_of (cc, search rules)) (first_of (cc, search rules)) in
    fresh_names _ _ _ _ c.loop-which.invariant (none_left (length c.loop-which.yielded) c.args.modules.now c.args.made.now n)

pub returns-clause-files : goal.returns-clause-files
returns-clause-files c =
    let n = pairs_ended _ c.loop-which.which-iterator c.next.new.self c.next.result c.args.modules.now c.args.made.now c.loop-which.yielded c.loop-which.yielded_by c.in-None.is c.next.ensures.steps (first_of (cc, search rules)) (first_of (cc, search rules)) in
    fresh_files _ _ _ _ c.loop-which.invariant (none_left (length c.loop-which.yielded) c.args.modules.now c.args.made.now n)
