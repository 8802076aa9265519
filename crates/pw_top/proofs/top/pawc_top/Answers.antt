use Rattle.std.proofs.Common.{◌≡◌, ℕ, List, map}
use Rattle.std.specs.Prelude.{None, string_bytes}
use Rattle.pw_top_answer.specs.Outcomes.{Tells}
use Rattle.pw_top_words.specs.CommandLine.{command_of}
use Rattle.pw_top.specs.Commands.{IsNoSession}
use Rattle.pw_top.proofs.CompleteLemmas.{is_complete}
use Rattle.pw_top.proofs.TellingLemmas.{answers_as, builds_as, line_as}
use Rattle.pw_top.proofs.ToldLemmas.{ends_told, input_told, output_told, rest_told, store_told, streams_told, told_proper, usage_comes, usage_is}
use Rattle.pw_top.proofs.WholeLemmas.{are_within, builds_whole}
use Rattle.pw_top.proofs.top.pawc_top.Goals as goal

pub returns-clause-usage_is : goal.returns-clause-usage_is
returns-clause-usage_is g c =
    usage_is c.obey_words-reply.result.answer c.tell.result (command_of (map string_bytes c.args.words.now) ≡ None) c.tell.ensures.answer c.obey_words-reply.ensures.usage_is

pub returns-clause-usage_comes : goal.returns-clause-usage_comes
returns-clause-usage_comes g c =
    usage_comes c.obey_words-reply.result.answer c.tell.result (command_of (map string_bytes c.args.words.now) ≡ None) c.tell.ensures.answer c.obey_words-reply.ensures.usage_comes

pub returns-clause-does : goal.returns-clause-does
returns-clause-does g c =
    let command = command_of (map string_bytes c.args.words.now) in
    let obeys = c.obey_words-reply.ensures.obeys in
    answers_as command (g.S.Store.told c.args.store.now) _ (g.I.Source.rest c.args.input.now) _ (g.O.Sink.taken c.args.out.now) _ obeys.answer c.obey_words-reply.result.answer c.tell.result c.tell.ensures.answer obeys.told obeys.does
    (builds_whole c.builds_are_full.ensures c.genuine_objects_run_as_the_full_build.ensures c.sessions_build_in_full.ensures c.bench_builds_in_full.ensures command (g.S.Store.told c.args.store.now) _ (g.I.Source.rest c.args.input.now) _ (g.O.Sink.taken c.args.out.now) _ obeys.answer
    (are_within command (c.commands_are_within.ensures (map string_bytes c.args.words.now))) obeys.does)

pub returns-clause-ends_script : goal.returns-clause-ends_script
returns-clause-ends_script g c = ends_told (command_of (map string_bytes c.args.words.now)) (g.I.Source.rest c.args.input.now) c.obey_words-reply.result.answer c.tell.result c.tell.ensures.answer c.obey_words-reply.ensures.obeys.ends

pub returns-clause-builds : goal.returns-clause-builds
returns-clause-builds g c =
    builds_as (command_of (map string_bytes c.args.words.now)) (g.S.Store.told c.args.store.now) _ c.obey_words-reply.ensures.obeys.answer c.obey_words-reply.result.answer c.tell.result c.tell.ensures.answer c.obey_words-reply.ensures.obeys.told c.obey_words-reply.ensures.obeys.built

pub returns-clause-no_want_refused : goal.returns-clause-no_want_refused
returns-clause-no_want_refused g c =
    told_proper c.obey_words-reply.result.answer c.tell.result c.tell.ensures.answer c.obey_words-reply.ensures.obeys.proper

pub returns-clause-streams_left : goal.returns-clause-streams_left
returns-clause-streams_left g c =
    streams_told (IsNoSession (command_of (map string_bytes c.args.words.now))) c.obey_words-reply.result.answer c.tell.result (g.I.Source.rest c.args.input.now) _ (g.O.Sink.taken c.args.out.now) _ c.tell.ensures.answer c.obey_words-reply.ensures.obeys.streams

pub returns-clause-store_faults : goal.returns-clause-store_faults
returns-clause-store_faults g c = store_told _ _ c.obey_words-reply.result.answer c.tell.result c.tell.ensures.answer c.obey_words-reply.ensures.obeys.store

pub returns-clause-input_faults : goal.returns-clause-input_faults
returns-clause-input_faults g c = input_told _ _ c.obey_words-reply.result.answer c.tell.result c.tell.ensures.answer c.obey_words-reply.ensures.obeys.read

pub returns-clause-output_faults : goal.returns-clause-output_faults
returns-clause-output_faults g c = output_told _ _ c.obey_words-reply.result.answer c.tell.result c.tell.ensures.answer c.obey_words-reply.ensures.obeys.write

pub returns-clause-line : goal.returns-clause-line
returns-clause-line g c =
    line_as (command_of (map string_bytes c.args.words.now)) (g.S.Store.told c.args.store.now) c.obey_words-reply.result.answer c.tell.result c.obey_words-reply.result.line
    (λ (text : List ℕ). Tells text (g.E.Sink.taken c.args.err.now) (g.E.Sink.taken c.tell.new.err) (g.E.Sink.faults c.args.err.now) (g.E.Sink.faults c.tell.new.err)) c.tell.ensures.answer c.obey_words-reply.ensures.obeys.line c.tell.ensures.line

pub returns-clause-some_line : goal.returns-clause-some_line
returns-clause-some_line g c = (c.obey_words-reply.result.line, c.tell.ensures.line)

pub returns-clause-keeps_others : goal.returns-clause-keeps_others
returns-clause-keeps_others g c =
    rest_told (command_of (map string_bytes c.args.words.now)) (g.I.Source.rest c.args.input.now) (g.S.Store.told c.args.store.now) _ c.obey_words-reply.result.answer c.tell.result c.tell.ensures.answer c.obey_words-reply.ensures.obeys.others

pub returns-clause-keeps_genuine : goal.returns-clause-keeps_genuine
returns-clause-keeps_genuine g c = c.obey_words-reply.ensures.obeys.genuine

pub returns-clause-store_after : goal.returns-clause-store_after
returns-clause-store_after g c = c.obey_words-reply.ensures.obeys.reads

pub returns-clause-complete : goal.returns-clause-complete
returns-clause-complete g c =
    is_complete (record { exact = c.a_store_is_built_exactly_where_it_can_be.ensures; genuine = c.genuine_objects_are_seen.ensures; way = c.files_are_seen_in_one_way.ensures }) (command_of (map string_bytes c.args.words.now)) (g.S.Store.told c.args.store.now) _ c.tell.result
    (are_within (command_of (map string_bytes c.args.words.now)) (c.commands_are_within.ensures (map string_bytes c.args.words.now)))
    (returns-clause-builds g c)
