use Rattle.std.proofs.Common.{[], map, inr, refl}
use Rattle.std.specs.Prelude.{None, string_bytes}
use Rattle.pw_top_answer.specs.declared.answer.Answer.TheVariants.{NoMemory, Usage}
use Rattle.pw_top_words.specs.CommandLine.{command_of}
use Rattle.pw_top.proofs.DoesLemmas.{usage_does}
use Rattle.pw_top.proofs.CommandLemmas.{Ends, kept_alone, left_alone, no_command, none_due, usage_apart}
use Rattle.pw_top.proofs.GenuineLemmas.{genuine_alone, others_alone, rest_alone}
use Rattle.pw_top.specs.Obeying.{outside_of}
use Rattle.pw_top.proofs.TellingLemmas.{command_told, memory_is_told, memory_line, plain_over, usage_for}
use Rattle.pw_top.proofs.ToldLemmas.{memory_builds, memory_does, memory_ends, no_memory_is_no_usage}
use Rattle.pw_top.proofs.top.obey_words.Goals as goal

pub obey-reply-requires : goal.obey-reply-requires
obey-reply-requires g c = c.commands_are_within.ensures (map string_bytes c.args.words.now) c.in-Ok.command c.in-Ok.ensures

pub returns-in-Ok-clause-usage_is : goal.returns-in-Ok-clause-usage_is
returns-in-Ok-clause-usage_is g c = rw c.in-Ok.ensures (usage_apart _ _ (usage_for c.in-Ok.command c.obey-reply.result.answer c.tell_builder.result.answer c.tell_builder.ensures.answer c.obey-reply.ensures.usage))

pub returns-in-Ok-clause-usage_comes : goal.returns-in-Ok-clause-usage_comes
returns-in-Ok-clause-usage_comes g c = rw c.in-Ok.ensures (no_command _ _)

pub returns-in-Ok-clause-obeys : goal.returns-in-Ok-clause-obeys
returns-in-Ok-clause-obeys g c =
    rw c.in-Ok.ensures
    (command_told c.in-Ok.command c.obey-reply.result c.tell_builder.result (outside_of (g.S.Store.told c.args.store.now) (g.I.Source.rest c.args.input.now) (g.O.Sink.taken c.args.out.now) (g.S.Store.faults c.args.store.now) (g.I.Source.faults c.args.input.now) (g.O.Sink.faults c.args.out.now))
    (g.S.Store.told c.obey-reply.new.store) (g.S.Store.told c.tell_builder.new.store) (g.I.Source.rest c.obey-reply.new.input) (g.O.Sink.taken c.obey-reply.new.out) (g.S.Store.faults c.obey-reply.new.store) (g.S.Store.faults c.tell_builder.new.store) (g.I.Source.faults c.obey-reply.new.input)
    (g.O.Sink.faults c.obey-reply.new.out) c.obey-reply.ensures.obeys c.tell_builder.ensures.told c.tell_builder.ensures.answer c.tell_builder.ensures.line c.tell_builder.ensures.same c.tell_builder.ensures.count c.tell_builder.ensures.alone)

pub returns-in-Err-Usage-clause-obeys : goal.returns-in-Err-Usage-clause-obeys
returns-in-Err-Usage-clause-obeys g c =
    let told = g.S.Store.told c.args.store.now in
    let rest = g.I.Source.rest c.args.input.now in
    let taken = g.O.Sink.taken c.args.out.now in
    let none = rw c.in-Err-Usage.field-0-is at c.in-Err-Usage.ensures in
    rw none (record {
      answer = Usage;
      told = plain_over None told Usage tt;
      does = usage_does told rest taken;
      ends = tt;
      built = none_due told;
      proper = tt;
      others = others_alone [] Usage told;
      genuine = genuine_alone told;
      reads = λ h. kept_alone told;
      store = refl;
      read = refl;
      write = refl;
      streams = λ h. left_alone Usage rest taken;
      line = none_due told;
    })

pub returns-in-Err-NoMemory-clause-usage_is : goal.returns-in-Err-NoMemory-clause-usage_is
returns-in-Err-NoMemory-clause-usage_is g c = λ e. absurd (no_memory_is_no_usage e)

pub returns-in-Err-NoMemory-clause-usage_comes : goal.returns-in-Err-NoMemory-clause-usage_comes
returns-in-Err-NoMemory-clause-usage_comes g c = λ e. inr refl

pub returns-in-Err-NoMemory-clause-obeys : goal.returns-in-Err-NoMemory-clause-obeys
returns-in-Err-NoMemory-clause-obeys g c =
    let command = command_of (map string_bytes c.args.words.now) in
    let told = g.S.Store.told c.args.store.now in
    let rest = g.I.Source.rest c.args.input.now in
    let ends : Ends = record { run = c.runs_leave_an_end.ensures.run; go = c.runs_leave_an_end.ensures.go; looks = c.looks_leave_an_end.ensures; interprets = c.runs_leave_a_rest.ensures } in
    record {
      answer = NoMemory;
      told = memory_is_told command told;
      does = memory_does ends command told rest (g.O.Sink.taken c.args.out.now);
      ends = memory_ends command rest;
      built = memory_builds command told;
      proper = tt;
      others = rest_alone command rest told;
      genuine = genuine_alone told;
      reads = λ h. kept_alone told;
      store = refl;
      read = refl;
      write = refl;
      streams = λ h. tt;
      line = memory_line command told;
    }
