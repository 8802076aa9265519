use Rattle.std.proofs.Common.{[]}
use Rattle.pw_top.proofs.CommandLemmas.{db_does, list_does, none_due, plain_line, run_does, run_no_usage, show_no_usage, show_reads}
use Rattle.pw_top.proofs.GenuineLemmas.{kept_others, stays_genuine}
use Rattle.pw_top.proofs.ProperLemmas.{run_proper, show_proper}
use Rattle.pw_top.proofs.top.obey_reader.Goals as goal

pub returns-in-Run-clause-usage : goal.returns-in-Run-clause-usage
returns-in-Run-clause-usage g c = run_no_usage _ c.run_image.ensures.run

pub returns-in-Run-clause-obeys : goal.returns-in-Run-clause-obeys
returns-in-Run-clause-obeys g c =
    let told = g.S.Store.told c.args.store.now in
    let rest = g.I.Source.rest c.args.input.now in
    let taken = g.O.Sink.taken c.args.out.now in
    rw c.in-Run.is (record {
      does = run_does told _ rest _ taken _ _ _ c.run_image.ensures.same c.run_image.ensures.answer c.run_image.ensures.output c.run_image.ensures.rest;
      ends = tt;
      built = none_due told;
      proper = run_proper _ c.run_image.ensures.run;
      others = kept_others c.run_image.result told _ c.run_image.ensures.same;
      genuine = stays_genuine [] c.run_image.result told _ (λ name. tt) (kept_others c.run_image.result told _ c.run_image.ensures.same);
      reads = λ h. c.run_image.ensures.same;
      store = c.run_image.ensures.count;
      read = c.run_image.ensures.read;
      write = c.run_image.ensures.write;
      streams = λ h. c.run_image.ensures.streams;
      line = plain_line told _;
    })

pub returns-in-List-clause-usage : goal.returns-in-List-clause-usage
returns-in-List-clause-usage g c = show_no_usage _ c.list_image.ensures.answer

pub returns-in-List-clause-obeys : goal.returns-in-List-clause-obeys
returns-in-List-clause-obeys g c =
    let told = g.S.Store.told c.args.store.now in
    let rest = g.I.Source.rest c.args.input.now in
    let taken = g.O.Sink.taken c.args.out.now in
    rw c.in-List.is (record {
      does = list_does told _ rest taken _ _ c.list_image.ensures.same c.list_image.ensures.shows;
      ends = tt;
      built = none_due told;
      proper = show_proper _ c.list_image.ensures.answer;
      others = kept_others c.list_image.result told _ c.list_image.ensures.same;
      genuine = stays_genuine [] c.list_image.result told _ (λ name. tt) (kept_others c.list_image.result told _ c.list_image.ensures.same);
      reads = λ h. c.list_image.ensures.same;
      store = c.list_image.ensures.count;
      read = show_reads _ _ c.list_image.ensures.answer;
      write = c.list_image.ensures.write;
      streams = λ h. c.list_image.ensures.streams rest;
      line = plain_line told _;
    })

pub returns-in-Db-clause-usage : goal.returns-in-Db-clause-usage
returns-in-Db-clause-usage g c = show_no_usage _ c.show_database.ensures.answer

pub returns-in-Db-clause-obeys : goal.returns-in-Db-clause-obeys
returns-in-Db-clause-obeys g c =
    let told = g.S.Store.told c.args.store.now in
    let rest = g.I.Source.rest c.args.input.now in
    let taken = g.O.Sink.taken c.args.out.now in
    rw c.in-Db.is (record {
      does = db_does told _ rest taken _ _ c.show_database.ensures.same c.show_database.ensures.shows;
      ends = tt;
      built = none_due told;
      proper = show_proper _ c.show_database.ensures.answer;
      others = kept_others c.show_database.result told _ c.show_database.ensures.same;
      genuine = stays_genuine [] c.show_database.result told _ (λ name. tt) (kept_others c.show_database.result told _ c.show_database.ensures.same);
      reads = λ h. c.show_database.ensures.same;
      store = c.show_database.ensures.count;
      read = show_reads _ _ c.show_database.ensures.answer;
      write = c.show_database.ensures.write;
      streams = λ h. c.show_database.ensures.streams rest;
      line = plain_line told _;
    })
