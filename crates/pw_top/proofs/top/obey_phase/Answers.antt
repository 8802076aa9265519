use Rattle.std.proofs.Common.{Some}
use Rattle.pw_top.proofs.CommandLemmas.{analyse_does, cpp_does, cpp_no_usage, cpp_reads, cpp_writes, left_alone, link_does, none_due, phase_no_usage, phase_one_does, phase_reads, phase_two_does, phase_writes, plain_line, store_no_usage, store_reads, store_writes}
use Rattle.pw_top.proofs.GenuineLemmas.{phase_two_genuine, plain_genuine}
use Rattle.pw_top.proofs.ProperLemmas.{cpp_proper, phase_proper, store_proper}
use Rattle.pw_top.proofs.top.obey_phase.Goals as goal

pub returns-in-PhaseOne-clause-usage : goal.returns-in-PhaseOne-clause-usage
returns-in-PhaseOne-clause-usage g c = phase_no_usage _ c.compile_text.ensures.answer

pub returns-in-PhaseOne-clause-obeys : goal.returns-in-PhaseOne-clause-obeys
returns-in-PhaseOne-clause-obeys g c rest taken input output =
    let told = g.S.Store.told c.args.store.now in
    rw c.in-PhaseOne.is (record {
      does = phase_one_does told _ rest taken _ _ c.compile_text.result.answer c.compile_text.ensures.obeys;
      ends = tt;
      built = none_due told;
      proper = phase_proper c.compile_text.result.answer c.compile_text.ensures.answer;
      others = c.compile_text.ensures.others;
      genuine = plain_genuine (Some c.args.command.now) rest c.compile_text.result.answer told _ (rw c.in-PhaseOne.is tt) (rw c.in-PhaseOne.is c.compile_text.ensures.others);
      reads = λ h. absurd h;
      store = c.compile_text.ensures.count;
      read = phase_reads input c.compile_text.result.answer c.compile_text.ensures.answer;
      write = phase_writes output c.compile_text.result.answer c.compile_text.ensures.answer;
      streams = λ h. left_alone c.compile_text.result.answer rest taken;
      line = c.compile_text.ensures.line;
    })

pub returns-in-Preprocess-clause-usage : goal.returns-in-Preprocess-clause-usage
returns-in-Preprocess-clause-usage g c = cpp_no_usage _ c.preprocess_module.ensures.answer

pub returns-in-Preprocess-clause-obeys : goal.returns-in-Preprocess-clause-obeys
returns-in-Preprocess-clause-obeys g c rest taken input output =
    let told = g.S.Store.told c.args.store.now in
    rw c.in-Preprocess.is (record {
      does = cpp_does told _ rest taken _ c.preprocess_module.result c.preprocess_module.ensures.obeys;
      ends = tt;
      built = none_due told;
      proper = cpp_proper c.preprocess_module.result c.preprocess_module.ensures.answer;
      others = c.preprocess_module.ensures.others;
      genuine = plain_genuine (Some c.args.command.now) rest c.preprocess_module.result told _ (rw c.in-Preprocess.is tt) (rw c.in-Preprocess.is c.preprocess_module.ensures.others);
      reads = λ h. absurd h;
      store = c.preprocess_module.ensures.count;
      read = cpp_reads input c.preprocess_module.result c.preprocess_module.ensures.answer;
      write = cpp_writes output c.preprocess_module.result c.preprocess_module.ensures.answer;
      streams = λ h. left_alone c.preprocess_module.result rest taken;
      line = plain_line told _;
    })

pub returns-in-Analyse-clause-usage : goal.returns-in-Analyse-clause-usage
returns-in-Analyse-clause-usage g c = store_no_usage _ c.analyse_modules.ensures.answer

pub returns-in-Analyse-clause-obeys : goal.returns-in-Analyse-clause-obeys
returns-in-Analyse-clause-obeys g c rest taken input output =
    let told = g.S.Store.told c.args.store.now in
    rw c.in-Analyse.is (record {
      does = analyse_does told _ rest taken _ c.analyse_modules.result c.analyse_modules.ensures.obeys;
      ends = tt;
      built = none_due told;
      proper = store_proper c.analyse_modules.result c.analyse_modules.ensures.answer;
      others = c.analyse_modules.ensures.others;
      genuine = plain_genuine (Some c.args.command.now) rest c.analyse_modules.result told _ (rw c.in-Analyse.is tt) (rw c.in-Analyse.is c.analyse_modules.ensures.others);
      reads = λ h. absurd h;
      store = c.analyse_modules.ensures.count;
      read = store_reads input c.analyse_modules.result c.analyse_modules.ensures.answer;
      write = store_writes output c.analyse_modules.result c.analyse_modules.ensures.answer;
      streams = λ h. left_alone c.analyse_modules.result rest taken;
      line = plain_line told _;
    })

pub returns-in-PhaseTwo-clause-usage : goal.returns-in-PhaseTwo-clause-usage
returns-in-PhaseTwo-clause-usage g c = store_no_usage _ c.compile_flow.ensures.answer

pub returns-in-PhaseTwo-clause-obeys : goal.returns-in-PhaseTwo-clause-obeys
returns-in-PhaseTwo-clause-obeys g c rest taken input output =
    let told = g.S.Store.told c.args.store.now in
    rw c.in-PhaseTwo.is (record {
      does = phase_two_does told _ rest taken _ c.compile_flow.result c.compile_flow.ensures.obeys;
      ends = tt;
      built = none_due told;
      proper = store_proper c.compile_flow.result c.compile_flow.ensures.answer;
      others = c.compile_flow.ensures.others;
      genuine = phase_two_genuine c.genuine_files_keep_genuine.ensures told _ _ c.compile_flow.ensures.made;
      reads = λ h. absurd h;
      store = c.compile_flow.ensures.count;
      read = store_reads input c.compile_flow.result c.compile_flow.ensures.answer;
      write = store_writes output c.compile_flow.result c.compile_flow.ensures.answer;
      streams = λ h. left_alone c.compile_flow.result rest taken;
      line = plain_line told _;
    })

pub returns-in-Link-clause-usage : goal.returns-in-Link-clause-usage
returns-in-Link-clause-usage g c = store_no_usage _ c.link_modules.ensures.answer

pub returns-in-Link-clause-obeys : goal.returns-in-Link-clause-obeys
returns-in-Link-clause-obeys g c rest taken input output =
    let told = g.S.Store.told c.args.store.now in
    rw c.in-Link.is (record {
      does = link_does told _ rest taken _ c.link_modules.result c.link_modules.ensures.obeys;
      ends = tt;
      built = none_due told;
      proper = store_proper c.link_modules.result c.link_modules.ensures.answer;
      others = c.link_modules.ensures.others;
      genuine = plain_genuine (Some c.args.command.now) rest c.link_modules.result told _ (rw c.in-Link.is tt) (rw c.in-Link.is c.link_modules.ensures.others);
      reads = λ h. absurd h;
      store = c.link_modules.ensures.count;
      read = store_reads input c.link_modules.result c.link_modules.ensures.answer;
      write = store_writes output c.link_modules.result c.link_modules.ensures.answer;
      streams = λ h. left_alone c.link_modules.result rest taken;
      line = plain_line told _;
    })
