use Rattle.pw_build_files.specs.Lines.{report_text}
use Rattle.pw_build_files.proofs.DrivingLemmas.{no_memory_out}
use Rattle.pw_build_files.proofs.driving.put_report.Goals as goal

pub returns-in-Err-clause-output : goal.returns-in-Err-clause-output
returns-in-Err-clause-output g c = no_memory_out (report_text c.args.report.now) (g.O.Sink.taken c.args.out.now)
