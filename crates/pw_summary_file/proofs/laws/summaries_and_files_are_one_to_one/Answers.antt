use Rattle.pw_summary_file.proofs.SummaryLaws as laws
use Rattle.pw_summary_file.proofs.laws.summaries_and_files_are_one_to_one.Goals as goal

pub returns-clause-one_summary : goal.returns-clause-one_summary
returns-clause-one_summary c = laws.one_summary

pub returns-clause-one_file : goal.returns-clause-one_file
returns-clause-one_file c = laws.one_file
