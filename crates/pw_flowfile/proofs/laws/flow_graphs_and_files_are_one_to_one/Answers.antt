use Rattle.std.proofs.Common.{lit<}
use Rattle.pw_files.proofs.ContentsLaws as contents
use Rattle.pw_flowfile.specs.FlowFile.{kind_of_file, flow_version, spelling, names_of}
use Rattle.pw_flowfile.specs.Reading.{fields_at, late_rules}
use Rattle.pw_flowfile.proofs.ContentLaws.{IsRight, payload_spells}
use Rattle.pw_flowfile.proofs.laws.flow_graphs_and_files_are_one_to_one.Goals as goal

pub returns-clause-one_module : goal.returns-clause-one_module
returns-clause-one_module c = contents.one_value kind_of_file flow_version flow_version (λ version. fields_at) late_rules (λ version. spelling) (λ version. IsRight) (λ version from to. payload_spells) (lit< tt) (lit< tt)

pub returns-clause-one_file : goal.returns-clause-one_file
returns-clause-one_file c = contents.one_file kind_of_file flow_version flow_version (λ version. spelling) (λ version. IsRight) names_of (contents.one_version flow_version (λ version. IsRight)) (λ n d is. is.names)
