use Rattle.std.proofs.Common.{lit<, arith}
use Rattle.pw_flowfile.specs.FlowFile.{kind_of_file, flow_version, spelling}
use Rattle.pw_flowfile.specs.Reading.{fields_at, late_rules}
use Rattle.pw_files.proofs.ContentsLaws.{found_by, only_by}
use Rattle.pw_flowfile.proofs.ContentLaws.{IsRight, payload_spells}
use Rattle.pw_flowfile.proofs.reading.read.Goals as goal

pub returns-clause-found : goal.returns-clause-found
returns-clause-found c = found_by kind_of_file flow_version flow_version (λ version. fields_at) late_rules (λ version. spelling) (λ version. IsRight) (λ version from to. payload_spells) c.args.bytes.now c.read_value.result (λ i. omega (arith, c.type_inv.bytes i)) c.read_value.ensures

pub returns-clause-only : goal.returns-clause-only
returns-clause-only c = only_by kind_of_file flow_version flow_version (λ version. fields_at) late_rules (λ version. spelling) (λ version. IsRight) (λ version from to. payload_spells) (lit< tt) (lit< tt) c.args.bytes.now c.read_value.result c.read_value.ensures
