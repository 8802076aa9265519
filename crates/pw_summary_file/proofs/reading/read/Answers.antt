use Rattle.std.proofs.Common.{arith}
use Rattle.pw_summary_file.proofs.SummaryLaws.{found_by, only_by, lawful_by, versioned_by}
use Rattle.pw_summary_file.proofs.reading.read.Goals as goal

pub returns-clause-found : goal.returns-clause-found
returns-clause-found c = found_by c.args.bytes.now c.read_value.result (λ i. omega (arith, c.type_inv.bytes i)) c.read_value.ensures

pub returns-clause-only : goal.returns-clause-only
returns-clause-only c = only_by c.args.bytes.now c.read_value.result c.read_value.ensures

pub returns-clause-lawful : goal.returns-clause-lawful
returns-clause-lawful c = lawful_by c.args.bytes.now c.read_value.result (found_by c.args.bytes.now c.read_value.result (λ i. omega (arith, c.type_inv.bytes i)) c.read_value.ensures)

pub returns-clause-versioned : goal.returns-clause-versioned
returns-clause-versioned c = versioned_by c.args.bytes.now c.read_value.result (found_by c.args.bytes.now c.read_value.result (λ i. omega (arith, c.type_inv.bytes i)) c.read_value.ensures)
