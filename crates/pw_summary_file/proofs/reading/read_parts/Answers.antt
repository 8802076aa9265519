use Rattle.std.proofs.lemmas.Result.{err_from_is_err_and}
use Rattle.pw_summary_file.proofs.Parts.{found_in_parts, fault_in_name, fault_in_defined, fault_in_used}
use Rattle.pw_summary_file.proofs.reading.read_parts.Goals as goal

pub returns-in_err-module-clause-fault : goal.returns-in_err-module-clause-fault
returns-in_err-module-clause-fault c =
    let p = err_from_is_err_and c.from_residual.result c.from_residual.ensures.1 in
    rw (p.1, p.2) (λ late. fault_in_name c.args.version c.args.names.now late c.args.bytes.now c.in_err-module.field-0.0 c.in_err-module.ensures.found)

pub returns-in_err-defined-clause-fault : goal.returns-in_err-defined-clause-fault
returns-in_err-defined-clause-fault c =
    let p = err_from_is_err_and c.from_residual-in_err-defined.result c.from_residual-in_err-defined.ensures.1 in
    rw (p.1, p.2) (λ late. fault_in_defined c.args.version c.args.names.now late c.args.bytes.now c.in_ok-module.module.now c.in_ok-module.rest.now c.in_err-defined.field-0.0 c.in_ok-module.ensures.found c.in_err-defined.ensures)

pub returns-in_err-used-clause-fault : goal.returns-in_err-used-clause-fault
returns-in_err-used-clause-fault c =
    let p = err_from_is_err_and c.from_residual-in_err-used.result c.from_residual-in_err-used.ensures.1 in
    rw (p.1, p.2) (λ late. fault_in_used c.args.version c.args.names.now late c.args.bytes.now c.in_ok-module.module.now c.in_ok-module.rest.now c.in_ok-defined.defined c.in_ok-defined.count c.len.result c.in_ok-defined.rest.now c.in_err-used.field-0.0
    c.in_ok-module.ensures.found c.in_ok-defined.ensures c.len.ensures c.in_err-used.ensures)

pub returns-clause-found : goal.returns-clause-found
returns-clause-found c = λ late.
    found_in_parts c.args.version c.args.names.now late c.args.bytes.now c.in_ok-module.module.now c.in_ok-module.rest.now c.in_ok-defined.defined c.in_ok-defined.count c.len.result c.in_ok-defined.rest.now
    c.in_ok-used.used c.in_ok-used.rest.now c.in_ok-name.name c.summary_of.result
    c.in_ok-module.ensures.found c.in_ok-defined.ensures c.len.ensures c.in_ok-used.ensures c.in_ok-name.ensures c.summary_of.ensures
