use Rattle.std.proofs.Common.{Result, Ok, Err, arith, sym, subst}
use Rattle.pw_value.specs.declared.fault.FileError.{FileError}
use Rattle.pw_fields.specs.FieldFaults.{GivesFile}
use Rattle.pw_db.specs.declared.database.Database.{Database}
use Rattle.pw_db_file.proofs.DatabaseLaws.{alone, payload_read, payload_exact, payload_only}
use Rattle.pw_db_file.proofs.reading.read_payload.Goals as goal

pub returns-in-Ok-clause-found : goal.returns-in-Ok-clause-found
returns-in-Ok-clause-found c =
    payload_read c.args.bytes.now c.read_payload_alone.result c.in-Ok.db c.functions_of.result (λ i. omega (arith, c.type_inv.bytes i)) c.read_payload_alone.ensures c.in-Ok.is c.functions_of.ensures

pub returns-in-Ok-clause-exact : goal.returns-in-Ok-clause-exact
returns-in-Ok-clause-exact c =
    payload_exact c.args.bytes.now c.read_payload_alone.result c.in-Ok.db c.functions_of.result (λ i. omega (arith, c.type_inv.bytes i)) c.read_payload_alone.ensures c.in-Ok.is c.functions_of.ensures

pub returns-in-Ok-clause-only : goal.returns-in-Ok-clause-only
returns-in-Ok-clause-only c = λ fs is.
    payload_only c.args.bytes.now (Ok c.functions_of.result) (payload_exact c.args.bytes.now c.read_payload_alone.result c.in-Ok.db c.functions_of.result (λ i. omega (arith, c.type_inv.bytes i)) c.read_payload_alone.ensures c.in-Ok.is c.functions_of.ensures) fs is

pub returns-in-Err-clause-only : goal.returns-in-Err-clause-only
returns-in-Err-clause-only c = λ fs is.
    payload_only c.args.bytes.now (Err c.in-Err.e) (subst (λ (r : Result Database FileError). GivesFile (λ db. db) r (alone c.args.bytes.now)) c.in-Err.is c.read_payload_alone.ensures) fs is
