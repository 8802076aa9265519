use Rattle.pw_object.proofs.writing.write_payload.Goals as goal

pub returns-clause-fits : goal.returns-clause-fits
returns-clause-fits c = record {
  flow = c.in_ok-push_own.ensures.flow_fits;
  directives = c.in_ok-push_own.ensures.directives_fit;
  declared = c.in_ok-push_own.ensures.declared_fit;
  used = c.in_ok-push_own.ensures.used_fit;
  globals = c.in_ok-push_code.ensures.globals_fit;
  functions = c.in_ok-push_code.ensures.functions_fit;
}
