use Rattle.pw_law_interp.proofs.Meant.{Laws, told_meant}
use Rattle.pw_law_interp.proofs.meanings_want_no_memory.Goals as goal

pub returns : goal.returns
returns c =
    let laws : Laws = record {
      typed = c.typed_texts_are_exact.ensures.exact;
      whole = c.full_builds_are_whole.ensures;
      plain = c.modules_of_files_have_plain_names.ensures;
      resolved = c.accepted_programs_are_resolved.ensures;
      never = c.resolved_programs_are_never_wrong.ensures;
    } in
    record {
      full = λ files opts input effect are bytes comes. told_meant laws files opts input are bytes effect comes;
      kept = λ files opts input effect are bytes keeps comes.
          told_meant laws files opts input are bytes effect (c.genuine_objects_run_as_the_full_build.ensures files opts input effect keeps comes);
    }
