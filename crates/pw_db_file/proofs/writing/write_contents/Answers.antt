use Rattle.std.proofs.Common.{subst, sym}
use Rattle.std.proofs.lemmas.List.{length-map}
use Rattle.pw_fields.specs.Fields.{FitsU32}
use Rattle.pw_db_file.specs.Spelling.{FitsFunction}
use Rattle.pw_files.proofs.Views.{all_by_seen}
use Rattle.pw_db_file.proofs.writing.write_contents.Goals as goal

pub returns-clause-fits : goal.returns-clause-fits
returns-clause-fits c = record {
  count = subst FitsU32 (sym (length-map c.args.functions.now (λ f. f.now))) c.in_ok-push_count.ensures.fits;
  each = all_by_seen (λ f. f.now) FitsFunction c.args.functions.now c.in_ok-push_functions.ensures.fits;
}
