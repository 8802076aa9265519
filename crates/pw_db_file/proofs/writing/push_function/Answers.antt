use Rattle.std.proofs.Common.{arith, List, All, subst}
use Rattle.pw_fields.specs.Fields.{FitsU32}
use Rattle.pw_db.specs.declared.database.Web.{Web}
use Rattle.pw_db.specs.declared.database.Role.{Role}
use Rattle.pw_files.proofs.Views.{all_by_seen}
use Rattle.pw_db_file.proofs.writing.push_function.Goals as goal

pub returns-clause-fits : goal.returns-clause-fits
returns-clause-fits c = record {
  count = omega (arith, c.in_ok-push_count.ensures.fits, c.len.ensures);
  numbers = all_by_seen (λ (w : Web × Role). w.0) (λ w. FitsU32 w.id) c.args.function.now.1.webs (subst (λ (ws : List (Web × Role)). All (λ w. FitsU32 w.0.id) ws) c.as_slice.ensures c.in_ok-push_webs.ensures.fits);
}
