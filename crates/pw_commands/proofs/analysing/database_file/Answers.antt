use Rattle.std.proofs.Common.{refl, arith, sym, subst}
use Rattle.pw_db.specs.Database.{IsDatabase}
use Rattle.pw_commands.proofs.analysing.database_file.Goals as goal

pub write_functions-requires : goal.write_functions-requires
write_functions-requires c =
    subst IsDatabase (sym c.as_slice.ensures)
    (c.databases_are_lawful.ensures c.args.summaries.now c.args.colours c.in-Ok.db.functions (omega (arith, c.requires.few)) c.requires.lawful ((c.in-Ok.ensures.exact c.in-Ok.db.functions).1 refl))
