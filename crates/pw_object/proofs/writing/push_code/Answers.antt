use Rattle.std.specs.Prelude.{Contains}
use Rattle.std.specs.List.{AllByRecursion}
use Rattle.std.proofs.lemmas.List.Elements.{recursion_from_All, All-from_recursion}
use Rattle.pw_flowfile.specs.FlowFile.{all_in_global, FitsGlobal}
use Rattle.pw_object.specs.Functions.{IsFunctionNamed}
use Rattle.pw_object.specs.Object.{FitsFunction}
use Rattle.pw_object.proofs.writing.push_code.Goals as goal

pub push_globals-requires-clause-stand : goal.push_globals-requires-clause-stand
push_globals-requires-clause-stand c =
    rw c.as_slice.ensures (All-from_recursion (λ g. AllByRecursion (Contains c.args.names.now) (all_in_global g)) c.args.object.now.globals c.requires.stand.globals)

pub push_functions-requires-clause-stand : goal.push_functions-requires-clause-stand
push_functions-requires-clause-stand c = rw c.as_slice-2.ensures (All-from_recursion (IsFunctionNamed c.args.names.now) c.args.object.now.functions c.requires.stand.functions)

pub returns-clause-globals_fit : goal.returns-clause-globals_fit
returns-clause-globals_fit c = (
  rw c.len.ensures at c.in_ok-push_count.ensures.fits,
  recursion_from_All FitsGlobal c.args.object.now.globals (rw c.as_slice.ensures at c.in_ok-push_globals.ensures.fits),
)

pub returns-clause-functions_fit : goal.returns-clause-functions_fit
returns-clause-functions_fit c = (
  rw c.len-2.ensures at c.in_ok-push_count-2.ensures.fits,
  recursion_from_All FitsFunction c.args.object.now.functions (rw c.as_slice-2.ensures at c.in_ok-push_functions.ensures.fits),
)
