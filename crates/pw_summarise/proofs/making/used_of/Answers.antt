use Rattle.std.proofs.Common.{refl}
use Rattle.pw_summarise.proofs.making.used_of.Goals as goal

pub taken-requires-clause-functions : goal.taken-requires-clause-functions
taken-requires-clause-functions c = rw c.as_slice-functions.ensures c.requires.functions

pub taken-requires-clause-declared : goal.taken-requires-clause-declared
taken-requires-clause-declared c = rw c.as_slice-declared.ensures c.requires.declared

pub escaped-requires-clause-functions : goal.escaped-requires-clause-functions
escaped-requires-clause-functions c = rw c.as_slice-functions.ensures c.requires.functions

pub escaped-requires-clause-declared : goal.escaped-requires-clause-declared
escaped-requires-clause-declared c = rw c.as_slice-declared.ensures c.requires.declared

pub returns : goal.returns
returns c = record {
  used = refl;
  addresses = (
    c.in_ok-addressed.addressed,
    c.in_ok-addressed.ensures,
    rw (c.as_slice-functions.ensures, c.as_slice-declared.ensures, c.as_slice.ensures) at c.in_ok-taken.ensures,
    rw (c.as_slice-functions.ensures, c.as_slice-declared.ensures, c.as_slice-2.ensures) at c.in_ok-escaped.ensures,
  );
  uses = c.in_ok-uses.ensures;
}
