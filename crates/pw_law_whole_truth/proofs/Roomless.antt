-- Where no function takes room on the stack, a program's graph of calls is the same.
use Rattle.std.proofs.Common.{◌≡◌, refl}
use Rattle.pw_run_languages.specs.Programs.{Program}
use Rattle.pw_run_languages.specs.LawfulPrograms.{graph_of}
use Rattle.pw_law_layers.specs.Whole.{roomless}

pub roomless_graph : (q : Program) → graph_of (roomless q) ≡ graph_of q
unfolding graph_of
roomless_graph q = refl
