use Rattle.std.proofs.Common.{◌≡◌, ℕ, List, take}
use Rattle.pw_link.specs.Linking.{with_fixes}
use Rattle.pw_link.specs.Views.{Tells, plain_sites}
use Rattle.pw_link.proofs.words.relocate_all.Given as goal

abbrev pub invariant-loop-fix : goal.invariant-loop-fix
invariant-loop-fix l = (named : List (List ℕ × ℕ)) → Tells l.sites.names.entries named → l.words ≡ with_fixes (plain_sites named l.sites) l.at (take l.fix-index l.fixes) l.fn.words
