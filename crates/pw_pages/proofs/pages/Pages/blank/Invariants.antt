-- The pages so far are all zeros.
use Rattle.std.proofs.Common.{◌≡◌, replicate}
use Rattle.pw_pages.proofs.pages.Pages.blank.Given as goal

abbrev pub invariant-loop : goal.invariant-loop
invariant-loop l = l.blank.items ≡ replicate l.counter (replicate 1024 0)
