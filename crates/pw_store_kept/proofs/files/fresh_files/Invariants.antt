use Rattle.std.proofs.Common.{drop, length, map}
use Rattle.pw_build_objects.specs.Choosing.{marks_of, objects_of}
use Rattle.pw_store_kept.specs.Files.{file_view}
use Rattle.pw_store_kept.proofs.FreshLemmas.{FreshSoFar, anew}
use Rattle.pw_store_kept.proofs.files.fresh_files.Given as goal

abbrev pub invariant-loop-which : goal.invariant-loop-which
invariant-loop-which l =
    FreshSoFar (anew l.modules l.made) (anew (drop (length l.yielded) l.modules) (drop (length l.yielded) l.made)) l.files.names.items (map file_view l.files.files.items)
