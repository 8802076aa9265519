use Rattle.std.proofs.Common.{drop, map, string_bytes}
use Rattle.pw_top_words.proofs.Said.{different, unknown}
use Rattle.pw_top_words.proofs.reading.command_named.Goals as goal

pub returns-in_default : goal.returns-in_default
returns-in_default c =
    let d = c.in_default in
    unknown c.args.name.now c.args.optimise (drop 1 (map string_bytes c.args.others.now)) (drop 1 (map string_bytes c.args.words.now))
    (different _ _ d.not-go) (different _ _ d.not-build) (different _ _ d.not-session) (different _ _ d.not-cpp) (different _ _ d.not-phase1) (different _ _ d.not-analyse)
    (different _ _ d.not-phase2) (different _ _ d.not-link) (different _ _ d.not-run) (different _ _ d.not-list) (different _ _ d.not-db) (different _ _ d.not-bench) (different _ _ d.not-where₀) (different _ _ d.not-interp)
