use Rattle.std.proofs.Common.{Bool, List, drop, map, string_bytes, subst}
use Rattle.pw_top_switch.specs.Switch.{Text, unswitched}
use Rattle.pw_top_words.specs.CommandLine.{Reads, command_by_name}
use Rattle.pw_top_words.proofs.reading.command_behind.Goals as goal

pub returns : goal.returns
returns c =
    let words = drop 1 (map string_bytes c.args.words.now) in
    let name = c.args.name.now in
    subst (λ (o : Bool). Reads (command_by_name name o (unswitched words) words) c.command_named.result) c.in_ok-line.ensures.optimise
    (subst (λ (others : List Text). Reads (command_by_name name c.in_ok-line.line.optimise others words) c.command_named.result) c.in_ok-line.ensures.words (rw c.deref.ensures.value at c.command_named.ensures))
