use Rattle.pw_cpp_sources.proofs.Joining.{AreBehind}
use Rattle.pw_cpp_sources.proofs.source.source_of.Given as goal

-- the files before this one stand in the source
abbrev pub invariant-loop-text : goal.invariant-loop-text
invariant-loop-text l = AreBehind l.files l.text-index l.bytes.items l.spans.items
