use Rattle.std.proofs.Common.{◌≡◌, ◌++◌, ◌+◌, ◌*◌, drop}
use Rattle.pw_list.specs.Listing.{word_lines}
use Rattle.pw_list.proofs.lines.push_words.Given as goal

abbrev pub invariant-loop-word : goal.invariant-loop-word
invariant-loop-word l = record {
  at : l.address ≡ l.start + 4 * l.word-index;
  written : l.out.items ++ word_lines l.address (drop l.word-index l.words) ≡ l.fn.out.items ++ word_lines l.start l.words;
}
