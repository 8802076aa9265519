use Rattle.std.proofs.Common.{◌≡◌, [], ◌∷◌, false, eqb, codes, map, slice_index, arith, sym, ◌∙◌}
use Rattle.std.proofs.lemmas.Bool.Decides.{nat_tests}
use Rattle.pw_token.proofs.WordLaws.{longest_append, longest_hash}
use Rattle.pw_token.specs.Scanning.{longest_in}
use Rattle.pw_token.specs.Words.{all_marks, mark_text}
use Rattle.pw_token.proofs.marks.mark_len.Goals as goal

pub returns-else-byte_at-eq35-clause-value : goal.returns-else-byte_at-eq35-clause-value
returns-else-byte_at-eq35-clause-value c =
    let text = c.args.text.now in
    let other : eqb (slice_index text 0) 35 ≡ false = grind (arith, nat_tests) in
    c.longest_mark-longest.ensures.value
    ∙ sym (longest_append 0 (map mark_text all_marks) (codes "#" ∷ codes "##" ∷ []) text ∙ longest_hash (longest_in 0 (map mark_text all_marks) text) text other)
