use Rattle.std.proofs.Common.{◌≡◌, ◌+◌, ◌*◌, ℕ, List, length, take, get_or, ap, ◌∙◌, arith}
use Rattle.std.proofs.lemmas.List.{length-take-le}
use Rattle.pw_pages.specs.Bytes.{with_word, bytes_of}
use Rattle.pw_pages.proofs.InWords.{length-bytes_of}
use Rattle.pw_pages.proofs.Overwriting.{overwritten-word, length-overwritten}
use Rattle.pw_pages.proofs.pages.Pages.put_words.Goals as goal

pub overflow_add-at : goal.overflow_add-at
overflow_add-at c = omega (arith, c.requires.reached, c.loop-i-test.true)

pub put_word-requires-clause-within : goal.put_word-requires-clause-within
put_word-requires-clause-within c =
    let i = c.loop-i.i in
    let words = c.args.words.now in
    let short : length (bytes_of (take i words)) ≡ 4 * i = omega (arith, length-bytes_of (take i words), length-take-le i words (omega (arith, c.loop-i-test.true))) in
    omega (arith, ap length c.loop-i.invariant, length-overwritten c.args.self.now c.args.at (bytes_of (take i words)) (omega (arith, short, c.requires.within, c.loop-i-test.true)), c.requires.within, c.loop-i-test.true)

pub loop-i-preserved : goal.loop-i-preserved
loop-i-preserved c =
    let i = c.loop-i.i in
    let words = c.args.words.now in
    c.put_word.ensures
    ∙ ap (λ (m : List ℕ). with_word m (c.args.at + 4 * i) (get_or words i 0)) c.loop-i.invariant
    ∙ overwritten-word c.args.self.now c.args.at words i c.requires.within c.loop-i-test.true
