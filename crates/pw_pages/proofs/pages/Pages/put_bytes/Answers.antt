use Rattle.std.proofs.Common.{◌≡◌, ◌+◌, ◌%◌, ◌^◌, ℕ, List, length, take, get_or, slice_set, ap, ◌∙◌, arith}
use Rattle.std.proofs.lemmas.List.{length-take-le}
use Rattle.pw_pages.proofs.Overwriting.{overwritten-byte, length-overwritten}
use Rattle.pw_pages.proofs.pages.Pages.put_bytes.Goals as goal

pub overflow_add-at : goal.overflow_add-at
overflow_add-at c = omega (arith, c.requires.reached, c.loop-i-test.true)

pub put_byte-requires : goal.put_byte-requires
put_byte-requires c =
    let i = c.loop-i.i in
    let bytes = c.args.bytes.now in
    let short : length (take i bytes) ≡ i = length-take-le i bytes (omega (arith, c.loop-i-test.true)) in
    omega (arith, ap length c.loop-i.invariant, length-overwritten c.args.self.now c.args.at (take i bytes) (omega (arith, short, c.requires.within, c.loop-i-test.true)), c.requires.within, c.loop-i-test.true)

pub loop-i-preserved : goal.loop-i-preserved
loop-i-preserved c =
    let i = c.loop-i.i in
    let bytes = c.args.bytes.now in
    let byte : c.from.result % 2 ^ 8 ≡ get_or bytes i 0 = omega (arith, c.from.ensures, c.type_inv.bytes i) in
    c.put_byte.ensures
    ∙ ap (λ (n : ℕ). slice_set c.loop-i.self (c.args.at + i) n) byte
    ∙ ap (λ (m : List ℕ). slice_set m (c.args.at + i) (get_or bytes i 0)) c.loop-i.invariant
    ∙ overwritten-byte c.args.self.now c.args.at bytes i c.requires.within c.loop-i-test.true
