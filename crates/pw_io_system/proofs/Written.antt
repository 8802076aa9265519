-- What a piece that is written by turns has come to.
use Rattle.std.proofs.Common.{ℕ, ◌+◌, ◌-◌, List, sym, subst, length, take, drop}
use Rattle.std.specs.Prelude.{Option}
use Rattle.std.specs.Io.KnownBytes.{Appends}
use Rattle.std.proofs.KnownBytes.{Appends-trans}
use Rattle.std.proofs.lemmas.List.{take_rest}
use lib.Seq.{take-add}

-- some bytes more of the piece are appended
pub further : (a b c : Option (List ℕ)) (piece : List ℕ) (done n : ℕ) → Appends a b (take done piece) → Appends b c (take n (take (length piece - done) (drop done piece)))
    → Appends a c (take (done + n) piece)
further a b c piece done n p q =
    let behind : Appends b c (take n (drop done piece)) = subst (λ (rest : List ℕ). Appends b c (take n rest)) (take_rest piece done) q in
    subst (Appends a c) (sym (take-add done n piece)) (Appends-trans a b c _ _ p behind)
