use Rattle.std.proofs.Common.{◌≡◌, ◌<◌, ◌≤◌, length, arith, inl, inr}
use Rattle.std.proofs.lemmas.Bool.{cases_lt}
use Rattle.pw_fix.specs.Words.{held}
use Rattle.pw_fix.proofs.Choices.{OnTrue-then, OnFalse-then}
use Rattle.pw_fix.proofs.Held.{length_held_le, length_held_lt}
use Rattle.pw_fix.proofs.rows.RowsLattice.join.Goals as goal

pub returns-clause-rank_grows : goal.returns-clause-rank_grows
returns-clause-rank_grows c =
    let old = c.args.into.now in
    let new = c.union_with.new.self in
    let from = c.args.from.now in
    OnTrue-then c.union_with.result c.union_with.ensures.added (λ came.
    let below : came.0 < old.len = elim (cases_lt came.0 old.len) [
      | inl fine ↦ fine
      | inr past ↦ absurd (from.unused came.0 (let same : from.len ≡ old.len = omega arith in omega arith) came.1)
    ] in
    rw c.union_with.ensures.length (length_held_lt old.words.items new.words.items 0 old.len came.0 (λ j h. (c.union_with.ensures.holds j).1 (inl h)) (omega arith) (omega arith) ((c.union_with.ensures.holds came.0).1 (inr came.1)) came.2))

pub returns-clause-rank_stays : goal.returns-clause-rank_stays
returns-clause-rank_stays c =
    let old = c.args.into.now in
    let new = c.union_with.new.self in
    OnFalse-then c.union_with.result c.union_with.ensures.unchanged (λ none.
    let less : length (held new.words.items 0 old.len) ≤ length (held old.words.items 0 old.len) =
    length_held_le new.words.items old.words.items 0 old.len (λ j h. elim ((c.union_with.ensures.holds j).0 h) [ inl had ↦ had | inr came ↦ none j came ]) in
    let more : length (held old.words.items 0 old.len) ≤ length (held new.words.items 0 old.len) =
    length_held_le old.words.items new.words.items 0 old.len (λ j h. (c.union_with.ensures.holds j).1 (inl h)) in
    rw c.union_with.ensures.length (omega arith))
