use Rattle.std.proofs.Common.{rules, ◌≡◌, ℕ, All, sym, subst}
use Rattle.std.proofs.lemmas.List.Elements.{All-push}
use Rattle.pw_fix.specs.Row.{Holds}
use Rattle.pw_fix.specs.declared.bit_row.BitRow.{BitRow}
use Rattle.pw_fix.proofs.Places.{All-at}
use Rattle.pw_fix.proofs.bit_rows.BitRows.new.Goals as goal

pub loop-preserved : goal.loop-preserved
loop-preserved c =
    let rows = c.loop.rows.items in
    let row = c.in_ok-new.field-0 in
    let items = sym c.in_ok-push.ensures.items in
    record {
      count = search rules;
      length = subst (λ xs. All (λ (r : BitRow). r.len ≡ c.args.len) xs) items (All-push (λ (r : BitRow). r.len ≡ c.args.len) rows row c.loop.invariant.length c.in_ok-new.ensures.length);
      empty = subst (λ xs. All (λ (r : BitRow). (i : ℕ) → ¬ (Holds r i)) xs) items (All-push (λ (r : BitRow). (i : ℕ) → ¬ (Holds r i)) rows row c.loop.invariant.empty c.in_ok-new.ensures.empty);
    }

pub returns-clause-empty : goal.returns-clause-empty
returns-clause-empty c = λ n i h. All-at (λ (r : BitRow). (j : ℕ) → ¬ (Holds r j)) c.loop.rows.items n h.0 c.loop.invariant.empty h.1 i h.2
