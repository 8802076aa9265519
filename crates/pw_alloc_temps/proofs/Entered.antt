-- Registers of webs that are entered.
use Rattle.std.proofs.Common.{◌≡◌, ℕ, zero, suc, ◌+◌, ◌≤◌, ◌<◌, Bool, true, false, cond, List, ◌∷◌, refl, sym, ap, ◌∙◌, arith, inl, inr}
use Rattle.pw_files.proofs.Standing.{Has}
use Rattle.pw_db.specs.declared.database.Web.{Web}
use Rattle.pw_db.specs.declared.database.Role.{Role}
use Rattle.pw_alloc.specs.Allocation.{is_entered, entered_from}

pub record IsEntered (webs : List (Web × Role)) (from more r : ℕ) : Type 0 where
  pub low : from ≤ r
  pub high : r < from + more
  pub is : is_entered webs r ≡ true

further : (webs : List (Web × Role)) (from more r : ℕ) → IsEntered webs (suc from) more r → IsEntered webs from (suc more) r
further webs from more r e = let low = e.low in let high = e.high in record { low = omega (arith, low); high = omega (arith, high); is = e.is }

entered_step : (webs : List (Web × Role)) (from more r : ℕ) (b : Bool) (rest : List ℕ) → is_entered webs from ≡ b → (Has r rest → IsEntered webs (suc from) more r)
    → Has r (cond b (from ∷ rest) rest) → IsEntered webs from (suc more) r
entered_step webs from more r true rest is later (inl e) = record { low = omega (arith, e); high = omega (arith, e); is = ap (is_entered webs) (sym e) ∙ is }
entered_step webs from more r true rest is later (inr h) = further webs from more r (later h)
entered_step webs from more r false rest is later h = further webs from more r (later h)

-- each of so many registers from one on that stands among the entered ones is one
pub entered_are : (webs : List (Web × Role)) (from more r : ℕ) → Has r (entered_from webs from more) → IsEntered webs from more r
unfolding entered_from
entered_are webs from zero r h = absurd h
entered_are webs from (suc more) r h = entered_step webs from more r (is_entered webs from) (entered_from webs (suc from) more) refl (entered_are webs (suc from) more r) h
