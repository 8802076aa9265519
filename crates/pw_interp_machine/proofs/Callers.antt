-- Callers, of which one more comes first.
use Rattle.std.proofs.Common.{◌≡◌, refl, ap, Option, List, [], ◌∷◌, ◌++◌}
use Rattle.pw_value.specs.declared.value.Value.{Value}
use Rattle.pw_cmean.specs.Worlds.{World}
use Rattle.pw_cmean.specs.Acts.{Act}
use Rattle.pw_interp_pushes.specs.declared.call.Call.{Call}
use Rattle.pw_interp_machine.specs.Waiting.{Active, goes_on, callers_act}
use Rattle.pw_interp_machine.specs.Standing.{IsCall, AreCalls}

module _ (world : World) where
  pub callers_last : (cs : List Call) (actives : List Active) (c : Call) (a : Active) (next : Option Value → Act (Unit {0})) → AreCalls world cs actives
      → callers_act (cs ++ c ∷ []) (actives ++ a ∷ []) next ≡ goes_on c a (callers_act cs actives next)
  callers_last [] [] c a next are = refl
  callers_last [] (b ∷ others) c a next are = absurd are
  callers_last (d ∷ more) [] c a next are = absurd are
  callers_last (d ∷ more) (b ∷ others) c a next are = callers_last more others c a (goes_on d b next) are.1

  pub calls_last : (cs : List Call) (actives : List Active) (c : Call) (a : Active) → AreCalls world cs actives → IsCall world c a → AreCalls world (cs ++ c ∷ []) (actives ++ a ∷ [])
  calls_last [] [] c a are is = (is, tt)
  calls_last [] (b ∷ others) c a are is = absurd are
  calls_last (d ∷ more) [] c a are is = absurd are
  calls_last (d ∷ more) (b ∷ others) c a are is = (are.0, calls_last more others c a are.1 is)

  -- the last of callers, and those before it
  pub record Last (cs : List Call) (c : Call) (actives : List Active) : Type 0 where
    pub others : List Active
    pub last : Active
    pub all : actives ≡ others ++ last ∷ []
    pub are : AreCalls world cs others
    pub is : IsCall world c last

  pub last_of : (cs : List Call) (c : Call) (actives : List Active) → AreCalls world (cs ++ c ∷ []) actives → Last cs c actives
  last_of [] c [] are = absurd are
  last_of [] c (a ∷ []) are = record { others = []; last = a; all = refl; are = tt; is = are.0 }
  last_of [] c (a ∷ b ∷ more) are = absurd are.1
  last_of (d ∷ more) c [] are = absurd are
  last_of (d ∷ more) c (a ∷ others) are =
      let l = last_of more c others are.1 in
      record { others = a ∷ l.others; last = l.last; all = ap (λ o. a ∷ o) l.all; are = (are.0, l.are); is = l.is }
