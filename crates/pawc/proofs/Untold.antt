-- An answer that no line tells is given only where the flush was done.
use Rattle.std.specs.Prelude.{◌≡◌, ◌⊎◌, Bool, if◌then◌else◌, false, true, Result, Ok, Err, OnOk}
use Rattle.std.proofs.Common.{ap, inl, inr, refl, subst}
use Rattle.pw_io.specs.declared.Failed.{Failed}
use Rattle.pw_top_answer.specs.Answers.{is_untold}
use Rattle.pw_top_answer.specs.declared.answer.Answer.{Answer}
use Rattle.pw_top_answer.specs.declared.answer.Answer.TheVariants.{NoMemory, Usage, WriteFault}
use Rattle.pawc.specs.Flushed.{IsUntold, after_flush}

apart : false ≡ true → ⊥
apart h = cc

-- behind a flush that failed, a line tells the answer
told : (answer : Answer) (is : Bool) → is_untold answer ≡ is → is_untold (if is then WriteFault else answer) ≡ true → ⊥
told answer true e h = apart h
told answer false e h = apart (subst (λ (b : Bool). b ≡ true) e h)

pub untold_is_flushed : (answer : Answer) (flushed : Result (Unit {0}) Failed) (P : Type 0) → OnOk flushed P → IsUntold (after_flush answer flushed) → P
untold_is_flushed answer (Ok done) P whole untold = whole
untold_is_flushed answer (Err fault) P whole untold = absurd (told answer (is_untold answer) refl untold)

unchanged : (answer : Answer) (is : Bool) → (if is then WriteFault else answer) ≡ Usage → answer ≡ Usage
unchanged answer true e = absurd cc
unchanged answer false e = e

-- the flush makes no answer that the words say no command, and changes neither that one nor that there is no memory
pub usage_was : (answer : Answer) (flushed : Result (Unit {0}) Failed) → after_flush answer flushed ≡ Usage → answer ≡ Usage
usage_was answer (Ok done) e = e
usage_was answer (Err fault) e = unchanged answer (is_untold answer) e

pub usage_stays : (answer : Answer) (flushed : Result (Unit {0}) Failed) → (answer ≡ Usage) ⊎ (answer ≡ NoMemory) → (after_flush answer flushed ≡ Usage) ⊎ (after_flush answer flushed ≡ NoMemory)
usage_stays answer (Ok done) e = e
usage_stays answer (Err fault) (inl e) = inl (ap (λ a. after_flush a (Err fault)) e)
usage_stays answer (Err fault) (inr e) = inr (ap (λ a. after_flush a (Err fault)) e)
