-- The tests one after the other.
use Rattle.std.proofs.Common.{◌≡◌, suc, ◌<◌, List, subst, arith, inl, inr}
use Rattle.std.specs.Prelude.{◌⊎◌, Result, Ok, Err, OnOk, IfErr}
use Rattle.std.proofs.lemmas.Bool.{cases_lt}
use Rattle.pw_value.specs.declared.fault.LinkFault.{LinkFault}
use Rattle.pw_value.specs.declared.fault.LinkFault.TheVariants.{NoMemory}
use Rattle.pw_link_rules.specs.declared.interface.Interface.{Interface}
use Rattle.pw_link_rules.specs.Linking.{Test, few_functions, few_globals, all_defined, defined_once, all_agree, has_main, rank, Passes, Passed, Fails, Links, Refusal, Answers, AnswersUpTo}
use Rattle.pw_link_rules.proofs.OneAnswer.{one_test}

pub none_passed : (modules : List Interface) → Passed 0 modules
none_passed modules test low = absurd (omega (arith, low))

pub one_more : (test : Test) (modules : List Interface) → Passed (rank test) modules → Passes test modules → Passed (suc (rank test)) modules
one_more test modules passed here other low =
    elim (cases_lt (rank other) (rank test)) [
      | inl less ↦ passed other less
      | inr more ↦ let e : rank test ≡ rank other = omega (arith, low, more) in subst (λ (t : Test). Passes t modules) (one_test test other e) here
    ]

below_six : (test : Test) → rank test < 6
below_six few_functions = omega arith
below_six few_globals = omega arith
below_six all_defined = omega arith
below_six defined_once = omega arith
below_six all_agree = omega arith
below_six has_main = omega arith

pub all_passed : (modules : List Interface) → Passed 6 modules → Links modules
all_passed modules passed test = passed test (below_six test)

pub refused : (test : Test) (modules : List Interface) (fault : LinkFault) → Passed (rank test) modules → (fault ≡ NoMemory) ⊎ Fails test modules fault → (fault ≡ NoMemory) ⊎ Refusal modules fault
refused test modules fault passed (inl none) = inl none
refused test modules fault passed (inr fails) = inr (record { failed = test; fails = fails; earlier = passed })

-- one test more tells what it and those before it do
pub then_answers : (test : Test) (modules : List Interface) (r : Result (Unit {0}) LinkFault) → Passed (rank test) modules → Answers test modules r → AnswersUpTo (suc (rank test)) modules r
then_answers test modules (Ok x) passed h = one_more test modules passed h
then_answers test modules (Err e) passed h = refused test modules e passed h

-- the last test tells what all of them do
pub last_links : (modules : List Interface) (r : Result (Unit {0}) LinkFault) → Passed 5 modules → Answers has_main modules r → OnOk r (Links modules)
last_links modules (Ok x) passed h = all_passed modules (one_more has_main modules passed h)
last_links modules (Err e) passed h = tt

pub last_refused : (modules : List Interface) (r : Result (Unit {0}) LinkFault) → Passed 5 modules → Answers has_main modules r → IfErr r (λ fault. (fault ≡ NoMemory) ⊎ Refusal modules fault)
last_refused modules (Ok x) passed h = tt
last_refused modules (Err e) passed h = refused has_main modules e passed h
