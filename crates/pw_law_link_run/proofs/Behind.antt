-- The library and the routines are there where their words stand behind all functions.
use Rattle.std.specs.Prelude.{ℕ, ◌≡◌, ◌+◌, ◌*◌, ◌<◌, ◌≤◌, ◌⊎◌, true, Some, None, List, length, slice_index}
use Rattle.std.proofs.Common.{arith, subst, ap, refl, ◌∙◌, inl, inr}
use Rattle.std.proofs.lemmas.Bool.{cases_eq, cases_lt}
use Rattle.pw_inst.specs.declared.Inst.TheVariants.{Break, Bv}
use Rattle.pw_inst.specs.InstructionTable.{decoded, form_of, system, three_register, long_immediate, compare, subtract_immediate, extract, deposit, branch_external, branch, memory}
use Rattle.pw_machine.specs.Run.{State}
use Rattle.pw_milli.specs.Words.{exit_words, getchar_words, putchar_words, divs_words, divu_words, mul_words, rems_words, remu_words}
use Rattle.pw_milli.specs.Calls.{Enters}
use Rattle.pw_run_languages.specs.LineRun.{Frame, return_address}
use Rattle.pw_run_languages.specs.MachineRun.{function_at}
use Rattle.pw_law_link_run.specs.Steps.{Setting, map_in, fetched, IsInText}
use Rattle.pw_law_link_run.specs.Simulating.{IsCaller, IsAsking, HasAsking, HasLibrary}
use Rattle.pw_law_link_run.specs.Leaving.{AreByRegisters}
use Rattle.pw_law_link_run.specs.Routines.{Makes, HasRoutine, HasRoutines}
use Rattle.pw_law_link_run.specs.Leveled.{AreFramed}
use Rattle.pw_law_link_run.specs.Behind.{StandBehind, StandsNamed, StandsNumbered, AllStand}
use Rattle.pw_law_link_run.proofs.Levels.{caller_below}
use Rattle.pw_law_link_run.proofs.ByRegisters.{divs_by_registers, divu_by_registers, mul_by_registers, rems_by_registers, remu_by_registers}

-- ---- words that stand

in_text : (x : Setting) (words : List ℕ) (a i : ℕ) → StandBehind x words a → i ≤ length words → IsInText x (a + 4 * i)
in_text x words a i h le =
    let st = h.stands in
    record {
      aligned = omega (arith, st.aligned);
      above = omega (arith, st.above);
      below = omega (arith, st.within, le);
    }

word_there : (x : Setting) (words : List ℕ) (a i : ℕ) → StandBehind x words a → i < length words → fetched x (a + 4 * i) ≡ decoded (slice_index words i)
word_there x words a i h lt = ap decoded (h.stands.each i lt)

-- all callers return before them
apart : (x : Setting) → AreFramed x → (words : List ℕ) (a : ℕ) → StandBehind x words a → (g : Frame) → IsCaller x g → return_address x.addresses g g.left < a
apart x fr words a h g c = caller_below x g a (fr.framed g.function c.there) c (h.functions g.function c.there)

-- ---- the library

asking : (x : Setting) (words : List ℕ) (a n : ℕ) → StandBehind x words a → 2 ≤ length words → decoded (slice_index words 0) ≡ Some (Break 0 n) → decoded (slice_index words 1) ≡ Some (Bv 2 true)
    → IsAsking x a n
asking x words a n h two asks leaves =
    let zeroth : a + 4 * 0 ≡ a = omega arith in
    let first : a + 4 * 1 ≡ a + 4 = omega arith in
    let second : a + 4 * 2 ≡ a + 4 + 4 = omega arith in
    record {
      first = subst (λ (b : ℕ). IsInText x b) zeroth (in_text x words a 0 h (omega (arith, two)));
      second = subst (λ (b : ℕ). IsInText x b) first (in_text x words a 1 h (omega (arith, two)));
      behind = subst (λ (b : ℕ). IsInText x b) second (in_text x words a 2 h two);
      asks = subst (λ (b : ℕ). fetched x b ≡ Some (Break 0 n)) zeroth (word_there x words a 0 h (omega (arith, two)) ∙ asks);
      leaves = subst (λ (b : ℕ). fetched x b ≡ Some (Bv 2 true)) first (word_there x words a 1 h (omega (arith, two)) ∙ leaves);
    }

has_asking : (x : Setting) → AreFramed x → (words f : List ℕ) (n : ℕ) → StandsNamed x words f → 2 ≤ length words → decoded (slice_index words 0) ≡ Some (Break 0 n)
    → decoded (slice_index words 1) ≡ Some (Bv 2 true) → HasAsking x f n
has_asking x fr words f n h two asks leaves =
    let a = x.addresses.named f in
    record {
      words = asking x words a n h.behind two asks leaves;
      entry = h.entry;
      second = h.behind.inside (a + 4) (omega arith) (omega (arith, two));
      apart = apart x fr words a h.behind;
    }

pub library_is_there : (x : Setting) → AreFramed x → AllStand x → HasLibrary x
unfolding decoded form_of system three_register long_immediate compare subtract_immediate extract deposit branch_external branch memory
library_is_there x fr h = record {
  getchar = has_asking x fr getchar_words _ 1 h.getchar (omega arith) refl refl;
  putchar = has_asking x fr putchar_words _ 2 h.putchar (omega arith) refl refl;
  exit = has_asking x fr exit_words _ 3 h.exit (omega arith) refl refl;
}

-- ---- the routines

no_entry : (x : Setting) (words : List ℕ) (j a : ℕ) → StandsNumbered x words j → x.addresses.routine j ≤ a → a < x.addresses.routine j + 4 * length words
    → (a ≡ x.addresses.routine j) ⊎ (a ≡ x.addresses.routine j → ⊥) → function_at (map_in x) a ≡ None
no_entry x words j a h low high (inl e) = ap (function_at (map_in x)) e ∙ h.entry
no_entry x words j a h low high (inr ne) = elim (cases_lt (x.addresses.routine j) a) as (λ c. function_at (map_in x) a ≡ None) [
  | inl behind ↦ h.behind.inside a behind high
  | inr not_behind ↦ absurd (ne (omega (arith, low, not_behind)))
]

has_routine : (x : Setting) → AreFramed x → (words : List ℕ) (j : ℕ) → StandsNumbered x words j → 1 ≤ length words → AreByRegisters words
    → ((s : State) → Enters words (x.addresses.routine j) s → Makes words (x.addresses.routine j) s j) → HasRoutine x j
has_routine x fr words j h some by makes = record {
  words = words;
  stands = h.behind.stands;
  entries = λ a low high. no_entry x words j a h low high (cases_eq a (x.addresses.routine j));
  apart = apart x fr words (x.addresses.routine j) h.behind;
  some = some;
  by_registers = by;
  makes = makes;
}

-- what the routines make is a law of theirs
pub record AllMake (x : Setting) : Type 0 where
  pub divs : (s : State) → Enters divs_words (x.addresses.routine 0) s → Makes divs_words (x.addresses.routine 0) s 0
  pub divu : (s : State) → Enters divu_words (x.addresses.routine 1) s → Makes divu_words (x.addresses.routine 1) s 1
  pub mul : (s : State) → Enters mul_words (x.addresses.routine 2) s → Makes mul_words (x.addresses.routine 2) s 2
  pub rems : (s : State) → Enters rems_words (x.addresses.routine 3) s → Makes rems_words (x.addresses.routine 3) s 3
  pub remu : (s : State) → Enters remu_words (x.addresses.routine 4) s → Makes remu_words (x.addresses.routine 4) s 4

pub routines_are_there : (x : Setting) → AreFramed x → AllStand x → AllMake x → HasRoutines x
routines_are_there x fr h make = record {
  divs = has_routine x fr divs_words 0 h.divs (omega arith) divs_by_registers make.divs;
  divu = has_routine x fr divu_words 1 h.divu (omega arith) divu_by_registers make.divu;
  mul = has_routine x fr mul_words 2 h.mul (omega arith) mul_by_registers make.mul;
  rems = has_routine x fr rems_words 3 h.rems (omega arith) rems_by_registers make.rems;
  remu = has_routine x fr remu_words 4 h.remu (omega arith) remu_by_registers make.remu;
}
