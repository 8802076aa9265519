-- Lawful addresses exist: those of bump and main. A stack that begins below the data is not lawful.
use Rattle.std.specs.Prelude.{ℕ, ◌≡◌, ◌≤◌, ◌<◌, ◌+◌, ◌%◌, ◌==◌, List, codes, Contains, if◌then◌else◌}
use Rattle.std.specs.List.{AllByRecursion}
use Rattle.std.specs.Str.{bytes_eq}
use Rattle.std.proofs.Common.{arith, sym, ap, refl, ◌∙◌}
use Rattle.std.proofs.lemmas.List.Elements.{All-contains, All-from_recursion}
use Rattle.pw_flow.specs.declared.flow.FlowGlobal.{FlowGlobal}
use Rattle.pw_run_languages.specs.Programs.{globals_of, names_of}
use Rattle.pw_run_languages.specs.Addresses.{Addresses, AreLawful}
use Rattle.pw_flow.specs.ValidFlow.{global_room}
use Rattle.pw_tests_runs.proofs.Programs.{bumping, global}

abbrev place : List ℕ → ℕ
place name =
    if bytes_eq name (codes "$start") then 4352 else if bytes_eq name (codes "main") then 4608 else
    if bytes_eq name (codes "putchar") then 4864 else if bytes_eq name (codes "exit") then 5120 else
    if bytes_eq name (codes "getchar") then 5376 else if bytes_eq name (codes "bump") then 5632 else 8192

abbrev name_at : ℕ → List ℕ
name_at a =
    if a == 4352 then codes "$start" else if a == 4608 then codes "main" else if a == 4864 then codes "putchar" else
    if a == 5120 then codes "exit" else if a == 5376 then codes "getchar" else codes "bump"

abbrev pub addresses : Addresses
addresses = record { named = place; routine = λ k. 7424; behind = λ name turns. 6144; data_start = 8192; base = 16384; limit = 20480 }

of_globals : (P : FlowGlobal → Type 0) → P (global (codes "n")) → (g : FlowGlobal) → Contains (globals_of bumping) g → P g
of_globals P h g c = All-contains P (globals_of bumping) g (All-from_recursion P (globals_of bumping) (h, tt)) c

of_names : (P : List ℕ → Type 0) → AllByRecursion P (names_of bumping) → (f : List ℕ) → Contains (names_of bumping) f → P f
of_names P h f c = All-contains P (names_of bumping) f (All-from_recursion P (names_of bumping) h) c

named_back : (f : List ℕ) → Contains (names_of bumping) f → name_at (place f) ≡ f
named_back = of_names (λ f. name_at (place f) ≡ f) (refl, (refl, (refl, (refl, (refl, (refl, tt))))))

pub lawful : AreLawful bumping addresses
lawful = record {
  aligned = of_globals (λ g. place g.name % 8 ≡ 0) refl;
  above = of_globals (λ g. 8192 ≤ place g.name) (omega arith);
  below = of_globals (λ g. place g.name + global_room g + 64 ≤ 16384) (omega arith);
  apart = λ g h c k other. absurd (other
      (of_globals (λ g. g.name ≡ codes "n") refl g c ∙ sym (of_globals (λ h. h.name ≡ codes "n") refl h k)));
  function_aligned = of_names (λ f. place f % 4 ≡ 0) (refl, (refl, (refl, (refl, (refl, (refl, tt))))));
  function_above = of_names (λ f. 4096 ≤ place f) (omega arith, (omega arith, (omega arith, (omega arith, (omega arith, (omega arith, tt))))));
  function_below = of_names (λ f. place f < 8192) (omega arith, (omega arith, (omega arith, (omega arith, (omega arith, (omega arith, tt))))));
  function_own = λ f g c k e. sym (named_back f c) ∙ (ap name_at e ∙ named_back g k);
  behind_word = λ f n. omega arith;
  data_above = omega arith;
  base_aligned = refl;
  stack_above = omega arith;
  stack = refl;
  memory = omega arith;
}

low : Addresses
low = record { named = place; routine = λ k. 7424; behind = λ name turns. 6144; data_start = 33554432; base = 0; limit = 4096 }

unlawful : AreLawful bumping low → ⊥
unfolding low
unlawful l = let h : 33554432 + 64 ≤ 0 = l.stack_above in omega (arith, h)
