-- What is passed over from a place on ends at one place.
use Rattle.std.proofs.Common.{◌≡◌, ℕ, zero, suc, ◌+◌, ◌<◌, true, List, inl, inr, sym, ap, ◌∙◌, arith}
use Rattle.std.proofs.lemmas.Bool.{cases_lt, false≢true}
use Rattle.pw_cpp_lines.specs.Lines.{behind_line}
use Rattle.pw_cpp_lines.specs.Passing.{PassesLine, PassesRest, Steps, is_raw_end, step_len}

no_earlier : (text : List ℕ) (at next other : ℕ) (h : PassesRest text at next) (k : PassesRest text at other) → h.end < k.end → ⊥
no_earlier text at next other h k l = false≢true (sym (k.first h.end h.behind l) ∙ h.ends)

pub one-rest : (text : List ℕ) (at next other : ℕ) → PassesRest text at next → PassesRest text at other → next ≡ other
one-rest text at next other h k = h.next_is ∙ ap (behind_line text) same ∙ sym k.next_is
  where
    same : h.end ≡ k.end
    same =
        elim (cases_lt h.end k.end) [
          | inl l ↦ absurd (no_earlier text at next other h k l)
          | inr l ↦ elim (cases_lt k.end h.end) [
            | inl m ↦ absurd (no_earlier text at other next k h m)
            | inr m ↦ omega (arith, l, m)
          ]
        ]

one_walk : (text : List ℕ) (at n m e f : ℕ) → Steps text at n e → Steps text at m f → is_raw_end text e ≡ true → is_raw_end text f ≡ true → e ≡ f
one_walk text at zero zero e f h k s t = sym h ∙ k
one_walk text at zero (suc m) e f h k s t = absurd (false≢true (sym k.0 ∙ ap (is_raw_end text) h ∙ s))
one_walk text at (suc n) zero e f h k s t = absurd (false≢true (sym h.0 ∙ ap (is_raw_end text) k ∙ t))
one_walk text at (suc n) (suc m) e f h k s t = one_walk text (at + step_len text at) n m e f h.1 k.1 s t

pub one-passed : (text : List ℕ) (at next other : ℕ) → PassesLine text at next → PassesLine text at other → next ≡ other
one-passed text at next other h k = h.next_is ∙ ap (behind_line text) (one_walk text at h.steps k.steps h.end k.end h.passed k.passed h.ends k.ends) ∙ sym k.next_is
