-- Steps by which a line is passed over.
use Rattle.std.proofs.Common.{◌≡◌, ℕ, zero, suc, ◌+◌, ◌<◌, ◌≤◌, false, List, [], ◌∷◌, Option, Some, None, inl, inr, refl, sym, ap, ◌∙◌, subst, arith}
use Rattle.std.proofs.lemmas.Bool.{cases_lt}
use Rattle.pw_cpp_lines.specs.Lines.{Cuts, LinePiece, PassesSpace, behind_line, is_space}
use Rattle.pw_cpp_lines.specs.Passing.{PassesLine, PassesRest, Steps, is_raw_end}
use Rattle.pw_cpp_lines.specs.Walking.{IsStep, Walked, Walks}
use Rattle.pw_cpp_lines.specs.declared.passing.Passed.{Passed}
use Rattle.pw_cpp_lines.specs.declared.passing.Passed.TheVariants as passed

pub walks-more : (what : Passed) (text : List ℕ) (at n mid len : ℕ) → Walks what text at n mid → IsStep what text mid (Some len) → Walks what text at (suc n) (mid + len)
walks-more what text at zero mid len h s = let P : ℕ → Type 0 = λ x. Walks what text x 1 (mid + len) in subst P (sym h) (len, s, refl)
walks-more what text at (suc n) mid len h s = (h.0, h.1, walks-more what text (at + h.0) n mid len h.2 s)

-- where no step was found there is none
pub no-step : (what : Passed) (text : List ℕ) (at : ℕ) (found : Option ℕ) → IsStep what text at found → ((len : ℕ) → found ≡ Some len → ⊥) → IsStep what text at None
no-step what text at None h none = h
no-step what text at (Some len) h none = absurd (none len refl)

-- ---- blanks and comments

space_cut : (text : List ℕ) (at n end : ℕ) → Walks passed.Space text at n end → (pieces : List LinePiece) × Cuts is_space text at pieces end
space_cut text at zero end h = ([], h)
space_cut text at (suc n) end h =
    let below = space_cut text (at + h.0) n end h.2 in
    ((h.1.1, h.0) ∷ below.0, (h.1.0, h.1.2, h.1.3, below.1))

pub space-passed : (text : List ℕ) (at end : ℕ) → Walked passed.Space text at end → PassesSpace text at end
space-passed text at end h = let cut = space_cut text at h.steps end h.walks in record { pieces = cut.0; cut = cut.1; stop = h.stops }

-- ---- a rest

abbrev GoesOn : List ℕ → ℕ → ℕ → Type 0
GoesOn text at end = (at ≤ end) × ((k : ℕ) → at ≤ k → k < end → is_raw_end text k ≡ false)

rest_goes_on : (text : List ℕ) (at n end : ℕ) → Walks passed.Rest text at n end → GoesOn text at end
rest_goes_on text at zero end h = (omega (arith, h), λ k a b. absurd (omega (arith, h, a, b)))
rest_goes_on text at (suc n) end h = from (rest_goes_on text (at + h.0) n end h.2)
  where
    from : GoesOn text (at + h.0) end → GoesOn text at end
    from below = (omega (arith, below.0), all)
      where
        all : (k : ℕ) → at ≤ k → k < end → is_raw_end text k ≡ false
        all k a b =
            elim (cases_lt at k) [
              | inl l ↦ below.1 k (omega (arith, l, h.1.1)) b
              | inr l ↦ let same : k ≡ at = omega (arith, l, a) in ap (is_raw_end text) same ∙ h.1.0
            ]

pub rest-passed : (text : List ℕ) (at end next : ℕ) → Walked passed.Rest text at end → next ≡ behind_line text end → PassesRest text at next
rest-passed text at end next h e =
    let on = rest_goes_on text at h.steps end h.walks in
    record { end = end; behind = on.0; ends = h.stops; first = on.1; next_is = e }

-- ---- a line of a group that is left out

line_steps : (text : List ℕ) (at n end : ℕ) → Walks passed.Line text at n end → Steps text at n end
line_steps text at zero end h = h
line_steps text at (suc n) end h =
    let P : ℕ → Type 0 = λ len. Steps text (at + len) n end in
    (h.1.0, subst P h.1.1 (line_steps text (at + h.0) n end h.2))

pub line-passed : (text : List ℕ) (at end next : ℕ) → Walked passed.Line text at end → next ≡ behind_line text end → PassesLine text at next
line-passed text at end next h e = record { steps = h.steps; end = end; passed = line_steps text at h.steps end h.walks; ends = h.stops; next_is = e }
