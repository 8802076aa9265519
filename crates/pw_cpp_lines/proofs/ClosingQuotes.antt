-- Quotes that do not close in their line.
use Rattle.std.proofs.Common.{◌≡◌, ◌≢◌, ℕ, zero, suc, ◌+◌, ◌<◌, ◌-◌, Bool, true, false, not, ◌&&◌, ◌==◌, List, [], ◌∷◌, drop, get_or, Result, Ok, Err, refl, sym, ap, ◌∙◌, if◌then◌else◌, inl, inr, arith}
use Rattle.std.proofs.lemmas.Bool.{cases_lt, eqb-false, ne_eqb}
use Rattle.std.proofs.lemmas.List.{drop-drop, get_or-drop}
use Rattle.pw_cpp_lines.specs.Passing.{quoted, quoted_at, quoted_len}
use Rattle.pw_cpp_lines.specs.Walking.{AreUnclosed, NoneCloses}
use Rattle.pw_cpp_lines.specs.declared.quotes.Unclosed.{Unclosed}

abbrev failed : ℕ → Result ℕ ℕ
failed n = Err n

ok_err : (n m : ℕ) → Ok n ≡ failed m → ⊥
ok_err n m e = cc

err_same : (n m : ℕ) → failed n ≡ failed m → n ≡ m
err_same n m e = cc

-- Where a quote does not close, neither does it behind other bytes before it, nor does any that stands before the line's end.
abbrev Closes_not : ℕ → Bool → ℕ → ℕ → ℕ → List ℕ → Type 0
Closes_not q escaped last n m xs =
    ((last' n' : ℕ) → (last' == 92) ≡ (last == 92) → quoted_len (quoted q escaped last' n' xs) ≡ 1)
    × ((k : ℕ) → k + n < m → get_or xs k 0 ≡ q → (last' n' : ℕ) → (last' == 92) ≡ false → quoted_len (quoted q false last' n' (drop (suc k) xs)) ≡ 1)

unclosed : (q : ℕ) → (q == 92) ≡ false → (xs : List ℕ) (escaped : Bool) (last n m : ℕ) → quoted q escaped last n xs ≡ Err m → Closes_not q escaped last n m xs
unclosed q other [] escaped last n m h = (λ last' n' s. refl, λ k l e last' n' s. absurd (omega (arith, l, err_same n m h)))
unclosed q other (b ∷ rest) true last n m h = escaped_by (unclosed q other rest false b (n + 1) m h)
  where
    escaped_by : Closes_not q false b (n + 1) m rest → Closes_not q true last n m (b ∷ rest)
    escaped_by below = (λ last' n' s. below.0 b (n' + 1) refl, later)
      where
        later : (k : ℕ) → k + n < m → get_or (b ∷ rest) k 0 ≡ q → (last' n' : ℕ) → (last' == 92) ≡ false → quoted_len (quoted q false last' n' (drop (suc k) (b ∷ rest))) ≡ 1
        later zero l e last' n' s = below.0 last' n' (s ∙ sym other ∙ ap (λ x. x == 92) (sym e))
        later (suc k) l e last' n' s = below.1 k (omega (arith, l)) e last' n' s
unclosed q other (b ∷ rest) false last n m h = by (b == q) refl h (λ k. unclosed q other rest (b == 92) b (n + 1) m k)
  where
    at_end : (c : Bool) → (b == q) ≡ false → (b == 10 && not (last == 92)) ≡ c → (if c then Err n else quoted q (b == 92) b (n + 1) rest) ≡ Err m
        → (quoted q (b == 92) b (n + 1) rest ≡ Err m → Closes_not q (b == 92) b (n + 1) m rest) → Closes_not q false last n m (b ∷ rest)
    at_end true e c h next = (first, λ k l g last' n' s. absurd (omega (arith, l, err_same n m h)))
      where
        first : (last' n' : ℕ) → (last' == 92) ≡ (last == 92) → quoted_len (quoted q false last' n' (b ∷ rest)) ≡ 1
        first last' n' s = rw (e, s, c) refl
    at_end false e c h next = (first, later)
      where
        first : (last' n' : ℕ) → (last' == 92) ≡ (last == 92) → quoted_len (quoted q false last' n' (b ∷ rest)) ≡ 1
        first last' n' s = rw (e, s, c) ((next h).0 b (n' + 1) refl)

        later : (k : ℕ) → k + n < m → get_or (b ∷ rest) k 0 ≡ q → (last' n' : ℕ) → (last' == 92) ≡ false → quoted_len (quoted q false last' n' (drop (suc k) (b ∷ rest))) ≡ 1
        later zero l g last' n' s = absurd (eqb-false b q e g)
        later (suc k) l g last' n' s = (next h).1 k (omega (arith, l)) g last' n' s

    by : (a : Bool) → (b == q) ≡ a → (if a then Ok (n + 1) else (if b == 10 && not (last == 92) then Err n else quoted q (b == 92) b (n + 1) rest)) ≡ Err m
        → (quoted q (b == 92) b (n + 1) rest ≡ Err m → Closes_not q (b == 92) b (n + 1) m rest) → Closes_not q false last n m (b ∷ rest)
    by true e h next = absurd (ok_err (n + 1) m h)
    by false e h next = at_end (b == 10 && not (last == 92)) e refl h next

-- where a quote does not close, none does from it on up to the end of its line
pub none-closes : (text : List ℕ) (quote at before : ℕ) → quote ≢ 92 → quoted quote false 0 1 (drop (at + 1) text) ≡ Err before → NoneCloses text quote at (at + before)
none-closes text quote at before other h k a b e =
    elim (cases_lt at k) [
      | inl l ↦ behind (k - (at + 1)) (omega (arith, l))
      | inr l ↦ let same : k ≡ at = omega (arith, l, a) in ap (quoted_at text quote) same ∙ ap quoted_len h
    ]
  where
    known : Closes_not quote false 0 1 before (drop (at + 1) text)
    known = unclosed quote (ne_eqb quote 92 other) (drop (at + 1) text) false 0 1 before h

    behind : (j : ℕ) → at + 1 + j ≡ k → quoted_at text quote k ≡ 1
    behind j place =
        let there : get_or (drop (at + 1) text) j 0 ≡ quote = get_or-drop (at + 1) text j 0 ∙ ap (λ x. get_or text x 0) place ∙ e in
        let rest : drop (suc j) (drop (at + 1) text) ≡ drop (k + 1) text = drop-drop (suc j) (at + 1) text ∙ ap (λ x. drop x text) (omega (arith, place)) in
        ap (λ x. quoted_len (quoted quote false 0 1 x)) (sym rest) ∙ known.1 j (omega (arith, place, b)) there 0 1 refl

pub unclosed-later : (text : List ℕ) (at len : ℕ) (u : Unclosed) → AreUnclosed text at u → AreUnclosed text (at + len) u
unclosed-later text at len u h = (λ k a b e. h.0 k (omega (arith, a)) b e, λ k a b e. h.1 k (omega (arith, a)) b e)

pub unclosed-none : (text : List ℕ) (at : ℕ) (u : Unclosed) → u.single ≡ 0 → u.double ≡ 0 → AreUnclosed text at u
unclosed-none text at u s d = (λ k a b e. absurd (omega (arith, b, s)), λ k a b e. absurd (omega (arith, b, d)))
