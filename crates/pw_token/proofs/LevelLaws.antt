-- What opening and closing does to the open levels and their nesting.
use Rattle.std.proofs.Common.{◌≡◌, ℕ, zero, suc, ◌+◌, ◌-◌, ◌<◌, ◌≤◌, Bool, true, false, ◌||◌, List, [], ◌∷◌, length, slice_index_or, set, refl, ap, arith, sym, ◌∙◌, subst, add-one}
use Rattle.std.specs.List.{list_any}
use Rattle.std.proofs.lemmas.List.{get_or-set_same, get_or-set_other}
use Rattle.pw_token.specs.Levels.{level_room, outers, levels_of, text_level, IsGrounded, IsSound}
use Rattle.pw_token.specs.Nesting.{nest_of, outer_of, is_bracket, is_question, is_do, without_questions, past_bracket, innermost_is}
use Rattle.pw_token.specs.declared.levels.Level.{Level}
use Rattle.pw_token.specs.declared.levels.Levels.{Levels}
use Rattle.pw_token.specs.declared.levels.Opener.{Opener}
use Rattle.pw_token.specs.declared.levels.Opener.TheVariants as opener

length-outers : (xs : List Level) (n : ℕ) → length (outers xs n) ≡ n
length-outers xs zero = refl
length-outers xs (suc n) = ap suc (length-outers xs n)

depth-le : (l : Level) (xs : List Level) (n : ℕ) → n ≤ nest_of (l ∷ outers xs n)
depth-le l xs zero = omega arith
depth-le l xs (suc n) = omega (arith, depth-le (slice_index_or xs n text_level) xs n)

pub depth-nest : (s : Levels) → IsSound s → s.depth ≤ s.nest
depth-nest s h = omega (arith, depth-le s.innermost s.outer s.depth, h.nest)

outers-set : (xs : List Level) (n i : ℕ) (v : Level) → n ≤ i → outers (set xs i v) n ≡ outers xs n
outers-set xs zero i v h = refl
outers-set xs (suc n) i v h =
    ap (λ x. x ∷ outers (set xs i v) n) (get_or-set_other xs i n v text_level (λ e. omega arith))
    ∙ ap (λ x. slice_index_or xs n text_level ∷ x) (outers-set xs n i v (omega arith))

pub outers-open : (xs : List Level) (d : ℕ) (v : Level) → d < length xs → outers (set xs d v) (d + 1) ≡ v ∷ outers xs d
outers-open xs d v l =
    ap (outers (set xs d v)) (add-one d)
    ∙ ap (λ x. x ∷ outers (set xs d v) d) (get_or-set_same xs d v text_level l)
    ∙ ap (λ x. v ∷ x) (outers-set xs d d v (omega arith))

pub outers-close : (xs : List Level) (d : ℕ) → 0 < d → slice_index_or xs (d - 1) text_level ∷ outers xs (d - 1) ≡ outers xs d
outers-close xs zero l = absurd (omega arith)
outers-close xs (suc n) l = let e : suc n - 1 ≡ n = omega arith in ap (λ k. slice_index_or xs k text_level ∷ outers xs k) e

nest-outer : (l : Level) (ls : List Level) → 0 < length ls → nest_of (l ∷ ls) ≡ 1 + l.expressions + l.controls + nest_of ls
nest-outer l [] h = absurd (omega arith)
nest-outer l (m ∷ ls) h = refl

grounded-outer : (l : Level) (ls : List Level) → 0 < length ls → IsGrounded (l ∷ ls) → IsGrounded ls
grounded-outer l [] h g = absurd (omega arith)
grounded-outer l (m ∷ ls) h g = g

pub opened-sound : (s t : Levels) → IsSound s → s.nest < level_room → (l : Level) → l.expressions ≡ 0 → l.controls ≡ 0 → levels_of t ≡ l ∷ levels_of s → t.nest ≡ s.nest + 1 → length t.outer ≡ length s.outer → IsSound t
opened-sound s t h room l e k levels nest same = record {
  room = same ∙ h.room;
  nest = omega (arith, nest, h.nest, ap nest_of levels, e, k);
  grounded = subst IsGrounded (sym levels) h.grounded;
  small = omega (arith, nest);
}

pub closed-sound : (s t : Levels) → IsSound s → 0 < s.depth → levels_of t ≡ outers s.outer s.depth → t.nest ≡ s.nest - (1 + s.innermost.expressions + s.innermost.controls) → length t.outer ≡ length s.outer → IsSound t
closed-sound s t h inside levels nest same =
    let long : 0 < length (outers s.outer s.depth) = omega (arith, length-outers s.outer s.depth) in
    record {
      nest = omega (arith, nest, h.nest, ap nest_of levels, nest-outer s.innermost (outers s.outer s.depth) long);
      grounded = subst IsGrounded (sym levels) (grounded-outer s.innermost (outers s.outer s.depth) long h.grounded);
      small = omega (arith, nest, h.small);
      room = same ∙ h.room;
    }

-- a level that is not the text has one outside it
pub inside : (l : Level) (xs : List Level) (d : ℕ) → IsGrounded (l ∷ outers xs d) → (l.opener ≡ opener.Text → ⊥) → 0 < d
inside l xs zero g n = absurd (n g)
inside l xs (suc d) g n = omega arith

pub question-inside : (s : Levels) → IsSound s → is_question s.innermost.opener ≡ true → 0 < s.depth
question-inside s h q = inside s.innermost s.outer s.depth h.grounded (λ e. no s.innermost.opener e q)
  where
    no : (o : Opener) → o ≡ opener.Text → is_question o ≡ true → ⊥
    no o e q = let z : is_question o ≡ false = ap is_question e in cc

-- ---- brackets

no-bracket : (o : Opener) → o ≡ opener.Text → is_bracket o ≡ false
no-bracket o e = ap is_bracket e

grounded-any : (l : Level) (ls : List Level) → IsGrounded (l ∷ ls) → list_any (λ m. is_bracket m.opener) (l ∷ ls) ≡ true → 0 < length ls
grounded-any l [] g h = absurd (clash (list_any (λ m. is_bracket m.opener) (l ∷ [])) h (rw (no-bracket l.opener g) refl))
  where
    clash : (b : Bool) → b ≡ true → b ≡ false → ⊥
    clash b h k = cc
grounded-any l (m ∷ ls) g h = omega arith

pub bracket-inside : (s : Levels) → IsSound s → list_any (λ l. is_bracket l.opener) (levels_of s) ≡ true → 0 < s.depth
bracket-inside s h q = omega (arith, grounded-any s.innermost (outers s.outer s.depth) h.grounded q, length-outers s.outer s.depth)

pub outers-any : (p : Opener → Bool) (xs : List Level) (at : ℕ) → 0 < at → list_any (λ m. p m.opener) (outers xs at) ≡ (p (slice_index_or xs (at - 1) text_level).opener || list_any (λ m. p m.opener) (outers xs (at - 1)))
outers-any p xs at l = ap (list_any (λ m. p m.opener)) (sym (outers-close xs at l))

pub outers-found : (p : Opener → Bool) (xs : List Level) (at : ℕ) → 0 < at → p (slice_index_or xs (at - 1) text_level).opener ≡ true → list_any (λ m. p m.opener) (outers xs at) ≡ true
outers-found p xs at l h = outers-any p xs at l ∙ ap (λ b. b || list_any (λ m. p m.opener) (outers xs (at - 1))) h

pub outers-missed : (p : Opener → Bool) (xs : List Level) (at : ℕ) → 0 < at → p (slice_index_or xs (at - 1) text_level).opener ≡ false → list_any (λ m. p m.opener) (outers xs at) ≡ list_any (λ m. p m.opener) (outers xs (at - 1))
outers-missed p xs at l h = outers-any p xs at l ∙ ap (λ b. b || list_any (λ m. p m.opener) (outers xs (at - 1))) h

pub outers-none : (p : Opener → Bool) (xs : List Level) (at : ℕ) → at ≤ 0 → list_any (λ m. p m.opener) (outers xs at) ≡ false
outers-none p xs zero l = refl
outers-none p xs (suc at) l = absurd (omega arith)

-- ---- questions

pub questions-step : (ls : List Level) → innermost_is is_question ls ≡ true → without_questions ls ≡ without_questions (outer_of ls)
questions-step [] h = refl
questions-step (l ∷ ls) h = rw h refl

pub questions-end : (ls : List Level) → innermost_is is_question ls ≡ false → without_questions ls ≡ ls
questions-end [] h = refl
questions-end (l ∷ ls) h = rw h refl

pub bracket-step : (ls : List Level) → innermost_is is_bracket ls ≡ false → past_bracket ls ≡ past_bracket (outer_of ls)
bracket-step [] h = refl
bracket-step (l ∷ ls) h = rw h refl

pub bracket-end : (ls : List Level) → innermost_is is_bracket ls ≡ true → past_bracket ls ≡ outer_of ls
bracket-end [] h = refl
bracket-end (l ∷ ls) h = rw h refl

pub any-step : (ls : List Level) → innermost_is is_bracket ls ≡ false → list_any (λ l. is_bracket l.opener) ls ≡ list_any (λ l. is_bracket l.opener) (outer_of ls)
any-step [] h = refl
any-step (l ∷ ls) h = rw h refl

pub do-inside : (s : Levels) → IsSound s → is_do s.innermost.opener ≡ true → 0 < s.depth
do-inside s h q = inside s.innermost s.outer s.depth h.grounded (λ e. no s.innermost.opener e q)
  where
    no : (o : Opener) → o ≡ opener.Text → is_do o ≡ true → ⊥
    no o e q = let z : is_do o ≡ false = ap is_do e in cc
