-- The run of lines through items that call no function.
use Rattle.std.proofs.Common.{ℕ, zero, suc, ◌≡◌, ◌+◌, ◌-◌, ◌<◌, ◌≤◌, ◌⊎◌, inl, inr, arith, refl, ap, sym, subst, ap₂, ◌∙◌, List, [], ◌∷◌, ◌++◌, map, length, append_assoc}
use Rattle.std.proofs.lemmas.Bool.{cases_lt}
use Rattle.pw_delay.specs.declared.items.Word.{Word}
use Rattle.pw_delay.specs.declared.items.Item.{Item}
use Rattle.pw_delay.specs.declared.items.Item.TheVariants.{Plain}
use Rattle.pw_run.specs.Runs as run
use Rattle.pw_run_languages.specs.Traces.{Event}
use Rattle.pw_run_languages.specs.Addresses.{Addresses}
use Rattle.pw_run_languages.specs.Acts.{Core, Act, Acts, Full, Fails, acts, settled}
use Rattle.pw_run_languages.specs.LineRun.{LineProgram, Machine, Step, On, Stopped, Astray, accesses, left_behind, and_then, went_on, does, step, steps}
use Rattle.pw_run_languages.specs.Links.{IsFunctionCall}
use Rattle.pw_law_select_states.specs.Passes.{IsAmid, Passes, further}
use Rattle.pw_law_select_frames.specs.Going.{Goes}
use Rattle.pw_law_select_frames.proofs.Known.{Known}

module _ (p : LineProgram) (w : Addresses) (scratch : ℕ → (ℕ → ℕ) → ℕ → ℕ) where
  -- ---- steps

  more_steps : (n : ℕ) (s : Step) → steps p w scratch (suc n) s ≡ steps p w scratch n (and_then s (step p w scratch))
  unfolding steps
  more_steps n s = refl

  no_steps : (s : Step) → steps p w scratch 0 s ≡ s
  unfolding steps
  no_steps s = refl

  pub steps_add : (n m : ℕ) (s : Step) → steps p w scratch (n + m) s ≡ steps p w scratch m (steps p w scratch n s)
  steps_add zero m s = (let e : 0 + m ≡ m = omega arith in ap (λ k. steps p w scratch k s) e) ∙ ap (steps p w scratch m) (sym (no_steps s))
  steps_add (suc n) m s =
      (let e : suc n + m ≡ suc (n + m) = omega arith in ap (λ k. steps p w scratch k s) e)
      ∙ (more_steps (n + m) s
      ∙ (steps_add n m (and_then s (step p w scratch)) ∙ ap (steps p w scratch m) (sym (more_steps n s))))

  pub one_step : (m : Machine) → steps p w scratch 1 (On m) ≡ step p w scratch m
  one_step m = more_steps 0 (On m) ∙ no_steps (step p w scratch m)

  -- a run that is over does not go on
  stopped_steps : (n : ℕ) (end : run.End) (m t : Machine) → steps p w scratch n (Stopped end m) ≡ On t → ⊥
  stopped_steps zero end m t e = let f = sym (no_steps (Stopped end m)) ∙ e in cc
  stopped_steps (suc n) end m t e = stopped_steps n end m t (sym (more_steps n (Stopped end m)) ∙ e)

  astray_steps : (n : ℕ) (t : Machine) → steps p w scratch n Astray ≡ On t → ⊥
  astray_steps zero t e = let f = sym (no_steps Astray) ∙ e in cc
  astray_steps (suc n) t e = astray_steps n t (sym (more_steps n Astray) ∙ e)

  pub word_step : (x : Word) (rest : List Item) (m : Machine) → step p w scratch (left_behind (Plain x ∷ rest) m) ≡ does p w x (left_behind rest m)
  unfolding step
  word_step x rest m = refl

  pub same_on : (m n : Machine) → On m ≡ On n → m ≡ n
  same_on m n e = cc

  -- ---- words

  plain_is_quiet : (x : Word) → ¬ IsFunctionCall (Plain x)
  plain_is_quiet x h = h

  one_more : (before rest : List Item) (item : Item) → before ++ item ∷ rest ≡ (before ++ (item ∷ [])) ++ rest
  one_more before rest item = sym (append_assoc before (item ∷ []) rest)

  pub amid_words : (xs : List Word) (before rest : List Item) (m n : Machine) (k : ℕ) → m.frame.function.items ≡ before ++ (map Plain xs ++ rest) → 0 < k → k ≤ length xs
      → steps p w scratch k (On (left_behind (map Plain xs ++ rest) m)) ≡ On n → IsAmid n.frame
  amid_words xs before rest m n zero items some few e = absurd (omega (arith, some))
  amid_words [] before rest m n (suc k) items some few e = absurd (omega (arith, few))
  amid_words (x ∷ xs) before rest m n (suc k) items some few e =
      by_act (λ (t : Machine) (j : ℕ). amid_words xs (before ++ (Plain x ∷ [])) rest t n j) (acts w (settled w x) m.core)
      (ap (steps p w scratch k) (sym (word_step x (map Plain xs ++ rest) m)) ∙ (sym (more_steps k (On (left_behind (Plain x ∷ (map Plain xs ++ rest)) m))) ∙ e))
    where
      by_count : ((t : Machine) (j : ℕ) → t.frame.function.items ≡ (before ++ (Plain x ∷ [])) ++ (map Plain xs ++ rest) → 0 < j → j ≤ length xs
          → steps p w scratch j (On (left_behind (map Plain xs ++ rest) t)) ≡ On n → IsAmid n.frame)
          → (k : ℕ) (t : Machine) → k ≤ length xs → t.frame.function.items ≡ before ++ Plain x ∷ (map Plain xs ++ rest)
          → steps p w scratch k (On (left_behind (map Plain xs ++ rest) t)) ≡ On n → IsAmid n.frame
      by_count later zero t few same e =
          let is = same_on (left_behind (map Plain xs ++ rest) t) n (sym (no_steps (On (left_behind (map Plain xs ++ rest) t))) ∙ e) in
          subst (λ (m : Machine). IsAmid m.frame) is
          (record { before = before; item = Plain x; quiet = plain_is_quiet x; items = same })
      by_count later (suc k) t few same e = later t (suc k) (same ∙ one_more before (map Plain xs ++ rest) (Plain x)) (omega arith) few e

      by_act : ((t : Machine) (j : ℕ) → t.frame.function.items ≡ (before ++ (Plain x ∷ [])) ++ (map Plain xs ++ rest) → 0 < j → j ≤ length xs
          → steps p w scratch j (On (left_behind (map Plain xs ++ rest) t)) ≡ On n → IsAmid n.frame)
          → (a : Act) → steps p w scratch k (went_on p w (settled w x) a (left_behind (map Plain xs ++ rest) m)) ≡ On n → IsAmid n.frame
      by_act later (Acts c) e = by_count later k (record m { core = c; trace = accesses p w (settled w x) m.core ++ m.trace }) (omega (arith, few)) items e
      by_act later Full e = absurd (stopped_steps k run.StackFull (left_behind (map Plain xs ++ rest) m) n e)
      by_act later Fails e = absurd (astray_steps k n e)

  pub words_pass : (known : Known) (xs : List Word) (before rest : List Item) (e : Core) (log : List (Event ℕ ℕ)) (m : Machine)
      → m.frame.left ≡ map Plain xs ++ rest → m.frame.function.items ≡ before ++ m.frame.left → Goes p w xs log m.core e → Passes p w scratch m rest e log
  words_pass known xs before rest e log m left items goes = record {
    count = length xs;
    more = 0;
    steps = ap (λ (is : List Item). steps p w scratch (length xs) (On (left_behind is m))) left
        ∙ (known.run p w scratch xs rest e m goes.acts ∙ ap₂ (λ (l : List (Event ℕ ℕ)) (n : ℕ). On (record (left_behind rest m) { core = e; trace = l; events = n })) (goes.notes m.trace) none);
    amid = λ k n some few is.
        amid_words xs before rest m n k (items ∙ ap (λ (is : List Item). before ++ is) left) some few
        (ap (λ (is : List Item). steps p w scratch k (On (left_behind is m))) (sym left) ∙ is);
  }
    where
      none : m.events ≡ m.events + 0
      none = omega arith

  -- ---- one item

  abbrev pub item_passes : (item : Item) (before rest : List Item) (core : Core) (more : ℕ) (m : Machine) → ¬ IsFunctionCall item
      → m.frame.function.items ≡ before ++ item ∷ rest → step p w scratch m ≡ On (further rest core more [] m) → Passes p w scratch m rest core []
  item_passes item before rest core more m quiet items is = record {
    count = 1;
    more = more;
    steps = one_step m ∙ is;
    amid = λ k n some few e.
        let one : k ≡ 1 = omega (arith, some, few) in
        let there : On (further rest core more [] m) ≡ On n = sym is ∙ (sym (one_step m) ∙ (ap (λ j. steps p w scratch j (On m)) (sym one) ∙ e)) in
        subst (λ (t : Machine). IsAmid t.frame) (same_on (further rest core more [] m) n there)
        (record { before = before; item = item; quiet = quiet; items = items });
  }

  -- ---- one after the other

  abbrev pub passes_then : (m : Machine) (middle rest : List Item) (d e : Core) (first next : List (Event ℕ ℕ)) (one : Passes p w scratch m middle d first)
      → Passes p w scratch (further middle d one.more first m) rest e next → Passes p w scratch m rest e (next ++ first)
  passes_then m middle rest d e first next one two =
      let mid = further middle d one.more first m in
      record {
        count = one.count + two.count;
        more = one.more + two.more;
        steps = steps_add one.count two.count (On m)
            ∙ (ap (steps p w scratch two.count) one.steps
            ∙ (two.steps
            ∙ ap₂ (λ (n : ℕ) (l : List (Event ℕ ℕ)). On (record m { core = e; frame = record m.frame { left = rest }; events = n; trace = l })) sum (sym (append_assoc next first m.trace))));
        amid = λ k n some few is. by_count k n some few is (cases_lt one.count k);
      }
    where
      sum : m.events + one.more + two.more ≡ m.events + (one.more + two.more)
      sum = omega arith

      by_count : (k : ℕ) (n : Machine) → 0 < k → k ≤ one.count + two.count → steps p w scratch k (On m) ≡ On n → (one.count < k) ⊎ (k ≤ one.count) → IsAmid n.frame
      by_count k n some few is (inr early) = one.amid k n some early is
      by_count k n some few is (inl late) =
          let whole : k ≡ one.count + (k - one.count) = omega (arith, late) in
          two.amid (k - one.count) n (omega (arith, late)) (omega (arith, few, late))
          (ap (steps p w scratch (k - one.count)) (sym one.steps)
          ∙ (sym (steps_add one.count (k - one.count) (On m)) ∙ (ap (λ j. steps p w scratch j (On m)) (sym whole) ∙ is)))
