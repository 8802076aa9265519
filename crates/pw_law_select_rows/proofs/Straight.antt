-- Straight words: what they do together, and the run of lines through them.
use Rattle.std.proofs.Common.{ℕ, suc, ◌≡◌, refl, ap, ◌∙◌, Some, List, [], ◌∷◌, ◌++◌, map, length}
use Rattle.std.specs.List.{AllByRecursion}
use Rattle.pw_inst.specs.declared.Inst.{Inst}
use Rattle.pw_inst.specs.declared.Inst.TheVariants as i
use Rattle.pw_inst.specs.declared.line.Line.{Line}
use Rattle.pw_inst.specs.declared.line.Line.TheVariants as line
use Rattle.pw_delay.specs.declared.items.Word.{Word}
use Rattle.pw_delay.specs.declared.items.Item.{Item}
use Rattle.pw_delay.specs.declared.items.Item.TheVariants.{Plain}
use Rattle.pw_delay.specs.Items.{bare, slotted, plain_item}
use Rattle.pw_law_select_memory.specs.FromRunLanguages.Traces.{Event}
use Rattle.pw_law_select_memory.specs.FromRunLanguages.Addresses.{Addresses}
use Rattle.pw_law_select_memory.specs.FromRunLanguages.Acts.{Core, Act, Acts, Full, Fails, acts, settled}
use Rattle.pw_law_select_memory.specs.FromRunLanguages.LineRun.{LineProgram, Machine, On, accesses, left_behind, went_on, does, step, steps}
use Rattle.pw_law_select_rows.specs.Straight.{act_then, ran, noted_by, noted, IsStraight, words_of, behind_words}

pub joined : (w : Addresses) (xs ys : List Word) (c : Core) → ran w (xs ++ ys) c ≡ act_then (ran w xs c) (ran w ys)
joined w [] ys c = refl
joined w (x ∷ xs) ys c = by_act (acts w (settled w x) c) (λ d. joined w xs ys d)
  where
    by_act : (a : Act) → ((d : Core) → ran w (xs ++ ys) d ≡ act_then (ran w xs d) (ran w ys))
        → act_then a (ran w (xs ++ ys)) ≡ act_then (act_then a (ran w xs)) (ran w ys)
    by_act (Acts d) h = h d
    by_act Full h = refl
    by_act Fails h = refl

pub same_core : (c d : Core) → Acts c ≡ Acts d → c ≡ d
same_core c d e = cc

-- ---- what is noted

pub noted_joined : (p : LineProgram) (w : Addresses) (xs ys : List Word) (c d : Core) (log : List (Event ℕ ℕ)) → ran w xs c ≡ Acts d
    → noted p w (xs ++ ys) c log ≡ noted p w ys d (noted p w xs c log)
noted_joined p w [] ys c d log e = ap (λ c. noted p w ys c log) (same_core c d e)
noted_joined p w (x ∷ xs) ys c d log e =
    by_act (acts w (settled w x) c) (λ b e. noted_joined p w xs ys b d (accesses p w (settled w x) c ++ log) e) e
  where
    by_act : (a : Act)
        → ((b : Core) → ran w xs b ≡ Acts d → noted p w (xs ++ ys) b (accesses p w (settled w x) c ++ log) ≡ noted p w ys d (noted p w xs b (accesses p w (settled w x) c ++ log)))
        → act_then a (ran w xs) ≡ Acts d
        → noted_by a (λ b. noted p w (xs ++ ys) b (accesses p w (settled w x) c ++ log))
        ≡ noted p w ys d (noted_by a (λ b. noted p w xs b (accesses p w (settled w x) c ++ log)))
    by_act (Acts b) h e = h b e
    by_act Full h e = absurd cc
    by_act Fails h e = absurd cc

-- ---- the run of lines

module _ (p : LineProgram) (w : Addresses) (scratch : ℕ → (ℕ → ℕ) → ℕ → ℕ) where
  pub steps_more : (n : ℕ) (m : Machine) → steps p w scratch (suc n) (On m) ≡ steps p w scratch n (step p w scratch m)
  unfolding steps
  steps_more n m = refl

  none : (m : Machine) → steps p w scratch 0 (On m) ≡ On m
  unfolding steps
  none m = refl

  -- one word
  one : (x : Word) (rest : List Item) (m : Machine) → step p w scratch (left_behind (Plain x ∷ rest) m) ≡ does p w x (left_behind rest m)
  unfolding step
  one x rest m = refl

  pub straight_run : (xs : List Word) (rest : List Item) (d : Core) (m : Machine) → ran w xs m.core ≡ Acts d
      → steps p w scratch (length xs) (On (left_behind (map Plain xs ++ rest) m)) ≡ On (behind_words p w xs rest d m)
  straight_run [] rest d m e = none (left_behind rest m) ∙ ap (λ c. On (record (left_behind rest m) { core = c })) (same_core m.core d e)
  straight_run (x ∷ xs) rest d m e =
      steps_more (length xs) (left_behind (Plain x ∷ (map Plain xs ++ rest)) m)
      ∙ (ap (steps p w scratch (length xs)) (one x (map Plain xs ++ rest) m) ∙ by_act (acts w (settled w x) m.core) (λ m e. straight_run xs rest d m e) e)
    where
      by_act : (a : Act)
          → ((m : Machine) → ran w xs m.core ≡ Acts d → steps p w scratch (length xs) (On (left_behind (map Plain xs ++ rest) m)) ≡ On (behind_words p w xs rest d m))
          → act_then a (ran w xs) ≡ Acts d
          → steps p w scratch (length xs) (went_on p w (settled w x) a (left_behind (map Plain xs ++ rest) m))
          ≡ On (record (left_behind rest m) { core = d; trace = noted_by a (λ d. noted p w xs d (accesses p w (settled w x) m.core ++ m.trace)) })
      by_act (Acts c) h e = h (record m { core = c; trace = accesses p w (settled w x) m.core ++ m.trace }) e
      by_act Full h e = absurd cc
      by_act Fails h e = absurd cc

-- ---- lines

pub straight_lines : (xs rest : List Line) → AllByRecursion IsStraight xs → slotted (xs ++ rest) ≡ map Plain (words_of xs) ++ slotted rest
straight_lines [] rest h = refl
straight_lines (line.Fixed x k s n ∷ xs) rest h =
    ap (λ (is : List Item). Plain (record { inst = x; relocation = Some (record { kind = k; symbol = s; addend = n }) }) ∷ is) (straight_lines xs rest h.1)
straight_lines (line.Plain x ∷ xs) rest h = ap₂_cons (plain x h.0) (straight_lines xs rest h.1)
  where
    ap₂_cons : {a b : Item} {xs ys : List Item} → a ≡ b → xs ≡ ys → a ∷ xs ≡ b ∷ ys
    ap₂_cons e f = cc

    plain : (x : Inst) → IsStraight (line.Plain x) → plain_item x ≡ Plain (bare x)
    plain (i.Combf c r1 r2 disp) h = absurd h
    plain (i.Ldb im b t) h = refl
    plain (i.Ldh im b t) h = refl
    plain (i.Ldw im b t) h = refl
    plain (i.Ldo im b t) h = refl
    plain (i.Stb s im b) h = refl
    plain (i.Sth s im b) h = refl
    plain (i.Stw s im b) h = refl
    plain (i.Ldil im t) h = refl
    plain (i.And r1 r2 t) h = refl
    plain (i.Or r1 r2 t) h = refl
    plain (i.Xor r1 r2 t) h = refl
    plain (i.Sub r1 r2 t) h = refl
    plain (i.Addl r1 r2 t) h = refl
    plain (i.Vshd r1 r2 t) h = refl
    plain (i.Mtctl s) h = refl
    plain (i.Comclr c f r1 r2 t) h = refl
    plain (i.Subi im s t) h = refl
    plain (i.Extru s p len t) h = refl
    plain (i.Extrs s p len t) h = refl
    plain (i.Zdep s p len t) h = refl
    plain (i.Combt c r1 r2 disp) h = refl
    plain (i.Bl disp t n) h = refl
    plain (i.Bv b n) h = refl
    plain (i.Ble b n) h = refl
    plain (i.Break im5 im13) h = refl
straight_lines (line.Jump b ∷ xs) rest h = absurd h.0
straight_lines (line.BranchNonZero r b ∷ xs) rest h = absurd h.0
straight_lines (line.Label b ∷ xs) rest h = absurd h.0
straight_lines (line.CallTo s r ∷ xs) rest h = absurd h.0
straight_lines (line.CallReg ∷ xs) rest h = absurd h.0
straight_lines (line.Leave ∷ xs) rest h = absurd h.0
