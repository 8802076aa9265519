-- Rows of words, one after the other.
use Rattle.std.proofs.Common.{ℕ, ◌≡◌, ◌≢◌, refl, ap, sym, subst, ◌∙◌, true, false, true≢false, if◌then◌else◌, ◌==◌, Bool, Some, None, List, [], ◌∷◌, ◌++◌, append_assoc}
use Rattle.std.proofs.lemmas.Bool.{ne_eqb, eq-eqb}
use Rattle.pw_inst.specs.declared.Inst.{Inst}
use Rattle.pw_inst.specs.declared.line.Line.{Line}
use Rattle.pw_inst.specs.declared.line.Line.TheVariants as line
use Rattle.pw_delay.specs.declared.items.Word.{Word}
use Rattle.pw_delay.specs.Items.{bare}
use Rattle.pw_run_languages.specs.Traces.{Event}
use Rattle.pw_run_languages.specs.Addresses.{Addresses}
use Rattle.pw_run_languages.specs.Acts.{Core, Act, Acts, acts, executed, put, with_register, loaded_at, stored_at}
use Rattle.pw_run_languages.specs.LineRun.{LineProgram, accesses}
use Rattle.pw_law_select_rows.specs.Straight.{act_then, ran, noted_by, noted, words_of}
use Rattle.pw_law_select_rows.specs.Making.{Puts, Makes}
use Rattle.pw_law_select_rows.specs.Frames.{LoadsWord, StoresWord}
use Rattle.pw_law_select_frames.specs.Going.{Goes}
use Rattle.pw_law_select_frames.proofs.Known.{Known}

pub words_joined : (xs ys : List Line) → words_of (xs ++ ys) ≡ words_of xs ++ words_of ys
words_joined [] ys = refl
words_joined (line.Plain x ∷ xs) ys = ap (λ (r : List Word). bare x ∷ r) (words_joined xs ys)
words_joined (line.Fixed x k s n ∷ xs) ys =
    ap (λ (r : List Word). record { inst = x; relocation = Some (record { kind = k; symbol = s; addend = n }) } ∷ r) (words_joined xs ys)
words_joined (line.Jump b ∷ xs) ys = words_joined xs ys
words_joined (line.BranchNonZero r b ∷ xs) ys = words_joined xs ys
words_joined (line.Label b ∷ xs) ys = words_joined xs ys
words_joined (line.CallTo s r ∷ xs) ys = words_joined xs ys
words_joined (line.CallReg ∷ xs) ys = words_joined xs ys
words_joined (line.Leave ∷ xs) ys = words_joined xs ys

pub loads_go : (p : LineProgram) (w : Addresses) (words : List Word) (d n : ℕ) (c : Core) (l : LoadsWord p w words d n c) → Goes p w words [] c l.core
loads_go p w words d n c l = record { acts = l.acts; skip = l.skip; notes = l.quiet }

pub stores_go : (p : LineProgram) (w : Addresses) (words : List Word) (a n : ℕ) (c : Core) (l : StoresWord p w words a n c) → Goes p w words [] c l.core
stores_go p w words a n c l = record { acts = l.acts; skip = l.skip; notes = l.quiet }

pub makes_go : (p : LineProgram) (w : Addresses) (words : List Word) (d n : ℕ) (c : Core) (l : Makes p w words d n c) → Goes p w words [] c l.core
makes_go p w words d n c l = record { acts = l.acts; skip = l.puts.skip; notes = l.quiet }

pub stays : (p : LineProgram) (w : Addresses) (c : Core) → c.skip ≡ false → Goes p w [] [] c c
stays p w c skip = record { acts = refl; skip = skip; notes = λ log. refl }

module _ (known : Known) where
  pub goes_then : (p : LineProgram) (w : Addresses) (xs ys : List Word) (a b : List (Event ℕ ℕ)) (c d e : Core)
      → Goes p w xs a c d → Goes p w ys b d e → Goes p w (xs ++ ys) (b ++ a) c e
  goes_then p w xs ys a b c d e one two = record {
    acts = known.joins w xs ys c ∙ (ap (λ (o : Act). act_then o (ran w ys)) one.acts ∙ two.acts);
    skip = two.skip;
    notes = λ log.
        known.notes p w xs ys c d log one.acts
        ∙ (ap (noted p w ys d) (one.notes log) ∙ (two.notes (a ++ log) ∙ sym (append_assoc b a log)));
  }

  pub lines_then : (p : LineProgram) (w : Addresses) (xs ys : List Line) (a b : List (Event ℕ ℕ)) (c d e : Core)
      → Goes p w (words_of xs) a c d → Goes p w (words_of ys) b d e → Goes p w (words_of (xs ++ ys)) (b ++ a) c e
  lines_then p w xs ys a b c d e one two =
      subst (λ words. Goes p w words (b ++ a) c e) (sym (words_joined xs ys)) (goes_then p w (words_of xs) (words_of ys) a b c d e one two)

  -- ---- one word that puts a word into a register

  put_same : (d v : ℕ) (f : ℕ → ℕ) → put d v f d ≡ v
  put_same d v f = ap (λ (t : Bool). if t then v else f d) (eq-eqb d d refl)

  put_other : (d v r : ℕ) (f : ℕ → ℕ) → r ≢ d → put d v f r ≡ f r
  put_other d v r f ne = ap (λ (t : Bool). if t then v else f r) (ne_eqb r d ne)

  puts_word : (d v : ℕ) (c : Core) → d ≢ 0 → c.skip ≡ false → Puts d v c (with_register d v c)
  puts_word d v c some skip = by_test (d == 0) (ne_eqb d 0 some)
    where
      by_test : (t : Bool) → t ≡ false → Puts d v c (if t then c else record c { registers = put d v c.registers })
      by_test true e = absurd (true≢false e)
      by_test false e = record {
        value = ap (λ (t : Bool). if t then 0 else put d v c.registers d) (ne_eqb d 0 some) ∙ put_same d v c.registers;
        others = λ r ne. ap (λ x. if r == 0 then 0 else x) (put_other d v r c.registers ne);
        memory = refl;
        shift = refl;
        skip = skip;
      }

  word_acts : (w : Addresses) (x : Inst) (c : Core) → c.skip ≡ false → acts w (Some x) c ≡ executed w x c
  word_acts w x c skip = ap (λ (t : Bool). if t then Acts (record c { skip = false }) else executed w x c) skip

  pub word_makes : (p : LineProgram) (w : Addresses) (x : Inst) (d v : ℕ) (c : Core) → d ≢ 0 → c.skip ≡ false
      → executed w x c ≡ Acts (with_register d v c) → loaded_at x c ≡ None → stored_at x c ≡ None → Makes p w (bare x ∷ []) d v c
  word_makes p w x d v c some skip does loads stores =
      let e : acts w (Some x) c ≡ Acts (with_register d v c) = word_acts w x c skip ∙ does in
      record {
        core = with_register d v c;
        acts = ap (λ (a : Act). act_then a (ran w [])) e;
        puts = puts_word d v c some skip;
        quiet = λ log.
            ap (λ (a : Act). noted_by a (λ d. noted p w [] d (accesses p w (Some x) c ++ log))) e
            ∙ ap (λ (l : List (Event ℕ ℕ)). l ++ log) (known.quiet p w x c loads stores);
      }
