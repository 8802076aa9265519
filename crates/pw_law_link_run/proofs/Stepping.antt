-- Steps of the machine at words of the text.
use Rattle.std.specs.Prelude.{ℕ, suc, ◌≡◌, ◌+◌, ◌*◌, ◌%◌, ◌^◌, ◌≤◌, ◌==◌, nat_lt, nat_le, true, false, Some, None, List, []}
use Rattle.std.proofs.Common.{arith, subst, sym, ap, refl, ◌∙◌}
use Rattle.std.proofs.lemmas.Bool.{le-leb, lt-ltb, eq-eqb}
use Rattle.pw_value.specs.Limits.{text_start}
use Rattle.pw_inst.specs.declared.Inst.{Inst}
use Rattle.pw_inst.specs.InstructionTable.{decoded, IsInRange}
use Rattle.pw_machine.specs.declared.ends.End.{End}
use Rattle.pw_machine.specs.declared.ends.End.TheVariants.{StackStop}
use Rattle.pw_machine.specs.Core.{Core, next, advanced, word_at}
use Rattle.pw_machine.specs.Effect.{Effect, Goes, Stops, is_in_text, effect_of}
use Rattle.pw_machine.specs.Effect as machine
use Rattle.pw_machine.specs.Run.{State, Progress, Running, Stopped, run_of, goes_on, taken}
use Rattle.pw_law_code.specs.Lawful.{IsLawfulCore, IsLater, state_of}
use Rattle.pw_run_languages.specs.Traces.{Event}
use Rattle.pw_run_languages.specs.Acts as lines
use Rattle.pw_run_languages.specs.Acts.{Act, Acts, Full, acts, loaded_at, stored_at}
use Rattle.pw_run_languages.specs.LineRun.{accesses}
use Rattle.pw_run_languages.specs.MachineRun.{Map, Noted, stepped, arrived, accesses_in}
use Rattle.pw_run_languages.specs.MachineRun as noting
use Rattle.pw_law_link_run.specs.Showing.{Shows, Leads, DoesSo}
use Rattle.pw_law_link_run.specs.Steps.{Setting, map_in, fetched, IsInText, IsSetting, At, Arrives, with_accesses}
use Rattle.pw_law_link_run.proofs.Words.{word_done, effect_runs, effect_passes, leads_by}
use Rattle.pw_law_link_run.proofs.Noting.{accesses_shown, no_accesses}

-- ---- what is known after so many steps

pub later : (x : Setting) (k : ℕ) (c : lines.Core) (a b : ℕ) (rest output : List ℕ) (n : Noted) → IsSetting x → (h : At x k c a b rest output n)
    → IsLater x.start (record { core = h.core; rest = rest; output = output })
later x k c a b rest output n s h = subst (λ p. IsLater x.start (state_of p)) h.runs (s.keeps k)

pub below_data : (x : Setting) (k a : ℕ) → IsSetting x → IsInText x a → a + 4 ≤ x.start.core.data_start
below_data x k a s t =
    let from = (s.keeps k).text.data_from in
    let size = (s.keeps k).lawful.core.memory.data_from in
    let text = (s.keeps k).text.text in
    omega (arith, from, size, text, t.aligned, t.below)

in_text : (x : Setting) (core : Core) (a : ℕ) → core.text ≡ x.start.core.text → core.front ≡ a → IsInText x a → is_in_text core core.front ≡ true
in_text x core a text front t =
    let one : (core.front % 4 == 0) ≡ true = eq-eqb (core.front % 4) 0 (omega (arith, front, t.aligned)) in
    let two : nat_le text_start core.front ≡ true = le-leb text_start core.front (omega (arith, front, t.above)) in
    let three : nat_lt core.front (text_start + 4 * core.text) ≡ true = lt-ltb core.front (text_start + 4 * core.text) (omega (arith, front, text, t.below)) in
    rw (one, two, three) refl

-- the instruction at an address is next
pub record Faces (x : Setting) (c : lines.Core) (a b : ℕ) (i : Inst) (core : Core) : Type 0 where
  pub lawful : IsLawfulCore core
  pub starts : core.data_start ≡ x.addresses.data_start
  pub text : is_in_text core core.front ≡ true
  pub decodes : decoded (word_at core.memory core.front) ≡ Some i
  pub shows : Shows c core
  pub front : core.front ≡ a
  pub back : core.back ≡ b

pub faces : (x : Setting) (k : ℕ) (c : lines.Core) (a b : ℕ) (rest output : List ℕ) (n : Noted) (i : Inst) → IsSetting x
    → (h : At x k c a b rest output n) → IsInText x a → fetched x a ≡ Some i → Faces x c a b i h.core
faces x k c a b rest output n i s h t f =
    let l = later x k c a b rest output n s h in
    record {
      lawful = l.lawful.core;
      starts = l.text.data_from ∙ s.starts;
      text = in_text x h.core a l.text.text h.front t;
      decodes = ap (λ p. decoded (word_at h.core.memory p)) h.front ∙ (ap decoded (s.words h.core a l.text (below_data x k a s t)) ∙ f);
      shows = h.shows;
      front = h.front;
      back = h.back;
    }

-- ---- one step

-- after it
pub record Next (x : Setting) (k : ℕ) (s : State) (new : Core) (n : Noted) : Type 0 where
  pub runs : run_of (suc k) x.start ≡ Running (record s { core = new })
  pub notes : noting.noted (map_in x) x.start (suc k) ≡ arrived (map_in x) new (with_accesses (accesses_in (map_in x) s.core) n)

pub next_step : (x : Setting) (k : ℕ) (s : State) (new : Core) (n : Noted) → run_of k x.start ≡ Running s
    → noting.noted (map_in x) x.start k ≡ n → effect_of s.core ≡ Goes new → Next x k s new n
unfolding run_of noting.noted
next_step x k s new n r h e =
    let goes : goes_on (run_of k x.start) ≡ Running (record s { core = new }) = ap goes_on r ∙ ap (λ f. taken f s) e in
    record {
      runs = goes;
      notes = ap (λ p. stepped (map_in x) p (goes_on (run_of k x.start)) (noting.noted (map_in x) x.start k)) r
          ∙ (ap (λ q. stepped (map_in x) (Running s) q (noting.noted (map_in x) x.start k)) goes
          ∙ ap (λ n. stepped (map_in x) (Running s) (Running (record s { core = new })) n) h);
    }

pub step_at : (x : Setting) (k : ℕ) (c d : lines.Core) (a b to : ℕ) (rest output : List ℕ) (n : Noted) (es : List (Event ℕ ℕ))
    → (h : At x k c a b rest output n) → Leads h.core (effect_of h.core) d to → accesses_in (map_in x) h.core ≡ es
    → Arrives x (suc k) d b to rest output (with_accesses es n)
step_at x k c d a b to rest output n es h l e =
    let s : State = record { core = h.core; rest = rest; output = output } in
    let one = next_step x k s l.new n h.runs h.notes l.goes in
    record {
      core = l.new;
      runs = one.runs;
      notes = one.notes ∙ ap (λ es. arrived (map_in x) l.new (with_accesses es n)) e;
      shows = l.shows;
      front = l.heads.front ∙ h.back;
      back = l.heads.back;
    }

-- ---- words

acts_so : (core : Core) (e : Effect) (a : Act) (d : lines.Core) → a ≡ Acts d → DoesSo core e a → Leads core e d (next core)
acts_so core e a d same h = subst (λ a. DoesSo core e a) same h

full_so : (core : Core) (e : Effect) (a : Act) → a ≡ Full → DoesSo core e a → e ≡ Stops StackStop
full_so core e a same h = subst (λ a. DoesSo core e a) same h

word_so : (x : Setting) (c : lines.Core) (a b : ℕ) (i : Inst) (core : Core) → Faces x c a b i core → IsInRange i
    → DoesSo core (effect_of core) (acts x.addresses (Some i) c)
word_so x c a b i core f k = word_done x.addresses c core i f.starts f.lawful k f.shows f.text f.decodes

pub word_at_front : (x : Setting) (k : ℕ) (c d : lines.Core) (a b : ℕ) (rest output : List ℕ) (n : Noted) (i : Inst) → IsSetting x
    → At x k c a b rest output n → IsInText x a → fetched x a ≡ Some i → IsInRange i → acts x.addresses (Some i) c ≡ Acts d
    → Arrives x (suc k) d b ((b + 4) % 2 ^ 32) rest output (with_accesses (accesses x.program x.addresses (Some i) c) n)
word_at_front x k c d a b rest output n i s h t f range e =
    let face = faces x k c a b rest output n i s h t f in
    let leads = acts_so h.core (effect_of h.core) (acts x.addresses (Some i) c) d e (word_so x c a b i h.core face range) in
    let to : next h.core ≡ (b + 4) % 2 ^ 32 = ap (λ v. (v + 4) % 2 ^ 32) h.back in
    step_at x k c d a b ((b + 4) % 2 ^ 32) rest output n (accesses x.program x.addresses (Some i) c) h
    (subst (λ to. Leads h.core (effect_of h.core) d to) to leads) (accesses_shown x c h.core i h.shows face.decodes)

-- the machine stops
pub record Halted (x : Setting) (k : ℕ) (e : End) (rest output : List ℕ) (n : Noted) : Type 0 where
  pub core : Core
  pub runs : run_of k x.start ≡ Stopped e (record { core = core; rest = rest; output = output })
  pub notes : noting.noted (map_in x) x.start k ≡ n

stopped_step : (x : Setting) (k : ℕ) (s : State) (n : Noted) (end : End) → run_of k x.start ≡ Running s → noting.noted (map_in x) x.start k ≡ n
    → effect_of s.core ≡ Stops end → Halted x (suc k) end s.rest s.output n
unfolding run_of noting.noted
stopped_step x k s n end r h e =
    let stop : Progress = Stopped end (record s { core = record s.core { stopped = Some end } }) in
    let goes : goes_on (run_of k x.start) ≡ stop = ap goes_on r ∙ ap (λ f. taken f s) e in
    record {
      core = record s.core { stopped = Some end };
      runs = goes;
      notes = ap (λ p. stepped (map_in x) p (goes_on (run_of k x.start)) (noting.noted (map_in x) x.start k)) r
          ∙ (ap (λ q. stepped (map_in x) (Running s) q (noting.noted (map_in x) x.start k)) goes ∙ h);
    }

-- by an instruction
pub halts_at_front : (x : Setting) (k : ℕ) (c : lines.Core) (a b : ℕ) (rest output : List ℕ) (n : Noted) (i : Inst) (end : End) → IsSetting x
    → At x k c a b rest output n → IsInText x a → fetched x a ≡ Some i → c.skip ≡ false
    → ((core : Core) → Shows c core → machine.executed core i ≡ Stops end) → Halted x (suc k) end rest output n
halts_at_front x k c a b rest output n i end s h t f run does =
    let face = faces x k c a b rest output n i s h t f in
    stopped_step x k (record { core = h.core; rest = rest; output = output }) n end h.runs h.notes
    (effect_runs h.core i face.text (sym h.shows.skip ∙ run) face.decodes ∙ does h.core face.shows)

pub full_at_front : (x : Setting) (k : ℕ) (c : lines.Core) (a b : ℕ) (rest output : List ℕ) (n : Noted) (i : Inst) → IsSetting x
    → At x k c a b rest output n → IsInText x a → fetched x a ≡ Some i → IsInRange i → acts x.addresses (Some i) c ≡ Full
    → Halted x (suc k) StackStop rest output n
full_at_front x k c a b rest output n i s h t f range e =
    let face = faces x k c a b rest output n i s h t f in
    stopped_step x k (record { core = h.core; rest = rest; output = output }) n StackStop h.runs h.notes
    (full_so h.core (effect_of h.core) (acts x.addresses (Some i) c) e (word_so x c a b i h.core face range))

-- ---- a word that is passed over

skipped : (x : Setting) (core : Core) → core.nullify ≡ true → accesses_in (map_in x) core ≡ []
skipped x core n = rw n refl

pub pass_at_front : (x : Setting) (k : ℕ) (c : lines.Core) (a b : ℕ) (rest output : List ℕ) (n : Noted) → IsSetting x
    → At x k c a b rest output n → IsInText x a → c.skip ≡ true
    → Arrives x (suc k) (record c { skip = false }) b ((b + 4) % 2 ^ 32) rest output n
pass_at_front x k c a b rest output n s h t skip =
    let l = later x k c a b rest output n s h in
    let null : h.core.nullify ≡ true = sym h.shows.skip ∙ skip in
    let to : next h.core ≡ (b + 4) % 2 ^ 32 = ap (λ v. (v + 4) % 2 ^ 32) h.back in
    step_at x k c (record c { skip = false }) a b ((b + 4) % 2 ^ 32) rest output n [] h
    (leads_by h.core (effect_of h.core) (Goes (advanced h.core)) (record c { skip = false }) ((b + 4) % 2 ^ 32)
    (effect_passes h.core (in_text x h.core a l.text.text h.front t) null)
    (record {
      new = advanced h.core;
      goes = refl;
      shows = record { registers = h.shows.registers; memory = h.shows.memory; shift = h.shows.shift; skip = refl };
      heads = record { front = refl; back = to; text = refl; data_start = refl; stopped = refl };
    }))
    (skipped x h.core null)

-- ---- branches

-- a branch that leads to an address, with a core of the lines
pub branch_at_front : (x : Setting) (k : ℕ) (c d : lines.Core) (a b to : ℕ) (rest output : List ℕ) (n : Noted) (i : Inst) → IsSetting x
    → At x k c a b rest output n → IsInText x a → fetched x a ≡ Some i → c.skip ≡ false → loaded_at i c ≡ None → stored_at i c ≡ None
    → ((core : Core) → Faces x c a b i core → Leads core (machine.executed core i) d to)
    → Arrives x (suc k) d b to rest output n
branch_at_front x k c d a b to rest output n i s h t f run loads stores does =
    let face = faces x k c a b rest output n i s h t f in
    let effect = effect_runs h.core i face.text (sym h.shows.skip ∙ run) face.decodes in
    step_at x k c d a b to rest output n [] h
    (leads_by h.core (effect_of h.core) (machine.executed h.core i) d to effect (does h.core face))
    (accesses_shown x c h.core i h.shows face.decodes ∙ no_accesses x c i loads stores)

-- the data begin where the lines have them, also in the state that the machine comes to
pub starts_at : (x : Setting) (k : ℕ) (c : lines.Core) (a b : ℕ) (rest output : List ℕ) (n : Noted) → IsSetting x → (h : Arrives x k c a b rest output n)
    → h.core.data_start ≡ x.addresses.data_start
starts_at x k c a b rest output n s h = (subst (λ p. IsLater x.start (state_of p)) h.runs (s.keeps k)).text.data_from ∙ s.starts

-- what is noted at a step
pub noted_next : (x : Setting) (k : ℕ) (s t : State) (n : Noted) → run_of k x.start ≡ Running s → noting.noted (map_in x) x.start k ≡ n
    → run_of (suc k) x.start ≡ Running t → noting.noted (map_in x) x.start (suc k) ≡ arrived (map_in x) t.core (with_accesses (accesses_in (map_in x) s.core) n)
unfolding noting.noted
noted_next x k s t n r h next =
    ap (λ p. stepped (map_in x) p (run_of (suc k) x.start) (noting.noted (map_in x) x.start k)) r
    ∙ (ap (λ q. stepped (map_in x) (Running s) q (noting.noted (map_in x) x.start k)) next
    ∙ ap (λ n. stepped (map_in x) (Running s) (Running t) n) h)
