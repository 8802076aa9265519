-- A word that is no turn does the same whatever a register holds that it does not name.
use Rattle.std.proofs.Common.{ℕ, ◌≡◌, Bool, true, false, if◌then◌else◌, Some, List, [], ◌∷◌, ◌++◌, arith, refl, ap, sym, subst, ◌∙◌}
use Rattle.std.specs.Prelude.{◌==◌, Contains}
use Rattle.std.specs.List.{list_any}
use Rattle.std.proofs.lemmas.List.Folds.{list_any_at, list_any-append}
use Rattle.pw_inst.specs.declared.Inst.{Inst}
use Rattle.pw_inst.specs.declared.Inst.TheVariants.{Ldb, Ldh, Ldw, Ldo, Stb, Sth, Stw, Ldil, And, Or, Xor, Sub, Addl, Vshd, Mtctl, Comclr, Subi, Extru, Extrs, Zdep, Combt, Combf, Bl, Bv, Ble, Break}
use Rattle.pw_inst.specs.Computing.{Action, Puts, Loads, Stores, Shifts, bytes_of_width, action, registers_put, source_registers, target_registers}
use Rattle.pw_delay.specs.Filling.{goes_on, have_common, but_zero}
use Rattle.pw_run_languages.specs.Addresses.{Addresses}
use Rattle.pw_run_languages.specs.Acts.{Core, Act, Acts, Full, Fails, register, put, with_register, number_at, with_number, is_open, act_of, action_of, executed, acts}
use Rattle.pw_law_slots.specs.Passing.{past, does_not_turn}

-- what pw_inst promises of actions
abbrev pub BySources : Type 0
BySources = (i : Inst) (f g : ℕ → ℕ) (shift : ℕ) → ((r : ℕ) → Contains (source_registers i) r → f r ≡ g r) → action f shift i ≡ action g shift i

abbrev pub ByTargets : Type 0
ByTargets = (i : Inst) (f : ℕ → ℕ) (shift : ℕ) → registers_put (action f shift i) ≡ target_registers i

-- ---- registers

-- a register that is not 0 takes a word
abbrev put_in : ℕ → ℕ → Core → Core
put_in r v c = record c { registers = put r v c.registers }

abbrev put_by : Bool → ℕ → ℕ → Core → Core
put_by zero r v c = if zero then c else put_in r v c

both : (s t : Bool) (a b r : ℕ) → (r == a) ≡ true → (r == b) ≡ true → (a == b) ≡ true
both s t a b r e d = grind arith

put_twice : (a b v w : ℕ) (f : ℕ → ℕ) (r : ℕ) → (a == b) ≡ false → put a v (put b w f) r ≡ put b w (put a v f) r
put_twice a b v w f r other = by (r == a) (r == b) refl refl
  where
    by : (s t : Bool) → (r == a) ≡ s → (r == b) ≡ t → (if s then v else if t then w else f r) ≡ (if t then w else if s then v else f r)
    by true true e d = absurd (let same = both true true a b r e d in cc)
    by true false e d = refl
    by false true e d = refl
    by false false e d = refl

put_past : (zero : Bool) (q r u v : ℕ) (c : Core) → (q == r) ≡ false → put_by zero q u (put_in r v c) ≡ put_in r v (put_by zero q u c)
put_past true q r u v c other = refl
put_past false q r u v c other = λ i. record c { registers = λ s. put_twice q r u v c.registers s other i }

reads_past : (zero : Bool) (r v s : ℕ) (c : Core) → (s == r) ≡ false → (if zero then 0 else put r v c.registers s) ≡ (if zero then 0 else c.registers s)
reads_past true r v s c other = refl
reads_past false r v s c other = ap (λ (t : Bool). if t then v else c.registers s) other

-- ---- registers of lists

-- what a list has in common with one register
named : (xs : List ℕ) (r s : ℕ) → have_common xs (r ∷ []) ≡ false → Contains xs s → (s == r) ≡ false
named xs r s none there = by (s == r) refl
  where
    by : (t : Bool) → (s == r) ≡ t → (s == r) ≡ false
    by false e = e
    by true e =
        let at : list_any (λ a. list_any (λ b. a == b) (r ∷ [])) xs ≡ true =
        list_any_at (λ a. list_any (λ b. a == b) (r ∷ [])) xs there.0 s there.1 (rw there.2 (rw e refl)) in
        absurd (let no : true ≡ false = sym at ∙ none in cc)

first_part : (p : ℕ → Bool) (xs ys : List ℕ) → list_any p (xs ++ ys) ≡ false → list_any p xs ≡ false
first_part p xs ys h = let e = list_any-append p xs ys in grind arith

pub second_part : (p : ℕ → Bool) (xs ys : List ℕ) → list_any p (xs ++ ys) ≡ false → list_any p ys ≡ false
second_part p xs ys h = let e = list_any-append p xs ys in grind arith

-- ---- actions

-- an action goes on whatever the registers hold
goes_alike : (i : Inst) (f g : ℕ → ℕ) (s t : ℕ) → goes_on (action f s i) ≡ goes_on (action g t i)
goes_alike (Ldb im b q) f g s t = refl
goes_alike (Ldh im b q) f g s t = refl
goes_alike (Ldw im b q) f g s t = refl
goes_alike (Ldo im b q) f g s t = refl
goes_alike (Stb a im b) f g s t = refl
goes_alike (Sth a im b) f g s t = refl
goes_alike (Stw a im b) f g s t = refl
goes_alike (Ldil im q) f g s t = refl
goes_alike (And r1 r2 q) f g s t = refl
goes_alike (Or r1 r2 q) f g s t = refl
goes_alike (Xor r1 r2 q) f g s t = refl
goes_alike (Sub r1 r2 q) f g s t = refl
goes_alike (Addl r1 r2 q) f g s t = refl
goes_alike (Vshd r1 r2 q) f g s t = refl
goes_alike (Mtctl a) f g s t = refl
goes_alike (Comclr c n r1 r2 q) f g s t = refl
goes_alike (Subi im a q) f g s t = refl
goes_alike (Extru a p len q) f g s t = refl
goes_alike (Extrs a p len q) f g s t = refl
goes_alike (Zdep a p len q) f g s t = refl
goes_alike (Combt c r1 r2 disp) f g s t = refl
goes_alike (Combf c r1 r2 disp) f g s t = refl
goes_alike (Bl disp q n) f g s t = refl
goes_alike (Bv b n) f g s t = refl
goes_alike (Ble b n) f g s t = refl
goes_alike (Break im5 im13) f g s t = refl

action_past : (w : Addresses) (a : Action) (r v : ℕ) (c : Core) → goes_on a ≡ true → ((s : ℕ) → Contains (registers_put a) s → (s == r) ≡ false)
    → act_of w a (put_in r v c) ≡ past (put_in r v) (act_of w a c)
action_past w (Puts q word) r v c goes apart = ap Acts (put_past (q == 0) q r word v c (apart q (0, omega arith, refl)))
action_past w (Loads width a q) r v c goes apart = by (is_open w a (bytes_of_width width))
  where
    word : ℕ
    word = number_at (bytes_of_width width) c.memory a

    by : (o : Bool) → (if o then Acts (put_by (q == 0) q word (put_in r v c)) else Fails) ≡ past (put_in r v) (if o then Acts (put_by (q == 0) q word c) else Fails)
    by true = ap Acts (put_past (q == 0) q r word v c (apart q (0, omega arith, refl)))
    by false = refl
action_past w (Stores width a word) r v c goes apart = by (is_open w a (bytes_of_width width))
  where
    stored : Core → Core
    stored d = record d { memory = with_number (bytes_of_width width) word a d.memory }

    by : (o : Bool) → (if o then Acts (stored (put_in r v c)) else Fails) ≡ past (put_in r v) (if o then Acts (stored c) else Fails)
    by true = refl
    by false = refl
action_past w (Shifts n) r v c goes apart = refl
action_past w a r v c goes apart = absurd cc

action_same : BySources → (i : Inst) (r v : ℕ) (c : Core) → have_common (source_registers i ++ target_registers i) (r ∷ []) ≡ false
    → action_of i (put_in r v c) ≡ action_of i c
action_same sources i r v c none =
    let read = first_part (λ a. list_any (λ b. a == b) (r ∷ [])) (source_registers i) (target_registers i) none in
    sources i (λ s. register (put_in r v c) s) (λ s. register c s) c.shift (λ s there. reads_past (s == 0) r v s c (named (source_registers i) r s read there))

pub actions_past : BySources → (i : Inst) (r v : ℕ) (c : Core) → have_common (source_registers i ++ target_registers i) (but_zero (r ∷ [])) ≡ false
    → action_of i (with_register r v c) ≡ action_of i c
actions_past sources i r v c none = by (r == 0) none
  where
    by : (zero : Bool) → have_common (source_registers i ++ target_registers i) (if zero then [] else r ∷ []) ≡ false → action_of i (put_by zero r v c) ≡ action_of i c
    by true h = refl
    by false h = action_same sources i r v c h

executed_past : BySources → ByTargets → (w : Addresses) (i : Inst) (r v : ℕ) (c : Core) → does_not_turn i ≡ true → have_common (source_registers i ++ target_registers i) (r ∷ []) ≡ false
    → executed w i (put_in r v c) ≡ past (put_in r v) (executed w i c)
executed_past sources targets w i r v c goes none =
    let written = second_part (λ a. list_any (λ b. a == b) (r ∷ [])) (source_registers i) (target_registers i) none in
    ap (λ a. act_of w a (put_in r v c)) (action_same sources i r v c none)
    ∙ action_past w (action_of i c) r v c (goes_alike i (λ s. register c s) (λ s. 0) c.shift 0 ∙ goes)
    (λ s there. named (target_registers i) r s written (subst (λ ts. Contains ts s) (targets i (λ q. register c q) c.shift) there))

past_nothing : (a : Act) → a ≡ past (λ c. c) a
past_nothing (Acts c) = refl
past_nothing Full = refl
past_nothing Fails = refl

pub runs : (w : Addresses) (i : Inst) (c : Core) → c.skip ≡ false → acts w (Some i) c ≡ executed w i c
runs w i c run = ap (λ (t : Bool). if t then Acts (record c { skip = false }) else executed w i c) run

pub words_past : BySources → ByTargets → (w : Addresses) (i : Inst) (r v : ℕ) (c : Core) → does_not_turn i ≡ true → c.skip ≡ false
    → have_common (source_registers i ++ target_registers i) (but_zero (r ∷ [])) ≡ false → acts w (Some i) (with_register r v c) ≡ past (with_register r v) (acts w (Some i) c)
words_past sources targets w i r v c goes run none = by (r == 0) none
  where
    by : (zero : Bool) → have_common (source_registers i ++ target_registers i) (if zero then [] else r ∷ []) ≡ false
        → acts w (Some i) (put_by zero r v c) ≡ past (λ d. put_by zero r v d) (acts w (Some i) c)
    by true h = past_nothing (acts w (Some i) c)
    by false h =
        runs w i (put_in r v c) run
        ∙ executed_past sources targets w i r v c goes h
        ∙ ap (past (put_in r v)) (sym (runs w i c run))

-- ---- what stays

act_same : (c d : Core) → Acts c ≡ Acts d → c ≡ d
act_same c d e = cc

keeps_put : (zero none : Bool) (q u r : ℕ) (c : Core) → (q == r) ≡ false
    → (if none then 0 else (put_by zero q u c).registers r) ≡ (if none then 0 else c.registers r)
keeps_put zero true q u r c other = refl
keeps_put true false q u r c other = refl
keeps_put false false q u r c other = let e : (r == q) ≡ false = grind arith in ap (λ (t : Bool). if t then u else c.registers r) e

skip_put : (zero : Bool) (q u : ℕ) (c : Core) → (put_by zero q u c).skip ≡ c.skip
skip_put true q u c = refl
skip_put false q u c = refl

Stays : ℕ → Core → Core → Type 0
Stays r c d = (register d r ≡ register c r) × (d.skip ≡ c.skip)

action_keeps : (w : Addresses) (a : Action) (r : ℕ) (c d : Core) → goes_on a ≡ true → ((s : ℕ) → Contains (registers_put a) s → (s == r) ≡ false) → act_of w a c ≡ Acts d → Stays r c d
unfolding Stays
action_keeps w (Puts q word) r c d goes apart e =
    subst (λ d. (register d r ≡ register c r) × (d.skip ≡ c.skip)) (act_same _ d e)
    (keeps_put (q == 0) (r == 0) q word r c (apart q (0, omega arith, refl)), skip_put (q == 0) q word c)
action_keeps w (Loads width a q) r c d goes apart e = by (is_open w a (bytes_of_width width)) e
  where
    word : ℕ
    word = number_at (bytes_of_width width) c.memory a

    by : (o : Bool) → (if o then Acts (put_by (q == 0) q word c) else Fails) ≡ Acts d → (register d r ≡ register c r) × (d.skip ≡ c.skip)
    by true e = subst (λ d. (register d r ≡ register c r) × (d.skip ≡ c.skip)) (act_same _ d e)
        (keeps_put (q == 0) (r == 0) q word r c (apart q (0, omega arith, refl)), skip_put (q == 0) q word c)
    by false e = absurd cc
action_keeps w (Stores width a word) r c d goes apart e = by (is_open w a (bytes_of_width width)) e
  where
    by : (o : Bool) → (if o then Acts (record c { memory = with_number (bytes_of_width width) word a c.memory }) else Fails) ≡ Acts d → (register d r ≡ register c r) × (d.skip ≡ c.skip)
    by true e = subst (λ d. (register d r ≡ register c r) × (d.skip ≡ c.skip)) (act_same _ d e) (refl, refl)
    by false e = absurd cc
action_keeps w (Shifts n) r c d goes apart e = subst (λ d. (register d r ≡ register c r) × (d.skip ≡ c.skip)) (act_same _ d e) (refl, refl)
action_keeps w a r c d goes apart e = absurd cc

pub words_keep : ByTargets → (w : Addresses) (i : Inst) (r : ℕ) (c d : Core) → does_not_turn i ≡ true → c.skip ≡ false → have_common (target_registers i) (r ∷ []) ≡ false
    → acts w (Some i) c ≡ Acts d → (register d r ≡ register c r) × (d.skip ≡ false)
unfolding Stays
words_keep targets w i r c d goes run none does =
    let stays = action_keeps w (action_of i c) r c d (goes_alike i (λ s. register c s) (λ s. 0) c.shift 0 ∙ goes)
    (λ s there. named (target_registers i) r s none (subst (λ ts. Contains ts s) (targets i (λ q. register c q) c.shift) there)) (sym (runs w i c run) ∙ does) in
    (stays.0, stays.1 ∙ run)

-- ---- it never stops the run

never_full : (w : Addresses) (a : Action) (c : Core) → goes_on a ≡ true → act_of w a c ≡ Full → ⊥
never_full w (Puts q word) c goes e = cc
never_full w (Loads width a q) c goes e = by (is_open w a (bytes_of_width width)) e
  where
    by : (o : Bool) → (if o then Acts (with_register q (number_at (bytes_of_width width) c.memory a) c) else Fails) ≡ Full → ⊥
    by true e = cc
    by false e = cc
never_full w (Stores width a word) c goes e = by (is_open w a (bytes_of_width width)) e
  where
    by : (o : Bool) → (if o then Acts (record c { memory = with_number (bytes_of_width width) word a c.memory }) else Fails) ≡ Full → ⊥
    by true e = cc
    by false e = cc
never_full w (Shifts n) c goes e = cc
never_full w a c goes e = absurd cc

pub words_never_stop : (w : Addresses) (i : Inst) (c : Core) → does_not_turn i ≡ true → c.skip ≡ false → acts w (Some i) c ≡ Full → ⊥
words_never_stop w i c goes run e =
    never_full w (action_of i c) c (goes_alike i (λ s. register c s) (λ s. 0) c.shift 0 ∙ goes) (sym (runs w i c run) ∙ e)

-- ---- nor passes over the next word

action_clears : (w : Addresses) (a : Action) (c d : Core) → goes_on a ≡ true → act_of w a c ≡ Acts d → d.skip ≡ c.skip
action_clears w (Puts q word) c d goes e = ap (λ d. d.skip) (sym (act_same _ d e)) ∙ skip_put (q == 0) q word c
action_clears w (Loads width a q) c d goes e = by (is_open w a (bytes_of_width width)) e
  where
    word : ℕ
    word = number_at (bytes_of_width width) c.memory a

    by : (o : Bool) → (if o then Acts (put_by (q == 0) q word c) else Fails) ≡ Acts d → d.skip ≡ c.skip
    by true e = ap (λ d. d.skip) (sym (act_same _ d e)) ∙ skip_put (q == 0) q word c
    by false e = absurd cc
action_clears w (Stores width a word) c d goes e = by (is_open w a (bytes_of_width width)) e
  where
    by : (o : Bool) → (if o then Acts (record c { memory = with_number (bytes_of_width width) word a c.memory }) else Fails) ≡ Acts d → d.skip ≡ c.skip
    by true e = ap (λ d. d.skip) (sym (act_same _ d e))
    by false e = absurd cc
action_clears w (Shifts n) c d goes e = ap (λ d. d.skip) (sym (act_same _ d e))
action_clears w a c d goes e = absurd cc

pub words_clear : (w : Addresses) (i : Inst) (c d : Core) → does_not_turn i ≡ true → c.skip ≡ false → acts w (Some i) c ≡ Acts d → d.skip ≡ false
words_clear w i c d goes run does =
    action_clears w (action_of i c) c d (goes_alike i (λ s. register c s) (λ s. 0) c.shift 0 ∙ goes) (sym (runs w i c run) ∙ does) ∙ run
