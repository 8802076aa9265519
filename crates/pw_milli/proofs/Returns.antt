-- The beginning and the end of a call: from the words that stand somewhere to the code, and the return.
use Rattle.std.proofs.Common.{ℕ, zero, suc, ◌+◌, ◌*◌, ◌^◌, ◌<◌, ◌≤◌, ◌≡◌, Bool, true, false, List, [], ◌∷◌, Option, Some, length, drop, refl, sym, ap, subst, ◌∙◌, arith, length-drop}
use Rattle.std.specs.Prelude.{◌==◌, if◌then◌else◌, slice_index}
use Rattle.std.proofs.lemmas.List.{get_or-drop}
use Rattle.pw_inst.specs.declared.Inst.{Inst}
use Rattle.pw_inst.specs.declared.Inst.TheVariants.{Bv}
use Rattle.pw_inst.specs.InstructionTable.{decoded}
use Rattle.pw_machine.specs.declared.ends.End.{End}
use Rattle.pw_machine.specs.Core.{Core, register, moved, advanced, word_at}
use Rattle.pw_machine.specs.Effect.{Goes, effect_of}
use Rattle.pw_machine.specs.Run.{State, Running, began, run_of}
use Rattle.pw_milli.specs.Calls.{StandsAt, Enters, returned, is_scratch, IsInside, StaysInside, Computes}
use Rattle.pw_milli.proofs.Small.{Small, at, inst_at, Arrives}
use Rattle.pw_milli.proofs.Bridge.{shown, Stands, Lies, Reaches, in_text, effect_runs, effect_passes, one_more, reaches, inst_inside, inside_more}

-- ---- code that stands

-- the words are decoded to the instructions, from the first on
abbrev pub Decodes : List ℕ → List Inst → Type 0
Decodes words [] = Unit {0}
Decodes [] (i ∷ code) = ⊥
Decodes (word ∷ words) (i ∷ code) = (decoded word ≡ Some i) × Decodes words code

pub decodes_at : (words : List ℕ) (code : List Inst) (k : ℕ) (i : Inst) → Decodes words code → inst_at code k ≡ Some i → (k < length words) × (decoded (slice_index words k) ≡ Some i)
decodes_at words [] k i d e = absurd cc
decodes_at [] (j ∷ code) k i d e = absurd d
decodes_at (word ∷ words) (j ∷ code) zero i d e = (omega arith, d.0 ∙ e)
decodes_at (word ∷ words) (j ∷ code) (suc k) i d e =
    let rest = decodes_at words code k i d.1 e in
    let lt : k < length words = rest.0 in
    (omega arith, rest.1)

-- code in the midst of words that stand, p words from the beginning
pub part_stands : (words : List ℕ) (code : List Inst) (a p : ℕ) (core : Core) → StandsAt words a core → Decodes (drop p words) code → p + length code ≤ length words → Stands code (a + 4 * p) core
part_stands words code a p core st d fits = record {
  aligned = omega (arith, st.aligned);
  above = omega (arith, st.above);
  within = omega (arith, st.within);
  text = st.text;
  each = λ k i e.
      let is = decodes_at (drop p words) code k i d e in
      let lt : p + k < length words = omega (arith, is.0, length-drop p words) in
      let place : a + 4 * (p + k) ≡ a + 4 * p + 4 * k = omega arith in
      let word : word_at core.memory (a + 4 * p + 4 * k) ≡ slice_index words (p + k) =
      subst (λ (n : ℕ). word_at core.memory n ≡ slice_index words (p + k)) place (st.each (p + k) lt) in
      ap decoded (word ∙ sym (get_or-drop p words k 0)) ∙ is.1;
}

-- ---- the beginning

same_core : (c : Core) (f b : ℕ) (n : Bool) → c.front ≡ f → c.back ≡ b → c.nullify ≡ n → record c { registers = c.registers; front = f; back = b; nullify = n } ≡ c
same_core c f b n e g h =
    let core = λ (f b : ℕ) (n : Bool). record c { registers = c.registers; front = f; back = b; nullify = n } in
    ap (λ (x : ℕ). core x b n) (sym e) ∙ ap (λ (x : ℕ). core c.front x n) (sym g) ∙ ap (λ (x : Bool). core c.front c.back x) (sym h)

started : (words : List ℕ) (a : ℕ) (s : State) → Enters words a s → run_of 0 s ≡ Running s
unfolding run_of
started words a s h = ap (λ (o : Option End). began o s) h.stopped

pub enters : (top : ℕ) (words : List ℕ) (a : ℕ) (s : State) → Enters words a s → Reaches top s a 0 (at 0 (slice_index s.core.registers))
enters top words a s h =
    let front : s.core.front ≡ a + 4 * 0 = omega (arith, h.front) in
    let back : s.core.back ≡ a + 4 * (0 + 1) = omega (arith, h.back) in
    let core : shown s.core a (at 0 (slice_index s.core.registers)) s.core.registers ≡ s.core =
    same_core s.core (a + 4 * 0) (a + 4 * (0 + 1)) false front back h.nullify in
    record {
      registers = s.core.registers;
      runs = started words a s h ∙ ap (λ (c : Core). Running (record s { core = c })) (sym core);
      holds = record {
        count = h.registers.count;
        reads = λ r. refl;
        kept = λ r k. refl;
        in_range = h.registers.words;
      };
      path = λ k mid lt e. absurd (omega arith);
    }

-- ---- from one part of the code to the next

pub moves : (top : ℕ) (s : State) (a p m : ℕ) (f : ℕ → ℕ) → Reaches top s a m (at p f) → Reaches top s (a + 4 * p) m (at 0 f)
moves top s a p m f r =
    let front : a + 4 * p ≡ a + 4 * p + 4 * 0 = omega arith in
    let back : a + 4 * (p + 1) ≡ a + 4 * p + 4 * (0 + 1) = omega arith in
    let placed = λ (f b : ℕ). record s.core { registers = r.registers; front = f; back = b; nullify = false } in
    record {
      registers = r.registers;
      runs = r.runs ∙ ap (λ (n : ℕ). Running (record s { core = placed n (a + 4 * (p + 1)) })) front ∙ ap (λ (n : ℕ). Running (record s { core = placed (a + 4 * p + 4 * 0) n })) back;
      holds = r.holds;
      path = r.path;
    }

-- ---- the return

-- the two steps of `BV,n 0(link)`: the branch, and the nullified word behind it
pub returns : (top : ℕ) (s : State) (a m k link : ℕ) (code : List Inst) (f : ℕ → ℕ) → Lies top code a s.core → (r : Reaches top s a m (at k f)) → k + 1 ≤ length code → inst_at code k ≡ Some (Bv link true) → is_scratch link ≡ false → (run_of (m + 2) s ≡ Running (returned s link r.registers)) × StaysInside s.core.front top (m + 2) s
returns top s a m k link code f st r le e sc =
    let core = shown s.core a (at k f) r.registers in
    let to = register s.core link in
    let same : register core link ≡ to = ap (λ (v : ℕ). if link == 0 then 0 else v) (r.holds.kept link sc) in
    let one : effect_of core ≡ Goes (moved core to true) =
    effect_runs core (Bv link true) (in_text s.core code a k st.stands (omega arith)) refl (st.stands.each k (Bv link true) e) ∙ ap (λ (n : ℕ). Goes (moved core n true)) same in
    let two : effect_of (moved core to true) ≡ Goes (advanced (moved core to true)) =
    effect_passes (moved core to true) (in_text s.core code a (k + 1) st.stands le) refl in
    let count : m + 1 + 1 ≡ m + 2 = omega arith in
    let branched : run_of (m + 1) s ≡ Running (record s { core = moved core to true }) = one_more s m core (moved core to true) r.runs one in
    let first : StaysInside s.core.front top (m + 1) s =
    inside_more s.core.front top m s (record s { core = core }) r.path r.runs (inst_inside top a k code s.core (Bv link true) f r.registers st le e refl) in
    let last : IsInside s.core.front top (moved core to true) = record { above = omega (arith, st.low); below = omega (arith, st.high, le); quiet = λ unset. absurd cc } in (
      subst (λ (n : ℕ). run_of n s ≡ Running (returned s link r.registers)) count (one_more s (m + 1) (moved core to true) (advanced (moved core to true)) branched two),
      subst (λ (n : ℕ). StaysInside s.core.front top n s) count (inside_more s.core.front top (m + 1) s (record s { core = moved core to true }) first branched last),
    )

-- ---- whole calls

-- code that stands at the beginning of words that stand
pub front_stands : (words : List ℕ) (code : List Inst) (a : ℕ) (core : Core) → StandsAt words a core → Decodes words code → length code ≤ length words → Stands code a core
front_stands words code a core st d fits =
    let place : a + 4 * 0 ≡ a = omega arith in
    subst (λ (n : ℕ). Stands code n core) place (part_stands words code a 0 core st d (omega arith))

-- the same with where they stand
pub part_lies : (words : List ℕ) (code : List Inst) (a p : ℕ) (s : State) → Enters words a s → Decodes (drop p words) code → p + length code ≤ length words → Lies (a + 4 * length words) code (a + 4 * p) s.core
part_lies words code a p s h d fits = record { stands = part_stands words code a p s.core h.stands d fits; low = omega (arith, h.front); high = omega (arith, fits) }

pub front_lies : (words : List ℕ) (code : List Inst) (a : ℕ) (s : State) → Enters words a s → Decodes words code → length code ≤ length words → Lies (a + 4 * length words) code a s.core
front_lies words code a s h d fits = record { stands = front_stands words code a s.core h.stands d fits; low = omega (arith, h.front); high = omega (arith, fits) }

-- the machine comes where the small machine arrives
pub comes : (top : ℕ) (s : State) (a m bound place : ℕ) (code : List Inst) (w : Small) (Q : (ℕ → ℕ) → Type 0) → Lies top code a s.core → Reaches top s a m w → (h : Arrives code bound w place Q) → Reaches top s a (m + h.steps) (at place h.last)
comes top s a m bound place code w Q st r h = reaches top h.steps s a code st m w (at place h.last) r h.runs

-- a return after the result is there
pub computes : (words : List ℕ) (address : ℕ) (s : State) (a m k bound : ℕ) (code : List Inst) (f : ℕ → ℕ) (IsResult : ℕ → Type 0) → Lies (address + 4 * length words) code a s.core → Reaches (address + 4 * length words) s a m (at k f) → s.core.front ≡ address → k + 1 ≤ length code → inst_at code k ≡ Some (Bv 31 true) → m + 2 ≤ bound → IsResult (f 29) → Computes words address s bound IsResult
computes words address s a m k bound code f IsResult st r starts le e soon result = record {
  steps = m + 2;
  soon = soon;
  registers = r.registers;
  runs = (returns (address + 4 * length words) s a m k 31 code f st r le e refl).0;
  inside = subst (λ (n : ℕ). StaysInside n (address + 4 * length words) (m + 2) s) starts (returns (address + 4 * length words) s a m k 31 code f st r le e refl).1;
  result = subst IsResult (sym (r.holds.reads 29)) result;
  kept = r.holds.kept;
  words = record { count = r.holds.count; words = λ n. subst (λ (v : ℕ). v < 2 ^ 32) (sym (r.holds.reads n)) (r.holds.in_range n) };
}

-- the next part of the code
pub on : (top : ℕ) (s : State) (a p n q m : ℕ) (f : ℕ → ℕ) → p + n ≡ q → Reaches top s (a + 4 * p) m (at n f) → Reaches top s (a + 4 * q) m (at 0 f)
on top s a p n q m f e r =
    let place : a + 4 * p + 4 * n ≡ a + 4 * q = omega arith in
    subst (λ (k : ℕ). Reaches top s k m (at 0 f)) place (moves top s (a + 4 * p) n m f r)

-- the first part
pub enters_part : (top : ℕ) (words : List ℕ) (a : ℕ) (s : State) → Enters words a s → Reaches top s (a + 4 * 0) 0 (at 0 (slice_index s.core.registers))
enters_part top words a s h =
    let place : a ≡ a + 4 * 0 = omega arith in
    subst (λ (k : ℕ). Reaches top s k 0 (at 0 (slice_index s.core.registers))) place (enters top words a s h)
