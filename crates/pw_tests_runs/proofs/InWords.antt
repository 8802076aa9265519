-- The simplest places that serve, where a function saves no registers for others: each temporary has a word of its own, and the
-- registers of the webs that the function enters are saved.
use Rattle.std.specs.Prelude.{ℕ, zero, suc, Bool, true, false, if◌then◌else◌, ℤ, pos, neg_ℤ, ◌≡◌, ◌≢◌, ◌≤◌, ◌<◌, ◌+◌, ◌*◌, Option, Some, None, List, [], ◌∷◌, length, map, slice_get, Contains, negsuc}
use Rattle.std.specs.List.{AllByRecursion}
use Rattle.std.proofs.Common.{arith, subst, sym, ap, refl, inl, inr, ◌∙◌}
use Rattle.std.proofs.Math.IntN.{neg_ℤ-neg_ℤ}
use Rattle.std.proofs.lemmas.List.Elements.{All-contains, All-from_recursion, Contains-append_right, Contains-append_cases, Contains-push_cases}
use Rattle.pw_db.specs.Limits.{first_register, register_count}
use Rattle.pw_db.specs.declared.database.Web.{Web}
use Rattle.pw_db.specs.declared.database.Role.{Role}
use Rattle.pw_db.specs.declared.database.Role.TheVariants.{Entry}
use Rattle.pw_db.specs.Database.{EachTwo, IsWeb, IsDirectives}
use Rattle.pw_webflow.specs.declared.web.WebFn.{WebFn}
use Rattle.pw_alloc.specs.declared.located.Place.{Place}
use Rattle.pw_alloc.specs.declared.located.Place.TheVariants.{Slot, Reg}
use Rattle.pw_alloc.specs.declared.located.Located.{Located}
use Rattle.pw_alloc.specs.Allocation.{is_entered, entered_from, saved_of, slots_from}
use Rattle.pw_alloc.specs.Frames.{head_size, temp_offset, slots_begin, last_reach}
use Rattle.pw_run_languages.specs.Serving.{Interfere, by_operation, by_start, parameters, IsKeptOver, slots_alone, Changes, places, enters, saves, Serves}
use Rattle.std.proofs.lemmas.Bool.{cases_lt}
use Rattle.std.proofs.lemmas.Option.{slice_get_past}
use Rattle.pw_flow.specs.declared.flow.FlowFn.{FlowFn}
use Rattle.pw_db.specs.declared.database.Directives.{Directives}
use Rattle.pw_webflow.specs.Direction.{directed}
use Rattle.pw_law_direction.proofs.Elements.{nowhere, first-there}
use Rattle.pw_law_direction.proofs.Entered.{entered_by, enters_so, saved_so, so_saved}

unfoldable pub in_words : WebFn → Located
in_words f = record {
  body = f;
  places = slots_from (head_size f) (length (saved_of f)) 0 f.temps;
  saved = saved_of f;
  frame = last_reach (slots_begin (head_size f) (length (saved_of f)) f.temps) f.slots;
}

-- ---- saved registers rise

all_step : (P : ℕ → Type 0) (b : Bool) (r : ℕ) (rest : List ℕ) → P r → AllByRecursion P rest → AllByRecursion P (if b then r ∷ rest else rest)
all_step P true r rest here all = (here, all)
all_step P false r rest here all = all

above : (webs : List (Web × Role)) (low r more : ℕ) → low < r → AllByRecursion (λ q. low < q) (entered_from webs r more)
unfolding entered_from
above webs low r zero up = tt
above webs low r (suc more) up =
    let next : low < suc r = omega (arith, up) in
    all_step (λ q. low < q) (is_entered webs r) r (entered_from webs (suc r) more) up (above webs low (suc r) more next)

rise_step : (b : Bool) (r : ℕ) (rest : List ℕ) → AllByRecursion (λ q. r < q) rest → EachTwo (λ r q. r < q) rest → EachTwo (λ r q. r < q) (if b then r ∷ rest else rest)
rise_step true r rest all rise = (all, rise)
rise_step false r rest all rise = rise

rises : (webs : List (Web × Role)) (r more : ℕ) → EachTwo (λ r q. r < q) (entered_from webs r more)
unfolding entered_from
rises webs r zero = tt
rises webs r (suc more) =
    let up : r < suc r = omega arith in
    rise_step (is_entered webs r) r (entered_from webs (suc r) more) (above webs r (suc r) more up) (rises webs (suc r) more)

-- ---- words of the frame

differ : (f : WebFn) (d t : ℕ) → Interfere f d t → d ≢ t
differ f d t (by_operation o after end there defined lives apart) = apart
differ f d t (by_start block first low lives apart) = apart
differ f d t (parameters low high apart) = apart

long : (head saved i n : ℕ) → length (slots_from head saved i n) ≡ n
long head saved i zero = refl
long head saved i (suc n) = ap suc (long head saved (suc i) n)

at_number : (head saved i n k : ℕ) → k < n → slice_get (slots_from head saved i n) k ≡ Some (Slot (temp_offset head saved (i + k)))
at_number head saved i zero k h = absurd (let l : k < 0 = h in omega (arith, l))
at_number head saved i (suc n) zero h =
    let e : i ≡ i + 0 = omega arith in
    ap (λ (j : ℕ). Some (Slot (temp_offset head saved j))) e
at_number head saved i (suc n) (suc k) h =
    let low : k < n = omega (arith, h) in
    let e : suc i + k ≡ i + suc k = omega arith in
    at_number head saved (suc i) n k low ∙ ap (λ (j : ℕ). Some (Slot (temp_offset head saved j))) e

offset_in : Option Place → ℤ
offset_in (Some (Slot offset)) = offset
offset_in (Some (Reg r)) = pos 0
offset_in None = pos 0

size : ℤ → ℕ
size (pos n) = n
size (negsuc n) = 0

one_number : (head saved i j : ℕ) → temp_offset head saved i ≡ temp_offset head saved j → i ≡ j
unfolding size
one_number head saved i j e =
    let both : pos (head + 4 * saved + 4 * (i + 1)) ≡ pos (head + 4 * saved + 4 * (j + 1)) =
    sym (neg_ℤ-neg_ℤ (pos (head + 4 * saved + 4 * (i + 1)))) ∙ (ap neg_ℤ e ∙ neg_ℤ-neg_ℤ (pos (head + 4 * saved + 4 * (j + 1)))) in
    let sizes : head + 4 * saved + 4 * (i + 1) ≡ head + 4 * saved + 4 * (j + 1) = ap size both in
    omega (arith, sizes)

-- what is needed is in another word
kept_apart : (f : WebFn) (d t : ℕ) → t < f.temps → Interfere f d t
    → slice_get (slots_from (head_size f) (length (saved_of f)) 0 f.temps) t ≢ slice_get (slots_from (head_size f) (length (saved_of f)) 0 f.temps) d
unfolding offset_in
kept_apart f d t low clash same =
    let head = head_size f in
    let saved = length (saved_of f) in
    let here = at_number head saved 0 f.temps t low in
    elim (cases_lt d f.temps) [
      | inl within ↦
          let both : Some (Slot (temp_offset head saved (0 + t))) ≡ Some (Slot (temp_offset head saved (0 + d))) =
          sym here ∙ (same ∙ at_number head saved 0 f.temps d within) in
          let one : 0 + t ≡ 0 + d = one_number head saved (0 + t) (0 + d) (ap offset_in both) in
          differ f d t clash (omega (arith, one))
      | inr past ↦
          let count : length (slots_from head saved 0 f.temps) ≡ f.temps = long head saved 0 f.temps in
          let beyond : length (slots_from head saved 0 f.temps) ≤ d = omega (arith, count, past) in
          let none : Some (Slot (temp_offset head saved (0 + t))) ≡ None =
          sym here ∙ (same ∙ slice_get_past (slots_from head saved 0 f.temps) d beyond) in
          absurd cc
    ]

-- ---- no register is a temporary's

abbrev KeptIn : WebFn → Option Place → Type 0
KeptIn f (Some place) = IsKeptOver f place
KeptIn f None = Unit {0}

all_kept : (f : WebFn) (head saved i n k : ℕ) → KeptIn f (slice_get (slots_from head saved i n) k)
all_kept f head saved i zero k = tt
all_kept f head saved i (suc n) zero = tt
all_kept f head saved i (suc n) (suc k) = all_kept f head saved (suc i) n k

abbrev pub IsSlot : Place → Type 0
IsSlot (Slot offset) = Unit {0}
IsSlot (Reg r) = ⊥

pub all_slots : (head saved i n : ℕ) → AllByRecursion IsSlot (slots_from head saved i n)
all_slots head saved i zero = tt
all_slots head saved i (suc n) = (tt, all_slots head saved (suc i) n)

no_register : (head saved n r : ℕ) → Contains (slots_from head saved 0 n) (Reg r) → ⊥
no_register head saved n r c =
    All-contains IsSlot (slots_from head saved 0 n) (Reg r) (All-from_recursion IsSlot (slots_from head saved 0 n) (all_slots head saved 0 n)) c

alone : (head saved i n : ℕ) → slots_alone (slots_from head saved i n) ≡ slots_from head saved i n
alone head saved i zero = refl
alone head saved i (suc n) = ap (λ (rest : List Place). Slot (temp_offset head saved i) ∷ rest) (alone head saved (suc i) n)

-- ---- together

changes : (f : WebFn) → f.directives.saves ≡ [] → AllByRecursion IsWeb (map (λ w. w.0) f.directives.webs) → (r : ℕ) → Changes f (in_words f) r → Contains (saved_of f) r
unfolding in_words
changes f none lawful r (places c high apart) = absurd (no_register (head_size f) (length (saved_of f)) f.temps r c)
changes f none lawful r (saves c) = absurd (nowhere r (subst (λ (rs : List ℕ). Contains rs r) none c))
changes f none lawful r (enters has) =
    let web : IsWeb has.web = All-contains IsWeb (map (λ w. w.0) f.directives.webs) has.web
    (All-from_recursion IsWeb (map (λ w. w.0) f.directives.webs) lawful)
    (map_there f.directives.webs (has.web, Entry) has.there) in
    let is : has.web.reg ≡ r = has.is in
    let low : first_register ≤ r = omega (arith, web.low, is) in
    let high : r < first_register + register_count = omega (arith, web.high, is) in
    so_saved f.directives.webs first_register register_count r low high (enters_so f.directives.webs has.web r has.there has.is)
  where
    map_there : (webs : List (Web × Role)) (w : Web × Role) → Contains webs w → Contains (map (λ w. w.0) webs) w.0
    map_there [] w c = absurd (nowhere w c)
    map_there (x ∷ rest) w c = elim (Contains-append_cases (x ∷ []) rest w c) [
      | inl first ↦ elim (Contains-push_cases [] x w first) [
        | inl none ↦ absurd (nowhere w none)
        | inr same ↦ subst (λ (w : Web × Role). Contains (map (λ w. w.0) (x ∷ rest)) w.0) same (first-there x.0 (map (λ w. w.0) rest))
      ]
      | inr later ↦ Contains-append_right (x.0 ∷ []) (map (λ w. w.0) rest) w.0 (map_there rest w later)
    ]

changed : (f : WebFn) (r : ℕ) → Contains (saved_of f) r → Changes f (in_words f) r
changed f r c =
    let k = saved_so f.directives.webs first_register register_count r c in
    let e = entered_by f.directives.webs r k.2 in
    enters (record { web = e.web; there = e.there; is = e.is })

serves : (f : WebFn) → f.directives.saves ≡ [] → AllByRecursion IsWeb (map (λ w. w.0) f.directives.webs) → Serves f (in_words f)
unfolding in_words
serves f none lawful =
    let head = head_size f in
    let saved = length (saved_of f) in
    let words : slots_alone (slots_from head saved 0 f.temps) ≡ slots_from head saved 0 f.temps = alone head saved 0 f.temps in
    let count : length (slots_alone (slots_from head saved 0 f.temps)) ≡ f.temps = ap length words ∙ long head saved 0 f.temps in
    record {
      body = refl;
      count = long head saved 0 f.temps;
      apart = λ d t low clash. kept_apart f d t low clash;
      held = λ t place h e. subst (KeptIn f) e (all_kept f head saved 0 f.temps t);
      registers = λ r c. absurd (no_register head saved f.temps r c);
      saved = λ r. (changed f r, changes f none lawful r);
      order = rises f.directives.webs first_register register_count;
      words = words ∙ ap (slots_from head saved 0) (sym count);
      frame = ap (λ (n : ℕ). last_reach (slots_begin head saved n) f.slots) (sym count);
    }

pub words_serve : (f : FlowFn) (d : Directives) → IsDirectives d → d.saves ≡ [] → Serves (directed f d) (in_words (directed f d))
unfolding directed
words_serve f d directives none = serves (directed f d) none directives.each
