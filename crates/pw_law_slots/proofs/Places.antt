-- Places between items over which no word moves: what stands before is filled by itself, and so is what is left.
use Rattle.std.proofs.Common.{ℕ, ◌≡◌, Bool, true, false, if◌then◌else◌, ◌⊎◌, inl, inr, None, Some, List, [], ◌∷◌, ◌++◌, refl, ap, sym, subst, ◌∙◌, append_assoc}
use Rattle.std.specs.Prelude.{◌==◌, ◌&&◌, not}
use Rattle.pw_delay.specs.declared.items.Word.{Word}
use Rattle.pw_delay.specs.declared.items.Turn.{Turn}
use Rattle.pw_delay.specs.declared.items.Item.{Item}
use Rattle.pw_delay.specs.declared.items.Item.TheVariants.{Plain, Turns, Mark}
use Rattle.pw_delay.specs.Filling.{moves, drawn_near, compares, compared, with_slot, filled}
use Rattle.pw_delay.specs.Parts.{compared_by, takes_first, PartsAlone}
use Rattle.pw_run_languages.specs.LineRun.{from_mark, is_plain}
use Rattle.pw_law_slots.proofs.Leading.{mark_kept}
use Rattle.pw_law_slots.proofs.Turning.{both_left, both_right, not_true}

pub record IsCut (items before left : List Item) : Type 0 where
  pub parts : items ≡ before ++ left
  pub filled_parts : filled false items ≡ filled false before ++ filled (compared_by false before) left

pub cut_at_start : (items : List Item) → IsCut items [] items
cut_at_start items = record { parts = refl; filled_parts = refl }

pub cut_before : PartsAlone → (items before left : List Item) → items ≡ before ++ left → takes_first left ≡ false → IsCut items before left
cut_before alone items before left parts none = record { parts = parts; filled_parts = ap (filled false) parts ∙ alone false before left none }

pub compared_on : (behind : Bool) (xs ys : List Item) → compared_by behind (xs ++ ys) ≡ compared_by (compared_by behind xs) ys
compared_on behind [] ys = refl
compared_on behind (x ∷ xs) ys = compared_on (compared behind x) xs ys

-- ---- behind an item that is no word

record HasFirst (items : List Item) : Type 0 where
  first : Item
  rest : List Item
  is : items ≡ first ∷ rest

slot_first : (behind : Bool) (item : Item) (rest : List Item) → HasFirst (with_slot behind item rest)
slot_first behind (Plain w) (Turns turn None ∷ rest) = by (not behind && moves w.inst turn)
  where
    by : (t : Bool) → HasFirst (if t then Turns (drawn_near turn) (Some w) ∷ rest else Plain w ∷ Turns turn None ∷ rest)
    by true = record { first = Turns (drawn_near turn) (Some w); rest = rest; is = refl }
    by false = record { first = Plain w; rest = Turns turn None ∷ rest; is = refl }
slot_first behind item rest = record { first = item; rest = rest; is = refl }

filled_first : (behind : Bool) (xs : List Item) (item : Item) → HasFirst (filled behind (xs ++ item ∷ []))
filled_first behind [] item = slot_first behind item []
filled_first behind (x ∷ xs) item = slot_first behind x (filled (compared behind x) (xs ++ item ∷ []))

-- nothing is filled with nothing alone
pub filled_none : (behind : Bool) (items : List Item) → filled behind items ≡ [] → items ≡ []
filled_none behind [] e = refl
filled_none behind (item ∷ rest) e =
    let h = slot_first behind item (filled (compared behind item) rest) in
    let bad : h.first ∷ h.rest ≡ [] = sym h.is ∙ e in
    absurd cc

before_more : (behind : Bool) (item first : Item) (rest ys : List Item) → with_slot behind item (first ∷ (rest ++ ys)) ≡ with_slot behind item (first ∷ rest) ++ ys
before_more behind (Plain w) (Turns turn None) rest ys = by (not behind && moves w.inst turn)
  where
    by : (t : Bool) → (if t then Turns (drawn_near turn) (Some w) ∷ (rest ++ ys) else Plain w ∷ Turns turn None ∷ (rest ++ ys))
        ≡ (if t then Turns (drawn_near turn) (Some w) ∷ rest else Plain w ∷ Turns turn None ∷ rest) ++ ys
    by true = refl
    by false = refl
before_more behind item first rest ys = refl

before_some : (behind : Bool) (item : Item) (xs ys : List Item) → HasFirst xs → with_slot behind item (xs ++ ys) ≡ with_slot behind item xs ++ ys
before_some behind item xs ys h =
    subst (λ (l : List Item). with_slot behind item (l ++ ys) ≡ with_slot behind item l ++ ys) (sym h.is) (before_more behind item h.first h.rest ys)

-- an item that is no word takes no place
stands : (behind : Bool) (item : Item) (ys : List Item) → is_plain item ≡ false → with_slot behind item ys ≡ item ∷ ys
stands behind (Plain w) ys other = absurd cc
stands behind (Turns turn slot) ys other = refl
stands behind (Mark b) ys other = refl

filled_behind : (behind : Bool) (xs : List Item) (item : Item) (ys : List Item) → is_plain item ≡ false
    → filled behind (xs ++ item ∷ ys) ≡ filled behind (xs ++ item ∷ []) ++ filled (compared (compared_by behind xs) item) ys
filled_behind behind [] item ys other =
    stands behind item (filled (compared behind item) ys) other
    ∙ ap (λ l. l ++ filled (compared behind item) ys) (sym (stands behind item [] other))
filled_behind behind (x ∷ xs) item ys other =
    ap (λ l. with_slot behind x l) (filled_behind (compared behind x) xs item ys other)
    ∙ before_some behind x (filled (compared behind x) (xs ++ item ∷ [])) (filled (compared (compared_by (compared behind x) xs) item) ys) (filled_first (compared behind x) xs item)

pub cut_behind : (items before left : List Item) (item : Item) → items ≡ before ++ item ∷ left → is_plain item ≡ false → IsCut items (before ++ item ∷ []) left
cut_behind items before left item parts other = record {
  parts = parts ∙ sym (append_assoc before (item ∷ []) left);
  filled_parts =
      ap (filled false) parts
      ∙ filled_behind false before item left other
      ∙ ap (λ (c : Bool). filled false (before ++ item ∷ []) ++ filled c left) (sym (compared_on false before (item ∷ [])));
}

-- ---- behind a word

-- a word that moves into the slot of the turn behind it
pub record IsTaken (behind : Bool) (w : Word) (left : List Item) : Type 0 where
  pub turn : Turn
  pub rest : List Item
  pub is : left ≡ Turns turn None ∷ rest
  pub clear : behind ≡ false
  pub free : moves w.inst turn ≡ true

abbrev pub Stays : Bool → Word → List Item → Type 0
Stays behind w left = with_slot behind (Plain w) (filled (compares w.inst) left) ≡ Plain w ∷ filled (compares w.inst) left

pub taken_or_stays : PartsAlone → (behind : Bool) (w : Word) (left : List Item) → IsTaken behind w left ⊎ Stays behind w left
taken_or_stays alone behind w (Turns turn None ∷ rest) = by (not behind && moves w.inst turn) refl
  where
    by : (t : Bool) → (not behind && moves w.inst turn) ≡ t
        → IsTaken behind w (Turns turn None ∷ rest)
        ⊎ ((if t then Turns (drawn_near turn) (Some w) ∷ filled false rest else Plain w ∷ Turns turn None ∷ filled false rest) ≡ Plain w ∷ Turns turn None ∷ filled false rest)
    by true e = inl (record {
      turn = turn;
      rest = rest;
      is = refl;
      clear = not_true behind (both_left (not behind) (moves w.inst turn) e);
      free = both_right (not behind) (moves w.inst turn) e;
    })
    by false e = inr refl
taken_or_stays alone behind w (Turns turn (Some v) ∷ rest) = inr refl
taken_or_stays alone behind w (Plain v ∷ rest) = inr (alone behind (Plain w ∷ []) (Plain v ∷ rest) refl)
taken_or_stays alone behind w (Mark b ∷ rest) = inr refl
taken_or_stays alone behind w [] = inr refl

pub cut_behind_word : PartsAlone → (items before left : List Item) (w : Word) → IsCut items before (Plain w ∷ left) → Stays (compared_by false before) w left
    → IsCut items (before ++ Plain w ∷ []) left
cut_behind_word alone items before left w cut stays = record {
  parts = cut.parts ∙ sym (append_assoc before (Plain w ∷ []) left);
  filled_parts =
      cut.filled_parts
      ∙ ap (λ l. filled false before ++ l) stays
      ∙ sym (append_assoc (filled false before) (Plain w ∷ []) (filled (compares w.inst) left))
      ∙ ap (λ l. l ++ filled (compares w.inst) left) (sym (alone false before (Plain w ∷ []) refl))
      ∙ ap (λ (c : Bool). filled false (before ++ Plain w ∷ []) ++ filled c left) (sym (compared_on false before (Plain w ∷ [])));
}

-- ---- where a block begins

pub record Begun (b : ℕ) (behind : Bool) (items left : List Item) : Type 0 where
  pub before : List Item
  pub mark : ℕ
  pub parts : items ≡ before ++ Mark mark ∷ left
  pub found : from_mark b (filled behind items) ≡ Some (filled (compared_by behind before) left)

some_same : (xs ys : List Item) → Some xs ≡ Some ys → xs ≡ ys
some_same xs ys e = cc

pub begun : (b : ℕ) (behind : Bool) (items left : List Item) → from_mark b items ≡ Some left → Begun b behind items left
begun b behind [] left e = absurd cc
begun b behind (Plain w ∷ rest) left e =
    let h = begun b (compared behind (Plain w)) rest left e in record {
      before = Plain w ∷ h.before;
      mark = h.mark;
      parts = ap (λ l. Plain w ∷ l) h.parts;
      found = mark_kept b behind (Plain w) (filled (compared behind (Plain w)) rest) ∙ h.found;
    }
begun b behind (Turns turn slot ∷ rest) left e =
    let h = begun b false rest left e in record {
      before = Turns turn slot ∷ h.before;
      mark = h.mark;
      parts = ap (λ l. Turns turn slot ∷ l) h.parts;
      found = h.found;
    }
begun b behind (Mark n ∷ rest) left e = by (n == b) refl e (λ d. begun b behind rest left d)
  where
    by : (t : Bool) → (n == b) ≡ t → (if t then Some rest else from_mark b rest) ≡ Some left → (from_mark b rest ≡ Some left → Begun b behind rest left) → Begun b behind (Mark n ∷ rest) left
    by true is e later = record {
      before = [];
      mark = n;
      parts = ap (λ l. Mark n ∷ l) (some_same rest left e);
      found =
          ap (λ (t : Bool). if t then Some (filled behind rest) else from_mark b (filled behind rest)) is
          ∙ ap (λ l. Some (filled behind l)) (some_same rest left e);
    }
    by false is e later =
        let h = later e in record {
          before = Mark n ∷ h.before;
          mark = h.mark;
          parts = ap (λ l. Mark n ∷ l) h.parts;
          found = ap (λ (t : Bool). if t then Some (filled behind rest) else from_mark b (filled behind rest)) is ∙ h.found;
        }
