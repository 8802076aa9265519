-- Copies of bytes: a loop over units.
use Rattle.std.proofs.Common.{ℕ, zero, suc, pos, neg_ℤ, ◌≡◌, ◌≢◌, ◌+◌, ◌-◌, ◌*◌, ◌/◌, ◌%◌, ◌^◌, ◌<◌, ◌≤◌, ◌⊎◌, inl, inr, refl, ap, ap₂, sym, subst, ◌∙◌, arith, mod-eq_of_lt, add-zero, Bool, true, false, true≢false, not, ◌&&◌, nat_le, if◌then◌else◌, Option, Some, None, List, [], ◌∷◌, ◌++◌, append_assoc, map, length, drop, take, length-append}
use lib.Arith.{digits_div, digits_mod}
use Rattle.std.specs.Prelude.{◌==◌, ◌||◌}
use Rattle.std.specs.List.{list_all}
use Rattle.std.specs.Int.{w32, cast_signed}
use Rattle.std.proofs.lemmas.Bool.{and_parts, eqb-true, ne_eqb, eq-eqb, le-leb, leb-true, cases_lt, cases_eq, or_parts}
use Rattle.pw_value.specs.declared.value.Value.{Value}
use Rattle.pw_value.specs.declared.value.Value.TheVariants.{Undefined, Num, Null, At, Piece}
use Rattle.pw_value.specs.declared.value.Byte.{Byte}
use Rattle.pw_value.specs.declared.value.Pointer.{Pointer}
use Rattle.pw_value.specs.declared.value.Pointer.TheVariants as P
use Rattle.pw_value.specs.Objects.{Object, object_at, bytes_from, written}
use Rattle.pw_flow.specs.declared.flow.Op.TheVariants as op
use Rattle.pw_flow.specs.ValidFlow.{kind_size, IsUnit}
use Rattle.pw_alloc.specs.declared.located.Place.{Place}
use Rattle.pw_alloc.specs.declared.located.Located.{Located}
use Rattle.pw_inst.specs.Setting.{left_part, right_part}
use Rattle.pw_inst.specs.declared.Inst.{Inst}
use Rattle.pw_inst.specs.declared.Inst.TheVariants as i
use Rattle.pw_inst.specs.declared.line.Line.{Line}
use Rattle.pw_inst.specs.declared.line.Line.TheVariants as line
use Rattle.pw_delay.specs.declared.items.Word.{Word}
use Rattle.pw_delay.specs.declared.items.Turn.TheVariants.{Back}
use Rattle.pw_delay.specs.declared.items.Item.{Item}
use Rattle.pw_delay.specs.declared.items.Item.TheVariants.{Plain, Turns}
use Rattle.pw_delay.specs.Items.{bare, slotted}
use Rattle.pw_webflow.specs.declared.web.WebOp.{WebOp}
use Rattle.pw_webflow.specs.declared.web.WebOp.TheVariants.{Flow}
use Rattle.pw_run_languages.specs.Programs.{Program}
use Rattle.pw_run_languages.specs.LawfulPrograms.{IsProgram}
use Rattle.pw_run_languages.specs.Memory.{is_open, is_apart, copy_in, copy}
use Rattle.pw_run_languages.specs.Commands.{command}
use Rattle.pw_run_languages.specs.Addresses.{Addresses, AreLawful}
use Rattle.pw_run_languages.specs.Acts.{Core, register, number_at, with_number}
use Rattle.pw_run_languages.specs.Acts as words
use Rattle.pw_run_languages.specs.Standing.{ByteStands, ValueStands}
use Rattle.pw_run_languages.specs.LineRun.{LineProgram, Machine, Step, On, Astray, left_behind, counted, is_plain, back_over, goes_to, goes_back, step, steps}
use Rattle.pw_run_languages.specs.PlacedRun as placed
use Rattle.pw_run_languages.specs.Direction.{with_functions}
use Rattle.pw_run_languages.specs.SelectionLaws.{line_program}
use Rattle.pw_select_lines.specs.Registers.{word, place_of, loaded, is_near, long_constant, constant}
use Rattle.pw_select_lines.specs.Operations.{unit_loop}
use Rattle.pw_law_select_memory.specs.Numbers.{HoldsBytes, StoredNumbersAreRead, OtherBytesStay, NumbersAreBounded, BytesStayBytes}
use Rattle.pw_law_select_memory.specs.Stand.{BytesStand, PartsStand}
use Rattle.pw_law_select_rows.specs.Straight.{words_of}
use Rattle.pw_law_select_rows.specs.Making.{ConstantsAreMade}
use Rattle.pw_law_select_rows.specs.Places.{place_word, TemporariesAreLoaded}
use Rattle.pw_law_select_rows.specs.Results.{GoThrough, IsSteady, Keeps}
use Rattle.pw_law_select_rows.specs.Scalars.{LoadNotes, StoreNotes}
use Rattle.pw_law_select_rows.specs.Units.{unit_kind, unit_body, UnitsAreCopied}
use Rattle.pw_law_select_states.specs.Laid.{address, size_of, AreLaid}
use Rattle.pw_law_select_states.specs.Passes.{IsAmid, further, Passes, Follows}
use Rattle.pw_law_select_places.specs.Objects.{AreWritten}
use Rattle.pw_law_select_ops.specs.Operations.{StandAt, CopiesBytes, OperationFollows}
use Rattle.pw_law_select_ops.proofs.Values.{near_is}
use Rattle.pw_law_select_ops.proofs.Noting.{pointer_load_notes, pointer_store_notes}
use Rattle.pw_law_select_ops.proofs.Straightness.{AreStraight, loaded_straight, constant_straight}
use Rattle.pw_law_select_ops.proofs.Following.{Laws, PassesTo, go_lines, and_go, same_machine, place_at}
use Rattle.pw_law_select_ops.proofs.Accessing.{IsAccess, access_by, opens_at}
use Rattle.pw_law_select_ops.proofs.Routines.{comes, steady_not, place_kept, place_word_kept, keeps_more}

-- ---- laws

pub record CopyLaws : Type 0 where
  pub read : StoredNumbersAreRead
  pub byte : OtherBytesStay
  pub bounded : NumbersAreBounded
  pub bytes : BytesStayBytes
  pub part : PartsStand
  pub load : TemporariesAreLoaded
  pub constant : ConstantsAreMade
  pub unit : UnitsAreCopied

-- ---- bytes of equal numbers

-- numbers of the same digits
record AreSame (x y n m : ℕ) : Type 0 where
  first : x ≡ y
  rest : n ≡ m

split : (x y n m w : ℕ) → n < w → m < w → x * w + n ≡ y * w + m → AreSame x y n m
split x y n m w one two e = record {
  first = sym (digits_div x one) ∙ (ap (λ v. v / w) e ∙ digits_div y two);
  rest = sym (digits_mod x one) ∙ (ap (λ v. v % w) e ∙ digits_mod y two);
}

module _ (laws : CopyLaws) where
  same_bytes : (size a b : ℕ) (f g : ℕ → ℕ) → HoldsBytes f → HoldsBytes g → number_at size f a ≡ number_at size g b → (k : ℕ) → k < size → f (a + k) ≡ g (b + k)
  same_bytes zero a b f g hf hg e k less = absurd (omega (arith, less))
  same_bytes (suc more) a b f g hf hg e zero less =
      let s = split (f a) (g b) (number_at more f (a + 1)) (number_at more g (b + 1)) (256 ^ more) (laws.bounded more (a + 1) f hf) (laws.bounded more (b + 1) g hg) e in
      let one : a + 0 ≡ a = omega arith in
      let two : b + 0 ≡ b = omega arith in
      ap f one ∙ (s.first ∙ sym (ap g two))
  same_bytes (suc more) a b f g hf hg e (suc k) less =
      let s = split (f a) (g b) (number_at more f (a + 1)) (number_at more g (b + 1)) (256 ^ more) (laws.bounded more (a + 1) f hf) (laws.bounded more (b + 1) g hg) e in
      let one : a + suc k ≡ a + 1 + k = omega arith in
      let two : b + suc k ≡ b + 1 + k = omega arith in
      ap f one ∙ (same_bytes more (a + 1) (b + 1) f g hf hg s.rest k (omega (arith, less)) ∙ sym (ap g two))

  -- a number that is read at one address and stored at another copies its bytes
  bytes_copied : (size a b : ℕ) (f : ℕ → ℕ) → HoldsBytes f → (k : ℕ) → k < size → with_number size (number_at size f a) b f (b + k) ≡ f (a + k)
  bytes_copied size a b f h k less =
      let n = number_at size f a in
      same_bytes size b a (with_number size n b f) f (laws.bytes size n b f h) h
      (laws.read size n b f ∙ mod-eq_of_lt (laws.bounded size a f h)) k less

  -- so many bytes have come from one address to another, and all others are as they were
  pub record HaveCome (old new : ℕ → ℕ) (from to done : ℕ) : Type 0 where
    pub there : (k : ℕ) → k < done → new (to + k) ≡ old (from + k)
    pub elsewhere : (a : ℕ) → (a < to) ⊎ (to + done ≤ a) → new a ≡ old a
    pub bytes : HoldsBytes new

  none_came : (old : ℕ → ℕ) (from to : ℕ) → HoldsBytes old → HaveCome old old from to 0
  none_came old from to bytes = record { there = λ k less. absurd (omega (arith, less)); elsewhere = λ a out. refl; bytes = bytes }

  -- the same place, or two apart
  abbrev AreApart : ℕ → ℕ → ℕ → Type 0
  AreApart from to size = (from ≡ to) ⊎ (from + size ≤ to) ⊎ (to + size ≤ from)

  -- one unit more
  more_came : (old new : ℕ → ℕ) (from to done unit size : ℕ) → done + unit ≤ size → AreApart from to size → HaveCome old new from to done
      → HaveCome old (with_number unit (number_at unit new (from + done)) (to + done) new) from to (done + unit)
  more_came old new from to done unit size within apart h = record {
    there = λ k less. by_part k less (cases_lt k done);
    elsewhere = λ a out. laws.byte unit n (to + done) a new (outer a out) ∙ h.elsewhere a (wider a out);
    bytes = laws.bytes unit n (to + done) new h.bytes;
  }
    where
      n : ℕ
      n = number_at unit new (from + done)

      outer : (a : ℕ) → (a < to) ⊎ (to + (done + unit) ≤ a) → (a < to + done) ⊎ (to + done + unit ≤ a)
      outer a (inl low) = inl (omega (arith, low))
      outer a (inr high) = inr (omega (arith, high))

      wider : (a : ℕ) → (a < to) ⊎ (to + (done + unit) ≤ a) → (a < to) ⊎ (to + done ≤ a)
      wider a (inl low) = inl low
      wider a (inr high) = inr (omega (arith, high))

      -- where the next unit comes from, nothing has come yet
      untouched : (k : ℕ) → k < unit → AreApart from to size → (from + done + k < to) ⊎ (to + done ≤ from + done + k)
      untouched k less (inl same) = inr (omega (arith, same))
      untouched k less (inr (inl before)) = inl (omega (arith, less, before, within))
      untouched k less (inr (inr behind)) = inr (omega (arith, behind, within))

      by_part : (k : ℕ) → k < done + unit → (k < done) ⊎ (done ≤ k) → with_number unit (number_at unit new (from + done)) (to + done) new (to + k) ≡ old (from + k)
      by_part k less (inl early) = laws.byte unit n (to + done) (to + k) new (inl (omega (arith, early))) ∙ h.there k early
      by_part k less (inr late) =
          let j = k - done in
          let sum : done + j ≡ k = omega (arith, late) in
          let small : j < unit = omega (arith, sum, less) in
          let there : to + k ≡ to + done + j = omega (arith, sum) in
          let here : from + done + j ≡ from + k = omega (arith, sum) in
          ap (with_number unit (number_at unit new (from + done)) (to + done) new) there
          ∙ (bytes_copied unit (from + done) (to + done) new h.bytes j small
          ∙ (h.elsewhere (from + done + j) (untouched j small apart) ∙ ap old here))

-- bytes that stand, stand where they have come to
came_stand : (address : Pointer → ℕ) (old new : ℕ → ℕ) (a b : ℕ) (bytes : List Byte) → ((k : ℕ) → k < length bytes → new (b + k) ≡ old (a + k))
    → BytesStand address old a bytes → BytesStand address new b bytes
came_stand address old new a b [] same h = tt
came_stand address old new a b (x ∷ bytes) same h = (
  subst (ByteStands address x) (let one : a ≡ a + 0 = omega arith in let two : b ≡ b + 0 = omega arith in ap old one ∙ (sym (same 0 (omega arith)) ∙ sym (ap new two))) h.0,
  came_stand address old new (a + 1) (b + 1) bytes
      (λ k less.
      let one : a + suc k ≡ a + 1 + k = omega arith in
      let two : b + suc k ≡ b + 1 + k = omega arith in
      sym (ap new two) ∙ (same (suc k) (omega (arith, less)) ∙ ap old one)) h.1,
)

-- ---- lists

drop_behind : (xs ys : List Item) → drop (length xs) (xs ++ ys) ≡ ys
drop_behind [] ys = refl
drop_behind (x ∷ xs) ys = drop_behind xs ys

-- a row of words before some items ends with a word
pub record EndsPlain (items : List Item) : Type 0 where
  pub before : List Item
  pub word : Word
  pub is : items ≡ before ++ Plain word ∷ []

ends_plain : (before : List Item) (x : Word) (xs : List Word) → EndsPlain (before ++ map Plain (x ∷ xs))
ends_plain before x [] = record { before = before; word = x; is = refl }
ends_plain before x (y ∷ ys) =
    let r = ends_plain (before ++ Plain x ∷ []) y ys in
    record { before = r.before; word = r.word; is = sym (append_assoc before (Plain x ∷ []) (map Plain (y ∷ ys))) ∙ r.is }

-- ---- units

unit_by : (unit : ℕ) → IsUnit unit → kind_size (unit_kind unit) ≡ unit
unit_by unit (inl e) = ap (λ u. kind_size (unit_kind u)) e ∙ sym e
unit_by unit (inr (inl e)) = ap (λ u. kind_size (unit_kind u)) e ∙ sym e
unit_by unit (inr (inr e)) = ap (λ u. kind_size (unit_kind u)) e ∙ sym e

body_straight : (unit : ℕ) → IsUnit unit → AreStraight (unit_body unit)
body_straight unit (inl e) = subst (λ (u : ℕ). AreStraight (unit_body u)) (sym e) (tt, (tt, (tt, (tt, (tt, tt)))))
body_straight unit (inr (inl e)) = subst (λ (u : ℕ). AreStraight (unit_body u)) (sym e) (tt, (tt, (tt, (tt, (tt, tt)))))
body_straight unit (inr (inr e)) = subst (λ (u : ℕ). AreStraight (unit_body u)) (sym e) (tt, (tt, (tt, (tt, (tt, tt)))))

-- multiples of a unit
next_multiple : (unit done : ℕ) → IsUnit unit → done % unit ≡ 0 → (done + unit) % unit ≡ 0
next_multiple unit done (inl e) h = subst (λ (u : ℕ). (done + u) % u ≡ 0) (sym e) (omega arith)
next_multiple unit done (inr (inl e)) h = subst (λ (u : ℕ). (done + u) % u ≡ 0) (sym e) (let k : done % 2 ≡ 0 = subst (λ (u : ℕ). done % u ≡ 0) e h in omega (arith, k))
next_multiple unit done (inr (inr e)) h = subst (λ (u : ℕ). (done + u) % u ≡ 0) (sym e) (let k : done % 4 ≡ 0 = subst (λ (u : ℕ). done % u ≡ 0) e h in omega (arith, k))

aligned_at : (unit s i done : ℕ) → IsUnit unit → s % 8 ≡ 0 → i % unit ≡ 0 → done % unit ≡ 0 → (s + i + done) % unit ≡ 0
aligned_at unit s i done (inl e) hs hi hd = subst (λ (u : ℕ). (s + i + done) % u ≡ 0) (sym e) (omega arith)
aligned_at unit s i done (inr (inl e)) hs hi hd =
    subst (λ (u : ℕ). (s + i + done) % u ≡ 0) (sym e)
    (let k : i % 2 ≡ 0 = subst (λ (u : ℕ). i % u ≡ 0) e hi in let j : done % 2 ≡ 0 = subst (λ (u : ℕ). done % u ≡ 0) e hd in omega (arith, hs, k, j))
aligned_at unit s i done (inr (inr e)) hs hi hd =
    subst (λ (u : ℕ). (s + i + done) % u ≡ 0) (sym e)
    (let k : i % 4 ≡ 0 = subst (λ (u : ℕ). i % u ≡ 0) e hi in let j : done % 4 ≡ 0 = subst (λ (u : ℕ). done % u ≡ 0) e hd in omega (arith, hs, k, j))

next_within : (unit done size : ℕ) → IsUnit unit → size % unit ≡ 0 → done % unit ≡ 0 → done < size → done + unit ≤ size
next_within unit done size (inl e) hs hd less = omega (arith, e, less)
next_within unit done size (inr (inl e)) hs hd less =
    let k : size % 2 ≡ 0 = subst (λ (u : ℕ). size % u ≡ 0) e hs in
    let j : done % 2 ≡ 0 = subst (λ (u : ℕ). done % u ≡ 0) e hd in omega (arith, e, k, j, less)
next_within unit done size (inr (inr e)) hs hd less =
    let k : size % 4 ≡ 0 = subst (λ (u : ℕ). size % u ≡ 0) e hs in
    let j : done % 4 ≡ 0 = subst (λ (u : ℕ). done % u ≡ 0) e hd in omega (arith, e, k, j, less)

still_some : (x size done : ℕ) → x ≡ size - done → done < size → x ≡ 0 → ⊥
still_some x size done is less none = omega (arith, is, less, none)

zero_multiple : (unit : ℕ) → IsUnit unit → 0 % unit ≡ 0
zero_multiple unit (inl e) = subst (λ (u : ℕ). 0 % u ≡ 0) (sym e) refl
zero_multiple unit (inr (inl e)) = subst (λ (u : ℕ). 0 % u ≡ 0) (sym e) refl
zero_multiple unit (inr (inr e)) = subst (λ (u : ℕ). 0 % u ≡ 0) (sym e) refl

unit_some : (unit : ℕ) → IsUnit unit → 0 < unit
unit_some unit (inl e) = omega (arith, e)
unit_some unit (inr (inl e)) = omega (arith, e)
unit_some unit (inr (inr e)) = omega (arith, e)

-- ---- the branch

abbrev branch : Inst
branch = i.Combf 1 22 0 (neg_ℤ (pos 7))

abbrev back : Item
back = Turns (Back branch) None

module _ (p : LineProgram) (w : Addresses) (scratch : ℕ → (ℕ → ℕ) → ℕ → ℕ) where
  same_line_machine : (m n : Machine) → On m ≡ On n → m ≡ n
  same_line_machine m n e = cc

  one_step : (m : Machine) → steps p w scratch 1 (On m) ≡ step p w scratch m
  unfolding steps
  one_step m = refl

  abbrev turned_by : Bool → Bool → Machine → Step → Step
  turned_by skip zero_left behind again = if skip then Astray else if (if zero_left then false else true) then again else On behind

  turn_step : (rest : List Item) (m : Machine)
      → step p w scratch (left_behind (back ∷ rest) m)
      ≡ turned_by m.core.skip (register m.core 22 == 0) (left_behind rest m)
      (goes_back (Some 5) (back ∷ rest) (counted (left_behind (back ∷ rest) m)))
  unfolding step
  turn_step rest m = refl

  -- the loop is left where no bytes are
  leaves_step : (rest : List Item) (m : Machine) → m.core.skip ≡ false → register m.core 22 ≡ 0 → step p w scratch (left_behind (back ∷ rest) m) ≡ On (left_behind rest m)
  leaves_step rest m skip none =
      turn_step rest m
      ∙ ap₂ (λ (s z : Bool). turned_by s z (left_behind rest m) (goes_back (Some 5) (back ∷ rest) (counted (left_behind (back ∷ rest) m)))) skip (eq-eqb (register m.core 22) 0 none)

  back_is : (before xs rest : List Item) → length xs ≡ 5 → list_all is_plain (take 5 (xs ++ (back ∷ rest))) ≡ true
      → back_over 5 (back ∷ rest) (before ++ (xs ++ (back ∷ rest))) ≡ Some (xs ++ (back ∷ rest))
  back_is before xs rest five plain =
      ap (λ (from : List Item). if nat_le (length (back ∷ rest) + 5) (length items) && list_all is_plain (take 5 from) then Some from else None) from_is
      ∙ ap₂ (λ (s t : Bool). if s && t then Some (xs ++ (back ∷ rest)) else None) (le-leb (length (back ∷ rest) + 5) (length items) (omega (arith, count))) plain
    where
      items : List Item
      items = before ++ (xs ++ (back ∷ rest))

      count : length (before ++ (xs ++ (back ∷ rest))) ≡ length before + (5 + length (back ∷ rest))
      count =
          let one = length-append before (xs ++ (back ∷ rest)) in
          let two = length-append xs (back ∷ rest) in omega (arith, one, two, five)

      from_is : drop (length (before ++ (xs ++ (back ∷ rest))) - (length (back ∷ rest) + 5)) (before ++ (xs ++ (back ∷ rest))) ≡ xs ++ (back ∷ rest)
      from_is =
          let n : length (before ++ (xs ++ (back ∷ rest))) - (length (back ∷ rest) + 5) ≡ length before = omega (arith, count) in
          ap (λ k. drop k (before ++ (xs ++ (back ∷ rest)))) n ∙ drop_behind before (xs ++ (back ∷ rest))

  -- else it goes back
  again_step : (before xs rest : List Item) (m : Machine) → m.core.skip ≡ false → register m.core 22 ≢ 0 → m.frame.function.items ≡ before ++ (xs ++ (back ∷ rest))
      → length xs ≡ 5 → list_all is_plain (take 5 (xs ++ (back ∷ rest))) ≡ true
      → step p w scratch (left_behind (back ∷ rest) m) ≡ On (left_behind (xs ++ (back ∷ rest)) (counted m))
  again_step before xs rest m skip some items five plain =
      turn_step rest m
      ∙ (ap₂ (λ (s z : Bool). turned_by s z (left_behind rest m) (goes_back (Some 5) (back ∷ rest) (counted (left_behind (back ∷ rest) m)))) skip (ne_eqb (register m.core 22) 0 some)
      ∙ ap (λ (o : Option (List Item)). goes_to o (counted (left_behind (back ∷ rest) m))) (ap (back_over 5 (back ∷ rest)) items ∙ back_is before xs rest five plain))

  -- as passes
  pub leaves_passes : (before rest : List Item) (m : Machine) → m.core.skip ≡ false → register m.core 22 ≡ 0 → m.frame.left ≡ back ∷ rest
      → m.frame.function.items ≡ before ++ (back ∷ rest) → Passes p w scratch m rest m.core []
  leaves_passes before rest m skip none left items = record {
    count = 1;
    more = 0;
    steps = goes ∙ ap (λ (n : ℕ). On (record (left_behind rest m) { events = n })) (sym (add-zero m.events));
    amid = λ j n some le steps_to.
        let one : j ≡ 1 = omega (arith, some, le) in
        let there = same_line_machine (left_behind rest m) n (sym goes ∙ (ap (λ i. steps p w scratch i (On m)) (sym one) ∙ steps_to)) in
        subst (λ (m : Machine). IsAmid m.frame) there (record { before = before; item = back; quiet = λ call. call; items = items });
  }
    where
      goes : steps p w scratch 1 (On m) ≡ On (left_behind rest m)
      goes = one_step m ∙ (ap (λ (l : List Item). step p w scratch (left_behind l m)) left ∙ leaves_step rest m skip none)

  pub again_passes : (before xs rest : List Item) (m : Machine) → EndsPlain before → m.core.skip ≡ false → register m.core 22 ≢ 0 → m.frame.left ≡ back ∷ rest
      → m.frame.function.items ≡ before ++ (xs ++ (back ∷ rest)) → length xs ≡ 5 → list_all is_plain (take 5 (xs ++ (back ∷ rest))) ≡ true
      → Passes p w scratch m (xs ++ (back ∷ rest)) m.core []
  again_passes before xs rest m ends skip some left items five plain = record {
    count = 1;
    more = 1;
    steps = goes;
    amid = λ j n some le steps_to.
        let one : j ≡ 1 = omega (arith, some, le) in
        let there = same_line_machine (left_behind (xs ++ (back ∷ rest)) (counted m)) n (sym goes ∙ (ap (λ i. steps p w scratch i (On m)) (sym one) ∙ steps_to)) in
        subst (λ (m : Machine). IsAmid m.frame) there
        (record {
          before = ends.before;
          item = Plain ends.word;
          quiet = λ call. call;
          items = items ∙ (ap (λ (b : List Item). b ++ (xs ++ (back ∷ rest))) ends.is ∙ append_assoc ends.before (Plain ends.word ∷ []) (xs ++ (back ∷ rest)));
        });
  }
    where
      goes : steps p w scratch 1 (On m) ≡ On (left_behind (xs ++ (back ∷ rest)) (counted m))
      goes = one_step m ∙ (ap (λ (l : List Item). step p w scratch (left_behind l m)) left ∙ again_step before xs rest m skip some items five plain)

-- ---- the loop

-- what is copied, where
pub record IsCopy (p : Program) (functions : List Located) (w : Addresses) (from to size unit : ℕ) : Type 0 where
  pub units : IsUnit unit
  pub from_small : from + size < 2 ^ 32
  pub to_small : to + size < 2 ^ 32
  pub apart : (from ≡ to) ⊎ (from + size ≤ to) ⊎ (to + size ≤ from)
  pub from_opens : (done : ℕ) → done + unit ≤ size → done % unit ≡ 0 → words.is_open w (from + done) unit ≡ true
  pub to_opens : (done : ℕ) → done + unit ≤ size → done % unit ≡ 0 → words.is_open w (to + done) unit ≡ true
  pub loads : (done : ℕ) → done + unit ≤ size → LoadNotes (line_program p functions) w (unit_kind unit) (from + done) []
  pub stores : (done : ℕ) → done + unit ≤ size → StoreNotes (line_program p functions) w (unit_kind unit) (to + done) []

module _ (laws : Laws) (copying : CopyLaws) (p : Program) (functions : List Located) (w : Addresses) (scratch : ℕ → (ℕ → ℕ) → ℕ → ℕ) (site : ℕ → ℕ) where
  abbrev program : LineProgram
  program = line_program p functions

  -- so many bytes have been copied
  pub record HasCopied (c e : Core) (from to size done : ℕ) : Type 0 where
    pub came : HaveCome copying c.memory e.memory from to done
    pub at_from : register e 21 ≡ from + done
    pub at_to : register e 1 ≡ to + done
    pub left : register e 22 ≡ size - done
    pub steady : (r : ℕ) → IsSteady r → register e r ≡ register c r
    pub skip : e.skip ≡ false

  -- the lines come out of the loop with all of them copied
  pub record Copied (l : Machine) (before rest : List Item) (c : Core) (from to size : ℕ) : Type 0 where
    pub core : Core
    pub passes : PassesTo laws p functions w scratch site l before rest core []
    pub copied : HasCopied c core from to size size

  one_copied : (c e : Core) (from to size unit done : ℕ) → size < 2 ^ 32 → IsCopy p functions w from to size unit → done + unit ≤ size → done % unit ≡ 0 → HasCopied c e from to size done
      → (f : Core) × GoThrough program w (words_of (unit_body unit)) e f [] × HasCopied c f from to size (done + unit)
  one_copied c e from to size unit done small copy within multiple h =
      let from_small = copy.from_small in
      let to_small = copy.to_small in
      let r = copying.unit program w unit (from + done) (to + done) (size - done) e copy.units (record {
        skip = h.skip;
        from = h.at_from;
        to = h.at_to;
        left = h.left;
        from_small = omega (arith, from_small, within);
        to_small = omega (arith, to_small, within);
        some = omega (arith, within);
        left_small = omega (arith, small);
        from_opens = copy.from_opens done within multiple;
        to_opens = copy.to_opens done within multiple;
        loads = copy.loads done within;
        stores = copy.stores done within;
      }) in
      let one : from + done + unit ≡ from + (done + unit) = omega arith in
      let two : to + done + unit ≡ to + (done + unit) = omega arith in
      let three : size - done - unit ≡ size - (done + unit) = omega arith in (
        r.core,
        r.through,
        record {
          came = subst (λ (f : ℕ → ℕ). HaveCome copying c.memory f from to (done + unit)) (sym r.memory) (more_came copying c.memory e.memory from to done unit size within copy.apart h.came);
          at_from = r.from ∙ one;
          at_to = r.to ∙ two;
          left = r.left ∙ three;
          steady = λ q st. r.steady q st ∙ h.steady q st;
          skip = r.skip;
        },
      )

  abbrev five : ℕ → List Item
  five unit = map Plain (words_of (unit_body unit))

  pub loop_copies : (fuel : ℕ) (l : Machine) (before : List Item) (more : List Line) (c : Core) (from to size unit done : ℕ) → size ≤ done + fuel → size < 2 ^ 32
      → IsCopy p functions w from to size unit → EndsPlain before → l.frame.left ≡ slotted (unit_body unit ++ (line.Plain branch ∷ more))
      → l.frame.function.items ≡ before ++ slotted (unit_body unit ++ (line.Plain branch ∷ more)) → done < size → size % unit ≡ 0 → done % unit ≡ 0
      → HasCopied c l.core from to size done → Copied l ((before ++ five unit) ++ back ∷ []) (slotted more) c from to size
  loop_copies zero l before more c from to size unit done enough small copy ends left items some whole multiple h = absurd (omega (arith, enough, some))
  loop_copies (suc fuel) l before more c from to size unit done enough small copy ends left items some whole multiple h =
      let within : done + unit ≤ size = next_within unit done size copy.units whole multiple some in
      let r = one_copied c l.core from to size unit done small copy within multiple h in
      let straight = body_straight unit copy.units in
      let rest = slotted more in
      let a = go_lines laws p functions w scratch site l before (unit_body unit) (line.Plain branch ∷ more) r.0 [] left items straight r.1 in
      let m = further (back ∷ rest) r.0 a.passes.more [] l in
      let is : l.frame.function.items ≡ before ++ (five unit ++ (back ∷ rest)) = items ∙ ap (λ (is : List Item). before ++ is) (laws.lines (unit_body unit) (line.Plain branch ∷ more) straight) in
      let last = (before ++ five unit) ++ back ∷ [] in
      let positive = unit_some unit copy.units in
      elim (cases_lt (done + unit) size) [
        | inl less ↦
            let b : PassesTo laws p functions w scratch site m before (five unit ++ (back ∷ rest)) r.0 [] =
            record {
              passes = again_passes program w scratch before (five unit) rest m ends r.2.skip (λ e. still_some (register r.0 22) size (done + unit) r.2.left less e) refl is refl refl;
              items = is;
            } in
            let n = further (five unit ++ (back ∷ rest)) r.0 b.passes.more [] m in
            let k =
            loop_copies fuel n before more c from to size unit (done + unit) (omega (arith, enough, positive)) small copy ends (sym (laws.lines (unit_body unit) (line.Plain branch ∷ more) straight))
            items less whole (next_multiple unit done copy.units multiple) r.2 in
            record {
              core = k.core;
              passes = and_go laws p functions w scratch site l (before ++ five unit) last (back ∷ rest) rest r.0 k.core [] [] a
                  (and_go laws p functions w scratch site m before last (five unit ++ (back ∷ rest)) rest r.0 k.core [] [] b k.passes);
              copied = k.copied;
            }
        | inr full ↦
            let all : done + unit ≡ size = omega (arith, within, full) in
            let b : PassesTo laws p functions w scratch site m last rest r.0 [] =
            record {
              passes = leaves_passes program w scratch (before ++ five unit) rest m r.2.skip (r.2.left ∙ (let none : size - (done + unit) ≡ 0 = omega (arith, all) in none)) refl a.items;
              items = a.items ∙ sym (append_assoc (before ++ five unit) (back ∷ []) rest);
            } in
            record {
              core = r.0;
              passes = and_go laws p functions w scratch site l (before ++ five unit) last (back ∷ rest) rest r.0 r.0 [] [] a b;
              copied = subst (λ (d : ℕ). HasCopied c r.0 from to size d) all r.2;
            }
      ]

-- ---- the operation

-- two places in live objects that the placed run may copy between
record Ranges (p : Program) (functions : List Located) (objects : List Object) (o i q j size unit : ℕ) (after : List Object) : Type 0 where
  to : IsAccess objects o i size unit
  from : IsAccess objects q j size unit
  apart : (o ≡ q) → (i ≡ j) ⊎ (i + size ≤ j) ⊎ (j + size ≤ i)
  is : written o i (bytes_from size j (object_at objects q).bytes) objects ≡ after

apart_by : (i j size : ℕ) → is_apart i j size ≡ true → (i ≡ j) ⊎ (i + size ≤ j) ⊎ (j + size ≤ i)
apart_by i j size e = by_first (i == j) (nat_le (i + size) j) (nat_le (j + size) i) refl refl refl e
  where
    by_first : (s t u : Bool) → (i == j) ≡ s → nat_le (i + size) j ≡ t → nat_le (j + size) i ≡ u → (s || (t || u)) ≡ true → (i ≡ j) ⊎ (i + size ≤ j) ⊎ (j + size ≤ i)
    by_first true t u a b c e = inl (eqb-true i j a)
    by_first false true u a b c e = inr (inl (leb-true (i + size) j b))
    by_first false false true a b c e = inr (inr (leb-true (j + size) i c))
    by_first false false false a b c e = absurd (true≢false (sym e))

ranges : (p : Program) (functions : List Located) (objects : List Object) (o i q j size unit : ℕ) (after : List Object) → copy_in o i q j size unit objects ≡ Some after
    → Ranges p functions objects o i q j size unit after
ranges p functions objects o i q j size unit after e =
    by_test (is_open objects o i size unit && (is_open objects q j size unit && (not (o == q) || is_apart i j size))) refl e
  where
    by_test : (t : Bool) → (is_open objects o i size unit && (is_open objects q j size unit && (not (o == q) || is_apart i j size))) ≡ t
        → (if t then Some (written o i (bytes_from size j (object_at objects q).bytes) objects) else None) ≡ Some after → Ranges p functions objects o i q j size unit after
    by_test true is e =
        let one = and_parts (is_open objects o i size unit) (is_open objects q j size unit && (not (o == q) || is_apart i j size)) is in
        let two = and_parts (is_open objects q j size unit) (not (o == q) || is_apart i j size) one.1 in
        record {
          to = access_by objects o i size unit one.0;
          from = access_by objects q j size unit two.0;
          apart = λ same. apart_by i j size (sym (ap (λ (t : Bool). not t || is_apart i j size) (eq-eqb o q same)) ∙ two.1);
          is = cc;
        }
    by_test false is e = absurd cc

part_length : (n i : ℕ) (bytes : List Byte) → length (bytes_from n i bytes) ≡ n
part_length zero i bytes = refl
part_length (suc n) i bytes = ap suc (part_length n (suc i) bytes)

-- the words of a constant are some
record SomeWords (xs : List Word) : Type 0 where
  first : Word
  more : List Word
  is : xs ≡ first ∷ more

constant_some : (n d : ℕ) → SomeWords (words_of (constant n d))
constant_some n d = by_test (is_near (cast_signed w32 n))
  where
    by_test : (t : Bool) → SomeWords (words_of (if t then word (i.Ldo (cast_signed w32 n) 0 d) else long_constant n d))
    by_test true = record { first = bare (i.Ldo (cast_signed w32 n) 0 d); more = []; is = refl }
    by_test false = record { first = bare (i.Ldil (left_part n) d); more = bare (i.Ldo (pos (right_part n)) d d) ∷ []; is = refl }

module _ (laws : Laws) (copying : CopyLaws) (p : Program) (functions : List Located) (w : Addresses) (scratch : ℕ → (ℕ → ℕ) → ℕ → ℕ) (site : ℕ → ℕ) (m n : placed.Machine) (l : Machine) (before : List Item) (more : List Line) where
  abbrev program_ : LineProgram
  program_ = line_program p functions

  abbrev place : ℕ → Place
  place t = place_of m.frame.function.places t

  -- both ranges as addresses
  copy_is : (o i q j size unit : ℕ) (after : List Object) → IsProgram p → AreLawful p w → AreLaid p w site m.objects → IsUnit unit → Ranges p functions m.objects o i q j size unit after
      → placed.is_reserved (with_functions p functions) (At (P.Object o i)) ≡ false → placed.is_reserved (with_functions p functions) (At (P.Object q j)) ≡ false
      → IsCopy p functions w (site q + j) (site o + i) size unit
  copy_is o i q j size unit after lawful addresses laid units r free_to free_from =
      let below_to = laid.below o r.to.live in
      let below_from = laid.below q r.from.live in
      let within_to = r.to.within in
      let within_from = r.from.within in
      let above_to = laid.above o r.to.live in
      let above_from = laid.above q r.from.live in
      let memory = addresses.memory in
      let same = unit_by unit units in
      record {
        units = units;
        from_small = omega (arith, below_from, within_from, memory);
        to_small = omega (arith, below_to, within_to, memory);
        apart = by_object (cases_eq o q);
        from_opens = λ done fits multiple.
            opens_at w unit (site q + j + done) (aligned_at unit (site q) j done units (laid.aligned q r.from.live) r.from.aligned multiple) (omega (arith, above_from)) (omega (arith, below_from, within_from, memory, fits));
        to_opens = λ done fits multiple.
            opens_at w unit (site o + i + done) (aligned_at unit (site o) i done units (laid.aligned o r.to.live) r.to.aligned multiple) (omega (arith, above_to)) (omega (arith, below_to, within_to, memory, fits));
        loads = λ done fits.
            pointer_load_notes p functions w site m.objects lawful laid (unit_kind unit) q (j + done) (site q + j + done) r.from.live
            (subst (λ (u : ℕ). j + done + u ≤ size_of m.objects q) (sym same) (omega (arith, fits, within_from))) (omega arith) (free_as q j (j + done) free_from);
        stores = λ done fits.
            pointer_store_notes p functions w site m.objects lawful laid (unit_kind unit) o (i + done) (site o + i + done) r.to.live
            (subst (λ (u : ℕ). i + done + u ≤ size_of m.objects o) (sym same) (omega (arith, fits, within_to))) (omega arith) (free_as o i (i + done) free_to);
      }
    where
      -- whether a pointer is reserved is seen from its object
      free_as : (o i j : ℕ) → placed.is_reserved (with_functions p functions) (At (P.Object o i)) ≡ false → placed.is_reserved (with_functions p functions) (At (P.Object o j)) ≡ false
      free_as o i j e = e

      by_object : (o ≡ q) ⊎ (o ≡ q → ⊥) → (site q + j ≡ site o + i) ⊎ (site q + j + size ≤ site o + i) ⊎ (site o + i + size ≤ site q + j)
      by_object (inl e) = by_offset (r.apart e)
        where
          by_offset : (i ≡ j) ⊎ (i + size ≤ j) ⊎ (j + size ≤ i) → (site q + j ≡ site o + i) ⊎ (site q + j + size ≤ site o + i) ⊎ (site o + i + size ≤ site q + j)
          by_offset (inl same) = inl (ap₂ (λ (s k : ℕ). s + k) (sym (ap site e)) (sym same))
          by_offset (inr (inl one)) = let s : site o ≡ site q = ap site e in inr (inr (omega (arith, s, one)))
          by_offset (inr (inr two)) = let s : site o ≡ site q = ap site e in inr (inl (omega (arith, s, two)))
      by_object (inr ne) = by_side (laid.apart o q r.to.live r.from.live ne)
        where
          by_side : (site o + size_of m.objects o < site q) ⊎ (site q + size_of m.objects q < site o)
              → (site q + j ≡ site o + i) ⊎ (site q + j + size ≤ site o + i) ⊎ (site o + i + size ≤ site q + j)
          by_side (inl one) = let w = r.to.within in inr (inr (omega (arith, one, w)))
          by_side (inr two) = let w = r.from.within in inr (inl (omega (arith, two, w)))

  move_object_follows : (a b o i q j size unit : ℕ) (after : List Object) → StandAt p functions w site (Flow (op.Move a b size unit)) m l before more
      → placed.value_in m.frame m.registers a ≡ At (P.Object o i) → placed.value_in m.frame m.registers b ≡ At (P.Object q j)
      → placed.is_reserved (with_functions p functions) (At (P.Object o i)) ≡ false → placed.is_reserved (with_functions p functions) (At (P.Object q j)) ≡ false
      → copy_in o i q j size unit m.objects ≡ Some after → record m { objects = after } ≡ n → Follows p program_ w scratch site m n l (slotted more)
  move_object_follows a b o i q j size unit after at to_is from_is free_to free_from copies goes =
      let to_place = place_at laws p functions w scratch site (Flow (op.Move a b size unit)) m l before more a at at.op.0 in
      let from_place = place_at laws p functions w scratch site (Flow (op.Move a b size unit)) m l before more b at at.op.1 in
      let moved = at.op.2 in
      let few = moved.few in
      let r = ranges p functions m.objects o i q j size unit after copies in
      let copy = copy_is o i q j size unit after at.program at.served.lawful at.stands.laid moved.units r free_to free_from in
      let near_to = near_is p w site m.objects at.served.lawful at.stands.laid o i r.to.live (let within = r.to.within in omega (arith, within)) in
      let near_from = near_is p w site m.objects at.served.lawful at.stands.laid q j r.from.live (let within = r.from.within in omega (arith, within)) in
      let to_word : place_word l.core (place a) ≡ site o + i =
      subst (λ (v : Value). ValueStands (address p w site) v (place_word l.core (place a))) to_is to_place.stands ∙ near_to.word in
      let from_word : place_word l.core (place b) ≡ site q + j =
      subst (λ (v : Value). ValueStands (address p w site) v (place_word l.core (place b))) from_is from_place.stands ∙ near_from.word in
      let x = comes copying.load program_ w (place b) 21 l.core (λ e. omega (arith, e)) (inr (inl (omega arith, omega arith))) at.stands.goes from_place.place in
      let y = comes copying.load program_ w (place a) 1 x.core (λ e. omega (arith, e)) (inl (omega arith)) x.keeps.skip (place_kept program_ w l.core x.core (place a) x.keeps to_place.place) in
      let z = copying.constant program_ w size 22 y.core (omega (arith, few)) (λ e. omega (arith, e)) y.keeps.skip in
      let keeps_z : Keeps y.core z.core =
      record { steady = λ r s. z.puts.others r (steady_not r 22 s (inr (inl (omega arith, omega arith)))); memory = z.puts.memory; skip = z.puts.skip } in
      let keeps = keeps_more l.core y.core z.core (keeps_more l.core x.core y.core x.keeps y.keeps) keeps_z in
      let xs = loaded (place b) 21 in
      let ys = loaded (place a) 1 in
      let zs = constant size 22 in
      let loop = unit_body unit ++ (line.Plain branch ∷ more) in
      let left : l.frame.left ≡ slotted (xs ++ (ys ++ (zs ++ loop))) = at.left ∙ ap slotted (in_parts xs ys zs (unit_loop unit) more) in
      let a1 = go_lines laws p functions w scratch site l before xs (ys ++ (zs ++ loop)) x.core [] left (at.items ∙ ap (λ (is : List Item). before ++ is) left) (loaded_straight (place b) 21) x.through in
      let l1 = further (slotted (ys ++ (zs ++ loop))) x.core a1.passes.more [] l in
      let b1 = before ++ map Plain (words_of xs) in
      let a2 = go_lines laws p functions w scratch site l1 b1 ys (zs ++ loop) y.core [] refl a1.items (loaded_straight (place a) 1) y.through in
      let l2 = further (slotted (zs ++ loop)) y.core a2.passes.more [] l1 in
      let b2 = b1 ++ map Plain (words_of ys) in
      let a3 = go_lines laws p functions w scratch site l2 b2 zs loop z.core [] refl a2.items (constant_straight size 22) (record { acts = z.acts; notes = z.quiet }) in
      let l3 = further (slotted loop) z.core a3.passes.more [] l2 in
      let b3 = b2 ++ map Plain (words_of zs) in
      let some = constant_some size 22 in
      let ends : EndsPlain b3 = subst (λ (ws : List Word). EndsPlain (b2 ++ map Plain ws)) (sym some.is) (ends_plain b2 some.first some.more) in
      let start : HasCopied laws copying p functions w scratch site l.core z.core (site q + j) (site o + i) size 0 =
      record {
        came = subst (λ (f : ℕ → ℕ). HaveCome copying l.core.memory f (site q + j) (site o + i) 0) (sym keeps.memory) (none_came copying l.core.memory (site q + j) (site o + i) at.stands.words.memory);
        at_from = z.puts.others 21 (λ e. omega (arith, e)) ∙ (y.others 21 (λ e. omega (arith, e)) (λ e. omega (arith, e)) ∙ (x.value ∙ (from_word ∙ (let none : site q + j ≡ site q + j + 0 = omega arith in none))));
        at_to = z.puts.others 1 (λ e. omega (arith, e)) ∙ (y.value ∙ (place_word_kept program_ w l.core x.core (place a) x.keeps to_place.place ∙ (to_word ∙ (let none : site o + i ≡ site o + i + 0 = omega arith in none))));
        left = z.puts.value ∙ (let none : size ≡ size - 0 = omega arith in none);
        steady = keeps.steady;
        skip = keeps.skip;
      } in
      let k =
      loop_copies laws copying p functions w scratch site size l3 b3 more l.core (site q + j) (site o + i) size unit 0 (omega arith) (omega (arith, few)) copy ends refl a3.items moved.positive moved.whole
      (zero_multiple unit moved.units) start in
      let last = (b3 ++ map Plain (words_of (unit_body unit))) ++ back ∷ [] in
      let all =
      and_go laws p functions w scratch site l b1 last (slotted (ys ++ (zs ++ loop))) (slotted more) x.core k.core [] [] a1
      (and_go laws p functions w scratch site l1 b2 last (slotted (zs ++ loop)) (slotted more) y.core k.core [] [] a2
      (and_go laws p functions w scratch site l2 b3 last (slotted loop) (slotted more) z.core k.core [] [] a3 k.passes)) in
      let new = bytes_from size j (object_at m.objects q).bytes in
      let count : length new ≡ size = part_length size j (object_at m.objects q).bytes in
      let are : AreWritten program_ w site o i new l.core k.core =
      record {
        there = came_stand (address p w site) l.core.memory k.core.memory (site q + j) (site o + i) new
            (λ b less. k.copied.came.there b (subst (λ (s : ℕ). b < s) count less))
            (copying.part (address p w site) l.core.memory size j (site q) (object_at m.objects q).bytes r.from.within (at.stands.bytes q r.from.live));
        elsewhere = λ a out. k.copied.came.elsewhere a (subst (λ (s : ℕ). (a < site o + i) ⊎ (site o + i + s ≤ a)) count out);
        bytes = k.copied.came.bytes;
        steady = k.copied.steady;
        skip = k.copied.skip;
      } in
      let reached = laws.objects program_ w site m l.core k.core o i new at.served at.stands r.to.live (subst (λ (s : ℕ). i + s ≤ size_of m.objects o) (sym count) r.to.within) are in
      subst (λ (n : placed.Machine). Follows p program_ w scratch site m n l (slotted more)) (ap (λ (os : List Object). record m { objects = os }) r.is ∙ goes)
      (record {
        values = record { frame = refl; callers = refl; rest = refl; read = refl; out = refl; events = refl };
        core = k.core;
        log = [];
        passes = all.passes;
        stands = reached.stands;
        leaves = reached.leaves;
        logs = λ alike. alike;
      })
    where
      in_parts : (xs ys zs loop more : List Line) → (((xs ++ ys) ++ zs) ++ loop) ++ more ≡ xs ++ (ys ++ (zs ++ (loop ++ more)))
      in_parts xs ys zs loop more =
          append_assoc ((xs ++ ys) ++ zs) loop more ∙ (append_assoc (xs ++ ys) zs (loop ++ more) ∙ append_assoc xs ys (zs ++ (loop ++ more)))

  changed : (after : Option (List Object)) → placed.changes after m ≡ placed.On n → (os : List Object) × (after ≡ Some os) × (record m { objects = os } ≡ n)
  changed (Some os) e = (os, refl, same_machine (record m { objects = os }) n e)
  changed None e = absurd cc

  by_copy : (a b size unit : ℕ) (v u : Value) (after : List Object) → StandAt p functions w site (Flow (op.Move a b size unit)) m l before more
      → placed.value_in m.frame m.registers a ≡ v → placed.value_in m.frame m.registers b ≡ u
      → placed.is_reserved (with_functions p functions) v ≡ false → placed.is_reserved (with_functions p functions) u ≡ false
      → copy v u size unit m.objects ≡ Some after → record m { objects = after } ≡ n → Follows p program_ w scratch site m n l (slotted more)
  by_copy a b size unit (At (P.Object o i)) (At (P.Object q j)) after at one two free also copies goes = move_object_follows a b o i q j size unit after at one two free also copies goes
  by_copy a b size unit (At (P.Object o i)) (At (P.Function f)) after at one two free also copies goes = absurd cc
  by_copy a b size unit (At (P.Object o i)) Undefined after at one two free also copies goes = absurd cc
  by_copy a b size unit (At (P.Object o i)) (Num x) after at one two free also copies goes = absurd cc
  by_copy a b size unit (At (P.Object o i)) Null after at one two free also copies goes = absurd cc
  by_copy a b size unit (At (P.Object o i)) (Piece r k) after at one two free also copies goes = absurd cc
  by_copy a b size unit (At (P.Function f)) u after at one two free also copies goes = absurd cc
  by_copy a b size unit Undefined u after at one two free also copies goes = absurd cc
  by_copy a b size unit (Num x) u after at one two free also copies goes = absurd cc
  by_copy a b size unit Null u after at one two free also copies goes = absurd cc
  by_copy a b size unit (Piece r k) u after at one two free also copies goes = absurd cc

  move_follows : (a b size unit : ℕ) → StandAt p functions w site (Flow (op.Move a b size unit)) m l before more
      → placed.does (with_functions p functions) (Flow (op.Move a b size unit)) m ≡ placed.On n → Follows p program_ w scratch site m n l (slotted more)
  unfolding command
  move_follows a b size unit at is =
      by_test (placed.is_reserved (with_functions p functions) (placed.value_in m.frame m.registers a) || placed.is_reserved (with_functions p functions) (placed.value_in m.frame m.registers b)) refl is
    where
      by_test : (t : Bool)
          → (placed.is_reserved (with_functions p functions) (placed.value_in m.frame m.registers a) || placed.is_reserved (with_functions p functions) (placed.value_in m.frame m.registers b)) ≡ t
          → (if t then placed.Astray else placed.changes (copy (placed.value_in m.frame m.registers a) (placed.value_in m.frame m.registers b) size unit m.objects) m) ≡ placed.On n
          → Follows p program_ w scratch site m n l (slotted more)
      by_test true free e = absurd cc
      by_test false free e =
          let v = placed.value_in m.frame m.registers a in
          let u = placed.value_in m.frame m.registers b in
          let parts = or_parts (placed.is_reserved (with_functions p functions) v) (placed.is_reserved (with_functions p functions) u) free in
          let r = changed (copy v u size unit m.objects) e in
          by_copy a b size unit v u r.0 at refl refl parts.0 parts.1 r.1 r.2

pub copies_follow : Laws → CopyLaws → (o : WebOp) → CopiesBytes o → OperationFollows o
copies_follow laws copying (Flow (op.Move a b size unit)) h p functions w scratch site m n l before more at is =
    move_follows laws copying p functions w scratch site m n l before more a b size unit at is
copies_follow laws copying _ h p functions w scratch site m n l before more at is = absurd h
