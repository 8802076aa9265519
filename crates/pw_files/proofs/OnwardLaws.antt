-- Readers that go onward: what is found rests on the bytes before what is left, and a fault on those up to
-- the faulty field's end.
use Rattle.std.proofs.Common.{◌≡◌, ℕ, zero, suc, ◌≤◌, Bool, true, false, cond, ltb, List, [], ◌∷◌, ◌++◌, length, take, drop, Result, Ok, Err, refl, sym, ap, subst, ◌∙◌, append_assoc, arith, inl, inr}
use Rattle.std.specs.Prelude.{Option, None, nat_lt, ◌==◌}
use Rattle.std.specs.Int.{Width, w32, w64, byte_len, from_be_bytes}
use Rattle.std.proofs.lemmas.Bool.{ltb-false, le-ltb}
use Rattle.std.proofs.lemmas.List.{take_at, drop_at, take-append-drop, length-append, length-take}
use Rattle.pw_value.specs.declared.program_names.StartName.{StartName}
use Rattle.pw_fields.specs.Fields.{◌>>=◌, after, done, kept, checked, number_at, u8_at, u32_at, u64_at, text_within, text_at, choice_at, flag_at, items_at, same_state, repeated}
use Rattle.pw_fields.specs.FieldFrame.{here, ended}
use Rattle.pw_fields.specs.FieldNames.{entry_at, next_entry, names_at, name_at}
use Rattle.pw_fields.proofs.FieldLaws.{found_is, not_found, after_passes, guard_passes}
use Rattle.pw_files.specs.Rising.{next_key, counted_at, rising_at}
use Rattle.pw_files.specs.Kinds.{kind_at, scalar_at}
use Rattle.pw_files.specs.Names.{name_above_at, text_above_at, shaped_at, name_list_at, text_list_at, shaped_list_at}
use Rattle.pw_files.specs.Faults.{IsFieldLength}

-- ---- what is found, and a fault

pub record Found {X : Type 0} (read : List ℕ → Result (X × List ℕ) ℕ) (bytes : List ℕ) (x : X) (rest : List ℕ) : Type 0 where
  pub front : List ℕ
  pub parts : bytes ≡ front ++ rest
  pub same : (more : List ℕ) → length more ≡ length rest → read (front ++ more) ≡ Ok (x, more)

-- the faulty field begins behind `before`
pub record Faulty {X : Type 0} (read : List ℕ → Result (X × List ℕ) ℕ) (bytes : List ℕ) (left : ℕ) : Type 0 where
  pub before : List ℕ
  pub tail : List ℕ
  pub parts : bytes ≡ before ++ tail
  pub begins : length tail ≡ left
  pub count : ℕ
  pub field : IsFieldLength tail count
  pub same : (other : List ℕ) → length other ≡ length tail → take count other ≡ take count tail → read (before ++ other) ≡ Err left

pub record Onward {X : Type 0} (read : List ℕ → Result (X × List ℕ) ℕ) : Type 0 where
  pub found : (bytes : List ℕ) (x : X) (rest : List ℕ) → read bytes ≡ Ok (x, rest) → Found read bytes x rest
  pub fault : (bytes : List ℕ) (left : ℕ) → read bytes ≡ Err left → Faulty read bytes left

-- a reader of one field, which is faulty where it begins
pub record OneField {X : Type 0} (read : List ℕ → Result (X × List ℕ) ℕ) : Type 0 where
  pub found : (bytes : List ℕ) (x : X) (rest : List ℕ) → read bytes ≡ Ok (x, rest) → (f : Found read bytes x rest) × IsFieldLength bytes (length f.front)
  pub fault : (bytes : List ℕ) (left : ℕ) → read bytes ≡ Err left → (left ≡ length bytes) × (count : ℕ) × IsFieldLength bytes count × ((other : List ℕ) → length other ≡ length bytes → take count other ≡ take count bytes → read other ≡ Err left)

pub one_onward : {X : Type 0} (read : List ℕ → Result (X × List ℕ) ℕ) → OneField read → Onward read
one_onward read laws = record {
  found = λ bytes x rest e. (laws.found bytes x rest e).0;
  fault = λ bytes left e. let p = laws.fault bytes left e in record { before = []; tail = bytes; parts = refl; begins = sym p.0; count = p.1; field = p.2; same = p.3 };
}

abbrev found : {X : Type 0} → X → List ℕ → Result (X × List ℕ) ℕ
found x rest = Ok (x, rest)

abbrev faulty : {X : Type 0} → ℕ → Result (X × List ℕ) ℕ
faulty left = Err left

left_is : {X : Type 0} (m n : ℕ) → faulty {X = X} m ≡ faulty {X = X} n → m ≡ n
left_is m n e = cc

-- ---- one reader behind another

pub done_onward : {X : Type 0} (x : X) → Onward (done x)
done_onward x = record {
  found = λ bytes y rest e. let p = found_is x y bytes rest e in record { front = []; parts = p.1; same = λ more len. ap (λ z. found z more) p.0 };
  fault = λ bytes left e. absurd cc;
}

pub here_onward : Onward here
here_onward = record {
  found = λ bytes y rest e. let p = found_is (length bytes) y bytes rest e in record { front = []; parts = p.1; same = λ more len. ap (λ n. found n more) (len ∙ ap length (sym p.1) ∙ p.0) };
  fault = λ bytes left e. absurd cc;
}

behind_found : {A X : Type 0} (first : List ℕ → Result (A × List ℕ) ℕ) (next : A → List ℕ → Result (X × List ℕ) ℕ) → Onward first → ((a : A) → Onward (next a))
    → (bytes : List ℕ) (x : X) (rest : List ℕ) → (first >>= next) bytes ≡ Ok (x, rest) → Found (first >>= next) bytes x rest
behind_found first next one two bytes x rest e =
    let p = after_passes (first bytes) next x rest e in
    let f = one.found bytes p.0 p.1 p.2 in
    let g = (two p.0).found p.1 x rest p.3 in
    record {
      front = f.front ++ g.front;
      parts = f.parts ∙ ap (λ (w : List ℕ). f.front ++ w) g.parts ∙ sym (append_assoc f.front g.front rest);
      same = λ more len.
          let long : length (g.front ++ more) ≡ length p.1 = omega (arith, length-append g.front more, len, ap length g.parts, length-append g.front rest) in
          ap (first >>= next) (append_assoc f.front g.front more) ∙ ap (λ r. after r next) (f.same (g.front ++ more) long) ∙ g.same more len;
    }

behind_fault : {A X : Type 0} (first : List ℕ → Result (A × List ℕ) ℕ) (next : A → List ℕ → Result (X × List ℕ) ℕ) → Onward first → ((a : A) → Onward (next a))
    → (bytes : List ℕ) (left : ℕ) (r : Result (A × List ℕ) ℕ) → first bytes ≡ r → after r next ≡ Err left → Faulty (first >>= next) bytes left
behind_fault first next one two bytes left (Ok p) is e =
    let f = one.found bytes p.0 p.1 is in
    let g = (two p.0).fault p.1 left e in
    record {
      before = f.front ++ g.before;
      tail = g.tail;
      parts = f.parts ∙ ap (λ (w : List ℕ). f.front ++ w) g.parts ∙ sym (append_assoc f.front g.before g.tail);
      begins = g.begins;
      count = g.count;
      field = g.field;
      same = λ other len alike.
          let long : length (g.before ++ other) ≡ length p.1 = omega (arith, length-append g.before other, len, ap length g.parts, length-append g.before g.tail) in
          ap (first >>= next) (append_assoc f.front g.before other) ∙ ap (λ r. after r next) (f.same (g.before ++ other) long) ∙ g.same other len alike;
    }
behind_fault {X = X} first next one two bytes left (Err d) is e =
    let f = one.fault bytes d is in
    record { before = f.before; tail = f.tail; parts = f.parts; begins = f.begins ∙ left_is {X = X} d left e; count = f.count; field = f.field; same = λ other len alike. ap (λ r. after r next) (f.same other len alike) ∙ e }

pub behind : {A X : Type 0} (first : List ℕ → Result (A × List ℕ) ℕ) (next : A → List ℕ → Result (X × List ℕ) ℕ) → Onward first → ((a : A) → Onward (next a)) → Onward (first >>= next)
behind first next one two = record {
  found = λ bytes x rest e. behind_found first next one two bytes x rest e;
  fault = λ bytes left e. behind_fault first next one two bytes left (first bytes) refl e;
}

-- ---- the end of a payload

none_left : (more : List ℕ) → length more ≡ 0 → more ≡ []
none_left [] len = refl
none_left (b ∷ more) len = absurd (omega (arith, len))

ended_found : {X : Type 0} (x y : X) (bytes rest : List ℕ) → ended None x bytes ≡ Ok (y, rest) → Found (ended None x) bytes y rest
ended_found x y [] rest e = let p = found_is x y [] rest e in record { front = []; parts = p.1; same = λ more len. ap (ended None x) (none_left more (len ∙ ap length (sym p.1))) ∙ ap (λ z. found z []) p.0 ∙ ap (found y) (sym (none_left more (len ∙ ap length (sym p.1)))) }
ended_found x y (b ∷ bytes) rest e = absurd (not_found _ y rest e)

still_left : {X : Type 0} (x : X) (n : ℕ) (other : List ℕ) → length other ≡ suc n → ended None x other ≡ Err (suc n)
still_left x n [] len = absurd (omega (arith, len))
still_left {X = X} x n (b ∷ other) len = ap (λ m. faulty {X = X} m) len

ended_fault : {X : Type 0} (x : X) (bytes : List ℕ) (left : ℕ) → ended None x bytes ≡ Err left → Faulty (ended None x) bytes left
ended_fault x [] left e = absurd cc
ended_fault {X = X} x (b ∷ bytes) left e =
    let at = left_is {X = X} _ left e in
    record { before = []; tail = b ∷ bytes; parts = refl; begins = at; count = 1; field = inl refl; same = λ other len alike. still_left x (length bytes) other len ∙ ap (λ m. faulty {X = X} m) at }

pub ended_onward : {X : Type 0} (x : X) → Onward (ended None x)
ended_onward x = record { found = λ bytes y rest e. ended_found x y bytes rest e; fault = λ bytes left e. ended_fault x bytes left e }

-- ---- a field under a rule

kept_is : {X : Type 0} (rule : X → Bool) (n : ℕ) (y x : X) (behind rest : List ℕ) (b : Bool) → rule y ≡ b → cond b (found y behind) (Err n) ≡ found x rest → (found y behind ≡ found x rest) × (rule x ≡ true)
kept_is rule n y x behind rest true is e = (e, ap rule (sym (found_is y x behind rest e).0) ∙ is)
kept_is rule n y x behind rest false is e = absurd (not_found n x rest e)

pub kept_found : {X : Type 0} (rule : X → Bool) (n : ℕ) (x : X) (rest : List ℕ) (r : Result (X × List ℕ) ℕ) → kept rule n r ≡ Ok (x, rest) → (r ≡ Ok (x, rest)) × (rule x ≡ true)
kept_found rule n x rest (Ok y) e = kept_is rule n y.0 x y.1 rest (rule y.0) refl e
kept_found rule n x rest (Err d) e = absurd (not_found d x rest e)

abbrev SameFault : {X : Type 0} → (List ℕ → Result (X × List ℕ) ℕ) → List ℕ → ℕ → Type 0
SameFault read bytes left = (left ≡ length bytes) × (count : ℕ) × IsFieldLength bytes count × ((other : List ℕ) → length other ≡ length bytes → take count other ≡ take count bytes → read other ≡ Err left)

-- other bytes that begin alike
pub begins_alike : (front rest other : List ℕ) → length other ≡ length (front ++ rest) → take (length front) other ≡ take (length front) (front ++ rest) → (other ≡ front ++ drop (length front) other) × (length (drop (length front) other) ≡ length rest)
begins_alike front rest other len alike =
    let is : other ≡ front ++ drop (length front) other = sym (take-append-drop (length front) other) ∙ ap (λ (w : List ℕ). w ++ drop (length front) other) (alike ∙ take_at front rest (length front) refl) in
    (is, omega (arith, ap length is, length-append front (drop (length front) other), length-append front rest, len))

broken : {X : Type 0} (rule : X → Bool) (read : List ℕ → Result (X × List ℕ) ℕ) → OneField read → (bytes : List ℕ) (left : ℕ) (x : X) (rest : List ℕ) → read bytes ≡ Ok (x, rest)
    → (b : Bool) → rule x ≡ b → cond b (found x rest) (Err (length bytes)) ≡ Err left → SameFault (checked rule read) bytes left
broken rule read laws bytes left x rest is true holds e = absurd cc
broken {X = X} rule read laws bytes left x rest is false holds e =
    let f = laws.found bytes x rest is in
    let at = left_is {X = X} (length bytes) left e in (
      sym at,
      length f.0.front,
      f.1,
      λ other len alike.
          let like = begins_alike f.0.front rest other (len ∙ ap length f.0.parts) (alike ∙ ap (take (length f.0.front)) f.0.parts) in
          let again : read other ≡ Ok (x, drop (length f.0.front) other) = ap read like.0 ∙ f.0.same (drop (length f.0.front) other) like.1 in
          ap (kept rule (length other)) again ∙ ap (λ b. cond b (found x (drop (length f.0.front) other)) (Err (length other))) holds ∙ ap (λ m. faulty {X = X} m) (len ∙ at),
    )

checked_fault : {X : Type 0} (rule : X → Bool) (read : List ℕ → Result (X × List ℕ) ℕ) → OneField read → (bytes : List ℕ) (left : ℕ) (r : Result (X × List ℕ) ℕ) → read bytes ≡ r → kept rule (length bytes) r ≡ Err left → SameFault (checked rule read) bytes left
checked_fault rule read laws bytes left (Ok x) is e = broken rule read laws bytes left x.0 x.1 is (rule x.0) refl e
checked_fault {X = X} rule read laws bytes left (Err d) is e =
    let p = laws.fault bytes d is in
    (sym (left_is {X = X} d left e) ∙ p.0, p.1, p.2, λ other len alike. ap (kept rule (length other)) (p.3 other len alike) ∙ e)

pub checked_one : {X : Type 0} (rule : X → Bool) (read : List ℕ → Result (X × List ℕ) ℕ) → OneField read → OneField (checked rule read)
checked_one rule read laws = record {
  found = λ bytes x rest e.
      let k = kept_found rule (length bytes) x rest (read bytes) e in
      let f = laws.found bytes x rest k.0 in
      (record { front = f.0.front; parts = f.0.parts; same = λ more len. ap (kept rule (length (f.0.front ++ more))) (f.0.same more len) ∙ ap (λ b. cond b (found x more) (Err (length (f.0.front ++ more)))) k.1 }, f.1);
  fault = λ bytes left e. checked_fault rule read laws bytes left (read bytes) refl e;
}

-- a field whose value is seen otherwise
mapped_fault : {A X : Type 0} (read : List ℕ → Result (A × List ℕ) ℕ) (h : A → X) → OneField read → (bytes : List ℕ) (left : ℕ) (r : Result (A × List ℕ) ℕ) → read bytes ≡ r → after r (λ a. done (h a)) ≡ Err left → SameFault (read >>= λ a. done (h a)) bytes left
mapped_fault read h laws bytes left (Ok a) is e = absurd cc
mapped_fault {X = X} read h laws bytes left (Err d) is e =
    let p = laws.fault bytes d is in
    (sym (left_is {X = X} d left e) ∙ p.0, p.1, p.2, λ other len alike. ap (λ r. after r (λ a. done (h a))) (p.3 other len alike) ∙ e)

pub mapped_one : {A X : Type 0} (read : List ℕ → Result (A × List ℕ) ℕ) (h : A → X) → OneField read → OneField (read >>= λ a. done (h a))
mapped_one read h laws = record {
  found = λ bytes x rest e.
      let p = after_passes (read bytes) (λ a. done (h a)) x rest e in
      let f = laws.found bytes p.0 p.1 p.2 in
      let q = found_is (h p.0) x p.1 rest p.3 in
      (record { front = f.0.front; parts = f.0.parts ∙ ap (λ (w : List ℕ). f.0.front ++ w) q.1; same = λ more len. ap (λ r. after r (λ a. done (h a))) (f.0.same more (len ∙ ap length (sym q.1))) ∙ ap (λ z. found z more) q.0 }, f.1);
  fault = λ bytes left e. mapped_fault read h laws bytes left (read bytes) refl e;
}

-- ---- single fields

guard_fails : {X : Type 0} (b : Bool) (n : ℕ) (x : X) (rest : List ℕ) (left : ℕ) → cond b (Err n) (found x rest) ≡ Err left → (b ≡ true) × (n ≡ left)
guard_fails {X = X} true n x rest left e = (refl, left_is {X = X} n left e)
guard_fails false n x rest left e = absurd cc

number_is : (w : Width) (bytes : List ℕ) (n : ℕ) (rest : List ℕ) → number_at w bytes ≡ Ok (n, rest) → (byte_len w ≤ length bytes) × (from_be_bytes w (take (byte_len w) bytes) ≡ n) × (drop (byte_len w) bytes ≡ rest)
number_is w bytes n rest e =
    let g = guard_passes (ltb (length bytes) (byte_len w)) (length bytes) (from_be_bytes w (take (byte_len w) bytes)) n (drop (byte_len w) bytes) rest e in
    (ltb-false _ _ g.0, g.1, g.2)

front_length : (w : Width) (bytes : List ℕ) → byte_len w ≤ length bytes → length (take (byte_len w) bytes) ≡ byte_len w
front_length w bytes long = omega (arith, length-take (byte_len w) bytes, long)

number_again : (w : Width) (front more : List ℕ) (n : ℕ) → length front ≡ byte_len w → from_be_bytes w front ≡ n → number_at w (front ++ more) ≡ Ok (n, more)
number_again w front more n len is =
    let long : ltb (length (front ++ more)) (byte_len w) ≡ false = le-ltb _ _ (omega (arith, length-append front more, len)) in
    rw (long, take_at front more (byte_len w) len, drop_at front more (byte_len w) len, is) refl

number_found : (w : Width) (bytes : List ℕ) (n : ℕ) (rest : List ℕ) → number_at w bytes ≡ Ok (n, rest) → Found (number_at w) bytes n rest
number_found w bytes n rest e =
    let p = number_is w bytes n rest e in
    record { front = take (byte_len w) bytes; parts = sym (take-append-drop (byte_len w) bytes) ∙ ap (λ (r : List ℕ). take (byte_len w) bytes ++ r) p.2; same = λ more len. number_again w (take (byte_len w) bytes) more n (front_length w bytes p.0) p.1 }

number_one : (w : Width) → ((bytes : List ℕ) → IsFieldLength bytes (byte_len w)) → OneField (number_at w)
unfolding number_found
number_one w known = record {
  found = λ bytes n rest e. let p = number_is w bytes n rest e in (number_found w bytes n rest e, subst (IsFieldLength bytes) (sym (front_length w bytes p.0)) (known bytes));
  fault = λ bytes left e.
      let g = guard_fails (ltb (length bytes) (byte_len w)) (length bytes) (from_be_bytes w (take (byte_len w) bytes)) (drop (byte_len w) bytes) left e in
      (sym g.1, byte_len w, known bytes, λ other len alike. rw (len, g.0) (ap (λ m. faulty {X = ℕ} m) g.1));
}

pub u32_one : OneField u32_at
unfolding u32_at
u32_one = number_one w32 (λ bytes. inr (inl refl))

pub u64_one : OneField u64_at
unfolding u64_at
u64_one = number_one w64 (λ bytes. inr (inr (inl refl)))

byte_found : (bytes : List ℕ) (n : ℕ) (rest : List ℕ) → u8_at bytes ≡ Ok (n, rest) → (f : Found u8_at bytes n rest) × IsFieldLength bytes (length f.front)
unfolding u8_at
byte_found [] n rest e = absurd (not_found 0 n rest e)
byte_found (b ∷ bytes) n rest e = let p = found_is b n bytes rest e in (record { front = b ∷ []; parts = ap (λ (w : List ℕ). b ∷ w) p.1; same = λ more len. ap (λ m. found m more) p.0 }, inl refl)

no_byte : (other : List ℕ) → length other ≡ 0 → u8_at other ≡ Err 0
unfolding u8_at
no_byte [] len = refl
no_byte (b ∷ other) len = absurd (omega (arith, len))

byte_fault : (bytes : List ℕ) (left : ℕ) → u8_at bytes ≡ Err left → SameFault u8_at bytes left
unfolding u8_at
byte_fault [] left e = let at = left_is {X = ℕ} 0 left e in (sym at, 1, inl refl, λ other len alike. no_byte other len ∙ ap (λ m. faulty {X = ℕ} m) at)
byte_fault (b ∷ bytes) left e = absurd cc

pub u8_one : OneField u8_at
u8_one = record { found = byte_found; fault = byte_fault }

pub choice_one : (n : ℕ) → OneField (choice_at n)
unfolding choice_at
choice_one n = checked_one (λ b. nat_lt b n) u8_at u8_one

pub flag_one : OneField flag_at
unfolding flag_at
flag_one = mapped_one (choice_at 2) (λ b. b == 1) (choice_one 2)

-- ---- texts

text_found : (bytes words rest : List ℕ) (r : Result (ℕ × List ℕ) ℕ) → u32_at bytes ≡ r → text_within (length bytes) r ≡ Ok (words, rest) → (f : Found text_at bytes words rest) × IsFieldLength bytes (length f.front)
unfolding text_at u32_at number_found
text_found bytes words rest (Ok n) is e =
    let g = guard_passes (ltb (length n.1) n.0) (length bytes) (take n.0 n.1) words (drop n.0 n.1) rest e in
    let long : n.0 ≤ length n.1 = ltb-false _ _ g.0 in
    let len : length words ≡ n.0 = ap length (sym g.1) ∙ omega (arith, length-take n.0 n.1, long) in
    let parted : n.1 ≡ words ++ rest = sym (take-append-drop n.0 n.1) ∙ ap (λ (w : List ℕ). w ++ drop n.0 n.1) g.1 ∙ ap (λ (w : List ℕ). words ++ w) g.2 in
    let p = number_is w32 bytes n.0 n.1 is in
    let f = number_found w32 bytes n.0 n.1 is in
    let four : length f.front ≡ 4 = front_length w32 bytes p.0 in
    let whole : bytes ≡ (f.front ++ words) ++ rest = f.parts ∙ ap (λ (w : List ℕ). f.front ++ w) parted ∙ sym (append_assoc f.front words rest) in (
      record {
        front = f.front ++ words;
        parts = whole;
        same = λ more m.
            let count : u32_at (f.front ++ (words ++ more)) ≡ Ok (n.0, words ++ more) = f.same (words ++ more) (omega (arith, length-append words more, ap length parted, length-append words rest, m)) in
            let enough : ltb (length (words ++ more)) n.0 ≡ false = le-ltb _ _ (omega (arith, length-append words more, len)) in
            ap text_at (append_assoc f.front words more) ∙ rw (count, enough, take_at words more n.0 len, drop_at words more n.0 len) refl;
      },
      inr (inr (inr (omega (arith, length-append f.front words, four, len, p.1), omega (arith, ap length whole, length-append (f.front ++ words) rest)))),
    )
text_found bytes words rest (Err d) is e = absurd (not_found d words rest e)

text_fault : (bytes : List ℕ) (left : ℕ) (r : Result (ℕ × List ℕ) ℕ) → u32_at bytes ≡ r → text_within (length bytes) r ≡ Err left → SameFault text_at bytes left
unfolding text_at
text_fault bytes left (Ok n) is e =
    let g = guard_fails (ltb (length n.1) n.0) (length bytes) (take n.0 n.1) (drop n.0 n.1) left e in
    let f = u32_one.found bytes n.0 n.1 is in (
      sym g.1,
      length f.0.front,
      f.1,
      λ other len alike.
          let like = begins_alike f.0.front n.1 other (len ∙ ap length f.0.parts) (alike ∙ ap (take (length f.0.front)) f.0.parts) in
          let again : u32_at other ≡ Ok (n.0, drop (length f.0.front) other) = ap u32_at like.0 ∙ f.0.same (drop (length f.0.front) other) like.1 in
          rw (again, like.1, g.0) (ap (λ m. faulty {X = List ℕ} m) (len ∙ g.1)),
    )
text_fault bytes left (Err d) is e =
    let p = u32_one.fault bytes d is in
    (sym (left_is {X = List ℕ} d left e) ∙ p.0, p.1, p.2, λ other len alike. ap (text_within (length other)) (p.3 other len alike) ∙ ap (λ m. faulty {X = List ℕ} m) (left_is {X = List ℕ} d left e))

pub text_one : OneField text_at
unfolding text_at
text_one = record { found = λ bytes words rest e. text_found bytes words rest (u32_at bytes) refl e; fault = λ bytes left e. text_fault bytes left (u32_at bytes) refl e }

-- ---- lists

pub items_onward : {S X : Type 0} (item : S → List ℕ → Result (X × List ℕ) ℕ) (next : S → X → S) → ((s : S) → Onward (item s)) → (n : ℕ) (s : S) → Onward (items_at item next n s)
unfolding items_at
items_onward item next laws zero s = done_onward []
items_onward item next laws (suc n) s = behind (item s) (λ x. items_at item next n (next s x) >>= λ xs. done (x ∷ xs)) (laws s) (λ x. behind (items_at item next n (next s x)) (λ xs. done (x ∷ xs)) (items_onward item next laws n (next s x)) (λ xs. done_onward (x ∷ xs)))

pub repeated_onward : {X : Type 0} (item : List ℕ → Result (X × List ℕ) ℕ) → Onward item → (n : ℕ) → Onward (repeated item n)
unfolding repeated
repeated_onward item laws n = items_onward (λ s. item) same_state (λ s. laws) n 0

pub counted_onward : {X : Type 0} (item : List ℕ → Result (X × List ℕ) ℕ) → Onward item → Onward (counted_at item)
unfolding counted_at
counted_onward item laws = behind u32_at (λ n. repeated item n >>= λ xs. done xs) (one_onward u32_at u32_one) (λ n. behind (repeated item n) (λ xs. done xs) (repeated_onward item laws n) (λ xs. done_onward xs))

pub rising_onward : {X : Type 0} (key : X → List ℕ) (item : Option (List ℕ) → List ℕ → Result (X × List ℕ) ℕ) → ((before : Option (List ℕ)) → Onward (item before)) → Onward (rising_at key item)
unfolding rising_at
rising_onward key item laws = behind u32_at (λ n. items_at item (next_key key) n None >>= λ xs. done xs) (one_onward u32_at u32_one) (λ n. behind (items_at item (next_key key) n None) (λ xs. done xs) (items_onward item (next_key key) laws n None) (λ xs. done_onward xs))

-- ---- names and kinds

pub names_onward : Onward names_at
unfolding names_at entry_at
names_onward = behind u32_at (λ n. items_at entry_at next_entry n [] >>= λ names. done names) (one_onward u32_at u32_one) (λ n. behind (items_at entry_at next_entry n []) (λ names. done names) (items_onward entry_at next_entry (λ before. one_onward _ (checked_one _ text_at text_one)) n []) (λ names. done_onward names))

pub name_one : (names : List (List ℕ)) → OneField (name_at names)
unfolding name_at
name_one names = mapped_one _ _ (checked_one _ u32_at u32_one)

pub kind_one : OneField kind_at
unfolding kind_at
kind_one = mapped_one (choice_at 6) _ (choice_one 6)

pub scalar_one : OneField scalar_at
unfolding scalar_at
scalar_one = mapped_one _ _ (checked_one _ u8_at u8_one)

-- ---- names and texts in byte order

pub name_above_one : (names : List (List ℕ)) (start : StartName) (before : Option (List ℕ)) → OneField (name_above_at names start before)
unfolding name_above_at
name_above_one names start before = checked_one _ (name_at names) (name_one names)

pub text_above_one : (before : Option (List ℕ)) → OneField (text_above_at before)
unfolding text_above_at
text_above_one before = checked_one _ text_at text_one

shaped_onward : (names : List (List ℕ)) (start : StartName) (before : Option (List ℕ)) → Onward (shaped_at names start before)
unfolding shaped_at
shaped_onward names start before = behind _ _ (one_onward _ (name_above_one names start before)) (λ name. behind _ _ (one_onward _ text_one) (λ shape. done_onward (name, shape)))

pub name_list_onward : (names : List (List ℕ)) (start : StartName) → Onward (name_list_at names start)
name_list_onward names start = rising_onward (λ name. name) (name_above_at names start) (λ before. one_onward _ (name_above_one names start before))

pub text_list_onward : Onward text_list_at
text_list_onward = rising_onward (λ text. text) text_above_at (λ before. one_onward _ (text_above_one before))

pub shaped_list_onward : (names : List (List ℕ)) (start : StartName) → Onward (shaped_list_at names start)
shaped_list_onward names start = rising_onward (λ f. f.0) (shaped_at names start) (shaped_onward names start)
