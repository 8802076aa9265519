-- The faults of a file: each lies within the bytes, and one of the fields rests on the bytes up to the
-- faulty field's end.
use Rattle.std.proofs.Common.{◌≡◌, ℕ, suc, ◌+◌, ◌-◌, ◌≤◌, Bool, true, false, cond, List, [], ◌∷◌, ◌++◌, length, take, drop, Result, Ok, Err, refl, sym, ap, subst, ◌∙◌, append_assoc, arith, inl, inr}
use Rattle.std.specs.Prelude.{Option, None, nat_le, ◌==◌, ◌&&◌}
use Rattle.std.specs.Int.{w32, from_be_bytes}
use Rattle.std.proofs.lemmas.Bool.{cases_lt}
use Rattle.std.proofs.lemmas.List.{take_at, drop_at, take-append-drop, length-append, length-take, length-drop, take-take, take_all, take-append-le}
use Rattle.pw_fields.specs.Fields.{◌>>=◌, after, u32_at}
use Rattle.pw_fields.specs.FieldFrame.{here, ended, header_at, digest_size, payload_of, digest_of, opened, opened_at, placed, is_sealed, sealed, framed, file_at}
use Rattle.pw_fields.specs.FieldNames.{names_at}
use Rattle.pw_files.specs.Contents.{Contents, FieldsReader, contents_at, contents_file_at, value_of}
use Rattle.pw_files.specs.Faults.{IsFieldLength, OfPayload, Anything, StaysFault, no_rule, unsealed, FaultsStay, PayloadFaultsStay}
use Rattle.pw_files.proofs.OnwardLaws.{Onward, one_onward, checked_one, u32_one, behind, done_onward, here_onward, names_onward}

abbrev failed : {X : Type 0} → ℕ → Result X ℕ
failed at = Err at

at_is : {X : Type 0} (m n : ℕ) → failed {X = X} m ≡ failed {X = X} n → m ≡ n
at_is m n e = cc

-- ---- a rule that is looked at last changes no fault before it

pub record Keeps {X : Type 0} (one two : List ℕ → Result (X × List ℕ) ℕ) : Type 0 where
  pub same : (bytes : List ℕ) (left : ℕ) → one bytes ≡ Err left → two bytes ≡ Err left

keeps_by : {A X : Type 0} (next others : A → List ℕ → Result (X × List ℕ) ℕ) → ((a : A) → Keeps (next a) (others a)) → (r : Result (A × List ℕ) ℕ) (left : ℕ) → after r next ≡ Err left → after r others ≡ Err left
keeps_by next others keeps (Ok p) left e = (keeps p.0).same p.1 left e
keeps_by next others keeps (Err d) left e = ap failed (at_is d left e)

pub keeps_behind : {A X : Type 0} (first : List ℕ → Result (A × List ℕ) ℕ) (next others : A → List ℕ → Result (X × List ℕ) ℕ) → ((a : A) → Keeps (next a) (others a)) → Keeps (first >>= next) (first >>= others)
keeps_behind first next others keeps = record { same = λ bytes left e. keeps_by next others keeps (first bytes) left e }

ended_still : {X : Type 0} (late : Option ℕ) (x : X) (bytes : List ℕ) (left : ℕ) → ended None x bytes ≡ Err left → ended late x bytes ≡ Err left
ended_still late x [] left e = absurd cc
ended_still late x (b ∷ bytes) left e = e

pub keeps_ended : {X : Type 0} (late : Option ℕ) (x : X) → Keeps (ended None x) (ended late x)
keeps_ended late x = record { same = λ bytes left e. ended_still late x bytes left e }

-- ---- the fields behind the frame

pub contents_onward : {V : Type 0} (fields : FieldsReader V) → ((names : List (List ℕ)) → Onward (fields names (λ v count. None))) → Onward (contents_at fields no_rule)
unfolding contents_at
contents_onward fields laws = behind names_at (λ names. here >>= λ place. fields names (no_rule names place)) names_onward (λ names. behind here (λ place. fields names (no_rule names place)) here_onward (λ place. laws names))

pub contents_keep : {V : Type 0} (fields : FieldsReader V) (late : List (List ℕ) → ℕ → V → ℕ → Option ℕ) → ((names : List (List ℕ)) (rule : V → ℕ → Option ℕ) → Keeps (fields names (λ v count. None)) (fields names rule)) → Keeps (contents_at fields no_rule) (contents_at fields late)
unfolding contents_at
contents_keep fields late keeps = keeps_behind names_at _ _ (λ names. keeps_behind here _ _ (λ place. keeps names (late names place)))

pub header_onward : (kind first last total : ℕ) → Onward (header_at kind first last total)
header_onward kind first last total = behind _ _ (one_onward _ (checked_one (λ k. k == kind) u32_at u32_one)) (λ k. behind _ _ (one_onward _ (checked_one (λ n. n == total) u32_at u32_one)) (λ n. behind _ _ (one_onward _ (checked_one (λ v. nat_le first v && nat_le v last) u32_at u32_one)) (λ v. done_onward v)))

-- ---- lists that begin alike

record Alike (before tail others : List ℕ) (count : ℕ) : Type 0 where
  other : List ℕ
  parts : others ≡ before ++ other
  long : length other ≡ length tail
  same : take count other ≡ take count tail

head_is : (a b : ℕ) (xs ys : List ℕ) → a ∷ xs ≡ b ∷ ys → (a ≡ b) × (xs ≡ ys)
head_is a b xs ys e = (cc, cc)

alike : (before tail others : List ℕ) (count : ℕ) → length others ≡ length (before ++ tail) → take (length before + count) others ≡ take (length before + count) (before ++ tail) → Alike before tail others count
alike [] tail others count len e =
    let none : length {A = ℕ} [] + count ≡ count = omega arith in
    record { other = others; parts = refl; long = len; same = ap (λ n. take n others) (sym none) ∙ e ∙ ap (λ n. take n tail) none }
alike (b ∷ before) tail [] count len e = absurd (omega (arith, len))
alike (b ∷ before) tail (o ∷ others) count len e =
    let shift : suc (length before) + count ≡ suc (length before + count) = omega arith in
    let both = head_is o b _ _ (sym (ap (λ n. take n (o ∷ others)) shift) ∙ e ∙ ap (λ n. take n (b ∷ (before ++ tail))) shift) in
    let later = alike before tail others count (omega (arith, len)) both.1 in
    record { other = later.other; parts = ap (λ (w : List ℕ). o ∷ w) later.parts ∙ ap (λ x. x ∷ (before ++ later.other)) both.0; long = later.long; same = later.same }

-- a field is as long where more follows
longer_text : (tail d : List ℕ) (n : ℕ) → (n ≡ 4 + from_be_bytes w32 (take 4 tail)) × (n ≤ length tail) → (n ≡ 4 + from_be_bytes w32 (take 4 (tail ++ d))) × (n ≤ length (tail ++ d))
longer_text tail d n h =
    let four : take 4 (tail ++ d) ≡ take 4 tail = take-append-le 4 tail d (omega (arith, h.0, h.1)) in
    (h.0 ∙ ap (λ (w : List ℕ). 4 + from_be_bytes w32 w) (sym four), omega (arith, h.1, length-append tail d))

longer : (tail d : List ℕ) (n : ℕ) → IsFieldLength tail n → IsFieldLength (tail ++ d) n
longer tail d n (inl h) = inl h
longer tail d n (inr (inl h)) = inr (inl h)
longer tail d n (inr (inr (inl h))) = inr (inr (inl h))
longer tail d n (inr (inr (inr h))) = inr (inr (inr (longer_text tail d n h)))

-- what begins alike begins alike in its front
pub swapped : (m n : ℕ) (xs ys : List ℕ) → take m xs ≡ take m ys → take m (take n xs) ≡ take m (take n ys)
swapped m n xs ys same =
    elim (cases_lt m n) [
      | inl lt ↦ take-take m n xs (omega (arith, lt)) ∙ same ∙ sym (take-take m n ys (omega (arith, lt)))
      | inr le ↦ take_all m (take n xs) (omega (arith, length-take n xs, le)) ∙ sym (take-take n m xs le) ∙ ap (take n) same ∙ take-take n m ys le ∙ sym (take_all m (take n ys) (omega (arith, length-take n ys, le)))
    ]

-- ---- where a fault is placed

placed_fault : {X : Type 0} (end at : ℕ) (r : Result (X × List ℕ) ℕ) → placed end r ≡ Err at → (left : ℕ) × (r ≡ Err left) × (end - left ≡ at)
placed_fault end at (Ok x) e = absurd cc
placed_fault {X = X} end at (Err left) e = (left, refl, at_is {X = X} (end - left) at e)

-- ---- a fault of the header

-- A payload of a version has fields, read by `plain`, and rules that are looked at besides, with which `full` reads it. Where this holds of
-- a payload, a fault of its fields is one of the whole.
module _ {X : Type 0} (kind first last : ℕ) (plain full : ℕ → List ℕ → Result (X × List ℕ) ℕ) (Holds : List ℕ → Type 0) (onward : (v : ℕ) → Onward (plain v))
    (keeps : (v : ℕ) (payload : List ℕ) (left : ℕ) → Holds payload → plain v payload ≡ Err left → full v payload ≡ Err left) where
  abbrev whole : List ℕ → Result X ℕ
  whole = file_at kind first last full

  abbrev head : ℕ → List ℕ → Result (ℕ × List ℕ) ℕ
  head total = header_at kind first last total

  -- what is read of a file whose header is known
  by_header : (bytes : List ℕ) (r : Result (ℕ × List ℕ) ℕ) → head (length bytes) bytes ≡ r → whole bytes ≡ framed full bytes (opened (length bytes) r)
  unfolding file_at opened_at
  by_header bytes r is = ap (λ s. framed full bytes (opened (length bytes) s)) is

  in_header : (bytes : List ℕ) (at left : ℕ) → head (length bytes) bytes ≡ Err left → length bytes - left ≡ at → StaysFault (OfPayload kind first last Holds) whole bytes at
  in_header bytes at left is place =
      let f = (header_onward kind first last (length bytes)).fault bytes left is in
      let begins : length f.before ≡ at = omega (arith, ap length f.parts, length-append f.before f.tail, f.begins, place) in
      record {
        count = f.count;
        field = subst (λ (w : List ℕ). IsFieldLength w f.count) (sym (ap (drop at) f.parts ∙ drop_at f.before f.tail at begins)) f.field;
        same = λ others len same holds.
            let a = alike f.before f.tail others f.count (len ∙ ap length f.parts) (ap (λ n. take (n + f.count) others) begins ∙ same ∙ ap (take (at + f.count)) f.parts ∙ ap (λ n. take (n + f.count) (f.before ++ f.tail)) (sym begins)) in
            let again : head (length others) others ≡ Err left = ap (λ n. head n others) len ∙ ap (head (length bytes)) a.parts ∙ f.same a.other a.long a.same in
            by_header others (Err left) again ∙ ap failed (ap (λ n. n - left) len ∙ place);
      }

  -- ---- a fault of the fields behind it

  in_payload : (bytes : List ℕ) (at left v : ℕ) (rest : List ℕ) → head (length bytes) bytes ≡ Ok (v, rest) → plain v (payload_of rest) ≡ Err left → (length bytes - length (digest_of rest)) - left ≡ at
      → StaysFault (OfPayload kind first last Holds) whole bytes at
  unfolding opened_at
  in_payload bytes at left v rest is fault place =
      let h = (header_onward kind first last (length bytes)).found bytes v rest is in
      let q = (onward v).fault (payload_of rest) left fault in
      let d = digest_of rest in
      let parts : rest ≡ q.before ++ (q.tail ++ d) = sym (take-append-drop (length rest - digest_size) rest) ∙ ap (λ (w : List ℕ). w ++ d) q.parts ∙ append_assoc q.before q.tail d in
      let whole : bytes ≡ (h.front ++ q.before) ++ (q.tail ++ d) = h.parts ∙ ap (λ (w : List ℕ). h.front ++ w) parts ∙ sym (append_assoc h.front q.before (q.tail ++ d)) in
      let begins : length (h.front ++ q.before) ≡ at = omega (arith, place, q.begins, ap length whole, length-append (h.front ++ q.before) (q.tail ++ d), length-append q.tail d) in
      record {
        count = q.count;
        field = subst (λ (w : List ℕ). IsFieldLength w q.count) (sym (ap (drop at) whole ∙ drop_at (h.front ++ q.before) (q.tail ++ d) at begins)) (longer q.tail d q.count q.field);
        same = λ others len same holds.
            let a = alike (h.front ++ q.before) (q.tail ++ d) others q.count (len ∙ ap length whole) (ap (λ n. take (n + q.count) others) begins ∙ same ∙ ap (take (at + q.count)) whole ∙ ap (λ n. take (n + q.count) ((h.front ++ q.before) ++ (q.tail ++ d))) (sym begins)) in
            let t = take (length q.tail) a.other in
            let e = drop (length q.tail) a.other in
            let t_len : length t ≡ length q.tail = omega (arith, length-take (length q.tail) a.other, a.long, length-append q.tail d) in
            let e_len : length e ≡ length d = omega (arith, length-drop (length q.tail) a.other, a.long, length-append q.tail d) in
            let t_same : take q.count t ≡ take q.count q.tail = swapped q.count (length q.tail) a.other (q.tail ++ d) a.same ∙ ap (take q.count) (take_at q.tail d (length q.tail) refl) in
            let other_parts : others ≡ h.front ++ ((q.before ++ t) ++ e) = a.parts ∙ append_assoc h.front q.before a.other ∙ ap (λ (w : List ℕ). h.front ++ (q.before ++ w)) (sym (take-append-drop (length q.tail) a.other)) ∙ ap (λ (w : List ℕ). h.front ++ w) (sym (append_assoc q.before t e)) in
            let payload_len : length (q.before ++ t) ≡ length rest - digest_size = omega (arith, length-append q.before t, t_len, ap length q.parts, length-append q.before q.tail, length-take (length rest - digest_size) rest) in
            let rest_len : length ((q.before ++ t) ++ e) ≡ length rest = omega (arith, length-append (q.before ++ t) e, length-append q.before t, t_len, e_len, ap length parts, length-append q.before (q.tail ++ d), length-append q.tail d) in
            let header : head (length others) others ≡ Ok (v, (q.before ++ t) ++ e) = ap (λ n. head n others) len ∙ ap (head (length bytes)) other_parts ∙ h.same ((q.before ++ t) ++ e) rest_len in
            let cut : length (q.before ++ t) ≡ length ((q.before ++ t) ++ e) - digest_size = payload_len ∙ ap (λ n. n - digest_size) (sym rest_len) in
            let payload : payload_of ((q.before ++ t) ++ e) ≡ q.before ++ t = take_at (q.before ++ t) e _ cut in
            let digest : digest_of ((q.before ++ t) ++ e) ≡ e = drop_at (q.before ++ t) e _ cut in
            let true_there : Holds (q.before ++ t) = subst Holds payload (holds (v, payload_of ((q.before ++ t) ++ e), length others - length (digest_of ((q.before ++ t) ++ e))) (ap (opened (length others)) header)) in
            let again : full v (payload_of ((q.before ++ t) ++ e)) ≡ Err left = ap (full v) payload ∙ keeps v (q.before ++ t) left true_there (q.same t t_len t_same) in
            let end : length others - length (digest_of ((q.before ++ t) ++ e)) ≡ length bytes - length d = ap (λ (w : List ℕ). length others - length w) digest ∙ omega (arith, len, e_len) in
            by_header others (Ok (v, (q.before ++ t) ++ e)) header
            ∙ ap (λ r. sealed others (length others - length (digest_of ((q.before ++ t) ++ e))) (placed (length others - length (digest_of ((q.before ++ t) ++ e))) r)) again
            ∙ ap failed (ap (λ n. n - left) end ∙ place);
      }

  -- ---- both

  stays_by : (bytes : List ℕ) (at : ℕ) (r : Result (ℕ × List ℕ) ℕ) → head (length bytes) bytes ≡ r → unsealed plain (opened (length bytes) r) ≡ Err at → OfPayload kind first last Holds bytes
      → (whole bytes ≡ Err at) × StaysFault (OfPayload kind first last Holds) whole bytes at
  unfolding opened_at
  stays_by bytes at (Ok h) is e holds =
      let p = placed_fault (length bytes - length (digest_of h.1)) at (plain h.0 (payload_of h.1)) e in
      let late_fault = keeps h.0 (payload_of h.1) p.0 (holds (h.0, payload_of h.1, length bytes - length (digest_of h.1)) (ap (opened (length bytes)) is)) p.1 in (
        by_header bytes (Ok h) is ∙ ap (λ r. sealed bytes (length bytes - length (digest_of h.1)) (placed (length bytes - length (digest_of h.1)) r)) late_fault ∙ ap failed p.2,
        in_payload bytes at p.0 h.0 h.1 is p.1 p.2,
      )
  stays_by bytes at (Err left) is e holds =
      let place = at_is {X = X} (length bytes - left) at e in
      (by_header bytes (Err left) is ∙ ap failed place, in_header bytes at left is place)

  digest_within : {A : Type 0} (b : Bool) (x : A) (end at : ℕ) → cond b (Ok x) (failed end) ≡ failed {X = A} at → at ≡ end
  digest_within true x end at e = absurd cc
  digest_within {A = A} false x end at e = sym (at_is {X = A} end at e)

  sealed_within : {A : Type 0} (bytes : List ℕ) (total end at : ℕ) (r : Result (A × List ℕ) ℕ) → end ≤ total → sealed bytes end (placed end r) ≡ Err at → at ≤ total
  sealed_within bytes total end at (Ok x) le e = omega (arith, le, digest_within (is_sealed bytes end) x.0 end at e)
  sealed_within {A = A} bytes total end at (Err left) le e = omega (arith, le, at_is {X = A} (end - left) at e)

  within_by : (bytes : List ℕ) (at : ℕ) (r : Result (ℕ × List ℕ) ℕ) → framed full bytes (opened (length bytes) r) ≡ Err at → at ≤ length bytes
  within_by bytes at (Ok h) e = sealed_within bytes (length bytes) (length bytes - length (digest_of h.1)) at (full h.0 (payload_of h.1)) (omega arith) e
  within_by bytes at (Err left) e = omega (arith, at_is {X = X} (length bytes - left) at e)

  pub lies_within : (bytes : List ℕ) (at : ℕ) → whole bytes ≡ Err at → at ≤ length bytes
  lies_within bytes at e = within_by bytes at (head (length bytes) bytes) (sym (by_header bytes (head (length bytes) bytes) refl) ∙ e)

  pub fault_stays : (bytes : List ℕ) (at : ℕ) → unsealed plain (opened_at kind first last bytes) ≡ Err at → OfPayload kind first last Holds bytes
      → (whole bytes ≡ Err at) × StaysFault (OfPayload kind first last Holds) whole bytes at
  unfolding opened_at
  fault_stays bytes at e holds = stays_by bytes at (head (length bytes) bytes) refl e holds

-- ---- a file with a table of names first

module _ {V : Type 0} (kind first last : ℕ) (fields : ℕ → FieldsReader V) (late : List (List ℕ) → ℕ → V → ℕ → Option ℕ)
    (onward : (v : ℕ) → Onward (contents_at (fields v) no_rule)) (keeps : (v : ℕ) → Keeps (contents_at (fields v) no_rule) (contents_at (fields v) late)) where
  value_fault : (r : Result (Contents V) ℕ) (at : ℕ) → value_of r ≡ Err at → r ≡ Err at
  value_fault (Ok c) at e = absurd cc
  value_fault (Err d) at e = ap failed (at_is {X = V} d at e)

  abbrev anywhere : List ℕ → Type 0
  anywhere payload = Unit {0}

  still : (bytes : List ℕ) (at : ℕ) → StaysFault (OfPayload kind first last anywhere) (contents_file_at kind first last fields late) bytes at → StaysFault Anything (λ b. value_of (contents_file_at kind first last fields late b)) bytes at
  still bytes at f = record { count = f.count; field = f.field; same = λ others len same holds. ap value_of (f.same others len same (λ o e. tt)) }

  pub faults_stay : FaultsStay kind first last fields (λ b. value_of (contents_file_at kind first last fields late b))
  faults_stay = record {
    within = λ bytes at e. lies_within kind first last (λ v. contents_at (fields v) no_rule) (λ v. contents_at (fields v) late) anywhere onward (λ v payload left t e. (keeps v).same payload left e) bytes at (value_fault (contents_file_at kind first last fields late bytes) at e);
    stays = λ bytes at e.
        let both = fault_stays kind first last (λ v. contents_at (fields v) no_rule) (λ v. contents_at (fields v) late) anywhere onward (λ v payload left t e. (keeps v).same payload left e) bytes at e (λ o e. tt) in
        (ap value_of both.0, still bytes at both.1);
  }

-- ---- a payload alone

module _ {X : Type 0} (plain full : List ℕ → Result (X × List ℕ) ℕ) (onward : Onward plain) (keeps : Keeps plain full) where
  abbrev alone : List ℕ → Result X ℕ
  alone bytes = placed (length bytes) (full bytes)

  alone_within : (bytes : List ℕ) (at : ℕ) (r : Result (X × List ℕ) ℕ) → placed (length bytes) r ≡ Err at → at ≤ length bytes
  alone_within bytes at (Ok x) e = absurd cc
  alone_within bytes at (Err left) e = omega (arith, at_is {X = X} (length bytes - left) at e)

  in_alone : (bytes : List ℕ) (at left : ℕ) → plain bytes ≡ Err left → length bytes - left ≡ at → StaysFault Anything alone bytes at
  in_alone bytes at left is place =
      let f = onward.fault bytes left is in
      let begins : length f.before ≡ at = omega (arith, ap length f.parts, length-append f.before f.tail, f.begins, place) in
      record {
        count = f.count;
        field = subst (λ (w : List ℕ). IsFieldLength w f.count) (sym (ap (drop at) f.parts ∙ drop_at f.before f.tail at begins)) f.field;
        same = λ others len same holds.
            let a = alike f.before f.tail others f.count (len ∙ ap length f.parts) (ap (λ n. take (n + f.count) others) begins ∙ same ∙ ap (take (at + f.count)) f.parts ∙ ap (λ n. take (n + f.count) (f.before ++ f.tail)) (sym begins)) in
            let again : full others ≡ Err left = ap full a.parts ∙ keeps.same (f.before ++ a.other) left (f.same a.other a.long a.same) in
            ap (placed (length others)) again ∙ ap failed (ap (λ n. n - left) len ∙ place);
      }

  alone_stays : (bytes : List ℕ) (at : ℕ) → placed (length bytes) (plain bytes) ≡ Err at → (alone bytes ≡ Err at) × StaysFault Anything alone bytes at
  alone_stays bytes at e =
      let p = placed_fault (length bytes) at (plain bytes) e in
      (ap (placed (length bytes)) (keeps.same bytes p.0 p.1) ∙ ap failed p.2, in_alone bytes at p.0 p.1 p.2)

module _ {V : Type 0} (fields : FieldsReader V) (late : List (List ℕ) → ℕ → V → ℕ → Option ℕ)
    (onward : Onward (contents_at fields no_rule)) (keeps : Keeps (contents_at fields no_rule) (contents_at fields late)) where
  abbrev payload_alone : List ℕ → Result (Contents V) ℕ
  payload_alone = alone (contents_at fields no_rule) (contents_at fields late) onward keeps

  alone_fault : (r : Result (Contents V) ℕ) (at : ℕ) → value_of r ≡ Err at → r ≡ Err at
  alone_fault (Ok c) at e = absurd cc
  alone_fault (Err d) at e = ap failed (at_is {X = V} d at e)

  still_alone : (bytes : List ℕ) (at : ℕ) → StaysFault Anything payload_alone bytes at → StaysFault Anything (λ b. value_of (payload_alone b)) bytes at
  still_alone bytes at f = record { count = f.count; field = f.field; same = λ others len same holds. ap value_of (f.same others len same holds) }

  pub payload_faults_stay : PayloadFaultsStay fields (λ b. value_of (placed (length b) (contents_at fields late b)))
  payload_faults_stay = record {
    within = λ bytes at e. alone_within (contents_at fields no_rule) (contents_at fields late) onward keeps bytes at (contents_at fields late bytes) (alone_fault (payload_alone bytes) at e);
    stays = λ bytes at e.
        let both = alone_stays (contents_at fields no_rule) (contents_at fields late) onward keeps bytes at e in
        (ap value_of both.0, still_alone bytes at both.1);
  }
