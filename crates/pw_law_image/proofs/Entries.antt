-- Whether the entry is the address of a word rests on the bytes up to the end of the count of words.
use Rattle.std.proofs.Common.{◌≡◌, ℕ, ◌+◌, ◌-◌, ◌≤◌, Bool, false, cond, ltb, List, [], ◌++◌, length, take, drop, Result, Ok, Err, refl, sym, ap, subst, ◌∙◌, arith, inl, inr}
use Rattle.std.specs.Prelude.{nat_le, ◌==◌, ◌&&◌}
use Rattle.std.specs.Int.{w32, from_be_bytes}
use Rattle.std.proofs.lemmas.Bool.{cases_lt, ltb-false, le-ltb}
use Rattle.std.proofs.lemmas.List.{take_at, drop_at, take-append-drop, length-append, length-take, length-drop, take-take, drop-take}
use Rattle.pw_fields.specs.Fields.{checked, u32_at, bytes_at}
use Rattle.pw_fields.specs.FieldFrame.{header_at, digest_size, payload_of, digest_of, opened, opened_at, placed, sealed, framed, file_at}
use Rattle.pw_fields.proofs.FieldLaws.{found_is, after_passes, guard_passes}
use Rattle.pw_files.specs.Faults.{IsFieldLength, Anything, OfPayload, StaysFault}
use Rattle.pw_files.proofs.OnwardLaws.{kept_found}
use Rattle.pw_files.proofs.FaultLaws.{header_onward, swapped}
use Rattle.pw_image.specs.declared.image.Image.{Image}
use Rattle.pw_image.specs.Image.{Contents, kind, image_version}
use Rattle.pw_image.specs.Reading.{is_in_text, start_at, is_lawful_start, contents_at, payload_at, image_at, image_file_at}
use Rattle.pw_law_image.specs.ImageFaults.{HasEntry, entry_place, count_place, count_end}

-- ---- the entry of a payload

u32_takes : (bytes : List ℕ) (n : ℕ) (rest : List ℕ) → u32_at bytes ≡ Ok (n, rest) → length bytes ≡ 4 + length rest
unfolding u32_at
u32_takes bytes n rest e =
    let g = guard_passes (ltb (length bytes) 4) (length bytes) (from_be_bytes w32 (take 4 bytes)) n (drop 4 bytes) rest e in
    omega (arith, ltb-false _ _ g.0, length-drop 4 bytes, ap length g.2)

bytes_takes : (count : ℕ) (bytes text rest : List ℕ) → bytes_at count bytes ≡ Ok (text, rest) → length bytes ≡ count + length rest
unfolding bytes_at
bytes_takes count bytes text rest e =
    let g = guard_passes (ltb (length bytes) count) (length bytes) (take count bytes) text (drop count bytes) rest e in
    omega (arith, ltb-false _ _ g.0, length-drop count bytes, ap length g.2)

start_takes : (bytes : List ℕ) (b : Bool) (rest : List ℕ) → start_at bytes ≡ Ok (b, rest) → 16 ≤ length bytes
unfolding start_at
start_takes bytes b rest e =
    let one = after_passes (u32_at bytes) _ b rest e in
    let two = after_passes (bytes_at 8 one.1) _ b rest one.3 in
    let three = after_passes (u32_at two.1) _ b rest two.3 in
    omega (arith, u32_takes bytes one.0 one.1 one.2, bytes_takes 8 one.1 two.0 two.1 two.2, u32_takes two.1 three.0 three.1 three.2)

short_by : (bytes : List ℕ) (r : Result (Bool × List ℕ) ℕ) → start_at bytes ≡ r → length bytes + 1 ≤ 16 → is_lawful_start r ≡ false
short_by bytes (Ok x) is short = absurd (omega (arith, start_takes bytes x.0 x.1 is, short))
short_by bytes (Err left) is short = refl

start_long : (bytes : List ℕ) → 16 ≤ length bytes → is_lawful_start (start_at bytes) ≡ is_in_text (from_be_bytes w32 (take 4 (drop 8 (drop 4 bytes)))) (from_be_bytes w32 (take 4 bytes))
unfolding start_at bytes_at u32_at
start_long bytes long =
    let one : ltb (length bytes) 4 ≡ false = le-ltb _ _ (omega (arith, long)) in
    let two : ltb (length (drop 4 bytes)) 8 ≡ false = le-ltb _ _ (omega (arith, long, length-drop 4 bytes)) in
    let three : ltb (length (drop 8 (drop 4 bytes))) 4 ≡ false = le-ltb _ _ (omega (arith, long, length-drop 4 bytes, length-drop 8 (drop 4 bytes))) in
    rw (one, two, three) refl

first_four : (bytes : List ℕ) → take 4 bytes ≡ take 4 (take 16 bytes)
first_four bytes = sym (take-take 4 16 bytes (omega arith))

last_four : (bytes : List ℕ) → take 4 (drop 8 (drop 4 bytes)) ≡ drop 8 (drop 4 (take 16 bytes))
last_four bytes = sym (drop-take 8 4 (drop 4 bytes)) ∙ ap (drop 8) (sym (drop-take 4 12 bytes))

-- the entry and the count of words stand in the first sixteen bytes
start_decided : (one two : List ℕ) → length one ≡ length two → take 16 one ≡ take 16 two → is_lawful_start (start_at one) ≡ is_lawful_start (start_at two)
start_decided one two len same =
    elim (cases_lt (length one) 16) [
      | inl lt ↦ short_by one (start_at one) refl (omega (arith, lt)) ∙ sym (short_by two (start_at two) refl (omega (arith, lt, len)))
      | inr le ↦ start_long one le
          ∙ ap (λ (w : List ℕ). is_in_text (from_be_bytes w32 w) (from_be_bytes w32 (take 4 one))) (last_four one ∙ ap (λ (w : List ℕ). drop 8 (drop 4 w)) same ∙ sym (last_four two))
          ∙ ap (λ (w : List ℕ). is_in_text (from_be_bytes w32 (take 4 (drop 8 (drop 4 two)))) (from_be_bytes w32 w)) (first_four one ∙ ap (take 4) same ∙ sym (first_four two))
          ∙ sym (start_long two (omega (arith, le, len)))
    ]

payloads_decided : (rest other : List ℕ) → length other ≡ length rest → take 16 other ≡ take 16 rest → is_lawful_start (start_at (payload_of other)) ≡ is_lawful_start (start_at (payload_of rest))
payloads_decided rest other len same =
    let long : length (payload_of other) ≡ length (payload_of rest) = omega (arith, len, length-take (length other - digest_size) other, length-take (length rest - digest_size) rest) in
    start_decided (payload_of other) (payload_of rest) long (ap (λ n. take 16 (take (n - digest_size) other)) len ∙ swapped 16 (length rest - digest_size) other rest same)

-- ---- the header of a file

abbrev head : ℕ → List ℕ → Result (ℕ × List ℕ) ℕ
head total = header_at kind image_version image_version total

head_takes : (total : ℕ) (bytes : List ℕ) (v : ℕ) (rest : List ℕ) → head total bytes ≡ Ok (v, rest) → length bytes ≡ entry_place + length rest
head_takes total bytes v rest e =
    let one = after_passes (checked (λ k. k == kind) u32_at bytes) _ v rest e in
    let two = after_passes (checked (λ n. n == total) u32_at one.1) _ v rest one.3 in
    let three = after_passes (checked (λ n. nat_le image_version n && nat_le n image_version) u32_at two.1) _ v rest two.3 in
    let end = found_is three.0 v three.1 rest three.3 in
    omega (
      arith,
      u32_takes bytes one.0 one.1 (kept_found (λ k. k == kind) (length bytes) one.0 one.1 (u32_at bytes) one.2).0,
      u32_takes one.1 two.0 two.1 (kept_found (λ n. n == total) (length one.1) two.0 two.1 (u32_at one.1) two.2).0,
      u32_takes two.1 three.0 three.1 (kept_found (λ n. nat_le image_version n && nat_le n image_version) (length two.1) three.0 three.1 (u32_at two.1) three.2).0,
      ap length end.1,
    )

-- the header rests on the bytes before the entry
record SameHead (bytes others : List ℕ) (v : ℕ) (rest : List ℕ) : Type 0 where
  own : drop entry_place bytes ≡ rest
  again : head (length others) others ≡ Ok (v, drop entry_place others)
  long : length (drop entry_place others) ≡ length rest

same_head : (bytes others : List ℕ) (v : ℕ) (rest : List ℕ) → head (length bytes) bytes ≡ Ok (v, rest) → length others ≡ length bytes → take entry_place others ≡ take entry_place bytes → SameHead bytes others v rest
same_head bytes others v rest is len same =
    let f = (header_onward kind image_version image_version (length bytes)).found bytes v rest is in
    let far : length bytes ≡ entry_place + length rest = head_takes (length bytes) bytes v rest is in
    let twelve : length f.front ≡ entry_place = omega (arith, far, ap length f.parts, length-append f.front rest) in
    let begins : take entry_place others ≡ f.front = same ∙ ap (take entry_place) f.parts ∙ take_at f.front rest entry_place twelve in
    let other : others ≡ f.front ++ drop entry_place others = sym (take-append-drop entry_place others) ∙ ap (λ (w : List ℕ). w ++ drop entry_place others) begins in
    let behind : length (drop entry_place others) ≡ length rest = omega (arith, far, len, length-drop entry_place others) in
    record {
      own = ap (drop entry_place) f.parts ∙ drop_at f.front rest entry_place twelve;
      again = ap (λ n. head n others) len ∙ ap (head (length bytes)) other ∙ f.same (drop entry_place others) behind;
      long = behind;
    }

-- ---- the payload of a file

abbrev opening : Result (ℕ × List ℕ × ℕ) ℕ → ℕ × List ℕ × ℕ
opening (Ok o) = o
opening (Err at) = (0, [], 0)

abbrev payload_at_end : ℕ → ℕ × List ℕ → ℕ × List ℕ × ℕ
payload_at_end total h = (h.0, payload_of h.1, total - length (digest_of h.1))

opened_is : (total : ℕ) (r : Result (ℕ × List ℕ) ℕ) (o : ℕ × List ℕ × ℕ) → opened total r ≡ Ok o → (h : ℕ × List ℕ) × (r ≡ Ok h) × (payload_at_end total h ≡ o)
opened_is total (Ok h) o e = (h, refl, ap opening e)
opened_is total (Err left) o e = absurd cc

-- of other bytes that agree up to the end of the count of words
record SameEntry (others : List ℕ) (o : ℕ × List ℕ × ℕ) : Type 0 where
  other : ℕ × List ℕ × ℕ
  opens : opened_at kind image_version image_version others ≡ Ok other
  alike : is_lawful_start (start_at other.1) ≡ is_lawful_start (start_at o.1)

same_entry : (bytes others : List ℕ) (o : ℕ × List ℕ × ℕ) → opened_at kind image_version image_version bytes ≡ Ok o → length others ≡ length bytes → take count_end others ≡ take count_end bytes → SameEntry others o
unfolding opened_at
same_entry bytes others o e len same =
    let q = opened_is (length bytes) (head (length bytes) bytes) o e in
    let rest = q.0.1 in
    let begins : take entry_place others ≡ take entry_place bytes = sym (take-take entry_place count_end others (omega arith)) ∙ ap (take entry_place) same ∙ take-take entry_place count_end bytes (omega arith) in
    let h = same_head bytes others q.0.0 rest q.1 len begins in
    let alike : take 16 (drop entry_place others) ≡ take 16 rest = sym (drop-take entry_place 16 others) ∙ ap (drop entry_place) same ∙ drop-take entry_place 16 bytes ∙ ap (take 16) h.own in
    record {
      other = payload_at_end (length others) (q.0.0, drop entry_place others);
      opens = ap (opened (length others)) h.again;
      alike = payloads_decided rest (drop entry_place others) h.long alike ∙ ap (λ (p : ℕ × List ℕ × ℕ). is_lawful_start (start_at p.1)) q.2;
    }

-- ---- the entry's own fault

entry_stands : (bytes : List ℕ) (o : ℕ × List ℕ × ℕ) → opened_at kind image_version image_version bytes ≡ Ok o → o.2 - length o.1 ≡ entry_place
unfolding opened_at
entry_stands bytes o e =
    let q = opened_is (length bytes) (head (length bytes) bytes) o e in
    let rest = q.0.1 in
    let far = head_takes (length bytes) bytes q.0.0 rest q.1 in
    let place : (length bytes - length (digest_of rest)) - length (payload_of rest) ≡ entry_place = omega (arith, far, length-take (length rest - digest_size) rest, length-drop (length rest - digest_size) rest) in
    subst (λ (p : ℕ × List ℕ × ℕ). p.2 - length p.1 ≡ entry_place) q.2 place

abbrev failed : ℕ → Result (Contents Image) ℕ
failed at = Err at

pub entry_fault : (bytes : List ℕ) (o : ℕ × List ℕ × ℕ) → opened_at kind image_version image_version bytes ≡ Ok o → is_lawful_start (start_at o.1) ≡ false → image_file_at bytes ≡ failed entry_place
unfolding image_file_at file_at payload_at
entry_fault bytes o is lacks =
    ap (framed (λ version. payload_at) bytes) is
    ∙ ap (λ b. sealed bytes o.2 (placed o.2 (cond b (contents_at o.1) (Err (length o.1))))) lacks
    ∙ ap failed (entry_stands bytes o is)

pub entry_fault_again : (bytes others : List ℕ) (o : ℕ × List ℕ × ℕ) → opened_at kind image_version image_version bytes ≡ Ok o → is_lawful_start (start_at o.1) ≡ false
    → length others ≡ length bytes → take count_end others ≡ take count_end bytes → image_file_at others ≡ failed entry_place
entry_fault_again bytes others o is lacks len same = let a = same_entry bytes others o is len same in entry_fault others a.other a.opens (a.alike ∙ lacks)

-- ---- a fault from the count of words on

has_entry : (bytes others : List ℕ) → OfPayload kind image_version image_version HasEntry bytes → length others ≡ length bytes → take count_end others ≡ take count_end bytes → OfPayload kind image_version image_version HasEntry others
has_entry bytes others holds len same o e = let a = same_entry others bytes o e (sym len) (sym same) in sym a.alike ∙ holds a.other a.opens

shorter : (m n : ℕ) (one two : List ℕ) → m ≤ n → take n one ≡ take n two → take m one ≡ take m two
shorter m n one two le same = sym (take-take m n one le) ∙ ap (take m) same ∙ take-take m n two le

-- a field of one byte, read as one of four
wide : (tail : List ℕ) (n : ℕ) → IsFieldLength tail n → (m : ℕ) × IsFieldLength tail m × (n ≤ m) × (4 ≤ m)
wide tail n (inl one) = (4, inr (inl refl), omega (arith, one), omega arith)
wide tail n (inr (inl four)) = (n, inr (inl four), omega arith, omega (arith, four))
wide tail n (inr (inr (inl eight))) = (n, inr (inr (inl eight)), omega arith, omega (arith, eight))
wide tail n (inr (inr (inr text))) = (n, inr (inr (inr text)), omega arith, omega (arith, text.0))

stays_to : (bytes : List ℕ) (at : ℕ) → OfPayload kind image_version image_version HasEntry bytes → (f : StaysFault (OfPayload kind image_version image_version HasEntry) image_at bytes at)
    → (m : ℕ) → IsFieldLength (drop at bytes) m → f.count ≤ m → count_end ≤ at + m → StaysFault Anything image_at bytes at
stays_to bytes at holds f m field above far = record {
  count = m;
  field = field;
  same = λ others len same any.
      f.same others len (shorter (at + f.count) (at + m) others bytes (omega (arith, above)) same) (has_entry bytes others holds len (shorter count_end (at + m) others bytes far same));
}

pub stays_later : (bytes : List ℕ) (at : ℕ) → count_place ≤ at → OfPayload kind image_version image_version HasEntry bytes → StaysFault (OfPayload kind image_version image_version HasEntry) image_at bytes at → StaysFault Anything image_at bytes at
stays_later bytes at late holds f =
    let w = wide (drop at bytes) f.count f.field in
    elim (cases_lt at count_end) [
      | inl lt ↦ stays_to bytes at holds f w.0 w.1 w.2 (omega (arith, late, w.3))
      | inr le ↦ stays_to bytes at holds f f.count f.field (omega arith) (omega (arith, le))
    ]
