-- A whole file: what is read is a file of the value, and a file of a value is read.
use Rattle.std.proofs.Common.{◌≡◌, ℕ, zero, suc, ◌+◌, ◌-◌, ◌*◌, ◌^◌, ◌<◌, ◌≤◌, Bool, true, false, cond, List, [], ◌++◌, length, take, drop, Result, Ok, Err, refl, sym, ap, subst, ◌∙◌, append_assoc, arith}
use Rattle.std.specs.Prelude.{IsTrue, nat_le, ◌==◌, ◌&&◌}
use Rattle.std.specs.Cmp.{first_so, second_so}
use Rattle.std.specs.Cmp.Derive.{both_true}
use Rattle.std.proofs.lemmas.Bool.{eqb-true, eq-eqb, leb-true, le-leb}
use Rattle.std.proofs.lemmas.Slice.Eq.{bytes_eq-Decides}
use Rattle.std.proofs.lemmas.List.{append-nil, take_at, drop_at, take-append-drop, length-append}
use Rattle.sha2.specs.Sha256.{sha256, digest_bytes, final_hash, initial_hash_256}
use Rattle.pw_fields.specs.Fields.{checked, u32_at, u32, FitsU32}
use Rattle.pw_fields.specs.FieldFrame.{header_at, digest_size, frame_size, payload_of, digest_of, opened, opened_at, placed, is_sealed, sealed, framed, file_at, before_digest, file, FitsFile, IsFileOf, any_payload, any_spelling, FitsAny}
use Rattle.pw_fields.specs.FieldLaws.{AreBytes, SpellsWhole}
use Rattle.pw_fields.proofs.FieldLaws.{AreBytes-take, AreBytes-rest, found_is, checked_spells, u32_spells}
use Rattle.pw_fields.proofs.FieldSteps.{Anything, Completes, step_where, finish}

-- ---- lengths

digest_length : (h : List ℕ) (n : ℕ) → length (digest_bytes h n) ≡ 4 * n
unfolding digest_bytes
digest_length h zero = refl
digest_length h (suc n) = length-append (digest_bytes h n) _ ∙ omega (arith, digest_length h n)

pub length-sha256 : (m : List ℕ) → length (sha256 m) ≡ digest_size
unfolding sha256
length-sha256 m = digest_length (final_hash initial_hash_256 m) 8

pub length-u32 : (n : ℕ) → length (u32 n) ≡ 4
unfolding u32
length-u32 n = refl

-- ---- the header

abbrev Lawful : ℕ → ℕ → ℕ → Type 0
Lawful first last v = (v < 2 ^ 32) × (first ≤ v) × (v ≤ last)

abbrev head : ℕ → ℕ → ℕ → List ℕ
head kind total v = u32 kind ++ (u32 total ++ (u32 v ++ []))

within : (first last v : ℕ) → FitsU32 v × IsTrue (nat_le first v && nat_le v last) → Lawful first last v
within first last v h = (h.0, leb-true first v (first_so (nat_le first v) (nat_le v last) h.1), leb-true v last (second_so (nat_le first v) (nat_le v last) h.1))

within_again : (first last v : ℕ) → Lawful first last v → FitsU32 v × IsTrue (nat_le first v && nat_le v last)
within_again first last v h = (h.0, both_true (le-leb first v h.1) (le-leb v last h.2))

header_laws : (kind first last total : ℕ) → Completes Anything (λ v. Unit {0}) (head kind total) (λ v. (kind < 2 ^ 32) × ((total < 2 ^ 32) × (Lawful first last v × Unit {0}))) (header_at kind first last total)
header_laws kind first last total =
    step_where _ _ u32 (λ k. FitsU32 k × IsTrue (k == kind)) (checked (λ k. k == kind) u32_at) _ (λ v. kind < 2 ^ 32) _ _ (λ v. kind)
    (checked_spells u32 FitsU32 u32_at (λ k. k == kind) u32_spells) (λ v k h. h.0) (λ v k h. (h, eq-eqb kind kind refl))
    (λ k is_kind. step_where _ _ u32 (λ n. FitsU32 n × IsTrue (n == total)) (checked (λ n. n == total) u32_at) _ (λ v. total < 2 ^ 32) _ _ (λ v. total)
    (checked_spells u32 FitsU32 u32_at (λ n. n == total) u32_spells) (λ v k h. h.0) (λ v k h. (h, eq-eqb total total refl))
    (λ n is_total. step_where _ _ u32 (λ v. FitsU32 v × IsTrue (nat_le first v && nat_le v last)) (checked (λ v. nat_le first v && nat_le v last) u32_at) _ (λ v. Lawful first last v) _ _ (λ v. v)
    (checked_spells u32 FitsU32 u32_at (λ v. nat_le first v && nat_le v last) u32_spells) (λ v k h. within first last v h) (λ v k h. within_again first last v h)
    (λ v lawful. finish _ v (((tt, sym (eqb-true _ _ is_kind.1)), sym (eqb-true _ _ is_total.1)), refl) (λ w known. sym known.1))))

-- ---- the whole

length_head : (kind total v : ℕ) → length (head kind total v) ≡ 12
unfolding u32
length_head kind total v = refl

regroup : (kind total v : ℕ) (p : List ℕ) → head kind total v ++ p ≡ u32 kind ++ (u32 total ++ (u32 v ++ p))
regroup kind total v p = simp (append_assoc, append-nil)

parts_at : (bytes front p d : List ℕ) → bytes ≡ front ++ (p ++ d) → (take (length bytes - length d) bytes ≡ front ++ p) × (drop (length bytes - length d) bytes ≡ d)
parts_at bytes front p d e =
    let grouped : bytes ≡ (front ++ p) ++ d = e ∙ sym (append_assoc front p d) in
    let end : length (front ++ p) ≡ length bytes - length d = omega (arith, ap length grouped, length-append (front ++ p) d) in
    (ap (take (length bytes - length d)) grouped ∙ take_at (front ++ p) d (length bytes - length d) end, ap (drop (length bytes - length d)) grouped ∙ drop_at (front ++ p) d (length bytes - length d) end)

-- what stands before a lawful digest
is_file : (kind v : ℕ) (bytes p d : List ℕ) → bytes ≡ head kind (length bytes) v ++ (p ++ d) → IsTrue (is_sealed bytes (length bytes - length d)) → length bytes < 2 ^ 32
    → FitsFile p × (bytes ≡ file kind v p)
unfolding file before_digest
is_file kind v bytes p d e sealed-is below =
    let at = parts_at bytes (head kind (length bytes) v) p d e in
    let digest : sha256 (head kind (length bytes) v ++ p) ≡ d = ap sha256 (sym at.0) ∙ (bytes_eq-Decides _ _).0 sealed-is ∙ at.1 in
    let d_len : length d ≡ digest_size = ap length (sym digest) ∙ length-sha256 _ in
    let head_len : length (head kind (length bytes) v) ≡ 12 = length_head kind (length bytes) v in
    let total : length bytes ≡ frame_size + length p = omega (arith, ap length e, length-append (head kind (length bytes) v) (p ++ d), length-append p d) in
    let same : head kind (length bytes) v ++ p ≡ before_digest kind v p = ap (λ n. head kind n v ++ p) total ∙ regroup kind (frame_size + length p) v p in
    (omega (arith), e ∙ sym (append_assoc (head kind (length bytes) v) p d) ∙ ap (λ (w : List ℕ). (head kind (length bytes) v ++ p) ++ w) (sym digest) ∙ ap (λ (w : List ℕ). w ++ sha256 w) same)

abbrev value : {X : Type 0} → X → Result X ℕ
value x = Ok x

abbrev found : {X : Type 0} → X → List ℕ → Result (X × List ℕ) ℕ
found x rest = Ok (x, rest)

sealed_found : {X : Type 0} (y x : X) (at : ℕ) (b : Bool) → cond b (value y) (Err at) ≡ value x → (b ≡ true) × (y ≡ x)
sealed_found y x at true e = (refl, cc)
sealed_found y x at false e = absurd cc

placed_found : {X : Type 0} (end : ℕ) (r : Result (X × List ℕ) ℕ) (bytes : List ℕ) (at : ℕ) (x : X) → sealed bytes at (placed end r) ≡ Ok x → (rest : List ℕ) × (r ≡ Ok (x, rest)) × IsTrue (is_sealed bytes at)
placed_found end (Ok y) bytes at x e =
    let p = sealed_found y.0 x at (is_sealed bytes at) e in
    (y.1, ap (λ z. found z y.1) p.1, p.0)
placed_found end (Err left) bytes at x e = absurd cc

takes_by : {X : Type 0} (kind first last : ℕ) (spelling : ℕ → X → List ℕ) (Fits : ℕ → X → Type 0) (payload : ℕ → List ℕ → Result (X × List ℕ) ℕ)
    → ((v : ℕ) → first ≤ v → v ≤ last → SpellsWhole (spelling v) (Fits v) (payload v))
    → (bytes : List ℕ) (x : X) → AreBytes bytes → (r : Result (ℕ × List ℕ) ℕ) → header_at kind first last (length bytes) bytes ≡ r → framed payload bytes (opened (length bytes) r) ≡ Ok x
    → IsFileOf kind first last spelling Fits bytes x
takes_by kind first last spelling Fits payload laws bytes x fits (Ok h) is e =
    let t = (header_laws kind first last (length bytes)).takes bytes h.0 h.1 fits is in
    let lawful = t.2.1.1.0 in
    let p = placed_found (length bytes - length (digest_of h.1)) (payload h.0 (payload_of h.1)) bytes (length bytes - length (digest_of h.1)) x e in
    let s = (laws h.0 lawful.1 lawful.2).takes (payload_of h.1) x p.0 (AreBytes-take _ h.1 (AreBytes-rest bytes (head kind (length bytes) h.0) h.1 fits t.0)) p.1 in
    let three : bytes ≡ head kind (length bytes) h.0 ++ (payload_of h.1 ++ digest_of h.1) = t.0 ∙ ap (λ (w : List ℕ). head kind (length bytes) h.0 ++ w) (sym (take-append-drop (length h.1 - digest_size) h.1)) in
    let f = is_file kind h.0 bytes (payload_of h.1) (digest_of h.1) three p.2 t.2.1.0 in
    record {
      version = h.0;
      not_below = lawful.1;
      not_above = lawful.2;
      fits = s.1;
      room = subst FitsFile s.0 f.0;
      spelled = f.1 ∙ ap (file kind h.0) s.0;
    }
takes_by kind first last spelling Fits payload laws bytes x fits (Err left) is e = absurd cc

-- what is read is a file of the value
pub file_takes : {X : Type 0} (kind first last : ℕ) (spelling : ℕ → X → List ℕ) (Fits : ℕ → X → Type 0) (payload : ℕ → List ℕ → Result (X × List ℕ) ℕ)
    → ((v : ℕ) → first ≤ v → v ≤ last → SpellsWhole (spelling v) (Fits v) (payload v))
    → (bytes : List ℕ) (x : X) → AreBytes bytes → file_at kind first last payload bytes ≡ Ok x → IsFileOf kind first last spelling Fits bytes x
unfolding file_at opened_at
file_takes kind first last spelling Fits payload laws bytes x fits e =
    takes_by kind first last spelling Fits payload laws bytes x fits (header_at kind first last (length bytes) bytes) refl e

-- the parts of what stands behind the header
payload_is : (p d : List ℕ) → length d ≡ digest_size → (payload_of (p ++ d) ≡ p) × (digest_of (p ++ d) ≡ d)
payload_is p d len =
    let at : length p ≡ length (p ++ d) - digest_size = omega (arith, length-append p d) in
    (take_at p d (length (p ++ d) - digest_size) at, drop_at p d (length (p ++ d) - digest_size) at)

again_by : {X : Type 0} (kind first last : ℕ) (payload : ℕ → List ℕ → Result (X × List ℕ) ℕ) (v : ℕ) (p : List ℕ) (x : X)
    → kind < 2 ^ 32 → Lawful first last v → FitsFile p → payload v p ≡ Ok (x, []) → file_at kind first last payload (file kind v p) ≡ Ok x
unfolding file_at opened_at file before_digest
again_by kind first last payload v p x kind_fits lawful room e =
    let front = before_digest kind v p in
    let d = sha256 front in
    let bytes = front ++ d in
    let total : length bytes ≡ frame_size + length p = omega (arith, length-append front d, length-sha256 front, ap length (sym (regroup kind (frame_size + length p) v p)), length-append (head kind (frame_size + length p) v) p, length_head kind (frame_size + length p) v) in
    let three : bytes ≡ head kind (length bytes) v ++ (p ++ d) = ap (λ (w : List ℕ). w ++ d) (sym (regroup kind (frame_size + length p) v p)) ∙ append_assoc (head kind (frame_size + length p) v) p d ∙ ap (λ n. head kind n v ++ (p ++ d)) (sym total) in
    let read : header_at kind first last (length bytes) bytes ≡ Ok (v, p ++ d) = ap (header_at kind first last (length bytes)) three ∙ (header_laws kind first last (length bytes)).again v (p ++ d) tt tt (kind_fits, (omega (arith), (lawful, tt))) in
    let parts = payload_is p d (length-sha256 front) in
    let at = parts_at bytes (head kind (length bytes) v) p d three in
    let same : head kind (length bytes) v ++ p ≡ front = ap (λ n. head kind n v ++ p) total ∙ regroup kind (frame_size + length p) v p in
    let right : is_sealed bytes (length bytes - length d) ≡ true = (bytes_eq-Decides _ _).1 (ap sha256 (at.0 ∙ same) ∙ sym at.1) in
    rw (read, parts.0, parts.1, e, right) refl

-- a file of a value is read
pub file_again : {X : Type 0} (kind first last : ℕ) (spelling : ℕ → X → List ℕ) (Fits : ℕ → X → Type 0) (payload : ℕ → List ℕ → Result (X × List ℕ) ℕ)
    → kind < 2 ^ 32 → last < 2 ^ 32 → ((v : ℕ) → first ≤ v → v ≤ last → SpellsWhole (spelling v) (Fits v) (payload v))
    → (bytes : List ℕ) (x : X) → IsFileOf kind first last spelling Fits bytes x → file_at kind first last payload bytes ≡ Ok x
file_again kind first last spelling Fits payload kind_fits last_fits laws bytes x is =
    ap (file_at kind first last payload) is.spelled
    ∙ again_by kind first last payload is.version (spelling is.version x) x kind_fits (omega (arith, is.not_above), is.not_below, is.not_above) is.room
    ((laws is.version is.not_below is.not_above).again x is.fits)

any_spells : (version : ℕ) → SpellsWhole (any_spelling version) (FitsAny version) (any_payload version)
any_spells version = record { takes = λ bytes x rest fits e. let p = found_is bytes x [] rest e in (p.0, tt); again = λ x fits. refl }

pub any_takes : (kind first last : ℕ) (bytes payload : List ℕ) → AreBytes bytes → file_at kind first last any_payload bytes ≡ Ok payload → IsFileOf kind first last any_spelling FitsAny bytes payload
any_takes kind first last bytes payload fits e = file_takes kind first last any_spelling FitsAny any_payload (λ v f l. any_spells v) bytes payload fits e

pub any_again : (kind first last : ℕ) (bytes payload : List ℕ) → kind < 2 ^ 32 → last < 2 ^ 32 → IsFileOf kind first last any_spelling FitsAny bytes payload → file_at kind first last any_payload bytes ≡ Ok payload
any_again kind first last bytes payload k l is = file_again kind first last any_spelling FitsAny any_payload k l (λ v f g. any_spells v) bytes payload is
