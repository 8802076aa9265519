-- Operations that load and store scalars: where a pointer leads, and of globals by their names.
use Rattle.std.proofs.Common.{ℕ, zero, suc, ◌≡◌, ◌+◌, ◌%◌, ◌^◌, ◌<◌, ◌≤◌, ◌⊎◌, inl, inr, refl, ap, sym, subst, ◌∙◌, arith, Bool, true, false, true≢false, ◌&&◌, nat_le, if◌then◌else◌, Option, Some, None, List, [], ◌∷◌, ◌++◌, append-nil, length, replicate, slice_get}
use Rattle.std.specs.Prelude.{◌==◌, pos}
use Rattle.std.proofs.lemmas.Bool.{and_parts, and_from, eqb-true, eq-eqb, le-leb, leb-true}
use Rattle.std.proofs.lemmas.Bool.Decides.{nat_tests}
use Rattle.pw_value.specs.Limits.{memory_size}
use Rattle.pw_value.specs.declared.value.Kind.{Kind}
use Rattle.pw_value.specs.declared.value.Kind.TheVariants.{S8, U8, S16, U16, W32}
use Rattle.pw_value.specs.declared.value.Value.{Value}
use Rattle.pw_value.specs.declared.value.Value.TheVariants.{Undefined, Num, Null, At, Piece}
use Rattle.pw_value.specs.declared.value.Byte.{Byte}
use Rattle.pw_value.specs.declared.value.Byte.TheVariants as B
use Rattle.pw_value.specs.declared.value.Pointer.TheVariants as P
use Rattle.pw_value.specs.Objects.{Object, object_at, bytes_from, written}
use Rattle.pw_value.specs.Values.{number_bytes, encoding}
use Rattle.pw_flow.specs.declared.flow.Op.TheVariants as op
use Rattle.pw_flow.specs.ValidFlow.{kind_size}
use Rattle.pw_db.specs.declared.database.Web.{Web}
use Rattle.pw_alloc.specs.declared.located.Place.{Place}
use Rattle.pw_alloc.specs.declared.located.Place.TheVariants.{Reg}
use Rattle.pw_alloc.specs.declared.located.Located.{Located}
use Rattle.pw_inst.specs.Computing.{extracted, sign_extended}
use Rattle.pw_inst.specs.Registers.{first, second}
use Rattle.pw_inst.specs.declared.line.Line.{Line}
use Rattle.pw_inst.specs.declared.line.Line.TheVariants.{Plain}
use Rattle.pw_delay.specs.declared.items.Item.{Item}
use Rattle.pw_delay.specs.Items.{slotted}
use Rattle.pw_webflow.specs.declared.web.WebOp.{WebOp}
use Rattle.pw_webflow.specs.declared.web.WebOp.TheVariants.{Flow}
use Rattle.pw_run.specs.Runs.{AreAlike}
use Rattle.pw_run_languages.specs.Traces.{Event, Loaded, Stored, EventAlike}
use Rattle.pw_run_languages.specs.Programs.{Program, global_number}
use Rattle.pw_run_languages.specs.Memory.{is_open, look_in, poke_in, look, poke, scalar_of, may_stand, is_of_kind}
use Rattle.pw_run_languages.specs.FlowRun.{is_own_kind, get_global, put_global}
use Rattle.pw_run_languages.specs.Commands.{command}
use Rattle.pw_run_languages.specs.Addresses.{Addresses, AreLawful}
use Rattle.pw_run_languages.specs.Acts.{Core, register, number_at, with_number}
use Rattle.pw_run_languages.specs.Acts as words
use Rattle.pw_run_languages.specs.Standing.{ValueStands, EventInWords}
use Rattle.pw_run_languages.specs.LineRun.{LineProgram, Machine}
use Rattle.pw_run_languages.specs.PlacedRun as placed
use Rattle.pw_run_languages.specs.Direction.{with_functions}
use Rattle.pw_run_languages.specs.SelectionLaws.{line_program}
use Rattle.pw_select_lines.specs.Registers.{place_of, operand_register, operand_lines, result_register, load_scalar, store_scalar, sign_spread, read_global, write_global}
use Rattle.pw_select_lines.specs.Operations.{web_op_lines}
use Rattle.pw_select.specs.Selection.{loaded_web, stored_back}
use Rattle.pw_law_select_memory.specs.Numbers.{OtherBytesStay, NumbersAreBounded, BytesStayBytes, HoldsBytes}
use Rattle.pw_law_select_memory.specs.Stand.{BytesStand, word_of_kind, StoredValuesStand, LoadedValuesStand, PartsStand}
use Rattle.pw_law_select_rows.specs.Straight.{words_of}
use Rattle.pw_law_select_rows.specs.Places.{place_word}
use Rattle.pw_law_select_rows.specs.Results.{IsSteady, GoThrough, Gets}
use Rattle.pw_law_select_rows.specs.Scalars.{ScalarsAreLoaded, ScalarsAreStored, GlobalsAreRead, GlobalsAreWritten, StoresTakeOne, StoresTakeTwo, LoadNotes, StoreNotes, StoresScalar}
use Rattle.pw_law_select_states.specs.Laid.{address, Lives, size_of, AreLaid}
use Rattle.pw_law_select_states.specs.States.{Stands}
use Rattle.pw_law_select_states.specs.Passes.{OnlyValues, Follows}
use Rattle.pw_law_select_places.specs.Places.{StandsThen}
use Rattle.pw_law_select_places.specs.Objects.{AreWritten}
use Rattle.pw_law_select_ops.specs.Operations.{layout_of, StandAt, NamesGlobal, GoesByPointer, OperationFollows}
use Rattle.pw_law_select_ops.specs.Webs.{StandAtWeb, WebFollows, WebLoadsFollow, WebStoresFollow}
use Rattle.pw_law_select_ops.proofs.Naming.{IsGlobalAt, global_at, named_site}
use Rattle.pw_law_select_ops.proofs.Values.{near_is}
use Rattle.pw_law_select_ops.proofs.Noting.{eligible_in, eligible_same, pointer_load_notes, pointer_store_notes, named_load_notes, named_store_notes}
use Rattle.pw_law_select_ops.proofs.Straightness.{joined_straight, none_straight, one_straight, operand_straight, spread_straight, scalar_load_straight, scalar_store_straight, read_straight, write_straight}
use Rattle.pw_law_select_ops.proofs.Following.{Laws, register_of_place, put_at, values_put, trace_put, same_machine, given, target_of, source_of, straight_reaches, straight_follow, result_follows, place_at}
use Rattle.pw_law_select_ops.proofs.Targets.{TargetsAre, words_keep, read_keeps, write_keeps}

-- ---- laws of memory

pub record ScalarLaws : Type 0 where
  pub byte : OtherBytesStay
  pub bounded : NumbersAreBounded
  pub bytes : BytesStayBytes
  pub stored : StoredValuesStand
  pub loaded : LoadedValuesStand
  pub part : PartsStand
  pub load : ScalarsAreLoaded
  pub store : ScalarsAreStored
  pub read : GlobalsAreRead
  pub write : GlobalsAreWritten
  pub one : StoresTakeOne
  pub two : StoresTakeTwo

-- ---- an access that the placed run may make

pub record IsAccess (objects : List Object) (o i size unit : ℕ) : Type 0 where
  pub live : Lives objects o
  pub within : i + size ≤ size_of objects o
  pub aligned : i % unit ≡ 0

pub access_by : (objects : List Object) (o i size unit : ℕ) → is_open objects o i size unit ≡ true → IsAccess objects o i size unit
access_by objects o i size unit e =
    let one = and_parts ((object_at objects o).live) (nat_le (i + size) (length (object_at objects o).bytes) && (i % unit == 0)) e in
    let two = and_parts (nat_le (i + size) (length (object_at objects o).bytes)) (i % unit == 0) one.1 in
    record { live = one.0; within = leb-true (i + size) (length (object_at objects o).bytes) two.0; aligned = eqb-true (i % unit) 0 two.1 }

-- what is looked at
pub record Looked (objects : List Object) (k : Kind) (o i : ℕ) (z : Value) : Type 0 where
  pub access : IsAccess objects o i (kind_size k) (kind_size k)
  pub value : scalar_of k (bytes_from (kind_size k) i (object_at objects o).bytes) ≡ z

pub looked : (objects : List Object) (k : Kind) (o i : ℕ) (z : Value) → look_in k o i objects ≡ Some z → Looked objects k o i z
looked objects k o i z e = by_test (is_open objects o i (kind_size k) (kind_size k)) refl e
  where
    by_test : (t : Bool) → is_open objects o i (kind_size k) (kind_size k) ≡ t
        → (if t then Some (scalar_of k (bytes_from (kind_size k) i (object_at objects o).bytes)) else None) ≡ Some z → Looked objects k o i z
    by_test true is e = record { access = access_by objects o i (kind_size k) (kind_size k) is; value = cc }
    by_test false is e = absurd cc

-- what is written
pub record Poked (objects : List Object) (k : Kind) (o i : ℕ) (v : Value) (after : List Object) : Type 0 where
  pub access : IsAccess objects o i (kind_size k) (kind_size k)
  pub may : may_stand k v ≡ true
  pub is : written o i (encoding v (kind_size k)) objects ≡ after

pub poked : (objects : List Object) (k : Kind) (o i : ℕ) (v : Value) (after : List Object) → poke_in k o i v objects ≡ Some after → Poked objects k o i v after
poked objects k o i v after e = by_test (is_open objects o i (kind_size k) (kind_size k) && may_stand k v) refl e
  where
    by_test : (t : Bool) → (is_open objects o i (kind_size k) (kind_size k) && may_stand k v) ≡ t
        → (if t then Some (written o i (encoding v (kind_size k)) objects) else None) ≡ Some after → Poked objects k o i v after
    by_test true is e =
        let parts = and_parts (is_open objects o i (kind_size k) (kind_size k)) (may_stand k v) is in
        record { access = access_by objects o i (kind_size k) (kind_size k) parts.0; may = parts.1; is = cc }
    by_test false is e = absurd cc

-- ---- lists of bytes

part_length : (n i : ℕ) (bytes : List Byte) → length (bytes_from n i bytes) ≡ n
part_length zero i bytes = refl
part_length (suc n) i bytes = ap suc (part_length n (suc i) bytes)

number_length : (width n : ℕ) → length (number_bytes width n) ≡ width
number_length zero n = refl
number_length (suc width) n = ap suc (number_length width n)

undefined_length : (n : ℕ) → length (replicate n B.Undefined) ≡ n
undefined_length zero = refl
undefined_length (suc n) = ap suc (undefined_length n)

encoding_length : (k : Kind) (v : Value) → may_stand k v ≡ true → length (encoding v (kind_size k)) ≡ kind_size k
encoding_length k Undefined may = undefined_length (kind_size k)
encoding_length k (Num n) may = number_length (kind_size k) n
encoding_length S8 Null may = absurd (true≢false (sym may))
encoding_length U8 Null may = absurd (true≢false (sym may))
encoding_length S16 Null may = absurd (true≢false (sym may))
encoding_length U16 Null may = absurd (true≢false (sym may))
encoding_length W32 Null may = absurd (true≢false (sym may))
encoding_length S8 (At q) may = absurd (true≢false (sym may))
encoding_length U8 (At q) may = absurd (true≢false (sym may))
encoding_length S16 (At q) may = absurd (true≢false (sym may))
encoding_length U16 (At q) may = absurd (true≢false (sym may))
encoding_length W32 (At q) may = refl
encoding_length S8 (Piece q j) may = refl
encoding_length U8 (Piece q j) may = refl
encoding_length S16 (Piece q j) may = absurd (true≢false (sym may))
encoding_length U16 (Piece q j) may = absurd (true≢false (sym may))
encoding_length W32 (Piece q j) may = absurd (true≢false (sym may))

-- ---- words

spread_small_8 : (n : ℕ) → sign_extended 8 (extracted n 31 8) < 2 ^ 32
spread_small_8 n = grind (arith, nat_tests)

spread_small_16 : (n : ℕ) → sign_extended 16 (extracted n 31 16) < 2 ^ 32
spread_small_16 n = grind (arith, nat_tests)

word_small : (k : Kind) (n : ℕ) → n < 256 ^ kind_size k → word_of_kind k n < 2 ^ 32
word_small S8 n small = spread_small_8 n
word_small U8 n small = omega (arith, small)
word_small S16 n small = spread_small_16 n
word_small U16 n small = omega (arith, small)
word_small W32 n small = omega (arith, small)

-- an address inside an object, at a multiple of the size of a kind
aligned_sum : (k : Kind) (s i : ℕ) → s % 8 ≡ 0 → i % kind_size k ≡ 0 → (s + i) % kind_size k ≡ 0
aligned_sum S8 s i one two = omega arith
aligned_sum U8 s i one two = omega arith
aligned_sum S16 s i one two = omega (arith, one, two)
aligned_sum U16 s i one two = omega (arith, one, two)
aligned_sum W32 s i one two = omega (arith, one, two)

pub opens_at : (w : Addresses) (size a : ℕ) → a % size ≡ 0 → w.data_start ≤ a → a + size ≤ memory_size → words.is_open w a size ≡ true
opens_at w size a aligned low high =
    and_from (a % size == 0) (nat_le w.data_start a && nat_le (a + size) memory_size) (eq-eqb (a % size) 0 aligned)
    (and_from (nat_le w.data_start a) (nat_le (a + size) memory_size) (le-leb w.data_start a low) (le-leb (a + size) memory_size high))

pub access_opens : (p : Program) (w : Addresses) (site : ℕ → ℕ) (objects : List Object) (k : Kind) (o i : ℕ) → AreLawful p w → AreLaid p w site objects
    → IsAccess objects o i (kind_size k) (kind_size k) → words.is_open w (site o + i) (kind_size k) ≡ true
access_opens p w site objects k o i lawful laid access =
    let above = laid.above o access.live in
    let below = laid.below o access.live in
    let memory = lawful.memory in
    let within = access.within in
    opens_at w (kind_size k) (site o + i) (aligned_sum k (site o) i (laid.aligned o access.live) access.aligned) (omega (arith, above)) (omega (arith, below, memory, within))

-- ---- loads

module _ (laws : Laws) (more_laws : ScalarLaws) (p : Program) (functions : List Located) (w : Addresses) (scratch : ℕ → (ℕ → ℕ) → ℕ → ℕ) (site : ℕ → ℕ) (m n : placed.Machine) (l : Machine) (before : List Item) (more : List Line) where
  abbrev program : LineProgram
  program = line_program p functions

  abbrev Done : Type 0
  Done = Follows p program w scratch site m n l (slotted more)

  abbrev Does : WebOp → Type 0
  Does o = placed.does (with_functions p functions) o m ≡ placed.On n

  abbrev AtOp : WebOp → Type 0
  AtOp o = StandAt p functions w site o m l before more

  abbrev place : ℕ → Place
  place t = place_of m.frame.function.places t

  -- a scalar that stands in an object stands for what is looked at there
  loaded_stands : (k : Kind) (o i : ℕ) (z : Value) → AreLawful p w → Stands p w site m l.core → Looked m.objects k o i z
      → ValueStands (address p w site) z (word_of_kind k (number_at (kind_size k) l.core.memory (site o + i)))
  loaded_stands k o i z lawful stands look =
      subst (λ (v : Value). ValueStands (address p w site) v (word_of_kind k (number_at (kind_size k) l.core.memory (site o + i)))) look.value
      (more_laws.loaded (address p w site) k (bytes_from (kind_size k) i (object_at m.objects o).bytes) (site o + i) l.core.memory (laws.pointers program w site lawful) stands.words.memory
      (part_length (kind_size k) i (object_at m.objects o).bytes)
      (more_laws.part (address p w site) l.core.memory (kind_size k) i (site o) (object_at m.objects o).bytes look.access.within (stands.bytes o look.access.live)))

  loaded_small : (k : Kind) (a : ℕ) → Stands p w site m l.core → word_of_kind k (number_at (kind_size k) l.core.memory a) < 2 ^ 32
  loaded_small k a stands = word_small k (number_at (kind_size k) l.core.memory a) (more_laws.bounded (kind_size k) a l.core.memory stands.words.memory)

  load_object_follows : (k : Kind) (t a o i : ℕ) → AtOp (Flow (op.Load k t a)) → placed.value_in m.frame m.registers a ≡ At (P.Object o i)
      → placed.is_reserved (with_functions p functions) (At (P.Object o i)) ≡ false → placed.gives t (look_in k o i m.objects) m ≡ placed.On n → Done
  load_object_follows k t a o i at is free gives =
      let less = at.op.0 in
      let to = place_at laws p functions w scratch site (Flow (op.Load k t a)) m l before more t at less in
      let from = place_at laws p functions w scratch site (Flow (op.Load k t a)) m l before more a at at.op.1 in
      let target = target_of program w l.core (place t) to.place in
      let result = given t (look_in k o i m.objects) m n gives in
      let look = looked m.objects k o i result.0 result.1 in
      let near = near_is p w site m.objects at.served.lawful at.stands.laid o i look.access.live (let within = look.access.within in omega (arith, within)) in
      let x = site o + i in
      let word : place_word l.core (place a) ≡ x =
      subst (λ (v : Value). ValueStands (address p w site) v (place_word l.core (place a))) is from.stands ∙ near.word in
      let small : x < 2 ^ 32 = subst (λ (y : ℕ). y < 2 ^ 32) word from.word in
      let value = word_of_kind k (number_at (kind_size k) l.core.memory x) in
      let lines : ℕ → ℕ → List Line = λ a d. Plain (load_scalar k (pos 0) a d) ∷ sign_spread k d in
      let puts =
      laws.one program w (place a) (place t) value [] l.core lines from.place to.place at.stands.goes
      (λ e keeps there.
      subst (λ (f : ℕ → ℕ). Gets program w (words_of (lines (operand_register (place a) first) (result_register (place t)))) (result_register (place t)) (word_of_kind k (number_at (kind_size k) f x)) [] e) keeps.memory
      (more_laws.load program w k x (operand_register (place a) first) (result_register (place t)) [] e target keeps.skip (there ∙ word) small
      (access_opens p w site m.objects k o i at.served.lawful at.stands.laid look.access)
      (pointer_load_notes p functions w site m.objects at.program at.stands.laid k o i x look.access.live look.access.within refl free))) in
      result_follows laws p functions w scratch site (Flow (op.Load k t a)) m n l before more t value result.0 at less
      (one_straight (place a) (place t) lines (λ r d. scalar_load_straight k (pos 0) r d (sign_spread k d) (spread_straight k d))) puts
      (loaded_stands k o i result.0 at.served.lawful at.stands look) (loaded_small k x at.stands) result.2

  load_follows : (k : Kind) (t a : ℕ) → AtOp (Flow (op.Load k t a)) → Does (Flow (op.Load k t a)) → Done
  unfolding command
  load_follows k t a at is = by_value (placed.value_in m.frame m.registers a) refl is
    where
      by_value : (v : Value) → placed.value_in m.frame m.registers a ≡ v
          → (if placed.is_reserved (with_functions p functions) v then placed.Astray else placed.gives t (look k v m.objects) m) ≡ placed.On n → Done
      by_value (At (P.Object o i)) same e = by_test (placed.is_reserved (with_functions p functions) (At (P.Object o i))) refl e
        where
          by_test : (b : Bool) → placed.is_reserved (with_functions p functions) (At (P.Object o i)) ≡ b
              → (if b then placed.Astray else placed.gives t (look_in k o i m.objects) m) ≡ placed.On n → Done
          by_test true free e = absurd cc
          by_test false free e = load_object_follows k t a o i at same free e
      by_value (At (P.Function f)) same e = absurd cc
      by_value Undefined same e = absurd cc
      by_value (Num x) same e = absurd cc
      by_value Null same e = absurd cc
      by_value (Piece q j) same e = absurd cc

  -- ---- stores

  -- a scalar that is stored stands for what was written
  stored_are_written : (k : Kind) (o i x : ℕ) (v : Value) (e : Core) → Stands p w site m l.core → may_stand k v ≡ true → ValueStands (address p w site) v x
      → ((r : ℕ) → IsSteady r → register e r ≡ register l.core r) → e.memory ≡ with_number (kind_size k) x (site o + i) l.core.memory → e.skip ≡ false
      → AreWritten program w site o i (encoding v (kind_size k)) l.core e
  stored_are_written k o i x v e stands may h steady memory skip = record {
    there = subst (λ (f : ℕ → ℕ). BytesStand (address p w site) f (site o + i) (encoding v (kind_size k))) (sym memory)
        (more_laws.stored (address p w site) k v x (site o + i) l.core.memory may h);
    elsewhere = λ a out. ap (λ (f : ℕ → ℕ). f a) memory ∙ more_laws.byte (kind_size k) x (site o + i) a l.core.memory (outside a out);
    bytes = subst HoldsBytes (sym memory) (more_laws.bytes (kind_size k) x (site o + i) l.core.memory stands.words.memory);
    steady = steady;
    skip = skip;
  }
    where
      outside : (a : ℕ) → (a < site o + i) ⊎ (site o + i + length (encoding v (kind_size k)) ≤ a) → (a < site o + i) ⊎ (site o + i + kind_size k ≤ a)
      outside a (inl low) = inl low
      outside a (inr high) = inr (subst (λ (s : ℕ). site o + i + s ≤ a) (encoding_length k v may) high)

  fits_within : (k : Kind) (o i : ℕ) (v : Value) → may_stand k v ≡ true → i + kind_size k ≤ size_of m.objects o → i + length (encoding v (kind_size k)) ≤ size_of m.objects o
  fits_within k o i v may within = subst (λ (s : ℕ). i + s ≤ size_of m.objects o) (sym (encoding_length k v may)) within

  store_object_follows : (k : Kind) (a b o i : ℕ) (after : List Object) → AtOp (Flow (op.Store k a b)) → placed.value_in m.frame m.registers a ≡ At (P.Object o i)
      → placed.is_reserved (with_functions p functions) (At (P.Object o i)) ≡ false → poke_in k o i (placed.value_in m.frame m.registers b) m.objects ≡ Some after
      → record m { objects = after } ≡ n → Done
  store_object_follows k a b o i after at is free pokes goes =
      let from = place_at laws p functions w scratch site (Flow (op.Store k a b)) m l before more a at at.op.0 in
      let value = place_at laws p functions w scratch site (Flow (op.Store k a b)) m l before more b at at.op.1 in
      let v = placed.value_in m.frame m.registers b in
      let poke = poked m.objects k o i v after pokes in
      let near = near_is p w site m.objects at.served.lawful at.stands.laid o i poke.access.live (let within = poke.access.within in omega (arith, within)) in
      let address_word = site o + i in
      let x = place_word l.core (place b) in
      let word : place_word l.core (place a) ≡ address_word =
      subst (λ (v : Value). ValueStands (address p w site) v (place_word l.core (place a))) is from.stands ∙ near.word in
      let small : address_word < 2 ^ 32 = subst (λ (y : ℕ). y < 2 ^ 32) word from.word in
      let lines : ℕ → ℕ → List Line = λ r s. Plain (store_scalar k s (pos 0) r) ∷ [] in
      let puts =
      more_laws.two program w (place a) (place b) k x address_word [] l.core lines from.place value.place at.stands.goes
      (λ e keeps one two.
      subst (λ (y : ℕ). StoresScalar program w (words_of (lines (operand_register (place a) first) (operand_register (place b) second))) k y address_word [] e) two
      (more_laws.store program w k address_word (operand_register (place a) first) (operand_register (place b) second) [] e keeps.skip (one ∙ word) small
      (access_opens p w site m.objects k o i at.served.lawful at.stands.laid poke.access)
      (pointer_store_notes p functions w site m.objects at.program at.stands.laid k o i address_word poke.access.live poke.access.within refl free))) in
      let new = encoding v (kind_size k) in
      let written_then = record m { objects = written o i new m.objects } in
      subst (λ (n : placed.Machine). Follows p program w scratch site m n l (slotted more)) (ap (λ (os : List Object). record m { objects = os }) poke.is ∙ goes)
      (straight_follow laws p functions w scratch site m written_then l before (web_op_lines (layout_of m.frame.function) (Flow (op.Store k a b))) more puts.core []
      (joined_straight (operand_lines (place a) first ++ operand_lines (place b) second) (lines (operand_register (place a) first) (operand_register (place b) second))
      (joined_straight (operand_lines (place a) first) (operand_lines (place b) second) (operand_straight (place a) first) (operand_straight (place b) second))
      (scalar_store_straight k (operand_register (place b) second) (pos 0) (operand_register (place a) first)))
      at.left at.items puts.through
      (laws.objects program w site m l.core puts.core o i new at.served at.stands poke.access.live (fits_within k o i v poke.may poke.access.within)
      (stored_are_written k o i x v puts.core at.stands poke.may value.stands puts.steady puts.memory puts.skip))
      (record { frame = refl; callers = refl; rest = refl; read = refl; out = refl; events = refl }) (λ alike. alike))

  changed : (after : Option (List Object)) → placed.changes after m ≡ placed.On n → (os : List Object) × (after ≡ Some os) × (record m { objects = os } ≡ n)
  changed (Some os) e = (os, refl, same_machine (record m { objects = os }) n e)
  changed None e = absurd cc

  store_follows : (k : Kind) (a b : ℕ) → AtOp (Flow (op.Store k a b)) → Does (Flow (op.Store k a b)) → Done
  unfolding command
  store_follows k a b at is = by_value (placed.value_in m.frame m.registers a) refl is
    where
      by_value : (u : Value) → placed.value_in m.frame m.registers a ≡ u
          → (if placed.is_reserved (with_functions p functions) u then placed.Astray else placed.changes (poke k u (placed.value_in m.frame m.registers b) m.objects) m) ≡ placed.On n → Done
      by_value (At (P.Object o i)) same e = by_test (placed.is_reserved (with_functions p functions) (At (P.Object o i))) refl e
        where
          by_test : (t : Bool) → placed.is_reserved (with_functions p functions) (At (P.Object o i)) ≡ t
              → (if t then placed.Astray else placed.changes (poke_in k o i (placed.value_in m.frame m.registers b) m.objects) m) ≡ placed.On n → Done
          by_test true free e = absurd cc
          by_test false free e =
              let r = changed (poke_in k o i (placed.value_in m.frame m.registers b) m.objects) e in store_object_follows k a b o i r.0 at same free r.1 r.2
      by_value (At (P.Function f)) same e = by_test (placed.is_reserved (with_functions p functions) (At (P.Function f))) e
        where
          by_test : (t : Bool) → (if t then placed.Astray else placed.Astray) ≡ placed.On n → Done
          by_test true e = absurd cc
          by_test false e = absurd cc
      by_value Undefined same e = absurd cc
      by_value (Num x) same e = absurd cc
      by_value Null same e = absurd cc
      by_value (Piece q j) same e = absurd cc

  -- ---- globals by name

  -- a global object that is loaded or stored by its name
  record IsNamed (g : List ℕ) (k : Kind) (o : ℕ) : Type 0 where
    at : IsGlobalAt p g o
    live : Lives m.objects o
    fits : kind_size k ≤ at.global.size
    same : w.named at.global.name ≡ w.named g
    site_is : site o ≡ w.named g

  named_access : (g : List ℕ) (k : Kind) (o : ℕ) → Stands p w site m l.core → global_number p g ≡ Some o → IsAccess m.objects o 0 (kind_size k) (kind_size k) → IsNamed g k o
  named_access g k o stands number access =
      let at = global_at p g o number in
      let size = stands.laid.size o at.global at.there in
      let within = access.within in
      record {
        at = at;
        live = access.live;
        fits = omega (arith, size, within);
        same = ap w.named at.name;
        site_is = named_site p w.named site g o stands.laid.named number;
      }

  named_small : (o : ℕ) → AreLawful p w → Stands p w site m l.core → Lives m.objects o → site o < 2 ^ 32
  named_small o lawful stands live = let below = stands.laid.below o live in let memory = lawful.memory in omega (arith, below, memory)

  named_opens : (g : List ℕ) (k : Kind) (o : ℕ) → AreLawful p w → Stands p w site m l.core → IsAccess m.objects o 0 (kind_size k) (kind_size k) → site o ≡ w.named g
      → words.is_open w (w.named g) (kind_size k) ≡ true
  named_opens g k o lawful stands access same =
      let none : site o + 0 ≡ w.named g = omega (arith, same) in
      subst (λ (a : ℕ). words.is_open w a (kind_size k) ≡ true) none (access_opens p w site m.objects k o 0 lawful stands.laid access)

  -- what both runs note of a global
  noted_alike : (e : Event Byte Value) (f : Event ℕ ℕ) (t s : Bool) (m : placed.Machine) (log : List (Event ℕ ℕ)) → s ≡ t → EventInWords p w.named e f
      → AreAlike (EventInWords p w.named) m.trace log → AreAlike (EventInWords p w.named) (placed.noted_if t e m).trace ((if s then f ∷ [] else []) ++ log)
  noted_alike e f true true m log same alike logs = AreAlike.also e f m.trace log alike logs
  noted_alike e f false false m log same alike logs = logs
  noted_alike e f true false m log same alike logs = absurd cc
  noted_alike e f false true m log same alike logs = absurd cc

  noted_values : (t : Bool) (e : Event Byte Value) (a : placed.Machine) → OnlyValues m a → OnlyValues m (placed.noted_if t e a)
  noted_values true e a v = record { frame = v.frame; callers = v.callers; rest = v.rest; read = v.read; out = v.out; events = v.events }
  noted_values false e a v = v

  noted_then : (t : Bool) (e : Event Byte Value) (a : placed.Machine) (core : Core) → StandsThen program w site m a l.core core → StandsThen program w site m (placed.noted_if t e a) l.core core
  noted_then true e a core h = record {
    stands = record {
      words = h.stands.words;
      laid = h.stands.laid;
      bytes = h.stands.bytes;
      registers = h.stands.registers;
      frame = h.stands.frame;
      holds = h.stands.holds;
      goes = h.stands.goes;
    };
    leaves = h.leaves;
  }
  noted_then false e a core h = h

  put_noted : (b : Bool) (e : Event Byte Value) (t : ℕ) (v : Value) → placed.with_temp t v (placed.noted_if b e m) ≡ placed.noted_if b e (placed.with_temp t v m)
  put_noted false e t v = refl
  put_noted true e t v = by_register (register_of_place (slice_get m.frame.function.places t))
    where
      by_register : (o : Option ℕ) → put_at t v (placed.noted e m) o ≡ placed.noted e (put_at t v m o)
      by_register (Some r) = refl
      by_register None = refl

  -- what is read of a global by name
  abbrev get_by : Kind → List Object → Option ℕ → Option Value
  get_by k objects (Some o) = look_in k o 0 objects
  get_by k objects None = None

  record Got (g : List ℕ) (k : Kind) (z : Value) : Type 0 where
    object : ℕ
    number : global_number p g ≡ Some object
    look : Looked m.objects k object 0 z

  got : (g : List ℕ) (k : Kind) (z : Value) → get_global p g k m.objects ≡ Some z → Got g k z
  got g k z e = by_kind (is_own_kind p g k) e
    where
      by_number : (o : Option ℕ) → global_number p g ≡ o → get_by k m.objects o ≡ Some z → Got g k z
      by_number (Some o) is e = record { object = o; number = is; look = looked m.objects k o 0 z e }
      by_number None is e = absurd cc

      by_kind : (t : Bool) → (if t then get_by k m.objects (global_number p g) else None) ≡ Some z → Got g k z
      by_kind true e = by_number (global_number p g) refl e
      by_kind false e = absurd cc

  behind_none : (a b : ℕ) → a ≡ b → a + 0 ≡ b
  behind_none a b e = omega (arith, e)

  load_global_follows : (t : ℕ) (g : List ℕ) (k : Kind) → AtOp (Flow (op.LoadG t g k)) → Does (Flow (op.LoadG t g k)) → Done
  unfolding command
  load_global_follows t g k at is =
      let less = at.op in
      let to = place_at laws p functions w scratch site (Flow (op.LoadG t g k)) m l before more t at less in
      let target = target_of program w l.core (place t) to.place in
      let el = placed.is_eligible (with_functions p functions) g in
      let result = given t (get_global p g k m.objects) (placed.noted_if el (Loaded g) m) n is in
      let r = got g k result.0 result.1 in
      let here = named_access g k r.object at.stands r.number r.look.access in
      let s = eligible_in program here.at.global in
      let same : s ≡ el = eligible_same p functions here.at.global ∙ ap (placed.is_eligible (with_functions p functions)) here.at.name in
      let log : List (Event ℕ ℕ) = if s then Loaded g ∷ [] else [] in
      let value = word_of_kind k (number_at (kind_size k) l.core.memory (w.named g)) in
      let notes =
      subst (λ (x : List ℕ). LoadNotes program w k (w.named x) (if s then Loaded x ∷ [] else [])) here.at.name
      (named_load_notes p functions w site m.objects at.program at.stands.laid k r.object here.at.global here.at.there here.fits) in
      let small = subst (λ (a : ℕ). a < 2 ^ 32) here.site_is (named_small r.object at.served.lawful at.stands here.live) in
      let puts =
      laws.none program w (place t) value log l.core (read_global g k) to.place
      (more_laws.read program w g k (result_register (place t)) log l.core target at.stands.goes small (named_opens g k r.object at.served.lawful at.stands r.look.access here.site_is) notes) in
      let h =
      subst (λ (a : ℕ). ValueStands (address p w site) result.0 (word_of_kind k (number_at (kind_size k) l.core.memory a))) (behind_none (site r.object) (w.named g) here.site_is)
      (loaded_stands k r.object 0 result.0 at.served.lawful at.stands r.look) in
      let reached = placed.with_temp t result.0 m in
      let stands_then = laws.results program w site m l.core puts.core t value result.0 at.served at.stands less h (loaded_small k (w.named g) at.stands) puts.placed in
      subst (λ (n : placed.Machine). Follows p program w scratch site m n l (slotted more)) (sym (put_noted el (Loaded g) t result.0) ∙ result.2)
      (straight_follow laws p functions w scratch site m (placed.noted_if el (Loaded g) reached) l before (web_op_lines (layout_of m.frame.function) (Flow (op.LoadG t g k))) more puts.core log
      (none_straight (place t) (read_global g k) (read_straight g k)) at.left at.items puts.through (noted_then el (Loaded g) reached puts.core stands_then)
      (noted_values el (Loaded g) reached (values_put t result.0 m))
      (λ alike. noted_alike (Loaded g) (Loaded g) el s reached l.trace same (record { objects = site; globals = at.stands.laid.named; alike = EventAlike.loaded g })
      (subst (λ (log : List (Event Byte Value)). AreAlike (EventInWords p w.named) log l.trace) (sym (trace_put t result.0 m)) alike)))

  -- what is written of a global by name
  abbrev put_by : Kind → Value → List Object → Option ℕ → Option (List Object)
  put_by k v objects (Some o) = poke_in k o 0 v objects
  put_by k v objects None = None

  record Put (g : List ℕ) (k : Kind) (v : Value) (after : List Object) : Type 0 where
    object : ℕ
    number : global_number p g ≡ Some object
    poke : Poked m.objects k object 0 v after

  put_is : (g : List ℕ) (k : Kind) (v : Value) (after : List Object) → put_global p g k v m.objects ≡ Some after → Put g k v after
  put_is g k v after e = by_kind (is_own_kind p g k && is_of_kind k v) e
    where
      by_number : (o : Option ℕ) → global_number p g ≡ o → put_by k v m.objects o ≡ Some after → Put g k v after
      by_number (Some o) is e = record { object = o; number = is; poke = poked m.objects k o 0 v after e }
      by_number None is e = absurd cc

      by_kind : (t : Bool) → (if t then put_by k v m.objects (global_number p g) else None) ≡ Some after → Put g k v after
      by_kind true e = by_number (global_number p g) refl e
      by_kind false e = absurd cc

  abbrev stored_by : List ℕ → Option (List Object) → placed.Step
  stored_by g (Some objects) = placed.On (placed.noted_if (placed.is_eligible (with_functions p functions) g) (Stored g) (record m { objects = objects }))
  stored_by g None = placed.Astray

  store_global_follows : (g : List ℕ) (a : ℕ) (k : Kind) → AtOp (Flow (op.StoreG g a k)) → Does (Flow (op.StoreG g a k)) → Done
  unfolding command
  store_global_follows g a k at is = by_put (put_global p g k (placed.value_in m.frame m.registers a) m.objects) refl is
    where
      by_put : (o : Option (List Object)) → put_global p g k (placed.value_in m.frame m.registers a) m.objects ≡ o → stored_by g o ≡ placed.On n → Done
      by_put None is goes = absurd cc
      by_put (Some after) is goes =
          let v = placed.value_in m.frame m.registers a in
          let el = placed.is_eligible (with_functions p functions) g in
          let from = place_at laws p functions w scratch site (Flow (op.StoreG g a k)) m l before more a at at.op in
          let r = put_is g k v after is in
          let here = named_access g k r.object at.stands r.number r.poke.access in
          let s = eligible_in program here.at.global in
          let same : s ≡ el = eligible_same p functions here.at.global ∙ ap (placed.is_eligible (with_functions p functions)) here.at.name in
          let log : List (Event ℕ ℕ) = if s then Stored g ∷ [] else [] in
          let x = place_word l.core (place a) in
          let q = operand_register (place a) first in
          let notes =
          subst (λ (y : List ℕ). StoreNotes program w k (w.named y) (if s then Stored y ∷ [] else [])) here.at.name
          (named_store_notes p functions w site m.objects at.program at.stands.laid k r.object here.at.global here.at.there here.fits) in
          let small = subst (λ (a : ℕ). a < 2 ^ 32) here.site_is (named_small r.object at.served.lawful at.stands here.live) in
          let source = source_of program w l.core (place a) first (omega arith) (omega arith) from.place in
          let puts =
          more_laws.one program w (place a) k x (w.named g) log l.core (write_global g k) from.place at.stands.goes
          (λ e keeps one.
          subst (λ (y : ℕ). StoresScalar program w (words_of (write_global g k q)) k y (w.named g) log e) one
          (more_laws.write program w g k q log e source.not_help keeps.skip small (named_opens g k r.object at.served.lawful at.stands r.poke.access here.site_is) notes)) in
          let new = encoding v (kind_size k) in
          let reached = record m { objects = written r.object 0 new m.objects } in
          let memory = puts.memory ∙ ap (λ (b : ℕ). with_number (kind_size k) x b l.core.memory) (sym (behind_none (site r.object) (w.named g) here.site_is)) in
          let stands_then =
          laws.objects program w site m l.core puts.core r.object 0 new at.served at.stands r.poke.access.live (fits_within k r.object 0 v r.poke.may r.poke.access.within)
          (stored_are_written k r.object 0 x v puts.core at.stands r.poke.may from.stands puts.steady memory puts.skip) in
          let goes_on : placed.noted_if el (Stored g) reached ≡ n =
          ap (λ (os : List Object). placed.noted_if el (Stored g) (record m { objects = os })) r.poke.is ∙ same_machine (placed.noted_if el (Stored g) (record m { objects = after })) n goes in
          subst (λ (n : placed.Machine). Follows p program w scratch site m n l (slotted more)) goes_on
          (straight_follow laws p functions w scratch site m (placed.noted_if el (Stored g) reached) l before (web_op_lines (layout_of m.frame.function) (Flow (op.StoreG g a k))) more puts.core log
          (joined_straight (operand_lines (place a) first) (write_global g k q) (operand_straight (place a) first) (write_straight g k q)) at.left at.items puts.through
          (noted_then el (Stored g) reached puts.core stands_then)
          (noted_values el (Stored g) reached (record { frame = refl; callers = refl; rest = refl; read = refl; out = refl; events = refl }))
          (λ alike. noted_alike (Stored g) (Stored g) el s reached l.trace same (record { objects = site; globals = at.stands.laid.named; alike = EventAlike.stored g }) alike))

  -- ---- webs

  abbrev entered_by : Web → Option Value → placed.Step
  entered_by x (Some z) =
      placed.On (placed.noted_if (placed.is_eligible (with_functions p functions) x.global) (Loaded x.global) (record m { registers = placed.with_register x.reg z m.registers }))
  entered_by x None = placed.Astray

  abbrev stored_row : Web → Bool → List Line
  stored_row x t = if t then write_global x.global x.kind x.reg else []

  abbrev DoneWeb : Web → placed.Machine → Type 0
  DoneWeb x n = WebFollows p program w scratch site x m n l (slotted more)

  web_load_follows : (targets : TargetsAre) (x : Web) → StandAtWeb p functions w site (loaded_web x) x m l before more → placed.enters (with_functions p functions) x m ≡ placed.On n → DoneWeb x n
  web_load_follows targets x at is = by_value (get_global p x.global x.kind m.objects) refl is
    where
      by_value : (o : Option Value) → get_global p x.global x.kind m.objects ≡ o → entered_by x o ≡ placed.On n → DoneWeb x n
      by_value None is goes = absurd cc
      by_value (Some z) is goes =
          let g = x.global in
          let k = x.kind in
          let el = placed.is_eligible (with_functions p functions) g in
          let r = got g k z is in
          let here = named_access g k r.object at.stands r.number r.look.access in
          let s = eligible_in program here.at.global in
          let same : s ≡ el = eligible_same p functions here.at.global ∙ ap (placed.is_eligible (with_functions p functions)) here.at.name in
          let log : List (Event ℕ ℕ) = if s then Loaded g ∷ [] else [] in
          let value = word_of_kind k (number_at (kind_size k) l.core.memory (w.named g)) in
          let notes =
          subst (λ (y : List ℕ). LoadNotes program w k (w.named y) (if s then Loaded y ∷ [] else [])) here.at.name
          (named_load_notes p functions w site m.objects at.program at.stands.laid k r.object here.at.global here.at.there here.fits) in
          let small = subst (λ (a : ℕ). a < 2 ^ 32) here.site_is (named_small r.object at.served.lawful at.stands here.live) in
          let puts =
          laws.none program w (Reg x.reg) value log l.core (read_global g k) at.temp
          (more_laws.read program w g k x.reg log l.core (target_of program w l.core (Reg x.reg) at.temp) at.stands.goes small (named_opens g k r.object at.served.lawful at.stands r.look.access here.site_is) notes) in
          let through = subst (λ (xs : List Line). GoThrough program w (words_of xs) l.core puts.core log) (append-nil (read_global g k x.reg)) puts.through in
          let h =
          subst (λ (a : ℕ). ValueStands (address p w site) z (word_of_kind k (number_at (kind_size k) l.core.memory a))) (behind_none (site r.object) (w.named g) here.site_is)
          (loaded_stands k r.object 0 z at.served.lawful at.stands r.look) in
          let reached = record m { registers = placed.with_register x.reg z m.registers } in
          let stands_then = laws.webs program w site m l.core puts.core x.reg value z at.served at.stands at.temp at.has h (loaded_small k (w.named g) at.stands) puts.placed in
          let done =
          straight_reaches laws p functions w scratch site m (placed.noted_if el (Loaded g) reached) l before (loaded_web x) more puts.core log (read_straight g k x.reg) at.left at.items through
          (noted_then el (Loaded g) reached puts.core stands_then)
          (noted_values el (Loaded g) reached (record { frame = refl; callers = refl; rest = refl; read = refl; out = refl; events = refl }))
          (λ alike. noted_alike (Loaded g) (Loaded g) el s reached l.trace same (record { objects = site; globals = at.stands.laid.named; alike = EventAlike.loaded g }) alike) in
          subst (λ (n : placed.Machine). DoneWeb x n) (same_machine (placed.noted_if el (Loaded g) reached) n goes)
          (record {
            follows = done.follows;
            registers = λ r one two. ap (λ (c : Core). register c r) done.core ∙ words_keep targets w r (words_of (read_global g k x.reg)) l.core puts.core (read_keeps g k x.reg r one two) through.acts;
          })

  web_store_follows : (targets : TargetsAre) (x : Web) → StandAtWeb p functions w site (stored_back x) x m l before more → placed.leaves (with_functions p functions) x m ≡ placed.On n → DoneWeb x n
  web_store_follows targets x at is = by_writes x.writes refl is
    where
      by_put : l.frame.left ≡ slotted (write_global x.global x.kind x.reg ++ more)
          → (o : Option (List Object)) → put_global p x.global x.kind (m.registers x.reg) m.objects ≡ o → stored_by x.global o ≡ placed.On n → DoneWeb x n
      by_put left None is goes = absurd cc
      by_put left (Some after) is goes =
          let g = x.global in
          let k = x.kind in
          let v = m.registers x.reg in
          let el = placed.is_eligible (with_functions p functions) g in
          let r = put_is g k v after is in
          let here = named_access g k r.object at.stands r.number r.poke.access in
          let s = eligible_in program here.at.global in
          let same : s ≡ el = eligible_same p functions here.at.global ∙ ap (placed.is_eligible (with_functions p functions)) here.at.name in
          let log : List (Event ℕ ℕ) = if s then Stored g ∷ [] else [] in
          let y = register l.core x.reg in
          let notes =
          subst (λ (z : List ℕ). StoreNotes program w k (w.named z) (if s then Stored z ∷ [] else [])) here.at.name
          (named_store_notes p functions w site m.objects at.program at.stands.laid k r.object here.at.global here.at.there here.fits) in
          let small = subst (λ (a : ℕ). a < 2 ^ 32) here.site_is (named_small r.object at.served.lawful at.stands here.live) in
          let low = at.temp.low in
          let puts =
          more_laws.write program w g k x.reg log l.core (λ e. omega (arith, low, e)) at.stands.goes small (named_opens g k r.object at.served.lawful at.stands r.poke.access here.site_is) notes in
          let new = encoding v (kind_size k) in
          let reached = record m { objects = written r.object 0 new m.objects } in
          let memory = puts.memory ∙ ap (λ (b : ℕ). with_number (kind_size k) y b l.core.memory) (sym (behind_none (site r.object) (w.named g) here.site_is)) in
          let stands_then =
          laws.objects program w site m l.core puts.core r.object 0 new at.served at.stands r.poke.access.live (fits_within k r.object 0 v r.poke.may r.poke.access.within)
          (stored_are_written k r.object 0 y v puts.core at.stands r.poke.may (at.stands.registers x.reg at.temp) puts.steady memory puts.skip) in
          let goes_on : placed.noted_if el (Stored g) reached ≡ n =
          ap (λ (os : List Object). placed.noted_if el (Stored g) (record m { objects = os })) r.poke.is ∙ same_machine (placed.noted_if el (Stored g) (record m { objects = after })) n goes in
          let done =
          straight_reaches laws p functions w scratch site m (placed.noted_if el (Stored g) reached) l before (write_global g k x.reg) more puts.core log (write_straight g k x.reg) left at.items puts.through
          (noted_then el (Stored g) reached puts.core stands_then)
          (noted_values el (Stored g) reached (record { frame = refl; callers = refl; rest = refl; read = refl; out = refl; events = refl }))
          (λ alike. noted_alike (Stored g) (Stored g) el s reached l.trace same (record { objects = site; globals = at.stands.laid.named; alike = EventAlike.stored g }) alike) in
          subst (λ (n : placed.Machine). DoneWeb x n) goes_on
          (record {
            follows = done.follows;
            registers = λ r one two. ap (λ (c : Core). register c r) done.core ∙ words_keep targets w r (words_of (write_global g k x.reg)) l.core puts.core (write_keeps g k x.reg r one) puts.through.acts;
          })

      by_writes : (t : Bool) → x.writes ≡ t
          → (if t then placed.stores_global (with_functions p functions) x.global x.kind (m.registers x.reg) m else placed.On m) ≡ placed.On n → DoneWeb x n
      by_writes true e goes =
          by_put (at.left ∙ ap (λ (t : Bool). slotted (stored_row x t ++ more)) e) (put_global p x.global x.kind (m.registers x.reg) m.objects) refl goes
      by_writes false e goes =
          let done =
          straight_reaches laws p functions w scratch site m m l before [] more l.core [] tt (at.left ∙ ap (λ (t : Bool). slotted (stored_row x t ++ more)) e) at.items
          (record { acts = refl; notes = λ log. refl })
          (record { stands = at.stands; leaves = record { top = refl; memory = λ a out. refl; registers = λ r none. refl } })
          (record { frame = refl; callers = refl; rest = refl; read = refl; out = refl; events = refl }) (λ alike. alike) in
          subst (λ (n : placed.Machine). DoneWeb x n) (same_machine m n goes) (record { follows = done.follows; registers = λ r one two. ap (λ (c : Core). register c r) done.core })

pub web_loads_follow : TargetsAre → Laws → ScalarLaws → WebLoadsFollow
web_loads_follow targets laws more_laws p functions w scratch site m n l before more x at is =
    web_load_follows laws more_laws p functions w scratch site m n l before more targets x at is

pub web_stores_follow : TargetsAre → Laws → ScalarLaws → WebStoresFollow
web_stores_follow targets laws more_laws p functions w scratch site m n l before more x at is =
    web_store_follows laws more_laws p functions w scratch site m n l before more targets x at is

pub named_globals_follow : Laws → ScalarLaws → (o : WebOp) → NamesGlobal o → OperationFollows o
named_globals_follow laws more_laws (Flow (op.LoadG t g k)) h p functions w scratch site m n l before more at is =
    load_global_follows laws more_laws p functions w scratch site m n l before more t g k at is
named_globals_follow laws more_laws (Flow (op.StoreG g a k)) h p functions w scratch site m n l before more at is =
    store_global_follows laws more_laws p functions w scratch site m n l before more g a k at is
named_globals_follow laws more_laws _ h p functions w scratch site m n l before more at is = absurd h

pub accesses_follow : Laws → ScalarLaws → (o : WebOp) → GoesByPointer o → OperationFollows o
accesses_follow laws more_laws (Flow (op.Load k t a)) h p functions w scratch site m n l before more at is =
    load_follows laws more_laws p functions w scratch site m n l before more k t a at is
accesses_follow laws more_laws (Flow (op.Store k a b)) h p functions w scratch site m n l before more at is =
    store_follows laws more_laws p functions w scratch site m n l before more k a b at is
accesses_follow laws more_laws _ h p functions w scratch site m n l before more at is = absurd h
