-- The global objects at the start: where they stand, and what the memory has of them.
use Rattle.std.proofs.Common.{◌≡◌, ◌≢◌, ◌⊎◌, ℕ, zero, suc, ◌+◌, ◌/◌, ◌%◌, ◌^◌, ◌<◌, ◌≤◌, ◌==◌, Bool, true, false, if◌then◌else◌, Option, Some, None, List, [], ◌∷◌, ◌++◌, length, map, replicate, slice_get, refl, sym, ap, subst, ◌∙◌, arith, inl, inr, mod-eq_of_lt, Contains}
use Rattle.std.specs.Prelude.{max, option_map, unwrap_or, slice_set}
use Rattle.std.specs.List.{AllByRecursion, flat_map}
use Rattle.std.specs.Int.{to_be_bytes, w32}
use Rattle.std.proofs.lemmas.Bool.{ne_eqb, eq-eqb}
use Rattle.std.proofs.lemmas.List.{length-set, length-replicate}
use Rattle.pw_value.specs.declared.value.Byte.{Byte}
use Rattle.pw_value.specs.declared.value.Byte.TheVariants as B
use Rattle.pw_value.specs.declared.value.Pointer.{Pointer}
use Rattle.pw_value.specs.declared.value.Pointer.TheVariants as P
use Rattle.pw_value.specs.Objects.{Object, object_at, with_bytes}
use Rattle.pw_files.proofs.Standing.{Has, has_by, has_each, each_by, contains_by, has_map, has_left, has_split, has_flat, has_flat_back}
use Rattle.pw_flow.specs.declared.flow.Item.{Item}
use Rattle.pw_flow.specs.declared.flow.Item.TheVariants.{Bytes, Address}
use Rattle.pw_flow.specs.declared.flow.FlowGlobal.{FlowGlobal}
use Rattle.pw_flow.specs.declared.flow.FlowModule.{FlowModule}
use Rattle.pw_flow.specs.FlowGraph.{item_names, names_in_global, names_in_function, named_in}
use Rattle.pw_flow.specs.ValidFlow.{IsValid, IsGlobal, AreItems, AreDistinct, item_size, global_room}
use Rattle.pw_run_languages.specs.Programs.{Program, names_of, globals_of, function_number, global_number, pointer_to, item_bytes, with_items, object_of, start_objects}
use Rattle.pw_run_languages.specs.LawfulPrograms.{IsProgram, IsItem}
use Rattle.pw_run_languages.specs.Addresses.{Addresses, AreLawful}
use Rattle.pw_run_languages.specs.Acts.{put}
use Rattle.pw_run_languages.specs.Standing.{GlobalsAreNamed, ByteStands, byte_of}
use Rattle.pw_run_languages.specs.LineRun as lines
use Rattle.pw_run_languages.specs.LineRun.{with_globals}
use Rattle.pw_law_select_memory.specs.Numbers.{HoldsBytes}
use Rattle.pw_law_select_memory.specs.Stand.{BytesStand, NewBytesStand, OldBytesStand}
use Rattle.pw_law_select_states.specs.Laid.{address, Lives, size_of, AreLaid, BytesAreThere}
use Rattle.pw_law_select_ops.proofs.Naming.{function_found, named_site, has_number}

-- ---- where they stand

abbrev pub named_by : Addresses → Option FlowGlobal → ℕ
named_by w (Some g) = w.named g.name
named_by w None = 0

-- each global object where its name does
abbrev pub global_site : Program → Addresses → ℕ → ℕ
global_site p w k = named_by w (slice_get (globals_of p) k)

all_named : (w : Addresses) (gs : List FlowGlobal) (n : ℕ) (rest : List FlowGlobal) → ((k : ℕ) → slice_get gs (n + k) ≡ slice_get rest k)
    → GlobalsAreNamed w.named (λ k. named_by w (slice_get gs k)) n rest
all_named w gs n [] same = tt
all_named w gs n (g ∷ rest) same =
    let none : n ≡ n + 0 = omega arith in (
      ap (λ k. named_by w (slice_get gs k)) none ∙ ap (named_by w) (same 0),
      all_named w gs (suc n) rest (λ k. (let e : suc n + k ≡ n + suc k = omega arith in ap (λ j. slice_get gs j) e) ∙ same (suc k)),
    )

pub globals_named : (p : Program) (w : Addresses) → GlobalsAreNamed w.named (global_site p w) 0 (globals_of p)
globals_named p w = all_named w (globals_of p) 0 (globals_of p) (λ k. let e : 0 + k ≡ k = omega arith in ap (λ j. slice_get (globals_of p) j) e)

-- ---- objects of a list of globals

module _ (p : Program) where
  object_there : (gs : List FlowGlobal) (k : ℕ) (g : FlowGlobal) → slice_get gs k ≡ Some g → object_at (map (object_of p) gs) k ≡ object_of p g
  object_there [] k g e = absurd cc
  object_there (h ∷ gs) zero g e = let same : h ≡ g = cc in ap (object_of p) same
  object_there (h ∷ gs) (suc k) g e = object_there gs k g e

  -- an object that lives is that of a global
  lives_there : (gs : List FlowGlobal) (k : ℕ) → Lives (map (object_of p) gs) k → (g : FlowGlobal) × (slice_get gs k ≡ Some g)
  lives_there [] zero h = absurd cc
  lives_there [] (suc k) h = absurd cc
  lives_there (g ∷ gs) zero h = (g, refl)
  lives_there (g ∷ gs) (suc k) h = lives_there gs k h

  with_bytes_length : (new : List Byte) (i : ℕ) (bytes : List Byte) → length (with_bytes new i bytes) ≡ length bytes
  with_bytes_length [] i bytes = refl
  with_bytes_length (b ∷ new) i bytes = with_bytes_length new (suc i) (slice_set bytes i b) ∙ length-set bytes i b

  items_length : (items : List (ℕ × Item)) (bytes : List Byte) → length (with_items p items bytes) ≡ length bytes
  items_length [] bytes = refl
  items_length (i ∷ items) bytes = items_length items (with_bytes (item_bytes p i.1) i.0 bytes) ∙ with_bytes_length (item_bytes p i.1) i.0 bytes

  pub object_size : (g : FlowGlobal) → length (object_of p g).bytes ≡ g.size
  object_size g = items_length g.items (replicate g.size (B.Num 0)) ∙ length-replicate g.size (B.Num 0)

has_got : {X : Type 0} (xs : List X) (k : ℕ) (x : X) → slice_get xs k ≡ Some x → Has x xs
has_got [] k x e = absurd cc
has_got (y ∷ ys) zero x e = inl (let same : y ≡ x = cc in same)
has_got (y ∷ ys) (suc k) x e = inr (has_got ys k x e)

-- ---- apart

-- two globals have no room in common
abbrev pub Apart : Addresses → FlowGlobal → FlowGlobal → Type 0
Apart w g h = (w.named g.name + global_room g ≤ w.named h.name) ⊎ (w.named h.name + global_room h ≤ w.named g.name)

abbrev pub AllApart : Addresses → List FlowGlobal → Type 0
AllApart w [] = Unit {0}
AllApart w (g ∷ gs) = AllByRecursion (λ h. Apart w g h) gs × AllApart w gs

names_right : (xs ys : List (List ℕ)) → AreDistinct (xs ++ ys) → AreDistinct ys
names_right [] ys h = h
names_right (x ∷ xs) ys h = names_right xs ys h.1

apart_from : (w : Addresses) (gs : List FlowGlobal) → AreDistinct (map (λ g. g.name) gs)
    → ((g h : FlowGlobal) → Has g gs → Has h gs → g.name ≢ h.name → Apart w g h) → AllApart w gs
apart_from w [] distinct apart = tt
apart_from w (g ∷ gs) distinct apart = (
  each_by (λ h. Apart w g h) gs (λ h there. apart g h (inl refl) (inr there) (λ e. has_each (λ other. other ≢ g.name) (map (λ (x : FlowGlobal). x.name) gs) h.name distinct.0 (has_map (λ (x : FlowGlobal). x.name) h gs there) (sym e))),
  apart_from w gs distinct.1 (λ g h one two. apart g h (inr one) (inr two)),
)

flip : (w : Addresses) (g h : FlowGlobal) → Apart w g h → Apart w h g
flip w g h (inl e) = inr e
flip w g h (inr e) = inl e

apart_at : (w : Addresses) (gs : List FlowGlobal) (k j : ℕ) (g h : FlowGlobal) → AllApart w gs → slice_get gs k ≡ Some g → slice_get gs j ≡ Some h → k ≢ j → Apart w g h
apart_at w [] k j g h all e f ne = absurd cc
apart_at w (x ∷ gs) zero zero g h all e f ne = absurd (ne refl)
apart_at w (x ∷ gs) zero (suc j) g h all e f ne =
    let same : x ≡ g = cc in subst (λ (y : FlowGlobal). Apart w y h) same (has_each (λ z. Apart w x z) gs h all.0 (has_got gs j h f))
apart_at w (x ∷ gs) (suc k) zero g h all e f ne =
    let same : x ≡ h = cc in flip w h g (subst (λ (y : FlowGlobal). Apart w y g) same (has_each (λ z. Apart w x z) gs g all.0 (has_got gs k g e)))
apart_at w (x ∷ gs) (suc k) (suc j) g h all e f ne = apart_at w gs k j g h all.1 e f (λ same. ne (ap suc same))

-- ---- bytes that are put into memory

put_there : (a v : ℕ) (f : ℕ → ℕ) → put a v f a ≡ v
put_there a v f = ap (λ (t : Bool). if t then v else f a) (eq-eqb a a refl)

put_elsewhere : (a v b : ℕ) (f : ℕ → ℕ) → b ≢ a → put a v f b ≡ f b
put_elsewhere a v b f ne = ap (λ (t : Bool). if t then v else f b) (ne_eqb b a ne)

bytes_outside : (a : ℕ) (bytes : List ℕ) (f : ℕ → ℕ) (x : ℕ) → (x < a) ⊎ (a + length bytes ≤ x) → lines.with_bytes a bytes f x ≡ f x
bytes_outside a [] f x out = refl
bytes_outside a (b ∷ bytes) f x (inl less) =
    bytes_outside (a + 1) bytes (put a b f) x (inl (omega (arith, less))) ∙ put_elsewhere a b x f (λ e. omega (arith, e, less))
bytes_outside a (b ∷ bytes) f x (inr more) =
    bytes_outside (a + 1) bytes (put a b f) x (inr (omega (arith, more))) ∙ put_elsewhere a b x f (λ e. omega (arith, e, more))

-- one by one, numbers stand for bytes
abbrev AllStandFor : (Pointer → ℕ) → List Byte → List ℕ → Type 0
AllStandFor address [] [] = Unit {0}
AllStandFor address (b ∷ new) (n ∷ bytes) = ByteStands address b n × AllStandFor address new bytes
AllStandFor address new bytes = ⊥

as_long : (address : Pointer → ℕ) (new : List Byte) (bytes : List ℕ) → AllStandFor address new bytes → length new ≡ length bytes
as_long address [] [] h = refl
as_long address [] (n ∷ bytes) h = absurd h
as_long address (b ∷ new) [] h = absurd h
as_long address (b ∷ new) (n ∷ bytes) h = let e = as_long address new bytes h.1 in omega (arith, e)

bytes_put_stand : (address : Pointer → ℕ) (a : ℕ) (new : List Byte) (bytes : List ℕ) (f : ℕ → ℕ) → AllStandFor address new bytes → BytesStand address (lines.with_bytes a bytes f) a new
bytes_put_stand address a [] [] f h = tt
bytes_put_stand address a [] (n ∷ bytes) f h = absurd h
bytes_put_stand address a (b ∷ new) [] f h = absurd h
bytes_put_stand address a (b ∷ new) (n ∷ bytes) f h =
    let there : lines.with_bytes (a + 1) bytes (put a n f) a ≡ n = bytes_outside (a + 1) bytes (put a n f) a (inl (omega arith)) ∙ put_there a n f in (
      subst (ByteStands address b) (sym there) h.0,
      bytes_put_stand address (a + 1) new bytes (put a n f) h.1,
    )

bytes_held : (a : ℕ) (bytes : List ℕ) (f : ℕ → ℕ) → AllByRecursion (λ b. b < 256) bytes → HoldsBytes f → HoldsBytes (lines.with_bytes a bytes f)
bytes_held a [] f small h x = h x
bytes_held a (b ∷ bytes) f small h x = bytes_held (a + 1) bytes (put a b f) small.1 (λ y. by_test y (y == a)) x
  where
    by_test : (y : ℕ) (t : Bool) → (if t then b else f y) < 256
    by_test y true = small.0
    by_test y false = h y

-- ---- items

module _ (p : Program) (w : Addresses) where
  abbrev at : Pointer → ℕ
  at = address p w (global_site p w)

  four : (q : Pointer) (word : ℕ) → at q ≡ word → AllStandFor at (B.Piece q 0 ∷ B.Piece q 1 ∷ B.Piece q 2 ∷ B.Piece q 3 ∷ []) (to_be_bytes w32 word)
  four q word e = (
    ap (λ a. byte_of a 0) (sym e),
    (ap (λ a. byte_of a 1) (sym e), (ap (λ a. byte_of a 2) (sym e), (last, tt))),
  )
    where
      by_one : word / 1 ≡ word
      by_one = omega arith

      last : ByteStands at (B.Piece q 3) (word % 256)
      last = ap (λ a. a % 256) (sym by_one) ∙ ap (λ a. byte_of a 3) (sym e)

  numbers_stand : (bytes : List ℕ) → AllStandFor at (map B.Num bytes) bytes
  numbers_stand [] = tt
  numbers_stand (b ∷ bytes) = (refl, numbers_stand bytes)

  -- what a name denotes has the address of the name
  abbrev pointer_at : List ℕ → ℕ → Option ℕ → Pointer
  pointer_at name offset (Some n) = P.Object n offset
  pointer_at name offset None = P.Function (function_number p name)

  pointer_is : (lawful : AreLawful p w) (name : List ℕ) (n : ℕ) → (global_number p name ≡ None → Contains (names_of p) name) → (Contains (names_of p) name → n ≡ 0)
      → at (pointer_to p name n) ≡ (w.named name + n) % 2 ^ 32
  pointer_is lawful name n there none = by_number (global_number p name) refl
    where
      by_number : (o : Option ℕ) → global_number p name ≡ o → at (pointer_at name n o) ≡ (w.named name + n) % 2 ^ 32
      by_number (Some k) e = ap (λ a. (a + n) % 2 ^ 32) (named_site p w.named (global_site p w) name k (globals_named p w) e)
      by_number None e =
          let c = there e in
          let zero_offset = none c in
          let own = ap (λ (o : Option (List ℕ)). unwrap_or (option_map w.named o) 0) (function_found p name c) in
          let below = lawful.function_below name c in
          let start = lawful.stack_above in
          let limit = lawful.stack in
          let memory = lawful.memory in
          let small : w.named name + n < 2 ^ 32 = omega (arith, below, start, limit, memory, zero_offset) in
          let sum : w.named name ≡ w.named name + n = omega (arith, zero_offset) in
          own ∙ (sum ∙ sym (mod-eq_of_lt small))

  item_stands : (lawful : AreLawful p w) (i : Item) → ((name : List ℕ) → Has name (item_names i) → global_number p name ≡ None → Contains (names_of p) name) → IsItem p i
      → AllStandFor at (item_bytes p i) (lines.item_bytes w i)
  item_stands lawful (Bytes bytes) there ok = numbers_stand bytes
  item_stands lawful (Address name n) there ok =
      four (pointer_to p name n) ((w.named name + n) % 2 ^ 32) (pointer_is lawful name n (there name (inl refl)) ok)

  four_small : (word : ℕ) → AllByRecursion (λ b. b < 256) (to_be_bytes w32 word)
  four_small word = (omega arith, (omega arith, (omega arith, (omega arith, tt))))

  item_small : (i : Item) → IsItem p i → AllByRecursion (λ b. b < 256) (lines.item_bytes w i)
  item_small (Bytes bytes) ok = ok
  item_small (Address name n) ok = four_small ((w.named name + n) % 2 ^ 32)

  item_long : (i : Item) → length (lines.item_bytes w i) ≡ item_size i
  item_long (Bytes bytes) = refl
  item_long (Address name n) = refl

  items_outside : (a size free : ℕ) (items : List (ℕ × Item)) (f : ℕ → ℕ) (x : ℕ) → AreItems size free items → (x < a) ⊎ (a + size ≤ x) → lines.with_items w a items f x ≡ f x
  items_outside a size free [] f x are out = refl
  items_outside a size free (i ∷ items) f x are out =
      items_outside a size (i.0 + max 1 (item_size i.1)) items (lines.with_bytes (a + i.0) (lines.item_bytes w i.1) f) x are.1 out
      ∙ bytes_outside (a + i.0) (lines.item_bytes w i.1) f x (by_place out)
    where
      by_place : (x < a) ⊎ (a + size ≤ x) → (x < a + i.0) ⊎ (a + i.0 + length (lines.item_bytes w i.1) ≤ x)
      by_place (inl less) = inl (omega (arith, less))
      by_place (inr more) = inr (let long = item_long i.1 in let within = are.0.1 in omega (arith, more, long, within))

  items_stand : (lawful : AreLawful p w) (new_stand : NewBytesStand) (a size free : ℕ) (items : List (ℕ × Item)) (f : ℕ → ℕ) (bytes : List Byte) → AreItems size free items → length bytes ≡ size
      → ((i : ℕ × Item) → Has i items → (name : List ℕ) → Has name (item_names i.1) → global_number p name ≡ None → Contains (names_of p) name)
      → AllByRecursion (λ i. IsItem p i.1) items → BytesStand at f a bytes → BytesStand at (lines.with_items w a items f) a (with_items p items bytes)
  items_stand lawful new_stand a size free [] f bytes are long there ok h = h
  items_stand lawful new_stand a size free (i ∷ items) f bytes are long there ok h =
      let new = item_bytes p i.1 in
      let numbers = lines.item_bytes w i.1 in
      let stand : AllStandFor at new numbers = item_stands lawful i.1 (λ name has. there i (inl refl) name has) ok.0 in
      let asl = as_long at new numbers stand in
      let much = item_long i.1 in
      let within = are.0.1 in
      let after = lines.with_bytes (a + i.0) numbers f in
      items_stand lawful new_stand a size (i.0 + max 1 (item_size i.1)) items after (with_bytes new i.0 bytes) are.1
      (with_bytes_length p new i.0 bytes ∙ long) (λ j has. there j (inr has)) ok.1
      (new_stand at f after i.0 a new bytes (omega (arith, asl, much, within, long))
      (λ b out. bytes_outside (a + i.0) numbers f b (subst (λ (n : ℕ). (b < a + i.0) ⊎ (a + i.0 + n ≤ b)) asl out))
      (bytes_put_stand at (a + i.0) new numbers f stand) h)

  items_held : (a : ℕ) (items : List (ℕ × Item)) (f : ℕ → ℕ) → AllByRecursion (λ i. IsItem p i.1) items → HoldsBytes f → HoldsBytes (lines.with_items w a items f)
  items_held a [] f ok h = h
  items_held a (i ∷ items) f ok h = items_held a items (lines.with_bytes (a + i.0) (lines.item_bytes w i.1) f) ok.1 (bytes_held (a + i.0) (lines.item_bytes w i.1) f (item_small i.1 ok.0) h)

  -- ---- globals

  -- what is asked of one
  record IsFine (g : FlowGlobal) : Type 0 where
    items : AreItems g.size 0 g.items
    names : (i : ℕ × Item) → Has i g.items → (name : List ℕ) → Has name (item_names i.1) → global_number p name ≡ None → Contains (names_of p) name
    each : AllByRecursion (λ i. IsItem p i.1) g.items

  -- memory is zero in its bytes
  abbrev IsZero : (ℕ → ℕ) → FlowGlobal → Type 0
  IsZero f g = (x : ℕ) → w.named g.name ≤ x → x < w.named g.name + g.size → f x ≡ 0

  fits_room : (g : FlowGlobal) → g.size < global_room g
  fits_room g = omega arith

  zeros_stand : (a size : ℕ) (f : ℕ → ℕ) → ((x : ℕ) → a ≤ x → x < a + size → f x ≡ 0) → BytesStand at f a (replicate size (B.Num 0))
  zeros_stand a zero f all = tt
  zeros_stand a (suc size) f all = (all a (omega arith) (omega arith), zeros_stand (a + 1) size f (λ x least less. all x (omega (arith, least)) (omega (arith, less))))

  own_outside : (g h : FlowGlobal) (f : ℕ → ℕ) (x : ℕ) → IsFine g → Apart w g h → w.named h.name ≤ x → x < w.named h.name + h.size → lines.with_items w (w.named g.name) g.items f x ≡ f x
  own_outside g h f x fine apart least less =
      let one = fits_room g in
      let two = fits_room h in
      items_outside (w.named g.name) g.size 0 g.items f x fine.items (elim apart [
        | inl before ↦ inr (omega (arith, before, one, least))
        | inr behind ↦ inl (omega (arith, behind, two, less))
      ])

  -- the globals behind one leave its bytes
  rest_outside : (h : FlowGlobal) (gs : List FlowGlobal) (f : ℕ → ℕ) (x : ℕ) → AllByRecursion IsFine gs → AllByRecursion (λ g. Apart w h g) gs → w.named h.name ≤ x → x < w.named h.name + h.size
      → with_globals w gs f x ≡ f x
  rest_outside h [] f x fine apart least less = refl
  rest_outside h (g ∷ gs) f x fine apart least less =
      rest_outside h gs (lines.with_items w (w.named g.name) g.items f) x fine.1 apart.1 least less ∙ own_outside g h f x fine.0 (flip w h g apart.0) least less

  zeros_stay : (g : FlowGlobal) (gs : List FlowGlobal) (f : ℕ → ℕ) → IsFine g → AllByRecursion (λ h. Apart w g h) gs → AllByRecursion (IsZero f) gs
      → AllByRecursion (IsZero (lines.with_items w (w.named g.name) g.items f)) gs
  zeros_stay g [] f fine apart blank = tt
  zeros_stay g (h ∷ gs) f fine apart blank = (
    λ x least less. own_outside g h f x fine apart.0 least less ∙ blank.0 x least less,
    zeros_stay g gs f fine apart.1 blank.1,
  )

  module _ (lawful : AreLawful p w) (new_stand : NewBytesStand) (old_stand : OldBytesStand) where
    globals_stand : (gs : List FlowGlobal) (f : ℕ → ℕ) (k : ℕ) (g : FlowGlobal) → AllByRecursion IsFine gs → AllApart w gs → AllByRecursion (IsZero f) gs → slice_get gs k ≡ Some g
        → BytesStand at (with_globals w gs f) (w.named g.name) (object_of p g).bytes
    globals_stand [] f k g fine apart blank e = absurd cc
    globals_stand (h ∷ gs) f (suc k) g fine apart blank e =
        globals_stand gs (lines.with_items w (w.named h.name) h.items f) k g fine.1 apart.1 (zeros_stay h gs f fine.0 apart.0 blank.1) e
    globals_stand (h ∷ gs) f zero g fine apart blank e =
        let same : h ≡ g = cc in
        let own = lines.with_items w (w.named h.name) h.items f in
        subst (λ (x : FlowGlobal). BytesStand at (with_globals w gs own) (w.named x.name) (object_of p x).bytes) same
        (old_stand at own (with_globals w gs own) (w.named h.name) (object_of p h).bytes
        (λ b least less. rest_outside h gs own b fine.1 apart.0 least (let size = object_size p h in omega (arith, less, size)))
        (items_stand lawful new_stand (w.named h.name) h.size 0 h.items f (replicate h.size (B.Num 0)) fine.0.items (length-replicate h.size (B.Num 0)) fine.0.names fine.0.each
        (zeros_stand (w.named h.name) h.size f blank.0)))

  globals_held : (gs : List FlowGlobal) (f : ℕ → ℕ) → AllByRecursion IsFine gs → HoldsBytes f → HoldsBytes (with_globals w gs f)
  globals_held [] f fine h = h
  globals_held (g ∷ gs) f fine h = globals_held gs (lines.with_items w (w.named g.name) g.items f) fine.1 (items_held (w.named g.name) g.items f fine.0.each h)

  -- ---- those of a lawful program

  module _ (ok : IsProgram p) where
    name_there : (name : List ℕ) → Has name (names_of p ++ map (λ g. g.name) (globals_of p)) → global_number p name ≡ None → Contains (names_of p) name
    name_there name h none = by_part (has_split name (names_of p) (map (λ (x : FlowGlobal). x.name) (globals_of p)) h)
      where
        by_part : Has name (names_of p) ⊎ Has name (map (λ (x : FlowGlobal). x.name) (globals_of p)) → Contains (names_of p) name
        by_part (inl there) = contains_by name (names_of p) there
        by_part (inr there) = absurd (has_number p name (contains_by name (map (λ (x : FlowGlobal). x.name) (globals_of p)) there) none)

    module_of : (g : FlowGlobal) → Has g (globals_of p) → (m : FlowModule) × Has m p.modules × Has g m.globals
    module_of g there = has_flat_back (λ (m : FlowModule). m.globals) g p.modules there

    fine_one : (g : FlowGlobal) → Has g (globals_of p) → IsFine g
    fine_one g there =
        let m = module_of g there in
        record {
          items = (has_each IsGlobal m.0.globals g (has_each IsValid p.modules m.0 ok.modules m.1).parts.globals m.2).items;
          names = λ i has name named.
              let own = has_flat names_in_global g name m.0.globals m.2 (has_flat (λ (j : ℕ × Item). item_names j.1) i name g.items has named) in
              let all = has_flat named_in m.0 name p.modules m.1 (has_left name (flat_map names_in_global m.0.globals) (flat_map names_in_function m.0.functions) own) in
              name_there name
              (has_by name (names_of p ++ map (λ (x : FlowGlobal). x.name) (globals_of p)) (ok.defined name (contains_by name (flat_map named_in p.modules) all)));
          each = ok.items g (contains_by g (globals_of p) there);
        }

    fine_all : AllByRecursion IsFine (globals_of p)
    fine_all = each_by IsFine (globals_of p) fine_one

    pub memory_held : HoldsBytes (with_globals w (globals_of p) (λ a. 0))
    memory_held = globals_held (globals_of p) (λ a. 0) fine_all (λ a. omega arith)

    module _ (lawful : AreLawful p w) where
      all_apart : AllApart w (globals_of p)
      all_apart =
          apart_from w (globals_of p) (names_right (names_of p) (map (λ g. g.name) (globals_of p)) ok.names)
          (λ g h one two ne. lawful.apart g h (contains_by g (globals_of p) one) (contains_by h (globals_of p) two) ne)

      abbrev objects : List Object
      objects = start_objects p

      -- of an object that lives
      pub record IsOf (o : ℕ) : Type 0 where
        pub global : FlowGlobal
        pub there : slice_get (globals_of p) o ≡ Some global
        pub is : object_at objects o ≡ object_of p global
        pub size : size_of objects o ≡ global.size
        pub site : global_site p w o ≡ w.named global.name
        pub contains : Contains (globals_of p) global

      pub of_global : (o : ℕ) (g : FlowGlobal) → slice_get (globals_of p) o ≡ Some g → IsOf o
      of_global o g e =
          let is = object_there p (globals_of p) o g e in
          record {
            global = g;
            there = e;
            is = is;
            size = ap (λ (x : Object). length x.bytes) is ∙ object_size p g;
            site = ap (named_by w) e;
            contains = contains_by g (globals_of p) (has_got (globals_of p) o g e);
          }

      pub of_life : (o : ℕ) → Lives objects o → IsOf o
      of_life o lives = let g = lives_there p (globals_of p) o lives in of_global o g.0 g.1

      pub lives_at : (o : ℕ) (g : FlowGlobal) → slice_get (globals_of p) o ≡ Some g → Lives objects o
      lives_at o g e = ap (λ (x : Object). x.live) (object_there p (globals_of p) o g e)

      pub start_below : (o : ℕ) → Lives objects o → global_site p w o + size_of objects o + 64 < w.base
      start_below o lives =
          let g = of_life o lives in
          let size = g.size in
          let site = g.site in
          let below = lawful.below g.global g.contains in
          let room = fits_room g.global in
          omega (arith, size, site, below, room)

      pub start_laid : AreLaid p w (global_site p w) objects
      start_laid = record {
        named = globals_named p w;
        live = lives_at;
        size = λ n g e. ap (λ (x : Object). length x.bytes) (object_there p (globals_of p) n g e) ∙ object_size p g;
        aligned = λ o lives. let g = of_life o lives in ap (λ a. a % 8) g.site ∙ lawful.aligned g.global g.contains;
        above = λ o lives. let g = of_life o lives in subst (λ a. w.data_start ≤ a) (sym g.site) (lawful.above g.global g.contains);
        below = λ o lives. let below = start_below o lives in let limit = lawful.stack in omega (arith, below, limit);
        apart = λ o q one two ne.
            let g = of_life o one in
            let h = of_life q two in
            let gs = g.size in
            let hs = h.size in
            let ga = g.site in
            let ha = h.site in
            let gr = fits_room g.global in
            let hr = fits_room h.global in
            elim (apart_at w (globals_of p) o q g.global h.global all_apart g.there h.there ne) [
              | inl before ↦ inl (omega (arith, before, gs, hs, ga, ha, gr, hr))
              | inr behind ↦ inr (omega (arith, behind, gs, hs, ga, ha, gr, hr))
            ];
      }

      pub start_bytes : NewBytesStand → OldBytesStand → BytesAreThere at (global_site p w) objects (with_globals w (globals_of p) (λ a. 0))
      start_bytes new_stand old_stand o lives =
          let g = of_life o lives in
          let there = globals_stand lawful new_stand old_stand (globals_of p) (λ a. 0) o g.global fine_all all_apart (each_by (IsZero (λ a. 0)) (globals_of p) (λ h has. λ x least less. refl)) g.there in
          subst (λ (x : Object). BytesStand at (with_globals w (globals_of p) (λ a. 0)) (global_site p w o) x.bytes) (sym g.is)
          (subst (λ (a : ℕ). BytesStand at (with_globals w (globals_of p) (λ a. 0)) a (object_of p g.global).bytes) (sym g.site) there)
