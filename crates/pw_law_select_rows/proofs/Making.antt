-- Constants and addresses in registers.
use Rattle.std.proofs.Common.{ℕ, ℤ, suc, ◌≡◌, ◌≢◌, ◌+◌, ◌*◌, ◌%◌, ◌^◌, ◌<◌, refl, ap, ◌∙◌, arith, Bool, true, false, true≢false, ◌&&◌, if◌then◌else◌, Option, Some, None, List, [], ◌∷◌, ◌++◌}
use Rattle.std.specs.Prelude.{pos, ◌==◌, nat_lt, count_by, Contains}
use Rattle.std.specs.Str.{bytes_eq}
use Rattle.std.specs.Int.{w32, cast_signed}
use Rattle.std.specs.List.{flat_map}
use Rattle.std.proofs.lemmas.Bool.{ne_eqb, eq-eqb}
use Rattle.std.proofs.lemmas.Int.{ints, of_z-to_z}
use Rattle.pw_inst.specs.declared.Inst.{Inst}
use Rattle.pw_inst.specs.declared.Inst.TheVariants.{Ldil, Ldo}
use Rattle.pw_inst.specs.Computing.{offset_by}
use Rattle.pw_inst.specs.Setting.{left_part, right_part}
use Rattle.pw_inst.specs.declared.relocation.FixKind.{FixKind}
use Rattle.pw_inst.specs.declared.relocation.FixKind.TheVariants as kind
use Rattle.pw_inst.specs.declared.relocation.Symbol.{Symbol}
use Rattle.pw_delay.specs.declared.items.Word.{Word}
use Rattle.pw_delay.specs.Items.{bare}
use Rattle.pw_flow.specs.declared.flow.FlowGlobal.{FlowGlobal}
use Rattle.pw_law_select_memory.specs.FromRunLanguages.Traces.{Event, Loaded, Stored, touches}
use Rattle.pw_law_select_memory.specs.FromRunLanguages.Programs.{globals_of}
use Rattle.pw_law_select_memory.specs.FromRunLanguages.Addresses.{Addresses}
use Rattle.pw_law_select_memory.specs.FromRunLanguages.Acts.{Core, Act, Acts, acts, executed, register, put, with_register, with_address, settled, symbol_address, loaded_at, stored_at}
use Rattle.pw_law_select_memory.specs.FromRunLanguages.LineRun.{LineProgram, accesses}
use Rattle.pw_select_lines.specs.Registers.{word, constant, long_constant, address_of, is_near}
use Rattle.pw_law_select_rows.specs.Straight.{act_then, ran, noted_by, noted, words_of}
use Rattle.pw_law_select_rows.specs.Making.{Puts, Makes}

-- ---- registers

put_same : (d v : ℕ) (f : ℕ → ℕ) → put d v f d ≡ v
put_same d v f = ap (λ (t : Bool). if t then v else f d) (eq-eqb d d refl)

put_other : (d v r : ℕ) (f : ℕ → ℕ) → r ≢ d → put d v f r ≡ f r
put_other d v r f ne = ap (λ (t : Bool). if t then v else f r) (ne_eqb r d ne)

pub puts_word : (d v : ℕ) (c : Core) → d ≢ 0 → c.skip ≡ false → Puts d v c (with_register d v c)
puts_word d v c some skip = by_test (d == 0) (ne_eqb d 0 some)
  where
    by_test : (t : Bool) → t ≡ false → Puts d v c (if t then c else record c { registers = put d v c.registers })
    by_test true e = absurd (true≢false e)
    by_test false e = record {
      value = ap (λ (t : Bool). if t then 0 else put d v c.registers d) (ne_eqb d 0 some) ∙ put_same d v c.registers;
      others = λ r ne. ap (λ x. if r == 0 then 0 else x) (put_other d v r c.registers ne);
      memory = refl;
      shift = refl;
      skip = skip;
    }

-- one after the other into the same register
puts_again : (d v n : ℕ) (c e f : Core) → Puts d v c e → Puts d n e f → Puts d n c f
puts_again d v n c e f one two = record {
  value = two.value;
  others = λ r ne. two.others r ne ∙ one.others r ne;
  memory = two.memory ∙ one.memory;
  shift = two.shift ∙ one.shift;
  skip = two.skip;
}

-- ---- single words

pub word_acts : (w : Addresses) (x : Inst) (c : Core) → c.skip ≡ false → acts w (Some x) c ≡ executed w x c
word_acts w x c skip = ap (λ (t : Bool). if t then Acts (record c { skip = false }) else executed w x c) skip

-- what is noted of a global, by what is loaded and what is stored
abbrev notes_of : LineProgram → Addresses → Option (ℕ × ℕ) → Option (ℕ × ℕ) → FlowGlobal → List (Event ℕ ℕ)
notes_of p w loads stores g =
    (if nat_lt 0 (count_by (bytes_eq g.name) p.eligible) && touches loads (w.named g.name) g.size then Loaded g.name ∷ [] else [])
    ++ (if nat_lt 0 (count_by (bytes_eq g.name) p.eligible) && touches stores (w.named g.name) g.size then Stored g.name ∷ [] else [])

-- nothing is noted of a global that is not touched
untouched : (t loads stores : Bool) (x y : Event ℕ ℕ) → loads ≡ false → stores ≡ false
    → (if t && loads then x ∷ [] else []) ++ (if t && stores then y ∷ [] else []) ≡ []
untouched true true stores x y e f = absurd (true≢false e)
untouched true false true x y e f = absurd (true≢false f)
untouched true false false x y e f = refl
untouched false loads stores x y e f = refl

first_there : (g : FlowGlobal) (gs : List FlowGlobal) → Contains (g ∷ gs) g
first_there g gs = (0, omega arith, refl)

later_there : (g k : FlowGlobal) (gs : List FlowGlobal) → Contains gs k → Contains (g ∷ gs) k
later_there g k gs c = (suc c.0, omega (arith, c.1), c.2)

none_of_all : (p : LineProgram) (w : Addresses) (loads stores : Option (ℕ × ℕ)) (gs : List FlowGlobal)
    → ((g : FlowGlobal) → Contains gs g → (touches loads (w.named g.name) g.size ≡ false) × (touches stores (w.named g.name) g.size ≡ false))
    → flat_map (notes_of p w loads stores) gs ≡ []
none_of_all p w loads stores [] h = refl
none_of_all p w loads stores (g ∷ gs) h =
    let both = h g (first_there g gs) in
    ap (λ (l : List (Event ℕ ℕ)). l ++ flat_map (notes_of p w loads stores) gs)
    (untouched (nat_lt 0 (count_by (bytes_eq g.name) p.eligible)) (touches loads (w.named g.name) g.size) (touches stores (w.named g.name) g.size) (Loaded g.name) (Stored g.name) both.0 both.1)
    ∙ none_of_all p w loads stores gs (λ k there. h k (later_there g k gs there))

pub untouched_noted : (p : LineProgram) (w : Addresses) (x : Inst) (c : Core) (loads stores : Option (ℕ × ℕ)) → loaded_at x c ≡ loads → stored_at x c ≡ stores
    → ((g : FlowGlobal) → Contains (globals_of p.flow) g → (touches loads (w.named g.name) g.size ≡ false) × (touches stores (w.named g.name) g.size ≡ false))
    → accesses p w (Some x) c ≡ []
untouched_noted p w x c loads stores is also h = by_test c.skip all
  where
    all : flat_map (notes_of p w (loaded_at x c) (stored_at x c)) (globals_of p.flow) ≡ []
    all =
        ap (λ (o : Option (ℕ × ℕ)). flat_map (notes_of p w o (stored_at x c)) (globals_of p.flow)) is
        ∙ (ap (λ (o : Option (ℕ × ℕ)). flat_map (notes_of p w loads o) (globals_of p.flow)) also ∙ none_of_all p w loads stores (globals_of p.flow) h)

    by_test : (t : Bool) → flat_map (notes_of p w (loaded_at x c) (stored_at x c)) (globals_of p.flow) ≡ []
        → (if t then [] else flat_map (notes_of p w (loaded_at x c) (stored_at x c)) (globals_of p.flow)) ≡ []
    by_test true e = refl
    by_test false e = e

pub nothing_noted : (p : LineProgram) (w : Addresses) (x : Inst) (c : Core) → loaded_at x c ≡ None → stored_at x c ≡ None → accesses p w (Some x) c ≡ []
nothing_noted p w x c loads stores = untouched_noted p w x c None None loads stores (λ g there. (refl, refl))

-- ---- rows of words that put

-- a word with a relocation, and what it is with the address of the symbol
abbrev fixed : Inst → FixKind → Symbol → ℕ → Word
fixed x k s n = record { inst = x; relocation = Some (record { kind = k; symbol = s; addend = n }) }

abbrev settled_by : FixKind → Inst → ℕ → Option ℕ → Option Inst
settled_by k x n (Some a) = with_address k ((a + n) % 2 ^ 32) x
settled_by k x n None = None

same_some : (a b : ℕ) → Some a ≡ Some b → a ≡ b
same_some a b e = cc

-- a word that puts, by the instruction in it
pub record IsPut (p : LineProgram) (w : Addresses) (x : Word) (d n : ℕ) (c : Core) : Type 0 where
  pub inst : Inst
  pub is : settled w x ≡ Some inst
  pub does : executed w inst c ≡ Acts (with_register d n c)
  pub loads : loaded_at inst c ≡ None
  pub stores : stored_at inst c ≡ None

-- the first word puts, and the others go on from there
pub more_makes : (p : LineProgram) (w : Addresses) (x : Word) (xs : List Word) (d v n : ℕ) (c : Core) → d ≢ 0 → c.skip ≡ false
    → IsPut p w x d v c → Makes p w xs d n (with_register d v c) → Makes p w (x ∷ xs) d n c
more_makes p w x xs d v n c some skip h k =
    let e : acts w (settled w x) c ≡ Acts (with_register d v c) = ap (λ (o : Option Inst). acts w o c) h.is ∙ (word_acts w h.inst c skip ∙ h.does) in
    let q : accesses p w (settled w x) c ≡ [] = ap (λ (o : Option Inst). accesses p w o c) h.is ∙ nothing_noted p w h.inst c h.loads h.stores in
    record {
      core = k.core;
      acts = ap (λ (a : Act). act_then a (ran w xs)) e ∙ k.acts;
      puts = puts_again d v n c (with_register d v c) k.core (puts_word d v c some skip) k.puts;
      quiet = λ log.
          ap (λ (a : Act). noted_by a (λ d. noted p w xs d (accesses p w (settled w x) c ++ log))) e
          ∙ (ap (λ (l : List (Event ℕ ℕ)). noted p w xs (with_register d v c) (l ++ log)) q ∙ k.quiet log);
    }

pub one_makes : (p : LineProgram) (w : Addresses) (x : Word) (d n : ℕ) (c : Core) → d ≢ 0 → c.skip ≡ false → IsPut p w x d n c → Makes p w (x ∷ []) d n c
one_makes p w x d n c some skip h =
    let e : acts w (settled w x) c ≡ Acts (with_register d n c) = ap (λ (o : Option Inst). acts w o c) h.is ∙ (word_acts w h.inst c skip ∙ h.does) in
    let q : accesses p w (settled w x) c ≡ [] = ap (λ (o : Option Inst). accesses p w o c) h.is ∙ nothing_noted p w h.inst c h.loads h.stores in
    record {
      core = with_register d n c;
      acts = ap (λ (a : Act). act_then a (ran w [])) e;
      puts = puts_word d n c some skip;
      quiet = λ log.
          ap (λ (a : Act). noted_by a (λ d. noted p w [] d (accesses p w (settled w x) c ++ log))) e
          ∙ ap (λ (l : List (Event ℕ ℕ)). l ++ log) q;
    }

-- a sum of a register and a displacement, and LDIL
sum_puts : (p : LineProgram) (w : Addresses) (x : Word) (im : ℤ) (b d n : ℕ) (c : Core) → settled w x ≡ Some (Ldo im b d)
    → offset_by (register c b) im ≡ n → IsPut p w x d n c
sum_puts p w x im b d n c is e =
    record { inst = Ldo im b d; is = is; does = ap (λ v. Acts (with_register d v c)) e; loads = refl; stores = refl }

left_puts : (p : LineProgram) (w : Addresses) (x : Word) (im d : ℕ) (c : Core) → settled w x ≡ Some (Ldil im d) → IsPut p w x d (im * 2048) c
left_puts p w x im d c is = record { inst = Ldil im d; is = is; does = refl; loads = refl; stores = refl }

-- a word from its left and right parts
whole : (n : ℕ) → n < 2 ^ 32 → offset_by (left_part n * 2048) (pos (right_part n)) ≡ n
whole n small = omega (arith, ints, small)

two_parts : (p : LineProgram) (w : Addresses) (x y : Word) (n d : ℕ) (c : Core) → n < 2 ^ 32 → d ≢ 0 → c.skip ≡ false
    → settled w x ≡ Some (Ldil (left_part n) d) → settled w y ≡ Some (Ldo (pos (right_part n)) d d) → Makes p w (x ∷ y ∷ []) d n c
two_parts p w x y n d c small some skip first second =
    let v = left_part n * 2048 in
    let mid = with_register d v c in
    let puts = puts_word d v c some skip in
    let e : offset_by (register mid d) (pos (right_part n)) ≡ n = ap (λ a. offset_by a (pos (right_part n))) puts.value ∙ whole n small in
    more_makes p w x (y ∷ []) d v n c some skip (left_puts p w x (left_part n) d c first)
    (one_makes p w y d n mid some puts.skip (sum_puts p w y (pos (right_part n)) d d n mid second e))

pub constant_made : (p : LineProgram) (w : Addresses) (n d : ℕ) (c : Core) → n < 2 ^ 32 → d ≢ 0 → c.skip ≡ false → Makes p w (words_of (constant n d)) d n c
constant_made p w n d c small some skip = by_test (is_near (cast_signed w32 n))
  where
    near : offset_by 0 (cast_signed w32 n) ≡ n
    near = ap (λ v. (0 + v) % 2 ^ 32) (of_z-to_z w32 n small) ∙ (let e : (0 + n) % 2 ^ 32 ≡ n = omega (arith, small) in e)

    by_test : (t : Bool) → Makes p w (words_of (if t then word (Ldo (cast_signed w32 n) 0 d) else long_constant n d)) d n c
    by_test true =
        let x = bare (Ldo (cast_signed w32 n) 0 d) in
        one_makes p w x d n c some skip (sum_puts p w x (cast_signed w32 n) 0 d n c refl near)
    by_test false = two_parts p w (bare (Ldil (left_part n) d)) (bare (Ldo (pos (right_part n)) d d)) n d c small some skip refl refl

pub address_made : (p : LineProgram) (w : Addresses) (s : Symbol) (a n d : ℕ) (c : Core) → symbol_address w s ≡ Some a → d ≢ 0 → c.skip ≡ false
    → Makes p w (words_of (address_of s n d)) d ((a + n) % 2 ^ 32) c
address_made p w s a n d c is some skip =
    two_parts p w (fixed (Ldil 0 d) kind.Ldil s n) (fixed (Ldo (pos 0) d d) kind.Im14 s n) ((a + n) % 2 ^ 32) d c (omega arith) some skip
    (left (symbol_address w s) is) (right (symbol_address w s) is)
  where
    left : (o : Option ℕ) → o ≡ Some a → settled_by kind.Ldil (Ldil 0 d) n o ≡ Some (Ldil (left_part ((a + n) % 2 ^ 32)) d)
    left None e = absurd cc
    left (Some b) e = ap (λ v. Some (Ldil (left_part ((v + n) % 2 ^ 32)) d)) (same_some b a e)

    right : (o : Option ℕ) → o ≡ Some a → settled_by kind.Im14 (Ldo (pos 0) d d) n o ≡ Some (Ldo (pos (right_part ((a + n) % 2 ^ 32))) d d)
    right None e = absurd cc
    right (Some b) e = ap (λ v. Some (Ldo (pos (right_part ((v + n) % 2 ^ 32))) d d)) (same_some b a e)
