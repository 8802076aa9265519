-- Globals: that both runs number them alike, and that a load or store of one is of its own kind.
use Rattle.std.proofs.Common.{◌≡◌, ℕ, ◌+◌, ◌==◌, inl, inr, Bool, true, false, not, ◌||◌, cond, decimal, nat_lt, if◌then◌else◌, Option, Some, None, option_map, option_and_then, unwrap_or, List, [], ◌∷◌, ◌++◌, map, position, slice_get, refl, ap, ap₂, sym, ◌∙◌}
use Rattle.std.specs.Prelude.{bytes_eq}
use Rattle.std.specs.List.{flat_map, prefix_len}
use Rattle.std.specs.Option.{option_map_or}
use Rattle.std.proofs.lemmas.List.{length-map, map-append}
use Rattle.pw_value.specs.declared.value.Kind.{Kind}
use Rattle.pw_value.specs.declared.value.Kind.TheVariants.{S8, U8, S16, U16, W32}
use Rattle.pw_value.specs.Shapes.{Agree}
use Rattle.pw_types.specs.TypeTrees.{CType, Void, Int, Pointer, Array, Function, Record, Qualified, type_of, RecordValue, ContentValue}
use Rattle.pw_types.specs.declared.kind.IntKind.{IntKind}
use Rattle.pw_types.specs.declared.kind.IntKind.TheVariants as K
use Rattle.pw_types.specs.declared.record.RecordKind.{RecordKind}
use Rattle.pw_types.specs.declared.record.RecordKind.TheVariants.{Structure, Union}
use Rattle.pw_types.specs.Records.{IsLaid, Follows, kind_at}
use Rattle.pw_types.specs.Shapes.{letter_of_kind, letter_of, letters_of, marked, shape_of, shape_of_record, unknown_shape, record_shape, member_shapes}
use Rattle.pw_types.specs.FullNames.{full_name}
use Rattle.pw_types.specs.TypedTrees.{GlobalValue}
use Rattle.pw_lower.specs.Operators.{kind_of, kind_of_int}
use Rattle.pw_lower.specs.Modules.{lowered, lowered_global}
use Rattle.pw_flow.specs.declared.flow.FlowGlobal.{FlowGlobal}
use Rattle.pw_cmean.specs.Worlds as source
use Rattle.pw_cmean.specs.Worlds.{ProgramModule, World}
use Rattle.pw_run_languages.specs.Programs as flow
use Rattle.pw_run_languages.specs.Programs.{globals_of}
use Rattle.pw_law_refine.specs.Activations.{graphs}

-- ---- numbers

own-names : (home : List ℕ) (records : List RecordValue) (gs : List GlobalValue)
    → map (λ (g : FlowGlobal). g.name) (map (lowered_global home records) gs) ≡ map (λ (g : GlobalValue). full_name home g.name) gs
own-names home records [] = refl
own-names home records (g ∷ rest) = ap (λ (l : List (List ℕ)). full_name home g.name ∷ l) (own-names home records rest)

all-names : (modules : List ProgramModule)
    → map (λ (g : FlowGlobal). g.name) (flat_map (λ m. m.globals) (map (λ (m : ProgramModule). lowered m.name m.tree) modules))
    ≡ flat_map (λ (m : ProgramModule). map (λ (g : GlobalValue). full_name m.name g.name) m.tree.globals) modules
unfolding lowered
all-names [] = refl
all-names (m ∷ rest) =
    map-append (λ (g : FlowGlobal). g.name) (map (lowered_global m.name m.tree.records) m.tree.globals) (flat_map (λ m. m.globals) (map (λ (m : ProgramModule). lowered m.name m.tree) rest))
    ∙ ap₂ (λ (u v : List (List ℕ)). u ++ v) (own-names m.name m.tree.records m.tree.globals) (all-names rest)

prefix-over : {A B : Type 0} (t : B → Bool) (f : A → B) (xs : List A) → prefix_len (λ x. not (t (f x))) xs ≡ prefix_len (λ y. not (t y)) (map f xs)
prefix-over t f [] = refl
prefix-over t f (x ∷ xs) = ap (λ (n : ℕ). cond (not (t (f x))) (1 + n) 0) (prefix-over t f xs)

position-over : {A B : Type 0} (t : B → Bool) (f : A → B) (xs : List A) → position (λ x. t (f x)) xs ≡ position t (map f xs)
position-over t f xs = ap₂ (λ (n k : ℕ). cond (nat_lt n k) (Some n) None) (prefix-over t f xs) (sym (length-map xs f))

-- an object of static lifetime has one number
pub same-number : (world : World) (name : List ℕ) → flow.global_number (graphs world) name ≡ source.global_number world.program name
same-number world name =
    position-over (λ (other : List ℕ). bytes_eq other name) (λ (g : FlowGlobal). g.name) (globals_of (graphs world))
    ∙ ap (λ (l : List (List ℕ)). position (λ (other : List ℕ). bytes_eq other name) l) (all-names world.program.modules)

-- ---- kinds by shapes

kind_letter : ℕ → Option Kind
kind_letter n =
    if n == 99 then Some S8 else
    if n == 97 then Some S8 else
    if n == 104 then Some U8 else
    if n == 115 then Some S16 else
    if n == 116 then Some U16 else
    if n == 105 then Some W32 else
    if n == 106 then Some W32 else
    if n == 108 then Some W32 else
    if n == 109 then Some W32 else
    if n == 112 then Some W32 else None

-- the kind of a scalar, by its shape
pub kind_shape : List ℕ → Option Kind
kind_shape [] = None
kind_shape (a ∷ []) = kind_letter a
kind_shape (a ∷ b ∷ []) = if a == 33 then kind_letter b else None
kind_shape (a ∷ b ∷ c ∷ rest) = None

kind-marked : (v : Bool) (letter : ℕ) → kind_shape (marked v letter) ≡ kind_letter letter
unfolding kind_shape
kind-marked true letter = refl
kind-marked false letter = refl

letter-kind : (k : IntKind) → kind_letter (letter_of_kind k) ≡ Some (kind_of_int k)
unfolding kind_letter
letter-kind K.Char = refl
letter-kind K.SChar = refl
letter-kind K.UChar = refl
letter-kind K.Short = refl
letter-kind K.UShort = refl
letter-kind K.Int = refl
letter-kind K.UInt = refl
letter-kind K.Long = refl
letter-kind K.ULong = refl

-- a shape that begins with a byte of no scalar
begins-91 : (rest : List ℕ) → kind_shape (91 ∷ rest) ≡ None
unfolding kind_shape kind_letter
begins-91 [] = refl
begins-91 (b ∷ []) = refl
begins-91 (b ∷ c ∷ rest) = refl

begins-60 : (rest : List ℕ) → kind_shape (60 ∷ rest) ≡ None
unfolding kind_shape kind_letter
begins-60 [] = refl
begins-60 (b ∷ []) = refl
begins-60 (b ∷ c ∷ rest) = refl

pub begins-102 : (rest : List ℕ) → kind_shape (102 ∷ rest) ≡ None
unfolding kind_shape kind_letter
begins-102 [] = refl
begins-102 (b ∷ []) = refl
begins-102 (b ∷ c ∷ rest) = refl

begins-123 : (rest : List ℕ) → kind_shape (123 ∷ rest) ≡ None
unfolding kind_shape kind_letter
begins-123 [] = refl
begins-123 (b ∷ []) = refl
begins-123 (b ∷ c ∷ rest) = refl

record-unknown : (kind : RecordKind) → kind_shape (unknown_shape kind) ≡ None
record-unknown Structure = begins-123 (125 ∷ [])
record-unknown Union = begins-60 (62 ∷ [])

known-record : (kind : RecordKind) (size : ℕ) (members shape : List ℕ) → shape ≡ record_shape kind size members → kind_shape shape ≡ None
known-record Structure size members shape e = ap kind_shape e ∙ begins-123 (decimal size ++ 58 ∷ (members ++ 125 ∷ []))
known-record Union size members shape e = ap kind_shape e ∙ begins-60 (decimal size ++ 58 ∷ (members ++ 62 ∷ []))

content-kind : (records : List RecordValue) (kind : RecordKind) (content : Option ContentValue) → ((c : ContentValue) → content ≡ Some c → Follows records kind c)
    → (own : RecordKind) → kind_shape (option_map_or (λ c. c.shape) content (unknown_shape own)) ≡ None
content-kind records kind None laid own = record-unknown own
content-kind records kind (Some c) laid own =
    let f = laid c refl in known-record kind c.layout.size (member_shapes records c.members) c.shape f.shaped

record-kind : (records : List RecordValue) (number : ℕ) (r : Option RecordValue) → slice_get records number ≡ r → IsLaid records
    → kind_shape (unwrap_or (option_map shape_of_record r) []) ≡ None
unfolding kind_shape
record-kind records number None e laid = refl
record-kind records number (Some r) e laid =
    content-kind records (kind_at records number) r.content (λ c has. laid number c (ap (λ (o : Option RecordValue). option_and_then (λ s. s.content) o) e ∙ has)) r.kind

-- the shape of a type tells its kind
pub shape-kind : (records : List RecordValue) (ty : CType) (v : Bool) → IsLaid records → kind_shape (shape_of records ty v) ≡ kind_of ty
unfolding kind_letter
shape-kind records Void v laid = kind-marked v 118
shape-kind records (Int k) v laid = kind-marked v (letter_of_kind k) ∙ letter-kind k
shape-kind records (Pointer q) v laid = kind-marked v 112
shape-kind records (Array (Qualified ty c inner) None) v laid = begins-91 (93 ∷ shape_of records ty (v || inner))
shape-kind records (Array (Qualified ty c inner) (Some count)) v laid = begins-91 ((decimal count ++ 93 ∷ []) ++ shape_of records ty (v || inner))
shape-kind records (Function r ps) v laid = begins-102 (letter_of (type_of r) ∷ letters_of ps)
shape-kind records (Record number) v laid = record-kind records number (slice_get records number) refl laid

pub agree-kinds : (a b : List ℕ) → Agree a b → kind_shape a ≡ kind_shape b
agree-kinds a b (inl e) = ap kind_shape e
agree-kinds a b (inr (inl g)) = ap kind_shape g.2.0 ∙ begins-91 (93 ∷ g.0) ∙ sym (ap kind_shape g.2.1 ∙ begins-91 g.1)
agree-kinds a b (inr (inr g)) = ap kind_shape g.2.1 ∙ begins-91 g.1 ∙ sym (ap kind_shape g.2.0 ∙ begins-91 (93 ∷ g.0))

-- two types whose shapes agree have one kind
pub kinds-agree : (r s : List RecordValue) (a b : CType) (v w : Bool) → IsLaid r → IsLaid s → Agree (shape_of r a v) (shape_of s b w) → kind_of a ≡ kind_of b
kinds-agree r s a b v w lr ls agree = sym (shape-kind r a v lr) ∙ agree-kinds (shape_of r a v) (shape_of s b w) agree ∙ shape-kind s b w ls
