-- Loops over the bytes of an input: what was read, with what is left, is what stood there.
use Rattle.std.proofs.Common.{◌≡◌, ◌≢◌, ℕ, zero, suc, ◌+◌, ◌-◌, ◌<◌, ◌==◌, Bool, true, false, cond, List, [], ◌∷◌, ◌++◌, length, Option, Some, None, Result, Ok, Err, refl, sym, ap, ◌∙◌, subst, append_assoc, append-nil, arith, length-append}
use Rattle.std.proofs.lemmas.Bool.Decides.{nat_tests}
use Rattle.std.specs.Prelude.{IfOk, IfSome, IsSomeAnd, option_map, Vec}
use Rattle.std.specs.declared.alloc.Global.{Global}
use Rattle.pw_io.specs.declared.Failed.{Failed}
use Rattle.pw_io.specs.Streams.{TakesNext}
use Rattle.pw_session_script.specs.declared.line.Line.{Line}
use Rattle.pw_session_script.specs.declared.line.TakenLine.{TakenLine}
use Rattle.pw_session_script.specs.declared.line.ScriptFault.{ScriptFault}
use Rattle.pw_session_script.specs.declared.line.ScriptFault.TheVariants.{BadLine, ReadFault, NoMemory}
use Rattle.pw_session_script.specs.Script.{Command, PutFile, RemoveFile, BuildAll, RunWith, LineValue, PutText, RunProgram, before_rest, by_line, content_length, content_of, line_limit, line_within, newline_byte, with_content}
use Rattle.pw_session_script.specs.Reading.{EndsHead, IsReadInPart, ReadsBehind, ReadsCommand, ReadsContent, ReadsHead, ReadsLine, ReadsTaken, ScriptCount, line_view}

-- bytes that were read, before a cut of what is left
abbrev pub behind_read : List ℕ → Option (List ℕ × List ℕ) → Option (List ℕ × List ℕ)
behind_read read None = None
behind_read read (Some cut) = Some (read ++ cut.0, cut.1)

behind_nothing : (r : Option (List ℕ × List ℕ)) → behind_read [] r ≡ r
behind_nothing None = refl
behind_nothing (Some cut) = refl

behind_more : (read : List ℕ) (byte : ℕ) (r : Option (List ℕ × List ℕ)) → behind_read (read ++ byte ∷ []) r ≡ behind_read read (before_rest byte r)
behind_more read byte None = refl
behind_more read byte (Some cut) = ap (λ (xs : List ℕ). Some (xs, cut.1)) (append_assoc read (byte ∷ []) cut.0)

-- ---- the line of a command

pub record HeadSoFar (rest left head : List ℕ) (place : ℕ) : Type 0 where
  pub read : rest ≡ head ++ left
  pub cut : behind_read head (line_within (line_limit - place) left) ≡ line_within line_limit rest
  pub count : length head ≡ place

abbrev pub HeadAt : Option (List ℕ) → Option (List ℕ) → List ℕ → ℕ → Type 0
HeadAt first now head place = IfSome first (λ rest. IsSomeAnd now (λ left. HeadSoFar rest left head place))

pub head_start : (first : Option (List ℕ)) (head : List ℕ) → head ≡ [] → HeadAt first first head 0
head_start None head e = tt
head_start (Some rest) head e = subst (λ (h : List ℕ). HeadSoFar rest rest h 0) (sym e) (record { read = refl; cut = behind_nothing (line_within line_limit rest); count = refl })

is_newline : (byte : ℕ) → (byte == newline_byte) ≡ true → byte ≡ newline_byte
is_newline byte e = grind (arith, nat_tests, e)

not_newline : (byte : ℕ) (xs : Option (List ℕ × List ℕ)) (left : List ℕ) → byte ≢ newline_byte → cond (byte == newline_byte) (Some ([], left)) (before_rest byte xs) ≡ before_rest byte xs
not_newline byte xs left h = by_test (byte == newline_byte) refl
  where
    by_test : (r : Bool) → (byte == newline_byte) ≡ r → cond r (Some ([], left)) (before_rest byte xs) ≡ before_rest byte xs
    by_test true e = absurd (h (is_newline byte e))
    by_test false e = refl

within_next : (n m byte : ℕ) (later : List ℕ) → n ≡ suc m → byte ≢ newline_byte → line_within n (byte ∷ later) ≡ before_rest byte (line_within m later)
within_next n m byte later e h = ap (λ (k : ℕ). line_within k (byte ∷ later)) e ∙ not_newline byte (line_within m later) later h

within_end : (n m : ℕ) (later : List ℕ) → n ≡ suc m → line_within n (newline_byte ∷ later) ≡ Some ([], later)
within_end n m later e = ap (λ (k : ℕ). line_within k (newline_byte ∷ later)) e

within_none : (n : ℕ) → line_within n [] ≡ None
within_none zero = refl
within_none (suc n) = refl

turn_told : (rest left later head head' : List ℕ) (place byte : ℕ) → HeadSoFar rest left head place → left ≡ byte ∷ later → byte ≢ newline_byte → place < line_limit → head' ≡ head ++ byte ∷ [] → HeadSoFar rest later head' (place + 1)
turn_told rest left later head head' place byte inv e h few e' =
    let n : line_limit - place ≡ suc (line_limit - (place + 1)) = omega (arith, few) in
    record {
      read = inv.read ∙ ap (λ (xs : List ℕ). head ++ xs) e ∙ sym (append_assoc head (byte ∷ []) later) ∙ ap (λ (xs : List ℕ). xs ++ later) (sym e');
      cut = ap (λ (xs : List ℕ). behind_read xs (line_within (line_limit - (place + 1)) later)) e' ∙ behind_more head byte (line_within (line_limit - (place + 1)) later)
          ∙ ap (behind_read head) (sym (within_next (line_limit - place) (line_limit - (place + 1)) byte later n h))
          ∙ ap (λ (xs : List ℕ). behind_read head (line_within (line_limit - place) xs)) (sym e) ∙ inv.cut;
      count = let l = ap length e' ∙ length-append head (byte ∷ []) in omega (arith, l, inv.count);
    }

next_told : (rest head head' : List ℕ) (place byte : ℕ) (now new : Option (List ℕ)) → IsSomeAnd now (λ left. HeadSoFar rest left head place) → TakesNext now new (Ok (Some byte)) → byte ≢ newline_byte → place < line_limit → head' ≡ head ++ byte ∷ []
    → IsSomeAnd new (λ left. HeadSoFar rest left head' (place + 1))
next_told rest head head' place byte None new inv takes h few e = absurd inv
next_told rest head head' place byte (Some left) None inv takes h few e = absurd takes
next_told rest head head' place byte (Some left) (Some later) inv takes h few e = turn_told rest left later head head' place byte inv takes h few e

pub head_turn : (first now new : Option (List ℕ)) (head head' : List ℕ) (place byte : ℕ) → HeadAt first now head place → TakesNext now new (Ok (Some byte)) → byte ≢ newline_byte → place < line_limit → head' ≡ head ++ byte ∷ [] → HeadAt first new head' (place + 1)
head_turn None now new head head' place byte inv takes h few e = tt
head_turn (Some rest) now new head head' place byte inv takes h few e = next_told rest head head' place byte now new inv takes h few e

empty_cons : (byte : ℕ) (xs : List ℕ) → ◌≡◌ {A = List ℕ} (byte ∷ xs) [] → ⊥
empty_cons byte xs e = cc

not_empty : (rest head left : List ℕ) → rest ≡ head ++ left → 0 < length (head ++ left) → rest ≢ []
not_empty rest head left e h f = let z : length (head ++ left) ≡ 0 = ap length (sym e ∙ f) in absurd (omega (arith, z, h))

end_told : (rest left later head : List ℕ) (place : ℕ) (vec : Vec ℕ Global) → HeadSoFar rest left head place → left ≡ newline_byte ∷ later → place < line_limit → vec.items ≡ head → (rest ≢ []) × (line_within line_limit rest ≡ Some (vec.items, later))
end_told rest left later head place vec inv e few same =
    let n : line_limit - place ≡ suc (line_limit - (place + 1)) = omega (arith, few) in (
      not_empty rest head left inv.read (let l = length-append head left in let k = ap length e in omega (arith, l, k)),
      sym inv.cut ∙ ap (λ (xs : List ℕ). behind_read head (line_within (line_limit - place) xs)) e ∙ ap (behind_read head) (within_end (line_limit - place) (line_limit - (place + 1)) later n)
          ∙ ap (λ (xs : List ℕ). Some (xs, later)) (append-nil head ∙ sym same),
    )

ends_told : (rest head : List ℕ) (place : ℕ) (vec : Vec ℕ Global) (now new : Option (List ℕ)) → IsSomeAnd now (λ left. HeadSoFar rest left head place) → TakesNext now new (Ok (Some newline_byte)) → place < line_limit → vec.items ≡ head → ReadsHead rest new (Ok (Some vec))
ends_told rest head place vec None new inv takes few same = absurd inv
ends_told rest head place vec (Some left) None inv takes few same = absurd takes
ends_told rest head place vec (Some left) (Some later) inv takes few same = end_told rest left later head place vec inv takes few same

pub head_ends : (first now new : Option (List ℕ)) (head : List ℕ) (place : ℕ) (vec : Vec ℕ Global) → HeadAt first now head place → TakesNext now new (Ok (Some newline_byte)) → place < line_limit → vec.items ≡ head → IfSome first (λ rest. ReadsHead rest new (Ok (Some vec)))
head_ends None now new head place vec inv takes few same = tt
head_ends (Some rest) now new head place vec inv takes few same = ends_told rest head place vec now new inv takes few same

none_told : (rest head : List ℕ) (place : ℕ) (now new : Option (List ℕ)) → IsSomeAnd now (λ left. HeadSoFar rest left head place) → TakesNext now new (Ok None) → head ≡ [] → ReadsHead rest new (Ok None)
none_told rest head place None new inv takes e = absurd inv
none_told rest head place (Some left) new inv takes e = (inv.read ∙ ap (λ (xs : List ℕ). head ++ xs) takes.0 ∙ append-nil head ∙ e, takes.1)

pub head_none : (first now new : Option (List ℕ)) (head : List ℕ) (place : ℕ) → HeadAt first now head place → TakesNext now new (Ok None) → head ≡ [] → IfSome first (λ rest. ReadsHead rest new (Ok None))
head_none None now new head place inv takes e = tt
head_none (Some rest) now new head place inv takes e = none_told rest head place now new inv takes e

no_bytes : (xs : List ℕ) → length xs ≡ 0 → xs ≡ []
no_bytes [] e = refl
no_bytes (x ∷ xs) e = absurd (omega (arith, e))

cut_none : (rest left head : List ℕ) (place : ℕ) → HeadSoFar rest left head place → left ≡ [] → line_within line_limit rest ≡ None
cut_none rest left head place inv e =
    sym inv.cut ∙ ap (λ (xs : List ℕ). behind_read head (line_within (line_limit - place) xs)) e ∙ ap (behind_read head) (within_none (line_limit - place))

short_told : (rest head : List ℕ) (place : ℕ) (now new : Option (List ℕ)) → IsSomeAnd now (λ left. HeadSoFar rest left head place) → TakesNext now new (Ok None) → 0 < length head → ReadsHead rest new (Err BadLine)
short_told rest head place None new inv takes h = absurd inv
short_told rest head place (Some left) new inv takes h = (not_empty rest head left inv.read (let l = length-append head left in omega (arith, l, h)), cut_none rest left head place inv takes.0)

pub head_short : (first now new : Option (List ℕ)) (head : List ℕ) (place : ℕ) → HeadAt first now head place → TakesNext now new (Ok None) → 0 < length head → IfSome first (λ rest. ReadsHead rest new (Err BadLine))
head_short None now new head place inv takes h = tt
head_short (Some rest) now new head place inv takes h = short_told rest head place now new inv takes h

pub head_unended : (first now new : Option (List ℕ)) (head : List ℕ) (place read : ℕ) (r : Result (Option (Vec ℕ Global)) ScriptFault) → HeadAt first now head place → TakesNext now new (Ok None) → EndsHead read r → read ≡ length head → IfSome first (λ rest. ReadsHead rest new r)
head_unended first now new head place read (Ok None) inv takes h e = head_none first now new head place inv takes (no_bytes head (sym e ∙ h))
head_unended first now new head place read (Ok (Some vec)) inv takes h e = absurd h
head_unended first now new head place read (Err BadLine) inv takes h e = head_short first now new head place inv takes (omega (arith, h, e))
head_unended first now new head place read (Err ReadFault) inv takes h e = absurd h
head_unended first now new head place read (Err NoMemory) inv takes h e = absurd h

pub unended_short : (read : ℕ) (r : Result (Option (Vec ℕ Global)) ScriptFault) → EndsHead read r → IfOk r (λ head. IfSome head (λ bytes. length bytes.items < line_limit))
unended_short read (Ok None) h = tt
unended_short read (Ok (Some vec)) h = absurd h
unended_short read (Err fault) h = tt

pub unended_count : (read before now : ℕ) (r : Result (Option (Vec ℕ Global)) ScriptFault) → EndsHead read r → now ≡ before → ScriptCount before now r
unended_count read before now (Ok head) h e = e
unended_count read before now (Err BadLine) h e = e
unended_count read before now (Err ReadFault) h e = absurd h
unended_count read before now (Err NoMemory) h e = absurd h

long_told : (rest head : List ℕ) (place : ℕ) (now : Option (List ℕ)) → IsSomeAnd now (λ left. HeadSoFar rest left head place) → place ≡ line_limit → ReadsHead rest now (Err BadLine)
long_told rest head place None inv e = absurd inv
long_told rest head place (Some left) inv e =
    let z : line_limit - place ≡ zero = omega (arith, e) in (
      not_empty rest head left inv.read (let l = length-append head left in omega (arith, l, inv.count, e)),
      sym inv.cut ∙ ap (λ (k : ℕ). behind_read head (line_within k left)) z,
    )

pub head_long : (first now : Option (List ℕ)) (head : List ℕ) (place : ℕ) → HeadAt first now head place → place ≡ line_limit → IfSome first (λ rest. ReadsHead rest now (Err BadLine))
head_long None now head place inv e = tt
head_long (Some rest) now head place inv e = long_told rest head place now inv e

-- ---- a prefix was read

-- what a source gave
pub takes_so : (now new : Option (List ℕ)) (r s : Option ℕ) → r ≡ s → TakesNext now new (Ok r) → TakesNext now new (Ok s)
takes_so now new r s e h = subst (λ (o : Option ℕ). TakesNext now new (Ok o)) e h

-- the input goes on telling what is behind the bytes that were read
abbrev pub PartAt : Option (List ℕ) → Option (List ℕ) → Type 0
PartAt first now = IfSome first (λ rest. IsReadInPart rest now)

pub part_start : (first : Option (List ℕ)) → PartAt first first
part_start None = tt
part_start (Some rest) = ([], refl)

part_told : (rest : List ℕ) (now new : Option (List ℕ)) (result : Result (Option ℕ) Failed) → IsReadInPart rest now → TakesNext now new result → IsReadInPart rest new
part_told rest None new result inv takes = absurd inv
part_told rest (Some left) (Some later) (Ok (Some byte)) inv takes = (inv.0 ++ byte ∷ [], inv.1 ∙ ap (λ (xs : List ℕ). inv.0 ++ xs) takes ∙ sym (append_assoc inv.0 (byte ∷ []) later))
part_told rest (Some left) None (Ok (Some byte)) inv takes = absurd takes
part_told rest (Some left) new (Ok None) inv takes = subst (IsReadInPart rest) (sym takes.1) (inv.0, inv.1 ∙ ap (λ (xs : List ℕ). inv.0 ++ xs) takes.0)
part_told rest (Some left) new (Err failed) inv takes = subst (IsReadInPart rest) (sym takes) inv

pub part_turn : (first now new : Option (List ℕ)) (result : Result (Option ℕ) Failed) → PartAt first now → TakesNext now new result → PartAt first new
part_turn None now new result inv takes = tt
part_turn (Some rest) now new result inv takes = part_told rest now new result inv takes

parts_told : (rest : List ℕ) (now new : Option (List ℕ)) → IsReadInPart rest now → PartAt now new → IsReadInPart rest new
parts_told rest None new a b = absurd a
parts_told rest (Some left) None a b = absurd b
parts_told rest (Some left) (Some later) a b = (a.0 ++ b.0, a.1 ∙ ap (λ (xs : List ℕ). a.0 ++ xs) b.1 ∙ sym (append_assoc a.0 b.0 later))

pub parts_on : (first now new : Option (List ℕ)) → PartAt first now → PartAt now new → PartAt first new
parts_on None now new a b = tt
parts_on (Some rest) now new a b = parts_told rest now new a b

-- ---- so many bytes and a newline

abbrev pub ContentAt : ℕ → Option (List ℕ) → Option (List ℕ) → List ℕ → ℕ → Type 0
ContentAt count first now read place = IfSome first (λ rest. IsSomeAnd now (λ left. behind_read read (content_of (count - place) left) ≡ content_of count rest))

pub content_start : (count : ℕ) (first : Option (List ℕ)) (read : List ℕ) → read ≡ [] → ContentAt count first first read 0
content_start count None read e = tt
content_start count (Some rest) read e =
    let z : count - 0 ≡ count = omega arith in
    ap (λ (xs : List ℕ). behind_read xs (content_of (count - 0) rest)) e ∙ ap (λ (k : ℕ). behind_read [] (content_of k rest)) z ∙ behind_nothing (content_of count rest)

content_next : (n m byte : ℕ) (later : List ℕ) → n ≡ suc m → content_of n (byte ∷ later) ≡ before_rest byte (content_of m later)
content_next n m byte later e = ap (λ (k : ℕ). content_of k (byte ∷ later)) e

content_turn_told : (count : ℕ) (rest left later read read' : List ℕ) (place byte : ℕ) → behind_read read (content_of (count - place) left) ≡ content_of count rest → left ≡ byte ∷ later → place < count → read' ≡ read ++ byte ∷ []
    → behind_read read' (content_of (count - (place + 1)) later) ≡ content_of count rest
content_turn_told count rest left later read read' place byte inv e few e' =
    let n : count - place ≡ suc (count - (place + 1)) = omega (arith, few) in
    ap (λ (xs : List ℕ). behind_read xs (content_of (count - (place + 1)) later)) e' ∙ behind_more read byte (content_of (count - (place + 1)) later)
    ∙ ap (behind_read read) (sym (content_next (count - place) (count - (place + 1)) byte later n))
    ∙ ap (λ (xs : List ℕ). behind_read read (content_of (count - place) xs)) (sym e) ∙ inv

pub content_turn : (count : ℕ) (first now new : Option (List ℕ)) (read read' : List ℕ) (place byte : ℕ) → ContentAt count first now read place → TakesNext now new (Ok (Some byte)) → place < count → read' ≡ read ++ byte ∷ [] → ContentAt count first new read' (place + 1)
content_turn count None now new read read' place byte inv takes few e = tt
content_turn count (Some rest) None new read read' place byte inv takes few e = absurd inv
content_turn count (Some rest) (Some left) None read read' place byte inv takes few e = absurd takes
content_turn count (Some rest) (Some left) (Some later) read read' place byte inv takes few e = content_turn_told count rest left later read read' place byte inv takes few e

content_none : (n : ℕ) → content_of n [] ≡ None
content_none zero = refl
content_none (suc n) = refl

pub content_short : (count : ℕ) (first now new : Option (List ℕ)) (read : List ℕ) (place : ℕ) → ContentAt count first now read place → TakesNext now new (Ok None) → IfSome first (λ rest. ReadsContent count rest new (Err BadLine))
content_short count None now new read place inv takes = tt
content_short count (Some rest) None new read place inv takes = absurd inv
content_short count (Some rest) (Some left) new read place inv takes =
    sym inv ∙ ap (λ (xs : List ℕ). behind_read read (content_of (count - place) xs)) takes.0 ∙ ap (behind_read read) (content_none (count - place))

last_byte : (n byte : ℕ) (later : List ℕ) → n ≡ zero → content_of n (byte ∷ later) ≡ cond {A = Option (List ℕ × List ℕ)} (byte == newline_byte) (Some ([], later)) None
last_byte n byte later e = ap (λ (k : ℕ). content_of k (byte ∷ later)) e

pub content_ends : (count : ℕ) (first now new : Option (List ℕ)) (read : List ℕ) (place : ℕ) (vec : Vec ℕ Global) → ContentAt count first now read place → TakesNext now new (Ok (Some newline_byte)) → place ≡ count → vec.items ≡ read → IfSome first (λ rest. ReadsContent count rest new (Ok vec))
content_ends count None now new read place vec inv takes e same = tt
content_ends count (Some rest) None new read place vec inv takes e same = absurd inv
content_ends count (Some rest) (Some left) None read place vec inv takes e same = absurd takes
content_ends count (Some rest) (Some left) (Some later) read place vec inv takes e same =
    let z : count - place ≡ zero = omega (arith, e) in
    sym inv ∙ ap (λ (xs : List ℕ). behind_read read (content_of (count - place) xs)) takes ∙ ap (behind_read read) (last_byte (count - place) newline_byte later z)
    ∙ ap (λ (xs : List ℕ). Some (xs, later)) (append-nil read ∙ sym same)

no_newline : (byte : ℕ) (later : List ℕ) → byte ≢ newline_byte → cond {A = Option (List ℕ × List ℕ)} (byte == newline_byte) (Some ([], later)) None ≡ None
no_newline byte later h = by_test (byte == newline_byte) refl
  where
    by_test : (r : Bool) → (byte == newline_byte) ≡ r → cond {A = Option (List ℕ × List ℕ)} r (Some ([], later)) None ≡ None
    by_test true e = absurd (h (is_newline byte e))
    by_test false e = refl

pub content_wrong : (count : ℕ) (first now new : Option (List ℕ)) (read : List ℕ) (place byte : ℕ) → ContentAt count first now read place → TakesNext now new (Ok (Some byte)) → byte ≢ newline_byte → place ≡ count → IfSome first (λ rest. ReadsContent count rest new (Err BadLine))
content_wrong count None now new read place byte inv takes h e = tt
content_wrong count (Some rest) None new read place byte inv takes h e = absurd inv
content_wrong count (Some rest) (Some left) None read place byte inv takes h e = absurd takes
content_wrong count (Some rest) (Some left) (Some later) read place byte inv takes h e =
    let z : count - place ≡ zero = omega (arith, e) in
    sym inv ∙ ap (λ (xs : List ℕ). behind_read read (content_of (count - place) xs)) takes ∙ ap (behind_read read) (last_byte (count - place) byte later z ∙ no_newline byte later h)

-- ---- how many bytes were read

first_of : Option (List ℕ × List ℕ) → List ℕ
first_of None = []
first_of (Some cut) = cut.0

rest_of : {X : Type 0} → Option (X × List ℕ) → List ℕ
rest_of None = []
rest_of (Some cut) = cut.1

ends_count : (byte : ℕ) (bytes first later : List ℕ) (b : Bool) → cond {A = Option (List ℕ × List ℕ)} b (Some ([], bytes)) None ≡ Some (first, later) → length (byte ∷ bytes) ≡ length first + 1 + length later
unfolding first_of rest_of
ends_count byte bytes first later true e =
    let l : 0 ≡ length first = ap (λ (o : Option (List ℕ × List ℕ)). length (first_of o)) e in
    let k : length bytes ≡ length later = ap (λ (o : Option (List ℕ × List ℕ)). length (rest_of o)) e in
    omega (arith, l, k)
ends_count byte bytes first later false e = absurd cc

more_count : (byte n : ℕ) (bytes first later : List ℕ) (r : Option (List ℕ × List ℕ)) → ((t l : List ℕ) → r ≡ Some (t, l) → length bytes ≡ length t + 1 + length l) → before_rest byte r ≡ Some (first, later) → length (byte ∷ bytes) ≡ length first + 1 + length later
unfolding first_of rest_of
more_count byte n bytes first later None h e = absurd cc
more_count byte n bytes first later (Some cut) h e =
    let l : length (byte ∷ cut.0) ≡ length first = ap (λ (o : Option (List ℕ × List ℕ)). length (first_of o)) e in
    let k : length cut.1 ≡ length later = ap (λ (o : Option (List ℕ × List ℕ)). length (rest_of o)) e in
    let m = h cut.0 cut.1 refl in
    omega (arith, l, k, m)

-- the bytes that are cut off, the newline and those behind it are all
content_count : (count : ℕ) (rest text later : List ℕ) → content_of count rest ≡ Some (text, later) → length rest ≡ length text + 1 + length later
content_count zero [] text later e = absurd cc
content_count (suc n) [] text later e = absurd cc
content_count zero (byte ∷ bytes) text later e = ends_count byte bytes text later (byte == newline_byte) e
content_count (suc n) (byte ∷ bytes) text later e = more_count byte n bytes text later (content_of n bytes) (λ t l h. content_count n bytes t l h) e

-- so many bytes are cut off
ends_size : (bytes text later : List ℕ) (b : Bool) → cond {A = Option (List ℕ × List ℕ)} b (Some ([], bytes)) None ≡ Some (text, later) → length text ≡ 0
unfolding first_of
ends_size bytes text later true e = sym (ap (λ (o : Option (List ℕ × List ℕ)). length (first_of o)) e)
ends_size bytes text later false e = absurd cc

more_size : (byte n : ℕ) (text later : List ℕ) (r : Option (List ℕ × List ℕ)) → ((t l : List ℕ) → r ≡ Some (t, l) → length t ≡ n) → before_rest byte r ≡ Some (text, later) → length text ≡ suc n
unfolding first_of
more_size byte n text later None h e = absurd cc
more_size byte n text later (Some cut) h e =
    let l : length (byte ∷ cut.0) ≡ length text = ap (λ (o : Option (List ℕ × List ℕ)). length (first_of o)) e in
    let m = h cut.0 cut.1 refl in
    omega (arith, l, m)

content_size : (count : ℕ) (rest text later : List ℕ) → content_of count rest ≡ Some (text, later) → length text ≡ count
content_size zero [] text later e = absurd cc
content_size (suc n) [] text later e = absurd cc
content_size zero (byte ∷ bytes) text later e = ends_size bytes text later (byte == newline_byte) e
content_size (suc n) (byte ∷ bytes) text later e = more_size byte n text later (content_of n bytes) (λ t l h. content_size n bytes t l h) e

line_step : (byte n : ℕ) (bytes head later : List ℕ) (r : Option (List ℕ × List ℕ)) (b : Bool) → ((t l : List ℕ) → r ≡ Some (t, l) → length bytes ≡ length t + 1 + length l) → cond {A = Option (List ℕ × List ℕ)} b (Some ([], bytes)) (before_rest byte r) ≡ Some (head, later)
    → length (byte ∷ bytes) ≡ length head + 1 + length later
line_step byte n bytes head later r true h e = ends_count byte bytes head later true e
line_step byte n bytes head later r false h e = more_count byte n bytes head later r h e

line_count : (n : ℕ) (rest head later : List ℕ) → line_within n rest ≡ Some (head, later) → length rest ≡ length head + 1 + length later
line_count zero rest head later e = absurd cc
line_count (suc n) [] head later e = absurd cc
line_count (suc n) (byte ∷ bytes) head later e = line_step byte n bytes head later (line_within n bytes) (byte == newline_byte) (λ t l k. line_count n bytes t l k) e

with_count : (count : ℕ) (rest later : List ℕ) (value : LineValue) (f : List ℕ → LineValue) (r : Option (List ℕ × List ℕ)) → ((t l : List ℕ) → r ≡ Some (t, l) → length rest ≡ count + 1 + length l)
    → option_map {U = LineValue × List ℕ} (λ cut. (f cut.0, cut.1)) r ≡ Some (value, later) → length rest ≡ count + 1 + length later
unfolding rest_of
with_count count rest later value f None h e = absurd cc
with_count count rest later value f (Some cut) h e =
    let k : length cut.1 ≡ length later = ap (λ (o : Option (LineValue × List ℕ)). length (rest_of o)) e in
    let m = h cut.0 cut.1 refl in
    omega (arith, k, m)

content_whole : (count : ℕ) (rest text later : List ℕ) → content_of count rest ≡ Some (text, later) → length rest ≡ count + 1 + length later
content_whole count rest text later e = let a = content_count count rest text later e in let b = content_size count rest text later e in omega (arith, a, b)

-- the bytes behind a command and those behind them are all
command_count : (command : Command) (rest later : List ℕ) (value : LineValue) → with_content command rest ≡ Some (value, later) → length rest ≡ content_length command + length later
unfolding rest_of
command_count (PutFile file count) rest later value e = with_count count rest later value (PutText file) (content_of count rest) (content_whole count rest) e
command_count (RunWith count) rest later value e = with_count count rest later value RunProgram (content_of count rest) (content_whole count rest) e
command_count (RemoveFile file) rest later value e = let k : length rest ≡ length later = ap (λ (o : Option (LineValue × List ℕ)). length (rest_of o)) e in omega (arith, k)
command_count BuildAll rest later value e = let k : length rest ≡ length later = ap (λ (o : Option (LineValue × List ℕ)). length (rest_of o)) e in omega (arith, k)

-- ---- the whole line

taken_told : (command : Command) (before size : ℕ) (rest : List ℕ) (new : Option (List ℕ)) (line : Line) (taken : TakenLine) → ReadsCommand command rest new (Ok line) → taken.line ≡ line → taken.length ≡ before + size → size ≡ content_length command → ReadsTaken command before rest new (Ok taken)
taken_told command before size rest None line taken h e l k = absurd h
taken_told command before size rest (Some later) line taken h e l k =
    let c = command_count command rest later (line_view line) h in
    (h ∙ ap (λ (x : Line). Some (line_view x, later)) (sym e), omega (arith, c, l, k))

pub taken_line : (command : Command) (before size : ℕ) (first new : Option (List ℕ)) (line : Line) (taken : TakenLine) → IfSome first (λ rest. ReadsCommand command rest new (Ok line)) → taken.line ≡ line → taken.length ≡ before + size → size ≡ content_length command → IfSome first (λ rest. ReadsTaken command before rest new (Ok taken))
taken_line command before size None new line taken h e l k = tt
taken_line command before size (Some rest) new line taken h e l k = taken_told command before size rest new line taken h e l k

pub line_found : (first now new : Option (List ℕ)) (head : Vec ℕ Global) (taken : TakenLine) → IfSome first (λ rest. ReadsHead rest now (Ok (Some head))) → IfSome now (λ rest. ReadsBehind head.items rest new (Ok taken)) → IfSome first (λ rest. ReadsLine rest new (Ok (Some taken)))
line_found None now new head taken a b = tt
line_found (Some rest) None new head taken a b = absurd a.1
line_found (Some rest) (Some left) None head taken a b = absurd b
line_found (Some rest) (Some left) (Some later) head taken a b =
    let c = line_count line_limit rest head.items left a.1 in
    (a.0, (ap by_line a.1 ∙ b.0, omega (arith, c, b.1)))

-- the same, of what the calls gave
pub line_found_so : (first now new : Option (List ℕ)) (found : Option (Vec ℕ Global)) (head : Vec ℕ Global) (bytes : List ℕ) (taken : TakenLine) → found ≡ Some head → bytes ≡ head.items → IfSome first (λ rest. ReadsHead rest now (Ok found)) → IfSome now (λ rest. ReadsBehind bytes rest new (Ok taken))
    → IfSome first (λ rest. ReadsLine rest new (Ok (Some taken)))
line_found_so first now new found head bytes taken e f a b =
    line_found first now new head taken (subst (λ (o : Option (Vec ℕ Global)). IfSome first (λ rest. ReadsHead rest now (Ok o))) e a) (subst (λ (xs : List ℕ). IfSome now (λ rest. ReadsBehind xs rest new (Ok taken))) f b)

pub line_not : (first now new : Option (List ℕ)) (head : Vec ℕ Global) (fault : ScriptFault) → IfSome first (λ rest. ReadsHead rest now (Ok (Some head))) → IfSome now (λ rest. ReadsBehind head.items rest new (Err fault)) → IfSome first (λ rest. ReadsLine rest new (Err fault))
line_not None now new head fault a b = tt
line_not (Some rest) None new head fault a b = absurd a.1
line_not (Some rest) (Some left) new head BadLine a b = (a.0, ap by_line a.1 ∙ b)
line_not (Some rest) (Some left) new head ReadFault a b = tt
line_not (Some rest) (Some left) new head NoMemory a b = tt

pub head_not : (first now : Option (List ℕ)) (fault : ScriptFault) → IfSome first (λ rest. ReadsHead rest now (Err fault)) → IfSome first (λ rest. ReadsLine rest now (Err fault))
head_not None now fault a = tt
head_not (Some rest) now BadLine a = (a.0, ap by_line a.1)
head_not (Some rest) now ReadFault a = tt
head_not (Some rest) now NoMemory a = tt
