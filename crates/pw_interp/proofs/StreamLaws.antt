-- What was read and written so far.
use Rattle.std.proofs.Common.{ℕ, ◌+◌, ◌≡◌, List, [], ◌∷◌, ◌++◌, Option, Some, None, Result, Ok, Err, refl, sym, ap, subst, ◌∙◌, arith, take, drop, length, append-nil, append_assoc}
use Rattle.std.specs.Prelude.{IfSome, IfErr}
use Rattle.std.proofs.Math.Seq.{drop-append_seam}
use Rattle.std.proofs.lemmas.List.{drop-drop, take-append-drop}
use Rattle.pw_io.specs.declared.Failed.{Failed}
use Rattle.pw_io.specs.Streams.{TakesFrom, TakesNext, Appends, AppendsPart}
use Rattle.pw_interp_state.specs.Shown.{Streams}
use Rattle.pw_interp_machine.specs.Streaming.{IsRead, with_byte}
use Rattle.pw_interp.specs.declared.ends.InterpFault.{InterpFault}
use Rattle.pw_interp.specs.declared.ends.InterpFault.TheVariants.{ReadFault, WriteFault, NoMemory}
use Rattle.pw_interp.specs.Streaming.{Carried, ReadCount, WriteCount, unread}

-- ---- a sink

pub nothing_appended : (taken : Option (List ℕ)) → Appends taken taken []
nothing_appended None = tt
nothing_appended (Some before) = sym (append-nil before)

appends_more : (t t' t'' : Option (List ℕ)) (output piece : List ℕ) → Appends t t' output → Appends t' t'' piece → Appends t t'' (output ++ piece)
appends_more t t' None output piece h k = tt
appends_more t None (Some after) output piece h k = absurd k
appends_more None (Some mid) (Some after) output piece h k = absurd h
appends_more (Some before) (Some mid) (Some after) output piece h k = k ∙ ap (λ (xs : List ℕ). xs ++ piece) h ∙ append_assoc before output piece

-- of a byte that was not taken nothing was appended
appends_part : (t t' t'' : Option (List ℕ)) (output : List ℕ) (byte : ℕ) → Appends t t' output → AppendsPart t' t'' (byte ∷ []) → Appends t t'' output
appends_part t t' None output byte h k = tt
appends_part t None (Some after) output byte h k = absurd k
appends_part None (Some mid) (Some after) output byte h k = absurd h
appends_part (Some before) (Some mid) (Some after) output byte h k =
    let none : k.0 ≡ 0 = omega (arith, k.1) in
    k.2 ∙ ap (λ (n : ℕ). mid ++ take n (byte ∷ [])) none ∙ append-nil mid ∙ h

-- ---- what is carried

-- of what may be there, by what it is
pub if_some : {A : Type 0} {P : A → Type 0} (o : Option A) → ((a : A) → o ≡ Some a → P a) → IfSome o P
if_some None all = tt
if_some (Some a) all = all a refl

pub carried_first : (bytes : List ℕ) (taken rest : Option (List ℕ)) → rest ≡ Some bytes → Carried bytes taken (unread bytes) rest taken
carried_first bytes taken rest is = record { left = is; read = refl; took = nothing_appended taken }

-- behind a byte of what is left
later_left : (n : ℕ) (bytes later : List ℕ) (byte : ℕ) → byte ∷ later ≡ drop n bytes → later ≡ drop (n + 1) bytes
later_left n bytes later byte is = ap {A = List ℕ} (drop 1) is ∙ drop-drop 1 n bytes

pub byte_carried : (bytes : List ℕ) (taken : Option (List ℕ)) (st : Streams) (rest rest' t : Option (List ℕ)) (byte : Option ℕ) → Carried bytes taken st rest t → TakesNext rest rest' (Ok byte)
    → (new : Streams) × IsRead st byte new × Carried bytes taken new rest' t
byte_carried bytes taken st rest rest' t byte c next = by byte rest' (subst (λ r. TakesNext r rest' (Ok byte)) c.left next)
  where
    by : (b : Option ℕ) (r : Option (List ℕ)) → TakesFrom st.rest r (Ok b) → (new : Streams) × IsRead st b new × Carried bytes taken new r t
    by (Some b) None k = absurd k
    by (Some b) (Some later) k =
        (record st { rest = later; read = st.read + 1 }, (later, k, refl), record { left = refl; read = later_left st.read bytes later b (sym k ∙ c.read); took = c.took })
    by None r k = (st, (k.0, refl), record { left = k.1 ∙ ap Some (sym k.0); read = c.read; took = c.took })

pub put_carried : (bytes : List ℕ) (taken : Option (List ℕ)) (st : Streams) (rest t t' : Option (List ℕ)) (byte : ℕ) → Carried bytes taken st rest t → Appends t t' (byte ∷ []) → Carried bytes taken (with_byte byte st) rest t'
put_carried bytes taken st rest t t' byte c put = record { left = c.left; read = c.read; took = appends_more taken t t' st.out (byte ∷ []) c.took put }

-- where the source or the sink failed
pub failed_read_carried : (bytes : List ℕ) (taken : Option (List ℕ)) (st : Streams) (rest rest' t : Option (List ℕ)) (why : Failed) → Carried bytes taken st rest t → TakesNext rest rest' (Err why) → Carried bytes taken st rest' t
failed_read_carried bytes taken st rest rest' t why c next = record { left = subst (λ r. TakesNext r rest' (Err why)) c.left next; read = c.read; took = c.took }

pub failed_write_carried : (bytes : List ℕ) (taken : Option (List ℕ)) (st : Streams) (rest t t' : Option (List ℕ)) (byte : ℕ) → Carried bytes taken st rest t → AppendsPart t t' (byte ∷ []) → Carried bytes taken st rest t'
failed_write_carried bytes taken st rest t t' byte c put = record { left = c.left; read = c.read; took = appends_part taken t t' st.out byte c.took put }

-- a front of the bytes and what is left of them
pub front_read : (bytes : List ℕ) (st : Streams) → st.rest ≡ drop st.read bytes → bytes ≡ take st.read bytes ++ st.rest
front_read bytes st is = sym (take-append-drop st.read bytes) ∙ ap (λ (x : List ℕ). take st.read bytes ++ x) (sym is)

-- what is left behind some more
pub behind_more : (bytes more rest : List ℕ) (st : Streams) (read : ℕ) → st.rest ≡ drop st.read bytes → st.rest ≡ more ++ rest → read ≡ st.read + length more → rest ≡ drop read bytes
behind_more bytes more rest st read is split count =
    sym (drop-append_seam more rest) ∙ ap {A = List ℕ} (drop (length more)) (sym split ∙ is) ∙ drop-drop (length more) st.read bytes ∙ ap (λ (n : ℕ). drop n bytes) (sym count)

-- ---- the counts of faults

pub no_read_fault : {T : Type 0} (r : Result T InterpFault) → IfErr r (λ fault. fault ≡ NoMemory) → (before : ℕ) → ReadCount before before r
no_read_fault (Ok x) is before = refl
no_read_fault (Err ReadFault) is before = cc is
no_read_fault (Err WriteFault) is before = refl
no_read_fault (Err NoMemory) is before = refl

pub no_write_fault : {T : Type 0} (r : Result T InterpFault) → IfErr r (λ fault. fault ≡ NoMemory) → (before : ℕ) → WriteCount before before r
no_write_fault (Ok x) is before = refl
no_write_fault (Err ReadFault) is before = refl
no_write_fault (Err WriteFault) is before = cc is
no_write_fault (Err NoMemory) is before = refl

-- at an exit for want of memory
pub memory_read : {T : Type 0} (r : Result T InterpFault) (fault : InterpFault) → r ≡ Err fault → fault ≡ NoMemory → (before : ℕ) → ReadCount before before r
memory_read {T = T} r fault is none before = subst (λ (x : Result T InterpFault). ReadCount before before x) (sym (is ∙ ap {A = InterpFault} {B = Result T InterpFault} Err none)) refl

pub memory_write : {T : Type 0} (r : Result T InterpFault) (fault : InterpFault) → r ≡ Err fault → fault ≡ NoMemory → (before : ℕ) → WriteCount before before r
memory_write {T = T} r fault is none before = subst (λ (x : Result T InterpFault). WriteCount before before x) (sym (is ∙ ap {A = InterpFault} {B = Result T InterpFault} Err none)) refl

-- at an exit with the fault of a call
err_read : (T : Type 0) (fault : InterpFault) (before now : ℕ) → ReadCount {T = Unit {0}} before now (Err fault) → ReadCount {T = T} before now (Err fault)
err_read T ReadFault before now h = h
err_read T WriteFault before now h = h
err_read T NoMemory before now h = h

pub read_of : {T : Type 0} (r : Result T InterpFault) (fault : InterpFault) (before now : ℕ) → r ≡ Err fault → ReadCount {T = Unit {0}} before now (Err fault) → ReadCount before now r
read_of {T = T} r fault before now is h = subst (λ (x : Result T InterpFault). ReadCount before now x) (sym is) (err_read T fault before now h)

err_write : (T : Type 0) (fault : InterpFault) (before now : ℕ) → WriteCount {T = Unit {0}} before now (Err fault) → WriteCount {T = T} before now (Err fault)
err_write T ReadFault before now h = h
err_write T WriteFault before now h = h
err_write T NoMemory before now h = h

pub write_of : {T : Type 0} (r : Result T InterpFault) (fault : InterpFault) (before now : ℕ) → r ≡ Err fault → WriteCount {T = Unit {0}} before now (Err fault) → WriteCount before now r
write_of {T = T} r fault before now is h = subst (λ (x : Result T InterpFault). WriteCount before now x) (sym is) (err_write T fault before now h)

-- a count that is as before, where another call had the faults
pub read_since : {T : Type 0} (r : Result T InterpFault) (a b now : ℕ) → b ≡ a → ReadCount b now r → ReadCount a now r
read_since r a b now is h = subst (λ n. ReadCount n now r) is h

pub write_since : {T : Type 0} (r : Result T InterpFault) (a b now : ℕ) → b ≡ a → WriteCount b now r → WriteCount a now r
write_since r a b now is h = subst (λ n. WriteCount n now r) is h
