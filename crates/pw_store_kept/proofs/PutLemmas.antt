-- Files that are put one behind another.
use Rattle.std.proofs.Common.{◌≡◌, ℕ, inl, inr, List, [], ◌∷◌, ◌++◌, Option, Some, None, Result, Ok, Err, refl, sym, ap, ◌∙◌, subst, append_assoc, append-nil}
use Rattle.std.specs.Prelude.{IfSome, OnOk}
use Rattle.pw_io.specs.Files.{Told, Keeps, Puts, PutsPart, after_put}
use Rattle.pw_io.specs.Faults.{OnFailed, OnNoMemory}
use Rattle.pw_io.specs.declared.StoreError.{StoreError}
use Rattle.pw_io.specs.declared.StoreError.TheVariants.{Failed, NoMemory}
use Rattle.pw_top_answer.specs.Effects.{NamedFile, PutsFiles, IsLeft, after_puts}
use Rattle.pw_store_kept.specs.Files.{put_answer}

pub after_append : (told : Told) (xs ys : List NamedFile) → after_puts told (xs ++ ys) ≡ after_puts (after_puts told xs) ys
after_append told [] ys = refl
after_append told (x ∷ xs) ys = after_append (after_put told x.0 x.1) xs ys

pub none_left : (told : Told) (files : List NamedFile) (new : Option Told) → new ≡ Some told → IsLeft told files new
none_left told [] new e = e
none_left told (file ∷ files) new e = inl e

left_more : (told : Told) (xs ys : List NamedFile) (new : Option Told) → IsLeft told xs new → IsLeft told (xs ++ ys) new
left_more told [] ys new h = none_left told ys new h
left_more told (x ∷ xs) ys new h = h

-- what a store tells as itself
pub told_itself : (o : Option Told) → IfSome o (λ told. o ≡ Some told)
told_itself None = tt
told_itself (Some told) = refl

-- ---- one file

pub put_one : (result : Result (Unit {0}) StoreError) (old new : Option Told) (name bytes : List ℕ) → OnOk result (Puts old new name bytes) → OnFailed result (PutsPart old new name bytes) → OnNoMemory result (Keeps old new) →
    IfSome old (λ told. PutsFiles ((name, bytes) ∷ []) (put_answer result) told new)
put_one result None new name bytes a b c = tt
put_one (Ok u) (Some told) new name bytes a b c = a
put_one (Err Failed) (Some told) new name bytes a b c = record { done = []; more = (name, bytes) ∷ []; split = refl; left = inr b }
put_one (Err NoMemory) (Some told) new name bytes a b c = record { done = []; more = (name, bytes) ∷ []; split = refl; left = c }

-- ---- some, and then others

put_then_told : (xs ys : List NamedFile) (result : Result (Unit {0}) StoreError) (told : Told) (new : Option Told) → PutsFiles ys (put_answer result) (after_puts told xs) new → PutsFiles (xs ++ ys) (put_answer result) told new
put_then_told xs ys (Ok u) told new h = h ∙ ap Some (sym (after_append told xs ys))
put_then_told xs ys (Err Failed) told new h = record {
  done = xs ++ h.done;
  more = h.more;
  split = ap (λ (zs : List NamedFile). xs ++ zs) h.split ∙ sym (append_assoc xs h.done h.more);
  left = subst (λ (t : Told). IsLeft t h.more new) (sym (after_append told xs h.done)) h.left;
}
put_then_told xs ys (Err NoMemory) told new h = record {
  done = xs ++ h.done;
  more = h.more;
  split = ap (λ (zs : List NamedFile). xs ++ zs) h.split ∙ sym (append_assoc xs h.done h.more);
  left = h.left ∙ ap Some (sym (after_append told xs h.done));
}

pub put_then : (xs ys : List NamedFile) (result : Result (Unit {0}) StoreError) (first now new : Option Told) → IfSome first (λ told. now ≡ Some (after_puts told xs)) → IfSome now (λ told. PutsFiles ys (put_answer result) told new) →
    IfSome first (λ told. PutsFiles (xs ++ ys) (put_answer result) told new)
put_then xs ys result None now new e h = tt
put_then xs ys result (Some told) now new e h =
    let P : Option Told → Type 0 = λ o. IfSome o (λ t. PutsFiles ys (put_answer result) t new) in
    put_then_told xs ys result told new (subst P e h)

put_stopped_told : (xs ys : List NamedFile) (error : StoreError) (told : Told) (new : Option Told) → PutsFiles xs (put_answer (Err error)) told new → PutsFiles (xs ++ ys) (put_answer (Err error)) told new
put_stopped_told xs ys Failed told new h = record {
  done = h.done;
  more = h.more ++ ys;
  split = ap (λ (zs : List NamedFile). zs ++ ys) h.split ∙ append_assoc h.done h.more ys;
  left = left_more (after_puts told h.done) h.more ys new h.left;
}
put_stopped_told xs ys NoMemory told new h = record {
  done = h.done;
  more = h.more ++ ys;
  split = ap (λ (zs : List NamedFile). zs ++ ys) h.split ∙ append_assoc h.done h.more ys;
  left = h.left;
}

pub put_stopped : (xs ys : List NamedFile) (error : StoreError) (first new : Option Told) → IfSome first (λ told. PutsFiles xs (put_answer (Err error)) told new) → IfSome first (λ told. PutsFiles (xs ++ ys) (put_answer (Err error)) told new)
put_stopped xs ys error None new h = tt
put_stopped xs ys error (Some told) new h = put_stopped_told xs ys error told new h

-- ---- a loop over files

-- a prefix of the files was put
pub record PutSoFar (told : Told) (files left : List NamedFile) (now : Option Told) : Type 0 where
  pub done : List NamedFile
  pub split : files ≡ done ++ left
  pub after : now ≡ Some (after_puts told done)

abbrev pub FilesSoFar : Option Told → List NamedFile → List NamedFile → Option Told → Type 0
FilesSoFar first files left now = IfSome first (λ told. PutSoFar told files left now)

pub files_start : (first : Option Told) (files : List NamedFile) → FilesSoFar first files files first
files_start None files = tt
files_start (Some told) files = record { done = []; split = refl; after = refl }

pub files_turn : (first now new : Option Told) (files left rest : List NamedFile) (file : NamedFile) → FilesSoFar first files left now → left ≡ file ∷ rest → IfSome now (λ told. new ≡ Some (after_puts told (file ∷ []))) → FilesSoFar first files rest new
files_turn None now new files left rest file inv e h = tt
files_turn (Some told) now new files left rest file inv e h =
    let P : Option Told → Type 0 = λ o. IfSome o (λ t. new ≡ Some (after_puts t (file ∷ []))) in
    record {
      done = inv.done ++ file ∷ [];
      split = inv.split ∙ ap (λ (zs : List NamedFile). inv.done ++ zs) e ∙ sym (append_assoc inv.done (file ∷ []) rest);
      after = subst P inv.after h ∙ ap Some (sym (after_append told inv.done (file ∷ [])));
    }

pub files_stop : (error : StoreError) (first now new : Option Told) (files left rest : List NamedFile) (file : NamedFile) → FilesSoFar first files left now → left ≡ file ∷ rest → IfSome now (λ told. PutsFiles (file ∷ []) (put_answer (Err error)) told new) →
    IfSome first (λ told. PutsFiles files (put_answer (Err error)) told new)
files_stop error None now new files left rest file inv e h = tt
files_stop error (Some told) now new files left rest file inv e h =
    let P : Option Told → Type 0 = λ o. IfSome o (λ t. PutsFiles (file ∷ []) (put_answer (Err error)) t new) in
    let one = subst P inv.after h in
    let all = put_then_told inv.done (file ∷ rest) (Err error) told new (put_stopped_told (file ∷ []) rest error (after_puts told inv.done) new one) in
    subst (λ (zs : List NamedFile). PutsFiles zs (put_answer (Err error)) told new) (sym (inv.split ∙ ap (λ (zs : List NamedFile). inv.done ++ zs) e)) all

pub files_end : (first now : Option Told) (files left : List NamedFile) → FilesSoFar first files left now → left ≡ [] → IfSome first (λ told. now ≡ Some (after_puts told files))
files_end None now files left inv e = tt
files_end (Some told) now files left inv e =
    inv.after ∙ ap (λ (zs : List NamedFile). Some (after_puts told zs)) (sym (inv.split ∙ ap (λ (zs : List NamedFile). inv.done ++ zs) e ∙ append-nil inv.done))
