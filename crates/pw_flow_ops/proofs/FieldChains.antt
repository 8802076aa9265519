-- A format as a chain of fields: what is read is a text that stands in a relation to the value, and each
-- field puts its spelling in front of the text of the fields behind it.
use Rattle.std.proofs.Common.{◌≡◌, ℕ, List, [], ◌∷◌, ◌++◌, length, Result, Ok, refl, sym, ap, subst, ◌∙◌, append_assoc}
use Rattle.std.specs.Prelude.{Option, Some, None}
use Rattle.pw_fields.specs.Fields.{◌>>=◌, done}
use Rattle.pw_fields.specs.FieldFrame.{here, ended}
use Rattle.pw_fields.specs.FieldLaws.{AreBytes, Spells}
use Rattle.pw_fields.proofs.FieldLaws.{AreBytes-rest, joins, found_is, not_found, after_passes}

-- the text that was read, the bytes behind it, and the value
pub record Takes {X : Type 0} (P : List ℕ → List ℕ → X → Type 0) (read : List ℕ → Result (X × List ℕ) ℕ) : Type 0 where
  pub run : (bytes : List ℕ) (x : X) (rest : List ℕ) → AreBytes bytes → read bytes ≡ Ok (x, rest) → (text : List ℕ) × (bytes ≡ text ++ rest) × P text rest x

pub takes_field : {A X : Type 0} (P : List ℕ → List ℕ → X → Type 0) (spelling : A → List ℕ) (Fits : A → Type 0) (field : List ℕ → Result (A × List ℕ) ℕ) (others : A → List ℕ → Result (X × List ℕ) ℕ)
    → Spells spelling Fits field → ((a : A) → Fits a → Takes (λ text rest x. P (spelling a ++ text) rest x) (others a)) → Takes P (field >>= others)
takes_field P spelling Fits field others laws behind = record {
  run = λ bytes x rest fits e.
      let p = after_passes (field bytes) others x rest e in
      let t = laws.takes bytes p.0 p.1 fits p.2 in
      let u = (behind p.0 t.1).run p.1 x rest (AreBytes-rest bytes (spelling p.0) p.1 fits t.0) p.3 in
      (spelling p.0 ++ u.0, joins bytes (spelling p.0) p.1 u.0 rest t.0 u.1, u.2);
}

pub takes_done : {X : Type 0} (P : List ℕ → List ℕ → X → Type 0) (x : X) → ((rest : List ℕ) → P [] rest x) → Takes P (done x)
takes_done P x holds = record {
  run = λ bytes y rest fits e. let p = found_is x y bytes rest e in ([], p.1, subst (λ z. P [] rest z) p.0 (holds rest));
}

pub takes_here : {X : Type 0} (P : List ℕ → List ℕ → X → Type 0) (others : ℕ → List ℕ → Result (X × List ℕ) ℕ) → ((left : ℕ) → Takes P (others left)) → Takes P (here >>= others)
takes_here P others laws = record { run = λ bytes x rest fits e. (laws (length bytes)).run bytes x rest fits e }

pub ended_is : {X : Type 0} (late : Option ℕ) (x y : X) (bytes rest : List ℕ) → ended late x bytes ≡ Ok (y, rest) → (bytes ≡ []) × (late ≡ None) × (x ≡ y) × (rest ≡ [])
ended_is late x y (b ∷ bytes) rest e = absurd (not_found _ y rest e)
ended_is (Some left) x y [] rest e = absurd (not_found left y rest e)
ended_is None x y [] rest e = let p = found_is x y [] rest e in (refl, refl, p.0, sym p.1)

pub takes_ended : {X : Type 0} (P : List ℕ → List ℕ → X → Type 0) (late : Option ℕ) (x : X) → (late ≡ None → P [] [] x) → Takes P (ended late x)
takes_ended P late x holds = record {
  run = λ bytes y rest fits e.
      let p = ended_is late x y bytes rest e in
      ([], p.0 ∙ sym p.3, subst (λ (r : List ℕ). P [] r y) (sym p.3) (subst (λ z. P [] [] z) p.2 (holds p.1)));
}

-- what is spelled so is read again
pub again_field : {A X : Type 0} (spelling : A → List ℕ) (Fits : A → Type 0) (field : List ℕ → Result (A × List ℕ) ℕ) (others : A → List ℕ → Result (X × List ℕ) ℕ)
    → Spells spelling Fits field → (a : A) → Fits a → (text rest : List ℕ) (x : X) → others a (text ++ rest) ≡ Ok (x, rest) → (field >>= others) ((spelling a ++ text) ++ rest) ≡ Ok (x, rest)
again_field spelling Fits field others laws a fits text rest x e =
    ap (field >>= others) (append_assoc (spelling a) text rest) ∙ rw (laws.again a (text ++ rest) fits) e

-- both ways together
pub chained : {X : Type 0} (spelling : X → List ℕ) (Fits : X → Type 0) (read : List ℕ → Result (X × List ℕ) ℕ)
    → Takes (λ text rest x. (text ≡ spelling x) × Fits x) read → ((x : X) (rest : List ℕ) → Fits x → read (spelling x ++ rest) ≡ Ok (x, rest)) → Spells spelling Fits read
chained spelling Fits read laws again = record {
  takes = λ bytes x rest fits e. let t = laws.run bytes x rest fits e in (t.1 ∙ ap (λ (w : List ℕ). w ++ rest) t.2.0, t.2.1);
  again = again;
}
