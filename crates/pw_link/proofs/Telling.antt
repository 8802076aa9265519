-- Laws of the table of names.
use Rattle.std.proofs.Common.{◌≡◌, ℕ, Bool, true, false, List, [], ◌∷◌, ◌++◌, Option, None, Some, refl, sym, ap, ◌∙◌, not, if◌then◌else◌}
use Rattle.std.specs.Borrow.{Bor}
use Rattle.std.specs.Cmp.Lexicographic.{nat_list_eq_equiv}
use Rattle.std.specs.Map.{lookup}
use Rattle.std.specs.Option.{option_or, option_copied, is_some}
use Rattle.std.specs.Str.{bytes_eq}
use Rattle.std.proofs.lemmas.Slice.Eq.{bytes_eq-Decides}
use Rattle.pw_link.specs.Views.{Tells}

abbrev pub last : List ℕ → List ℕ → ℕ → Option ℕ
last name added address = if bytes_eq name added then Some address else None

pub lookup-push : (named : List (List ℕ × ℕ)) (added : List ℕ) (address : ℕ) (name : List ℕ) → lookup (bytes_eq name) (named ++ (added, address) ∷ []) ≡ option_or (lookup (bytes_eq name) named) (last name added address)
lookup-push [] added address name = by (bytes_eq name added)
  where
    by : (b : Bool) → (if b then Some address else None) ≡ option_or None (if b then Some address else None)
    by true = refl
    by false = refl
lookup-push (n ∷ named) added address name = by (bytes_eq name n.0) (lookup-push named added address name)
  where
    by : (b : Bool) → lookup (bytes_eq name) (named ++ (added, address) ∷ []) ≡ option_or (lookup (bytes_eq name) named) (last name added address)
        → (if b then Some n.1 else lookup (bytes_eq name) (named ++ (added, address) ∷ [])) ≡ option_or (if b then Some n.1 else lookup (bytes_eq name) named) (last name added address)
    by true rest = refl
    by false rest = rest

or-none : (o : Option ℕ) → o ≡ option_or o None
or-none None = refl
or-none (Some x) = refl

module _ (table : List (Bor (List ℕ) × ℕ)) (named : List (List ℕ × ℕ)) (tells : Tells table named) (added : Bor (List ℕ)) (address : ℕ) where
  -- a name that is there already
  pub Tells-there : (v : ℕ) → Some v ≡ lookup (λ other. bytes_eq added.now other.now) table → Tells table (named ++ (added.now, address) ∷ [])
  Tells-there v there name = tells name ∙ by (bytes_eq name.now added.now) refl ∙ sym (lookup-push named added.now address name.now)
    where
      by : (b : Bool) → bytes_eq name.now added.now ≡ b → lookup (bytes_eq name.now) named ≡ option_or (lookup (bytes_eq name.now) named) (last name.now added.now address)
      by true same =
          let has : lookup (bytes_eq name.now) named ≡ Some v = ap (λ n. lookup (bytes_eq n) named) ((bytes_eq-Decides name.now added.now).0 same) ∙ sym (there ∙ tells added) in
          rw has refl
      by false other = rw other (or-none (lookup (bytes_eq name.now) named))

  -- a name that is new
  pub Tells-new : (new : List (Bor (List ℕ) × ℕ)) → None ≡ lookup (λ other. bytes_eq added.now other.now) table
      → ((name : Bor (List ℕ)) → lookup (λ other. bytes_eq name.now other.now) new ≡ (if bytes_eq added.now name.now then Some address else lookup (λ other. bytes_eq name.now other.now) table))
      → Tells new (named ++ (added.now, address) ∷ [])
  Tells-new new lacks puts name = puts name ∙ by (bytes_eq added.now name.now) refl ∙ sym (lookup-push named added.now address name.now)
    where
      turned : bytes_eq name.now added.now ≡ bytes_eq added.now name.now
      turned = nat_list_eq_equiv.symm name.now added.now

      by : (b : Bool) → bytes_eq added.now name.now ≡ b → (if bytes_eq added.now name.now then Some address else lookup (λ other. bytes_eq name.now other.now) table) ≡ option_or (lookup (bytes_eq name.now) named) (last name.now added.now address)
      by true same =
          let none : lookup (bytes_eq name.now) named ≡ None = sym (ap (λ n. lookup (bytes_eq n) named) ((bytes_eq-Decides added.now name.now).0 same)) ∙ sym (lacks ∙ tells added) in
          rw (same, none, turned ∙ same) refl
      by false other = rw (other, turned ∙ other) (tells name ∙ or-none (lookup (bytes_eq name.now) named))

-- what a call of `get` and of `is_none` found
pub none_of : (r : Option (Bor ℕ)) (b : Bool) → is_some r ≡ not b → b ≡ true → (there : Option ℕ) → option_copied r ≡ there → None ≡ there
none_of None b e f there g = g
none_of (Some x) b e f there g = let h : true ≡ false = e ∙ ap not f in absurd cc

pub some_of : (r : Option (Bor ℕ)) (b : Bool) → is_some r ≡ not b → b ≡ false → (there : Option ℕ) → option_copied r ≡ there → (v : ℕ) × (Some v ≡ there)
some_of None b e f there g = let h : false ≡ true = e ∙ ap not f in absurd cc
some_of (Some x) b e f there g = (x.now, g)
