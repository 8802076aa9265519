-- What a word looks like, to `clap` and by the words of a command line.
use Rattle.std.proofs.Common.{◌≡◌, ℕ, ◌==◌, Bool, true, false, List, [], ◌∷◌, Some, None, refl, sym, ap, subst, ◌∙◌, eqb-true, arith}
use Rattle.std.specs.Prelude.{codes, drop, slice_get}
use Rattle.std.specs.Char.{encode_utf8}
use Rattle.std.specs.Str.{IsUtf8, bytes_eq, chars, encode_utf8_all}
use Rattle.std.proofs.lemmas.Str.{encodes-chars}
use Rattle.clap.specs.Lexer.{long_of, name_and_value, short_of}
use Rattle.clap.specs.Walk.{Text}
use Rattle.pw_top_switch.specs.Switch.{is_named}
use Rattle.pw_top_words.specs.CommandLine.{is_dashed}

-- `--`
pub record Ends (word : Text) : Type 0 where
  pub same : bytes_eq word (codes "--") ≡ true
  pub dashed : is_dashed word ≡ true

-- `--name` or `--name=value`
pub record Names (word : Text) : Type 0 where
  pub other : bytes_eq word (codes "--") ≡ false
  pub dashed : is_dashed word ≡ true
  pub named : is_named word ≡ true
  pub long : long_of word ≡ Some (name_and_value (drop 2 word))

-- `-abc`
pub record IsShort (word : Text) : Type 0 where
  pub other : bytes_eq word (codes "--") ≡ false
  pub dashed : is_dashed word ≡ true
  pub named : is_named word ≡ false
  pub long : long_of word ≡ None
  pub first : ℕ
  pub rest : Text
  pub character : ℕ
  pub short : short_of word ≡ Some (first ∷ rest)
  pub begins : slice_get (chars (first ∷ rest)) 0 ≡ Some character

-- a word that is none of these
pub record IsBare (word : Text) : Type 0 where
  pub other : bytes_eq word (codes "--") ≡ false
  pub dashed : is_dashed word ≡ false
  pub named : is_named word ≡ false
  pub long : long_of word ≡ None
  pub short : short_of word ≡ None

pub data Class (word : Text) : Type 0 where
  is_end : Ends word → Class word
  is_option : Names word → Class word
  is_short : IsShort word → Class word
  is_bare : IsBare word → Class word

-- the rest of a word that begins with `-` begins with a character
begins_so : (b : ℕ) (rest : Text) → IsUtf8 (45 ∷ b ∷ rest) → (c : ℕ) × (slice_get (chars (b ∷ rest)) 0 ≡ Some c)
unfolding chars encode_utf8
begins_so b rest utf8 = go (chars (b ∷ rest)) refl
  where
    go : (cs : List ℕ) → chars (b ∷ rest) ≡ cs → (c : ℕ) × (slice_get (chars (b ∷ rest)) 0 ≡ Some c)
    go [] e =
        let one : chars (45 ∷ b ∷ rest) ≡ 45 ∷ [] = ap (λ (cs : List ℕ). 45 ∷ cs) e in
        let back : encode_utf8_all (chars (45 ∷ b ∷ rest)) ≡ 45 ∷ b ∷ rest = encodes-chars (45 ∷ b ∷ rest) utf8 in
        let wrong : 45 ∷ [] ≡ 45 ∷ b ∷ rest = sym (ap encode_utf8_all one) ∙ back in
        absurd cc
    go (c ∷ cs) e = (c, ap (λ (ds : List ℕ). slice_get ds 0) e)

one_byte : (a : ℕ) → Class (a ∷ [])
one_byte a = go (a == 45) refl
  where
    go : (p : Bool) → (a == 45) ≡ p → Class (a ∷ [])
    go true e = is_bare (record { other = rw e refl; dashed = refl; named = refl; long = rw e refl; short = rw e refl })
    go false e = is_bare (record { other = rw e refl; dashed = refl; named = refl; long = rw e refl; short = rw e refl })

two_hyphens : (a b : ℕ) (rest : Text) → (a == 45) ≡ true → (b == 45) ≡ true → Class (a ∷ b ∷ rest)
two_hyphens a b [] e f = is_end (record { same = rw (e, f) refl; dashed = e })
two_hyphens a b (c ∷ rest) e f = is_option (record { other = rw (e, f) refl; dashed = e; named = rw (e, f) refl; long = rw (e, f) refl })

more_bytes : (a b : ℕ) (rest : Text) → IsUtf8 (a ∷ b ∷ rest) → (p q : Bool) → (a == 45) ≡ p → (b == 45) ≡ q → Class (a ∷ b ∷ rest)
more_bytes a b rest utf8 false q e f = is_bare (record { other = rw e refl; dashed = e; named = rw e refl; long = rw e refl; short = rw e refl })
more_bytes a b rest utf8 true true e f = two_hyphens a b rest e f
more_bytes a b rest utf8 true false e f =
    let hyphen : a ≡ 45 = omega (arith, eqb-true _ _ e) in
    let found = begins_so b rest (subst (λ (n : ℕ). IsUtf8 (n ∷ b ∷ rest)) hyphen utf8) in
    is_short (record {
      other = rw (e, f) refl;
      dashed = e;
      named = rw (e, f) refl;
      long = rw (e, f) refl;
      first = b;
      rest = rest;
      character = found.0;
      short = rw (e, f) refl;
      begins = found.1;
    })

pub classify : (word : Text) → IsUtf8 word → Class word
classify [] utf8 = is_bare (record { other = refl; dashed = refl; named = refl; long = refl; short = refl })
classify (a ∷ []) utf8 = one_byte a
classify (a ∷ b ∷ rest) utf8 = more_bytes a b rest utf8 (a == 45) (b == 45) refl refl
