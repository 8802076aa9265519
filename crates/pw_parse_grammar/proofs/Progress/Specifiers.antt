-- Specifiers do not go back (6.5.1 to 6.5.3).
use Rattle.std.proofs.Common.{ℕ, zero, suc, Bool, false, Option, Some, None}
use Rattle.pw_tree.specs.Symbols.{Symbol, Reserved, Identifier}
use Rattle.pw_tree.specs.Trees.{Word, Specifiers, NoMemberDeclarator, NoEnumerator}
use Rattle.pw_tree.specs.declared.expr.RecordKind.{RecordKind}
use Rattle.pw_parse_grammar.specs.declared.word.SpecifierWord.{SpecifierWord}
use Rattle.pw_parse_grammar.specs.declared.word.SpecifierWord.TheVariants.{Storage, Qualified, Basic, Record, Enum}
use Rattle.pw_parse_grammar.specs.Input.{Parser, ahead, turns, unless_comma}
use Rattle.pw_parse_grammar.specs.Parts.{Parts}
use Rattle.pw_parse_grammar.specs.Specifiers.{tag_by, tag, tagged_record, tagged_enum, specifiers_behind, closes_members, width, padding, named_member, member_declarator, member_declarators, member, members, record_specifier, enumerator, some_enumerators, enumerators, enum_specifier, specifier_at, specifier_by, specifier, specifiers_from, specifiers_of}
use Rattle.pw_parse_grammar.specs.Tests.{specifier_word}
use Rattle.pw_parse_grammar.proofs.Progress.Base.{Forward, ForwardParts, forward-rules, left-bind, one_or_more-left, unless_comma-left}
use Rattle.pw_parse_grammar.proofs.Progress.Expressions.{some_specifiers-left}

pub tag-by-left : (s : Option Symbol) → Forward (tag_by s)
tag-by-left (Some (Identifier x)) n i h = search forward-rules
tag-by-left None n i h = search forward-rules
tag-by-left (Some _) n i h = search forward-rules

pub tag-left : Forward tag
unfolding tag
tag-left n i h = tag-by-left (ahead i) n i h

pub tagged_record-left : (t : ℕ) (kind : RecordKind) (w : Option Word) → Forward (tagged_record t kind w)
tagged_record-left t kind None n i h = search forward-rules
tagged_record-left t kind (Some w) n i h = search forward-rules

pub tagged_enum-left : (t : ℕ) (w : Option Word) → Forward (tagged_enum t w)
tagged_enum-left t None n i h = search forward-rules
tagged_enum-left t (Some w) n i h = search forward-rules

pub closes_members-left : Forward closes_members
closes_members-left n i h = search forward-rules

pub specifiers_behind-left : (more : Bool → Parser Specifiers) → ((typed : Bool) → Forward (more typed)) → (typed : Bool) (x : Option (Specifiers → Specifiers)) → Forward (specifiers_behind more typed x)
specifiers_behind-left more g typed None n i h = search forward-rules
specifiers_behind-left more g typed (Some first) n i h = search (forward-rules, g)

module _ (parts : Parts) (part : ForwardParts parts) where
  pub width-left : Forward (width parts)
  unfolding width
  width-left n i h = search (forward-rules, part.expr)

  pub padding-left : Forward (padding parts)
  unfolding padding
  padding-left n i h = search (forward-rules, width-left)

  pub named_member-left : (typed : Bool) → Forward (named_member parts typed)
  unfolding named_member
  named_member-left typed n i h = search (forward-rules, part.declarator, width-left)

  pub member_declarator-left : (typed : Bool) → Forward (member_declarator parts typed)
  unfolding member_declarator
  member_declarator-left typed n i h = search (forward-rules, padding-left, named_member-left)

  pub member_declarators-left : (typed : Bool) → Forward (member_declarators parts typed)
  unfolding member_declarators
  member_declarators-left typed = one_or_more-left (member_declarator parts typed) (unless_comma NoMemberDeclarator) (member_declarator-left typed) (unless_comma-left NoMemberDeclarator)

  pub member-left : Forward (member parts)
  unfolding member
  member-left n i h = search (forward-rules, some_specifiers-left parts part, member_declarators-left)

  pub members-left : Forward (members parts)
  unfolding members
  members-left = one_or_more-left (member parts) closes_members member-left closes_members-left

  pub record_specifier-left : (kind : RecordKind) → Forward (record_specifier parts kind)
  unfolding record_specifier
  record_specifier-left kind n i h = search (forward-rules, tag-left, members-left, tagged_record-left) depth 9 fits 3000

  pub enumerator-left : Forward (enumerator parts)
  unfolding enumerator
  enumerator-left n i h = search (forward-rules, part.expr)

  pub some_enumerators-left : Forward (some_enumerators parts)
  unfolding some_enumerators
  some_enumerators-left = one_or_more-left (enumerator parts) (unless_comma NoEnumerator) enumerator-left (unless_comma-left NoEnumerator)

  pub enumerators-left : Forward (enumerators parts)
  unfolding enumerators
  enumerators-left n i h = search (forward-rules, some_enumerators-left)

  pub enum_specifier-left : Forward (enum_specifier parts)
  unfolding enum_specifier
  enum_specifier-left n i h = search (forward-rules, tag-left, enumerators-left, tagged_enum-left) depth 9 fits 3000

  pub specifier_at-left : (storage : Bool) (w : Option SpecifierWord) → Forward (specifier_at parts storage w)
  unfolding specifier_at
  specifier_at-left storage None n i h = search forward-rules
  specifier_at-left storage (Some (Storage c)) n i h = search forward-rules
  specifier_at-left storage (Some (Qualified q)) n i h = search forward-rules
  specifier_at-left storage (Some (Basic b)) n i h = search forward-rules
  specifier_at-left storage (Some (Record kind)) n i h = search (forward-rules, record_specifier-left)
  specifier_at-left storage (Some Enum) n i h = search (forward-rules, enum_specifier-left)

  pub specifier-by-left : (storage typed : Bool) (s : Option Symbol) → Forward (specifier_by parts storage typed s)
  specifier-by-left storage typed (Some (Reserved w)) n i h = specifier_at-left storage (specifier_word w) n i h
  specifier-by-left storage typed (Some (Identifier x)) n i h = search forward-rules
  specifier-by-left storage typed None n i h = search forward-rules
  specifier-by-left storage typed (Some _) n i h = search forward-rules

  pub specifier-left : (storage typed : Bool) → Forward (specifier parts storage typed)
  unfolding specifier
  specifier-left storage typed n i h = specifier-by-left storage typed (ahead i) n i h

  pub specifiers_from-left : (storage : Bool) (turns : ℕ) (typed : Bool) → Forward (specifiers_from parts storage turns typed)
  unfolding specifiers_from
  specifiers_from-left storage zero typed n i h = search forward-rules
  specifiers_from-left storage (suc k) typed n i h = left-bind (specifier-left storage typed n i h) (λ x j h. specifiers_behind-left (specifiers_from parts storage k) (specifiers_from-left storage k) typed x n j h)

  pub specifiers_of-left : (storage : Bool) → Forward (specifiers_of parts storage)
  unfolding specifiers_of
  specifiers_of-left storage n i h = specifiers_from-left storage (turns i) false n i h
