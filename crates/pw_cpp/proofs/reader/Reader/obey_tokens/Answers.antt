use Rattle.std.proofs.Common.{◌-◌, drop, length, refl, rules, take}
use Rattle.pw_cpp_sources.specs.Sources.{digits_of}
use Rattle.pw_cpp.proofs.Steps.{behind-first, hash-alone, long-hash, no-tokens, word-obeyed}
use Rattle.pw_cpp.proofs.reader.Reader.obey_tokens.Goals as goal

pub returns-in_default-clause-steps : goal.returns-in_default-clause-steps
returns-in_default-clause-steps c = no-tokens c.args.self.now c.args.self.now (record { source = refl; files = refl; spans = refl; file = refl; out = refl; size = refl }) digits_of c.args.hash c.args.name.now c.args.tokens.now c.faulty.result c.faulty.ensures c.in_default.len_below

pub returns-then-first-ne1-clause-steps : goal.returns-then-first-ne1-clause-steps
returns-then-first-ne1-clause-steps c =
    long-hash c.args.self.now c.args.self.now (record { source = refl; files = refl; spans = refl; file = refl; out = refl; size = refl }) digits_of c.args.hash c.args.name.now c.args.tokens.now c.faulty-then-first-ne1.result c.faulty-then-first-ne1.ensures _ c.in-len1-up.len_at_least c.if-first-ne1.true

pub returns-in_default-rest-clause-steps : goal.returns-in_default-rest-clause-steps
returns-in_default-rest-clause-steps c =
    hash-alone c.args.self.now c.args.self.now (record { source = refl; files = refl; spans = refl; file = refl; out = refl; size = refl }) digits_of c.args.hash c.args.name.now c.args.tokens.now _ (take (length c.args.tokens.now - 1) (drop 1 c.args.tokens.now)) (behind-first c.args.tokens.now) c.in-len1-up.len_at_least c.if-first-ne1.false c.in_default-rest.len_below refl refl

pub returns-clause-steps : goal.returns-clause-steps
returns-clause-steps c =
    word-obeyed c.args.self.now _ (record { source = refl; files = refl; spans = refl; file = refl; out = refl; size = refl }) digits_of c.args.hash c.args.name.now c.args.tokens.now _ (take (length c.args.tokens.now - 1) (drop 1 c.args.tokens.now)) (behind-first c.args.tokens.now) c.in-len1-up.len_at_least c.if-first-ne1.false _ (behind-first (take (length c.args.tokens.now - 1) (drop 1 c.args.tokens.now))) c.in-len1-up-rest.len_at_least
    c.obey.result (search (rules, c.obey.ensures.obeys, c.digits.ensures)) c.obey.ensures.kept
